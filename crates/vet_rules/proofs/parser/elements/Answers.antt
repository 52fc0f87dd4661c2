use Rattle.std.proofs.Common.{◌≡◌, ◌++◌, ◌∷◌, [], map, length, arith, sym}
use Rattle.std.proofs.lemmas.Result.{err_from_is_err_and}
use Rattle.std.proofs.lemmas.List.{map_push}
use Rattle.vet_rules.specs.declared.fixed.Fixed.TheVariants.{Comma}
use Rattle.vet_rules.specs.Signs.{signs}
use Rattle.vet_rules.specs.Reading.{one_at, parts_at}
use Rattle.vet_rules.proofs.Loop.{one_shortens}
use Rattle.vet_rules.proofs.Parts.{starts, goes_on, is_done, no_part, next_shortens}
use Rattle.vet_rules.proofs.parser.elements.Goals as goal

pub loop-rest-init : goal.loop-rest-init
loop-rest-init g c = rw c.new-elements.ensures.items (starts Comma (one_at g.T.Element.seen g.T.Element.expected) (signs c.args.tokens.now))

pub returns-in_err-element : goal.returns-in_err-element
returns-in_err-element g c =
    let p = err_from_is_err_and c.from_residual.result c.from_residual.ensures.1 in
    rw (p.1, p.2)
    (no_part Comma (one_at g.T.Element.seen g.T.Element.expected) c.in_err-element.field-0.0 (map g.T.Element.value c.loop-rest.elements.items) (signs c.loop-rest.left.now) (signs c.in-Some.rest.now)
    (parts_at (length (signs c.args.tokens.now)) Comma (one_at g.T.Element.seen g.T.Element.expected) (signs c.args.tokens.now)) (sym c.in-Some.ensures) c.in_err-element.ensures c.loop-rest.invariant)

pub loop-rest-smaller : goal.loop-rest-smaller
loop-rest-smaller g c =
    let shorter = next_shortens Comma (signs c.loop-rest.left.now) (signs c.in-Some.rest.now) (sym c.in-Some.ensures) in
    let part = one_shortens g.T.Element.seen g.T.Element.expected (signs c.in-Some.rest.now) (g.T.Element.value c.in_ok-element.element, signs c.in_ok-element.rest.now) c.in_ok-element.ensures in
    omega (arith, shorter, part)

pub loop-rest-preserved : goal.loop-rest-preserved
loop-rest-preserved g c =
    let e : map g.T.Element.value c.push.new.self.items ≡ map g.T.Element.value c.loop-rest.elements.items ++ g.T.Element.value c.in_ok-element.element ∷ [] = rw c.in_ok-push.ensures.items (map_push _ c.loop-rest.elements.items c.in_ok-element.element) in
    let part = one_shortens g.T.Element.seen g.T.Element.expected (signs c.in-Some.rest.now) (g.T.Element.value c.in_ok-element.element, signs c.in_ok-element.rest.now) c.in_ok-element.ensures in
    rw e
    (goes_on Comma (one_at g.T.Element.seen g.T.Element.expected) (map g.T.Element.value c.loop-rest.elements.items) (signs c.loop-rest.left.now) (signs c.in-Some.rest.now) (signs c.in_ok-element.rest.now) (g.T.Element.value c.in_ok-element.element)
    (parts_at (length (signs c.args.tokens.now)) Comma (one_at g.T.Element.seen g.T.Element.expected) (signs c.args.tokens.now)) (sym c.in-Some.ensures) c.in_ok-element.ensures part c.loop-rest.invariant)

pub returns : goal.returns
returns g c =
    is_done Comma (one_at g.T.Element.seen g.T.Element.expected) (map g.T.Element.value c.loop-rest.elements.items) (signs c.loop-rest.left.now)
    (parts_at (length (signs c.args.tokens.now)) Comma (one_at g.T.Element.seen g.T.Element.expected) (signs c.args.tokens.now)) (sym c.in_default.ensures) c.loop-rest.invariant
