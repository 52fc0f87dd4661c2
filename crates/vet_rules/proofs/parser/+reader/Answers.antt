use Rattle.std.proofs.Common.{◌≡◌, ◌++◌, ◌∷◌, [], map, length, ap, arith, sym}
use Rattle.std.proofs.lemmas.Result.{err_from_is_err_and}
use Rattle.std.proofs.lemmas.List.{map_push}
use Rattle.vet_rules.specs.Signs.{signs}
use Rattle.vet_rules.specs.Trees.{tree_of}
use Rattle.vet_rules.specs.Grammar.{separator_word}
use Rattle.vet_rules.specs.Levels.{level_of}
use Rattle.vet_rules.specs.Reading.{part_at, below, parts_at}
use Rattle.vet_rules.proofs.Heights.{lower, row_height}
use Rattle.vet_rules.proofs.Parts.{goes_on, is_done, no_part, next_shortens}
use Rattle.vet_rules.proofs.Sound.{part_shortens}
use Rattle.vet_rules.proofs.parser.+reader.Goals as goal

pub part-at_grip-requires : goal.part-at_grip-requires
part-at_grip-requires t c =
    (omega (arith, ap row_height c.in-Connective.is, lower c.in-Connective.connective (level_of c.next_tighter.result) c.next_tighter.ensures), tt)

pub others-returns-in_err-part : goal.others-returns-in_err-part
others-returns-in_err-part t c =
    let p = err_from_is_err_and c.from_residual.result c.from_residual.ensures.1 in
    rw (p.1, p.2)
    (no_part (separator_word c.args.separator) (part_at (below c.args.depth) c.args.separator) c.in_err-part.field-0.0 (map tree_of c.loop-rest.parts.items) (signs c.loop-rest.left.now) (signs c.in-Some.rest.now)
    (parts_at (length (signs c.args.tokens.now)) (separator_word c.args.separator) (part_at (below c.args.depth) c.args.separator) (signs c.args.tokens.now)) (sym (rw c.separator_word.ensures at c.in-Some.ensures)) c.in_err-part.ensures c.loop-rest.invariant)

pub others-loop-rest-smaller : goal.others-loop-rest-smaller
others-loop-rest-smaller t c =
    let shorter = next_shortens (separator_word c.args.separator) (signs c.loop-rest.left.now) (signs c.in-Some.rest.now) (sym (rw c.separator_word.ensures at c.in-Some.ensures)) in
    let part = part_shortens c.args.depth c.args.separator (signs c.in-Some.rest.now) (tree_of c.in_ok-part.part, signs c.in_ok-part.rest.now) c.in_ok-part.ensures in
    omega (arith, shorter, part)

pub others-loop-rest-preserved : goal.others-loop-rest-preserved
others-loop-rest-preserved t c =
    let e : map tree_of c.push.new.self.items ≡ map tree_of c.loop-rest.parts.items ++ tree_of c.in_ok-part.part ∷ [] = rw c.in_ok-push.ensures.items (map_push _ c.loop-rest.parts.items c.in_ok-part.part) in
    let part = part_shortens c.args.depth c.args.separator (signs c.in-Some.rest.now) (tree_of c.in_ok-part.part, signs c.in_ok-part.rest.now) c.in_ok-part.ensures in
    rw e
    (goes_on (separator_word c.args.separator) (part_at (below c.args.depth) c.args.separator) (map tree_of c.loop-rest.parts.items) (signs c.loop-rest.left.now) (signs c.in-Some.rest.now) (signs c.in_ok-part.rest.now) (tree_of c.in_ok-part.part)
    (parts_at (length (signs c.args.tokens.now)) (separator_word c.args.separator) (part_at (below c.args.depth) c.args.separator) (signs c.args.tokens.now)) (sym (rw c.separator_word.ensures at c.in-Some.ensures)) c.in_ok-part.ensures part c.loop-rest.invariant)

pub others-returns : goal.others-returns
others-returns t c =
    is_done (separator_word c.args.separator) (part_at (below c.args.depth) c.args.separator) (map tree_of c.loop-rest.parts.items) (signs c.loop-rest.left.now)
    (parts_at (length (signs c.args.tokens.now)) (separator_word c.args.separator) (part_at (below c.args.depth) c.args.separator) (signs c.args.tokens.now)) (sym (rw c.separator_word.ensures at c.in_default.ensures)) c.loop-rest.invariant
