use Rattle.std.proofs.Common.{◌≡◌, ◌∙◌, sym, ap, map-id, ℕ, Some, Ok, subst, arith}
use Rattle.std.specs.Char.Escape.{escape_default}
use Rattle.std.specs.Str.{encode_utf8_all}
use Rattle.std.specs.Fmt.{DisplaysOnOk}
use Rattle.std.specs.Char.Iter.{escape_rest, escape_steps}
use Rattle.std.proofs.lemmas.Iterator.Consumers.{YieldsList-from_shown, YieldsList-end}
use Rattle.std.proofs.lemmas.List.{length-take}
use Rattle.std.proofs.lemmas.Bool.{ne_eqb}
use Rattle.vet_rules.specs.Quoting.{escape_text}
use Rattle.vet_rules.proofs.Quotation.{one_part}
use Rattle.vet_rules.proofs.quoted.fmt_escaped.Goals as goal

pub loop-part-preserved : goal.loop-part-preserved
loop-part-preserved g c = one_part g.W.Write.write_str_gives c.args.f.now c.loop-part.f c.write_char.new.self c.loop-part.yielded c.in-Some.part c.loop-part.invariant c.in_ok-write_char.ensures.writes

pub returns : goal.returns
returns g c =
    let road = YieldsList-from_shown escape_steps (λ (x : ℕ). x) escape_rest (λ s t h. simp length-take (omega (arith, h.1.0))) (λ s x t h. h.1.0) c.into_iter-part-iterator.result in
    let end = YieldsList-end road c.loop-part.yielded _ c.loop-part.yielded_by _ _ c.in-None.is c.next.ensures.steps in
    let e : escape_default c.args.character ≡ c.loop-part.yielded = sym c.escape_default-part-items.ensures.rest ∙ ap escape_rest (sym c.into_iter-part-iterator.ensures.into_iter_gives) ∙ sym (sym (map-id c.loop-part.yielded) ∙ end.0) in
    let is : encode_utf8_all c.loop-part.yielded ≡ escape_text c.args.character = rw (ne_eqb c.args.character 0 (λ z. omega arith)) (ap encode_utf8_all (sym e)) in
    subst (λ w. DisplaysOnOk g.W.Write.write_str_gives c.args.f.now (Ok tt) (Some w) c.loop-part.f) is c.loop-part.invariant
