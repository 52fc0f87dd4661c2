use Rattle.std.proofs.Common.{◌≡◌, ◌∙◌, sym, ap, map-id, Some, Ok, List, ℕ, subst}
use Rattle.std.specs.List.{flat_map}
use Rattle.std.specs.Char.{encode_utf8}
use Rattle.std.specs.Fmt.{DisplaysOnOk}
use Rattle.std.proofs.lemmas.Iterator.{YieldsList-from_chars}
use Rattle.std.proofs.lemmas.Iterator.Consumers.{YieldsList-end}
use Rattle.json.specs.Print.{escape}
use Rattle.vet_rules.proofs.Escaped.{all_escaped}
use Rattle.vet_rules.proofs.Laying.{nothing_written, one_more}
use Rattle.vet_rules.proofs.display.literal.fmt_characters.Goals as goal

pub loop-c-init : goal.loop-c-init
loop-c-init g c = nothing_written c.args.f.now

pub loop-c-preserved : goal.loop-c-preserved
loop-c-preserved g c = one_more (λ (x : ℕ). escape (encode_utf8 x)) c.loop-c.yielded c.in-Some.c c.args.f.now c.loop-c.f c.fmt_character.new.f c.loop-c.invariant c.in_ok-fmt_character.ensures

pub returns : goal.returns
returns g c =
    let done = YieldsList-end (YieldsList-from_chars c.args.text.now c.utf8.text cc) c.loop-c.yielded _ c.loop-c.yielded_by _ _ c.in-None.is c.next.ensures.steps in
    let e : flat_map (λ (x : ℕ). escape (encode_utf8 x)) c.loop-c.yielded ≡ escape c.args.text.now = ap (flat_map (λ (x : ℕ). escape (encode_utf8 x))) (sym (map-id c.loop-c.yielded) ∙ done.0) ∙ all_escaped c.args.text.now c.utf8.text in
    subst (λ (w : List ℕ). DisplaysOnOk g.W.Write.write_str_gives c.args.f.now (Ok tt) (Some w) c.loop-c.f) e c.loop-c.invariant
