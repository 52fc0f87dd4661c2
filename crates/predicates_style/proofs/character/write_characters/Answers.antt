use Rattle.std.proofs.Common.{◌++◌, ◌∙◌, ap, sym, map-id, string_bytes}
use Rattle.std.proofs.lemmas.Iterator.{YieldsList-from_chars, YieldsList-from_take}
use Rattle.std.proofs.lemmas.Iterator.Consumers.{YieldsList-end}
use Rattle.predicates_style.specs.Characters.{written_characters}
use Rattle.predicates_style.proofs.character.write_characters.Goals as goal

pub returns : goal.returns
returns c =
    let first = YieldsList-from_take c.args.most (YieldsList-from_chars c.args.text.now c.utf8.text cc) cc in
    let done = YieldsList-end first c.loop-c.yielded _ c.loop-c.yielded_by _ _ c.in-None.is c.next.ensures.steps in
    c.loop-c.invariant ∙ ap (λ cs. string_bytes c.args.out.now ++ written_characters c.args.escapes cs) (sym (map-id c.loop-c.yielded) ∙ done.0)
