use Rattle.std.proofs.Common.{◌≡◌, ◌+◌, length, [], ◌∷◌, ◌++◌, arith}
use Rattle.std.specs.Str.{chars}
use Rattle.std.proofs.lemmas.Iterator.{YieldsList-from_chars}
use Rattle.std.proofs.lemmas.Iterator.Consumers.{YieldsList-turn, YieldsList-end}
use Rattle.std.proofs.lemmas.List.{length-append}
use Rattle.vet_rules.specs.Quoting.{character_text}
use Rattle.vet_rules.proofs.Quotation.{none_shown, more_shown, rest_cut, all_shown}
use Rattle.vet_rules.proofs.quoted.fmt_text.Goals as goal

pub loop-character-init : goal.loop-character-init
loop-character-init g c = none_shown g.W.Write.write_str_gives character_text (chars c.args.text.now) c.args.most c.args.f.now

pub loop-character-preserved : goal.loop-character-preserved
loop-character-preserved g c =
    let turn = YieldsList-turn (YieldsList-from_chars c.args.text.now c.utf8.text cc) c.loop-character.yielded _ c.loop-character.yielded_by _ _ c.in-Some.character c.in-Some.is c.next.ensures.steps in
    let one : length (c.loop-character.yielded ++ c.in-Some.character ∷ []) ≡ length c.loop-character.yielded + 1 = length-append c.loop-character.yielded (c.in-Some.character ∷ []) in
    rw one
    (more_shown g.W.Write.write_str_gives character_text (chars c.args.text.now) c.args.most c.args.f.now c.loop-character.f c.fmt_character.new.f (length c.loop-character.yielded) c.loop-character.left c.in-Some.character c.in-Some.character
    turn.0 turn.1 (omega arith) c.loop-character.invariant c.in_ok-fmt_character.ensures)

pub returns-then-left-eq0 : goal.returns-then-left-eq0
returns-then-left-eq0 g c =
    let turn = YieldsList-turn (YieldsList-from_chars c.args.text.now c.utf8.text cc) c.loop-character.yielded _ c.loop-character.yielded_by _ _ c.in-Some.character c.in-Some.is c.next.ensures.steps in
    rest_cut g.W.Write.write_str_gives character_text (chars c.args.text.now) c.args.most c.args.f.now c.loop-character.f c.write_str.new.self (length c.loop-character.yielded) c.in-Some.character
    turn.0 (rw c.if-left-eq0.true at c.loop-character.invariant) c.in_ok-write_str.ensures.writes

pub returns : goal.returns
returns g c =
    let end = YieldsList-end (YieldsList-from_chars c.args.text.now c.utf8.text cc) c.loop-character.yielded _ c.loop-character.yielded_by _ _ c.in-None.is c.next.ensures.steps in
    all_shown g.W.Write.write_str_gives character_text (chars c.args.text.now) c.args.most c.args.f.now c.loop-character.f (length c.loop-character.yielded) c.loop-character.left (omega (arith, end.1)) c.loop-character.invariant
