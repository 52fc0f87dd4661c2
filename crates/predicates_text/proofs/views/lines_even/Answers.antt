use Rattle.std.specs.Prelude.{All}
use Rattle.std.proofs.Common.{◌≡◌, ◌≢◌, sym, subst, ◌++◌, ◌∷◌, [], ◌∙◌, ap, string_bytes}
use Rattle.std.specs.Str.{chars}
use Rattle.std.proofs.lemmas.Str.{IsUtf8-string_bytes, chars-nil}
use Rattle.predicates_text.specs.Views.{lines_even}
use Rattle.predicates_text.proofs.LineEndings.{line_turn, line_end, lines_even-lacks, lines_even_twice, IsLineTurn}
use Rattle.predicates_text.proofs.views.lines_even.Goals as goal

pub loop-line-init : goal.loop-line-init
loop-line-init c =
    (c.utf8.text, ap (λ l. chars l ++ lines_even (chars c.args.text.now)) c.in_ok-even.ensures.bytes ∙ ap (λ l. l ++ lines_even (chars c.args.text.now)) chars-nil)

pub loop-line-preserved : goal.loop-line-preserved
loop-line-preserved c =
    let written : string_bytes c.push_str-in-Some.new.self ≡ (string_bytes c.loop-line.even ++ c.in-Some.line.now) ++ (10 ∷ []) =
    c.in_ok-push_str-2.ensures.bytes ∙ ap (λ l. l ++ (10 ∷ [])) c.in_ok-push_str.ensures.bytes in
    let next : IsLineTurn (string_bytes c.loop-line.even) c.loop-line.rest.now (string_bytes c.push_str-in-Some.new.self) c.unwrap_or-rest.result.now =
    line_turn (string_bytes c.loop-line.even) c.loop-line.rest.now c.in-Some.line.now (string_bytes c.push_str-in-Some.new.self) c.in-Some.after c.unwrap_or-rest.result c.strip_prefix.result
    (IsUtf8-string_bytes c.loop-line.even) c.loop-line.invariant.0 c.in-Some.ensures.cases written c.unwrap_or-rest.ensures c.strip_prefix.ensures.cases in
    (next.text, next.keeps ∙ c.loop-line.invariant.1)

pub returns : goal.returns
returns c =
    let view : chars (string_bytes c.push_str-2.new.self) ≡ lines_even (chars c.args.text.now) =
    line_end (string_bytes c.loop-line.even) c.loop-line.rest.now (string_bytes c.push_str-2.new.self)
    (IsUtf8-string_bytes c.loop-line.even) c.loop-line.invariant.0 c.in_default.ensures.cases c.in_ok-push_str-3.ensures.bytes
    ∙ c.loop-line.invariant.1 in
    record {
      view = view;
      no_return = subst (All (λ ch. ch ≢ 13)) (sym view) (lines_even-lacks (chars c.args.text.now));
      again = ap lines_even view ∙ lines_even_twice (chars c.args.text.now) ∙ sym view;
    }
