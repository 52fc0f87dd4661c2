use Rattle.std.proofs.Common.{rules, arith, ◌≡◌, string_bytes}
use Rattle.std.specs.Str.{chars}
use Rattle.std.proofs.lemmas.Str.{IsUtf8-string_bytes}
use Rattle.predicates_text.specs.Views.{trimmed}
use Rattle.predicates_text.specs.ViewTexts.{view_is}
use Rattle.predicates_text.proofs.Trimming.{trim_of_length, trim_of_copy}
use Rattle.predicates_text.proofs.AlreadyTrimmed.{bare_text}
use Rattle.predicates_text.proofs.views.trimmed_view.Goals as goal

pub returns-then-is_ascii_graphic-2 : goal.returns-then-is_ascii_graphic-2
returns-then-is_ascii_graphic-2 c =
    let same = bare_text (string_bytes c.args.text.now) _ c.as_bytes.ensures.value (IsUtf8-string_bytes c.args.text.now) (omega (arith, c.in-len2-up.len_at_least)) c.if-is_ascii_graphic.ensures.cases c.if-is_ascii_graphic-2.ensures.cases in
    record { view = same; bytes = view_is trimmed c.args.text.now c.args.text.now same }

pub returns-then-rest-whole : goal.returns-then-rest-whole
returns-then-rest-whole c =
    let text = c.as_str-whole.result.now in
    let known : chars text ≡ trimmed (chars text) = search (rules, trim_of_length) in
    let same = rw c.as_str-whole.ensures.value at known in
    record { view = same; bytes = view_is trimmed c.args.text.now c.args.text.now same }

pub returns : goal.returns
returns c =
    let text = c.as_str-whole.result.now in
    let copy = c.in_ok-copy.field-0 in
    let known : chars (string_bytes copy) ≡ trimmed (chars text) = search (rules, trim_of_copy) in
    let same = rw c.as_str-whole.ensures.value at known in
    record { view = same; bytes = view_is trimmed c.args.text.now copy same }
