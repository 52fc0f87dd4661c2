use Rattle.std.proofs.Common.{◌≡◌, sym}
use Rattle.std.specs.Str.{chars}
use Rattle.caseless.specs.Caseless.{default_case_fold}
use Rattle.predicates_text.specs.ViewTexts.{view_is}
use Rattle.predicates_text.proofs.views.case_folded_view.Goals as goal

pub returns-then-is_case_folded-clause-bytes : goal.returns-then-is_case_folded-clause-bytes
returns-then-is_case_folded-clause-bytes c =
    let text = c.deref.result.now in
    let known : chars text ≡ default_case_fold (chars text) = sym (c.is_case_folded.ensures.0 c.if-is_case_folded.true) in
    let same = rw c.deref.ensures at known in
    view_is default_case_fold c.args.text.now c.args.text.now same

pub returns-clause-bytes : goal.returns-clause-bytes
returns-clause-bytes c =
    let same = rw c.deref-2.ensures at c.in_ok-copy.ensures.view in
    view_is default_case_fold c.args.text.now c.in_ok-copy.field-0 same
