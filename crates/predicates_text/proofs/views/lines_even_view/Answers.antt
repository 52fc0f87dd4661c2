use Rattle.predicates_text.specs.Views.{lines_even}
use Rattle.predicates_text.specs.ViewTexts.{view_is}
use Rattle.predicates_text.proofs.LineEndings.{even_without_return}
use Rattle.predicates_text.proofs.views.lines_even_view.Goals as goal

pub returns-in_default : goal.returns-in_default
returns-in_default c =
    let known = even_without_return c.deref.result.now c.deref.utf8 c.in_default.ensures.cases in
    let same = rw c.deref.ensures at known in
    record { view = same; bytes = view_is lines_even c.args.text.now c.args.text.now same }

pub returns : goal.returns
returns c =
    let same = rw c.deref-2.ensures at c.in_ok-copy.ensures.view in
    record { view = same; bytes = view_is lines_even c.args.text.now c.in_ok-copy.field-0 same }
