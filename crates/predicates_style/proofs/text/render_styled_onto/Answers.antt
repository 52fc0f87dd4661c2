use Rattle.std.proofs.lemmas.Result.{on_ok_weaker}
use Rattle.predicates_style.proofs.Plain.{plain_written}
use Rattle.predicates_style.proofs.text.render_styled_onto.Goals as goal

pub returns-clause-plain : goal.returns-clause-plain
returns-clause-plain c = λ h.
    on_ok_weaker c.write_case.result (λ e. plain_written c.args.style.now c.root.result c.args.case.now _ _ h c.root.ensures.value e) c.write_case.ensures
