use Rattle.vet_run.proofs.Rejecting.{rejected, no_checks}
use Rattle.vet_run.proofs.rules_file.read_checks.Goals as goal

pub returns-in-Err-Pattern-clause-rejected : goal.returns-in-Err-Pattern-clause-rejected
returns-in-Err-Pattern-clause-rejected c =
    rejected c.args.text.now c.refusal.result (no_checks c.args.text.now c.in_ok-rules.rules.items c.in-Err-Pattern.field-0 c.in_ok-rules.ensures.only c.in-Err-Pattern._first c.in-Err-Pattern.field-0-is c.in-Err-Pattern.ensures.refused) c.refusal.ensures
