use Rattle.vet_run.proofs.Rejecting.{rejected}
use Rattle.vet_run.proofs.rules_file.rules_of.Goals as goal

pub returns-in-Err-Unreadable-clause-rejected : goal.returns-in-Err-Unreadable-clause-rejected
returns-in-Err-Unreadable-clause-rejected c =
    let only = rw c.in-Err-Unreadable.field-0-is at c.in-Err-Unreadable.ensures.only in
    rejected c.args.text.now c.refusal.result (λ rs d. absurd (only rs d)) c.refusal.ensures
