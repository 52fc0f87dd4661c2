use Rattle.std.proofs.Common.{sym, ap, ◌∙◌, false}
use Rattle.std.specs.Option.{unwrap_or}
use Rattle.predicates_core.proofs.Leaves.{HasTruth-exactly}
use Rattle.vet_checks.proofs.path_test.PathTest.holds_in.Goals as goal

pub returns : goal.returns
returns c = HasTruth-exactly (sym (c.unwrap_or.ensures ∙ ap (λ answer. unwrap_or answer false) c.in_ok-answer.ensures))
