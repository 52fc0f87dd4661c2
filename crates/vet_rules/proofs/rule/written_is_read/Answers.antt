use Rattle.vet_rules.specs.Grammar.{Whole}
use Rattle.vet_rules.proofs.Spaced.{printed_says}
use Rattle.vet_rules.proofs.Said.{said_again, denied_nests}
use Rattle.vet_rules.proofs.rule.written_is_read.Goals as goal

pub returns-clause-made : goal.returns-clause-made
returns-clause-made c = printed_says

pub returns-clause-said : goal.returns-clause-said
returns-clause-said c = said_again

pub returns-clause-denied : goal.returns-clause-denied
returns-clause-denied c = denied_nests Whole Whole
