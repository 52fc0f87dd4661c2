use Rattle.std.proofs.Common.{rules}
use Rattle.vet_run.specs.Sums.{sum_of}
use Rattle.vet_run.proofs.Sums.{plus_is, whole_counted}
use Rattle.vet_run.proofs.summary.Summary.plus.Goals as goal

pub returns-clause-whole : goal.returns-clause-whole
returns-clause-whole c =
    whole_counted (sum_of c.args.self) (sum_of c.args.other.now) (sum_of (record { counts = c.in-Some.counts; rules = c.add_counts.new.rules }))
    (search (rules, plus_is))
