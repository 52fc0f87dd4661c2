use Rattle.std.proofs.Common.{arith}
use Rattle.vet_rules.proofs.Laying.{has_some}
use Rattle.vet_rules.proofs.display.expression.are_loose.Goals as goal

pub returns-in-len1-up : goal.returns-in-len1-up
returns-in-len1-up c = rw (has_some c.args.parts.now (omega (arith, c.in-len1-up.len_at_least))) c.is_loose.ensures
