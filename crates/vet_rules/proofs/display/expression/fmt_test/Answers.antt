use Rattle.vet_rules.proofs.Laying.{then_ok}
use Rattle.vet_rules.proofs.display.expression.fmt_test.Goals as goal

pub returns : goal.returns
returns g c = then_ok _ _ c.fmt_condition.result c.in_ok-next.ensures c.fmt_condition.ensures
