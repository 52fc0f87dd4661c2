use Rattle.vet_rules.proofs.Laying.{then_ok}
use Rattle.vet_rules.proofs.display.condition.fmt_among.Goals as goal

pub returns : goal.returns
returns g c = then_ok _ _ c.fmt_token.result c.in_ok-next.ensures (then_ok _ _ c.fmt_token.result c.in_ok-next-2.ensures c.fmt_token.ensures)
