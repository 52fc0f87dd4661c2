use Rattle.vet_rules.specs.Printing.{written_sign}
use Rattle.vet_rules.proofs.Laying.{token_laid}
use Rattle.vet_rules.proofs.layout.fmt_token.Goals as goal

pub returns : goal.returns
returns g c = rw c.opens.ensures (token_laid c.args.f.now c.fmt_gap.new.f c.write.new.self c.args.at_once (written_sign c.args.token) c.in_ok-fmt_gap.ensures c.in_ok-write.ensures.writes)
