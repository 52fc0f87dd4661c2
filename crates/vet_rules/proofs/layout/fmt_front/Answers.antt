use Rattle.vet_rules.proofs.Laying.{none_laid, front_some}
use Rattle.vet_rules.proofs.layout.fmt_front.Goals as goal

pub returns-then-index-eq0 : goal.returns-then-index-eq0
returns-then-index-eq0 g c = rw c.if-index-eq0.true (none_laid c.args.f.now c.args.at_once)

pub returns : goal.returns
returns g c = rw (front_some c.args.word c.args.index c.if-index-eq0.false) c.fmt_token.ensures
