use Rattle.vet_rules.proofs.Readings.{left_is}
use Rattle.vet_rules.proofs.reader.bytes_left.Goals as goal

pub returns : goal.returns
returns c = rw (c.first_of.ensures, c.behind.ensures, c.saturating_sub.ensures) (left_is c.args.tokens.now c.args.left)
