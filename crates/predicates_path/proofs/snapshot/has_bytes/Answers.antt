use Rattle.std.proofs.Common.{rules}
use Rattle.predicates_path.proofs.snapshot.has_bytes.Goals as goal

pub returns : goal.returns
returns c = search rules
