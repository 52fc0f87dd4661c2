use Rattle.std.specs.BTreeSet.{contains_text}
use Rattle.vet_checks.proofs.OtherKeys.{other_of_members}
use Rattle.vet_checks.proofs.keys.other_of.Goals as goal

pub returns : goal.returns
returns c = other_of_members (contains_text c.args.allowed.now) c.args.members.now.entries c.key_beside.result c.key_beside.ensures
