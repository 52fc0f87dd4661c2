use Rattle.std.proofs.Common.{rules, ◌∙◌}
use Rattle.vet_checks.proofs.Rows.{no_members_are}
use Rattle.vet_checks.proofs.contents.has_no_member.Goals as goal

pub returns : goal.returns
returns c = (search rules) ∙ no_members_are c.args.members.now.entries
