use Rattle.std.proofs.Common.{rules, ◌∙◌}
use Rattle.vet_checks.proofs.Rows.{members_counted}
use Rattle.vet_checks.proofs.contents.member_count.Goals as goal

pub returns : goal.returns
returns c = (search rules) ∙ members_counted c.args.members.now.entries
