use Rattle.std.proofs.Common.{rules, ◌∙◌}
use Rattle.vet_checks.proofs.Rows.{items_counted}
use Rattle.vet_checks.proofs.contents.item_count.Goals as goal

pub returns : goal.returns
returns c = (search rules) ∙ items_counted c.args.items.now.items
