use Rattle.std.proofs.Common.{rules, ◌∙◌}
use Rattle.vet_checks.proofs.Rows.{no_items_are}
use Rattle.vet_checks.proofs.contents.has_no_item.Goals as goal

pub returns : goal.returns
returns c = (search rules) ∙ no_items_are c.args.items.now.items
