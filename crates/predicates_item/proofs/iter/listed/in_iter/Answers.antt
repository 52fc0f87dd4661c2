use Rattle.predicates_item.proofs.GivenItems.{gives_collected}
use Rattle.predicates_item.proofs.iter.listed.in_iter.Goals as goal

pub returns-clause-items : goal.returns-clause-items
returns-clause-items g c =
    let ran = c.in_ok-members.ensures.ran in
    rw c.new.ensures.test (gives_collected ran.0 ran.1 ran.2 ran.3 tt ran.4.0)
