use Rattle.predicates_item.proofs.Memberships.{has_equal-first_of_equals, same_rearranged}
use Rattle.predicates.proofs.laws.rewriting.memberships.Goals as goal

pub returns-clause-rearranged : goal.returns-clause-rearranged
returns-clause-rearranged g c = λ sorted moved. (same_rearranged {eq = g.T.PartialEq.eq} moved).each c.args.item.now

pub returns-clause-first : goal.returns-clause-first
returns-clause-first g c = has_equal-first_of_equals g.met.T.Eq.laws c.args.item.now c.args.members.now
