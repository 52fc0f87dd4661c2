use Rattle.std.proofs.Common.{sym, ap, ◌∙◌}
use Rattle.predicates_core.specs.Asked.{is_other}
use Rattle.predicates_core.proofs.Leaves.{IsCaseOf-showing_both, HasTruth-exactly, other_leaf}
use Rattle.predicates_core.proofs.Found.{case_wanted}
use Rattle.predicates_item.proofs.Referred.{none_lack_there, showing_referred}
use Rattle.predicates_item.proofs.iter.multiset.SameMembersPredicatePredicateVec.explain.Goals as goal

pub returns-then-is_other : goal.returns-then-is_other
returns-then-is_other g c =
    let missing = rw c.as_slice.ensures.value at (rw c.as_slice-2.ensures.value at c.in_ok-found.ensures.missing) in
    let extra = rw c.as_slice.ensures.value at (rw c.as_slice-2.ensures.value at c.in_ok-found.ensures.extra) in
    let holds = c.are_none-holds.ensures ∙ none_lack_there g.met.T.Eq.laws g.T.Ord.cmp c.args.self.now.members.items c.args.item.now.items c.in_ok-found.found.missing.items c.in_ok-found.found.extra.items missing extra in
    other_leaf _ _ c.args.wanted (ap (is_other c.args.wanted) (sym holds) ∙ sym c.is_other.ensures ∙ c.if-is_other.true)

pub returns : goal.returns
returns g c =
    let missing = rw c.as_slice.ensures.value at (rw c.as_slice-2.ensures.value at c.in_ok-found.ensures.missing) in
    let extra = rw c.as_slice.ensures.value at (rw c.as_slice-2.ensures.value at c.in_ok-found.ensures.extra) in
    let holds = c.are_none-holds.ensures ∙ none_lack_there g.met.T.Eq.laws g.T.Ord.cmp c.args.self.now.members.items c.args.item.now.items c.in_ok-found.found.missing.items c.in_ok-found.found.extra.items missing extra in
    let shown = showing_referred g.T.Debug.debug_output c.in_ok-found.found.missing.items missing (rw c.as_slice-3.ensures.value at c.in_ok-missing.ensures) c.in_ok-case.ensures in
    let shown_both = showing_referred g.T.Debug.debug_output c.in_ok-found.found.extra.items extra (rw c.as_slice-4.ensures.value at c.in_ok-extra.ensures) c.in_ok-showing.ensures in
    case_wanted c.args.wanted (IsCaseOf-showing_both shown shown_both c.leaf_node-case.ensures c.in_ok-printed.ensures (HasTruth-exactly (sym holds))) (sym c.is_other.ensures ∙ c.if-is_other.false)
