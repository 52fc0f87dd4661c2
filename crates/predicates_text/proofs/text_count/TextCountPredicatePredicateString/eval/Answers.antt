use Rattle.std.proofs.Common.{sym, ap, nat_eq, string_bytes}
use Rattle.predicates_core.proofs.Fewer.{truth_of_fewer}
use Rattle.predicates_core.proofs.Leaves.{HasTruth-exactly}
use Rattle.predicates_text.proofs.text_count.TextCountPredicatePredicateString.eval.Goals as goal

pub returns-clause-truth : goal.returns-clause-truth
returns-clause-truth g c =
    let self = c.args.self.now in
    let actual = rw c.deref.ensures at c.in_ok-number_in.ensures.number in
    truth_of_fewer (λ f. (g.met.T.TextCount.is_leaf self.counted self.count (string_bytes c.args.item.now) f).0)
    (HasTruth-exactly (sym (ap (λ n. nat_eq n self.count) actual)))
