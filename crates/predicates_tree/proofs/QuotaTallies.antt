-- A tally of several of which as many have to hold, by its quota.
use Rattle.std.proofs.Common.{◌≡◌, ℕ, ◌+◌, ◌<◌, ◌≤◌, Bool, List, Option, Result, Ok, Err, IfOk, length, take, get_or, refl, sym, ap, arith, inr}
use Rattle.std.proofs.lemmas.List.{length-take-le}
use Rattle.predicates_core.specs.Formula.{Formula}
use Rattle.predicates_core.specs.Tree.{Tree}
use Rattle.predicates_core.specs.Describe.{CaseNode}
use Rattle.predicates_core.specs.Label.{Entry}
use Rattle.predicates_core.specs.Shows.{IsFoundBy}
use Rattle.predicates_core.specs.Tally.{kind_of, IsAsked, IsTallyOf}
use Rattle.predicates_core.specs.declared.custom.tally.Sought.{Sought}
use Rattle.predicates_core.proofs.Fewer.{fewer_found_of}
use Rattle.predicates_core.proofs.Tallies.{tally_none, tally_next, tally_full, tally_answer}
use Rattle.predicates_tree.specs.declared.quota.Quota.{Quota}
use Rattle.predicates_tree.specs.declared.quota.Quota.TheVariants as quotas
use Rattle.predicates_tree.specs.declared.quota_tally.QuotaTally.{QuotaTally}
use Rattle.predicates_tree.specs.declared.quota_tally.QuotaTally.TheVariants.{Threshold, Odd}
use Rattle.predicates_tree.specs.QuotaTallies.{Starts, IsOver, IsOpenFor, HasRoom, quota_asks, TakesPart, QuotaAnswers}
use Rattle.predicates_tree.specs.Questions.{sought_by}
use Rattle.predicates_tree.specs.Quotas.{IsOfQuota}
use Rattle.predicates_tree.proofs.Counted.{counted_within, of_threshold}
use Rattle.predicates_tree.proofs.OddRows.{IsOddOf, odd_none, odd_next, odd_found}

-- the tally of the first k of all
abbrev pub IsTallyBy : {U : Type 0} → Quota → Sought → Entry → List ℕ → (U → Formula → Type 0) → List U → ℕ → QuotaTally → Type 0
IsTallyBy (quotas.Threshold many) s text name has us k (Threshold t) = IsTallyOf s text name has (take k us) t
IsTallyBy (quotas.Threshold many) s text name has us k (Odd t) = ⊥
IsTallyBy quotas.Odd s text name has us k (Threshold t) = ⊥
IsTallyBy quotas.Odd s text name has us k (Odd t) = IsOddOf s name has us k t

module _ {U : Type 0} (has : U → Formula → Type 0) (text : Entry) (name : List ℕ) (us : List U) where
  pub starts : (q : Quota) (s : Sought) (t : QuotaTally) → Starts q s t → IsTallyBy q s text name has us 0 t
  starts (quotas.Threshold many) s (Threshold t) h = tally_none has s text name t h.0 h.1 (h.2 text name)
  starts (quotas.Threshold many) s (Odd t) h = absurd h
  starts quotas.Odd s (Threshold t) h = absurd h
  starts quotas.Odd s (Odd t) h = odd_none s name has us t h

  -- there is room for one more
  pub has_room : (q : Quota) (s : Sought) (k : ℕ) (t : QuotaTally) → s.number ≡ length us → k < length us → IsOpenFor t → IsTallyBy q s text name has us k t → HasRoom t
  has_room (quotas.Threshold many) s k (Threshold t) all within is_open h = tt
  has_room (quotas.Threshold many) s k (Odd t) all within is_open h = absurd h
  has_room quotas.Odd s k (Threshold t) all within is_open h = absurd h
  has_room quotas.Odd s k (Odd t) all within is_open h =
      let n = ap (λ z. z.number) h.sought_is in
      let e = h.seen in
      let c = counted_within has (take k us) t.held (h.counted is_open) in
      let l = length-take-le k us (omega (arith, within)) in
      (omega (arith, n, e, all, within), omega (arith, c, l, e))

  pub one_more : (q : Quota) (s : Sought) {k : ℕ} {u : U} (old new : QuotaTally) (asked : Option Bool) (found : Option (Tree CaseNode)) → k < length us → u ≡ get_or us k u → IsOpenFor old → IsTallyBy q s text name has us k old → IsAsked (quota_asks old) asked found → IsFoundBy (kind_of s.turns) (has u) asked found → TakesPart text name asked found old new → IsTallyBy q s text name has us (k + 1) new
  one_more (quotas.Threshold many) s (Threshold old) (Threshold new) asked found within is is_open h asks x takes = tally_next has s text name us old new asked found within is h takes.0 takes.1 takes.2 x
  one_more (quotas.Threshold many) s (Threshold old) (Odd new) asked found within is is_open h asks x takes = absurd takes
  one_more (quotas.Threshold many) s (Odd old) new asked found within is is_open h asks x takes = absurd h
  one_more quotas.Odd s (Threshold old) new asked found within is is_open h asks x takes = absurd h
  one_more quotas.Odd s (Odd old) (Threshold new) asked found within is is_open h asks x takes = absurd takes
  one_more quotas.Odd s (Odd old) (Odd new) asked found within is is_open h asks x takes = odd_next s name has us old new asked found within is is_open h asks x takes

  -- all were seen
  pub all_seen : (q : Quota) (s : Sought) (k : ℕ) (t : QuotaTally) → s.number ≡ length us → length us ≤ k → IsTallyBy q s text name has us k t → IsOver t
  all_seen (quotas.Threshold many) s k (Threshold t) all full h = tally_full has s text name us k t (sym all) full h
  all_seen (quotas.Threshold many) s k (Odd t) all full h = absurd h
  all_seen quotas.Odd s k (Threshold t) all full h = absurd h
  all_seen quotas.Odd s k (Odd t) all full h = let n = ap (λ z. z.number) h.sought_is in let e = h.seen in inr (omega (arith, n, e, all, full))

  -- what is found of the whole
  pub answered : {E : Type 0} (q : Quota) (turns : Bool) (wanted : Option Bool) (k : ℕ) (t : QuotaTally) (r : Result (Option (Tree CaseNode)) E) → k ≤ length us → IsOver t → IsTallyBy q (sought_by q turns wanted (length us)) text name has us k t → QuotaAnswers text name t r → IfOk r (IsFoundBy (kind_of turns) (IsOfQuota q text name has us) wanted)
  answered (quotas.Threshold many) turns wanted k (Threshold t) r within over h a = fewer_found_of (kind_of turns) wanted r (of_threshold many text name has us) (tally_answer has (sought_by (quotas.Threshold many) turns wanted (length us)) text name us k t r refl h a.0 a.1)
  answered (quotas.Threshold many) turns wanted k (Odd t) r within over h a = absurd h
  answered quotas.Odd turns wanted k (Threshold t) r within over h a = absurd h
  answered quotas.Odd turns wanted k (Odd t) (Ok found) within over h a = odd_found (sought_by quotas.Odd turns wanted (length us)) name has us text k t found refl h over within a
  answered quotas.Odd turns wanted k (Odd t) (Err e) within over h a = tt
