-- The steps of a tally of several of which as many hold as have to.
use Rattle.std.specs.Prelude.{◌≡◌, ◌⊎◌, ℕ, suc, ◌<◌, ◌≤◌, Bool, true, false, List, [], Option, Result, IfOk}
use Rattle.predicates_core.specs.Describe.{CaseNode}
use Rattle.predicates_core.specs.Label.{Entry}
use Rattle.predicates_core.specs.Leaves.{IsExactly}
use Rattle.predicates_core.specs.Shows.{IsFoundBy}
use Rattle.predicates_core.specs.Tally.{kind_of, asks, IsDone, IsOpen, IsTally, Takes, Answers}
use Rattle.predicates_core.specs.Thresholds.{IsSettled, settled}
use Rattle.predicates_core.specs.Tree.{Tree}
use Rattle.predicates_core.specs.declared.custom.tally.Sought.{Sought}
use Rattle.predicates_tree.specs.declared.quota.Quota.{Quota}
use Rattle.predicates_tree.specs.declared.quota.Quota.TheVariants as quotas
use Rattle.predicates_tree.specs.declared.quota_tally.QuotaTally.{QuotaTally}
use Rattle.predicates_tree.specs.declared.quota_tally.QuotaTally.TheVariants.{Threshold, Odd}
use Rattle.predicates_tree.specs.OddTallies.{odd_asks, OddTakes, OddAnswers}

-- of no part so far
abbrev pub Starts : Quota → Sought → QuotaTally → Type 0
Starts (quotas.Threshold many) s (Threshold t) = (t.sought ≡ s) × (t.seen ≡ 0)
    × ((text : Entry) (name : List ℕ) → IsTally text name [] t)
Starts (quotas.Threshold many) s (Odd t) = ⊥
Starts quotas.Odd s (Threshold t) = ⊥
Starts quotas.Odd s (Odd t) = (t.sought ≡ s) × (t.seen ≡ 0) × (t.held ≡ 0) × (t.cases.items ≡ [])
    × (t.absent ≡ false)

abbrev pub IsOver : QuotaTally → Type 0
IsOver (Threshold t) = IsDone t
IsOver (Odd t) = (t.absent ≡ true) ⊎ (t.sought.number ≤ t.seen)

abbrev pub IsOpenFor : QuotaTally → Type 0
IsOpenFor (Threshold t) = IsOpen t
IsOpenFor (Odd t) = t.absent ≡ false

-- there are more parts than were seen
abbrev pub HasRoom : QuotaTally → Type 0
HasRoom (Threshold t) = Unit {0}
HasRoom (Odd t) = (t.seen < t.sought.number) × (t.held ≤ t.seen)

abbrev pub quota_asks : QuotaTally → Option (Option Bool)
quota_asks (Threshold t) = asks t
quota_asks (Odd t) = odd_asks t.sought.turns t.seen

-- a part was asked so, and this was found
abbrev pub TakesPart : Entry → List ℕ → Option Bool → Option (Tree CaseNode) → QuotaTally
    → QuotaTally → Type 0
TakesPart text name asked found (Threshold old) (Threshold new) =
    (new.sought ≡ old.sought) × (new.seen ≡ suc old.seen) × Takes text name asked found old new
TakesPart text name asked found (Threshold old) (Odd new) = ⊥
TakesPart text name asked found (Odd old) (Threshold new) = ⊥
TakesPart text name asked found (Odd old) (Odd new) = OddTakes asked found old new

-- this is answered of the whole
abbrev pub QuotaAnswers : {E : Type 0} → Entry → List ℕ → QuotaTally
    → Result (Option (Tree CaseNode)) E → Type 0
QuotaAnswers text name (Threshold t) r = (IsSettled t.sought.least t.sought.number → IfOk r
    (IsFoundBy (kind_of t.sought.turns)
    (IsExactly (settled text t.sought.least t.sought.number)) t.sought.wanted))
    × IfOk r (Answers text name t)
QuotaAnswers text name (Odd t) r = IfOk r (OddAnswers text name t)
