-- What a tally says of the formulas of the parts that were seen so far.
use Rattle.std.specs.Prelude.{◌≡◌, ◌⊎◌, ℕ, suc, ◌+◌, ◌<◌, ◌≤◌, nat_lt, Bool, true, false, not}
use Rattle.std.specs.Prelude.{◌&&◌, ◌||◌, List, [], ◌∷◌, ◌++◌, map, length, take, get_or, Option}
use Rattle.std.specs.Prelude.{Some, None, MatchOption}
use mathlib.Core.Bool.{beq}
use Rattle.predicates_core.specs.Asked.{is_other}
use Rattle.predicates_core.specs.Describe.{CaseNode, with_child}
use Rattle.predicates_core.specs.Formula.{Formula, enough_of, one_if, truth, HasTruth}
use Rattle.predicates_core.specs.Kinds.{Kind, reasons, changes}
use Rattle.predicates_core.specs.Label.{Entry}
use Rattle.predicates_core.specs.Leaves.{IsExactly}
use Rattle.predicates_core.specs.Shows.{ExplainsBy, IsFoundBy, IsNode, numbered, tells_numbers}
use Rattle.predicates_core.specs.Thresholds.{IsSettled, IsOfThreshold}
use Rattle.predicates_core.specs.Tree.{Tree}
use Rattle.predicates_core.specs.declared.custom.tally.Kept.{Kept}
use Rattle.predicates_core.specs.declared.custom.tally.Sought.{Sought}
use Rattle.predicates_core.specs.declared.custom.tally.Tally.{Tally}
use Rattle.predicates_core.specs.declared.custom.tally.Told.{Told}
use Rattle.predicates_core.specs.declared.custom.tally.Verdicts.{Verdicts}

-- what a case shows: what turns a truth, or what it comes from
abbrev pub kind_of : Bool → Kind
kind_of true = changes
kind_of false = reasons

-- ---- what the next part is asked

-- where so many parts have the truth and so many the other, a part with it is asked for its case:
-- the truth may be wanted; and of changes no more are shown than bring the other truth about, nor
-- any where enough parts have that
abbrev pub asks_for : Bool → Sought → ℕ → ℕ → Bool
asks_for b s such others = not (is_other s.wanted b) && (not s.turns
    || (nat_lt such (enough_of (not b) s.least s.number)
    && nat_lt others (enough_of (not b) s.least s.number)))

-- which truth a part is asked for, if any, where one that holds and one that fails would be asked
abbrev pub asked_by : Bool → Bool → Option (Option Bool)
asked_by true true = Some None
asked_by true false = Some (Some true)
asked_by false true = Some (Some false)
asked_by false false = None

abbrev pub asks : Tally → Option (Option Bool)
asks t = asked_by (asks_for true t.sought t.held.count t.failed.count)
    (asks_for false t.sought t.failed.count t.held.count)

-- the part was asked so; its truth alone is told as that the opposite was not found
abbrev pub IsAsked : Option (Option Bool) → Option Bool → Option (Tree CaseNode) → Type 0
IsAsked None asked found = found ≡ None
IsAsked (Some wanted) asked found = asked ≡ wanted

-- ---- when no more parts have to be asked

-- so many parts with the truth are enough: for a reason, and for a change where the other is wanted
pub record IsDecided (b : Bool) (s : Sought) (such : ℕ) : Type 0 where
  pub enough : enough_of b s.least s.number ≤ such
  pub other : s.turns ≡ true → is_other s.wanted b ≡ true

abbrev pub IsDone : Tally → Type 0
IsDone t = (t.absent ≡ true) ⊎ ((t.sought.number ≤ t.seen)
    ⊎ (IsSettled t.sought.least t.sought.number
    ⊎ (IsDecided true t.sought t.held.count ⊎ IsDecided false t.sought t.failed.count)))

pub record IsOpen (t : Tally) : Type 0 where
  pub present : t.absent ≡ false
  pub next : t.seen < t.sought.number
  pub some : 1 ≤ t.sought.least
  pub within : t.sought.least ≤ t.sought.number
  pub held : IsDecided true t.sought t.held.count → ⊥
  pub failed : IsDecided false t.sought t.failed.count → ⊥

-- ---- the parts so far

-- how many of the formulas have the truth
abbrev pub count_like : Bool → List Formula → ℕ
count_like b [] = 0
count_like b (f ∷ fs) = one_if (beq (truth f) b) + count_like b fs

-- the cases are those of the first of the formulas that have the truth, in order, with their
-- numbers where these are told; the first formula has the number k
abbrev pub AreShown : Kind → Bool → Bool → ℕ → List Formula → List (Tree CaseNode) → Type 0
AreShown q tells b k fs [] = Unit {0}
AreShown q tells b k [] (c ∷ cs) = ⊥
AreShown q tells b k (f ∷ fs) (c ∷ cs) =
    ((truth f ≡ not b) × AreShown q tells b (suc k) fs (c ∷ cs))
    ⊎ ((truth f ≡ b) × ((part : Tree CaseNode) × (c ≡ numbered tells k part) × ExplainsBy q f part)
    × AreShown q tells b (suc k) fs cs)

-- the node is over the cases, where there are some
abbrev pub IsOver : Bool → Entry → List ℕ → List (Tree CaseNode) → Option (Tree CaseNode) → Type 0
IsOver b text name [] None = Unit {0}
IsOver b text name [] (Some t) = ⊥
IsOver b text name (c ∷ cs) None = ⊥
IsOver b text name (c ∷ cs) (Some t) = IsNode text b (map (λ d. (name, d)) (c ∷ cs)) t

-- t is the node so far with one more case, or the first node, over this case
abbrev pub IsNextCase : Bool → Entry → List ℕ → Tree CaseNode → Option (Tree CaseNode)
    → Tree CaseNode → Type 0
IsNextCase b text name c None t = IsNode text b ((name, c) ∷ []) t
IsNextCase b text name c (Some so_far) t = t ≡ with_child so_far name c

-- the node so far with the case that was found of one more part
abbrev pub IsNodeWith : Bool → Entry → List ℕ → Option (Tree CaseNode) → Option (Tree CaseNode)
    → Option (Tree CaseNode) → Type 0
IsNodeWith b text name so_far None t = t ≡ so_far
IsNodeWith b text name so_far (Some c) None = ⊥
IsNodeWith b text name so_far (Some c) (Some t) = IsNextCase b text name c so_far t

-- of these formulas those with the truth are counted, and the node has the cases of the first of
-- them: of all, or for a change of as many as may have to be shown
pub record IsKept (b : Bool) (s : Sought) (text : Entry) (name : List ℕ) (fs : List Formula)
    (kept : Kept) (others : ℕ) : Type 0 where
  pub cases : List (Tree CaseNode)
  pub over : IsOver b text name cases kept.node
  pub shown : AreShown (kind_of s.turns) (tells_numbers (kind_of s.turns) b s.least s.number) b 0
      fs cases
  pub counted : kept.count ≡ count_like b fs
  pub barely : s.turns ≡ false → kept.count ≤ enough_of b s.least s.number
  pub all : is_other s.wanted b ≡ false → others < enough_of (not b) s.least s.number
      → (length cases ≡ kept.count)
      ⊎ ((s.turns ≡ true) × (enough_of (not b) s.least s.number ≤ length cases))

-- the tally of parts with these formulas
pub record IsTally (text : Entry) (name : List ℕ) (fs : List Formula) (t : Tally) : Type 0 where
  pub present : t.absent ≡ false
  pub seen : t.seen ≡ length fs
  pub held : IsKept true t.sought text name fs t.held t.failed.count
  pub failed : IsKept false t.sought text name fs t.failed t.held.count

-- ---- parts that told no case

-- of so many parts with the truth how many hold
abbrev pub held_of : Bool → ℕ → ℕ
held_of true n = n
held_of false n = 0

-- so many more parts with the truth may be counted: no case of them is sought, and for a reason no
-- more are counted than decide
pub record MayCount (b : Bool) (s : Sought) (such others more : ℕ) : Type 0 where
  pub unsought : (more ≡ 0) ⊎ (asks_for b s such others ≡ false)
  pub barely : s.turns ≡ false → such + more ≤ enough_of b s.least s.number

-- so many more parts with the truth are too few, where so many of them are too few
abbrev pub IsSpare : Bool → Sought → ℕ → ℕ → Type 0
IsSpare b s such more = such < enough_of b s.least s.number
    → such + more < enough_of b s.least s.number

-- where the part was asked so, no case of the truth is sought
abbrev pub IsUnsought : Bool → Option (Option Bool) → Type 0
IsUnsought b asks = (asks ≡ None) ⊎ (asks ≡ Some (Some (not b)))

-- ---- the steps: a tally of none, of one part more, of parts without a case, and the whole's answer

-- where a part with the formula f was asked, and this was found
abbrev pub Takes : Entry → List ℕ → Option Bool → Option (Tree CaseNode) → Tally → Tally → Type 0
Takes text name asked found old new = (fs : List Formula) (f : Formula) → IsTally text name fs old
    → IsFoundBy (kind_of old.sought.turns) (IsExactly f) asked found → IsTally text name (fs ++ f ∷ []) new

-- the parts with the formulas gs told no case: so many hold and so many fail
abbrev pub Counts : Entry → List ℕ → ℕ → ℕ → Tally → Tally → Type 0
Counts text name held failed old new = (fs gs : List Formula) → IsTally text name fs old
    → count_like true gs ≡ held → count_like false gs ≡ failed → IsTally text name (fs ++ gs) new

-- this is found of the whole, whatever the formulas of further parts
abbrev pub Answers : Entry → List ℕ → Tally → Option (Tree CaseNode) → Type 0
Answers text name t found = (fs rest : List Formula) → IsTally text name fs t
    → length (fs ++ rest) ≡ t.sought.number
    → IsFoundBy (kind_of t.sought.turns) (IsOfThreshold t.sought.least text name IsExactly (fs ++ rest))
    t.sought.wanted found

-- ---- for members with formulas of their own

-- each of the members has one of the formulas, in order
abbrev pub AreOf : {U : Type 0} → (U → Formula → Type 0) → List U → List Formula → Type 0
AreOf has [] [] = Unit {0}
AreOf has [] (f ∷ fs) = ⊥
AreOf has (u ∷ us) [] = ⊥
AreOf has (u ∷ us) (f ∷ fs) = has u f × AreOf has us fs

-- the tally of the members, of whichever formulas of theirs
pub record IsTallyOf {U : Type 0} (sought : Sought) (text : Entry) (name : List ℕ)
    (has : U → Formula → Type 0) (us : List U) (t : Tally) : Type 0 where
  pub sought_is : t.sought ≡ sought
  pub seen : t.seen ≡ length us
  pub at : (fs : List Formula) → AreOf has us fs → IsTally text name fs t

-- so many of the members hold and so many fail
pub record AreCounted {U : Type 0} (has : U → Formula → Type 0) (us : List U) (held failed : ℕ)
    : Type 0 where
  pub number : held + failed ≡ length us
  pub at : (fs : List Formula) → AreOf has us fs
      → (count_like true fs ≡ held) × (count_like false fs ≡ failed)

-- P of the member with the number
abbrev pub IsAt : {U : Type 0} → List U → ℕ → (U → Type 0) → Type 0
IsAt {U} us i P = (u : U) × (i < length us) × (u ≡ get_or us i u) × P u

-- the first members are counted, of each truth at most as many as are spared
pub record ArePassed {U : Type 0} (has : U → Formula → Type 0) (spare : Verdicts) (us : List U)
    (passed : Verdicts) : Type 0 where
  pub counted : AreCounted has (take (passed.held + passed.failed) us) passed.held passed.failed
  pub held : passed.held ≤ spare.held
  pub failed : passed.failed ≤ spare.failed

-- behind them is none, or a member with the truth by which there are more of it than are spared
abbrev pub EndsFront : {U : Type 0} → (U → Formula → Type 0) → Verdicts → List U → Verdicts
    → Option Bool → Type 0
EndsFront has spare us passed None = length us ≤ passed.held + passed.failed
EndsFront has spare us passed (Some true) = (passed.held ≡ spare.held)
    × IsAt us (passed.held + passed.failed) (λ u. HasTruth (has u) true)
EndsFront has spare us passed (Some false) = (passed.failed ≡ spare.failed)
    × IsAt us (passed.held + passed.failed) (λ u. HasTruth (has u) false)

pub record IsFront {U : Type 0} (has : U → Formula → Type 0) (spare : Verdicts) (us : List U)
    (passed : Verdicts) (next : Option Bool) : Type 0 where
  pub passed_are : ArePassed has spare us passed
  pub ends : EndsFront has spare us passed next

-- behind them is none, or a member that was asked so and told this; of those before it no case is
-- sought
pub record IsNext {U : Type 0} (q : Kind) (has : U → Formula → Type 0)
    (asks : Option (Option Bool)) (spare : Verdicts) (us : List U) (passed : Verdicts)
    (told : Option Told) : Type 0 where
  pub passed_are : ArePassed has spare us passed
  pub held : (passed.held ≡ 0) ⊎ IsUnsought true asks
  pub failed : (passed.failed ≡ 0) ⊎ IsUnsought false asks
  pub ends : MatchOption told (length us ≤ passed.held + passed.failed) (λ t. IsAsked asks t.asked
      t.found × IsAt us (passed.held + passed.failed) (λ u. IsFoundBy q (has u) t.asked t.found))
