-- The steps of a tally of several of which an odd number has to hold.
use Rattle.std.specs.Prelude.{◌≡◌, ℕ, zero, suc, ◌+◌, ◌%◌, ◌==◌, Bool, true, false, ◌||◌, List, []}
use Rattle.std.specs.Prelude.{◌∷◌, ◌++◌, map, Option, Some, None}
use Rattle.predicates_core.specs.Asked.{is_other, shown_verdict}
use Rattle.predicates_core.specs.Describe.{CaseNode}
use Rattle.predicates_core.specs.Formula.{one_if}
use Rattle.predicates_core.specs.Label.{Entry}
use Rattle.predicates_core.specs.Leaves.{IsExactly}
use Rattle.predicates_core.specs.Several.{is_absent}
use Rattle.predicates_core.specs.Shows.{IsFound, IsNode}
use Rattle.predicates_core.specs.Thresholds.{settled}
use Rattle.predicates_core.specs.Tree.{Tree}
use Rattle.predicates_tree.specs.declared.odd.OddTally.{OddTally}

-- what the next part is asked: of a change the first alone is asked for a case
abbrev pub odd_asks : Bool → ℕ → Option (Option Bool)
odd_asks false n = Some None
odd_asks true zero = Some None
odd_asks true (suc n) = None

abbrev pub with_found : List (Tree CaseNode) → Option (Tree CaseNode) → List (Tree CaseNode)
with_found cs None = cs
with_found cs (Some c) = cs ++ c ∷ []

-- one part more was asked so, and this was found
pub record OddTakes (asked : Option Bool) (found : Option (Tree CaseNode)) (old new : OddTally)
    : Type 0 where
  pub sought : new.sought ≡ old.sought
  pub seen : new.seen ≡ suc old.seen
  pub absent : is_absent asked found ≡ true → new.absent ≡ true
  pub present : is_absent asked found ≡ false → new.absent ≡ old.absent
  pub held : is_absent asked found ≡ false
      → new.held ≡ old.held + one_if (shown_verdict asked found)
  pub cases : is_absent asked found ≡ false
      → new.cases.items ≡ with_found old.cases.items found

-- this is found of the whole
pub record OddAnswers (text : Entry) (name : List ℕ) (t : OddTally)
    (found : Option (Tree CaseNode)) : Type 0 where
  pub settled : (t.sought.number == 0) ≡ true
      → IsFound (IsExactly (settled text 1 0)) t.sought.wanted found
  pub none : (t.sought.number == 0) ≡ false
      → (t.absent || is_other t.sought.wanted (t.held % 2 == 1)) ≡ true → found ≡ None
  pub some : (t.sought.number == 0) ≡ false
      → (t.absent || is_other t.sought.wanted (t.held % 2 == 1)) ≡ false
      → (node : Tree CaseNode) × (found ≡ Some node)
      × IsNode text (t.held % 2 == 1) (map (λ c. (name, c)) t.cases.items) node
