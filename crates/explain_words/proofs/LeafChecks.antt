-- A check without parts is one leaf, so its case shows what would turn it.
use Rattle.std.proofs.Common.{ℕ, List, Bool, Option, Result, Ok, Err, sym, subst}
use Rattle.std.specs.Prelude.{OnOk}
use Rattle.predicates_core.specs.Describe.{CaseNode}
use Rattle.predicates_core.specs.Formula.{Formula, IsLeaf}
use Rattle.predicates_core.specs.Kinds.{Kind, reasons, changes}
use Rattle.predicates_core.specs.Shows.{IsFound, IsFoundBy}
use Rattle.predicates_core.specs.Tree.{Tree}
use Rattle.predicates_core.proofs.ChangeCases.{leaf_found}
use Rattle.explain_words.specs.Checks.{HasFormula}
use Rattle.explain_words.specs.Weight.{IsLeafCheck}
use Rattle.explain_words.specs.declared.check.TextCheck.{TextCheck, Empty, Equals, Starts, Ends, Contains, Matches}

leaf_of_check : (c : TextCheck) (bytes : List ℕ) → IsLeafCheck c → (f : Formula) → HasFormula c bytes f → IsLeaf f
leaf_of_check (Empty p) bytes is f h = subst IsLeaf (sym h.is) tt
leaf_of_check (Equals p) bytes is f h = subst IsLeaf (sym h.is) tt
leaf_of_check (Starts p) bytes is f h = subst IsLeaf (sym h.is) tt
leaf_of_check (Ends p) bytes is f h = subst IsLeaf (sym h.is) tt
leaf_of_check (Contains p) bytes is f h = subst IsLeaf (sym h.is) tt
leaf_of_check (Matches p) bytes is f h = subst IsLeaf (sym h.is) tt
leaf_of_check _ bytes is f h = absurd is

pub answer_of_leaf : {A E : Type 0} (q : Kind) (c : TextCheck) (bytes : List ℕ) (w : Option Bool) (r : Result A E) (found : Option (Tree CaseNode)) → IsLeafCheck c
    → OnOk r (IsFound (HasFormula c bytes) w found) → OnOk r (IsFoundBy q (HasFormula c bytes) w found)
answer_of_leaf reasons c bytes w r found is x = x
answer_of_leaf {A} {E} changes c bytes w (Ok a) found is x = leaf_found {E = E} w (Ok found) (leaf_of_check c bytes is) x
answer_of_leaf changes c bytes w (Err e) found is x = tt
