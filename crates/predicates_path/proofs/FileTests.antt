-- The cases of leaves over tests of files.
use Rattle.std.proofs.Common.{◌≡◌, ℕ, Bool, List, [], Option, Some, None, subst, sym}
use Rattle.predicates_core.specs.Label.{Entry, Product, Fits}
use Rattle.predicates_core.specs.Tree.{Tree}
use Rattle.predicates_core.specs.Describe.{CaseNode}
use Rattle.predicates_core.specs.Shows.{IsCaseOf, IsNode}
use Rattle.predicates_core.specs.Leaves.{IsExactly}
use Rattle.predicates_core.proofs.Leaves.{HasTruth-exactly, IsCaseOf-leaf, IsCaseOf-showing}
use Rattle.predicates_path.specs.FileTest.{file_leaf, IsShown}

-- the node with what is shown explains the leaf
pub case_of_file : {text : Entry} {own b : Bool} {c t : Tree CaseNode} {bytes : List ℕ} (product : Option Product) → IsShown product c t → IsNode (Some bytes) b [] c → Fits text bytes → own ≡ b → IsCaseOf (IsExactly (file_leaf text product own)) b t
case_of_file {text} {own} {b} None shown written fits e = subst (λ z. IsCaseOf (IsExactly (file_leaf text None own)) b z) (sym shown) (IsCaseOf-leaf written fits (HasTruth-exactly e))
case_of_file (Some p) shown written fits e = IsCaseOf-showing shown written fits (HasTruth-exactly e)
