-- The formulas of predicates of bytes on contents.
use Rattle.std.specs.Prelude.{◌≡◌, ℕ, false, List, Result, Ok, Err, Some, codes}
use Rattle.predicates_core.specs.Label.{Entry, showing_both}
use Rattle.predicates_core.specs.Formula.{Formula, Leaf, with_product}
use Rattle.predicates_core.specs.Leaves.{IsExactly}
use Rattle.predicates_core.specs.Added.{IsWithProduct}
use Rattle.predicates_path.specs.declared.content.FileContentPredicate.{FileContentPredicate}
use Rattle.predicates_path.specs.declared.fault.PathFault.{PathFault}
use Rattle.predicates_path.specs.Fault.{fault_text}
use Rattle.predicates_path.specs.Snapshot.{Bytes}

-- the predicate of bytes
abbrev pub inner_of : {P : Type 0} → FileContentPredicate P → P
inner_of p = p.inner

-- a false leaf that shows the path and the fault
abbrev pub without_content : Entry → List ℕ → PathFault → Formula
without_content text path fault =
    Leaf (showing_both text (codes "var") (Some path) (codes "error") (Some (fault_text fault)))
    false

-- f is a formula of the part on the content, with the path as its last product, or the leaf of the
-- fault
pub record IsOfContent (text : Entry) (has : Bytes → Formula → Type 0) (path : List ℕ)
    (held : Result Bytes PathFault) (f : Formula) : Type 0 where
  pub of_bytes : (bytes : Bytes) → held ≡ Ok bytes
      → IsWithProduct (codes "var") (Some path) (has bytes) f
  pub of_fault : (fault : PathFault) → held ≡ Err fault
      → IsExactly (without_content text path fault) f

-- the one formula, where the part has one on each content
abbrev pub content_formula : Entry → (Bytes → Formula) → List ℕ → Result Bytes PathFault → Formula
content_formula text formula_of path (Ok bytes) = with_product (formula_of bytes)
    (record { name = codes "var"; value = Some path })
content_formula text formula_of path (Err fault) = without_content text path fault
