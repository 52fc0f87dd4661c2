-- Verdicts and cases of predicates of contents, from those of predicates of bytes.
use Rattle.std.proofs.Common.{◌≡◌, refl, sym, ℕ, Bool, true, false, List, Option, None, Result, Ok, Err, Some, codes}
use Rattle.predicates_core.specs.Label.{Entry}
use Rattle.predicates_core.specs.Formula.{Formula, HasTruth, IsLeaf}
use Rattle.predicates_core.specs.Kinds.{Kind, reasons}
use Rattle.predicates_core.specs.Shows.{IsCaseOf, IsFound, IsFoundBy}
use Rattle.predicates_core.specs.Tree.{Tree}
use Rattle.predicates_core.specs.Describe.{CaseNode}
use Rattle.predicates_core.specs.Leaves.{IsExactly, IsShowing}
use Rattle.predicates_core.proofs.Leaves.{HasTruth-exactly}
use Rattle.predicates_core.specs.Asked.{is_other}
use Rattle.predicates_core.proofs.Added.{HasTruth-with_product, nothing_with_product, found_with_product}
use Rattle.predicates_core.proofs.Fewer.{fewer_found}
use Rattle.predicates_core.proofs.Found.{none_wanted, case_wanted}
use Rattle.predicates_core.proofs.ChangeCases.{exact_leaf}
use Rattle.predicates_path.specs.declared.fault.PathFault.{PathFault}
use Rattle.predicates_path.specs.Snapshot.{Bytes}
use Rattle.predicates_path.specs.Content.{IsOfContent, without_content}

module _ {text : Entry} {has : Bytes → Formula → Type 0} {path : List ℕ} {held : Result Bytes PathFault} where
  pub HasTruth-content : {b : Bool} {v : Bytes} → held ≡ Ok v → HasTruth (has v) b → HasTruth (IsOfContent text has path held) b
  HasTruth-content {b} {v} e h = record { at = λ f x. (HasTruth-with_product h).at f (x.of_bytes v e) }

  pub HasTruth-no_content : {b : Bool} {fault : PathFault} → held ≡ Err fault → b ≡ false → HasTruth (IsOfContent text has path held) b
  HasTruth-no_content {b} {fault} e none = record { at = λ f x. (HasTruth-exactly (sym none)).at f (x.of_fault fault e) }

  -- without a content each formula is a leaf
  pub leaf_without_content : {fault : PathFault} → held ≡ Err fault → (f : Formula) → IsOfContent text has path held f → IsLeaf f
  leaf_without_content {fault} e f x = exact_leaf f (x.of_fault fault e)

-- what is found of them
module _ (text : Entry) (has : Bytes → Formula → Type 0) (path : List ℕ) (held : Result Bytes PathFault) where
  pub none_of_content : (q : Kind) (w : Option Bool) (v : Bytes) → held ≡ Ok v → IsFoundBy q (has v) w None → IsFoundBy q (IsOfContent text has path held) w None
  none_of_content q w v e x = fewer_found q w None (λ f p. p.of_bytes v e) (nothing_with_product q _ _ _ w x)

  pub case_of_content : (q : Kind) (w : Option Bool) (v : Bytes) {c t : Tree CaseNode} → held ≡ Ok v → IsShowing (codes "var") (Some path) c t → IsFoundBy q (has v) w (Some c) → IsFoundBy q (IsOfContent text has path held) w (Some t)
  case_of_content q w v {c} {t} e s x = fewer_found q w (Some t) (λ f p. p.of_bytes v e) (found_with_product q _ _ _ w s x)

  pub none_without_content : (w : Option Bool) (fault : PathFault) → held ≡ Err fault → is_other w false ≡ true → IsFound (IsOfContent text has path held) w None
  none_without_content w fault e other = fewer_found reasons w None (λ f p. p.of_fault fault e) (none_wanted w (HasTruth-exactly refl) other)

  pub case_without_content : (w : Option Bool) (fault : PathFault) {t : Tree CaseNode} → held ≡ Err fault → is_other w false ≡ false → IsCaseOf (IsExactly (without_content text path fault)) false t → IsFound (IsOfContent text has path held) w (Some t)
  case_without_content w fault {t} e same h = fewer_found reasons w (Some t) (λ f p. p.of_fault fault e) (case_wanted w h same)

pub ruleset content_cases = (HasTruth-content, HasTruth-no_content)
