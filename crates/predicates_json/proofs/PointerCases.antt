-- The truth of what stands at a pointer, and the cases that show it or its change, from those of the part.
use Rattle.std.proofs.Common.{◌≡◌, ℕ, Bool, List, [], ◌∷◌, Option, Some, None, codes, sym, ap, ◌∙◌, subst}
use Rattle.predicates_core.specs.Label.{plain, Fits}
use Rattle.predicates_core.specs.Formula.{Formula, truth, HasTruth}
use Rattle.predicates_core.specs.Tree.{Tree}
use Rattle.predicates_core.specs.Describe.{CaseNode}
use Rattle.predicates_core.specs.Kinds.{Kind}
use Rattle.predicates_core.specs.Shows.{ExplainsBy, IsCaseBy, IsFoundBy, IsNode}
use Rattle.predicates_core.proofs.Values.{truth-Named}
use Rattle.predicates_core.proofs.Found.{case_by_result}
use Rattle.predicates_core.proofs.CombinedLemmas.{explains_named, node_of_text}
use Rattle.predicates_json.specs.Pointer.{at_formula, IsAt}

pub HasTruth-at : {pointer : List ℕ} {part : Formula → Type 0} {b : Bool} → HasTruth part b → HasTruth (IsAt pointer part) b
HasTruth-at {pointer} of_part = record { at = λ f h. ap truth h.is ∙ truth-Named (plain (Some pointer)) (codes "value") h.inner ∙ of_part.at h.inner h.of_part }

pub IsCaseOf-at : {q : Kind} {pointer bytes : List ℕ} {part : Formula → Type 0} {b : Bool} {c t : Tree CaseNode} → IsNode (Some bytes) b ((codes "value", c) ∷ []) t → Fits (Some pointer) bytes → IsCaseBy q part b c → IsCaseBy q (IsAt pointer part) b t
IsCaseOf-at {q} {pointer} {bytes} {part} {b} {c} {t} written fits x =
    let node : IsNode (Some pointer) b ((codes "value", c) ∷ []) t = node_of_text written fits in
    let whole : HasTruth (IsAt pointer part) b = HasTruth-at x.truth in
    record {
      truth = whole;
      explains = λ f h. subst (λ g. ExplainsBy q g t) (sym h.is) (explains_named q h.inner b t c (Some pointer) (codes "value") (x.explains h.inner h.of_part) node (ap truth (sym h.is) ∙ whole.at f h));
    }

-- what is found of it
module _ (q : Kind) (pointer : List ℕ) (part : Formula → Type 0) where
  pub none_at : (w : Option Bool) → IsFoundBy q part w None → IsFoundBy q (IsAt pointer part) w None
  none_at (Some e) x = HasTruth-at x
  none_at None x = λ f h. x h.inner h.of_part

  pub case_at : {bytes : List ℕ} {c t : Tree CaseNode} (w : Option Bool) → IsNode (Some bytes) c.root.result ((codes "value", c) ∷ []) t → Fits (Some pointer) bytes → IsFoundBy q part w (Some c) → IsFoundBy q (IsAt pointer part) w (Some t)
  case_at (Some e) written fits x = record { truth = HasTruth-at x.truth; explains = (IsCaseOf-at written fits (case_by_result x)).explains }
  case_at None written fits x = case_by_result (IsCaseOf-at written fits x)

pub ruleset pointers = (HasTruth-at, IsCaseOf-at)
