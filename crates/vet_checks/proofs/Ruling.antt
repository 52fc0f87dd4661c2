-- The truth of a rule, and the case that explains it, from those of its check.
use Rattle.std.proofs.Common.{ℕ, Bool, List, [], ◌∷◌, Option, Some, None, codes, refl, sym, ap, ◌∙◌, subst}
use Rattle.predicates_core.specs.Label.{plain}
use Rattle.predicates_core.specs.Formula.{Formula, Named, truth, HasTruth}
use Rattle.predicates_core.specs.Tree.{Tree}
use Rattle.predicates_core.specs.Describe.{CaseNode}
use Rattle.predicates_core.specs.Leaves.{IsExactly}
use Rattle.predicates_core.specs.Kinds.{Kind}
use Rattle.predicates_core.specs.Shows.{ExplainsBy, IsCaseBy, IsFoundBy, IsNode}
use Rattle.predicates_core.proofs.Values.{truth-Named}
use Rattle.predicates_core.proofs.CombinedLemmas.{explains_named}
use Rattle.predicates_core.proofs.Found.{case_by_result}

abbrev pub under_rule : List ℕ → Formula → Formula
under_rule name g = Named (plain (Some name)) (codes "rule") g

pub HasTruth-rule : (name : List ℕ) (g : Formula) {b : Bool} → HasTruth (IsExactly g) b → HasTruth (IsExactly (under_rule name g)) b
HasTruth-rule name g h = record { at = λ f x. ap truth x.is ∙ truth-Named (plain (Some name)) (codes "rule") g ∙ h.at g (record { is = refl }) }

IsCaseOf-rule : (q : Kind) (name : List ℕ) (g : Formula) {b : Bool} {c t : Tree CaseNode} → IsNode (Some name) b ((codes "rule", c) ∷ []) t → IsCaseBy q (IsExactly g) b c → IsCaseBy q (IsExactly (under_rule name g)) b t
IsCaseOf-rule q name g {b} {c} {t} node x =
    let whole : HasTruth (IsExactly (under_rule name g)) b = HasTruth-rule name g x.truth in
    record {
      truth = whole;
      explains = λ f h. subst (λ z. ExplainsBy q z t) (sym h.is) (explains_named q g b t c (Some name) (codes "rule") (x.explains g (record { is = refl })) node (whole.at (under_rule name g) (record { is = refl })));
    }

pub none_of_rule : (q : Kind) (name : List ℕ) (g : Formula) (w : Option Bool) → IsFoundBy q (IsExactly g) w None → IsFoundBy q (IsExactly (under_rule name g)) w None
none_of_rule q name g (Some e) x = HasTruth-rule name g x
none_of_rule q name g None x = λ f p. x g (record { is = refl })

pub case_of_rule : (q : Kind) (name : List ℕ) (g : Formula) (w : Option Bool) {c t : Tree CaseNode} → IsNode (Some name) c.root.result ((codes "rule", c) ∷ []) t → IsFoundBy q (IsExactly g) w (Some c) → IsFoundBy q (IsExactly (under_rule name g)) w (Some t)
case_of_rule q name g (Some e) node x = record { truth = HasTruth-rule name g x.truth; explains = (IsCaseOf-rule q name g node (case_by_result x)).explains }
case_of_rule q name g None node x = case_by_result (IsCaseOf-rule q name g node x)
