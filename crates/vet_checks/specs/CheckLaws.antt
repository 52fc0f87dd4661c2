-- What a check prints is the text of its formula.
use Rattle.std.proofs.Common.{◌≡◌, ℕ, List, Bool, Option, Some, None, refl, sym, subst}
use Rattle.predicates_core.specs.Label.{FitsEntry}
use Rattle.predicates_core.specs.Formula.{Formula, text_of}
use Rattle.predicates_core.specs.Leaves.{IsExactly}
use Rattle.predicates_tree.specs.Laws.{has_tree, tree_text_fits, members_as_they_are}
use Rattle.serde_json.specs.Data.{Data}
use Rattle.vet_checks.specs.declared.path_test.PathTest.{PathTest}
use Rattle.vet_checks.specs.declared.question.Question.{Question}
use Rattle.vet_checks.specs.Lists.{places_at}
use Rattle.vet_checks.specs.Nodes.{text_of_test, path_of_test, path_of_view}
use Rattle.vet_checks.specs.CheckTrees.{CheckTree, answer_label, test_formula, absence_at}
use Rattle.vet_checks.specs.CheckTrees.{check_formula, check_text}
use Rattle.vet_checks.specs.Questions.{answer_at}
use Rattle.vet_checks.specs.RuleChecks.{rule_formula}
use Rattle.vet_checks.specs.Scopes.{Place, stands}

-- the formula has the text at its root, and so what is exactly that formula fits it
text_fits_exactly : {f g : Formula} {text : List ℕ} → text_of g ≡ Some text → IsExactly g f
    → FitsEntry (text_of f) (Some text)
text_fits_exactly {f} {g} {text} e h = subst (λ x. FitsEntry (text_of x) (Some text)) (sym h.is)
    (subst (λ entry. FitsEntry entry (Some text)) (sym e) refl)

label_text : (text path : List ℕ) (q : Question) (p : Place) (o : Option Data) (v : Option Bool)
    → (answer_label text path q p o v).text ≡ Some text
label_text text path q p None None = refl
label_text text path q p None (Some own) = refl
label_text text path q p (Some d) None = refl
label_text text path q p (Some d) (Some own) = refl

pub test_text_fits : (t : PathTest) (p : Place) {f : Formula} → IsExactly (test_formula t p) f
    → FitsEntry (text_of f) (Some (text_of_test t))
test_text_fits t p h = text_fits_exactly (label_text (text_of_test t) (path_of_test t) t.question p
    (stands (path_of_test t) p) (answer_at t.question p (stands (path_of_test t) p))) h

pub check_text_fits : (e : CheckTree) (p : Place) {f : Formula} → IsExactly (check_formula e p) f
    → FitsEntry (text_of f) (check_text e)
check_text_fits e p h = subst (λ g. FitsEntry (text_of g) (check_text e)) (sym h.is)
    (tree_text_fits (λ t. Some (text_of_test t)) (λ v. Some (path_of_view v))
    (λ t q. IsExactly (test_formula t q)) (λ v q o. places_at (path_of_view v) q ≡ o)
    (λ v. absence_at (path_of_view v)) (λ t q g x. test_text_fits t q x)
    (λ v q. (places_at (path_of_view v) q, refl)) p e (check_formula e p)
    (has_tree (λ t. Some (text_of_test t)) (λ v. Some (path_of_view v))
    (λ t q. IsExactly (test_formula t q)) (λ v q o. places_at (path_of_view v) q ≡ o)
    (λ v. absence_at (path_of_view v)) (λ q. q) test_formula (λ v. places_at (path_of_view v))
    (λ v. absence_at (path_of_view v)) (λ t q. record { is = refl })
    (members_as_they_are (λ v. places_at (path_of_view v))) (λ v q. refl) p e))

pub rule_text_fits : (name : List ℕ) (e : CheckTree) (p : Place) {f : Formula}
    → IsExactly (rule_formula name e p) f → FitsEntry (text_of f) (Some name)
rule_text_fits name e p h = text_fits_exactly refl h
