-- One product more at the root: the truth and the first leaves stay, and the case has the product too.
use Rattle.std.proofs.Common.{◌≡◌, refl, sym, ap, ◌∙◌, ℕ, Bool, List, [], ◌∷◌, ◌++◌, Option, Some, None}
use Rattle.predicates_core.specs.Label.{Label, Entry, Product, Fits, FitsEntry, FitsProducts}
use Rattle.predicates_core.specs.Formula.{Formula, Leaf, Join, Not, Named, AtLeast, text_of, truth, value, actual, HasTruth, with_product}
use Rattle.predicates_core.specs.Kinds.{Kind}
use Rattle.predicates_core.specs.Shows.{FitsNode, Shows, ExplainsBy, IsCaseBy, IsFoundBy}
use Rattle.predicates_core.specs.Tree.{Tree}
use Rattle.predicates_core.specs.Describe as describe
use Rattle.predicates_core.specs.Describe.{CaseNode, NamedBytes}
use Rattle.predicates_core.specs.Leaves.{IsShowing}
use Rattle.predicates_core.specs.Added.{IsWithProduct}
use Rattle.predicates_core.proofs.Found.{case_by_result}
use Rattle.predicates_core.proofs.BothKinds.{same_first}
use Rattle.predicates_core.proofs.FirstOf.{with_product_carries, with_product_truth}

-- one product more on both sides, where the value fits
fit_last : (ps : List Product) (ss : List NamedBytes) (p : Product) (bytes : List ℕ) → Fits p.value bytes → FitsProducts ps ss → FitsProducts (ps ++ p ∷ []) (ss ++ (p.name, bytes) ∷ [])
fit_last [] [] p bytes fits h = (refl, fits, tt)
fit_last [] (s ∷ ss) p bytes fits h = absurd h
fit_last (q ∷ ps) [] p bytes fits h = absurd h
fit_last (q ∷ ps) (s ∷ ss) p bytes fits h = (h.0, h.1, fit_last ps ss p bytes fits h.2)

pub root_with_product : (label : Label) (b b' : Bool) (c : Tree CaseNode) (p : Product) (bytes : List ℕ) → b' ≡ b → Fits p.value bytes → FitsNode label b c.root
    → FitsNode (record label { products = label.products ++ p ∷ [] }) b' (describe.with_product c (p.name, bytes)).root
root_with_product label b b' c p bytes e fits h = record {
  text = h.text;
  result = h.result ∙ sym e;
  products = fit_last label.products c.root.products p bytes fits h.products;
}

shows_with_product : (q : Kind) (f : Formula) (c : Tree CaseNode) (S : List ℕ) (p : Product) (bytes : List ℕ) → Fits p.value bytes → Shows q f c S → Shows q (with_product f p) (describe.with_product c (p.name, bytes)) S
unfolding Shows with_product truth value actual
shows_with_product q (Leaf label t) c S p bytes fits h = (root_with_product label _ _ c p bytes refl fits h.0, h.1, h.2)
shows_with_product q (Join op label fs) c S p bytes fits h = (root_with_product label _ _ c p bytes (with_product_truth (Join op label fs) p) fits h.0, h.1)
shows_with_product q (Not label f) c S p bytes fits h = (root_with_product label _ _ c p bytes (with_product_truth (Not label f) p) fits h.0, h.1)
shows_with_product q (Named label name f) c S p bytes fits h = (root_with_product label _ _ c p bytes (with_product_truth (Named label name f) p) fits h.0, h.1)
shows_with_product q (AtLeast k label fs) c S p bytes fits h = (root_with_product label _ _ c p bytes (with_product_truth (AtLeast k label fs) p) fits h.0, h.1)

explains_with_product : (q : Kind) (f : Formula) (c : Tree CaseNode) (p : Product) (bytes : List ℕ) → Fits p.value bytes → ExplainsBy q f c → ExplainsBy q (with_product f p) (describe.with_product c (p.name, bytes))
explains_with_product q f c p bytes fits x = record {
  leaves = x.leaves;
  first = same_first q (with_product_carries f p) x.leaves x.first;
  shown = shows_with_product q f c x.leaves p bytes fits x.shown;
}

-- the text of the root stays
text-with_product : (f : Formula) (p : Product) → text_of (with_product f p) ≡ text_of f
unfolding with_product
text-with_product (Leaf label t) p = refl
text-with_product (Join op label fs) p = refl
text-with_product (Not label f) p = refl
text-with_product (Named label name f) p = refl
text-with_product (AtLeast k label fs) p = refl

module _ {name : List ℕ} {value : Entry} {part : Formula → Type 0} where
  pub with_product_text_fits : {text : Option (List ℕ)} {f : Formula} → ((g : Formula) → part g → FitsEntry (text_of g) text) → IsWithProduct name value part f → FitsEntry (text_of f) text
  with_product_text_fits fits p = rw (p.is, text-with_product p.inner (record { name = name; value = value })) (fits p.inner p.of_part)

  pub one_with_product : {f g : Formula} → ((x y : Formula) → part x → part y → x ≡ y) → IsWithProduct name value part f → IsWithProduct name value part g → f ≡ g
  one_with_product one p q = p.is ∙ ap (λ z. with_product z (record { name = name; value = value })) (one p.inner q.inner p.of_part q.of_part) ∙ sym q.is

  pub HasTruth-with_product : {b : Bool} → HasTruth part b → HasTruth (IsWithProduct name value part) b
  HasTruth-with_product h = record { at = λ f p. ap truth p.is ∙ with_product_truth p.inner (record { name = name; value = value }) ∙ h.at p.inner p.of_part }

  pub IsCaseOf-with_product : {q : Kind} {b : Bool} {c t : Tree CaseNode} → IsShowing name value c t → IsCaseBy q part b c → IsCaseBy q (IsWithProduct name value part) b t
  IsCaseOf-with_product {q} {b} {c} {t} s h = record {
    truth = HasTruth-with_product h.truth;
    explains = λ f p. rw (p.is, s.is) (explains_with_product q p.inner c (record { name = name; value = value }) s.bytes s.fits (h.explains p.inner p.of_part));
  }

-- what is found of it
module _ (q : Kind) (name : List ℕ) (value : Entry) (part : Formula → Type 0) where
  pub nothing_with_product : (w : Option Bool) → IsFoundBy q part w None → IsFoundBy q (IsWithProduct name value part) w None
  nothing_with_product (Some e) x = HasTruth-with_product x
  nothing_with_product None x = λ f p. x p.inner p.of_part

  pub found_with_product : (w : Option Bool) {c t : Tree CaseNode} → IsShowing name value c t → IsFoundBy q part w (Some c) → IsFoundBy q (IsWithProduct name value part) w (Some t)
  found_with_product (Some e) s x = IsCaseOf-with_product s x
  found_with_product None s x = case_by_result (IsCaseOf-with_product s x)
