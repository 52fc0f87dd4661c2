-- A formula that leaves no entry open has one case alone.
use Rattle.std.proofs.Common.{◌≡◌, ℕ, suc, List, [], ◌∷◌, Bool, false, Some, None, refl, sym, ap, subst, ◌∙◌}
use Rattle.std.specs.Prelude.{IsSome, codes}
use Rattle.std.specs.List.{AllByRecursion}
use Rattle.predicates_core.specs.Tree.{Tree, Forest, branch, empty}
use Rattle.predicates_core.specs.Describe.{CaseNode, NamedBytes}
use Rattle.predicates_core.specs.Label.{Label, Product, Entry, Fits, FitsProducts}
use Rattle.predicates_core.specs.Formula.{Formula, Formulas, one, more, Leaf, Join, Not, Named, AtLeast, number_of_parts, needed, size, truth}
use Rattle.predicates_core.specs.Kinds.{Kind, reasons}
use Rattle.predicates_core.specs.Shows.{FitsNode, ShowsPart, ShowsNumbered, numbered, tells_numbers, Shows, ShowsParts, Explains, left_share, right_share}
use Rattle.predicates_core.specs.Alike.{IsStated, HasStatedLabels, HaveStatedLabels}
use Rattle.predicates_core.proofs.BothKinds.{first_unique}

one_value : (entry : Entry) (x y : List ℕ) → IsSome entry → Fits entry x → Fits entry y → x ≡ y
one_value None x y given fx fy = absurd (cc)
one_value (Some bytes) x y given fx fy = fx ∙ sym fy

one_list : (ps : List Product) (xs ys : List NamedBytes) → AllByRecursion (λ p. IsSome p.value) ps → FitsProducts ps xs → FitsProducts ps ys → xs ≡ ys
one_list [] [] [] given hx hy = refl
one_list [] [] (y ∷ ys) given hx hy = absurd hy
one_list [] (x ∷ xs) ys given hx hy = absurd hx
one_list (p ∷ ps) [] ys given hx hy = absurd hx
one_list (p ∷ ps) (x ∷ xs) [] given hx hy = absurd hy
one_list (p ∷ ps) (x ∷ xs) (y ∷ ys) given hx hy =
    let names : x.0 ≡ y.0 = hx.0 ∙ sym hy.0 in
    let values : x.1 ≡ y.1 = one_value p.value x.1 y.1 given.0 hx.1 hy.1 in
    let first : x ≡ y = λ i. (names i, values i) in
    let rest : xs ≡ ys = one_list ps xs ys given.1 hx.2 hy.2 in
    λ i. first i ∷ rest i

one_node : (label : Label) (b : Bool) (n m : CaseNode) → IsStated label → FitsNode label b n → FitsNode label b m → n ≡ m
one_node label b n m stated hn hm =
    let texts : n.text ≡ m.text = hn.text.1 ∙ ap Some (one_value label.text hn.text.0 hm.text.0 stated.text hn.text.2 hm.text.2) ∙ sym hm.text.1 in
    let results : n.result ≡ m.result = hn.result ∙ sym hm.result in
    let lists : n.products ≡ m.products = one_list label.products n.products m.products stated.products hn.products hm.products in
    λ i. record { text = texts i; result = results i; products = lists i }

-- a part is shown by one case with its share
abbrev IsShownOnce : (Tree CaseNode → List ℕ → Type 0) → Type 0
IsShownOnce showing = (S : List ℕ) (c d : Tree CaseNode) → showing c S → showing d S → c ≡ d

one_part : (showing : Tree CaseNode → List ℕ → Type 0) (name S : List ℕ) (x y after_x after_y : Forest CaseNode) → IsShownOnce showing → after_x ≡ after_y
    → ShowsPart showing name S x after_x → ShowsPart showing name S y after_y → x ≡ y
one_part showing name [] x y after_x after_y once e hx hy = hx ∙ e ∙ sym hy
one_part showing name (k ∷ S) x y after_x after_y once e hx hy =
    let first : hx.0 ≡ hy.0 = once (k ∷ S) hx.0 hy.0 hx.2 hy.2 in
    hx.1 ∙ (λ i. branch name (first i).root (first i).children (e i)) ∙ sym hy.1

one_numbered : (tells : Bool) (k : ℕ) (showing : Tree CaseNode → List ℕ → Type 0) → IsShownOnce showing → IsShownOnce (ShowsNumbered tells k showing)
one_numbered tells k showing once S c d hc hd = hc.1 ∙ ap (numbered tells k) (once S hc.0 hd.0 hc.2 hd.2) ∙ sym hd.1

one_tree : (label : Label) (b : Bool) (c d : Tree CaseNode) → IsStated label → FitsNode label b c.root → FitsNode label b d.root → c.children ≡ d.children → c ≡ d
one_tree label b c d stated hc hd children =
    let roots : c.root ≡ d.root = one_node label b c.root d.root stated hc hd in
    λ i. record { root = roots i; children = children i }

-- two cases that show the formula cut down to the same leaves are equal
mutual
  unfolding Shows HasStatedLabels

  one_shown : (q : Kind) (f : Formula) → HasStatedLabels f → IsShownOnce (Shows q f)
  one_shown q (Leaf label own) stated S c d hc hd = one_tree label _ c d stated hc.0 hd.0 (hc.1 ∙ sym hd.1)
  one_shown q (Join op label fs) stated S c d hc hd =
      one_tree label _ c d stated.0 hc.0 hd.0 (one_list_of_parts q false 0 fs stated.1 S c.children d.children hc.1 hd.1)
  one_shown q (Not label f) stated S c d hc hd =
      one_tree label _ c d stated.0 hc.0 hd.0 (one_part (Shows q f) (codes "predicate") S c.children d.children empty empty (one_shown q f stated.1) refl hc.1 hd.1)
  one_shown q (Named label name f) stated S c d hc hd =
      one_tree label _ c d stated.0 hc.0 hd.0 (one_part (Shows q f) name S c.children d.children empty empty (one_shown q f stated.1) refl hc.1 hd.1)
  one_shown q (AtLeast k label fs) stated S c d hc hd =
      one_tree label _ c d stated.0 hc.0 hd.0 (one_list_of_parts q (tells_numbers q (truth (AtLeast k label fs)) (needed k fs) (number_of_parts fs)) 0 fs stated.1 S c.children d.children hc.1 hd.1)

  one_list_of_parts : (q : Kind) (tells : Bool) (k : ℕ) (fs : Formulas) → HaveStatedLabels fs → (S : List ℕ) (x y : Forest CaseNode) → ShowsParts q tells k fs x S → ShowsParts q tells k fs y S → x ≡ y
  one_list_of_parts q tells k (one name f) stated S x y hx hy = one_part (ShowsNumbered tells k (Shows q f)) name S x y empty empty (one_numbered tells k (Shows q f) (one_shown q f stated)) refl hx hy
  one_list_of_parts q tells k (more name f fs) stated S x y hx hy =
      let rests : hx.0 ≡ hy.0 = one_list_of_parts q tells (suc k) fs stated.1 (right_share (size f) S) hx.0 hy.0 hx.2 hy.2 in
      one_part (ShowsNumbered tells k (Shows q f)) name (left_share (size f) S) x y hx.0 hy.0 (one_numbered tells k (Shows q f) (one_shown q f stated.0)) rests hx.1 hy.1

-- two cases that explain the formula are equal
pub one_case : (f : Formula) (c d : Tree CaseNode) → HasStatedLabels f → Explains f c → Explains f d → c ≡ d
one_case f c d stated x y = one_shown reasons f stated y.leaves c d (subst (λ S. Shows reasons f c S) (first_unique x.first y.first) x.shown) y.shown
