-- The truth of a combined formula, and the cases that explain it, from those of its parts.
use Rattle.std.proofs.Common.{◌≡◌, ℕ, Bool, List, [], ◌∷◌, Option, Some, codes, refl, sym, ap, ◌∙◌, subst}
use Rattle.std.specs.Prelude.{not}
use Rattle.predicates_core.specs.Label.{Entry, plain, Fits, FitsEntry, FitsProducts}
use Rattle.predicates_core.specs.declared.custom.join.Operator.{Operator}
use Rattle.predicates_core.specs.Formula.{Formula, Not, Named, apply, pair, truth, text_of, HasTruth}
use Rattle.predicates_core.specs.Kinds.{Kind}
use Rattle.predicates_core.specs.Tree.{Tree, empty}
use Rattle.predicates_core.specs.Describe.{CaseNode, NamedCase}
use Rattle.predicates_core.specs.Shows.{FitsNode, ShowsPart, Shows, ExplainsBy, IsCaseBy, IsNode}
use Rattle.predicates_core.specs.Combined.{IsPair, IsNot, IsNamed}
use Rattle.predicates_core.specs.LeafLaws.{fits_itself}
pub use Rattle.predicates_core.specs.NameLaws.{named_text_fits, one_named, has_named}
use Rattle.predicates_core.proofs.Values.{truth-pair, truth-Not, truth-Named}
pub use Rattle.predicates_core.proofs.Values.{not-not}
use Rattle.predicates_core.proofs.BothKinds.{same_first}
use Rattle.predicates_core.proofs.FirstOf.{not_carries, named_carries}
use Rattle.predicates_core.proofs.Shown.{shows_part, not_empty}

-- an entry fits what is printed just so
pub pair_text_fits : {op : Operator} {text : Option (List ℕ)} {left right : Formula → Type 0} {f : Formula} → IsPair op text left right f → FitsEntry (text_of f) text
pair_text_fits {text} h = subst (λ g. FitsEntry (text_of g) text) (sym h.is) (fits_itself text)

pub not_text_fits : {text : Option (List ℕ)} {part : Formula → Type 0} {f : Formula} → IsNot text part f → FitsEntry (text_of f) text
not_text_fits {text} h = subst (λ g. FitsEntry (text_of g) text) (sym h.is) (fits_itself text)

pub one_pair : {op : Operator} {text : Option (List ℕ)} {left right : Formula → Type 0} {f g : Formula} → ((x y : Formula) → left x → left y → x ≡ y) → ((x y : Formula) → right x → right y → x ≡ y) → IsPair op text left right f → IsPair op text left right g → f ≡ g
one_pair {op} {text} of_left of_right h k = h.is ∙ (λ i. pair op (plain text) (of_left h.left_formula k.left_formula h.of_left k.of_left i) (of_right h.right_formula k.right_formula h.of_right k.of_right i)) ∙ sym k.is

module _ {part : Formula → Type 0} {f g : Formula} where
  pub one_not : {text : Option (List ℕ)} → ((x y : Formula) → part x → part y → x ≡ y) → IsNot text part f → IsNot text part g → f ≡ g
  one_not {text} same h k = h.is ∙ ap (Not (plain text)) (same h.inner k.inner h.of_part k.of_part) ∙ sym k.is

-- where the parts have a formula, the whole has one
pub has_pair : {op : Operator} {text : Option (List ℕ)} {left right : Formula → Type 0} {f g : Formula} → left f → right g → IsPair op text left right (pair op (plain text) f g)
has_pair {f = f} {g = g} of_left of_right = record { left_formula = f; right_formula = g; of_left = of_left; of_right = of_right; is = refl }

module _ {part : Formula → Type 0} {f : Formula} where
  pub has_not : {text : Option (List ℕ)} → part f → IsNot text part (Not (plain text) f)
  has_not of_part = record { inner = f; of_part = of_part; is = refl }

-- ---- truth

pub HasTruth-pair : (op : Operator) {text : Option (List ℕ)} {left right : Formula → Type 0} {a b : Bool} → HasTruth left a → HasTruth right b → HasTruth (IsPair op text left right) (apply op a b)
HasTruth-pair op of_l of_r = record { at = λ f h. ap truth h.is ∙ truth-pair op _ h.left_formula h.right_formula ∙ (λ i. apply op (of_l.at h.left_formula h.of_left i) (of_r.at h.right_formula h.of_right i)) }

pub HasTruth-left : (op : Operator) {text : Option (List ℕ)} {left right : Formula → Type 0} {a b e : Bool} → HasTruth left a → a ≡ b → ((y : Bool) → apply op b y ≡ e) → HasTruth (IsPair op text left right) e
HasTruth-left op of_l e decides = record { at = λ f h. ap truth h.is ∙ truth-pair op _ h.left_formula h.right_formula ∙ (λ i. apply op ((of_l.at h.left_formula h.of_left ∙ e) i) (truth h.right_formula)) ∙ decides (truth h.right_formula) }

module _ {text : Option (List ℕ)} {part : Formula → Type 0} {a b : Bool} where
  pub HasTruth-not : HasTruth part a → b ≡ not a → HasTruth (IsNot text part) b
  HasTruth-not of_part e = record { at = λ f h. ap truth h.is ∙ truth-Not (plain text) h.inner ∙ ap not (of_part.at h.inner h.of_part) ∙ sym e }

pub HasTruth-named : {name : List ℕ} {part : Formula → Type 0} {a : Bool} → HasTruth part a → HasTruth (IsNamed name part) a
HasTruth-named {name} of_part = record { at = λ f h. ap truth h.is ∙ truth-Named (plain (Some name)) name h.inner ∙ of_part.at h.inner h.of_part }

-- ---- cases

pub node_fits : (text : Entry) (b v : Bool) (parts : List NamedCase) (t : Tree CaseNode) → IsNode text b parts t → v ≡ b → FitsNode (plain text) v t.root
node_fits text b v parts t h e = record { text = h.text; result = h.result ∙ sym e; products = subst (FitsProducts []) (sym h.products) tt }

module _ (q : Kind) (inner : Formula) (b : Bool) (t c : Tree CaseNode) (text : Entry) where
  explains_not : ExplainsBy q inner c → IsNode text b ((codes "predicate", c) ∷ []) t → truth (Not (plain text) inner) ≡ b → ExplainsBy q (Not (plain text) inner) t
  unfolding Shows
  explains_not x node e = record {
    leaves = x.leaves;
    first = same_first q (not_carries (plain text) inner) x.leaves x.first;
    shown = (node_fits text b _ _ t node e, subst (λ ch. ShowsPart (Shows q inner) (codes "predicate") x.leaves ch empty) (sym node.children) (shows_part (Shows q inner) (codes "predicate") empty x.leaves c (not_empty q inner x.leaves x.first) x.shown));
  }

  pub explains_named : (name : List ℕ) → ExplainsBy q inner c → IsNode text b ((name, c) ∷ []) t → truth (Named (plain text) name inner) ≡ b → ExplainsBy q (Named (plain text) name inner) t
  unfolding Shows
  explains_named name x node e = record {
    leaves = x.leaves;
    first = same_first q (named_carries (plain text) name inner) x.leaves x.first;
    shown = (node_fits text b _ _ t node e, subst (λ ch. ShowsPart (Shows q inner) name x.leaves ch empty) (sym node.children) (shows_part (Shows q inner) name empty x.leaves c (not_empty q inner x.leaves x.first) x.shown));
  }

-- ---- from the parts' cases to the case of the whole

-- a node whose text is given fits an entry that the text fits
pub node_of_text : {entry : Entry} {bytes : List ℕ} {b : Bool} {parts : List NamedCase} {t : Tree CaseNode} → IsNode (Some bytes) b parts t → Fits entry bytes → IsNode entry b parts t
node_of_text {entry} {bytes} h fits = record {
  text = (bytes, h.text.1 ∙ ap Some h.text.2, fits);
  result = h.result;
  products = h.products;
  children = h.children;
}

module _ {q : Kind} {part : Formula → Type 0} {b : Bool} {c t : Tree CaseNode} where
  pub IsCaseOf-not : {text : Option (List ℕ)} → {bytes : List ℕ} → IsNode (Some bytes) b ((codes "predicate", c) ∷ []) t → Fits text bytes → IsCaseBy q part (not b) c → IsCaseBy q (IsNot text part) b t
  IsCaseOf-not {text} written fits x =
      let node : IsNode text b ((codes "predicate", c) ∷ []) t = node_of_text written fits in
      let whole : HasTruth (IsNot text part) b = HasTruth-not x.truth (sym (not-not b)) in
      record {
        truth = whole;
        explains = λ f h. subst (λ g. ExplainsBy q g t) (sym h.is) (explains_not q h.inner b t c text (x.explains h.inner h.of_part) node (ap truth (sym h.is) ∙ whole.at f h));
      }

  pub IsCaseOf-named : {name : List ℕ} → {bytes : List ℕ} → IsNode (Some bytes) b ((name, c) ∷ []) t → Fits (Some name) bytes → IsCaseBy q part b c → IsCaseBy q (IsNamed name part) b t
  IsCaseOf-named {name} written fits x =
      let node : IsNode (Some name) b ((name, c) ∷ []) t = node_of_text written fits in
      let whole : HasTruth (IsNamed name part) b = HasTruth-named x.truth in
      record {
        truth = whole;
        explains = λ f h. subst (λ g. ExplainsBy q g t) (sym h.is) (explains_named q h.inner b t c (Some name) name (x.explains h.inner h.of_part) node (ap truth (sym h.is) ∙ whole.at f h));
      }

-- a node over the part's case, which stands under what is the name
pub IsCaseOf-under : {q : Kind} {part : Formula → Type 0} {b : Bool} {c t : Tree CaseNode} {name under bytes : List ℕ} → IsNode (Some bytes) b ((under, c) ∷ []) t → under ≡ name → Fits (Some name) bytes → IsCaseBy q part b c → IsCaseBy q (IsNamed name part) b t
IsCaseOf-under {b = b} {c = c} {t = t} {bytes = bytes} written is = IsCaseOf-named (subst (λ n. IsNode (Some bytes) b ((n, c) ∷ []) t) is written)

-- what is found for a part decides the whole
pub ruleset combined = (HasTruth-not, HasTruth-named, IsCaseOf-not, IsCaseOf-named)
