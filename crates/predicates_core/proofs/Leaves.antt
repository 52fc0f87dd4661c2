-- Leaves, and the cases that explain them.
use Rattle.std.proofs.Common.{◌≡◌, ℕ, Bool, true, false, List, [], ◌∷◌, Option, Some, None, refl, sym, ap, ◌∙◌, subst}
use Rattle.std.specs.Prelude.{Result, Ok, Err, IfOk}
use Rattle.predicates_core.specs.Label.{Label, Entry, plain, showing, showing_both, with_last, Fits}
use Rattle.predicates_core.specs.Formula.{Formula, Leaf, truth, HasTruth, with_product}
use Rattle.predicates_core.specs.Kinds.{reasons}
use Rattle.predicates_core.specs.Tree.{Tree}
use Rattle.predicates_core.specs.Describe.{CaseNode}
use Rattle.predicates_core.specs.Shows.{Shows, Explains, IsAnswer, IsCaseOf, IsFound, IsNode}
use Rattle.predicates_core.specs.Leaves.{IsExactly, IsShowing}
use Rattle.predicates_core.specs.Asked.{is_other}
use Rattle.predicates_core.proofs.Found.{no_formula, none_wanted, case_wanted}
use Rattle.predicates_core.proofs.Values.{truth-Leaf}
use Rattle.predicates_core.proofs.BothKinds.{first-Leaf}
use Rattle.predicates_core.proofs.CombinedLemmas.{node_fits, node_of_text}
use Rattle.predicates_core.proofs.Added.{IsCaseOf-with_product}

pub HasTruth-same : {F : Formula → Type 0} {a b : Bool} → HasTruth F a → a ≡ b → HasTruth F b
HasTruth-same {F} h e = subst (HasTruth F) e h

module _ {label : Label} {own : Bool} where
  pub HasTruth-exactly : {b : Bool} → own ≡ b → HasTruth (IsExactly (Leaf label own)) b
  HasTruth-exactly e = record { at = λ f h. ap truth h.is ∙ truth-Leaf label own ∙ e }

  pub own_truth : {b : Bool} → HasTruth (IsExactly (Leaf label own)) b → own ≡ b
  own_truth h = sym (truth-Leaf label own) ∙ h.at (Leaf label own) (record { is = refl })

-- what is found of a leaf where another truth is wanted, and where its own is
pub other_leaf : (label : Label) (own : Bool) (w : Option Bool) → is_other w own ≡ true → IsFound (IsExactly (Leaf label own)) w None
other_leaf label own w other = none_wanted w (HasTruth-exactly refl) other

pub leaf_wanted : {E : Type 0} (label : Label) (own : Bool) (w : Option Bool) (r : Result (Option (Tree CaseNode)) E) → is_other w own ≡ false → IfOk r (IsAnswer (IsExactly (Leaf label own)) own) → IfOk r (IsFound (IsExactly (Leaf label own)) w)
leaf_wanted label own w (Err e) same x = tt
leaf_wanted label own w (Ok (Some t)) same x = case_wanted w x same
leaf_wanted label own w (Ok None) same x =
    let has : HasTruth (IsExactly (Leaf label own)) own = HasTruth-exactly refl in
    absurd (no_formula has x (Leaf label own) (record { is = refl }))

-- with one product more, the last, on both sides
one_more : (label : Label) {own b : Bool} {c t : Tree CaseNode} {name : List ℕ} {value : Entry} → IsShowing name value c t → IsCaseOf (IsExactly (Leaf label own)) b c
    → IsCaseOf (IsExactly (Leaf (with_last label (record { name = name; value = value })) own)) b t
unfolding with_product
one_more label {own} s h =
    let more = IsCaseOf-with_product s h in
    record {
      truth = HasTruth-exactly (own_truth h.truth);
      explains = λ f x. more.explains f (record { inner = Leaf label own; of_part = record { is = refl }; is = x.is });
    }

explains_bare : (text : Entry) (own b : Bool) (t : Tree CaseNode) → own ≡ b → IsNode text b [] t → Explains (Leaf (plain text) own) t
unfolding Shows
explains_bare text own b t e node = record {
  leaves = 0 ∷ [];
  first = first-Leaf (plain text) own reasons;
  shown = (node_fits text b own [] t node e, node.children, refl);
}

module _ {text : Entry} {own b : Bool} where
  -- the node alone explains a leaf that has no products
  pub IsCaseOf-leaf : {t : Tree CaseNode} {bytes : List ℕ} → IsNode (Some bytes) b [] t → Fits text bytes → HasTruth (IsExactly (Leaf (plain text) own)) b → IsCaseOf (IsExactly (Leaf (plain text) own)) b t
  IsCaseOf-leaf {t} written fits h = record {
    truth = h;
    explains = λ f x. subst (λ g. Explains g t) (sym x.is) (explains_bare text own b t (own_truth h) (node_of_text written fits));
  }

  -- the node with its product explains a leaf that has one
  pub IsCaseOf-showing : {c t : Tree CaseNode} {name : List ℕ} {value : Entry} {bytes : List ℕ} → IsShowing name value c t → IsNode (Some bytes) b [] c → Fits text bytes → HasTruth (IsExactly (Leaf (showing text name value) own)) b → IsCaseOf (IsExactly (Leaf (showing text name value) own)) b t
  IsCaseOf-showing s written fits h = one_more (plain text) s (IsCaseOf-leaf written fits (HasTruth-exactly (own_truth h)))

  -- the node with its two products explains a leaf that has both
  pub IsCaseOf-showing_both : {c d t : Tree CaseNode} {first second : List ℕ} {v w : Entry} {bytes : List ℕ} → IsShowing first v c d → IsShowing second w d t → IsNode (Some bytes) b [] c → Fits text bytes → HasTruth (IsExactly (Leaf (showing_both text first v second w) own)) b → IsCaseOf (IsExactly (Leaf (showing_both text first v second w) own)) b t
  IsCaseOf-showing_both {first} {v} r s written fits h = one_more (showing text first v) s (IsCaseOf-showing r written fits (HasTruth-exactly (own_truth h)))

pub ruleset leaves = (HasTruth-exactly, IsCaseOf-leaf, IsCaseOf-showing)
