-- The cases of leaves that show the item, and then products that a test states.
use Rattle.std.proofs.Common.{◌≡◌, ℕ, Bool, List, [], ◌∷◌, ◌++◌, Some, codes, refl, sym, ap, ◌∙◌, subst}
use Rattle.predicates_core.specs.Label.{Entry, Product, Fits, FitsText, FitsProducts}
use Rattle.predicates_core.specs.Formula.{Leaf}
use Rattle.predicates_core.specs.Tree.{Tree}
use Rattle.predicates_core.specs.Describe.{CaseNode, NamedBytes}
use Rattle.predicates_core.specs.Shows.{Shows, Explains, IsCaseOf, IsNode}
use Rattle.predicates_core.specs.Leaves.{IsExactly, IsShowing}
use Rattle.predicates_core.specs.Details.{showing_details, with_products}
use Rattle.predicates_core.proofs.Leaves.{HasTruth-exactly}
use Rattle.predicates_core.specs.Kinds.{reasons}
use Rattle.predicates_core.proofs.BothKinds.{first-Leaf}

module _ {text item : Entry} {own b : Bool} {c d : Tree CaseNode} {bytes : List ℕ} (ps : List Product) (gs : List NamedBytes) where
  explains_details : FitsProducts ps gs → IsShowing (codes "var") item c d → IsNode (Some bytes) b [] c → Fits text bytes → own ≡ b → Explains (Leaf (showing_details text item ps) own) (with_products d gs)
  unfolding Shows
  explains_details fit s written fits e =
      let shown : List Product = record { name = codes "var"; value = item } ∷ ps in
      record {
        leaves = 0 ∷ [];
        first = first-Leaf (showing_details text item ps) own reasons;
        shown = (
          record {
            text = subst (λ z. FitsText text z.root.text) (sym s.is) (bytes, written.text.1 ∙ ap Some written.text.2, fits);
            result = ap (λ z. z.root.result) s.is ∙ written.result ∙ sym e;
            products = subst (λ z. FitsProducts shown (z.root.products ++ gs)) (sym s.is)
                (subst (λ z. FitsProducts shown ((z ++ (codes "var", s.bytes) ∷ []) ++ gs)) (sym written.products) (refl, s.fits, fit));
          },
          ap (λ z. z.children) s.is ∙ written.children,
          refl,
        );
      }

  -- the node with its products behind the item explains a leaf that shows them
  pub IsCaseOf-details : {t : Tree CaseNode} → t ≡ with_products d gs → FitsProducts ps gs → IsShowing (codes "var") item c d → IsNode (Some bytes) b [] c → Fits text bytes → own ≡ b
      → IsCaseOf (IsExactly (Leaf (showing_details text item ps) own)) b t
  IsCaseOf-details {t} is fit s written fits e = record {
    truth = HasTruth-exactly e;
    explains = λ f x. subst (λ g. Explains g t) (sym x.is) (subst (λ z. Explains (Leaf (showing_details text item ps) own) z) (sym is) (explains_details fit s written fits e));
  }
