-- What is written and told of a row's parts, one more at a time.
use Rattle.std.proofs.Common.{◌≡◌, ℕ, zero, suc, ◌<◌, List, [], ◌∷◌, ◌++◌, Option, Some, codes, map, length, Result, Ok, arith, refl, sym, ap, ◌∙◌}
use Rattle.std.specs.declared.fmt.Formatter.{Formatter}
use Rattle.std.specs.declared.fmt.Error.{Error}
use Rattle.std.specs.Fmt.{◌++?◌, DisplaysOnOk}
use Rattle.std.proofs.Output.{then_text_assoc, displays_on_IsOk_append}
use Rattle.predicates_core.specs.Label.{Entry, Product}
use Rattle.predicates_core.specs.Parts.{Part, part_of_each}
use Rattle.predicates_core.specs.Several.{further_texts, listed_text}
use Rattle.predicates_core.specs.Tree.{Forest, empty, branch}
use Rattle.predicates_core.proofs.Listing.{nothing_behind, nothing_before, further_last}
use Rattle.predicates_tree.specs.declared.check.Check.{Check}
use Rattle.predicates_tree.specs.Trees.{Words, trees_of, tree_of}
use Rattle.predicates_tree.specs.Formulas.{tree_texts, check_text}
use Rattle.predicates_tree.specs.Described.{row_parts, check_parameters, check_parts}
use Rattle.predicates_tree.specs.Listed.{joined_texts, texts_behind, text_at}

pub joined_last : (ts : List (Option (List ℕ))) (t : Option (List ℕ)) → joined_texts (ts ++ t ∷ []) ≡ joined_texts ts ++? text_at (length ts) t
joined_last [] t = nothing_behind t ∙ sym (nothing_before t)
joined_last (s ∷ ts) t = ap (λ z. s ++? z) (further_last ts t) ∙ sym (then_text_assoc s (further_texts ts) (Some (codes ", ") ++? t))

-- the texts, apart from where the first one ends
pub listed : (before : List ℕ) (ts : List (Option (List ℕ))) → listed_text before ts ≡ texts_behind before (joined_texts ts)
listed before [] = refl
listed before (t ∷ ts) = ap (λ z. Some before ++? (Some (codes "(") ++? z)) (sym (then_text_assoc t (further_texts ts) (Some (codes ")"))))

module _ {W : Type 0} (took : W → List ℕ → W → Type 0) where
  -- a part that is not the first, from the comma and its text
  pub text_behind : (f g h : Formatter W) (r : Result (Unit {0}) Error) (k : ℕ) (t : Option (List ℕ)) → 0 < k → DisplaysOnOk took f (Ok tt) (Some (codes ", ")) g → DisplaysOnOk took g r t h → DisplaysOnOk took f r (text_at k t) h
  text_behind f g h r zero t some x y = absurd (omega (arith, some))
  text_behind f g h r (suc k) t some x y = displays_on_IsOk_append took f g h (Ok tt) r (Some (codes ", ")) t (λ ok. refl) x y

module _ {L V S : Type 0} (text : L → Entry) (view_text : V → Entry) (words : S → Words) where
  pub each_text : (cs : List (Check L V S)) → tree_texts text view_text (trees_of (map (tree_of words) cs)) ≡ map (check_text text view_text words) cs
  each_text [] = refl
  each_text (c ∷ cs) = ap (λ ts. check_text text view_text words c ∷ ts) (each_text cs)

  module _ (parameters : L → List Product) (below : L → Forest Part) where
    pub each_described : (name : List ℕ) (cs : List (Check L V S)) → row_parts text view_text parameters below name (trees_of (map (tree_of words) cs)) ≡ part_of_each name (check_text text view_text words) (check_parameters parameters words) (check_parts text view_text parameters below words) cs
    each_described name [] = refl
    each_described name (c ∷ cs) = λ i. branch name (record { text = check_text text view_text words c; parameters = check_parameters parameters words c }) (check_parts text view_text parameters below words c) (each_described name cs i)

    pub no_parts : (name : List ℕ) (cs : List (Check L V S)) → row_parts text view_text parameters below name (trees_of (map (tree_of words) cs)) ≡ empty → cs ≡ []
    no_parts name [] e = refl
    no_parts name (c ∷ cs) e = absurd (cc)
