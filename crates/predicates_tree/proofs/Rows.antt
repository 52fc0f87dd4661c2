-- What is known of the parts of a row, as a list, and of the members of a view.
use Rattle.std.proofs.Common.{◌≡◌, ◌∙◌, Vec, Global, ◌<◌, ℕ, zero, suc, length, get_or, arith, ap, Bool, true, false, Result, Ok, Err, IfOk, subst, sym, List, [], ◌∷◌, Option, Some, None, map, refl}
use Rattle.std.specs.List.{AllByRecursion}
use Rattle.predicates_core.specs.Label.{Entry, Product}
use Rattle.predicates_core.specs.Formula.{Formula, Formulas, one, more, apply, HasTruth}
use Rattle.predicates_core.specs.Several.{AreOfEach}
use Rattle.predicates_core.specs.declared.custom.join.Operator.{Operator}
use Rattle.predicates_core.specs.declared.custom.join.Operator.TheVariants.{And, Or, Xor}
use Rattle.predicates_core.specs.Asked.{asks}
use Rattle.predicates_core.specs.Combined.{IsPair}
use Rattle.predicates_core.proofs.CombinedLemmas.{HasTruth-left}
use Rattle.predicates_core.proofs.Leaves.{HasTruth-exactly}
use Rattle.predicates_core.proofs.Fewer.{truth_of_fewer}
use Rattle.predicates_tree.specs.declared.check.Check.{Check}
use Rattle.predicates_tree.specs.declared.check.Check.TheVariants as forms
use Rattle.predicates_tree.specs.declared.quota.Quota.{Quota}
use Rattle.predicates_tree.proofs.Unrolled.{row_tree}
use Rattle.predicates_tree.specs.Quotas.{IsOfNumber, IsOfQuota}
use Rattle.predicates_tree.specs.Viewed.{IsViewed}
use Rattle.predicates_tree.specs.Trees.{Words, Row, trees_of, tree_of, AllLeaves, AllOfTrees, AllOf, AllAskedOfTrees, AsksAll}
use Rattle.predicates_tree.specs.Formulas.{tree_text, HasFormula, AreFormulas, IsNothing, number_of, Has}

-- what holds with any words holds with these
pub at_words : {E W : Type 0} (P : W → Bool → Type 0) (r : Result Bool E) → IfOk r (λ b. (w : W) → P w b) → (w : W) → IfOk r (P w)
at_words P (Ok b) h w = h w
at_words P (Err e) h w = tt

module _ {L V S : Type 0} where
  each_part : (fact : L → Type 0) (words : S → Words) (cs : List (Check L V S)) → AllOfTrees fact (trees_of (map (tree_of words) cs)) → AllByRecursion (AllOf fact words) cs
  each_part fact words [] h = tt
  each_part fact words (c ∷ cs) h = (h.0, each_part fact words cs h.1)

  pub row_lawful : (fact : L → Type 0) (words : S → Words) {c : Check L V S} {s : S} {q : Quota} (parts : Vec (Check L V S) Global) {cs : List (Check L V S)} → c ≡ forms.Row s q parts → cs ≡ parts.items → AllOf fact words c → AllByRecursion (AllOf fact words) cs
  row_lawful fact words {c} {s} {q} parts {cs} is same h = subst (AllByRecursion (AllOf fact words)) (sym same) (each_part fact words parts.items (subst (AllLeaves fact) (ap (tree_of words) is ∙ row_tree words s q parts) h))

  pub each_asked : {Item : Type 0} (fact : L → Item → Type 0) (lends : V → Item → Type 0) (gives : V → Item → Option (List Item) → Type 0) (words : S → Words) (v : Item) (cs : List (Check L V S)) → AllAskedOfTrees fact lends gives v (trees_of (map (tree_of words) cs)) → AllByRecursion (AsksAll fact lends gives words v) cs
  each_asked fact lends gives words v [] h = tt
  each_asked fact lends gives words v (c ∷ cs) h = (h.0, each_asked fact lends gives words v cs h.1)

  number_of_parts : (words : S → Words) (cs : List (Check L V S)) → number_of (trees_of (map (tree_of words) cs)) ≡ length cs
  number_of_parts words [] = refl
  number_of_parts words (c ∷ cs) = ap suc (number_of_parts words cs)

  no_parts : (words : S → Words) (cs : List (Check L V S)) → IsNothing (trees_of (map (tree_of words) cs)) → cs ≡ []
  no_parts words [] h = refl
  no_parts words (c ∷ cs) h = absurd h

  module _ {Item : Type 0} (text : L → Entry) (view_text : V → Entry) (has : L → Item → Formula → Type 0) (gives : V → Item → Option (List Item) → Type 0) (absence : V → Item → List Product) (words : S → Words) (v : Item) where
    are_of_each : (w : Words) (cs : List (Check L V S)) (fs : Formulas) → AreFormulas text view_text has gives absence w.part v (trees_of (map (tree_of words) cs)) fs → AreOfEach w.part (Has text view_text has gives absence words v) cs fs
    are_of_each w [] fs h = h
    are_of_each w (c ∷ cs) (one n f) h = (h.0, h.1, no_parts words cs h.2)
    are_of_each w (c ∷ cs) (more n f fs) h = (h.0, h.1, are_of_each w cs fs h.2)

    abbrev row_text : Words → Quota → List (Check L V S) → Entry
    row_text w q cs = tree_text text view_text (Row w q (trees_of (map (tree_of words) cs)))

    -- a formula of the row is one of the list of its parts
    pub of_parts : (w : Words) (q : Quota) (cs : List (Check L V S)) (f : Formula) → HasFormula text view_text has gives absence v (Row w q (trees_of (map (tree_of words) cs))) f → IsOfQuota q (row_text w q cs) w.part (Has text view_text has gives absence words v) cs f
    of_parts w q cs f h =
        let x = subst (λ n. IsOfNumber q n (row_text w q cs) (AreFormulas text view_text has gives absence w.part v (trees_of (map (tree_of words) cs))) f) (number_of_parts words cs) h in
        record {
          of_number = record {
            of_settled = x.of_settled;
            of_counted = λ some within. let o = x.of_counted some within in record { formulas = o.formulas; of_each = are_of_each w cs o.formulas o.of_each; is = o.is };
          };
        }

    pub verdict_of_row : {E : Type 0} (q : Quota) (cs : List (Check L V S)) (r : Result Bool E) → IfOk r (λ held. (own : Entry) (name : List ℕ) → HasTruth (IsOfQuota q own name (Has text view_text has gives absence words v) cs) held) → IfOk r (λ held. (w : Words) → HasTruth (HasFormula text view_text has gives absence v (Row w q (trees_of (map (tree_of words) cs)))) held)
    verdict_of_row q cs (Ok held) h = λ w. truth_of_fewer (of_parts w q cs) (h (row_text w q cs) w.part)
    verdict_of_row q cs (Err e) h = tt

-- what is known of each is known of one
pub each_at : {U : Type 0} (P : U → Type 0) (us : List U) (k : ℕ) (u : U) → AllByRecursion P us → k < length us → u ≡ get_or us k u → P u
each_at P [] k u h within is = absurd (omega (arith, within))
each_at P (x ∷ xs) zero u h within is = subst P (sym is) h.0
each_at P (x ∷ xs) (suc k) u h within is = each_at P xs k u h.1 (omega (arith, within)) is

-- what is answered of a list, or where there is none
module _ {U : Type 0} {text : Entry} {absence : List Product} {has : List U → Formula → Type 0} {gives : Option (List U) → Type 0} where
  pub truth_of_list : {b : Bool} (us : List U) → gives (Some us) → HasTruth (has us) b → HasTruth (IsViewed text absence has gives) b
  truth_of_list {b} us e h = record { at = λ f x. h.at f (x.of_list us e) }

  pub truth_of_absence : {b : Bool} → gives None → b ≡ false → HasTruth (IsViewed text absence has gives) b
  truth_of_absence e isnt = record { at = λ f x. (HasTruth-exactly (sym isnt)).at f (x.of_none e) }

-- where the right part does not count, the whole has the truth that it has with any
settled : (op : Operator) (a y : Bool) → asks op a ≡ false → apply op a y ≡ apply op a false
settled And false y ends = refl
settled And true y ends = absurd (cc)
settled Or true y ends = refl
settled Or false y ends = absurd (cc)
settled Xor a y ends = absurd (cc)

pub truth_of_first : (op : Operator) (a : Bool) {left right : Formula → Type 0} {text : Option (List ℕ)} {h : Bool} → asks op a ≡ false → HasTruth left a → h ≡ apply op a false → HasTruth (IsPair op text left right) h
truth_of_first op a {left} {right} {text} ends l is = subst (HasTruth (IsPair op text left right)) (sym is) (HasTruth-left op l refl (λ y. settled op a y ends))
