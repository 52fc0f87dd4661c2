-- Values and parts, one after the other.
use Rattle.std.proofs.Common.{◌≡◌, ℕ, suc, List, [], ◌∷◌, ◌++◌, map, length, refl, ap, ◌∙◌, arith, append-nil, false}
use Rattle.std.specs.Prelude.{◌==◌, String}
use Rattle.std.specs.declared.alloc.Global.{Global}
use Rattle.std.proofs.lemmas.Bool.Decides.{nat_tests}
use Rattle.serde_json.specs.declared.value.Value.{Value as JsonValue}
use Rattle.serde_json.specs.View.{items_view, members_view}
use Rattle.vet_rules.specs.Trees.{Tree, trees_of}
use Rattle.predicates_tree.specs.Trees.{trees_of as dynamic_trees}
use Rattle.vet_checks.specs.Questions.{no_item_there, no_member_there, number_of_items, number_of_members}
use Rattle.vet_checks.specs.CheckTrees.{CheckTree}
use Rattle.vet_checks.specs.Compiled.{IsTreeOf, AreTreesOf}

-- ---- how much is in a value

suc_not_zero : (n : ℕ) → (suc n == 0) ≡ false
suc_not_zero n = grind (arith, nat_tests)

pub no_items_are : (vs : List JsonValue) → (length vs == 0) ≡ no_item_there (items_view vs)
no_items_are [] = refl
no_items_are (v ∷ vs) = suc_not_zero (length vs)

pub no_members_are : (ms : List (String Global × JsonValue)) → (length ms == 0) ≡ no_member_there (members_view ms)
no_members_are [] = refl
no_members_are (m ∷ ms) = suc_not_zero (length ms)

pub items_counted : (vs : List JsonValue) → length vs ≡ number_of_items (items_view vs)
items_counted [] = refl
items_counted (v ∷ vs) = ap suc (items_counted vs)

pub members_counted : (ms : List (String Global × JsonValue)) → length ms ≡ number_of_members (members_view ms)
members_counted [] = refl
members_counted (m ∷ ms) = ap suc (members_counted ms)

-- ---- the checks of expressions

pub trees_more : {X Y : Type 0} (f : X → Tree) (g : Y → CheckTree) (es : List X) (ps : List Y) (e : X) (p : Y) → AreTreesOf (trees_of (map f es)) (dynamic_trees (map g ps)) → IsTreeOf (f e) (g p) → AreTreesOf (trees_of (map f (es ++ e ∷ []))) (dynamic_trees (map g (ps ++ p ∷ [])))
trees_more f g [] [] e p h k = (k, tt)
trees_more f g [] (q ∷ ps) e p h k = absurd h
trees_more f g (d ∷ es) [] e p h k = absurd h
trees_more f g (d ∷ es) (q ∷ ps) e p h k = (h.0, trees_more f g es ps e p h.1 k)

-- an iterator with nothing left gave all
pub all_yielded : {X : Type 0} (all xs rest : List X) → all ≡ xs ++ rest → length rest ≡ 0 → all ≡ xs
all_yielded all xs [] e none = e ∙ append-nil xs
all_yielded all xs (x ∷ rest) e none = absurd (omega (arith, none))
