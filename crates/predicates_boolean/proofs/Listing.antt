-- A list of parts has no descriptions only where it has no parts, since the description of each
-- part stands in that of the list.
use Rattle.std.specs.Prelude.{ℕ, List, [], ◌∷◌}
use Rattle.std.proofs.Common.{◌≡◌, refl}
use Rattle.predicates_core.specs.Label.{Entry, Product}
use Rattle.predicates_core.specs.Parts.{Part, part_of_each}
use Rattle.predicates_core.specs.Tree.{Forest, empty}

module _ {U : Type 0} (name : List ℕ) (text : U → Entry) (parameters : U → List Product) (below : U → Forest Part) where
  pub no_parts : (us : List U) → part_of_each name text parameters below us ≡ empty → us ≡ []
  no_parts [] e = refl
  no_parts (u ∷ us) e = absurd (cc)
