-- What stands at a path, by how the path begins.
use Rattle.std.proofs.Common.{◌≡◌, ◌≢◌, ℕ, Bool, true, false, List, [], ◌∷◌, refl, sym, ap, arith}
use Rattle.std.specs.Prelude.{cond, ◌==◌}
use Rattle.std.proofs.lemmas.Bool.Decides.{nat_tests}
use Rattle.serde_json.specs.Find.{pointer}
use Rattle.vet_checks.specs.Scopes.{Place, stands}

module _ (p : Place) where
  by_first : (b : ℕ) (path : List ℕ) (is : Bool) → (b == 94) ≡ is → ((rest : List ℕ) → b ∷ path ≢ 94 ∷ rest) → cond is (pointer path p.whole) (pointer (b ∷ path) p.item) ≡ pointer (b ∷ path) p.item
  by_first b path true e other =
      let same : b ≡ 94 = grind (arith, nat_tests) in
      absurd (other path (ap (λ z. z ∷ path) same))
  by_first b path false e other = refl

  pub from_item : (path : List ℕ) → ((rest : List ℕ) → path ≢ 94 ∷ rest) → pointer path p.item ≡ stands path p
  from_item [] other = refl
  from_item (b ∷ path) other = sym (by_first b path (b == 94) refl other)
