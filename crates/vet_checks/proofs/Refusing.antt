-- Why no check is made of expressions, from why none is made of one of them.
use Rattle.std.proofs.Common.{◌≡◌, inl, inr, ℕ, List, [], ◌∷◌, ◌++◌, map, sym, subst}
use Rattle.std.specs.Prelude.{string_bytes}
use Rattle.vet_rules.specs.Trees.{Tree, trees_of}
use Rattle.vet_checks.specs.declared.check_error.CheckError.{CheckError}
use Rattle.vet_checks.specs.declared.check_error.CheckError.TheVariants.{NoMemory, Pattern}
use Rattle.vet_checks.specs.Refusals.{IsFailure, IsPatternIn, IsPatternAmong}

pub failure_within : (P Q : List ℕ → Type 0) (e : CheckError) → ((s : List ℕ) → P s → Q s) → IsFailure P e → IsFailure Q e
failure_within P Q NoMemory f h = tt
failure_within P Q (Pattern fault) f h = (f (string_bytes fault.pattern) h.0, h.1)

module _ {X : Type 0} (f : X → Tree) where
  stands_among : (s : List ℕ) (before : List X) (x : X) (rest : List X) → IsPatternIn s (f x) → IsPatternAmong s (trees_of (map f (before ++ x ∷ rest)))
  stands_among s [] x rest h = inl h
  stands_among s (y ∷ before) x rest h = inr (stands_among s before x rest h)

  pub failure_among : (all before : List X) (x : X) (rest : List X) (e : CheckError) → all ≡ before ++ x ∷ rest → IsFailure (λ s. IsPatternIn s (f x)) e → IsFailure (λ s. IsPatternAmong s (trees_of (map f all))) e
  failure_among all before x rest e is h = failure_within (λ s. IsPatternIn s (f x)) (λ s. IsPatternAmong s (trees_of (map f all))) e
      (λ s stands. subst (λ z. IsPatternAmong s (trees_of (map f z))) (sym is) (stands_among s before x rest stands)) h
