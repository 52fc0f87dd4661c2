-- What a predicate of one of two types means, by the type that it has.
use Rattle.std.specs.Prelude.{ℕ, List, Option}
use Rattle.predicates_core.specs.Label.{FitsEntry}
use Rattle.predicates_core.specs.Formula.{Formula, text_of}
use Rattle.std.specs.Prelude.{◌≡◌}
use Rattle.tests_support.specs.declared.one_of.OneOf.{OneOf}
use Rattle.tests_support.specs.declared.one_of.OneOf.TheVariants.{First, Second}

module _ {A B : Type 0} where
  -- a value by the type
  abbrev pub by_type : {R : Type 0} → (A → R) → (B → R) → OneOf A B → R
  by_type a b (First p) = a p
  by_type a b (Second p) = b p.value

  -- a fact by the type
  abbrev pub fact_by_type : (A → Type 0) → (B → Type 0) → OneOf A B → Type 0
  fact_by_type a b (First p) = a p
  fact_by_type a b (Second p) = b p.value

  pub text_fits_by_type : (a : A → Formula → Type 0) (b : B → Formula → Type 0)
      (s : A → Option (List ℕ)) (t : B → Option (List ℕ))
      → ((p : A) (f : Formula) → a p f → FitsEntry (text_of f) (s p))
      → ((p : B) (f : Formula) → b p f → FitsEntry (text_of f) (t p))
      → (p : OneOf A B) (f : Formula) → fact_by_type (λ q. a q f) (λ q. b q f) p
      → FitsEntry (text_of f) (by_type s t p)
  text_fits_by_type a b s t first second (First p) f h = first p f h
  text_fits_by_type a b s t first second (Second p) f h = second p.value f h

  pub lawful_by_type : {a : A → Type 0} {b : B → Type 0} → ((p : A) → a p) → ((p : B) → b p)
      → (p : OneOf A B) → fact_by_type a b p
  lawful_by_type first second (First p) = first p
  lawful_by_type first second (Second p) = second p.value

  pub one_by_type : {k : A → Type 0} {l : B → Type 0} {a : A → Formula → Type 0}
      {b : B → Formula → Type 0}
      → ((p : A) (f g : Formula) → k p → a p f → a p g → f ≡ g)
      → ((p : B) (f g : Formula) → l p → b p f → b p g → f ≡ g)
      → (p : OneOf A B) (f g : Formula) → fact_by_type k l p
      → fact_by_type (λ q. a q f) (λ q. b q f) p → fact_by_type (λ q. a q g) (λ q. b q g) p
      → f ≡ g
  one_by_type first second (First p) f g = first p f g
  one_by_type first second (Second p) f g = second p.value f g
