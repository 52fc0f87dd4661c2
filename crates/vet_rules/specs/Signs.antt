-- Tokens without where they lie in memory.
use Rattle.std.specs.Prelude.{ℕ, List, map, string_bytes}
use Rattle.vet_rules.specs.declared.fixed.Fixed.{Fixed}
use Rattle.vet_rules.specs.declared.token.Kind.{Kind}
use Rattle.vet_rules.specs.declared.token.Kind.TheVariants as kinds
use Rattle.vet_rules.specs.declared.token.Token.{Token}
use Rattle.vet_rules.specs.Literals as literals
use Rattle.vet_rules.specs.Literals.{literal_of}

pub data Sign : Type 0 where
  Word : (f : Fixed) → Sign
  Path : (path : List ℕ) → Sign
  Literal : (v : literals.Literal) → Sign
  -- behind all others
  End : Sign

abbrev pub sign_of : Kind → Sign
sign_of (kinds.Word f) = Word f
sign_of (kinds.Path path) = Path (string_bytes path)
sign_of (kinds.Literal v) = Literal (literal_of v)
sign_of kinds.End = End

abbrev pub signs : List Token → List Sign
signs ts = map (λ t. sign_of t.kind) ts
