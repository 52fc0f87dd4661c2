-- Literals without where they lie in memory.
use Rattle.std.specs.Prelude.{ℕ, ℤ, Float, Bool, List, string_bytes}
use Rattle.vet_rules.specs.declared.literal as declared
use Rattle.vet_rules.specs.declared.literal.Literal.TheVariants as literals

pub data Literal : Type 0 where
  Natural : (n : ℕ) → Literal
  Negative : (z : ℤ) → Literal
  -- a number as it is written, and the float that JSON reads there
  Decimal : (text : List ℕ) → (x : Float) → Literal
  Text : (text : List ℕ) → Literal
  Boolean : (b : Bool) → Literal
  Null : Literal

abbrev pub literal_of : declared.Literal.Literal → Literal
literal_of (literals.Natural n) = Natural n
literal_of (literals.Negative z) = Negative z
literal_of (literals.Decimal text x) = Decimal (string_bytes text) x
literal_of (literals.Text text) = Text (string_bytes text)
literal_of (literals.Boolean b) = Boolean b
literal_of literals.Null = Null
