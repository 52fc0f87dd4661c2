-- Conditions without where they lie in memory.
use Rattle.std.specs.Prelude.{ℕ, List, map, string_bytes}
use Rattle.vet_rules.specs.declared.condition as declared
use Rattle.vet_rules.specs.declared.condition.Comparison.{Comparison}
use Rattle.vet_rules.specs.declared.condition.Condition.TheVariants as conditions
use Rattle.vet_rules.specs.declared.condition.Relation.{Relation}
use Rattle.vet_rules.specs.declared.condition.State.{State}
use Rattle.vet_rules.specs.declared.condition.ValueKind.{ValueKind}
use Rattle.vet_rules.specs.Literals.{Literal, literal_of}

pub data Condition : Type 0 where
  Is : (s : State) → Condition
  Compare : (o : Comparison) → (v : Literal) → Condition
  CompareWith : (o : Comparison) → (path : List ℕ) → Condition
  Length : (o : Comparison) → (n : ℕ) → Condition
  IsOf : (k : ValueKind) → Condition
  Relate : (r : Relation) → (text : List ℕ) → Condition
  In : (vs : List Literal) → Condition
  KeysIn : (texts : List (List ℕ)) → Condition

abbrev pub condition_of : declared.Condition.Condition → Condition
condition_of (conditions.Is s) = Is s
condition_of (conditions.Compare o v) = Compare o (literal_of v)
condition_of (conditions.CompareWith o path) = CompareWith o (string_bytes path)
condition_of (conditions.Length o n) = Length o n
condition_of (conditions.IsOf k) = IsOf k
condition_of (conditions.Relate r text) = Relate r (string_bytes text)
condition_of (conditions.In vs) = In (map literal_of vs.items)
condition_of (conditions.KeysIn texts) = KeysIn (map string_bytes texts.items)
