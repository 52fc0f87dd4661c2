-- Why no check is made of an expression.
use Rattle.std.specs.Prelude.{◌≡◌, ◌≢◌, ◌⊎◌, ℕ, ◌+◌, List, ◌++◌, Option, Some, None, codes, decimal}
use Rattle.std.specs.Prelude.{length, string_bytes}
use Rattle.std.specs.List.{slice_range}
use Rattle.std.specs.Str.{chars}
use Rattle.regex.specs.Patterns.{default_config}
use Rattle.regex.specs.Sources.{IsTextRefusal}
use Rattle.regex.specs.Failures.{IsRightKind}
use Rattle.regex.specs.declared.error.Error.{Error}
use Rattle.regex.specs.declared.error.Error.TheVariants.{Syntax, CompiledTooBig, Internal}
use Rattle.regex.specs.declared.error.Error.TheVariants.{OutOfMemory}
use Rattle.vet_rules.specs.declared.condition.Relation.TheVariants.{Matches}
use Rattle.vet_rules.specs.Quoting.{quoted_text}
use Rattle.vet_rules.specs.Conditions.{Condition, Relate}
use Rattle.vet_rules.specs.Trees.{Tree, Test, Not, Implies, Quantified, Joined, AtLeast}
use Rattle.vet_rules.specs.Trees.{Trees, none, more}
use Rattle.vet_checks.specs.declared.check_error.CheckError.{CheckError}
use Rattle.vet_checks.specs.declared.check_error.CheckError.TheVariants.{NoMemory}
use Rattle.vet_checks.specs.declared.check_error.CheckError.TheVariants.{Pattern}
use Rattle.vet_checks.specs.declared.pattern_fault.PatternFault.{PatternFault}

-- the character, from 1, that an error is about
abbrev pub column_of : List ℕ → Error → Option ℕ
column_of pattern (Syntax e) = Some (length (chars (slice_range pattern 0 e.span.start)) + 1)
column_of pattern CompiledTooBig = None
column_of pattern Internal = None
column_of pattern OutOfMemory = None

abbrev pub fault_text : List ℕ → Option ℕ → List ℕ
fault_text reason None = reason
fault_text reason (Some k) = reason ++ (codes " at character " ++ decimal k)

-- what is told of a pattern
abbrev pub refusal_text : PatternFault → List ℕ
refusal_text fault = codes "no regular expression: "
    ++ (fault_text (string_bytes fault.reason) fault.column
    ++ (codes ": " ++ quoted_text (string_bytes fault.pattern)))

abbrev pub error_text : CheckError → List ℕ
error_text NoMemory = codes "no memory"
error_text (Pattern fault) = refusal_text fault

-- `regex` refuses the pattern, which is no lack of memory: no text that its grammar reads, or one
-- that is too large; the column is that of its error
pub record IsRefused (fault : PatternFault) : Type 0 where
  pub error : Error
  pub by_grammar : IsTextRefusal default_config (string_bytes fault.pattern) error
  pub kind : IsRightKind default_config (string_bytes fault.pattern) error
  pub no_memory : error ≢ OutOfMemory
  pub no_internal : error ≢ Internal
  pub column : fault.column ≡ column_of (string_bytes fault.pattern) error

abbrev pub IsPatternOf : List ℕ → Condition → Type 0
IsPatternOf pattern (Relate r text) = (r ≡ Matches) × (pattern ≡ text)
IsPatternOf pattern t = ⊥

abbrev mutual
  -- the pattern stands in the expression
  pub IsPatternIn : List ℕ → Tree → Type 0
  IsPatternIn pattern (Test path t) = IsPatternOf pattern t
  IsPatternIn pattern (Not e) = IsPatternIn pattern e
  IsPatternIn pattern (Implies a b) = IsPatternIn pattern a ⊎ IsPatternIn pattern b
  IsPatternIn pattern (Quantified q path e) = IsPatternIn pattern e
  IsPatternIn pattern (Joined c es) = IsPatternAmong pattern es
  IsPatternIn pattern (AtLeast k es) = IsPatternAmong pattern es

  pub IsPatternAmong : List ℕ → Trees → Type 0
  IsPatternAmong pattern none = ⊥
  IsPatternAmong pattern (more e es) = IsPatternIn pattern e ⊎ IsPatternAmong pattern es

-- memory was refused, or the pattern is one that P has and `regex` refuses
abbrev pub IsFailure : (List ℕ → Type 0) → CheckError → Type 0
IsFailure P NoMemory = Unit {0}
IsFailure P (Pattern fault) = P (string_bytes fault.pattern) × IsRefused fault
