-- Why no predicate is made of a regular expression.
use Rattle.std.specs.Prelude.{ℕ, List}
use Rattle.regex.specs.Patterns.{default_config}
use Rattle.regex.specs.Failures.{IsPattern}
use Rattle.regex.specs.declared.error.Error.{Error}
use Rattle.regex.specs.declared.error.Error.TheVariants.{Syntax, CompiledTooBig, Internal}
use Rattle.regex.specs.declared.error.Error.TheVariants.{OutOfMemory}

-- the grammar of `regex` reads the pattern, under its default options and within its limit on
-- nesting
abbrev pub IsExpression : List ℕ → Type 0
IsExpression pattern = IsPattern default_config pattern

-- the error is about the pattern, and no lack of memory: it is no expression, or an expression that
-- is too large, of which `regex` says no more
abbrev pub IsRefusedBy : List ℕ → Error → Type 0
IsRefusedBy pattern (Syntax e) = ¬ (IsExpression pattern)
IsRefusedBy pattern CompiledTooBig = IsExpression pattern
IsRefusedBy pattern Internal = ⊥
IsRefusedBy pattern OutOfMemory = ⊥

-- the pattern is refused by some error, which is no lack of memory
abbrev pub IsRefused : List ℕ → Type 0
IsRefused pattern = (error : Error) × IsRefusedBy pattern error
