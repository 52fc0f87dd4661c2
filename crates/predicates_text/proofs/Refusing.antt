-- What `regex` says of a pattern, in the words of `specs/Refusals`.
use Rattle.std.proofs.Common.{◌≢◌, ℕ, List, Result, Ok, Err, ⊎_elim, arith, refl}
use Rattle.std.specs.Prelude.{IfErr}
use Rattle.regex.specs.Patterns.{Reads, Refuses, default_config}
use Rattle.regex.specs.Sources.{IsRefusal}
use Rattle.regex.specs.Failures.{IsRightKind}
use Rattle.regex.specs.declared.error.Error.{Error}
use Rattle.regex.specs.declared.error.Error.TheVariants.{Syntax, CompiledTooBig, Internal, OutOfMemory}
use Rattle.predicates_text.specs.Refusals.{IsRefusedBy}

-- the clauses of an error say so of each that is no lack of memory: what the grammar refuses it does not read
pub refused_by : (pattern : List ℕ) (error : Error) → IsRefusal default_config pattern error → IsRightKind default_config pattern error
    → error ≢ Internal → error ≢ OutOfMemory → IsRefusedBy pattern error
unfolding Reads Refuses
refused_by pattern (Syntax e) refusal kind own memory = λ read.
    ⊎_elim kind (⊎_elim (λ none. absurd (rw none at read.2)) (λ deep. absurd (grind (arith, read.2, deep.1)))) (refusal e refl)
refused_by pattern CompiledTooBig refusal kind own memory = kind
refused_by pattern Internal refusal kind own memory = own refl
refused_by pattern OutOfMemory refusal kind own memory = memory refl

pub refused_by_result : {A : Type 0} (pattern : List ℕ) (r : Result A Error) → IfErr r (IsRefusal default_config pattern)
    → IfErr r (IsRightKind default_config pattern) → IfErr r (λ e. e ≢ Internal) → IfErr r (λ e. e ≢ OutOfMemory → IsRefusedBy pattern e)
refused_by_result pattern (Ok x) refusal kind own = tt
refused_by_result pattern (Err e) refusal kind own = refused_by pattern e refusal kind own
