-- The texts of faults, and how answers of the system are kept.
use Rattle.std.specs.Prelude.{◌≡◌, ℕ, List, Option, None, Some, Result, Ok, Err, IsOkAnd}
use Rattle.std.specs.Prelude.{MatchResult, codes}
use Rattle.std.specs.declared.alloc.AllocError.{AllocError}
use Rattle.std.specs.declared.io.Error.{Error}
use Rattle.std.specs.declared.io.ErrorKind.{ErrorKind}
use Rattle.std.specs.declared.io.ErrorKind.TheVariants.{NotFound as SystemNotFound}
use Rattle.std.specs.declared.io.ErrorKind.TheVariants.{PermissionDenied as SystemPermissionDenied}
use Rattle.std.specs.declared.io.ErrorKind.TheVariants.{OutOfMemory}
use Rattle.std.specs.IoError.{error_kind}
use Rattle.predicates_path.specs.declared.fault.PathFault.{PathFault}
use Rattle.predicates_path.specs.declared.fault.PathFault.TheVariants.{NotFound, PermissionDenied}
use Rattle.predicates_path.specs.declared.fault.PathFault.TheVariants.{NotRegular, Other}

-- how a fault is printed
abbrev pub fault_text : PathFault → List ℕ
fault_text NotFound = codes "not found"
fault_text PermissionDenied = codes "permission denied"
fault_text NotRegular = codes "not a regular file"
fault_text Other = codes "other fault"

-- the fault that a kind of error is; that memory ran out is none
abbrev pub fault_of : ErrorKind → Option PathFault
fault_of SystemNotFound = Some NotFound
fault_of SystemPermissionDenied = Some PermissionDenied
fault_of OutOfMemory = None
fault_of _ = Some Other

-- the result is the fault that the error is, or that memory ran out
abbrev pub IsFaultOf : Error → Result PathFault AllocError → Type 0
IsFaultOf error result = MatchResult result (λ fault. fault_of (error_kind error) ≡ Some fault)
    (λ _. fault_of (error_kind error) ≡ None)

-- what the system answered is kept as the relation says, and its error as a fault, unless memory
-- ran out
abbrev pub IsKeptAs : {T F : Type 0} → (T → F → Type 0) → Result T Error
    → Result (Result F PathFault) AllocError → Type 0
IsKeptAs IsFound (Ok answer) result = IsOkAnd result (λ found. IsOkAnd found (IsFound answer))
IsKeptAs IsFound (Err error) result =
    MatchResult result
    (λ found. MatchResult found (λ _. ⊥) (λ fault. fault_of (error_kind error) ≡ Some fault))
    (λ _. fault_of (error_kind error) ≡ None)
