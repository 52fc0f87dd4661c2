-- What is told of a fault of the system.
use Rattle.std.specs.Prelude.{ℕ, List, ◌++◌, Option, Some, None, codes}
use Rattle.std.specs.Fmt.{◌++?◌}
use Rattle.std.specs.declared.io.ErrorKind.{ErrorKind}
use Rattle.std.specs.declared.io.ErrorKind.TheVariants.{OutOfMemory}
use Rattle.streams.specs.RunFault.{fault_text}
use Rattle.streams.specs.declared.run_fault.RunFault.{RunFault}

-- that memory ran out is told as everywhere; the system's words for any other are left open
abbrev pub io_fault_text : ErrorKind → Option (List ℕ)
io_fault_text OutOfMemory = Some (codes "no memory")
io_fault_text _ = None

-- a fault of a run, and why a read or a write failed, where one did
abbrev pub stream_fault_text : RunFault → Option ErrorKind → Option (List ℕ)
stream_fault_text fault None = Some (fault_text fault)
stream_fault_text fault (Some kind) =
    Some (fault_text fault ++ codes ": ") ++? io_fault_text kind
