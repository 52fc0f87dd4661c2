-- What a fault of a run prints.
use Rattle.std.specs.Prelude.{ℕ, List, codes}
use Rattle.streams.specs.declared.run_fault.RunFault.{RunFault}
use Rattle.streams.specs.declared.run_fault.RunFault.TheVariants.{NoMemory, Input, Output}

abbrev pub fault_text : RunFault → List ℕ
fault_text NoMemory = codes "no memory"
fault_text Input = codes "input could not be read"
fault_text Output = codes "output could not be written"
