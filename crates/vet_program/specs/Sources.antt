-- What an input is called.
use Rattle.std.specs.Prelude.{ℕ, List, Bool, true, false, Option, Some, None, codes}
use Rattle.std.specs.Prelude.{if◌then◌else◌}
use Rattle.std.specs.Str.{bytes_eq}
use Rattle.vet_run.specs.declared.settings.Report.{Report}
use Rattle.vet_run.specs.declared.settings.Report.TheVariants.{First, All, Change, Json}
use Rattle.vet_run.specs.declared.settings.Report.TheVariants.{Lines, GitHub, JUnit}

-- a file has its name, and standard input none where it is the only input
abbrev pub named_source : Bool → List ℕ → Option (List ℕ)
named_source false name = Some name
named_source true name = if bytes_eq name (codes "-") then None else Some name

-- in objects only one of several inputs has a name
abbrev pub object_source : Bool → List ℕ → Option (List ℕ)
object_source false name = Some name
object_source true name = None

-- what an input is called, which is the only one, or one of several
abbrev pub source_by : Report → Bool → List ℕ → Option (List ℕ)
source_by First only name = named_source only name
source_by All only name = named_source only name
source_by Change only name = named_source only name
source_by (Json all failed) only name = object_source only name
source_by (GitHub all) only name = named_source only name
source_by JUnit only name = named_source only name
source_by (Lines wanted) only name = named_source only name
