-- What a run is asked for.
use Rattle.std.specs.Prelude.{ℕ, List, Bool, true, false, not, ◌&&◌, Option, Some, option_map}
use Rattle.std.specs.Prelude.{string_bytes}
use mathlib.Core.Bool.{beq}
use Rattle.predicates_style.specs.declared.style.Style.{Style}
use Rattle.vet_run.specs.declared.job.Job.{Job}
use Rattle.vet_run.specs.declared.settings.Report.{Report}
use Rattle.vet_run.specs.declared.settings.Report.TheVariants.{First, All, Change, Json}
use Rattle.vet_run.specs.declared.settings.Report.TheVariants.{Lines, GitHub, JUnit}
use Rattle.vet_run.specs.declared.settings.Settings.{Settings}

-- the path that labels records
abbrev pub id_of : Settings → Option (List ℕ)
id_of s = option_map string_bytes s.id

-- the name of the input
abbrev pub source_of : Job → Option (List ℕ)
source_of j = option_map (λ s. s.now) j.source

-- how a case is shown where nothing else is asked: of a node the first 1,000 parts, and how many more
-- it has; of a value longer than 1,000 characters the first 1,000, and how many it has; and control
-- characters escaped
abbrev pub block_style : Style
block_style =
    record { children = Some 1000; characters = Some 1000; escapes = true; colours = false }

-- how a job shows a case
abbrev pub style_of : Job → Style
style_of j = j.settings.now.style

-- whether anything is written of a record that keeps every rule, or breaks one
abbrev pub tells : Report → Bool → Bool
tells First held = not held
tells All held = not held
tells Change held = not held
tells (Json all failed) held = not (failed && held)
tells (GitHub all) held = not held
tells JUnit held = false
tells (Lines wanted) held = beq held wanted

-- whether every rule that a record breaks is shown
abbrev pub shows_all : Report → Bool
shows_all First = false
shows_all All = true
shows_all Change = true
shows_all (Json all failed) = all
shows_all (GitHub all) = all
shows_all JUnit = false
shows_all (Lines wanted) = false
