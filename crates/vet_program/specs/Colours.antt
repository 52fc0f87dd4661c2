-- How blocks are shown.
use Rattle.std.specs.Prelude.{ℕ, List, Bool, true, false, ◌&&◌, Option, Some, None, codes}
use Rattle.std.specs.Prelude.{if◌then◌else◌, unwrap_or}
use Rattle.std.specs.Str.{bytes_eq}
use Rattle.clap.specs.Matches.{first_value}
use Rattle.clap.specs.declared.parser.matches.Found.{Found}
use Rattle.predicates_style.specs.declared.style.Style.{Style}
use Rattle.vet_run.specs.declared.settings.Report.{Report}
use Rattle.vet_run.specs.declared.settings.Report.TheVariants.{First, All, Change, Json}
use Rattle.vet_run.specs.declared.settings.Report.TheVariants.{Lines, GitHub, JUnit}
use Rattle.vet_program.specs.declared.colours.Colours.{Colours}
use Rattle.vet_program.specs.declared.colours.Colours.TheVariants.{Auto, Always, Never}

-- when blocks are coloured, by this name
abbrev pub colours_named : Option (List ℕ) → Colours
colours_named None = Auto
colours_named (Some name) =
    if bytes_eq name (codes "always") then Always
    else (if bytes_eq name (codes "never") then Never else Auto)

-- when they are
abbrev pub colours_of : Found → Colours
colours_of found = colours_named (first_value found (codes "color"))

-- whether blocks are coloured, where a process can show colours, or can't
abbrev pub is_coloured : Colours → Bool → Bool
is_coloured Auto shows = shows
is_coloured Always shows = true
is_coloured Never shows = false

-- whether people read the report: what other programs read has no colours
abbrev pub has_blocks : Report → Bool
has_blocks First = true
has_blocks All = true
has_blocks Change = true
has_blocks (Json all failed) = false
has_blocks (GitHub all) = false
has_blocks JUnit = false
has_blocks (Lines wanted) = false

-- of a node so many parts are shown at most, or 1,000; of a value 1,000 characters; and control
-- characters are escaped
abbrev pub style_by : Option ℕ → Bool → Style
style_by parts coloured =
    record {
      children = Some (unwrap_or parts 1000);
      characters = Some 1000;
      escapes = true;
      colours = coloured;
    }
