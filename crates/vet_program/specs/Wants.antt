-- What the words want of the program.
use Rattle.std.specs.Prelude.{◌≡◌, ◌&&◌, ℕ, Bool, false, Option, codes}
use Rattle.clap.specs.declared.parser.matches.Found.{Found}
use Rattle.vet_run.specs.Settings.{id_of}
use Rattle.vet_program.specs.Colours.{colours_of, has_blocks, is_coloured, style_by}
use Rattle.vet_program.specs.Words.{IsFlag, IsNumber, clashes, format_of, report_by}
use Rattle.vet_program.specs.Words.{label_of, input_of, summary_of}
use Rattle.vet_program.specs.declared.flags.Flags.{Flags}
use Rattle.vet_program.specs.declared.wanted.Wanted.{Wanted}

-- the report is that of the flags that are set, which can stand together; blocks are coloured as
-- the words say, where nothing is said as the process can show it
pub record IsWanted (shows : Bool) (found : Found) (wanted : Wanted) : Type 0 where
  pub flags : Flags
  pub failed : IsFlag found (codes "failed") flags.failed
  pub passed : IsFlag found (codes "passed") flags.passed
  pub json : IsFlag found (codes "json") flags.json
  pub change : IsFlag found (codes "change") flags.change
  pub all : IsFlag found (codes "all") flags.all
  pub format : flags.format ≡ format_of found
  pub allowed : clashes flags ≡ false
  pub report : wanted.settings.report ≡ report_by flags
  pub id : id_of wanted.settings ≡ label_of found
  pub parts : Option ℕ
  pub shown : IsNumber found (codes "parts") parts
  pub style : wanted.settings.style
      ≡ style_by parts (has_blocks (report_by flags) && is_coloured (colours_of found) shows)
  pub summary : wanted.summary ≡ summary_of found
  pub input : wanted.input ≡ input_of found
  pub most : IsNumber found (codes "max") wanted.most
  pub progress : IsFlag found (codes "progress") wanted.progress
  pub flush : IsFlag found (codes "flush") wanted.flush
