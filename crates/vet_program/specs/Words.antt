-- What the words of the command line say.
use Rattle.std.specs.Prelude.{◌≡◌, ◌==◌, ℕ, ◌<◌, ◌^◌, List, [], ◌∷◌, Bool, true, false, not, ◌&&◌}
use Rattle.std.specs.Prelude.{◌||◌}
use Rattle.std.specs.Prelude.{Option, Some, None, SomeIff, codes}
use Rattle.std.specs.Prelude.{if◌then◌else◌, option_map, is_some}
use Rattle.std.specs.Str.{bytes_eq, is_utf8}
use Rattle.std.specs.Str.Parse.{IsNumeral, digits_value, without_leading_plus}
use Rattle.clap.specs.Matches.{one_text, first_value}
use Rattle.clap.specs.declared.parser.matches.Found.{Found}
use Rattle.vet_run.specs.declared.settings.Report.{Report}
use Rattle.vet_run.specs.declared.settings.Report.TheVariants.{First, All, Change, Json}
use Rattle.vet_run.specs.declared.settings.Report.TheVariants.{Lines, GitHub, JUnit}
use Rattle.vet_run.specs.declared.input_format.InputFormat.{InputFormat}
use Rattle.vet_run.specs.declared.input_format.InputFormat.TheVariants.{JsonLines}
use Rattle.vet_run.specs.declared.input_format.InputFormat.TheVariants as input
use Rattle.vet_program.specs.declared.flags.Flags.{Flags}
use Rattle.vet_program.specs.declared.format.Format.{Format}
use Rattle.vet_program.specs.declared.format.Format.TheVariants as form
use Rattle.vet_program.specs.declared.summary_form.SummaryForm.{SummaryForm}
use Rattle.vet_program.specs.declared.summary_form.SummaryForm.TheVariants as shown

-- what is shown of a word that is not UTF-8, which has a mark; nothing of any other
abbrev pub untold_of : List ℕ → Option (List ℕ)
untold_of [] = None
untold_of (code ∷ text) = if code == 0 then Some text else None

-- the text of a word: itself, or behind a mark what is shown of it
pub record IsText (word text : List ℕ) : Type 0 where
  pub same : is_utf8 word ≡ true → text ≡ word
  pub marked : is_utf8 word ≡ false → is_some (untold_of text) ≡ true

-- the flag is set, or not
pub record IsFlag (found : Found) (name : List ℕ) (is_set : Bool) : Type 0 where
  pub absent : one_text found name ≡ None → is_set ≡ false
  pub set : one_text found name ≡ Some (codes "true") → is_set ≡ true
  pub unset : one_text found name ≡ Some (codes "false") → is_set ≡ false

-- the number that a text writes, where 64 bits hold it
abbrev pub ReadsNumber : List ℕ → Option ℕ → Type 0
ReadsNumber text number =
    let digits = without_leading_plus text in
    SomeIff number (IsNumeral 10 digits × (digits_value 10 digits < 2 ^ 64))
    (digits_value 10 digits)

-- the number that stands behind the name, if one does
pub record IsNumber (found : Found) (name : List ℕ) (number : Option ℕ) : Type 0 where
  pub absent : one_text found name ≡ None → number ≡ None
  pub given : (text : List ℕ) → one_text found name ≡ Some text → ReadsNumber text number

-- the form of this name
abbrev pub format_named : Option (List ℕ) → Option Format
format_named None = None
format_named (Some name) =
    if bytes_eq name (codes "github") then Some form.GitHub
    else (if bytes_eq name (codes "junit") then Some form.JUnit else None)

-- the form that another program reads, where one is asked for
abbrev pub format_of : Found → Option Format
format_of found = format_named (first_value found (codes "format"))

-- the form of this name, in which the counts of the rules are shown
abbrev pub summary_named : Option (List ℕ) → Option SummaryForm
summary_named None = None
summary_named (Some name) =
    if bytes_eq name (codes "lines") then Some shown.Lines
    else (if bytes_eq name (codes "json") then Some shown.Json else None)

-- the form in which they are shown, where that is asked for
abbrev pub summary_of : Found → Option SummaryForm
summary_of found = summary_named (first_value found (codes "summary"))

-- some of the flags can't stand together: lines as they stand go with no other report and with one
-- of both verdicts, but `--failed` may choose the objects of `--json`; changes go with no other;
-- what another program reads may show all rules, and goes with no other
abbrev pub clashes : Flags → Bool
clashes flags =
    (flags.failed && (flags.passed || (flags.change || (flags.all && not flags.json))))
    || ((flags.passed && (flags.change || (flags.json || flags.all)))
    || ((flags.change && (flags.json || flags.all))
    || (is_some flags.format && (flags.failed || (flags.passed || (flags.json || flags.change))))))

-- what a run reports, of flags that can stand together, where no other program is named
abbrev pub plain_report : Flags → Report
plain_report flags =
    if flags.json then Json flags.all flags.failed
    else (if flags.failed then Lines false
    else (if flags.passed then Lines true
    else (if flags.change then Change
    else (if flags.all then All else First))))

-- the same in a form that another program reads
abbrev pub report_in : Option Format → Flags → Report
report_in None flags = plain_report flags
report_in (Some form.GitHub) flags = GitHub flags.all
report_in (Some form.JUnit) flags = JUnit

-- what a run reports, of flags that can stand together
abbrev pub report_by : Flags → Report
report_by flags = report_in flags.format flags

-- how records stand in the inputs, by this name: one on a line where none is given
abbrev pub input_named : Option (List ℕ) → InputFormat
input_named None = JsonLines
input_named (Some name) = if bytes_eq name (codes "json") then input.Json else JsonLines

-- how they stand
abbrev pub input_of : Found → InputFormat
input_of found = input_named (first_value found (codes "input-format"))

-- a path as JSON Pointer has it: `/` alone stands for the record itself
abbrev pub pointer_of : List ℕ → List ℕ
pointer_of path = if bytes_eq path (codes "/") then [] else path

-- what labels a record
abbrev pub label_of : Found → Option (List ℕ)
label_of found = option_map pointer_of (first_value found (codes "id"))
