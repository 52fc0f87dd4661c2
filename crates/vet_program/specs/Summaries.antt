-- How the counts of the rules are shown.
use Rattle.std.specs.Prelude.{◌≡◌, ℕ, ◌++◌, List, codes}
use Rattle.vet_run.specs.Summaries.{IsSummary}
use Rattle.vet_run.specs.Sums.{Sum, sum_json}
use Rattle.vet_program.specs.declared.summary_form.SummaryForm.{SummaryForm}
use Rattle.vet_program.specs.declared.summary_form.SummaryForm.TheVariants.{Lines, Json}

-- as a line for each rule, or as an object on a line
abbrev pub IsShown : SummaryForm → Sum → List ℕ → Type 0
IsShown Lines sum text = IsSummary sum.rules text
IsShown Json sum text = text ≡ sum_json sum ++ codes "\n"
