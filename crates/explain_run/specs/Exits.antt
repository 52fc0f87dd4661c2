-- How a call of the program ends: its status, and what it says of it.
use Rattle.std.specs.Prelude.{◌≡◌, ◌≢◌, ◌⊎◌, ℕ, Bool, true, false, List, [], Option, Result, Ok}
use Rattle.std.specs.Prelude.{Err, codes}
use Rattle.explain_run.specs.CommandLine.{IsWrongToken, AreWrongTokens}
use Rattle.explain_run.specs.CommandLine.{AreWrongWords, AreRightWords, HasProblem}
use Rattle.explain_run.specs.CommandLine.{HasRunOf, HasRunOfUntil}
use Rattle.explain_words.specs.Postfix.{FailsFirst, IsFirstProblem}
use Rattle.explain_words.specs.declared.check.TextCheck.{TextCheck}
use Rattle.streams.specs.declared.run_fault.RunFault.{RunFault}
use Rattle.streams.specs.declared.run_fault.RunFault.TheVariants.{NoMemory as RunNoMemory}
use Rattle.streams.specs.declared.run_fault.RunFault.TheVariants.{Input, Output}
use Rattle.explain_run.specs.declared.program.exit.Exit.{Exit}
use Rattle.explain_run.specs.declared.program.exit.Exit.TheVariants.{AllItems, NotAllItems}
use Rattle.explain_run.specs.declared.program.exit.Exit.TheVariants.{Usage, PatternRefused}
use Rattle.explain_run.specs.declared.program.exit.Exit.TheVariants.{TooDeep}
use Rattle.explain_run.specs.declared.program.exit.Exit.TheVariants.{NoMemory, InputOrOutput}
use Rattle.explain_words.specs.declared.word_problem.WordProblem.TheVariants.{BadExpression}
use Rattle.explain_words.specs.declared.word_problem.WordProblem.TheVariants.{
  TooDeep as NestedTooDeep,
}

abbrev pub status_of : Exit → ℕ
status_of AllItems = 0
status_of NotAllItems = 1
status_of Usage = 2
status_of PatternRefused = 2
status_of TooDeep = 2
status_of NoMemory = 3
status_of InputOrOutput = 3

-- a status that some end has
abbrev pub IsStatus : ℕ → Type 0
IsStatus status = (end : Exit) × (status ≡ status_of end)

abbrev pub message_of : Exit → List ℕ
message_of AllItems = []
message_of NotAllItems = []
message_of Usage = codes "usage: explain between LO HI\nusage: explain text TOKEN..\n"
message_of PatternRefused = codes "explain: pattern refused\n"
message_of TooDeep = codes "explain: check nested too deep\n"
message_of NoMemory = codes "explain: no memory\n"
message_of InputOrOutput = codes "explain: input or output fault\n"

-- the end of a run that had a fault
abbrev pub exit_of_fault : RunFault → Exit
exit_of_fault RunNoMemory = NoMemory
exit_of_fault Input = InputOrOutput
exit_of_fault Output = InputOrOutput

abbrev pub exit_of_ran : Result Bool RunFault → Exit
exit_of_ran (Ok true) = AllItems
exit_of_ran (Ok false) = NotAllItems
exit_of_ran (Err fault) = exit_of_fault fault

-- what ends the reading of tokens at this one
abbrev pub IsTokenFault : List TextCheck → List ℕ → Exit → Type 0
IsTokenFault stack token Usage = IsWrongToken stack token
IsTokenFault stack token PatternRefused = IsFirstProblem BadExpression stack token
IsTokenFault stack token TooDeep = IsFirstProblem NestedTooDeep stack token
IsTokenFault stack token NoMemory = Unit {0}
IsTokenFault stack token _ = ⊥

-- what ends the reading of all tokens
abbrev pub HasTokensFault : List (List ℕ) → Exit → Type 0
HasTokensFault tokens Usage = AreWrongTokens tokens
HasTokensFault tokens PatternRefused = FailsFirst tokens (IsFirstProblem BadExpression)
HasTokensFault tokens TooDeep = FailsFirst tokens (IsFirstProblem NestedTooDeep)
HasTokensFault tokens NoMemory = Unit {0}
HasTokensFault tokens _ = ⊥

-- when the program ends so, for these words; `untouched` says that nothing was read or written
abbrev pub EndsBy : List (List ℕ) → Type 0 → Option (List ℕ) → Option (List ℕ) → Option (List ℕ)
    → Option (List ℕ) → Exit → Type 0
EndsBy words untouched r0 r1 w0 w1 AllItems = HasRunOf words r0 r1 w0 w1 true
EndsBy words untouched r0 r1 w0 w1 NotAllItems = HasRunOf words r0 r1 w0 w1 false
EndsBy words untouched r0 r1 w0 w1 Usage = AreWrongWords words × untouched
EndsBy words untouched r0 r1 w0 w1 PatternRefused = HasProblem BadExpression words × untouched
EndsBy words untouched r0 r1 w0 w1 TooDeep = HasProblem NestedTooDeep words × untouched
EndsBy words untouched r0 r1 w0 w1 NoMemory =
    untouched ⊎ HasRunOfUntil words r0 r1 w0 w1 RunNoMemory
EndsBy words untouched r0 r1 w0 w1 InputOrOutput = AreRightWords words
    × ((fault : RunFault) × (fault ≢ RunNoMemory) × HasRunOfUntil words r0 r1 w0 w1 fault)
