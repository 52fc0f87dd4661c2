-- How the program ends, by what its run answered.
use Rattle.std.proofs.Common.{◌≡◌, ℕ, ◌≤◌, ◌-◌, ℤ, Bool, true, false, List, [], ◌∷◌, get_or, take, drop, length, Option, Result, Ok, Err, IfOk, inl, inr, codes, string_bytes, sym, ap, ◌∙◌, arith}
use Rattle.std.specs.Global.{Global}
use Rattle.std.specs.Prelude.{Vec}
use Rattle.std.specs.Prelude.{IfErr}
use Rattle.std.specs.Str.{IsUtf8}
use Rattle.std.proofs.lemmas.List.{take_all}
use Rattle.explain_run.specs.Answers.{between_formula, IsNumber, IsNumberAnswer}
use Rattle.explain_words.specs.Checks.{HasFormula}
use Rattle.explain_run.specs.Exits.{exit_of_ran, EndsBy, HasTokensFault}
use Rattle.explain_run.specs.Runs.{HasRun, HasRunUntil}
use Rattle.explain_run.specs.TextAnswers.{IsTextAnswer}
use Rattle.explain_run.specs.CommandLine.{typed, AreBounds, AreCheck, AreRightWords, HasRunOf, HasRunOfUntil, between_until, text_until, between_run, text_run, between_words, text_words, wrong_text}
use Rattle.explain_words.specs.declared.check.TextCheck.{TextCheck}
use Rattle.streams.specs.declared.run_fault.RunFault.{RunFault}
use Rattle.streams.specs.declared.run_fault.RunFault.TheVariants.{NoMemory as RunNoMemory, Input, Output}
use Rattle.explain_run.specs.declared.program.exit.Exit.{Exit}
use Rattle.explain_run.specs.declared.program.exit.Exit.TheVariants.{Usage, PatternRefused, TooDeep, NoMemory}

module _ (words : List (List ℕ)) (untouched : Type 0) (r0 r1 w0 w1 : Option (List ℕ)) where
  ends_by_run : (ran : Result Bool RunFault) → AreRightWords words → IfOk ran (HasRunOf words r0 r1 w0 w1)
      → IfErr ran (HasRunOfUntil words r0 r1 w0 w1) → EndsBy words untouched r0 r1 w0 w1 (exit_of_ran ran)
  ends_by_run (Ok true) right run until = run
  ends_by_run (Ok false) right run until = run
  ends_by_run (Err RunNoMemory) right run until = inr until
  ends_by_run (Err Input) right run until = (right, (Input, (λ e. absurd (cc)), until))
  ends_by_run (Err Output) right run until = (right, (Output, (λ e. absurd (cc)), until))

  as_between : (ran : Result Bool RunFault) (lo hi : ℤ) → AreBounds words lo hi
      → IfOk ran (HasRun (IsNumberAnswer (between_formula lo hi)) IsNumber r0 r1 w0 w1) → IfOk ran (HasRunOf words r0 r1 w0 w1)
  as_between (Ok all) lo hi bounds run = between_run lo hi bounds run
  as_between (Err fault) lo hi bounds run = run

  as_text : (ran : Result Bool RunFault) (check : TextCheck) → AreCheck words check
      → IfOk ran (HasRun (IsTextAnswer (λ item. HasFormula check (string_bytes item))) IsUtf8 r0 r1 w0 w1) → IfOk ran (HasRunOf words r0 r1 w0 w1)
  as_text (Ok all) check tokens run = text_run check tokens run
  as_text (Err fault) check tokens run = run

  until_between : (ran : Result Bool RunFault) (lo hi : ℤ) → AreBounds words lo hi
      → IfErr ran (HasRunUntil (IsNumberAnswer (between_formula lo hi)) r0 r1 w0 w1) → IfErr ran (HasRunOfUntil words r0 r1 w0 w1)
  until_between (Ok all) lo hi bounds until = until
  until_between (Err fault) lo hi bounds until = between_until lo hi bounds until

  until_text : (ran : Result Bool RunFault) (check : TextCheck) → AreCheck words check
      → IfErr ran (HasRunUntil (IsTextAnswer (λ item. HasFormula check (string_bytes item))) r0 r1 w0 w1) → IfErr ran (HasRunOfUntil words r0 r1 w0 w1)
  until_text (Ok all) check tokens until = until
  until_text (Err fault) check tokens until = text_until check tokens until

  pub ends_between : (ran : Result Bool RunFault) (lo hi : ℤ) → AreBounds words lo hi
      → IfOk ran (HasRun (IsNumberAnswer (between_formula lo hi)) IsNumber r0 r1 w0 w1)
      → IfErr ran (HasRunUntil (IsNumberAnswer (between_formula lo hi)) r0 r1 w0 w1) → EndsBy words untouched r0 r1 w0 w1 (exit_of_ran ran)
  ends_between ran lo hi bounds run until =
      ends_by_run ran (between_words lo hi bounds) (as_between ran lo hi bounds run) (until_between ran lo hi bounds until)

  pub ends_text : (ran : Result Bool RunFault) (check : TextCheck) → AreCheck words check
      → IfOk ran (HasRun (IsTextAnswer (λ item. HasFormula check (string_bytes item))) IsUtf8 r0 r1 w0 w1)
      → IfErr ran (HasRunUntil (IsTextAnswer (λ item. HasFormula check (string_bytes item))) r0 r1 w0 w1) → EndsBy words untouched r0 r1 w0 w1 (exit_of_ran ran)
  ends_text ran check tokens run until = ends_by_run ran (text_words check tokens) (as_text ran check tokens run) (until_text ran check tokens until)

  pub ends_by_fault : (tokens : List (List ℕ)) (end : Exit) → words ≡ codes "text" ∷ tokens → untouched → HasTokensFault tokens end
      → EndsBy words untouched r0 r1 w0 w1 end
  ends_by_fault tokens Usage is same fault = (wrong_text tokens is fault, same)
  ends_by_fault tokens PatternRefused is same fault = ((tokens, is, fault), same)
  ends_by_fault tokens TooDeep is same fault = ((tokens, is, fault), same)
  ends_by_fault tokens NoMemory is same fault = inl same
  ends_by_fault tokens _ is same fault = absurd fault

-- the words after the first
abbrev pub others_of : List (Vec ℕ Global) → List (Vec ℕ Global)
others_of words = take (length words - 1) (drop 1 words)

pub first_word : (words : List (Vec ℕ Global)) (name : Vec ℕ Global) (is : List ℕ) → 1 ≤ length words → name ≡ get_or words 0 name → name.items ≡ is
    → typed words ≡ is ∷ typed (others_of words)
first_word [] name is some e f = absurd (omega arith)
first_word (first ∷ others) name is some e f =
    let all : take (length (first ∷ others) - 1) others ≡ others = take_all (length (first ∷ others) - 1) others (omega arith) in
    ap (λ w. w ∷ typed others) (ap (λ w. w.items) (sym e) ∙ f) ∙ ap (λ ws. is ∷ typed ws) (sym all)
