-- What the words of a command line ask for.
use Rattle.std.specs.Prelude.{◌≡◌, ◌≢◌, ℕ, ℤ, ◌≤◌, Bool, List, [], ◌∷◌, Option, codes}
use Rattle.std.specs.Prelude.{map, string_bytes}
use Rattle.std.specs.Str.{IsUtf8}
use Rattle.std.specs.declared.alloc.Global.{Global}
use Rattle.std.specs.declared.vec.Vec.{Vec}
use Rattle.explain_run.specs.Answers.{between_formula, IsNumber, IsNumberAnswer}
use Rattle.explain_words.specs.Checks.{HasFormula}
use Rattle.explain_run.specs.Number.{Reads}
use Rattle.explain_words.specs.Postfix.{Makes, FailsFirst, IsFirstProblem, LeaveNotOne, depth}
use Rattle.explain_run.specs.Runs.{HasRun, HasRunUntil}
use Rattle.explain_run.specs.TextAnswers.{IsTextAnswer}
use Rattle.streams.specs.declared.run_fault.RunFault.{RunFault}
use Rattle.explain_words.specs.declared.check.TextCheck.{TextCheck}
use Rattle.explain_words.specs.declared.from_words.TheConstants.{MAX_DEPTH}
use Rattle.explain_words.specs.declared.word_problem.WordProblem.{WordProblem}
use Rattle.explain_words.specs.declared.word_problem.WordProblem.TheVariants.{NoSuchWord}
use Rattle.explain_words.specs.declared.word_problem.WordProblem.TheVariants.{TooFewChecks}

-- the bytes of each word
abbrev pub typed : List (Vec ℕ Global) → List (List ℕ)
typed words = map (λ word. word.items) words

-- a token is wrong: it is no word's, or too few checks are there for its word
pub data IsWrongToken (stack : List TextCheck) (token : List ℕ) : Type 0 where
  no_word : IsFirstProblem NoSuchWord stack token → IsWrongToken stack token
  operand : IsFirstProblem TooFewChecks stack token → IsWrongToken stack token

-- the tokens are wrong: one of them is, or all of them do not leave one check
pub data AreWrongTokens (tokens : List (List ℕ)) : Type 0 where
  token : FailsFirst tokens IsWrongToken → AreWrongTokens tokens
  checks : (count : ℕ) → LeaveNotOne tokens count → AreWrongTokens tokens

-- the words are two numbers
abbrev pub AreNumbers : List (List ℕ) → ℤ → ℤ → Type 0
AreNumbers words lo hi = (first : List ℕ) × (second : List ℕ) × (words ≡ first ∷ second ∷ [])
    × Reads first lo × Reads second hi

-- the words are `between` and two numbers
abbrev pub AreBounds : List (List ℕ) → ℤ → ℤ → Type 0
AreBounds words lo hi = (others : List (List ℕ)) × (words ≡ codes "between" ∷ others)
    × AreNumbers others lo hi

-- the words are `text` and the tokens of one check
abbrev pub AreCheck : List (List ℕ) → TextCheck → Type 0
AreCheck words check = (tokens : List (List ℕ)) × (words ≡ codes "text" ∷ tokens)
    × Makes tokens [] (check ∷ []) × (depth check ≤ MAX_DEPTH)

-- the words name no use, or one of them is wrong
pub data AreWrongWords (words : List (List ℕ)) : Type 0 where
  no_use : ((others : List (List ℕ)) → words ≢ codes "between" ∷ others)
      → ((others : List (List ℕ)) → words ≢ codes "text" ∷ others) → AreWrongWords words
  wrong_bounds : (others : List (List ℕ)) → words ≡ codes "between" ∷ others
      → ((lo hi : ℤ) → ¬ (AreNumbers others lo hi)) → AreWrongWords words
  wrong_text : (tokens : List (List ℕ)) → words ≡ codes "text" ∷ tokens → AreWrongTokens tokens
      → AreWrongWords words

-- the words are `text` and tokens, and the first that fails has the problem
abbrev pub HasProblem : WordProblem → List (List ℕ) → Type 0
HasProblem problem words = (tokens : List (List ℕ)) × (words ≡ codes "text" ∷ tokens)
    × FailsFirst tokens (IsFirstProblem problem)

-- the words are right
pub data AreRightWords (words : List (List ℕ)) : Type 0 where
  between_words : (lo hi : ℤ) → AreBounds words lo hi → AreRightWords words
  text_words : (check : TextCheck) → AreCheck words check → AreRightWords words

-- the run that the words ask for was made, and says whether every line was an item
pub data HasRunOf (words : List (List ℕ))
    (reader_before reader_after writer_before writer_after : Option (List ℕ)) (all : Bool) : Type 0
  where
    between_run : (lo hi : ℤ) → AreBounds words lo hi
        → HasRun (IsNumberAnswer (between_formula lo hi)) IsNumber reader_before reader_after
        writer_before writer_after all
        → HasRunOf words reader_before reader_after writer_before writer_after all
    text_run : (check : TextCheck) → AreCheck words check
        → HasRun (IsTextAnswer (λ item. HasFormula check (string_bytes item))) IsUtf8 reader_before
        reader_after writer_before writer_after all
        → HasRunOf words reader_before reader_after writer_before writer_after all

-- the run that the words ask for was ended by the fault
pub data HasRunOfUntil (words : List (List ℕ))
    (reader_before reader_after writer_before writer_after : Option (List ℕ)) (fault : RunFault) :
    Type 0
  where
    between_until : (lo hi : ℤ) → AreBounds words lo hi
        → HasRunUntil (IsNumberAnswer (between_formula lo hi)) reader_before reader_after
        writer_before writer_after fault
        → HasRunOfUntil words reader_before reader_after writer_before writer_after fault
    text_until : (check : TextCheck) → AreCheck words check
        → HasRunUntil (IsTextAnswer (λ item. HasFormula check (string_bytes item))) reader_before
        reader_after writer_before writer_after fault
        → HasRunOfUntil words reader_before reader_after writer_before writer_after fault
