-- Words in postfix order, and the checks that they leave.
use Rattle.std.specs.Prelude.{◌≡◌, ◌≢◌, ◌<◌, ◌≤◌, ℕ, suc, max, List, [], ◌∷◌, ◌++◌, length}
use Rattle.std.specs.Prelude.{map, string_bytes}
use Rattle.predicates_core.specs.Text.{Text}
use Rattle.explain_words.specs.Applied.{IsApplied, IsMade, IsRefusedWord, operand_count}
use Rattle.explain_words.specs.Tokens.{token_of}
use Rattle.explain_words.specs.declared.check.TextCheck as checks
use Rattle.explain_words.specs.declared.check.TextCheck.{TextCheck}
use Rattle.explain_words.specs.declared.from_words.TheConstants.{MAX_DEPTH}
use Rattle.explain_words.specs.declared.word.Word.{Word}
use Rattle.explain_words.specs.declared.word_problem.WordProblem.{WordProblem}
use Rattle.explain_words.specs.declared.word_problem.WordProblem.TheVariants as problems
use Rattle.explain_words.specs.declared.words_error.WordsError.{WordsError}
use Rattle.explain_words.specs.declared.words_error.WordsError.TheVariants as errors

-- the bytes of each word
abbrev pub written : List Text → List (List ℕ)
written words = map string_bytes words

-- the tokens are words that are applied one after another: they make this stack of that one
abbrev pub Makes : List (List ℕ) → List TextCheck → List TextCheck → Type 0
Makes [] old new = new ≡ old
Makes (token ∷ others) old new =
    (word : Word) × (next : List TextCheck) × (token ≡ token_of word) × IsApplied word old next
    × Makes others next new

-- a token is the first that fails: those before it make a stack, and on that stack it has the fault
pub record FailsFirst (tokens : List (List ℕ)) (HasFault : List TextCheck → List ℕ → Type 0) : Type
    0 where
  pub before : List (List ℕ)
  pub token : List ℕ
  pub after : List (List ℕ)
  pub stack : List TextCheck
  pub is : tokens ≡ before ++ token ∷ after
  pub makes : Makes before [] stack
  pub fault : HasFault stack token

-- no word has the token
abbrev pub IsNoWord : List ℕ → Type 0
IsNoWord token = (word : Word) → token ≢ token_of word

-- the token's word takes more checks than there are
abbrev pub TakesMore : List TextCheck → List ℕ → Type 0
TakesMore stack token =
    (word : Word) × (token ≡ token_of word) × (length stack < operand_count word)

-- the pattern of the token's word is refused
abbrev pub HoldsRefused : List ℕ → Type 0
HoldsRefused token = (word : Word) × (token ≡ token_of word) × IsRefusedWord word

-- how many checks lie around the deepest leaf of a check
abbrev pub depth : TextCheck → ℕ
depth (checks.Trim' _ inner) = suc (depth inner)
depth (checks.Normalize' _ inner) = suc (depth inner)
depth (checks.Not' _ inner) = suc (depth inner)
depth (checks.And' _ left _ right) = suc (max (depth left) (depth right))
depth (checks.Or' _ left _ right) = suc (max (depth left) (depth right))
depth (checks.Xor' _ left _ right) = suc (max (depth left) (depth right))
depth _ = 0

-- no check is deeper than the limit
abbrev pub AreWithin : List TextCheck → Type 0
AreWithin [] = Unit {0}
AreWithin (check ∷ others) = (depth check ≤ MAX_DEPTH) × AreWithin others

-- the check of the token's word would be deeper than the limit
abbrev pub MakesTooDeep : List TextCheck → List ℕ → Type 0
MakesTooDeep stack token = (word : Word) × (left : List TextCheck) × (check : TextCheck)
    × (token ≡ token_of word) × IsMade word stack left check × (MAX_DEPTH < depth check)

-- what a problem says of the token, on the stack of those before it
abbrev pub IsProblem : WordProblem → List TextCheck → List ℕ → Type 0
IsProblem problems.NoSuchWord stack token = IsNoWord token
IsProblem problems.TooFewChecks stack token = TakesMore stack token
IsProblem problems.BadExpression stack token = HoldsRefused token
IsProblem problems.TooDeep stack token = MakesTooDeep stack token

-- the token has the problem, and none before it made a check that is too deep
abbrev pub IsFirstProblem : WordProblem → List TextCheck → List ℕ → Type 0
IsFirstProblem problem stack token = AreWithin stack × IsProblem problem stack token

-- the word at the place, from 1, is the first with a problem, and the problem is this
abbrev pub HasBadWord : List (List ℕ) → ℕ → List ℕ → WordProblem → Type 0
HasBadWord tokens place token problem = (first : FailsFirst tokens (IsFirstProblem problem))
    × (place ≡ suc (length first.before)) × (token ≡ first.token)

-- the words leave this many checks, none too deep, and not one
abbrev pub LeaveNotOne : List (List ℕ) → ℕ → Type 0
LeaveNotOne tokens count = (stack : List TextCheck) × Makes tokens [] stack × AreWithin stack
    × (count ≡ length stack) × (count ≢ 1)

-- what an error says of the tokens
abbrev pub IsErrorOf : List (List ℕ) → WordsError → Type 0
IsErrorOf tokens (errors.BadWord place word problem) = HasBadWord tokens place (string_bytes word) problem
IsErrorOf tokens (errors.NotOne count) = LeaveNotOne tokens count
IsErrorOf tokens errors.NoMemory = Unit {0}
