-- Tokens one after another.
use Rattle.std.proofs.Common.{◌≡◌, ◌≢◌, ◌↔◌, ℕ, ◌+◌, ◌<◌, ℤ, Bool, true, false, ◌&&◌, List, [], ◌∷◌, ◌++◌, take, drop, get_or, length, Option, Some, None, MatchOption, arith, codes, string_bytes, refl, sym, ◌∙◌, subst}
use Rattle.std.specs.Global.{Global}
use Rattle.std.specs.Prelude.{Vec}
use Rattle.std.specs.Str.{IsUtf8, IsAscii}
use Rattle.std.proofs.Math.Dec.{ltb}
use Rattle.std.proofs.lemmas.Bool.{ltb-true}
use Rattle.std.proofs.lemmas.Str.{IsUtf8-append, IsUtf8-from_ascii, IsUtf8-string_bytes}
use Rattle.std.proofs.lemmas.Str.Ascii.{IsAscii-nil, IsAscii-cons}
use Rattle.predicates_core.specs.Text.{Text}
use Rattle.explain_run.specs.Exits.{IsTokenFault, HasTokensFault}
use Rattle.explain_run.specs.Number.{Reads}
use Rattle.explain_words.specs.Tokens.{token_of}
use Rattle.explain_run.specs.CommandLine.{typed, AreNumbers, token as wrong_token}
use Rattle.explain_words.specs.Postfix.{Makes}
use Rattle.explain_words.proofs.Postfix.{mapped-more, mapped-around}
use Rattle.explain_words.specs.declared.check.TextCheck.{TextCheck}
use Rattle.explain_run.specs.declared.program.exit.Exit.{Exit}
use Rattle.explain_run.specs.declared.program.exit.Exit.TheVariants.{Usage, PatternRefused, TooDeep, NoMemory}
use Rattle.explain_words.specs.declared.word.Word.{Word}
use Rattle.explain_words.specs.declared.word.Word.TheVariants.{Equals, Starts, Ends, Contains, Matches}

-- each byte is below 128
abbrev low : List ℕ → Bool
low [] = true
low (byte ∷ bytes) = ltb byte 128 && low bytes

both : (a b : Bool) → a && b ≡ true → (a ≡ true) × (b ≡ true)
both true b e = (refl, e)
both false b e = absurd (cc)

ascii_from_low : (bytes : List ℕ) → low bytes ≡ true → IsAscii bytes
ascii_from_low [] e = IsAscii-nil
ascii_from_low (byte ∷ bytes) e =
    let parts = both (ltb byte 128) (low bytes) e in
    IsAscii-cons byte bytes (ltb-true byte 128 parts.0) (ascii_from_low bytes parts.1)

text_from_low : (bytes : List ℕ) → low bytes ≡ true → IsUtf8 bytes
text_from_low bytes e = IsUtf8-from_ascii bytes (ascii_from_low bytes e)

named : (name : List ℕ) (text : Text) → low name ≡ true → IsUtf8 (name ++ string_bytes text)
named name text e = IsUtf8-append name (string_bytes text) (text_from_low name e) (IsUtf8-string_bytes text)

-- a token is text
pub token_is_text : (word : Word) → IsUtf8 (token_of word)
token_is_text (Equals text) = named (codes "eq=") text refl
token_is_text (Starts text) = named (codes "starts=") text refl
token_is_text (Ends text) = named (codes "ends=") text refl
token_is_text (Contains text) = named (codes "contains=") text refl
token_is_text (Matches text) = named (codes "match=") text refl
token_is_text word = text_from_low (token_of word) refl

pub no_token : (token : List ℕ) → ¬ (IsUtf8 token) → (word : Word) → token ≢ token_of word
no_token token other word e = other (subst IsUtf8 (sym e) (token_is_text word))

-- the first token that fails ends the reading of all
pub first_fault : (tokens before : List (List ℕ)) (failing : List ℕ) (after : List (List ℕ)) (stack : List TextCheck) (end : Exit)
    → tokens ≡ before ++ failing ∷ after → Makes before [] stack → IsTokenFault stack failing end → HasTokensFault tokens end
first_fault tokens before failing after stack Usage e makes fault =
    wrong_token (record { before = before; token = failing; after = after; stack = stack; is = e; makes = makes; fault = fault })
first_fault tokens before failing after stack PatternRefused e makes fault =
    record { before = before; token = failing; after = after; stack = stack; is = e; makes = makes; fault = fault }
first_fault tokens before failing after stack TooDeep e makes fault =
    record { before = before; token = failing; after = after; stack = stack; is = e; makes = makes; fault = fault }
first_fault tokens before failing after stack NoMemory e makes fault = tt
first_fault tokens before failing after stack _ e makes fault = absurd fault

-- the words up to the next one, with it, and around it
pub typed-more : (words : List (Vec ℕ Global)) (i : ℕ) (word : Vec ℕ Global) → i < length words → word ≡ get_or words i word
    → typed (take (i + 1) words) ≡ typed (take i words) ++ word.items ∷ []
typed-more = mapped-more (λ word. word.items)

pub typed-around : (words : List (Vec ℕ Global)) (i : ℕ) (word : Vec ℕ Global) → i < length words → word ≡ get_or words i word
    → typed words ≡ typed (take i words) ++ word.items ∷ typed (drop (i + 1) words)
typed-around = mapped-around (λ word. word.items)

-- what `number` found or did not find
pub found : (line : List ℕ) (r : Option ℤ) (n : ℤ) → ((m : ℤ) → (r ≡ Some m) ↔ Reads line m) → r ≡ Some n → Reads line n
found line r n reads is = (reads n).0 is

pub not_found : (line : List ℕ) (r : Option ℤ) → ((m : ℤ) → (r ≡ Some m) ↔ Reads line m) → r ≡ None → (n : ℤ) → ¬ (Reads line n)
not_found line r reads is n h = let some = (reads n).1 h in absurd (cc)

-- two words
pub two_words : (words : List (Vec ℕ Global)) (lo hi : Vec ℕ Global) → length words ≡ 2 → lo ≡ get_or words 0 lo → hi ≡ get_or words 1 hi
    → typed words ≡ lo.items ∷ hi.items ∷ []
two_words [] lo hi two e f = absurd (omega (arith, two))
two_words (first ∷ []) lo hi two e f = absurd (omega (arith, two))
two_words (first ∷ second ∷ []) lo hi two e f = rw (e, f) refl
two_words (first ∷ second ∷ third ∷ others) lo hi two e f = absurd (omega (arith, two))

-- the numbers of two words are those that each writes
pub numbers_of : (words : List (List ℕ)) (first second : List ℕ) (found : Option (ℤ × ℤ)) → words ≡ first ∷ second ∷ []
    → MatchOption found ((a b : ℤ) → Reads first a → ¬ (Reads second b)) (λ bounds. Reads first bounds.0 × Reads second bounds.1)
    → MatchOption found ((lo hi : ℤ) → ¬ (AreNumbers words lo hi)) (λ bounds. AreNumbers words bounds.0 bounds.1)
numbers_of words first second (Some bounds) e reads = (first, second, e, reads.0, reads.1)
numbers_of words first second None e none = λ lo hi numbers.
    let same : numbers.0 ∷ numbers.1 ∷ [] ≡ first ∷ second ∷ [] = sym numbers.2 ∙ e in
    none lo hi (subst (λ word. Reads word lo) (let one : numbers.0 ≡ first = cc in one) numbers.3)
    (subst (λ word. Reads word hi) (let two : numbers.1 ≡ second = cc in two) numbers.4)
