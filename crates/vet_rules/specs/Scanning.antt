-- Taking one token from the front of a text.
use Rattle.std.specs.Prelude.{ℕ, List, [], ◌∷◌, length, Bool, Option, Some, None, option_and_then}
use Rattle.std.specs.Prelude.{if◌then◌else◌, Result, Ok}
use Rattle.std.specs.Str.{is_utf8}
use Rattle.serde_json.specs.Data.{Num, unsigned, negative, float, Data, null, boolean, number}
use Rattle.serde_json.specs.Data.{string, array, object}
use Rattle.serde_json.specs.Read.{read}
use Rattle.vet_rules.specs.declared.fixed.Fixed.{Fixed}
use Rattle.vet_rules.specs.declared.error.Expected.{Expected}
use Rattle.vet_rules.specs.declared.error.Expected.TheVariants as expected
use Rattle.vet_rules.specs.declared.stop.Stop.{Stop}
use Rattle.vet_rules.specs.declared.token.Token.{Token}
use Rattle.vet_rules.specs.declared.lexer.Class.{Class}
use Rattle.vet_rules.specs.declared.lexer.Class.TheVariants.{Letter, Digit, Symbol, Mark}
use Rattle.vet_rules.specs.declared.lexer.Class.TheVariants.{Slash, Quote, Other}
use Rattle.vet_rules.specs.Literals.{Literal, Natural, Negative, Decimal, Text, Boolean}
use Rattle.vet_rules.specs.Literals.{Null}
use Rattle.vet_rules.specs.Signs as signs
use Rattle.vet_rules.specs.Signs.{Sign, sign_of}
use Rattle.vet_rules.specs.Answers.{◌>>=◌, stops}
use Rattle.vet_rules.specs.Lexemes.{class_of, is_space, fixed_at, cut}
use Rattle.vet_rules.specs.Lexemes.{is_shown, is_path, pointer}

-- the number that a word is
abbrev pub number_in : List ℕ → Num → Literal
number_in word (unsigned n) = Natural n
number_in word (negative z) = Negative z
number_in word (float x) = Decimal word x

-- the literal that JSON's data are, where they are read from a word
abbrev pub literal_in : List ℕ → Data → Option Literal
literal_in word null = Some Null
literal_in word (boolean b) = Some (Boolean b)
literal_in word (number n) = Some (number_in word n)
literal_in word (string text) = Some (Text text)
literal_in word (array ds) = None
literal_in word (object ms) = None

unfoldable pub literal_from : List ℕ → Option Literal
literal_from word = if is_utf8 word then option_and_then (literal_in word) (read word) else None

abbrev pub sign_or : ℕ → Option Fixed → Result Sign Stop
sign_or left None = stops expected.Token left
sign_or left (Some f) = Ok (signs.Word f)

abbrev pub literal_or : Expected → ℕ → Option Literal → Result Sign Stop
literal_or x left None = stops x left
literal_or x left (Some v) = Ok (signs.Literal v)

abbrev pub path_or : ℕ → List ℕ → Bool → Bool → Result Sign Stop
path_or left word is shows = if is
    then (if shows then Ok (signs.Path (pointer word)) else stops expected.Utf8 left)
    else stops expected.Token left

abbrev pub front_class : List ℕ → Class
front_class [] = Other
front_class (b ∷ text) = class_of b

unfoldable pub sign_in : Class → ℕ → List ℕ → Result Sign Stop
sign_in Letter left word = sign_or left (fixed_at word)
sign_in Symbol left word = sign_or left (fixed_at word)
sign_in Mark left word = sign_or left (fixed_at word)
sign_in Digit left word = literal_or expected.Number left (literal_from word)
sign_in Quote left word = literal_or expected.Escapes left (literal_from word)
sign_in Slash left word = path_or left word (is_path word) (is_shown word)
sign_in c left word = stops expected.Token left

abbrev pub with_word : ℕ → Option (List ℕ × List ℕ) → Result (Sign × List ℕ) Stop
with_word left None = stops expected.Quote left
with_word left (Some x) = sign_in (front_class x.0) left x.0 >>= λ t. Ok (t, x.1)

unfoldable pub token_at : List ℕ → Result (Sign × List ℕ) Stop
token_at text = with_word (length text) (cut text)

-- what is behind a space at the front
abbrev pub after_space : List ℕ → Option (List ℕ)
after_space [] = None
after_space (b ∷ text) = if is_space b then Some text else None

-- a token and how many bytes there are from it on
abbrev pub placed : Token → Sign × ℕ
placed t = (sign_of t.kind, t.left)
