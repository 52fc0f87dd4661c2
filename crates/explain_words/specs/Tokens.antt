-- The words of a check, as they are written on a command line.
use Rattle.std.specs.Prelude.{ℕ, List, ◌++◌, codes, string_bytes}
use Rattle.explain_words.specs.declared.word.Word.{Word}
use Rattle.explain_words.specs.declared.word.Word.TheVariants as words

-- the token of a word: a name alone, or a name, `=` and a text
abbrev pub token_of : Word → List ℕ
token_of words.Empty = codes "empty"
token_of (words.Equals text) = codes "eq=" ++ string_bytes text
token_of (words.Starts text) = codes "starts=" ++ string_bytes text
token_of (words.Ends text) = codes "ends=" ++ string_bytes text
token_of (words.Contains text) = codes "contains=" ++ string_bytes text
token_of (words.Matches text) = codes "match=" ++ string_bytes text
token_of words.Trim = codes "trim"
token_of words.Normalize = codes "normalize"
token_of words.Not = codes "not"
token_of words.And = codes "and"
token_of words.Or = codes "or"
token_of words.Xor = codes "xor"

-- the word's token is a name alone
abbrev pub IsName : Word → Type 0
IsName (words.Equals text) = ⊥
IsName (words.Starts text) = ⊥
IsName (words.Ends text) = ⊥
IsName (words.Contains text) = ⊥
IsName (words.Matches text) = ⊥
IsName _ = Unit {0}
