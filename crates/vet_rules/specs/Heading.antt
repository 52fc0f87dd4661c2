-- Taking the name from the front of a line.
use Rattle.std.specs.Prelude.{ℕ, zero, suc, ◌==◌, List, [], ◌∷◌, length, take, drop, if◌then◌else◌}
use Rattle.std.specs.Prelude.{Result, Ok}
use Rattle.std.specs.List.{prefix_len}
use Rattle.vet_rules.specs.declared.error.Expected.TheVariants as expected
use Rattle.vet_rules.specs.declared.lexer.Class.TheVariants.{Name}
use Rattle.vet_rules.specs.declared.stop.Stop.{Stop}
use Rattle.vet_rules.specs.Answers.{◌>>=◌, stops}
use Rattle.vet_rules.specs.Literals.{Text}
use Rattle.vet_rules.specs.Signs as signs
use Rattle.vet_rules.specs.Signs.{Sign}
use Rattle.vet_rules.specs.Lexemes.{continues, is_shown, is_title, is_quoted}
use Rattle.vet_rules.specs.Scanning.{token_at}

abbrev pub after_colon : List ℕ → Result (List ℕ) Stop
after_colon [] = stops expected.Colon 0
after_colon (b ∷ text) = if b == 58 then Ok text else stops expected.Colon (length (b ∷ text))

-- a name of k bytes, and the text behind its colon
abbrev pub named : ℕ → List ℕ → Result (List ℕ × List ℕ) Stop
named zero line = stops expected.Name (length line)
named (suc k) line = if is_shown (take (suc k) line)
    then (after_colon (drop (suc k) line) >>= λ text. Ok (take (suc k) line, text))
    else stops expected.Utf8 (length line)

unfoldable pub bare_head : List ℕ → Result (List ℕ × List ℕ) Stop
bare_head line = named (prefix_len (continues Name) line) line

-- the name that a text in quotes is
abbrev pub title_or : ℕ → Sign → Result (List ℕ) Stop
title_or left (signs.Literal (Text name)) =
    if is_title name then Ok name else stops expected.Name left
title_or left t = stops expected.Name left

unfoldable pub quoted_head : List ℕ → Result (List ℕ × List ℕ) Stop
quoted_head line = do
  t ← token_at line
  name ← title_or (length line) t.0
  text ← after_colon t.1
  Ok (name, text)

unfoldable pub head_at : List ℕ → Result (List ℕ × List ℕ) Stop
head_at line = if is_quoted line then quoted_head line else bare_head line
