-- Lemmas on the characters of a text.
use Rattle.std.proofs.Common.{◌≡◌, ◌≤◌, ℕ, List, length, take, true, ap, subst}
use Rattle.std.specs.Str.{chars, IsUtf8}
use Rattle.std.proofs.lemmas.List.{take_all}
use Rattle.std.proofs.lemmas.Str.{length-le-encodes, encodes-chars}
use Rattle.predicates_style.specs.Characters.{written_characters}

-- a text has no more characters than bytes
pub all_characters : (text : List ℕ) → IsUtf8 text → take (length text) (chars text) ≡ chars text
all_characters text utf8 =
    take_all (length text) (chars text) (subst (λ bs. length (chars text) ≤ length bs) (encodes-chars text utf8) (length-le-encodes (chars text)))

pub all_written : (text : List ℕ) → IsUtf8 text → written_characters true (take (length text) (chars text)) ≡ written_characters true (chars text)
all_written text utf8 = ap (written_characters true) (all_characters text utf8)
