-- The texts of a row's parts.
use Rattle.std.specs.Prelude.{ℕ, zero, suc, List, [], ◌∷◌, Some, codes}
use Rattle.std.specs.Fmt.{◌++?◌}
use Rattle.predicates_core.specs.Label.{Entry}
use Rattle.predicates_core.specs.Several.{further_texts}

-- the texts, with commas between them
abbrev pub joined_texts : List Entry → Entry
joined_texts [] = Some []
joined_texts (t ∷ ts) = t ++? further_texts ts

-- the text of the part with the number, behind a comma where it is not the first
abbrev pub text_at : ℕ → Entry → Entry
text_at zero t = t
text_at (suc k) t = Some (codes ", ") ++? t

-- the texts that stand behind a word, in parentheses
abbrev pub texts_behind : List ℕ → Entry → Entry
texts_behind before texts = Some before ++? Some (codes "(") ++? texts ++? Some (codes ")")
