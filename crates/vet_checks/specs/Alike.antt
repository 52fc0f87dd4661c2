-- Patterns that have matches in the same texts.
use Rattle.std.specs.Prelude.{◌≡◌, ℕ, ◌<◌, List, get_or, is_some}
use Rattle.regex.specs.Patterns.{Re, find_str}
use Rattle.regex.specs.Strings.{regex_pattern}
use Rattle.regex.specs.declared.string.regex.Regex.{Regex}
use Rattle.predicates_text.specs.Expressions.{IsReadFrom}

-- a text has a match of both, or of none
abbrev pub MatchAlike : Re → Re → Type 0
MatchAlike a b = (text : List ℕ) → ((k : ℕ) → get_or text k 0 < 256) → is_some (find_str a text 0)
    ≡ is_some (find_str b text 0)

-- it has matches where each regex has them that is read from the source
abbrev pub MatchesAsSource : List ℕ → Re → Type 0
MatchesAsSource source re = (regex : Regex) → ∥ IsReadFrom source regex ∥₁
    → MatchAlike re (regex_pattern regex)
