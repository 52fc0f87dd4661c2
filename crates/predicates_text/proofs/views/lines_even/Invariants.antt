use Rattle.std.proofs.Common.{◌≡◌, ◌++◌, length, string_bytes}
use denote.Text.{Utf8}
use denote.Shadow.{shadow}
use Rattle.std.specs.Str.{chars}
use Rattle.predicates_text.specs.Views.{lines_even}
use Rattle.predicates_text.proofs.views.lines_even.Given as goal

-- what is written, and what is left with even line endings, are the whole with even line endings
abbrev pub invariant-loop-line : goal.invariant-loop-line
invariant-loop-line l = shadow (Utf8 l.rest) × (chars (string_bytes l.even) ++ lines_even (chars l.rest) ≡ lines_even (chars l.text))

abbrev pub decreases-loop-line : goal.decreases-loop-line
decreases-loop-line l = length l.rest
