-- The texts that are JSON Pointers.
use Rattle.std.specs.Prelude.{ℕ, List, [], ◌∷◌, ◌==◌, ◌&&◌, ◌||◌, Bool, true, false, not}

-- each `~` stands before a `0` or a `1`; `behind` is whether one stands right before the text
abbrev pub has_whole_escapes : Bool → List ℕ → Bool
has_whole_escapes behind [] = not behind
has_whole_escapes behind (x ∷ rest) = (not behind || x == 48 || x == 49)
    && has_whole_escapes (x == 126) rest

-- empty, or begun with `/`, with whole escapes
abbrev pub is_pointer_text : List ℕ → Bool
is_pointer_text [] = true
is_pointer_text (x ∷ rest) = x == 47 && has_whole_escapes false rest
