-- What a check is asked of, and what stands at its paths.
use Rattle.std.specs.Prelude.{ℕ, List, [], ◌∷◌, Option, cond, ◌==◌}
use Rattle.serde_json.specs.Data.{Data}
use Rattle.serde_json.specs.Find.{pointer}
use Rattle.serde_json.specs.View.{view}
use Rattle.vet_checks.specs.declared.scope.Scope.{Scope}

-- an item of a record
pub record Place : Type 0 where
  pub whole : Data
  pub item : Data

-- a record that is its own item
abbrev pub alone : Data → Place
alone d = record { whole = d; item = d }

abbrev pub place_of : Scope → Place
place_of s = record { whole = view s.whole.now; item = view s.item.now }

-- another item of the record
abbrev pub within : Data → Data → Place
within whole d = record { whole = whole; item = d }

-- what stands at a path: one that begins with `^` leads from the record on, and any other from
-- the item
abbrev pub stands : List ℕ → Place → Option Data
stands [] p = pointer [] p.item
stands (b ∷ path) p = cond (b == 94) (pointer path p.whole) (pointer (b ∷ path) p.item)
