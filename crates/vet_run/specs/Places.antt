-- Where a record stands, and what labels it.
use Rattle.std.specs.Prelude.{◌≡◌, ℕ, List, ◌++◌, Option, Some, None, IfSome, codes, decimal}
use Rattle.std.specs.Prelude.{unwrap_or}
use Rattle.serde_json.specs.Data.{Data, null}
use Rattle.serde_json.specs.Find.{pointer}
use Rattle.vet_checks.specs.CheckTrees.{found_text}

-- the line of this number, with the input's name where it has one
abbrev pub place_text : Option (List ℕ) → ℕ → List ℕ
place_text None number = codes "record " ++ decimal number
place_text (Some name) number = name ++ (codes ":" ++ decimal number)

-- the value that labels a record: what stands at the path, or null
abbrev pub label : List ℕ → Data → Data
label path d = unwrap_or (pointer path d) null

-- the label as JSON; the digits of a float are left open
abbrev pub IsLabel : List ℕ → Data → List ℕ → Type 0
IsLabel path d text = IfSome (found_text (label path d)) (λ given. text ≡ given)

-- the place, and in parentheses the label where there is a path of labels
abbrev pub IsHead : Option (List ℕ) → List ℕ → Data → List ℕ → Type 0
IsHead None place d text = text ≡ place
IsHead (Some path) place d text =
    (given : List ℕ) × IsLabel path d given
    × (text ≡ place ++ (codes " (" ++ (given ++ codes ")")))

-- what an object is labelled by: the label where there is a path of labels, else the number
abbrev pub IsName : Option (List ℕ) → ℕ → Data → List ℕ → Type 0
IsName None number d text = text ≡ decimal number
IsName (Some path) number d text = IsLabel path d text
