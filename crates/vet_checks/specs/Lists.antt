-- What an array or an object holds.
use Rattle.std.specs.Prelude.{ℕ, List, [], ◌∷◌, Option, Some, None, option_map, option_and_then}
use Rattle.serde_json.specs.Data.{Data, null, boolean, number, string, array, object, Items}
use Rattle.serde_json.specs.Data.{no_items, item, Members, no_members, member}
use Rattle.vet_checks.specs.Scopes.{Place, stands, within}

-- the values of an object, in the order of its keys
abbrev pub values_of : Members → Items
values_of no_members = no_items
values_of (member k d ms) = item d (values_of ms)

-- the items of an array, or the values of an object
abbrev pub values_in : Data → Option Items
values_in null = None
values_in (boolean b) = None
values_in (number n) = None
values_in (string s) = None
values_in (array ds) = Some ds
values_in (object ms) = Some (values_of ms)

-- each as an item of the record
abbrev pub places_of : Data → Items → List Place
places_of whole no_items = []
places_of whole (item d ds) = within whole d ∷ places_of whole ds

-- what stands there holds, where it is an array or an object
abbrev pub places_in : Data → Option Data → Option (List Place)
places_in whole found = option_map (places_of whole) (option_and_then values_in found)

-- the same of what stands at the path
abbrev pub places_at : List ℕ → Place → Option (List Place)
places_at path p = places_in p.whole (stands path p)
