use Rattle.std.proofs.Common.{◌≡◌, ◌++◌, ℕ, List, map}
use Rattle.std.specs.Prelude.{string_bytes}
use Rattle.std.specs.BTreeSet.{contains_text}
use Rattle.vet_checks.specs.Keys.{is_text_among}
use Rattle.vet_checks.proofs.keys.allowed_keys.Given as goal

abbrev pub invariant-loop-text : goal.invariant-loop-text
invariant-loop-text l =
    (l.fn.texts.items ≡ l.yielded ++ l.text-iterator.rest.items) × ((key : List ℕ) → contains_text l.allowed key ≡ is_text_among (map string_bytes l.yielded) key)
