use Rattle.std.proofs.Common.{◌≡◌, ◌++◌, map}
use Rattle.serde_json.specs.Data.{Data}
use Rattle.vet_rules.specs.Literals.{literal_of}
use Rattle.vet_checks.specs.Questions.{is_among, is_in_set}
use Rattle.vet_checks.proofs.literal_set.LiteralSet.new.Given as goal

abbrev pub invariant-loop-literal : goal.invariant-loop-literal
invariant-loop-literal l =
    (l.fn.literals.items ≡ l.yielded ++ l.literal-iterator.rest.items) × ((d : Data) → is_in_set l.set d ≡ is_among (map literal_of l.yielded) d)
