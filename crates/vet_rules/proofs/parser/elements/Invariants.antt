use Rattle.std.proofs.Common.{map, length}
use Rattle.vet_rules.specs.declared.fixed.Fixed.TheVariants.{Comma}
use Rattle.vet_rules.specs.Signs.{signs}
use Rattle.vet_rules.specs.Reading.{one_at, parts_at}
use Rattle.vet_rules.proofs.Parts.{Reads}
use Rattle.vet_rules.proofs.parser.elements.Given as goal

abbrev pub invariant-loop-rest : goal.invariant-loop-rest
invariant-loop-rest g l =
    Reads Comma (one_at g.T.Element.seen g.T.Element.expected) (map g.T.Element.value l.elements.items) (signs l.left) (parts_at (length (signs l.tokens)) Comma (one_at g.T.Element.seen g.T.Element.expected) (signs l.tokens))

abbrev pub decreases-loop-rest : goal.decreases-loop-rest
decreases-loop-rest g l = length (signs l.left)
