-- What a clause reads of a child that a view gives.
use Rattle.predicates_reflection.specs.Describe.{NamedCase}
use Rattle.predicates_reflection.specs.declared.reflection.case.CaseChild.{CaseChild}

-- the name, and the tree that stands under it
abbrev pub named_case : CaseChild → NamedCase
named_case c = (c.name.now, c.case)
