-- The levels of the code are those of the grammar.
use Rattle.vet_rules.specs.declared.parser.Grip.{Grip}
use Rattle.vet_rules.specs.declared.parser.Grip.TheVariants as grips
use Rattle.vet_rules.specs.Grammar.{Level, By, Single, Whole, Premise}

abbrev pub level_of : Grip → Level
level_of (grips.By c) = By c
level_of grips.Single = Single
level_of grips.Whole = Whole
level_of grips.Premise = Premise
