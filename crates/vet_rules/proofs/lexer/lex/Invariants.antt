use Rattle.std.proofs.Common.{map, length}
use Rattle.vet_rules.specs.Scanning.{placed}
use Rattle.vet_rules.proofs.LexLoop.{Goes}
use Rattle.vet_rules.proofs.lexer.lex.Given as goal

abbrev pub invariant-loop-alloc : goal.invariant-loop-alloc
invariant-loop-alloc l = Goes l.text l.left (map placed l.tokens.items)

abbrev pub decreases-loop-alloc : goal.decreases-loop-alloc
decreases-loop-alloc l = length l.left
