use Rattle.std.proofs.Common.{◌≡◌, [], length}
use denote.Text.{Utf8}
use denote.Shadow.{shadow}
use Rattle.predicates_json.specs.At.{at_pointer, walk}
use Rattle.predicates_json.proofs.at.at.Given as goal

abbrev pub invariant-parts : goal.invariant-parts
invariant-parts l = (at_pointer l.fn.pointer l.fn.value ≡ walk [] l.rest l.found) × shadow (Utf8 l.rest)

abbrev pub decreases-parts : goal.decreases-parts
decreases-parts l = length l.rest
