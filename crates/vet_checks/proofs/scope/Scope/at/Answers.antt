use Rattle.std.proofs.Common.{◌∙◌, arith}
use Rattle.std.proofs.lemmas.Str.Pattern.{strip_prefix_char}
use Rattle.vet_checks.specs.Scopes.{place_of}
use Rattle.vet_checks.proofs.Places.{from_item}
use Rattle.vet_checks.proofs.scope.Scope.at.Goals as goal

pub returns-in-None : goal.returns-in-None
returns-in-None c =
    let path = c.args.path.now in
    let other = rw c.in-None.is at (strip_prefix_char 94 path c.strip_prefix.result c.strip_prefix.ensures.cases (omega arith)) in
    c.value_at-in-None.ensures.data ∙ from_item (place_of c.args.self) path other
