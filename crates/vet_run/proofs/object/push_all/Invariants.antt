use Rattle.std.proofs.Common.{◌≡◌, ◌++◌, false, map, take}
use Rattle.std.specs.Prelude.{string_bytes}
use Rattle.vet_run.specs.Objects.{listed, shown_text}
use Rattle.vet_run.proofs.Listing.{some_in}
use Rattle.vet_run.proofs.object.push_all.Given as goal

abbrev pub invariant-loop-shown : goal.invariant-loop-shown
invariant-loop-shown l = record {
  later : l.later ≡ some_in (take l.shown-index l.cases);
  text : string_bytes l.text ≡ string_bytes l.initial.text ++ listed false (map shown_text (take l.shown-index l.cases));
}
