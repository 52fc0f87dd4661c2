use Rattle.std.proofs.Common.{◌≡◌, ◌++◌, false, map, take}
use Rattle.std.specs.Prelude.{string_bytes}
use Rattle.vet_run.specs.Objects.{listed}
use Rattle.vet_run.specs.Sums.{named_of, rule_json}
use Rattle.vet_run.proofs.Listing.{some_in}
use Rattle.vet_run.proofs.summary_json.push_rules.Given as goal

abbrev pub invariant-loop-rule : goal.invariant-loop-rule
invariant-loop-rule l = record {
  later : l.later ≡ some_in (take l.rule-index l.rules);
  text : string_bytes l.text ≡ string_bytes l.initial.text ++ listed false (map (λ r. rule_json (named_of r)) (take l.rule-index l.rules));
}
