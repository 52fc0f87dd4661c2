use Rattle.std.proofs.Common.{rules, tests, ◌∙◌}
use Rattle.std.proofs.lemmas.Iterator.{YieldsList-from_map_by}
use Rattle.std.proofs.lemmas.Iterator.Consumers.{map_from_collect, YieldsList-from_rest}
use Rattle.vet_rules.specs.Rules.{rule_of}
use Rattle.vet_rules.specs.Findings.{numbered_of}
use Rattle.vet_rules.proofs.findings.unnumbered.Goals as goal

pub returns : goal.returns
returns c =
    map_from_collect {s = c.map.result} _ c.collect.ensures.ran (YieldsList-from_map_by {v = λ y. y} _ rule_of (λ n. (numbered_of n).1) (YieldsList-from_rest c.args.rules.entries (c.map.ensures.source ∙ c.into_iter.ensures.into_iter_gives.0)) c.map.ensures.closure (λ x r q k. search (rules, tests)))
