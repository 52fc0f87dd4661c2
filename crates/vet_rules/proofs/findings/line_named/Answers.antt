use Rattle.std.proofs.Common.{ap, option_map, ◌∙◌}
use Rattle.vet_rules.specs.declared.findings.Numbered.{Numbered}
use Rattle.vet_rules.proofs.Files.{line_found}
use Rattle.vet_rules.proofs.findings.line_named.Goals as goal

pub returns-in_err-found : goal.returns-in_err-found
returns-in_err-found c = c.from_residual.ensures ∙ ap (option_map (λ (n : Numbered). n.line)) c.in_err-found.ensures.value ∙ line_found c.args.name.now c.args.rules.now.entries

pub returns : goal.returns
returns c = ap (option_map (λ (n : Numbered). n.line)) c.in_ok-found.ensures.value ∙ line_found c.args.name.now c.args.rules.now.entries
