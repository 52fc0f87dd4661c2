use Rattle.vet_rules.proofs.Lines.{one_text}
use Rattle.vet_rules.proofs.rule.one_meaning.Goals as goal

pub returns : goal.returns
returns c = λ n m text rs ss d e. one_text d.0 e.0
