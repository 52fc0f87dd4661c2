use Rattle.std.proofs.Common.{◌∷◌, [], map, arith}
use Rattle.vet_rules.specs.Printing.{written_sign}
use Rattle.vet_rules.proofs.Laying.{none_laid, taken_more, all_taken, map_last}
use Rattle.vet_rules.proofs.layout.fmt_tokens.Goals as goal

pub loop-token-init : goal.loop-token-init
loop-token-init g c = none_laid c.args.f.now c.args.at_once

pub loop-token-preserved : goal.loop-token-preserved
loop-token-preserved g c = taken_more (map written_sign) (λ k t. written_sign t ∷ []) (map_last written_sign) c.args.tokens.now c.loop-token.token-index c.token-item.result (omega arith) c.token-item.is c.loop-token.invariant c.in_ok-next.ensures

pub returns : goal.returns
returns g c = all_taken (map written_sign) c.args.tokens.now c.loop-token.token-index (omega arith) c.loop-token.invariant
