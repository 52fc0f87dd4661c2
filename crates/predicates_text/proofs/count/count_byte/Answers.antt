use Rattle.std.proofs.Common.{rules, arith, ◌∙◌, ap, length, filter, nat_eq}
use Rattle.std.proofs.lemmas.List.{take_all}
use Rattle.predicates_text.proofs.OneByte.{times_more}
use Rattle.predicates_text.proofs.count.count_byte.Goals as goal
use Rattle.predicates_text.proofs.count.count_byte.Goals.{then-byte-other, else-byte-other}

pub loop-other-preserved : goal.loop-other-preserved
loop-other-preserved c = elim c.if-byte-other.branch [
  | then-byte-other w ↦ (times_more c.args.byte c.as_bytes-other-items.result.now c.loop-other.other-index c.loop-other.count c.if-byte-other.count c.loop-other-test.true c.loop-other.invariant.0 (search rules), search rules)
  | else-byte-other w ↦ (times_more c.args.byte c.as_bytes-other-items.result.now c.loop-other.other-index c.loop-other.count c.if-byte-other.count c.loop-other-test.true c.loop-other.invariant.0 (search rules), search rules)
]

pub returns : goal.returns
returns c =
    let all = take_all c.loop-other.other-index c.as_bytes-other-items.result.now (omega (arith, c.loop-other-test.false)) in
    c.loop-other.invariant.0 ∙ ap (λ t. length (filter (nat_eq c.args.byte) t)) (all ∙ c.as_bytes-other-items.ensures.value)
