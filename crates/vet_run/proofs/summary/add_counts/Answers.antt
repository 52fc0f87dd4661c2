use Rattle.std.proofs.Common.{◌≡◌, ◌+◌, ◌<◌, ◌≤◌, ◌^◌, ◌∙◌, refl, sym, ap, arith, length, map, length-set}
use Rattle.vet_run.specs.Sums.{named_of}
use Rattle.vet_run.proofs.Sums.{all_added, both_nothing, one_added, one_too_many}
use Rattle.vet_run.proofs.summary.add_counts.Goals as goal

pub loop-index-init : goal.loop-index-init
loop-index-init c = record { added = sym (both_nothing (map named_of c.args.rules.now.items)); long = refl }

pub returns-in_default-checked_add-clause-too_many :
    goal.returns-in_default-checked_add-clause-too_many
returns-in_default-checked_add-clause-too_many c =
    λ e. one_too_many c.loop-index.index c.args.rules.now.items c.args.others.now c.loop-index.rules.items c.index.result.now c.index.result.now c.in-Some.other.now
    (omega (arith, c.loop-index-test.true, c.len-index-end.ensures)) c.in-Some.ensures.lookup.3.0 c.loop-index.invariant.long c.loop-index.invariant.added
    c.index.ensures c.index.ensures c.in-Some.ensures.lookup.1 (omega (arith, c.in_default-checked_add.ensures))

pub loop-index-preserved : goal.loop-index-preserved
loop-index-preserved c = record {
  added = one_added c.loop-index.index c.args.rules.now.items c.args.others.now c.loop-index.rules.items c.index.result.now c.index_mut.result.now c.in-Some.other.now
      (omega (arith, c.loop-index-test.true, c.len-index-end.ensures)) c.in-Some.ensures.lookup.3.0 c.loop-index.invariant.long c.loop-index.invariant.added
      c.index.ensures c.index_mut.ensures.value c.in-Some.ensures.lookup.1
      (record { rule = c.index_mut.result.now.rule; broken = c.in-Some-checked_add.sum }) refl (omega (arith, c.in-Some-checked_add.ensures));
  long = length-set c.loop-index.rules.items c.loop-index.index _ ∙ c.loop-index.invariant.long;
}

pub returns-clause-sum : goal.returns-clause-sum
returns-clause-sum c =
    λ e. all_added c.loop-index.index c.args.rules.now.items c.args.others.now c.loop-index.rules.items (omega (arith, c.loop-index-test.false, c.len-index-end.ensures)) c.loop-index.invariant.added
