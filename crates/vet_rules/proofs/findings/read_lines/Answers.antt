use Rattle.std.proofs.Common.{arith}
use Rattle.vet_rules.specs.Faults.{none_yet}
use Rattle.vet_rules.proofs.Files.{more_read, few_added, all_read}
use Rattle.vet_rules.proofs.findings.read_lines.Goals as goal

pub loop-i-init : goal.loop-i-init
loop-i-init c = rw (c.new-rules.ensures.empty, c.new-faults.ensures.items) (none_yet, omega arith)

pub loop-i-preserved : goal.loop-i-preserved
loop-i-preserved c = (
  more_read c.args.lines.now c.loop-i.i _ c.loop-i.findings c.in_ok-findings.findings c.loop-i-test.true c.loop-i.invariant.0 c.in_ok-findings.ensures,
  omega (arith, c.loop-i.invariant.1, few_added _ _ c.loop-i.findings c.in_ok-findings.findings c.in_ok-findings.ensures),
)

pub returns : goal.returns
returns c = all_read c.args.lines.now c.loop-i.i c.args.most c.loop-i.findings c.loop-i-test.false c.loop-i.invariant.0 c.loop-i.invariant.1
