use Rattle.std.proofs.Common.{◌≡◌, ◌++◌, ◌∷◌, [], arith, refl}
use Rattle.vet_rules.specs.Rules.{lines_of}
use Rattle.vet_run.proofs.Rejecting.{texts, begin, go_on, one_told, none_told_there, cut_off, told_to_end}
use Rattle.vet_run.proofs.rules_file.faults_of.Goals as goal
use Rattle.vet_run.proofs.rules_file.faults_of.Goals.{in-Some+else-len-eq-MOST_FAULTS+in_ok-push-2, in_default}

pub loop-index-init : goal.loop-index-init
loop-index-init c =
    let lines : texts c.deref-line-items.result.now ≡ lines_of c.args.text.now = rw c.deref-line-items.ensures.value c.in_ok-lines.ensures in (
      lines,
      begin c.args.text.now c.deref-line-items.result.now c.in_ok-others.others.items c.reverse.new.self.items c.new-faults.result.items lines c.in_ok-others.ensures c.reverse.ensures.items c.new-faults.ensures.items,
      rw c.new-faults.ensures.items (omega arith),
    )

pub returns-then-len-eq-MOST_FAULTS : goal.returns-then-len-eq-MOST_FAULTS
returns-then-len-eq-MOST_FAULTS c =
    let at = c.loop-index.invariant.0 in
    let t = go_on c.args.text.now c.deref-line-items.result.now c.loop-index.index _ c.loop-index.others.items c.fault_at.new.others.items c.loop-index.faults.items c.in_ok-fault.field-0 at c.loop-index-test.true c.loop-index.invariant.2 c.loop-index.invariant.1 c.in_ok-fault.ensures in
    cut_off c.args.text.now c.deref-line-items.result.now _ c.fault_at.new.others.items c.loop-index.faults.items c.push.new.self.items c.in_ok-fault.field-0 c.in-Some.fault at c.in-Some.is c.in_ok-push.ensures.items (omega (arith, c.len.ensures, c.if-len-eq-MOST_FAULTS.true)) t

pub loop-index-preserved : goal.loop-index-preserved
loop-index-preserved c =
    let at = c.loop-index.invariant.0 in
    let t = go_on c.args.text.now c.deref-line-items.result.now c.loop-index.index _ c.loop-index.others.items c.fault_at.new.others.items c.loop-index.faults.items c.in_ok-fault.field-0 at c.loop-index-test.true c.loop-index.invariant.2 c.loop-index.invariant.1 c.in_ok-fault.ensures in
    elim c.match-branch-4.branch [
      | in-Some+else-len-eq-MOST_FAULTS+in_ok-push-2 w ↦
          let e : c.match-branch-4.faults.items ≡ c.loop-index.faults.items ++ w.in-Some.fault ∷ [] = rw w.faults-is w.in_ok-push-2.ensures.items in
          let p = one_told _ _ c.fault_at.new.others.items c.loop-index.faults.items c.match-branch-4.faults.items c.in_ok-fault.field-0 w.in-Some.fault w.in-Some.is e c.loop-index.invariant.2 (λ full. omega (arith, w.len.ensures, w.if-len-eq-MOST_FAULTS.false, full)) t in
          (at, p.0, p.1)
      | in_default w ↦
          let e : c.match-branch-4.faults.items ≡ c.loop-index.faults.items = rw w.faults-is refl in
          let p = none_told_there _ _ c.fault_at.new.others.items c.loop-index.faults.items c.match-branch-4.faults.items c.in_ok-fault.field-0 w.in_default.is e c.loop-index.invariant.2 t in
          (at, p.0, p.1)
    ]

pub returns : goal.returns
returns c = told_to_end c.args.text.now c.deref-line-items.result.now c.loop-index.index c.loop-index.others.items c.loop-index.faults.items c.loop-index.invariant.0 c.loop-index-test.false c.loop-index.invariant.2 c.loop-index.invariant.1
