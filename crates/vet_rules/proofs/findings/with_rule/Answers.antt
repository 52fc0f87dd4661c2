use Rattle.std.proofs.Common.{sym}
use Rattle.vet_rules.specs.Rules.{rule_of}
use Rattle.vet_rules.proofs.Files.{repeat_added, rule_added}
use Rattle.vet_rules.proofs.findings.with_rule.Goals as goal

pub returns-in-Some : goal.returns-in-Some
returns-in-Some c =
    let named = rw c.deref.ensures at c.in-Some.ensures in
    repeat_added c.args.number c.args.line.now c.args.findings (rule_of c.args.rule) c.in-Some.first c.in_ok-fault.fault c.with_fault.result c.requires (sym named) c.in_ok-fault.ensures c.with_fault.ensures

pub with_new-requires : goal.with_new-requires
with_new-requires c = sym (rw c.deref.ensures at c.in_default.ensures)

pub returns : goal.returns
returns c =
    let named = rw c.deref.ensures at c.in_default.ensures in
    rule_added c.args.number c.args.line.now c.args.findings (rule_of c.args.rule) c.with_new.result c.requires (sym named) c.with_new.ensures
