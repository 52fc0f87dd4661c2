use Rattle.std.proofs.Common.{Ok, refl, ap, rules, arith}
use Rattle.streams.proofs.Parts.{inside_none, inside_more, whole_more}
use Rattle.streams.proofs.within.take_front.Goals as goal

pub loop-init : goal.loop-init
loop-init g c = rw c.clear.ensures.items (inside_none _)

pub loop-preserved : goal.loop-preserved
loop-preserved g c = inside_more _ _ _ _ _ _ _ c.loop.invariant c.in_ok-take_part.ensures.part (λ e. cc c.if-branch.false)

pub returns-then-len-most-clause-front : goal.returns-then-len-most-clause-front
returns-then-len-most-clause-front g c =
    record { whole = λ is. absurd cc; long = λ _. omega (arith, c.if-len-most.true, c.len.ensures, c.loop.line.ok.0); inside = λ _. c.loop.invariant }

pub returns-in_err-take_part-clause-front : goal.returns-in_err-take_part-clause-front
returns-in_err-take_part-clause-front g c =
    record {
      whole = search rules;
      long = search rules;
      inside = λ _. inside_more _ _ _ _ _ _ _ c.loop.invariant c.in_err-take_part.ensures.part (λ e. cc);
    }

pub returns-then-branch-clause-front : goal.returns-then-branch-clause-front
returns-then-branch-clause-front g c =
    record {
      whole = λ _. whole_more _ _ _ _ _ _ _ c.loop.invariant c.in_ok-take_part.ensures.part (ap Ok c.if-branch.true);
      long = λ is. absurd cc;
      inside = λ more. absurd (more refl);
    }

pub returns-clause-front : goal.returns-clause-front
returns-clause-front g c = record { whole = λ is. absurd cc; long = λ is. absurd cc; inside = λ _. c.loop.invariant }
