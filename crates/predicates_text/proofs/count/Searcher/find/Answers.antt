use Rattle.std.proofs.Common.{subst, refl}
use Rattle.memchr.specs.Find.{FindsNeedle}
use Rattle.predicates_text.proofs.Searching.{lacks_byte, first_by_byte}
use Rattle.predicates_text.proofs.count.Searcher.find.Goals as goal

pub returns-in_err-place : goal.returns-in_err-place
returns-in_err-place c = rw c.from_residual.ensures (lacks_byte c.args.pattern.now c.args.text.now c.args.self.now.rare_index c.if-self-pattern.true c.in_err-place.ensures)

pub returns-then-is_prefix : goal.returns-then-is_prefix
returns-then-is_prefix c = first_by_byte c.args.pattern.now c.args.text.now c.args.self.now.rare_index c.in_ok-place.place c.if-self-pattern.true c.in_ok-place.ensures (c.if-is_prefix.ensures.0 refl)

pub returns : goal.returns
returns c = subst (λ n. FindsNeedle c.args.text.now n 0 c.find.result) c.requires c.find.ensures
