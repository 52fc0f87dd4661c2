use Rattle.std.proofs.Common.{arith, refl}
use Rattle.predicates_core.proofs.Tally.{counts_more}
use Rattle.predicates_core.proofs.custom.tally.Tally.count.Goals as goal

pub returns-clause-counts : goal.returns-clause-counts
returns-clause-counts c = λ text name. counts_more text name c.args.self.now (record { count = c.saturating_add-self.result; node = c.args.self.now.held.node }) (record { count = c.saturating_add-self-2.result; node = c.args.self.now.failed.node }) _ c.args.more.held c.args.more.failed
    c.requires.held c.requires.failed refl c.requires.fits refl refl (λ fits. omega (arith, fits, c.saturating_add-self.ensures)) (λ fits. omega (arith, fits, c.saturating_add-self-2.ensures))
