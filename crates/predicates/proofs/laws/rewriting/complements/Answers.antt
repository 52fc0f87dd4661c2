use Rattle.predicates.proofs.Opposites.{opposite_leaves, less_or_not, greater_or_not, twice}
use Rattle.predicates.proofs.laws.rewriting.complements.Goals as goal

pub returns-clause-lt_ge : goal.returns-clause-lt_ge
returns-clause-lt_ge g c = opposite_leaves _ _ _ _ (less_or_not _)

pub returns-clause-gt_le : goal.returns-clause-gt_le
returns-clause-gt_le g c = opposite_leaves _ _ _ _ (greater_or_not _)

pub returns-clause-eq_ne : goal.returns-clause-eq_ne
returns-clause-eq_ne g c = opposite_leaves _ _ _ _ (twice _)
