use Rattle.std.proofs.Common.{rules}
use Rattle.std.proofs.lemmas.List.Sorted.{IsNonDecreasingBy-from_sort_by_key, answers_always}
use Rattle.std.proofs.lemmas.Result.{IfOk-weaker}
use Rattle.vet_run.specs.Summaries.{falling}
use Rattle.vet_run.proofs.summary_lines.rank.Goals as goal

pub returns-clause-ranked : goal.returns-clause-ranked
returns-clause-ranked c = IfOk-weaker c.sort_by_key.result _ _ (λ x h. IsNonDecreasingBy-from_sort_by_key falling _ h (λ a r q k. search rules)) c.sort_by_key.ensures.sorted

pub returns-clause-stable : goal.returns-clause-stable
returns-clause-stable c = c.sort_by_key.ensures.stable falling (answers_always _ _ _ (λ f a r g h. search rules))
