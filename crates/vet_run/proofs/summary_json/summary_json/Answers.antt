use Rattle.vet_run.proofs.Sums.{sum_text}
use Rattle.vet_run.proofs.summary_json.summary_json.Goals as goal

pub returns : goal.returns
returns c =
    sum_text c.args.summary.now c.deref.result.now _ _ _ c.deref.ensures.value c.in_ok-text.ensures c.in_ok-push_rules.ensures c.in_ok-push_str.ensures.bytes
