use Rattle.std.proofs.Common.{ap, cond, [], ◌∙◌}
use mathlib.Core.Bool.{beq}
use Rattle.serde_json.specs.View.{view}
use Rattle.vet_run.specs.InputLines.{ended}
use Rattle.vet_run.specs.Settings.{shows_all}
use Rattle.vet_run.proofs.Judging.{keeps_where_judged}
use Rattle.vet_run.proofs.run.tell_record.Goals as goal

pub returns-in-Lines : goal.returns-in-Lines
returns-in-Lines g c =
    let j = c.args.job.now in
    let held = c.is_none.ensures ∙ keeps_where_judged (view c.args.record.now.value.now) (shows_all j.settings.now.report) j.rules.now c.args.broken.now c.requires in
    rw (c.in-Lines.is) (
      cond (beq c.is_none.result c.in-Lines.wanted) (ended c.args.record.now.bytes.now) [],
      ap (λ b. cond (beq b c.in-Lines.wanted) (ended c.args.record.now.bytes.now) []) held,
      c.in_ok-tell_wanted-in-Lines.ensures,
    )
