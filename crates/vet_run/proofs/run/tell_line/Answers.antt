use Rattle.std.proofs.Common.{◌∙◌, ◌||◌, [], ap, is_some, not, refl, subst, sym}
use Rattle.std.specs.Prelude.{option_map}
use Rattle.std.proofs.KnownBytes.{Appends-nil}
use Rattle.serde_json.specs.View.{view}
use Rattle.vet_run.specs.FirstBlocks.{blocks_of}
use Rattle.vet_run.specs.InputLines.{is_blank, record_on}
use Rattle.vet_run.specs.Runs.{IsMessageIf}
use Rattle.vet_run.proofs.Counted.{unread_counted}
use Rattle.vet_run.proofs.Firsts.{unread_taken}
use Rattle.vet_run.proofs.run.tell_line.Goals as goal

pub returns-in_ok-tell_problem-in-None-clause-broken : goal.returns-in_ok-tell_problem-in-None-clause-broken
returns-in_ok-tell_problem-in-None-clause-broken g c =
    unread_counted c.args.job.now.rules.now (record_on c.args.line.now.bytes.now) c.args.tally.now.broken.items (ap (option_map view) (sym c.in-None.is) ∙ c.in_ok-value.ensures)

pub returns-in_ok-tell_problem-in-None-clause-firsts : goal.returns-in_ok-tell_problem-in-None-clause-firsts
returns-in_ok-tell_problem-in-None-clause-firsts g c =
    unread_taken c.args.job.now c.args.line.now.number (record_on c.args.line.now.bytes.now) (blocks_of c.args.tally.now) (ap (option_map view) (sym c.in-None.is) ∙ c.in_ok-value.ensures)

-- a record stands on the line, so no message is written
pub returns-in_ok-held-in-Some-clause-message : goal.returns-in_ok-held-in-Some-clause-message
returns-in_ok-held-in-Some-clause-message g c =
    let none = subst (λ found. IsMessageIf (not (is_some found || is_blank c.args.line.now.bytes.now)) c.args.job.now c.args.line.now.number [])
    (ap (option_map view) (sym c.in-Some.is) ∙ c.in_ok-value.ensures) refl in
    ([], none, Appends-nil _)
