use Rattle.std.proofs.Common.{ap, map, ◌∙◌}
use Rattle.std.specs.Prelude.{string_bytes}
use Rattle.serde_json.specs.View.{view}
use Rattle.vet_run.specs.Counting.{left_after}
use Rattle.vet_run.specs.FirstBlocks.{blocks_of}
use Rattle.vet_run.specs.Judgements.{broken_from, placed}
use Rattle.vet_run.specs.Records.{shown}
use Rattle.vet_run.specs.Settings.{tells}
use Rattle.vet_run.proofs.Counted.{counted_judged}
use Rattle.vet_run.proofs.Firsts.{firsts_judged}
use Rattle.vet_run.proofs.Judging.{broken_judged, keeps_where_none}
use Rattle.vet_run.proofs.run.take_record.Goals as goal

pub take_firsts-requires : goal.take_firsts-requires
take_firsts-requires g c =
    rw (c.deref-2.ensures.value) (broken_judged (view c.args.record.now.value.now) c.asks_all-whole.result c.args.job.now.rules.now c.in_ok-broken.broken.items c.in_ok-broken.ensures)

pub returns-clause-broken : goal.returns-clause-broken
returns-clause-broken g c =
    let j = c.args.job.now in
    let d = view c.args.record.now.value.now in
    let t = c.args.tally.now in
    let judged = c.in_ok-broken.ensures ∙ ap (λ w. shown w (broken_from 0 j.rules.now d)) c.asks_all-whole.ensures in
    ap (λ v. v.items) c.take_room.ensures.broken ∙ (rw c.deref.ensures.value at c.in_ok-count_broken.ensures)
    ∙ counted_judged j.settings.now.report c.has_room-room.result d j.rules.now (map placed c.in_ok-broken.broken.items) t.broken.items (blocks_of t) judged

pub returns-clause-firsts : goal.returns-clause-firsts
returns-clause-firsts g c =
    let j = c.args.job.now in
    let d = view c.args.record.now.value.now in
    let t = c.args.tally.now in
    let judged = c.in_ok-broken.ensures ∙ ap (λ w. shown w (broken_from 0 j.rules.now d)) c.asks_all-whole.ensures in
    rw (c.take_room.ensures.firsts) (firsts_judged j c.args.record.now.number d j.settings.now.report c.has_room-room.result
    (map placed c.in_ok-broken.broken.items) t.broken.items (blocks_of t) (map string_bytes c.take_firsts.new.blocks.items) judged
    (rw c.deref-2.ensures.value at c.in_ok-take_firsts.ensures))

pub returns-clause-held : goal.returns-clause-held
returns-clause-held g c =
    (rw c.deref-4.ensures.value at c.is_none-held.ensures)
    ∙ keeps_where_none (view c.args.record.now.value.now) c.asks_all-whole.result c.args.job.now.rules.now c.in_ok-broken.broken.items c.in_ok-broken.ensures

pub returns-clause-left : goal.returns-clause-left
returns-clause-left g c =
    let held = (rw c.deref-4.ensures.value at c.is_none-held.ensures)
    ∙ keeps_where_none (view c.args.record.now.value.now) c.asks_all-whole.result c.args.job.now.rules.now c.in_ok-broken.broken.items c.in_ok-broken.ensures in
    c.take_room.ensures.left ∙ ap (λ b. left_after b c.args.tally.now.left) (c.tells.ensures ∙ ap (tells c.args.job.now.settings.now.report) held)
