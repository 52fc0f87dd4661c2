use Rattle.std.proofs.Common.{arith, refl}
use Rattle.std.specs.Prelude.{string_bytes}
use Rattle.serde_json.specs.View.{view}
use Rattle.vet_run.specs.Judgements.{placed}
use Rattle.vet_run.proofs.Firsts.{is_placed}
use Rattle.vet_run.proofs.first_blocks.take_at.Goals as goal

pub returns : goal.returns
returns c = is_placed c.args.job.now c.args.record.now.number (view c.args.record.now.value.now)
    string_bytes (placed c.args.broken.now) c.args.blocks.now.items _ c.index_mut.result.now c.take_first.new.block
    (omega arith) c.index_mut.ensures.value refl c.in_ok-take_first.ensures
