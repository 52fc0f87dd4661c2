use Rattle.std.proofs.Common.{arith}
use Rattle.vet_run.specs.Objects.{shown_text}
use Rattle.vet_run.proofs.Listing.{later_more, listed_more}
use Rattle.vet_run.proofs.object.push_all.Goals as goal

pub loop-shown-preserved : goal.loop-shown-preserved
loop-shown-preserved c = record {
  later = later_more c.args.cases.now c.loop-shown.shown-index c.shown-item.result (omega arith) c.shown-item.is;
  text = listed_more shown_text c.args.cases.now c.loop-shown.shown-index c.shown-item.result c.loop-shown.later _ _ _ _ (omega arith) c.shown-item.is c.loop-shown.invariant.later c.loop-shown.invariant.text c.in_ok-push_comma.ensures c.in_ok-push_shown.ensures;
}
