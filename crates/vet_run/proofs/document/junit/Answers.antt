use Rattle.vet_run.specs.FirstBlocks.{blocks_of}
use Rattle.vet_run.proofs.Documents.{whole_document}
use Rattle.vet_run.proofs.document.junit.Goals as goal

pub returns : goal.returns
returns c = whole_document c.args.name.now c.args.rules.now c.args.tally.now.broken.items (blocks_of c.args.tally.now) c.args.tally.now.counts.unreadable c.args.all_read
    _ _ _ _ _ _ c.new-text.ensures.items
    (rw c.as_slice-counts.ensures.value at rw c.errors-errors.ensures at rw c.failures.ensures at c.in_ok-push_head.ensures)
    (rw c.as_slice-counts.ensures.value at rw c.as_slice-blocks.ensures.value at c.in_ok-push_rules.ensures)
    c.in_ok-push_lines.ensures c.in_ok-push_files.ensures c.in_ok-push_bytes.ensures
