use Rattle.std.proofs.Common.{◌≡◌, ◌++◌, take}
use Rattle.std.specs.Prelude.{string_bytes, flat_map}
use Rattle.vet_run.specs.Summaries.{row_of, row_text}
use Rattle.vet_run.specs.declared.summary_lines.Row.{Row}
use Rattle.vet_run.proofs.summary_lines.push_rows.Given as goal

abbrev pub invariant-loop-row : goal.invariant-loop-row
invariant-loop-row l = string_bytes l.text ≡ string_bytes l.initial.text ++ flat_map (λ (r : Row). row_text l.columns (row_of r)) (take l.row-index l.rows)
