use Rattle.std.proofs.Common.{◌≡◌, ◌+◌, ℕ, List, Some, ap, sym, length, ◌∙◌, rules}
use Rattle.std.specs.Str.{chars}
use Rattle.std.proofs.lemmas.Str.{chars_from_encodes}
use Rattle.vet_checks.specs.Refusals.{column_of}
use Rattle.vet_checks.proofs.pattern_fault.column.Goals as goal

pub range-before-requires-clause-end_boundary : goal.range-before-requires-clause-end_boundary
range-before-requires-clause-end_boundary c = let spans = c.requires.within c.in-Syntax.error c.in-Syntax.is in spans.1

pub returns-in-Syntax : goal.returns-in-Syntax
returns-in-Syntax c =
    let counted : c.count.result ≡ length (chars c.range-before.result.now) = search (rules, chars_from_encodes) in
    ap (λ (k : ℕ). Some (k + 1)) (counted ∙ ap (λ (s : List ℕ). length (chars s)) c.range-before.ensures.value) ∙ ap (column_of c.args.pattern.now) (sym c.in-Syntax.is)
