-- The next piece of an input.
use Rattle.std.proofs.Common.{◌≡◌, ℕ, ◌<◌, ◌≤◌, true, false, List, [], ◌∷◌, ◌++◌, length, map, Option, Some, None, sym, ap, ◌∙◌, le-ltb, lt-ltb, if◌then◌else◌}
use Rattle.streams.specs.Lines.{ended_lines}
use Rattle.streams.specs.declared.records.position.Position.{Position}
use Rattle.streams.specs.declared.records.position.Position.TheVariants.{Outside}
use Rattle.streams.specs.Records.{records, is_closed}
use Rattle.streams.specs.Runs as runs
use Rattle.vet_run.specs.declared.input_format.InputFormat.TheVariants.{JsonLines, Json}
use Rattle.vet_run.specs.InputLines.{taken_of, taken_lines}
use Rattle.vet_run.specs.Pieces.{trimmed, taken_record, unclosed, pieces, TakesPiece, IsOver}

-- ---- lines

short_taken : (limit : ℕ) (line : List ℕ) → length line ≤ limit → taken_of limit line ≡ Some line
short_taken limit line h = ap (λ b. if b then None else Some line) (le-ltb limit (length line) h)

long_taken : (limit : ℕ) (line : List ℕ) → limit < length line → taken_of limit line ≡ None
long_taken limit line h = ap (λ b. if b then None else Some line) (lt-ltb limit (length line) h)

module _ (limit : ℕ) (r1 r2 : Option (List ℕ)) (p q : Position) where
  pub takes_short : (line : List ℕ) → length line ≤ limit
      → ((bytes : List ℕ) → r1 ≡ Some bytes → (left : List ℕ) × (r2 ≡ Some left) × (ended_lines bytes ≡ line ∷ ended_lines left))
      → TakesPiece JsonLines limit r1 r2 p q (Some line)
  takes_short line short next bytes known = let n = next bytes known in (
    n.0,
    n.1,
    ap (map (taken_of limit)) n.2 ∙ ap (λ t. t ∷ taken_lines limit n.0) (short_taken limit line short),
  )

  pub takes_long : ((bytes : List ℕ) → r1 ≡ Some bytes → (long : List ℕ) × (left : List ℕ) × (r2 ≡ Some left) × (ended_lines bytes ≡ long ∷ ended_lines left) × (limit < length long))
      → TakesPiece JsonLines limit r1 r2 p q None
  takes_long next bytes known = let n = next bytes known in (
    n.1,
    n.2,
    ap (map (taken_of limit)) n.3 ∙ ap (λ t. t ∷ taken_lines limit n.1) (long_taken limit n.0 n.4),
  )

  pub no_line : ((bytes : List ℕ) → r1 ≡ Some bytes → (r2 ≡ Some []) × (ended_lines bytes ≡ [])) → IsOver JsonLines limit r1 r2 p
  no_line end bytes known = let n = end bytes known in (n.0, ap (map (taken_of limit)) n.1)

  -- ---- records

  takes_value : (value : List ℕ) (piece : Option (List ℕ)) → taken_record limit value ≡ piece → runs.IsNext r1 r2 p q value → TakesPiece Json limit r1 r2 p q piece
  takes_value value piece is next bytes known = let n = next bytes known in (
    n.0,
    n.1,
    ap (λ vs. map (taken_record limit) vs ++ unclosed (is_closed p bytes)) n.2
        ∙ ap (λ t. t ∷ (map (taken_record limit) (records q n.0) ++ unclosed (is_closed p bytes))) is
        ∙ ap (λ b. piece ∷ (map (taken_record limit) (records q n.0) ++ unclosed b)) n.3,
  )

  pub takes_record : (value : List ℕ) → length value ≤ limit → runs.IsNext r1 r2 p q value → TakesPiece Json limit r1 r2 p q (Some (trimmed value ++ 10 ∷ []))
  takes_record value short next = takes_value value (Some (trimmed value ++ 10 ∷ [])) (ap (λ b. if b then None else Some (trimmed value ++ 10 ∷ [])) (le-ltb limit (length value) short)) next

  pub takes_long_record : (long : List ℕ) × (limit < length long) × runs.IsNext r1 r2 p q long → TakesPiece Json limit r1 r2 p q None
  takes_long_record l = takes_value l.0 None (ap (λ b. if b then None else Some (trimmed l.0 ++ 10 ∷ [])) (lt-ltb limit (length l.0) l.1)) l.2

  pub takes_unclosed : q ≡ Outside → runs.IsOver r1 r2 p false → TakesPiece Json limit r1 r2 p q (Some (91 ∷ []))
  takes_unclosed outside over bytes known = let n = over bytes known in (
    [],
    n.0,
    ap (λ vs. map (taken_record limit) vs ++ unclosed (is_closed p bytes)) n.1 ∙ ap unclosed n.2
        ∙ ap (λ r. Some (91 ∷ []) ∷ pieces Json limit r []) (sym outside),
  )

  pub no_record : runs.IsOver r1 r2 p true → IsOver Json limit r1 r2 p
  no_record over bytes known = let n = over bytes known in
      (n.0, ap (λ vs. map (taken_record limit) vs ++ unclosed (is_closed p bytes)) n.1 ∙ ap unclosed n.2)
