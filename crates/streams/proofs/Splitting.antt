-- The first line of an input, and the rest of its lines.
use Rattle.std.proofs.Common.{◌≡◌, ℕ, ◌<◌, Bool, true, false, ◌==◌, List, [], ◌∷◌, length, refl, ap, arith}
use Rattle.std.specs.Io.BufRead.{take_through, drop_through}
use Rattle.streams.specs.Lines.{ended_lines, onto_first}

ended-through : (byte : ℕ) (bytes : List ℕ) (b : Bool) → (byte == 10) ≡ b
    → ended_lines (byte ∷ bytes) ≡ take_through 10 (byte ∷ bytes) ∷ ended_lines (drop_through 10 (byte ∷ bytes))
ended-through byte bytes true e = simp e
ended-through byte [] false e = simp e
ended-through byte (next ∷ bytes) false e = simp e (ap (onto_first byte) (ended-through next bytes (next == 10) refl))

-- what `read_until` took is the first line with its line feed
pub ended_from_taken : (bytes taken : List ℕ) → taken ≡ take_through 10 bytes → 0 < length taken
    → ended_lines bytes ≡ taken ∷ ended_lines (drop_through 10 bytes)
ended_from_taken [] taken e some = absurd (omega (arith, ap length e))
ended_from_taken (byte ∷ bytes) taken e some = rw e (ended-through byte bytes (byte == 10) refl)
