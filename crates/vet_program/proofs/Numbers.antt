-- A number of the command line.
use Rattle.std.proofs.Common.{ℕ, List, Option, None, Some}
use Rattle.std.specs.Str.Parse.{ParsesUnsigned, ExplainsUnsignedError, HasUnsignedDigitsIfOk}
use Rattle.clap.specs.Matches.{ReadsOne}
use Rattle.vet_program.specs.Words.{ReadsNumber}

-- what `get_one` reads is the number that the text writes
pub reads_number : (text : List ℕ) (number : Option ℕ)
    → ReadsOne (λ bytes r. ParsesUnsigned 64 10 bytes r × ExplainsUnsignedError 10 bytes r × HasUnsignedDigitsIfOk bytes r) text number
    → ReadsNumber text number
reads_number text None (e, h) = h.0
reads_number text (Some n) h = h.0
