-- How a line is taken of an input in parts.
use Rattle.std.specs.Prelude.{◌≡◌, ◌≢◌, ℕ, ◌+◌, ◌<◌, ◌≤◌, Bool, true, false, List, ◌++◌, length}
use Rattle.std.specs.Prelude.{All, Ok, Option, Result, OnSome, OnOk, OnErr, IfSome}
use Rattle.std.specs.Io.{StopsAt, IsEmptyOrEndsWith}
use Rattle.std.specs.Io.BufRead.{take_through, DropsThrough}
use Rattle.std.specs.Io.KnownBytes.{Consumes, IsAtEnd}

-- some bytes of a line were taken, and none of another
abbrev pub IsInside : Option (List ℕ) → Option (List ℕ) → List ℕ → Type 0
IsInside before after taken = Consumes before after taken × All (λ x. x ≢ 10) taken

-- a part of the line was taken behind what was there, and the answer is whether the line ends with
-- it
pub record TakesPart {E : Type 0} (before after : Option (List ℕ)) (old new : List ℕ)
    (most : ℕ) (result : Result Bool E) : Type 0 where
  pub part : List ℕ
  pub joined : new ≡ old ++ part
  pub short : length part ≤ most
  pub taken : Consumes before after part
  pub inside : result ≢ Ok true → All (λ x. x ≢ 10) part
  pub stops : StopsAt part 10
  pub ends : result ≡ Ok true → IsEmptyOrEndsWith part 10
  pub none : result ≡ Ok true → length part ≡ 0 → OnSome before (IsAtEnd after)

-- the line was taken, or, where the answer is `false`, a front that is longer than the limit
pub record TakesFront {E : Type 0} (before after : Option (List ℕ)) (line : List ℕ)
    (limit : ℕ) (result : Result Bool E) : Type 0 where
  pub whole : result ≡ Ok true → IfSome before (λ bytes. line ≡ take_through 10 bytes)
      × DropsThrough before after 10
  pub long : result ≡ Ok false → limit < length line
  pub inside : result ≢ Ok true → IsInside before after line

-- the rest of the line was passed over
pub record PassesRest {X E : Type 0} (before after : Option (List ℕ))
    (result : Result X E) : Type 0 where
  pub whole : OnOk result (DropsThrough before after 10)
  pub inside : OnErr result ((passed : List ℕ) × IsInside before after passed)
