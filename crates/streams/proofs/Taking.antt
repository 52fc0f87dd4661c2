-- The record that was taken, and what is left.
use Rattle.std.proofs.Common.{◌≡◌, ◌≢◌, ℕ, ◌+◌, ◌<◌, ◌≤◌, Bool, true, false, List, [], ◌∷◌, ◌++◌, length, take, Option, None, Some, Result, Ok, Err, OnOk, OnErr, OnSome, refl, sym, ap, ◌∙◌, take_all, length-take, zero-le, arith}
use Rattle.std.specs.Io.KnownBytes.{Keeps, Consumes, IsAtEnd}
use Rattle.std.proofs.KnownBytes.{Consumes-nil, Consumes-kept, Consumes-trans}
use Rattle.streams.specs.declared.records.position.Position.{Position}
use Rattle.streams.specs.declared.records.part.Part.{Part}
use Rattle.streams.specs.declared.records.part.Part.TheVariants.{More, AtEnd}
use Rattle.streams.specs.Records.{records, is_closed, cut_short, is_outside}
use Rattle.streams.specs.Runs.{onto_front, is_ended, Takes, TakesPart, IsCutShort, IsNext, IsOver, IsInside}
use Rattle.streams.proofs.Moving.{onto_front-end, Takes-none, Takes-trans}

-- ---- nothing was taken

more_only : {E : Type 0} (result : Result Part E) → OnOk result (result ≡ Ok More) → (is_ended result ≡ false) × (result ≢ Ok AtEnd)
more_only (Ok part) more = (ap is_ended more, λ end. cc)
more_only (Err e) more = (refl, λ end. cc)

pub took_none : {E : Type 0} (before after : Option (List ℕ)) (p : Position) (old : List ℕ) (most : ℕ) (result : Result Part E)
    → Keeps before after → OnOk result (result ≡ Ok More) → TakesPart before after p p old old most result
took_none before after p old most result kept more =
    let only = more_only result more in
    record {
      bytes = [];
      consumed = Consumes-kept before before after [] (Consumes-nil before) kept;
      takes = rw only.0 (Takes-none p old most);
      at_end = λ end. absurd (only.1 end);
    }

-- ---- parts

-- what was taken since the call began
pub record Taken (before after : Option (List ℕ)) (p : Position) (is_end : Bool) (q : Position) (value : List ℕ) (most : ℕ) : Type 0 where
  pub bytes : List ℕ
  pub consumed : Consumes before after bytes
  pub takes : Takes p bytes is_end q [] value most

pub Taken-none : (a : Option (List ℕ)) (p : Position) (most : ℕ) → Taken a a p false p [] most
Taken-none a p most = record { bytes = []; consumed = Consumes-nil a; takes = Takes-none p [] most }

pub Taken-part : {E : Type 0} (before middle after : Option (List ℕ)) (p q r : Position) (old new : List ℕ) (most : ℕ) (result : Result Part E)
    → Taken before middle p false q old most → TakesPart middle after q r old new most result → Taken before after p (is_ended result) r new most
Taken-part before middle after p q r old new most result taken part =
    record {
      bytes = taken.bytes ++ part.bytes;
      consumed = Consumes-trans before middle after taken.bytes part.bytes taken.consumed part.consumed;
      takes = Takes-trans p q r taken.bytes part.bytes (is_ended result) [] old new most taken.takes part.takes;
    }

pub at_end_of : (before middle after : Option (List ℕ)) (bytes : List ℕ) → Consumes before middle bytes → OnSome middle (IsAtEnd after) → OnSome before (IsAtEnd after)
at_end_of None middle after bytes consumed end = tt
at_end_of (Some xs) None after bytes consumed end = absurd consumed
at_end_of (Some xs) (Some ys) after bytes consumed end = end

-- ---- the record

module _ (before after : Option (List ℕ)) (p : Position) (is_end : Bool) (q : Position) (value : List ℕ) (most limit : ℕ) (most-is : most ≡ limit + 1) (t : Taken before after p is_end q value most) where
  value-is : value ≡ take most t.takes.kept
  value-is = t.takes.grows [] (sym (take_all most [] zero-le))

  whole_kept : length value ≤ limit → value ≡ t.takes.kept
  whole_kept short =
      let size = length-take most t.takes.kept in
      let fits : length t.takes.kept ≤ most = omega (arith, size, ap length value-is) in
      value-is ∙ take_all most t.takes.kept fits

  long_kept : limit < length value → limit < length t.takes.kept
  long_kept long = omega (arith, length-take most t.takes.kept, ap length value-is)

  -- the record that was taken is what the buffer holds where that fits
  pub as_whole : (r : Position) → length value ≤ limit → IsNext before after p r t.takes.kept → IsNext before after p r value
  as_whole r short next = rw (whole_kept short) next

  -- and is too long where that does not fit
  pub as_long : (r : Position) → limit < length value → IsNext before after p r t.takes.kept
      → (long : List ℕ) × (limit < length long) × IsNext before after p r long
  as_long r long next = (t.takes.kept, long_kept long, next)

next_at : (bytes : List ℕ) (after : Option (List ℕ)) (p q : Position) (value : List ℕ) (most : ℕ) (taken : List ℕ) → Consumes (Some bytes) after taken
    → (t : Takes p taken true q [] value most)
    → (left : List ℕ) × (after ≡ Some left) × (records p bytes ≡ t.kept ∷ records q left) × (is_closed p bytes ≡ is_closed q left)
next_at bytes None p q value most taken consumed t = absurd consumed
next_at bytes (Some left) p q value most taken consumed t = (
  left,
  refl,
  ap (records p) consumed ∙ t.moves.split left ∙ onto_front-end t.kept (records q left),
  ap (is_closed p) consumed ∙ t.moves.closed left,
)

pub next_of : (before after : Option (List ℕ)) (p q : Position) (value : List ℕ) (most : ℕ) (t : Taken before after p true q value most) → IsNext before after p q t.takes.kept
next_of before after p q value most t bytes known = next_at bytes after p q value most t.bytes (rw known at t.consumed) t.takes

pub inside_of : (before after : Option (List ℕ)) (p q : Position) (value : List ℕ) (most : ℕ) → Taken before after p false q value most → IsInside before after p q
inside_of before after p q value most t = (t.bytes, t.takes.kept, t.consumed, t.takes.moves)

pub on_err : {X E : Type 0} (r : Result X E) (P : Type 0) → P → OnErr r P
on_err (Ok x) P p = tt
on_err (Err e) P p = p

-- ---- the end of the input

end_at : (bytes : List ℕ) (after : Option (List ℕ)) (taken : List ℕ) → Consumes (Some bytes) after taken → IsAtEnd after → (after ≡ Some []) × (bytes ≡ taken ++ [])
end_at bytes None taken consumed end = absurd consumed
end_at bytes (Some left) taken consumed end = (ap Some end, consumed ∙ ap (λ l. taken ++ l) end)

module _ (before after : Option (List ℕ)) (p q : Position) (value : List ℕ) (most : ℕ) (t : Taken before after p false q value most) (end : OnSome before (IsAtEnd after)) where
  -- it ended a record
  pub last_of : (r : Position) → IsCutShort q r → IsNext before after p r t.takes.kept
  last_of r cut bytes known =
      let at = end_at bytes after t.bytes (rw known at t.consumed) (rw known at end) in
      let kept = t.takes.kept in (
        [],
        at.0,
        ap (records p) at.1 ∙ t.takes.moves.split [] ∙ ap (onto_front kept) cut.0 ∙ onto_front-end kept [] ∙ ap (λ l. kept ∷ l) (sym cut.1),
        ap (is_closed p) at.1 ∙ t.takes.moves.closed [] ∙ sym cut.2,
      )

  -- nothing was left
  pub over_of : (closed : Bool) → cut_short q ≡ [] → is_outside q ≡ closed → IsOver before after p closed
  over_of closed none outside bytes known =
      let at = end_at bytes after t.bytes (rw known at t.consumed) (rw known at end) in (
        at.0,
        ap (records p) at.1 ∙ t.takes.moves.split [] ∙ ap (onto_front t.takes.kept) none ∙ ap (λ k. onto_front k []) (t.takes.moves.gap refl none).1,
        ap (is_closed p) at.1 ∙ t.takes.moves.closed [] ∙ outside,
      )
