-- Bytes that move the reading, one after another.
use Rattle.std.proofs.Common.{◌≡◌, ℕ, ◌+◌, ◌-◌, ◌<◌, length, get_or, nat_lt, true≢false, ◌⊎◌, inl, inr, Bool, true, false, not, ◌&&◌, ◌==◌, List, [], ◌∷◌, ◌++◌, take, refl, sym, ap, ◌∙◌, append_assoc, append-nil, if◌then◌else◌}
use Rattle.std.proofs.lemmas.List.{take_more}
use Rattle.streams.specs.Lines.{onto_first}
use Rattle.streams.specs.declared.records.position.Position.{Position}
use Rattle.streams.specs.declared.records.position.Position.TheVariants.{Outside, First, Member, Value, Text, Escape}
use Rattle.streams.specs.declared.records.step.Step.{Step}
use Rattle.streams.specs.RecordSteps.{is_white, is_opening, is_closing, step_of, between, within, last, behind, deeper, in_member, in_record, in_value, in_text, at_first, at_member, at_outside}
use Rattle.streams.specs.Records.{records, is_closed, before, cut_short}
use Rattle.streams.specs.Runs.{onto_front, ending, Moves, Grows, Takes}

onto_front-append : (xs ys : List ℕ) (others : List (List ℕ)) → onto_front (xs ++ ys) others ≡ onto_front xs (onto_front ys others)
onto_front-append [] ys others = refl
onto_front-append (x ∷ xs) ys others = ap (onto_first x) (onto_front-append xs ys others)

pub onto_front-end : (xs : List ℕ) (others : List (List ℕ)) → onto_front xs ([] ∷ others) ≡ xs ∷ others
onto_front-end [] others = refl
onto_front-end (x ∷ xs) others = ap (onto_first x) (onto_front-end xs others)

pub Moves-none : (p : Position) → Moves p [] false p []
Moves-none p = record { split = λ rest. refl; closed = λ rest. refl; gap = λ _ none. (none, refl) }

pub Moves-trans : (p q r : Position) (xs ys : List ℕ) (is_end : Bool) (ks ls : List ℕ) → Moves p xs false q ks → Moves q ys is_end r ls → Moves p (xs ++ ys) is_end r (ks ++ ls)
Moves-trans p q r xs ys is_end ks ls first second =
    record {
      split = λ rest. ap (records p) (append_assoc xs ys rest) ∙ first.split (ys ++ rest) ∙ ap (onto_front ks) (second.split rest)
          ∙ sym (onto_front-append ks ls (ending is_end (records r rest)));
      closed = λ rest. ap (is_closed p) (append_assoc xs ys rest) ∙ first.closed (ys ++ rest) ∙ second.closed rest;
      gap = λ no none.
          let at = second.gap no none in
          let front = first.gap refl at.0 in
          (front.0, ap (λ l. l ++ ls) front.1 ∙ at.1);
    }

-- the byte, if it is of a record
abbrev pub kept_of : Bool → ℕ → List ℕ
kept_of is_kept byte = if is_kept then byte ∷ [] else []

pub kept_of-yes : (byte : ℕ) (b : Bool) → b ≡ true → kept_of b byte ≡ byte ∷ []
kept_of-yes byte b e = ap (λ k. kept_of k byte) e

pub kept_of-no : (byte : ℕ) (b : Bool) → b ≡ false → kept_of b byte ≡ []
kept_of-no byte b e = ap (λ k. kept_of k byte) e

before-is : (position : Position) (is_kept is_end : Bool) (byte : ℕ) (others : List (List ℕ))
    → before (record { position = position; is_kept = is_kept; is_end = is_end }) byte others ≡ onto_front (kept_of is_kept byte) (ending is_end others)
before-is position true true byte others = refl
before-is position false true byte others = refl
before-is position true false byte others = refl
before-is position false false byte others = refl

-- ---- what a step does, by where it leads

-- a byte of a record, which goes on
abbrev pub GoesOn : Step → Type 0
GoesOn s = (s.is_end ≡ false) × (s.is_kept ≡ true) × (cut_short s.position ≡ [] ∷ [])

-- a byte in a record
abbrev pub Inside : Step → Type 0
Inside s = (s.is_end ≡ true) ⊎ GoesOn s

-- a byte between records
abbrev pub Skips : Step → Type 0
Skips s = (s.is_end ≡ false) × (s.is_kept ≡ false) × (cut_short s.position ≡ [])

abbrev pub Sound : Step → Type 0
Sound s = Skips s ⊎ Inside s

full : (l : List (List ℕ)) → l ≡ [] ∷ [] → l ≡ [] → ⊥
full l e f = cc

ended : (p : Position) (is_kept : Bool) → Inside (record { position = p; is_kept = is_kept; is_end = true })
ended p is_kept = inl refl

value : (is_member : Bool) (depth : ℕ) → Inside (within (Value is_member depth))
value is_member depth = inr (refl, refl, refl)

text : (is_member : Bool) (depth : ℕ) → Inside (within (Text is_member depth))
text is_member depth = inr (refl, refl, refl)

escape : (is_member : Bool) (depth : ℕ) → Inside (within (Escape is_member depth))
escape is_member depth = inr (refl, refl, refl)

in_member-inside : (depth byte : ℕ) → Inside (in_member depth byte)
in_member-inside depth byte = cases (byte == 34) (is_opening byte) (byte == 44 && depth == 0) (byte == 93 && depth == 0) (is_closing byte)
  where
    cases : (a b c d e : Bool) → Inside (if a then within (Text true depth) else (if b then within (Value true (deeper depth)) else (if c then behind Member else (if d then behind Outside else (if e then within (Value true (depth - 1)) else within (Value true depth))))))
    cases true b c d e = text true depth
    cases false true c d e = value true (deeper depth)
    cases false false true d e = ended Member false
    cases false false false true e = ended Outside false
    cases false false false false true = value true (depth - 1)
    cases false false false false false = value true depth

in_record-inside : (depth byte : ℕ) → Inside (in_record depth byte)
in_record-inside depth byte = cases (byte == 34) (is_opening byte) (is_closing byte) (nat_lt 1 depth) (is_white byte && depth == 0)
  where
    cases : (a b c d e : Bool) → Inside (if a then within (Text false depth) else (if b then within (Value false (deeper depth)) else (if c then (if d then within (Value false (depth - 1)) else last Outside) else (if e then behind Outside else within (Value false depth)))))
    cases true b c d e = text false depth
    cases false true c d e = value false (deeper depth)
    cases false false true true e = value false (depth - 1)
    cases false false true false e = ended Outside true
    cases false false false d true = ended Outside false
    cases false false false d false = value false depth

in_value-inside : (is_member : Bool) (depth byte : ℕ) → Inside (in_value is_member depth byte)
in_value-inside true depth byte = in_member-inside depth byte
in_value-inside false depth byte = in_record-inside depth byte

in_text-inside : (is_member : Bool) (depth byte : ℕ) → Inside (in_text is_member depth byte)
in_text-inside is_member depth byte = cases (byte == 92) (byte == 34) (not is_member && depth == 0)
  where
    cases : (a b c : Bool) → Inside (if a then within (Escape is_member depth) else (if b then (if c then last Outside else within (Value is_member depth)) else within (Text is_member depth)))
    cases true b c = escape is_member depth
    cases false true true = ended Outside true
    cases false true false = value is_member depth
    cases false false c = text is_member depth

to_sound : (s : Step) → Inside s → Sound s
to_sound s inside = inr inside

skipped : (p : Position) → cut_short p ≡ [] → Sound (between p)
skipped p none = inl (refl, refl, none)

at_first-sound : (byte : ℕ) → Sound (at_first byte)
at_first-sound byte = cases (is_white byte) (byte == 93) (byte == 44)
  where
    cases : (a b c : Bool) → Sound (if a then between First else (if b then between Outside else (if c then last Member else in_member 0 byte)))
    cases true b c = skipped First refl
    cases false true c = skipped Outside refl
    cases false false true = to_sound (last Member) (ended Member true)
    cases false false false = to_sound (in_member 0 byte) (in_member-inside 0 byte)

at_member-sound : (byte : ℕ) → Sound (at_member byte)
at_member-sound byte = cases (is_white byte) (byte == 93) (byte == 44)
  where
    cases : (a b c : Bool) → Sound (if a then between Member else (if b then last Outside else (if c then last Member else in_member 0 byte)))
    cases true b c = skipped Member refl
    cases false true c = to_sound (last Outside) (ended Outside true)
    cases false false true = to_sound (last Member) (ended Member true)
    cases false false false = to_sound (in_member 0 byte) (in_member-inside 0 byte)

at_outside-sound : (byte : ℕ) → Sound (at_outside byte)
at_outside-sound byte = cases (is_white byte) (byte == 91)
  where
    cases : (a b : Bool) → Sound (if a then between Outside else (if b then between First else in_record 0 byte))
    cases true b = skipped Outside refl
    cases false true = skipped First refl
    cases false false = to_sound (in_record 0 byte) (in_record-inside 0 byte)

pub step-sound : (p : Position) (byte : ℕ) → Sound (step_of p byte)
step-sound Outside byte = at_outside-sound byte
step-sound First byte = at_first-sound byte
step-sound Member byte = at_member-sound byte
step-sound (Value is_member depth) byte = inr (in_value-inside is_member depth byte)
step-sound (Text is_member depth) byte = inr (in_text-inside is_member depth byte)
step-sound (Escape is_member depth) byte = inr (text is_member depth)

pub step-inside : (p : Position) (byte : ℕ) → cut_short p ≡ [] ∷ [] → Inside (step_of p byte)
step-inside Outside byte cut = absurd (full _ cut refl)
step-inside First byte cut = absurd (full _ cut refl)
step-inside Member byte cut = absurd (full _ cut refl)
step-inside (Value is_member depth) byte cut = in_value-inside is_member depth byte
step-inside (Text is_member depth) byte cut = in_text-inside is_member depth byte
step-inside (Escape is_member depth) byte cut = text is_member depth

never : (s : Step) → Inside s → s.is_end ≡ false → cut_short s.position ≡ [] → ⊥
never s (inl is_end) goes_on none = true≢false (sym is_end ∙ goes_on)
never s (inr within) goes_on none = full _ within.2 none

unkept : (s : Step) → Sound s → s.is_end ≡ false → cut_short s.position ≡ [] → s.is_kept ≡ false
unkept s (inl skips) goes_on none = skips.1
unkept s (inr inside) goes_on none = absurd (never s inside goes_on none)

outer : (p : Position) → (cut_short p ≡ []) ⊎ (cut_short p ≡ [] ∷ [])
outer Outside = inl refl
outer First = inl refl
outer Member = inl refl
outer (Value is_member depth) = inr refl
outer (Text is_member depth) = inr refl
outer (Escape is_member depth) = inr refl

step-gap : (p : Position) (byte : ℕ) → (step_of p byte).is_end ≡ false → cut_short (step_of p byte).position ≡ []
    → (cut_short p ≡ []) × (kept_of (step_of p byte).is_kept byte ≡ [])
step-gap p byte goes_on none = by_place (outer p)
  where
    by_place : (cut_short p ≡ []) ⊎ (cut_short p ≡ [] ∷ []) → (cut_short p ≡ []) × (kept_of (step_of p byte).is_kept byte ≡ [])
    by_place (inl out) = (out, kept_of-no byte _ (unkept (step_of p byte) (step-sound p byte) goes_on none))
    by_place (inr cut) = absurd (never (step_of p byte) (step-inside p byte cut) goes_on none)

-- one byte moves the reading
pub Moves-byte : (p : Position) (byte : ℕ) → Moves p (byte ∷ []) (step_of p byte).is_end (step_of p byte).position (kept_of (step_of p byte).is_kept byte)
Moves-byte p byte =
    let s = step_of p byte in
    record {
      split = λ rest. before-is s.position s.is_kept s.is_end byte (records s.position rest);
      closed = λ rest. refl;
      gap = step-gap p byte;
    }

-- ---- what is put behind a record

pub Grows-trans : (most : ℕ) (old middle new ks ls : List ℕ) → Grows most old middle ks → Grows most middle new ls → Grows most old new (ks ++ ls)
Grows-trans most old middle new ks ls first second front is =
    second (front ++ ks) (first front is) ∙ ap (take most) (append_assoc front ks ls)

pub Grows-none : (most : ℕ) (old : List ℕ) → Grows most old old []
Grows-none most old front is = is ∙ ap (take most) (sym (append-nil front))

pub Takes-none : (p : Position) (old : List ℕ) (most : ℕ) → Takes p [] false p old old most
Takes-none p old most = record { kept = []; moves = Moves-none p; grows = Grows-none most old }

pub Takes-trans : (p q r : Position) (xs ys : List ℕ) (is_end : Bool) (old middle new : List ℕ) (most : ℕ)
    → Takes p xs false q old middle most → Takes q ys is_end r middle new most → Takes p (xs ++ ys) is_end r old new most
Takes-trans p q r xs ys is_end old middle new most first second =
    record {
      kept = first.kept ++ second.kept;
      moves = Moves-trans p q r xs ys is_end first.kept second.kept first.moves second.moves;
      grows = Grows-trans most old middle new first.kept second.kept first.grows second.grows;
    }

pub Takes-rest : (p q r : Position) (xs : List ℕ) (is_end : Bool) (old middle new : List ℕ) (most : ℕ)
    → Takes p xs false q old middle most → Takes q [] is_end r middle new most → Takes p xs is_end r old new most
Takes-rest p q r xs is_end old middle new most first second = rw append-nil at (Takes-trans p q r xs [] is_end old middle new most first second)

-- one byte more of those that are shown
pub Takes-more : (p q r : Position) (shown : List ℕ) (i : ℕ) (is_end : Bool) (old middle new : List ℕ) (most : ℕ) → i < length shown
    → Takes p (take i shown) false q old middle most → Takes q (get_or shown i 0 ∷ []) is_end r middle new most → Takes p (take (i + 1) shown) is_end r old new most
Takes-more p q r shown i is_end old middle new most within first second =
    rw (take_more shown i 0 within) (Takes-trans p q r (take i shown) (get_or shown i 0 ∷ []) is_end old middle new most first second)

pub Takes-byte : (p : Position) (byte : ℕ) (s : Step) (old new : List ℕ) (most : ℕ) → s ≡ step_of p byte
    → Grows most old new (kept_of s.is_kept byte)
    → Takes p (byte ∷ []) s.is_end s.position old new most
Takes-byte p byte s old new most is grows =
    rw is (record { kept = kept_of (step_of p byte).is_kept byte; moves = Moves-byte p byte; grows = rw is at grows })
