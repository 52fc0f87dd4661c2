-- The records of an input, joined with what lies between them, are the input.
use Rattle.std.proofs.Common.{◌≡◌, ℕ, Bool, true, false, List, [], ◌∷◌, inl, inr, true≢false, refl, sym, ap, ◌∙◌, ◌-◌, ◌==◌, ◌&&◌, ◌||◌, not, nat_lt, eqb-true, All, if◌then◌else◌}
use Rattle.streams.specs.Lines.{onto_first}
use Rattle.streams.specs.declared.records.position.Position.{Position}
use Rattle.streams.specs.declared.records.position.Position.TheVariants.{Outside, First, Member, Value, Text, Escape}
use Rattle.std.proofs.lemmas.List.Elements.{All-nil, All-cons, All-head, All-tail}
use Rattle.streams.specs.declared.records.step.Step.{Step}
use Rattle.streams.specs.RecordSteps.{is_white, is_opening, is_closing, deeper, between, within, last, behind, in_member, in_record, in_text, at_first, at_member, at_outside, step_of}
use Rattle.streams.specs.Records.{records, before, cut_short}
use Rattle.streams.specs.Gaps.{is_shell, gap_before, gaps, woven}
use Rattle.streams.proofs.Moving.{Inside, Sound, step-sound, step-inside}

-- a list with a first element
record Some (l : List (List ℕ)) : Type 0 where
  first : List ℕ
  others : List (List ℕ)
  is : l ≡ first ∷ others

-- a list with an empty first element
record Bare (l : List (List ℕ)) : Type 0 where
  others : List (List ℕ)
  is : l ≡ [] ∷ others

some_onto : (byte : ℕ) (l : List (List ℕ)) → Some (onto_first byte l)
some_onto byte [] = record { first = byte ∷ []; others = []; is = refl }
some_onto byte (x ∷ xs) = record { first = byte ∷ x; others = xs; is = refl }

some_gap : (is_kept is_end : Bool) (byte : ℕ) (l : List (List ℕ)) → Some l → Some (gap_before is_kept is_end byte l)
some_gap true true byte l some = record { first = []; others = l; is = refl }
some_gap false true byte l some = record { first = []; others = onto_first byte l; is = refl }
some_gap true false byte l some = some
some_gap false false byte l some = some_onto byte l

some_gaps : (p : Position) (bytes : List ℕ) → Some (gaps p bytes)
some_gaps p [] = record { first = []; others = cut_short p; is = refl }
some_gaps p (byte ∷ bytes) = some_gap (step_of p byte).is_kept (step_of p byte).is_end byte _ (some_gaps (step_of p byte).position bytes)

-- ---- inside a record the first gap is empty, and there is a record

bare_ended : (is_kept is_end : Bool) (byte : ℕ) (l : List (List ℕ)) → is_end ≡ true → Bare (gap_before is_kept is_end byte l)
bare_ended is_kept true byte l e = record { others = _; is = refl }
bare_ended is_kept false byte l e = absurd (true≢false (sym e))

some_ended : (q : Position) (is_kept is_end : Bool) (byte : ℕ) (l : List (List ℕ)) → is_end ≡ true → Some (before (record { position = q; is_kept = is_kept; is_end = is_end }) byte l)
some_ended q is_kept true byte l e = record { first = _; others = l; is = refl }
some_ended q is_kept false byte l e = absurd (true≢false (sym e))

gap_kept : (is_kept is_end : Bool) (byte : ℕ) (l : List (List ℕ)) → is_end ≡ false → is_kept ≡ true → gap_before is_kept is_end byte l ≡ l
gap_kept true false byte l e k = refl
gap_kept true true byte l e k = absurd (true≢false e)
gap_kept false is_end byte l e k = absurd (true≢false (sym k))

some_kept : (q : Position) (is_kept is_end : Bool) (byte : ℕ) (l : List (List ℕ)) → is_end ≡ false → is_kept ≡ true
    → Some (before (record { position = q; is_kept = is_kept; is_end = is_end }) byte l)
some_kept q true false byte l e k = some_onto byte l
some_kept q true true byte l e k = absurd (true≢false e)
some_kept q false is_end byte l e k = absurd (true≢false (sym k))

bare_gaps : (p : Position) (bytes : List ℕ) → cut_short p ≡ [] ∷ [] → Bare (gaps p bytes)
bare_gaps p [] cut = record { others = cut_short p; is = refl }
bare_gaps p (byte ∷ bytes) cut = by_kind (step-inside p byte cut) (λ inside. bare_gaps (step_of p byte).position bytes inside)
  where
    by_kind : Inside (step_of p byte) → (cut_short (step_of p byte).position ≡ [] ∷ [] → Bare (gaps (step_of p byte).position bytes)) → Bare (gaps p (byte ∷ bytes))
    by_kind (inl is_end) rest = bare_ended (step_of p byte).is_kept (step_of p byte).is_end byte _ is_end
    by_kind (inr goes_on) rest =
        let next = rest goes_on.2 in
        record { others = next.others; is = gap_kept _ _ byte (gaps (step_of p byte).position bytes) goes_on.0 goes_on.1 ∙ next.is }

some_records : (p : Position) (bytes : List ℕ) → cut_short p ≡ [] ∷ [] → Some (records p bytes)
some_records p [] cut = record { first = []; others = []; is = cut }
some_records p (byte ∷ bytes) cut = by_kind (step-inside p byte cut)
  where
    by_kind : Inside (step_of p byte) → Some (records p (byte ∷ bytes))
    by_kind (inl is_end) = some_ended (step_of p byte).position (step_of p byte).is_kept (step_of p byte).is_end byte _ is_end
    by_kind (inr goes_on) = some_kept (step_of p byte).position (step_of p byte).is_kept (step_of p byte).is_end byte _ goes_on.0 goes_on.1

-- ---- one byte more

woven-onto : (byte : ℕ) (gs vs : List (List ℕ)) → Some gs → woven (onto_first byte gs) vs ≡ byte ∷ woven gs vs
woven-onto byte [] vs some = absurd (none some.is)
  where
    none : [] ≡ some.first ∷ some.others → ⊥
    none e = cc
woven-onto byte (g ∷ gs) [] some = refl
woven-onto byte (g ∷ gs) (v ∷ vs) some = refl

woven-before : (byte : ℕ) (gs vs : List (List ℕ)) → Bare gs → Some vs → woven gs (onto_first byte vs) ≡ byte ∷ woven gs vs
woven-before byte gs vs bare some = rw (bare.is, some.is) refl

weave-ended : (q : Position) (is_kept is_end : Bool) (byte : ℕ) (gs vs : List (List ℕ)) → Some gs → is_end ≡ true
    → woven (gap_before is_kept is_end byte gs) (before (record { position = q; is_kept = is_kept; is_end = is_end }) byte vs) ≡ byte ∷ woven gs vs
weave-ended q true true byte gs vs some e = refl
weave-ended q false true byte gs vs some e = woven-onto byte gs vs some
weave-ended q is_kept false byte gs vs some e = absurd (true≢false (sym e))

weave-skips : (q : Position) (is_kept is_end : Bool) (byte : ℕ) (gs vs : List (List ℕ)) → Some gs → is_end ≡ false → is_kept ≡ false
    → woven (gap_before is_kept is_end byte gs) (before (record { position = q; is_kept = is_kept; is_end = is_end }) byte vs) ≡ byte ∷ woven gs vs
weave-skips q false false byte gs vs some e k = woven-onto byte gs vs some
weave-skips q true is_end byte gs vs some e k = absurd (true≢false k)
weave-skips q false true byte gs vs some e k = absurd (true≢false e)

weave-within : (q : Position) (is_kept is_end : Bool) (byte : ℕ) (gs vs : List (List ℕ)) → Bare gs → Some vs → is_end ≡ false → is_kept ≡ true
    → woven (gap_before is_kept is_end byte gs) (before (record { position = q; is_kept = is_kept; is_end = is_end }) byte vs) ≡ byte ∷ woven gs vs
weave-within q true false byte gs vs bare some e k = woven-before byte gs vs bare some
weave-within q false is_end byte gs vs bare some e k = absurd (true≢false (sym k))
weave-within q true true byte gs vs bare some e k = absurd (true≢false e)

-- what lies between the records, and the records, in turn, are the input
pub joined : (p : Position) (bytes : List ℕ) → woven (gaps p bytes) (records p bytes) ≡ bytes
joined p [] = at_end p
  where
    at_end : (p : Position) → woven ([] ∷ cut_short p) (cut_short p) ≡ []
    at_end Outside = refl
    at_end First = refl
    at_end Member = refl
    at_end (Value is_member depth) = refl
    at_end (Text is_member depth) = refl
    at_end (Escape is_member depth) = refl
joined p (byte ∷ bytes) = by_kind (step-sound p byte) ∙ ap (λ l. byte ∷ l) (joined (step_of p byte).position bytes)
  where
    by_kind : Sound (step_of p byte)
        → woven (gaps p (byte ∷ bytes)) (records p (byte ∷ bytes)) ≡ byte ∷ woven (gaps (step_of p byte).position bytes) (records (step_of p byte).position bytes)
    by_kind (inl skips) =
        weave-skips (step_of p byte).position (step_of p byte).is_kept (step_of p byte).is_end byte _ _ (some_gaps (step_of p byte).position bytes) skips.0 skips.1
    by_kind (inr (inl is_end)) =
        weave-ended (step_of p byte).position (step_of p byte).is_kept (step_of p byte).is_end byte _ _ (some_gaps (step_of p byte).position bytes) is_end
    by_kind (inr (inr goes_on)) =
        weave-within (step_of p byte).position (step_of p byte).is_kept (step_of p byte).is_end byte _ _
        (bare_gaps (step_of p byte).position bytes goes_on.2) (some_records (step_of p byte).position bytes goes_on.2) goes_on.0 goes_on.1

-- ---- what lies between the records

-- a byte that is not of a record may lie between records
abbrev Shell : ℕ → Step → Type 0
Shell byte s = s.is_kept ≡ false → is_shell byte ≡ true

kept : (byte : ℕ) (s : Step) → s.is_kept ≡ true → Shell byte s
kept byte s is_kept unkept = absurd (true≢false (sym is_kept ∙ unkept))

left_true : (a b : Bool) → (a && b) ≡ true → a ≡ true
left_true true b e = refl
left_true false b e = e

or_left : (a b : Bool) → a ≡ true → (a || b) ≡ true
or_left true b e = refl
or_left false b e = absurd (true≢false (sym e))

white_shell : (byte : ℕ) → is_white byte ≡ true → is_shell byte ≡ true
white_shell byte e = or_left (is_white byte) _ e

shell_at : (byte n : ℕ) → is_shell n ≡ true → (byte == n) ≡ true → is_shell byte ≡ true
shell_at byte n is e = ap is_shell (eqb-true byte n e) ∙ is

in_member-shell : (depth byte : ℕ) → Shell byte (in_member depth byte)
in_member-shell depth byte =
    cases (byte == 34) (is_opening byte) (byte == 44 && depth == 0) (byte == 93 && depth == 0) (is_closing byte)
    (λ e. shell_at byte 44 refl (left_true (byte == 44) (depth == 0) e)) (λ e. shell_at byte 93 refl (left_true (byte == 93) (depth == 0) e))
  where
    cases : (a b c d e : Bool) → (c ≡ true → is_shell byte ≡ true) → (d ≡ true → is_shell byte ≡ true)
        → Shell byte (if a then within (Text true depth) else (if b then within (Value true (deeper depth)) else (if c then behind Member else (if d then behind Outside else (if e then within (Value true (depth - 1)) else within (Value true depth))))))
    cases true b c d e comma bracket = kept byte (within (Text true depth)) refl
    cases false true c d e comma bracket = kept byte (within (Value true (deeper depth))) refl
    cases false false true d e comma bracket = λ _. comma refl
    cases false false false true e comma bracket = λ _. bracket refl
    cases false false false false true comma bracket = kept byte (within (Value true (depth - 1))) refl
    cases false false false false false comma bracket = kept byte (within (Value true depth)) refl

in_record-shell : (depth byte : ℕ) → Shell byte (in_record depth byte)
in_record-shell depth byte =
    cases (byte == 34) (is_opening byte) (is_closing byte) (nat_lt 1 depth) (is_white byte && depth == 0)
    (λ e. white_shell byte (left_true (is_white byte) (depth == 0) e))
  where
    cases : (a b c d e : Bool) → (e ≡ true → is_shell byte ≡ true)
        → Shell byte (if a then within (Text false depth) else (if b then within (Value false (deeper depth)) else (if c then (if d then within (Value false (depth - 1)) else last Outside) else (if e then behind Outside else within (Value false depth)))))
    cases true b c d e white = kept byte (within (Text false depth)) refl
    cases false true c d e white = kept byte (within (Value false (deeper depth))) refl
    cases false false true true e white = kept byte (within (Value false (depth - 1))) refl
    cases false false true false e white = kept byte (last Outside) refl
    cases false false false d true white = λ _. white refl
    cases false false false d false white = kept byte (within (Value false depth)) refl

in_text-shell : (is_member : Bool) (depth byte : ℕ) → Shell byte (in_text is_member depth byte)
in_text-shell is_member depth byte = cases (byte == 92) (byte == 34) (not is_member && depth == 0)
  where
    cases : (a b c : Bool) → Shell byte (if a then within (Escape is_member depth) else (if b then (if c then last Outside else within (Value is_member depth)) else within (Text is_member depth)))
    cases true b c = kept byte (within (Escape is_member depth)) refl
    cases false true true = kept byte (last Outside) refl
    cases false true false = kept byte (within (Value is_member depth)) refl
    cases false false c = kept byte (within (Text is_member depth)) refl

at_first-shell : (byte : ℕ) → Shell byte (at_first byte)
at_first-shell byte = cases (is_white byte) (byte == 93) (byte == 44) (white_shell byte) (shell_at byte 93 refl)
  where
    cases : (a b c : Bool) → (a ≡ true → is_shell byte ≡ true) → (b ≡ true → is_shell byte ≡ true)
        → Shell byte (if a then between First else (if b then between Outside else (if c then last Member else in_member 0 byte)))
    cases true b c white bracket = λ _. white refl
    cases false true c white bracket = λ _. bracket refl
    cases false false true white bracket = kept byte (last Member) refl
    cases false false false white bracket = in_member-shell 0 byte

at_member-shell : (byte : ℕ) → Shell byte (at_member byte)
at_member-shell byte = cases (is_white byte) (byte == 93) (byte == 44) (white_shell byte)
  where
    cases : (a b c : Bool) → (a ≡ true → is_shell byte ≡ true) → Shell byte (if a then between Member else (if b then last Outside else (if c then last Member else in_member 0 byte)))
    cases true b c white = λ _. white refl
    cases false true c white = kept byte (last Outside) refl
    cases false false true white = kept byte (last Member) refl
    cases false false false white = in_member-shell 0 byte

at_outside-shell : (byte : ℕ) → Shell byte (at_outside byte)
at_outside-shell byte = cases (is_white byte) (byte == 91) (white_shell byte) (shell_at byte 91 refl)
  where
    cases : (a b : Bool) → (a ≡ true → is_shell byte ≡ true) → (b ≡ true → is_shell byte ≡ true) → Shell byte (if a then between Outside else (if b then between First else in_record 0 byte))
    cases true b white bracket = λ _. white refl
    cases false true white bracket = λ _. bracket refl
    cases false false white bracket = in_record-shell 0 byte

step-shell : (p : Position) (byte : ℕ) → Shell byte (step_of p byte)
step-shell Outside byte = at_outside-shell byte
step-shell First byte = at_first-shell byte
step-shell Member byte = at_member-shell byte
step-shell (Value true depth) byte = in_member-shell depth byte
step-shell (Value false depth) byte = in_record-shell depth byte
step-shell (Text is_member depth) byte = in_text-shell is_member depth byte
step-shell (Escape is_member depth) byte = kept byte (within (Text is_member depth)) refl

abbrev of_shell : List ℕ → Type 0
of_shell gap = All (λ x. is_shell x ≡ true) gap

shell_onto : (byte : ℕ) (gs : List (List ℕ)) → is_shell byte ≡ true → All of_shell gs → All of_shell (onto_first byte gs)
shell_onto byte [] is all = All-cons of_shell (byte ∷ []) [] (All-cons (λ x. is_shell x ≡ true) byte [] is (All-nil (λ x. is_shell x ≡ true))) (All-nil of_shell)
shell_onto byte (g ∷ gs) is all =
    All-cons of_shell (byte ∷ g) gs (All-cons (λ x. is_shell x ≡ true) byte g is (All-head of_shell g gs all)) (All-tail of_shell g gs all)

shell_before : (is_kept is_end : Bool) (byte : ℕ) (gs : List (List ℕ)) → (is_kept ≡ false → is_shell byte ≡ true) → All of_shell gs → All of_shell (gap_before is_kept is_end byte gs)
shell_before true true byte gs is all = All-cons of_shell [] gs (All-nil (λ x. is_shell x ≡ true)) all
shell_before false true byte gs is all = All-cons of_shell [] _ (All-nil (λ x. is_shell x ≡ true)) (shell_onto byte gs (is refl) all)
shell_before true false byte gs is all = all
shell_before false false byte gs is all = shell_onto byte gs (is refl) all

-- what lies between the records is white space, brackets and commas
pub between_records : (p : Position) (bytes : List ℕ) → All (λ gap. All (λ x. is_shell x ≡ true) gap) (gaps p bytes)
between_records p [] = at_end p
  where
    at_end : (p : Position) → All of_shell ([] ∷ cut_short p)
    at_end p = All-cons of_shell [] (cut_short p) (All-nil (λ x. is_shell x ≡ true)) (all_short p)
      where
        all_short : (p : Position) → All of_shell (cut_short p)
        all_short Outside = All-nil of_shell
        all_short First = All-nil of_shell
        all_short Member = All-nil of_shell
        all_short (Value is_member depth) = All-cons of_shell [] [] (All-nil (λ x. is_shell x ≡ true)) (All-nil of_shell)
        all_short (Text is_member depth) = All-cons of_shell [] [] (All-nil (λ x. is_shell x ≡ true)) (All-nil of_shell)
        all_short (Escape is_member depth) = All-cons of_shell [] [] (All-nil (λ x. is_shell x ≡ true)) (All-nil of_shell)
between_records p (byte ∷ bytes) =
    shell_before (step_of p byte).is_kept (step_of p byte).is_end byte (gaps (step_of p byte).position bytes) (step-shell p byte) (between_records (step_of p byte).position bytes)
