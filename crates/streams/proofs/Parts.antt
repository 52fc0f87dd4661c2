-- The parts of a line, one after another.
use Rattle.std.proofs.Common.{◌≡◌, ◌≢◌, ℕ, zero, suc, ◌==◌, ◌+◌, ◌<◌, ◌≤◌, zero-le, Bool, true, false, List, [], ◌∷◌, ◌++◌, All, length, Option, None, Some, Result, Ok, Err, IfSome, OnErr, refl, sym, ap, ◌∙◌, arith, true≢false, eq-eqb, eqb-true, append-nil, length-append}
use Rattle.std.proofs.lemmas.List.Elements.{All-nil, All-append}
use Rattle.std.specs.Option.{ForSome}
use Rattle.std.specs.Io.KnownBytes.{Keeps, Consumes}
use Rattle.std.specs.Io.BufRead.{take_through, drop_through, DropsThrough}
use Rattle.std.proofs.KnownBytes.{Consumes-nil, Consumes-kept, Consumes-trans}
use Rattle.std.proofs.BufReadLemmas.{Consumes_through, take_through-append, drop_through-append, take_through-nil}
use Rattle.streams.specs.Lines.{ended_lines}
use Rattle.streams.specs.Steps.{IsInside, TakesPart}
use Rattle.streams.proofs.Splitting.{ended_from_taken}

pub on_err : {X E : Type 0} (r : Result X E) (P : Type 0) → P → OnErr r P
on_err (Ok x) P p = tt
on_err (Err e) P p = p

-- what `is_empty` says
pub none_if_empty : (n : ℕ) (b : Bool) → b ≡ (n == 0) → b ≡ true → n ≡ 0
none_if_empty n b is empty = eqb-true n 0 (sym is ∙ empty)

pub some_if_not_empty : (n : ℕ) (b : Bool) → b ≡ (n == 0) → b ≡ false → 0 < n
some_if_not_empty zero b is full = absurd (true≢false (sym (eq-eqb 0 0 refl) ∙ sym is ∙ full))
some_if_not_empty (suc n) b is full = omega arith

pub inside_none : (a : Option (List ℕ)) → IsInside a a []
inside_none a = (Consumes-nil a, All-nil (λ x. x ≢ 10))

pub inside_both : (a b c : Option (List ℕ)) (xs ys : List ℕ) → IsInside a b xs → IsInside b c ys → IsInside a c (xs ++ ys)
inside_both a b c xs ys i j = (Consumes-trans a b c xs ys i.0 j.0, All-append (λ x. x ≢ 10) xs ys i.1 j.1)

-- nothing was taken
pub took_none : {E : Type 0} (before after : Option (List ℕ)) (old new : List ℕ) (most : ℕ) (result : Result Bool E)
    → new ≡ old → Keeps before after → result ≢ Ok true → TakesPart before after old new most result
took_none before after old new most result same kept more = record {
  part = [];
  joined = same ∙ sym (append-nil old);
  short = zero-le;
  taken = Consumes-kept before before after [] (Consumes-nil before) kept;
  inside = λ _. All-nil (λ x. x ≢ 10);
  stops = All-nil (λ x. x ≢ 10);
  ends = λ is. absurd (more is);
  none = λ is. absurd (more is);
}

module _ {E : Type 0} (before middle after : Option (List ℕ)) (front old new : List ℕ) (most : ℕ) (result : Result Bool E) (i : IsInside before middle front) (p : TakesPart middle after old new most result) where
  -- a part that does not end the line
  pub inside_next : result ≢ Ok true → IsInside before after (front ++ p.part)
  inside_next more = inside_both before middle after front p.part i (p.taken, p.inside more)

  -- a part that ends it
  pub whole_next : result ≡ Ok true → IfSome before (λ bytes. front ++ p.part ≡ take_through 10 bytes) × DropsThrough before after 10
  whole_next is = Consumes_through 10 before middle after front p.part i.0 i.1 p.taken p.stops (p.ends is) (p.none is)

-- the same where the part was put behind the front
module _ {E : Type 0} (before middle after : Option (List ℕ)) (front new : List ℕ) (most : ℕ) (result : Result Bool E) (i : IsInside before middle front) (p : TakesPart middle after front new most result) where
  pub inside_more : result ≢ Ok true → IsInside before after new
  inside_more more = rw p.joined (inside_next before middle after front front new most result i p more)

  pub whole_more : result ≡ Ok true → IfSome before (λ bytes. new ≡ take_through 10 bytes) × DropsThrough before after 10
  whole_more is = rw p.joined (whole_next before middle after front front new most result i p is)

-- a line that was taken whole
module _ (before after : Option (List ℕ)) (line : List ℕ) (w : IfSome before (λ bytes. line ≡ take_through 10 bytes) × DropsThrough before after 10) where
  pub whole_line : 0 < length line → ForSome before (λ bytes. (left : List ℕ) × (after ≡ Some left) × (ended_lines bytes ≡ line ∷ ended_lines left))
  whole_line some bytes known =
      let at = rw known at w in
      (drop_through 10 bytes, at.1, ended_from_taken bytes line at.0 some)

  pub whole_long : (limit : ℕ) → limit < length line
      → ForSome before (λ bytes. (long : List ℕ) × (left : List ℕ) × (after ≡ Some left) × (ended_lines bytes ≡ long ∷ ended_lines left) × (limit < length long))
  whole_long limit more bytes known =
      let is = whole_line (omega arith) bytes known in
      (line, is.0, is.1, is.2, more)

  pub whole_none : length line ≡ 0 → ForSome before (λ bytes. (after ≡ Some []) × (ended_lines bytes ≡ []))
  whole_none none bytes known =
      let at = rw known at w in
      let empty = take_through-nil 10 bytes (sym (ap length at.0) ∙ none) in
      (at.1 ∙ ap (λ b. Some (drop_through 10 b)) empty, ap ended_lines empty)

-- a front that is longer than the limit, and the rest of its line
passed_at : (bytes : List ℕ) (middle after : Option (List ℕ)) (front : List ℕ) (limit : ℕ) → IsInside (Some bytes) middle front → limit < length front → DropsThrough middle after 10
    → (long : List ℕ) × (left : List ℕ) × (after ≡ Some left) × (ended_lines bytes ≡ long ∷ ended_lines left) × (limit < length long)
passed_at bytes None after front limit i more rest = absurd i.0
passed_at bytes (Some ys) after front limit i more rest =
    let long = front ++ take_through 10 ys in
    let sum = length-append front (take_through 10 ys) in
    let taken : long ≡ take_through 10 bytes = sym (ap (take_through 10) i.0 ∙ take_through-append 10 front ys i.1) in
    let left : drop_through 10 ys ≡ drop_through 10 bytes = sym (ap (drop_through 10) i.0 ∙ drop_through-append 10 front ys i.1) in
    (long, drop_through 10 bytes, rest ∙ ap Some left, ended_from_taken bytes long taken (omega (arith, sum)), omega (arith, sum))

pub passed_long : (before middle after : Option (List ℕ)) (front : List ℕ) (limit : ℕ) → IsInside before middle front → limit < length front → DropsThrough middle after 10
    → ForSome before (λ bytes. (long : List ℕ) × (left : List ℕ) × (after ≡ Some left) × (ended_lines bytes ≡ long ∷ ended_lines left) × (limit < length long))
passed_long before middle after front limit i more rest bytes known =
    passed_at bytes middle after front limit (rw known at i) more rest
