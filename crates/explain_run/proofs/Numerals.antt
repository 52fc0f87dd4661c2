-- What `parse` reads is what the grammar reads.
use Rattle.std.proofs.Common.{◌≡◌, ℕ, zero, suc, ◌^◌, ◌<◌, ◌≤◌, List, [], ◌∷◌, length, get_or, drop, ℤ, pos, neg_ℤ, All, Result, Ok, Err, OkIff, Some, ◌↔◌, ◌≢◌, inl, inr, refl, ap, subst, arith, rules, SFits, w64, IsUtf8}
use Rattle.std.specs.Char.{IsAsciiDigit}
use Rattle.std.specs.Result.{result_ok}
use Rattle.std.specs.Str.{IsAscii}
use Rattle.std.specs.Str.Parse.{ParsesSigned}
use Rattle.std.proofs.lemmas.Str.Parse.{IsNumeralModel, numerals_by_weight, parse_signed_plain, parse_signed_plus, parse_signed_minus}
use Rattle.std.proofs.lemmas.Str.Ascii.{IsAscii-cons, IsAscii-from_all}
use Rattle.std.proofs.lemmas.Str.{IsUtf8-from_ascii}
use Rattle.std.proofs.lemmas.Bool.{cases_eq}
use Rattle.explain_run.specs.Number.{IsNumeral, worth, Writes, plain, plus, minus, Reads}

-- a digit before digits
All-digit : (c : ℕ) (cs : List ℕ) → IsAsciiDigit c → All IsAsciiDigit cs → All IsAsciiDigit (c ∷ cs)
All-digit c cs first others zero d lt = first
All-digit c cs first others (suc k) d lt = others k d (omega arith)

own : IsNumeralModel (All IsAsciiDigit) worth
own = numerals_by_weight (All IsAsciiDigit) (record {
  empty = λ k d lt. absurd (omega arith);
  parts = λ c cs all. (all 0 0 (omega arith), λ k d lt. all (suc k) d (omega arith));
  more = All-digit;
}) worth (search rules)

-- the text begins with this byte
first_and_rest : (bs : List ℕ) → 0 < length (drop 1 bs) → bs ≡ get_or bs 0 0 ∷ drop 1 bs
first_and_rest [] some = absurd (omega arith)
first_and_rest (b ∷ bs) some = refl

-- the most that a sign allows
fits_pos : (m : ℕ) → SFits w64 (pos m) → m < 2 ^ 63
fits_pos m h = h.sfits

pos_fits : (m : ℕ) → m < 2 ^ 63 → SFits w64 (pos m)
pos_fits m h = record { sfits = h }

fits_neg : (m : ℕ) → SFits w64 (neg_ℤ (pos m)) → m ≤ 2 ^ 63
fits_neg zero h = omega arith
fits_neg (suc m) h = omega (arith, h.sfits)

neg_fits : (m : ℕ) → m ≤ 2 ^ 63 → SFits w64 (neg_ℤ (pos m))
neg_fits zero h = record { sfits = omega arith }
neg_fits (suc m) h = record { sfits = omega arith }

-- a result that is `Ok v` exactly where Q holds is `Ok n` exactly where the grammar reads n
reads_from_ok_iff : {E : Type 0} (bs : List ℕ) (r : Result ℤ E) (Q : Type 0) (v : ℤ) → OkIff r Q v → (Q → Reads bs v)
    → ((n : ℤ) → Reads bs n → Q × (n ≡ v)) → (n : ℤ) → (r ≡ Ok n) ↔ Reads bs n
reads_from_ok_iff bs (Ok x) Q v h to from n = (λ e. let same : v ≡ n = cc in subst (Reads bs) same (to h.0), λ reads. let p = from n reads in let same : x ≡ n = cc in ap Ok same)
reads_from_ok_iff bs (Err d) Q v h to from n = (λ e. absurd (cc), λ reads. absurd (h (from n reads).0))

-- what a line writes, by its first byte
plain_parts : (bs : List ℕ) (n : ℤ) → get_or bs 0 0 ≢ 43 → get_or bs 0 0 ≢ 45 → Writes bs n → IsNumeral bs × (n ≡ pos (worth bs))
plain_parts bs n no_plus no_minus (plain ds numeral e f) = rw e (numeral, f)
plain_parts bs n no_plus no_minus (plus ds numeral e f) = absurd (no_plus (ap (λ xs. get_or xs 0 0) e))
plain_parts bs n no_plus no_minus (minus ds numeral e f) = absurd (no_minus (ap (λ xs. get_or xs 0 0) e))

-- a sign is no digit
first_digit : (bs ds : List ℕ) → bs ≡ ds → IsNumeral ds → 48 ≤ get_or bs 0 0
first_digit bs ds e numeral = rw e ((numeral.all 0 0 numeral.some).0)

plus_parts : (bs : List ℕ) (n : ℤ) → get_or bs 0 0 ≡ 43 → Writes bs n → IsNumeral (drop 1 bs) × (n ≡ pos (worth (drop 1 bs)))
plus_parts bs n sign (plain ds numeral e f) = absurd (omega (arith, first_digit bs ds e numeral))
plus_parts bs n sign (plus ds numeral e f) = rw e (numeral, f)
plus_parts bs n sign (minus ds numeral e f) = let first : get_or bs 0 0 ≡ 45 = ap (λ xs. get_or xs 0 0) e in absurd (omega arith)

minus_parts : (bs : List ℕ) (n : ℤ) → get_or bs 0 0 ≡ 45 → Writes bs n → IsNumeral (drop 1 bs) × (n ≡ neg_ℤ (pos (worth (drop 1 bs))))
minus_parts bs n sign (plain ds numeral e f) = absurd (omega (arith, first_digit bs ds e numeral))
minus_parts bs n sign (plus ds numeral e f) = let first : get_or bs 0 0 ≡ 43 = ap (λ xs. get_or xs 0 0) e in absurd (omega arith)
minus_parts bs n sign (minus ds numeral e f) = rw e (numeral, f)

-- `parse` reads what the grammar reads, by the first byte
reads_plain : {E : Type 0} (bs : List ℕ) (r : Result ℤ E) → ParsesSigned w64 10 bs r → get_or bs 0 0 ≢ 43 → get_or bs 0 0 ≢ 45
    → (n : ℤ) → (r ≡ Ok n) ↔ Reads bs n
reads_plain bs r h no_plus no_minus =
    reads_from_ok_iff bs r _ _ (parse_signed_plain own w64 bs r h no_plus no_minus)
    (λ q. record { writes = plain bs (record { some = q.1; all = q.0 }) refl refl; fits = pos_fits _ q.2 })
    (λ n reads. let p = plain_parts bs n no_plus no_minus reads.writes in
    ((p.0.all, p.0.some, fits_pos _ (rw p.1 at reads.fits)), p.1))

reads_plus : {E : Type 0} (bs : List ℕ) (r : Result ℤ E) → ParsesSigned w64 10 bs r → get_or bs 0 0 ≡ 43
    → (n : ℤ) → (r ≡ Ok n) ↔ Reads bs n
reads_plus bs r h sign =
    reads_from_ok_iff bs r _ _ (parse_signed_plus own w64 bs r h sign)
    (λ q. record { writes = plus (drop 1 bs) (record { some = q.1; all = q.0 }) (rw sign at (first_and_rest bs q.1)) refl; fits = pos_fits _ q.2 })
    (λ n reads. let p = plus_parts bs n sign reads.writes in
    ((p.0.all, p.0.some, fits_pos _ (rw p.1 at reads.fits)), p.1))

reads_minus : {E : Type 0} (bs : List ℕ) (r : Result ℤ E) → ParsesSigned w64 10 bs r → get_or bs 0 0 ≡ 45
    → (n : ℤ) → (r ≡ Ok n) ↔ Reads bs n
reads_minus bs r h sign =
    reads_from_ok_iff bs r _ _ (parse_signed_minus own w64 bs r h sign)
    (λ q. record { writes = minus (drop 1 bs) (record { some = q.1; all = q.0 }) (rw sign at (first_and_rest bs q.1)) refl; fits = neg_fits _ q.2 })
    (λ n reads. let p = minus_parts bs n sign reads.writes in
    ((p.0.all, p.0.some, fits_neg _ (rw p.1 at reads.fits)), p.1))

pub reads_from_parse : {E : Type 0} (bs : List ℕ) (r : Result ℤ E) → ParsesSigned w64 10 bs r → (n : ℤ) → (r ≡ Ok n) ↔ Reads bs n
reads_from_parse bs r h =
    elim (cases_eq (get_or bs 0 0) 43) [
      | inl is_plus ↦ reads_plus bs r h is_plus
      | inr not_plus ↦ elim (cases_eq (get_or bs 0 0) 45) [
        | inl is_minus ↦ reads_minus bs r h is_minus
        | inr not_minus ↦ reads_plain bs r h not_plus not_minus
      ]
    ]

-- the same of `r.ok()`
pub some_from_ok : {E P : Type 0} (r : Result ℤ E) (n : ℤ) → (r ≡ Ok n) ↔ P → (result_ok r ≡ Some n) ↔ P
some_from_ok (Ok x) n (to, from) = (λ e. let same : x ≡ n = cc in to (ap Ok same), λ p. let same = from p in cc)
some_from_ok (Err d) n (to, from) = (λ e. absurd (cc), λ p. let same = from p in absurd (cc))

-- a line that the grammar reads is ASCII, so it is text
numeral_ascii : (digits : List ℕ) → IsNumeral digits → IsAscii digits
numeral_ascii digits numeral = IsAscii-from_all digits (λ k d lt. omega (arith, numeral.all k d lt))

line_ascii : (bs : List ℕ) (n : ℤ) → Writes bs n → IsAscii bs
line_ascii bs n (plain ds numeral e f) = rw e (numeral_ascii ds numeral)
line_ascii bs n (plus ds numeral e f) = rw e (IsAscii-cons 43 ds (omega arith) (numeral_ascii ds numeral))
line_ascii bs n (minus ds numeral e f) = rw e (IsAscii-cons 45 ds (omega arith) (numeral_ascii ds numeral))

pub text_from_reads : (bs : List ℕ) (n : ℤ) → Reads bs n → IsUtf8 bs
text_from_reads bs n reads = IsUtf8-from_ascii bs (line_ascii bs n reads.writes)
