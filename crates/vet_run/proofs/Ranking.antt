-- The counts of rules, one after the other.
use Rattle.std.proofs.Common.{◌≡◌, ℕ, ◌+◌, ◌<◌, List, [], ◌∷◌, ◌++◌, length, take, get_or, map, sym, ◌∙◌, ap, arith}
use Rattle.std.specs.Prelude.{slice_index, string_bytes}
use Rattle.std.proofs.lemmas.List.{take_more, map-append, length-map, length-take-le}
use Rattle.vet_checks.specs.RuleChecks.{name_of}
use Rattle.vet_checks.specs.declared.rule_check.RuleCheck.{RuleCheck}
use Rattle.vet_run.specs.Summaries.{rows_of}
use Rattle.vet_run.specs.Sums.{named_of}
use Rattle.vet_run.specs.declared.summary.RuleCount.{RuleCount}

rows_last : (i : ℕ) (names : List (List ℕ)) (name : List ℕ) (counts : List ℕ)
    → rows_of i (names ++ name ∷ []) counts ≡ rows_of i names counts ++ (name, slice_index counts (i + length names)) ∷ []
rows_last i [] name counts =
    let same : i ≡ i + 0 = omega arith in
    ap (λ k. (name, slice_index counts k) ∷ []) same
rows_last i (n ∷ names) name counts =
    let same : i + 1 + length names ≡ i + length (n ∷ names) = omega arith in
    ap (λ z. (n, slice_index counts i) ∷ z) (rows_last (i + 1) names name counts ∙ ap (λ k. rows_of (i + 1) names counts ++ (name, slice_index counts k) ∷ []) same)

pub row_more : (rules : List RuleCheck) (k : ℕ) (r : RuleCheck) (counts : List ℕ) (old new : List RuleCount) (row : RuleCount)
    → k < length rules → r ≡ get_or rules k r
    → map named_of old ≡ rows_of 0 (map name_of (take k rules)) counts
    → new ≡ old ++ row ∷ [] → string_bytes row.rule ≡ name_of r → row.broken ≡ slice_index counts k
    → map named_of new ≡ rows_of 0 (map name_of (take (k + 1) rules)) counts
row_more rules k r counts old new row within is before n named counted =
    let e : named_of row ≡ (name_of r, slice_index counts k) = ap (λ a. (a, row.broken)) named ∙ ap (λ b. (name_of r, b)) counted in
    let names : List (List ℕ) = map name_of (take k rules) in
    let place : k ≡ 0 + length names = omega (arith, length-map (take k rules) name_of, length-take-le k rules (omega arith)) in
    let more : map name_of (take (k + 1) rules) ≡ names ++ name_of r ∷ [] =
    ap (map name_of) (take_more rules k r within ∙ ap (λ z. take k rules ++ z ∷ []) (sym is)) ∙ map-append name_of (take k rules) (r ∷ []) in
    ap (map named_of) n ∙ map-append named_of old (row ∷ []) ∙ ap (λ z. z ++ named_of row ∷ []) before
    ∙ ap (λ z. rows_of 0 names counts ++ z ∷ []) (e ∙ ap (λ i. (name_of r, slice_index counts i)) place)
    ∙ sym (rows_last 0 names (name_of r) counts)
    ∙ ap (λ ns. rows_of 0 ns counts) (sym more)
