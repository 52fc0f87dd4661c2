-- Sums of what runs count, and what is read of them.
use Rattle.std.proofs.Common.{◌≡◌, ◌≢◌, ℕ, zero, suc, ◌+◌, ◌^◌, ◌&&◌, true, true≢false, append_assoc, codes, zero-add, ◌<◌, ◌≤◌, Bool, false, List, [], ◌∷◌, ◌++◌, length, take, set, get_or, map, replicate, Option, Some, None, refl, sym, ◌∙◌, ap, arith, length-append}
use Rattle.std.specs.Prelude.{filter, slice_index, is_some, string_bytes}
use Rattle.std.proofs.lemmas.List.{take_more, map-append, map-set, length-map, get_or-map}
use Rattle.std.proofs.lemmas.Bool.Decides.{nat_tests}
use Rattle.std.specs.List.{list_all}
use Rattle.std.proofs.lemmas.List.Elements.{filter-append}
use Rattle.std.proofs.lemmas.List.Folds.{list_all_at}
use Rattle.serde_json.specs.View.{view, items_view}
use Rattle.serde_json.specs.declared.value.Value.{Value}
use Rattle.vet_checks.specs.RuleChecks.{name_of}
use Rattle.vet_checks.specs.declared.rule_check.RuleCheck.{RuleCheck}
use Rattle.vet_run.specs.Counting.{AreCounted, all_counted, breaks, breaks_one, number_of}
use Rattle.vet_run.specs.declared.counts.Counts.{Counts}
use Rattle.vet_run.specs.InputLines.{is_unreadable, record_taken}
use Rattle.vet_run.specs.Summaries.{Named, rows_of}
use Rattle.vet_run.specs.Objects.{listed}
use Rattle.vet_run.specs.declared.summary.RuleCount.{RuleCount}
use Rattle.vet_run.specs.declared.summary.Summary.{Summary}
use Rattle.vet_run.specs.Sums.{Sum, both, both_rules, counted_over, fits_one, counts_json, named_of, rule_json, rule_names, sum_json, sum_of, rule_within, rules_from, rules_within}

pub same_sum : (s t : Sum) → s.records ≡ t.records → s.failed ≡ t.failed → s.unreadable ≡ t.unreadable → s.rules ≡ t.rules → s ≡ t
same_sum s t a b c d =
    ap (λ n. record { records = n; failed = s.failed; unreadable = s.unreadable; rules = s.rules }) a
    ∙ ap (λ n. record { records = t.records; failed = n; unreadable = s.unreadable; rules = s.rules }) b
    ∙ ap (λ n. record { records = t.records; failed = t.failed; unreadable = n; rules = s.rules }) c
    ∙ ap (λ n. record { records = t.records; failed = t.failed; unreadable = t.unreadable; rules = n }) d

-- ---- rule by rule

pub both_nothing : (rules : List Named) → both_rules rules [] ≡ rules
both_nothing [] = refl
both_nothing (r ∷ rules) = refl

length_both : (rules others : List Named) → length (both_rules rules others) ≡ length rules
length_both [] others = refl
length_both (r ∷ rules) [] = refl
length_both (r ∷ rules) (o ∷ others) = ap suc (length_both rules others)

-- a rule whose count is not yet added
both_later : (k : ℕ) (rules others : List Named) (d : Named) → get_or (both_rules rules (take k others)) k d ≡ get_or rules k d
both_later k [] others d = refl
both_later zero (r ∷ rules) [] d = refl
both_later zero (r ∷ rules) (o ∷ others) d = refl
both_later (suc k) (r ∷ rules) [] d = refl
both_later (suc k) (r ∷ rules) (o ∷ others) d = both_later k rules others d

both_at : (k : ℕ) (rules others : List Named) (d e : Named) → k < length rules → k < length others
    → get_or (both_rules rules others) k d ≡ ((get_or rules k d).0, (get_or rules k d).1 + (get_or others k e).1)
both_at k [] others d e h i = absurd (omega (arith, h))
both_at k (r ∷ rules) [] d e h i = absurd (omega (arith, i))
both_at zero (r ∷ rules) (o ∷ others) d e h i = refl
both_at (suc k) (r ∷ rules) (o ∷ others) d e h i = both_at k rules others d e (omega (arith, h)) (omega (arith, i))

both_next : (k : ℕ) (rules others : List Named) (d e : Named) → k < length rules → k < length others
    → both_rules rules (take (suc k) others) ≡ set (both_rules rules (take k others)) k ((get_or rules k d).0, (get_or rules k d).1 + (get_or others k e).1)
both_next k [] others d e h i = absurd (omega (arith, h))
both_next k (r ∷ rules) [] d e h i = absurd (omega (arith, i))
both_next zero (r ∷ rules) (o ∷ others) d e h i = ap (λ z. (r.0, r.1 + o.1) ∷ z) (both_nothing rules)
both_next (suc k) (r ∷ rules) (o ∷ others) d e h i = ap (λ z. (r.0, r.1 + o.1) ∷ z) (both_next k rules others d e (omega (arith, h)) (omega (arith, i)))

-- behind as many as there are rules nothing more is added
pub both_enough : (k : ℕ) (rules others : List Named) → length rules ≤ k → both_rules rules (take k others) ≡ both_rules rules others
both_enough k [] others h = refl
both_enough zero (r ∷ rules) others h = absurd (omega (arith, h))
both_enough (suc k) (r ∷ rules) [] h = refl
both_enough (suc k) (r ∷ rules) (o ∷ others) h = ap (λ z. (r.0, r.1 + o.1) ∷ z) (both_enough k rules others (omega (arith, h)))

-- one sum that does not fit is enough
both_too_many : (k : ℕ) (rules others : List Named) (d e : Named) → k < length rules → k < length others
    → fits_one ((get_or rules k d).1 + (get_or others k e).1) ≡ false
    → list_all (λ (r : Named). fits_one r.1) (both_rules rules others) ≡ false
both_too_many k rules others d e h i n =
    let long : k < length (both_rules rules others) = omega (arith, h, length_both rules others) in
    list_all_at (λ (r : Named). fits_one r.1) (both_rules rules others) k d long (ap (λ (r : Named). fits_one r.1) (both_at k rules others d e h i) ∙ n)

not_fits : (n : ℕ) → 2 ^ 64 ≤ n → fits_one n ≡ false
not_fits n h = grind (arith, nat_tests, h)

-- the rules so far, of which one more gets its sum
module _ (k : ℕ) (initial others now : List RuleCount) (r m o : RuleCount)
    (in_rules : k < length initial) (in_others : k < length others) (long : length now ≡ length initial)
    (added : map named_of now ≡ both_rules (map named_of initial) (take k (map named_of others)))
    (at_r : r ≡ get_or now k r) (at_m : m ≡ get_or now k m) (at_o : o ≡ get_or others k o) where
  d : Named
  d = named_of o

  has : (q : RuleCount) → q ≡ get_or now k q → get_or (map named_of initial) k d ≡ named_of q
  has q at_q =
      sym (both_later k (map named_of initial) (map named_of others) d) ∙ ap (λ l. get_or l k d) (sym added)
      ∙ get_or-map named_of now k q d (omega (arith, in_rules, long)) ∙ sym (ap named_of at_q)

  gets : get_or (map named_of others) k d ≡ named_of o
  gets = get_or-map named_of others k o d in_others ∙ sym (ap named_of at_o)

  in_initial : k < length (map named_of initial)
  in_initial = omega (arith, in_rules, length-map initial named_of)

  in_added : k < length (map named_of others)
  in_added = omega (arith, in_others, length-map others named_of)

  sum_at : (get_or (map named_of initial) k d).1 + (get_or (map named_of others) k d).1 ≡ r.broken + o.broken
  sum_at = ap (λ (p : Named). p.1 + (get_or (map named_of others) k d).1) (has r at_r) ∙ ap (λ (p : Named). r.broken + p.1) gets

  pub one_added : (w : RuleCount) → string_bytes w.rule ≡ string_bytes m.rule → w.broken ≡ r.broken + o.broken
      → map named_of (set now k w) ≡ both_rules (map named_of initial) (take (k + 1) (map named_of others))
  one_added w rule broken =
      let next : suc k ≡ k + 1 = omega arith in
      let front : List Named = both_rules (map named_of initial) (take k (map named_of others)) in
      let name : string_bytes w.rule ≡ (get_or (map named_of initial) k d).0 = rule ∙ sym (ap (λ (p : Named). p.0) (has m at_m)) in
      let count : w.broken ≡ (get_or (map named_of initial) k d).1 + (get_or (map named_of others) k d).1 = broken ∙ sym sum_at in
      map-set named_of now k w ∙ ap (λ l. set l k (named_of w)) added
      ∙ ap (λ a. set front k (a, w.broken)) name ∙ ap (λ b. set front k ((get_or (map named_of initial) k d).0, b)) count
      ∙ sym (both_next k (map named_of initial) (map named_of others) d d in_initial in_added)
      ∙ ap (λ j. both_rules (map named_of initial) (take j (map named_of others))) next

  pub one_too_many : 2 ^ 64 ≤ r.broken + o.broken
      → list_all (λ (n : Named). fits_one n.1) (both_rules (map named_of initial) (map named_of others)) ≡ false
  one_too_many h =
      both_too_many k (map named_of initial) (map named_of others) d d in_initial in_added (ap fits_one sum_at ∙ not_fits (r.broken + o.broken) h)

-- behind the last rule
pub all_added : (k : ℕ) (initial others now : List RuleCount) → length initial ≤ k
    → map named_of now ≡ both_rules (map named_of initial) (take k (map named_of others))
    → map named_of now ≡ both_rules (map named_of initial) (map named_of others)
all_added k initial others now h added =
    added ∙ both_enough k (map named_of initial) (map named_of others) (omega (arith, h, length-map initial named_of))

-- the sum of two
pub plus_is : (a b c : Summary) → c.counts.records ≡ a.counts.records + b.counts.records → c.counts.failed ≡ a.counts.failed + b.counts.failed
    → c.counts.unreadable ≡ a.counts.unreadable + b.counts.unreadable
    → map named_of c.rules.items ≡ both_rules (map named_of a.rules.items) (map named_of b.rules.items) → sum_of c ≡ both (sum_of a) (sum_of b)
plus_is a b c records failed unreadable rules = same_sum (sum_of c) (both (sum_of a) (sum_of b)) records failed unreadable rules

pub counts_too_many : (a b c d : Bool) → (a && (b && c)) ≡ false → (a && (b && (c && d))) ≡ false
counts_too_many false b c d h = refl
counts_too_many true false c d h = refl
counts_too_many true true false d h = refl
counts_too_many true true true d h = absurd (true≢false h)

pub rules_too_many : (a b c d : Bool) → d ≡ false → (a && (b && (c && d))) ≡ false
rules_too_many false b c d h = refl
rules_too_many true false c d h = refl
rules_too_many true true false d h = refl
rules_too_many true true true d h = h

pub ruleset added = (plus_is, counts_too_many, rules_too_many)

-- ---- names

-- rules that have other names at one place
pub other_names : (left right : List RuleCount) (k : ℕ) (a b : RuleCount) → k < length left → k < length right
    → a ≡ get_or left k a → b ≡ get_or right k b → string_bytes a.rule ≢ string_bytes b.rule → rule_names left ≢ rule_names right
other_names left right k a b h i at_left at_right other same =
    other (ap (λ (r : RuleCount). string_bytes r.rule) at_left ∙ sym (get_or-map (λ (r : RuleCount). string_bytes r.rule) left k a [] h)
    ∙ ap (λ names. get_or names k []) same
    ∙ get_or-map (λ (r : RuleCount). string_bytes r.rule) right k b [] i ∙ sym (ap (λ (r : RuleCount). string_bytes r.rule) at_right))

one_name_more : (rules : List RuleCount) (k : ℕ) (r : RuleCount) → k < length rules → r ≡ get_or rules k r
    → rule_names (take (k + 1) rules) ≡ rule_names (take k rules) ++ string_bytes r.rule ∷ []
one_name_more rules k r h is =
    ap rule_names (take_more rules k r h ∙ ap (λ z. take k rules ++ z ∷ []) (sym is)) ∙ map-append (λ (r : RuleCount). string_bytes r.rule) (take k rules) (r ∷ [])

pub same_names_more : (left right : List RuleCount) (k : ℕ) (a b : RuleCount) → k < length left → k < length right
    → a ≡ get_or left k a → b ≡ get_or right k b → rule_names (take k left) ≡ rule_names (take k right)
    → string_bytes a.rule ≡ string_bytes b.rule → rule_names (take (k + 1) left) ≡ rule_names (take (k + 1) right)
same_names_more left right k a b h i at_left at_right same one =
    one_name_more left k a h at_left ∙ ap (λ z. z ++ string_bytes a.rule ∷ []) same ∙ ap (λ z. rule_names (take k right) ++ z ∷ []) one
    ∙ sym (one_name_more right k b i at_right)

pub ruleset named = (other_names, same_names_more)

-- ---- as JSON

rules_written : (rules : List RuleCount) → map (λ r. rule_json (named_of r)) rules ≡ map rule_json (map named_of rules)
rules_written [] = refl
rules_written (r ∷ rules) = ap (λ z. rule_json (named_of r) ∷ z) (rules_written rules)

-- the text in three parts
pub sum_text : (s : Summary) (rules : List RuleCount) (front middle text : List ℕ) → rules ≡ s.rules.items
    → front ≡ counts_json s.counts.records s.counts.failed s.counts.unreadable
    → middle ≡ front ++ listed false (map (λ r. rule_json (named_of r)) rules) → text ≡ middle ++ codes "]}" → text ≡ sum_json (sum_of s)
sum_text s rules front middle text is counts more all =
    let counted : List ℕ = counts_json s.counts.records s.counts.failed s.counts.unreadable in
    all ∙ ap (λ z. z ++ codes "]}") (more ∙ ap (λ z. z ++ listed false (map (λ r. rule_json (named_of r)) rules)) counts)
    ∙ append_assoc counted (listed false (map (λ r. rule_json (named_of r)) rules)) (codes "]}")
    ∙ ap (λ rs. counted ++ (listed false rs ++ codes "]}")) (ap (map (λ r. rule_json (named_of r))) is ∙ rules_written s.rules.items)

-- ---- pieces

number_both : (p : Option (List ℕ) → Bool) (front back : List (Option (List ℕ)))
    → number_of p (front ++ back) ≡ number_of p front + number_of p back
number_both p front back = ap length (filter-append p front back) ∙ length-append (filter p front) (filter p back)

rules_both : (front back : List (Option (List ℕ))) (rules : List RuleCheck)
    → both_rules (counted_over rules front).rules (counted_over rules back).rules ≡ (counted_over rules (front ++ back)).rules
rules_both front back [] = refl
rules_both front back (r ∷ rules) =
    ap (λ n. (name_of r, n) ∷ both_rules (counted_over rules front).rules (counted_over rules back).rules) (sym (number_both (λ l. breaks_one r (record_taken l)) front back))
    ∙ ap (λ z. (name_of r, number_of (λ l. breaks_one r (record_taken l)) (front ++ back)) ∷ z) (rules_both front back rules)

-- what is counted of two pieces is what is counted of the whole
pub pieces_counted : (rules : List RuleCheck) (front back : List (Option (List ℕ)))
    → both (counted_over rules front) (counted_over rules back) ≡ counted_over rules (front ++ back)
pieces_counted rules front back =
    same_sum (both (counted_over rules front) (counted_over rules back)) (counted_over rules (front ++ back))
    (sym (number_both (λ l. is_some (record_taken l)) front back))
    (sym (number_both (λ l. breaks rules (record_taken l)) front back))
    (sym (number_both is_unreadable front back))
    (rules_both front back rules)

pub whole_counted : (a b c : Sum) → c ≡ both a b → (rules : List RuleCheck) (front back : List (Option (List ℕ)))
    → a ≡ counted_over rules front → b ≡ counted_over rules back → c ≡ counted_over rules (front ++ back)
whole_counted a b c e rules front back ea eb =
    e ∙ ap (λ z. both z b) ea ∙ ap (both (counted_over rules front)) eb ∙ pieces_counted rules front back

-- ---- a run

rows_later : (i : ℕ) (names : List (List ℕ)) (count : ℕ) (counts : List ℕ) → rows_of (i + 1) names (count ∷ counts) ≡ rows_of i names counts
rows_later i [] count counts = refl
rows_later i (n ∷ names) count counts =
    let next : i + 1 ≡ suc i = omega arith in
    ap (λ k. (n, slice_index (count ∷ counts) k) ∷ rows_of (i + 1 + 1) names (count ∷ counts)) next
    ∙ ap (λ z. (n, slice_index counts i) ∷ z) (rows_later (i + 1) names count counts)

-- the rules with what is counted of each
pub rows_counted : (lines : List (Option (List ℕ))) (rules : List RuleCheck)
    → rows_of 0 (map name_of rules) (all_counted rules lines (replicate (length rules) 0)) ≡ (counted_over rules lines).rules
rows_counted lines [] = refl
rows_counted lines (r ∷ rules) =
    let n : ℕ = number_of (λ l. breaks_one r (record_taken l)) lines in
    let rest : List ℕ = all_counted rules lines (replicate (length rules) 0) in
    ap (λ k. (name_of r, k) ∷ rows_of (0 + 1) (map name_of rules) (k ∷ rest)) (zero-add n)
    ∙ ap (λ z. (name_of r, n) ∷ z) (rows_later 0 (map name_of rules) n rest ∙ rows_counted lines rules)

-- ---- read from JSON

-- a rule behind others
abbrev pub with_rule : Option (List Named) → Option Named → Option (List Named)
with_rule None rule = None
with_rule (Some rules) None = None
with_rule (Some rules) (Some r) = Some (rules ++ r ∷ [])

first_rule : (o : Option Named) → rules_from o (Some []) ≡ with_rule (Some []) o
first_rule None = refl
first_rule (Some r) = refl

between : (a : Option Named) (b : Option (List Named)) (c : Option Named) → rules_from a (with_rule b c) ≡ with_rule (rules_from a b) c
between None b c = refl
between (Some r) None c = refl
between (Some r) (Some rs) None = refl
between (Some r) (Some rs) (Some q) = refl

pub rules_last : (values : List Value) (v : Value)
    → rules_within (items_view (values ++ v ∷ [])) ≡ with_rule (rules_within (items_view values)) (rule_within (view v))
rules_last [] v = first_rule (rule_within (view v))
rules_last (w ∷ values) v =
    ap (rules_from (rule_within (view w))) (rules_last values v) ∙ between (rule_within (view w)) (rules_within (items_view values)) (rule_within (view v))

before_none : (a : Option Named) → rules_from a None ≡ None
before_none None = refl
before_none (Some r) = refl

-- no rules are told where an item tells none
pub no_rules : (values : List Value) (k : ℕ) (d : Value) → k < length values → rule_within (view (get_or values k d)) ≡ None
    → rules_within (items_view values) ≡ None
no_rules [] k d h e = absurd (omega (arith, h))
no_rules (v ∷ values) zero d h e = ap (λ o. rules_from o (rules_within (items_view values))) e
no_rules (v ∷ values) (suc k) d h e =
    ap (rules_from (rule_within (view v))) (no_rules values k d (omega (arith, h)) e) ∙ before_none (rule_within (view v))

-- one rule more is told
pub rules_next : (values : List Value) (k : ℕ) (v : Value) (old new : List RuleCount) (r : RuleCount)
    → k < length values → v ≡ get_or values k v → rules_within (items_view (take k values)) ≡ Some (map named_of old)
    → rule_within (view v) ≡ Some (named_of r) → new ≡ old ++ r ∷ [] → rules_within (items_view (take (k + 1) values)) ≡ Some (map named_of new)
rules_next values k v old new r h is before told n =
    ap (λ vs. rules_within (items_view vs)) (take_more values k v h ∙ ap (λ z. take k values ++ z ∷ []) (sym is))
    ∙ rules_last (take k values) v ∙ ap (λ o. with_rule o (rule_within (view v))) before ∙ ap (with_rule (Some (map named_of old))) told
    ∙ ap Some (sym (ap (map named_of) n ∙ map-append named_of old (r ∷ [])))

-- what a run counted from nothing is what is counted of its lines
pub run_counted : (rules : List RuleCheck) (lines : List (Option (List ℕ))) (before after : Counts) (broken : List ℕ) (s : Sum)
    → before.records ≡ 0 → before.failed ≡ 0 → before.unreadable ≡ 0
    → s.records ≡ after.records → s.failed ≡ after.failed → s.unreadable ≡ after.unreadable
    → s.rules ≡ rows_of 0 (map name_of rules) broken
    → AreCounted rules lines before after → broken ≡ all_counted rules lines (replicate (length rules) 0)
    → s ≡ counted_over rules lines
run_counted rules lines before after broken s r f u sr sf su rows counted all =
    same_sum s (counted_over rules lines)
    (omega (arith, r, sr, counted.records))
    (omega (arith, f, sf, counted.failed))
    (omega (arith, u, su, counted.unreadable))
    (rows ∙ ap (rows_of 0 (map name_of rules)) all ∙ rows_counted lines rules)
