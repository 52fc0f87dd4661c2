-- What runs count, the sum of what several count, and its text as JSON.
use Rattle.std.specs.Prelude.{ℕ, ◌+◌, ◌^◌, ◌++◌, ◌&&◌, nat_lt, List, [], ◌∷◌, Bool, Option, Some, false}
use Rattle.std.specs.Prelude.{None, codes, decimal, is_some, map, option_and_then, option_map}
use Rattle.std.specs.Prelude.{string_bytes}
use Rattle.std.specs.List.{list_all}
use Rattle.serde_json.specs.Data.{Data, Items, no_items, item}
use Rattle.serde_json.specs.Find.{as_array, as_number, as_str, as_u64, get}
use Rattle.vet_checks.specs.RuleChecks.{name_of}
use Rattle.vet_checks.specs.declared.rule_check.RuleCheck.{RuleCheck}
use Rattle.vet_run.specs.Counting.{breaks, breaks_one, number_of}
use Rattle.vet_run.specs.InputLines.{is_unreadable, record_on, record_taken}
use Rattle.vet_run.specs.Objects.{listed, quoted}
use Rattle.vet_run.specs.Summaries.{Named}
use Rattle.vet_run.specs.declared.counts.Counts.{Counts}
use Rattle.vet_run.specs.declared.summary.NoSum.{NoSum}
use Rattle.vet_run.specs.declared.summary.NoSum.TheVariants.{OtherRules, TooMany}
use Rattle.vet_run.specs.declared.summary.RuleCount.{RuleCount}
use Rattle.vet_run.specs.declared.summary.Summary.{Summary}

-- how many records there are, how many break a rule, how many lines are unreadable, and for each
-- rule its name and how many records break it
pub record Sum : Type 0 where
  pub records : ℕ
  pub failed : ℕ
  pub unreadable : ℕ
  pub rules : List Named

-- a rule's name, and how many records break it
abbrev pub named_of : RuleCount → Named
named_of r = (string_bytes r.rule, r.broken)

-- the names of rules
abbrev pub rule_names : List RuleCount → List (List ℕ)
rule_names rules = map (λ (r : RuleCount). string_bytes r.rule) rules

-- what a summary tells
abbrev pub sum_of : Summary → Sum
sum_of s = record {
  records = s.counts.records;
  failed = s.counts.failed;
  unreadable = s.counts.unreadable;
  rules = map named_of s.rules.items;
}

-- the rules, each with the count of the one at its place added
abbrev pub both_rules : List Named → List Named → List Named
both_rules [] others = []
both_rules (r ∷ rules) [] = r ∷ rules
both_rules (r ∷ rules) (o ∷ others) = (r.0, r.1 + o.1) ∷ both_rules rules others

-- the sum of what two count by the same rules
abbrev pub both : Sum → Sum → Sum
both s t = record {
  records = s.records + t.records;
  failed = s.failed + t.failed;
  unreadable = s.unreadable + t.unreadable;
  rules = both_rules s.rules t.rules;
}

-- the number fits 64 bits
abbrev pub fits_one : ℕ → Bool
fits_one n = nat_lt n (2 ^ 64)

-- each number fits 64 bits
abbrev pub fits : Sum → Bool
fits s =
    fits_one s.records && (fits_one s.failed && (fits_one s.unreadable
    && list_all (λ (r : Named). fits_one r.1) s.rules))

-- why there is no sum
abbrev pub no_sum_text : NoSum → List ℕ
no_sum_text OtherRules = codes "not by the same rules"
no_sum_text TooMany = codes "more than 64 bits count"

-- what is counted of the lines of an input
abbrev pub counted_over : List RuleCheck → List (Option (List ℕ)) → Sum
counted_over rules lines = record {
  records = number_of (λ l. is_some (record_taken l)) lines;
  failed = number_of (λ l. breaks rules (record_taken l)) lines;
  unreadable = number_of is_unreadable lines;
  rules = map (λ r. (name_of r, number_of (λ l. breaks_one r (record_taken l)) lines)) rules;
}

-- ---- as JSON

-- the object of a rule
abbrev pub rule_json : Named → List ℕ
rule_json r =
    codes "{\"rule\":" ++ (quoted r.0 ++ (codes ",\"broken\":" ++ (decimal r.1 ++ codes "}")))

-- the counts, up to the bracket that opens the rules
abbrev pub counts_json : ℕ → ℕ → ℕ → List ℕ
counts_json records failed unreadable =
    codes "{\"records\":"
    ++ (decimal records
    ++ (codes ",\"failed\":"
    ++ (decimal failed
    ++ (codes ",\"unreadable\":" ++ (decimal unreadable ++ codes ",\"rules\":[")))))

-- the object of what is counted
abbrev pub sum_json : Sum → List ℕ
sum_json s =
    counts_json s.records s.failed s.unreadable
    ++ (listed false (map rule_json s.rules) ++ codes "]}")

-- the number at a key, of those that fit 64 bits
abbrev pub number_at : List ℕ → Data → Option ℕ
number_at key d = option_and_then as_u64 (option_and_then as_number (get key d))

-- a rule and its count, from two members
abbrev pub rule_from : Option (List ℕ) → Option ℕ → Option Named
rule_from None broken = None
rule_from (Some name) broken = option_map (λ n. (name, n)) broken

-- the rule that an object tells
abbrev pub rule_within : Data → Option Named
rule_within d =
    rule_from (option_and_then as_str (get (codes "rule") d)) (number_at (codes "broken") d)

-- a rule before others, where all are told
abbrev pub rules_from : Option Named → Option (List Named) → Option (List Named)
rules_from None rules = None
rules_from (Some r) rules = option_map (λ rs. r ∷ rs) rules

-- the rules that each item tells
abbrev pub rules_within : Items → Option (List Named)
rules_within no_items = Some []
rules_within (item d ds) = rules_from (rule_within d) (rules_within ds)

-- what counts tell
abbrev pub counts_of : Counts → ℕ × (ℕ × ℕ)
counts_of c = (c.records, (c.failed, c.unreadable))

-- three numbers, where all are told
abbrev pub counts_from : Option ℕ → Option ℕ → Option ℕ → Option (ℕ × (ℕ × ℕ))
counts_from None failed unreadable = None
counts_from (Some r) None unreadable = None
counts_from (Some r) (Some f) unreadable = option_map (λ u. (r, (f, u))) unreadable

-- the counts that an object tells
abbrev pub counts_within : Data → Option (ℕ × (ℕ × ℕ))
counts_within d =
    counts_from (number_at (codes "records") d) (number_at (codes "failed") d)
    (number_at (codes "unreadable") d)

-- what is counted, where counts and rules are told
abbrev pub sum_from : Option (ℕ × (ℕ × ℕ)) → Option (List Named) → Option Sum
sum_from None rules = None
sum_from (Some c) rules =
    option_map (λ rs. record { records = c.0; failed = c.1.0; unreadable = c.1.1; rules = rs }) rules

-- what an object tells, where it has all members
abbrev pub sum_within : Data → Option Sum
sum_within d =
    sum_from (counts_within d)
    (option_and_then rules_within (option_and_then as_array (get (codes "rules") d)))

-- what a text tells
abbrev pub sum_told : List ℕ → Option Sum
sum_told text = option_and_then sum_within (record_on text)
