-- What is written of a sum is read again as the sum.
use Rattle.std.proofs.Common.{◌≡◌, ℕ, ◌<◌, ◌≤◌, ◌^◌, true≢false, Bool, true, false, ◌&&◌, List, [], ◌∷◌, ◌++◌, map, Option, Some, None, codes, decimal, refl, sym, ◌∙◌, ap, arith, append_assoc, append-nil, option_and_then, option_map, nat_lt, max}
use Rattle.std.specs.List.{list_all}
use Rattle.std.specs.Str.{IsUtf8, is_utf8}
use Rattle.std.proofs.lemmas.Str.{is_utf8-from_IsUtf8}
use Rattle.std.specs.Prelude.{if◌then◌else◌}
use Rattle.std.proofs.lemmas.Bool.Decides.{nat_tests}
use Rattle.json.specs.Token.{Token}
use Rattle.json.specs.Lex.{tokens}
use Rattle.json.specs.Print.{print, print_from}
use Rattle.json.specs.Tree as tree
use Rattle.json.specs.Json as json
use Rattle.json.proofs.OnLiterals.{json_on_literals}
use Rattle.json.proofs.Printed.Tokens.{tokens-print}
use Rattle.json.proofs.Printed.Trees.{ArePrintable-json_tokens, value-json_tokens}
use Rattle.json.proofs.Printed.Decimals.{IsNumber-decimal}
use Rattle.serde_json.specs.Data.{Data, Items, no_items, item, no_members, member, object, array, number, string, unsigned}
use Rattle.serde_json.specs.Read.{read, of_json, of_items, max_depth}
use Rattle.serde_json.specs.Written.{comma_if}
use Rattle.serde_json.proofs.Numbers.{number_of-decimal}
use Rattle.vet_run.specs.InputLines.{record_on}
use Rattle.vet_run.specs.Objects.{listed, quoted}
use Rattle.vet_run.specs.Summaries.{Named}
use Rattle.vet_run.specs.Sums.{Sum, fits, fits_one, rule_json, rules_within, sum_json, sum_told, sum_within}

-- ---- the trees

abbrev pub rule_tree : Named → json.Json
rule_tree r = json.object (json.member (codes "rule") (json.string r.0) (json.member (codes "broken") (json.number (decimal r.1)) json.no_members))

abbrev pub rules_tree : List Named → json.Items
rules_tree [] = json.no_items
rules_tree (r ∷ rules) = json.item (rule_tree r) (rules_tree rules)

abbrev pub sum_tree : Sum → json.Json
sum_tree s =
    json.object (json.member (codes "records") (json.number (decimal s.records))
    (json.member (codes "failed") (json.number (decimal s.failed))
    (json.member (codes "unreadable") (json.number (decimal s.unreadable))
    (json.member (codes "rules") (json.array (rules_tree s.rules)) json.no_members))))

-- ---- their texts

five_joined : (a b c d e f : List ℕ) → a ++ (b ++ (c ++ (d ++ (e ++ f)))) ≡ (a ++ (b ++ (c ++ (d ++ e)))) ++ f
five_joined a b c d e f = simp append_assoc

rule_printed : (later : Bool) (r : Named) (ts : List Token)
    → print_from later (tree.json_tokens (rule_tree r) ++ ts) ≡ comma_if later ++ (rule_json r ++ print_from true ts)
unfolding json_on_literals
rule_printed true r ts = ap (λ z. 44 ∷ z) (five_joined (codes "{\"rule\":") (quoted r.0) (codes ",\"broken\":") (decimal r.1) (codes "}") (print_from true ts))
rule_printed false r ts = five_joined (codes "{\"rule\":") (quoted r.0) (codes ",\"broken\":") (decimal r.1) (codes "}") (print_from true ts)

three_joined : (a b c d : List ℕ) → a ++ (b ++ (c ++ d)) ≡ (a ++ (b ++ c)) ++ d
three_joined a b c d = simp append_assoc

rules_printed : (rules : List Named) (later : Bool) (ts : List Token)
    → print_from later (tree.items_tokens (rules_tree rules) ++ ts) ≡ listed later (map rule_json rules) ++ 93 ∷ print_from true ts
unfolding json_on_literals
rules_printed [] true ts = refl
rules_printed [] false ts = refl
rules_printed (r ∷ rules) later ts =
    ap (print_from later) (append_assoc (tree.json_tokens (rule_tree r)) (tree.items_tokens (rules_tree rules)) ts)
    ∙ rule_printed later r (tree.items_tokens (rules_tree rules) ++ ts)
    ∙ ap (λ z. comma_if later ++ (rule_json r ++ z)) (rules_printed rules true ts)
    ∙ three_joined (comma_if later) (rule_json r) (listed true (map rule_json rules)) (93 ∷ print_from true ts)

eight_joined : (a b c d e f g h : List ℕ) → a ++ (b ++ (c ++ (d ++ (e ++ (f ++ (g ++ h)))))) ≡ (a ++ (b ++ (c ++ (d ++ (e ++ (f ++ g)))))) ++ h
eight_joined a b c d e f g h = simp append_assoc

sum_printed : (s : Sum) → print (tree.json_tokens (sum_tree s)) ≡ sum_json s
unfolding json_on_literals
sum_printed s =
    ap (λ z. codes "{\"records\":" ++ (decimal s.records ++ (codes ",\"failed\":" ++ (decimal s.failed ++ (codes ",\"unreadable\":" ++ (decimal s.unreadable ++ (codes ",\"rules\":[" ++ z)))))))
    (rules_printed s.rules false (Token.end_object ∷ []))
    ∙ eight_joined (codes "{\"records\":") (decimal s.records) (codes ",\"failed\":") (decimal s.failed) (codes ",\"unreadable\":") (decimal s.unreadable) (codes ",\"rules\":[")
    (listed false (map rule_json s.rules) ++ codes "]}")

-- ---- what they are as data

abbrev pub rule_data : Named → Data
rule_data r = object (member (codes "broken") (number (unsigned r.1)) (member (codes "rule") (string r.0) no_members))

abbrev pub rules_data : List Named → Items
rules_data [] = no_items
rules_data (r ∷ rules) = item (rule_data r) (rules_data rules)

abbrev pub sum_data : Sum → Data
sum_data s =
    object (member (codes "failed") (number (unsigned s.failed))
    (member (codes "records") (number (unsigned s.records))
    (member (codes "rules") (array (rules_data s.rules))
    (member (codes "unreadable") (number (unsigned s.unreadable)) no_members))))

both_true : (a b : Bool) → (a && b) ≡ true → (a ≡ true) × (b ≡ true)
both_true true b h = (refl, h)
both_true false b h = absurd (true≢false (sym h))

less : (n : ℕ) → fits_one n ≡ true → n < 2 ^ 64
less n h = grind (arith, nat_tests, h)

rules_of_json : (rules : List Named) → list_all (λ (r : Named). fits_one r.1) rules ≡ true → of_items (rules_tree rules) ≡ Some (rules_data rules)
rules_of_json [] h = refl
rules_of_json (r ∷ rules) h =
    let t = both_true (fits_one r.1) (list_all (λ (r : Named). fits_one r.1) rules) h in
    rw (number_of-decimal r.1 (less r.1 t.0), rules_of_json rules t.1) refl

numbers_of_rules : (rules : List Named) → list_all (λ (r : Named). fits_one r.1) rules ≡ true → tree.ItemsHaveNumbers (rules_tree rules)
numbers_of_rules [] h = tt
numbers_of_rules (r ∷ rules) h =
    let t = both_true (fits_one r.1) (list_all (λ (r : Named). fits_one r.1) rules) h in
    ((tt, (IsNumber-decimal r.1 (less r.1 t.0), tt)), numbers_of_rules rules t.1)

shallow_rules : (rules : List Named) → tree.items_depth (rules_tree rules) ≤ 1
shallow_rules [] = omega arith
shallow_rules (r ∷ rules) = omega (arith, shallow_rules rules)

rules_read : (rules : List Named) → rules_within (rules_data rules) ≡ Some rules
rules_read [] = refl
rules_read (r ∷ rules) = rw (rules_read rules) refl

module _ (s : Sum) (records : s.records < 2 ^ 64) (failed : s.failed < 2 ^ 64) (unreadable : s.unreadable < 2 ^ 64)
    (rules : list_all (λ (r : Named). fits_one r.1) s.rules ≡ true) where
  sum_of_json : of_json (sum_tree s) ≡ Some (sum_data s)
  sum_of_json = rw (number_of-decimal s.records records, number_of-decimal s.failed failed, number_of-decimal s.unreadable unreadable, rules_of_json s.rules rules) refl

  sum_tokens : tokens (sum_json s) ≡ tree.json_tokens (sum_tree s)
  sum_tokens =
      ap tokens (sym (sum_printed s))
      ∙ tokens-print (tree.json_tokens (sum_tree s)) (ArePrintable-json_tokens (sum_tree s)
      (IsNumber-decimal s.records records, (IsNumber-decimal s.failed failed, (IsNumber-decimal s.unreadable unreadable, (numbers_of_rules s.rules rules, tt)))))

  read_again : read (sum_json s) ≡ Some (sum_data s)
  read_again =
      let shallow : tree.depth (sum_tree s) ≤ max_depth = omega (arith, shallow_rules s.rules) in
      ap (λ ts. option_and_then of_json (option_and_then (λ p. json.if_last p.0 p.1) (json.value max_depth ts))) (sum_tokens ∙ sym (append-nil (tree.json_tokens (sum_tree s))))
      ∙ ap (λ r. option_and_then of_json (option_and_then (λ p. json.if_last p.0 p.1) r)) (value-json_tokens (sum_tree s) max_depth [] shallow)
      ∙ sum_of_json

  told_within : sum_within (sum_data s) ≡ Some s
  told_within = rw (rules_read s.rules) refl

  -- the text of a sum tells the sum
  pub told_again : (text : List ℕ) → IsUtf8 text → text ≡ sum_json s → sum_told text ≡ Some s
  told_again text u e =
      ap (λ b. option_and_then sum_within (if b then read text else None)) (is_utf8-from_IsUtf8 text u)
      ∙ ap (λ t. option_and_then sum_within (read t)) e
      ∙ ap (option_and_then sum_within) read_again
      ∙ told_within

-- the same where each number fits
pub told_where_it_fits : (s : Sum) (text : List ℕ) → fits s ≡ true → IsUtf8 text → text ≡ sum_json s → sum_told text ≡ Some s
told_where_it_fits s text h u e =
    let all : Bool = list_all (λ (r : Named). fits_one r.1) s.rules in
    let a = both_true (fits_one s.records) (fits_one s.failed && (fits_one s.unreadable && all)) h in
    let b = both_true (fits_one s.failed) (fits_one s.unreadable && all) a.1 in
    let c = both_true (fits_one s.unreadable) all b.1 in
    told_again s (less s.records a.0) (less s.failed b.0) (less s.unreadable c.0) c.1 text u e
