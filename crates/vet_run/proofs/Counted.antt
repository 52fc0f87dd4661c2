-- Lines, and the rules that they break, are counted one after the other.
use Rattle.std.proofs.Common.{◌≡◌, ℕ, suc, ◌+◌, ◌<◌, ◌≤◌, ◌||◌, Bool, true, false, not, List, [], ◌∷◌, ◌++◌, length, map, take, get_or, Option, Some, None, refl, sym, ◌∙◌, ap, subst, arith, add_assoc, add-zero, length-append, if◌then◌else◌}
use Rattle.std.specs.Prelude.{filter, is_some, option_map, ◌&&◌, ◌==◌, cond}
use Rattle.std.proofs.lemmas.Bool.Decides.{nat_tests}
use Rattle.std.proofs.lemmas.List.{set_past}
use Rattle.std.proofs.lemmas.List.Elements.{filter-append}
use Rattle.serde_json.specs.Data.{Data}
use Rattle.vet_checks.specs.declared.rule_check.RuleCheck.{RuleCheck}
use Rattle.vet_run.specs.Counting.{is_false, breaks, one_if, CountsOne, number_of, AreCounted, breaks_one, one_counted, all_counted}
use Rattle.vet_run.specs.InputLines.{record_taken, is_blank_taken, is_unreadable}
use Rattle.vet_run.specs.Judgements.{Placed, placed, broken_from, counted_at, counted_each, asks_all}
use Rattle.predicates_core.specs.Formula.{truth}
use Rattle.vet_run.specs.Records.{keeps, formula_on, shown}
use Rattle.vet_run.specs.Settings.{shows_all}
use Rattle.vet_run.specs.declared.counts.Counts.{Counts}
use Rattle.vet_run.specs.declared.judgement.Broken.{Broken}
use Rattle.vet_run.specs.declared.settings.Report.{Report}
use Rattle.vet_run.proofs.Judging.{placed_more}

-- one more line counts where it passes the test
filter_more : (p : Option (List ℕ) → Bool) (lines : List (Option (List ℕ))) (l : Option (List ℕ)) (b : Bool) → p l ≡ b
    → length (filter p (lines ++ l ∷ [])) ≡ length (filter p lines) + (if b then 1 else 0)
filter_more p lines l true e = ap length (filter-append p lines (l ∷ [])) ∙ length-append (filter p lines) (filter p (l ∷ [])) ∙ (rw e refl)
filter_more p lines l false e = ap length (filter-append p lines (l ∷ [])) ∙ length-append (filter p lines) (filter p (l ∷ [])) ∙ (rw e refl)

one_line : (p : Option (List ℕ) → Bool) (lines : List (Option (List ℕ))) (line : Option (List ℕ)) (q : Bool) (before now after : ℕ)
    → q ≡ p line → now ≡ before + number_of p lines → after ≡ now + one_if q → after ≡ before + number_of p (lines ++ line ∷ [])
one_line p lines line q before now after e n a =
    a ∙ ap (λ z. z + one_if q) n ∙ add_assoc before (number_of p lines) (one_if q)
    ∙ ap (λ b. before + (number_of p lines + one_if b)) e
    ∙ ap (λ z. before + z) (sym (filter_more p lines line (p line) refl))

some_of_map : {A B : Type 0} (f : A → B) (o : Option A) → is_some (option_map f o) ≡ is_some o
some_of_map f None = refl
some_of_map f (Some x) = refl

false_of_map : (rules : List RuleCheck) (o : Option Data) → is_false (option_map (keeps rules) o) ≡ breaks rules o
false_of_map rules None = refl
false_of_map rules (Some d) = refl

pub none_counted : (rules : List RuleCheck) (counts : Counts) → AreCounted rules [] counts counts
none_counted rules counts = record {
  records = sym (add-zero counts.records);
  failed = sym (add-zero counts.failed);
  unreadable = sym (add-zero counts.unreadable);
}

pub counted_more : (rules : List RuleCheck) (lines : List (Option (List ℕ))) (line : Option (List ℕ)) (held : Option Bool) (before now after : Counts)
    → held ≡ option_map (keeps rules) (record_taken line) → AreCounted rules lines before now
    → CountsOne held (is_blank_taken line) now after → AreCounted rules (lines ++ line ∷ []) before after
counted_more rules lines line held before now after is h one =
    let some : is_some held ≡ is_some (record_taken line) = ap is_some is ∙ some_of_map (keeps rules) (record_taken line) in
    let wrong : is_false held ≡ breaks rules (record_taken line) = ap is_false is ∙ false_of_map rules (record_taken line) in
    record {
      records = one_line (λ l. is_some (record_taken l)) lines line (is_some held) before.records now.records after.records some h.records one.records;
      failed = one_line (λ l. breaks rules (record_taken l)) lines line (is_false held) before.failed now.failed after.failed wrong h.failed one.failed;
      unreadable = one_line is_unreadable lines line (not (is_some held || is_blank_taken line)) before.unreadable now.unreadable after.unreadable
          (ap (λ b. not (b || is_blank_taken line)) some) h.unreadable one.unreadable;
    }

-- ---- for each rule

pub no_rule_counted : (rules : List RuleCheck) (ns : List ℕ) → all_counted rules [] ns ≡ ns
no_rule_counted rules [] = refl
no_rule_counted [] (n ∷ ns) = refl
no_rule_counted (r ∷ rules) (n ∷ ns) = ap (λ z. z ∷ all_counted rules [] ns) (add-zero n) ∙ ap (λ z. n ∷ z) (no_rule_counted rules ns)

pub rules_counted_more : (lines : List (Option (List ℕ))) (line : Option (List ℕ)) (rules : List RuleCheck) (ns : List ℕ)
    → one_counted rules (record_taken line) (all_counted rules lines ns) ≡ all_counted rules (lines ++ line ∷ []) ns
rules_counted_more lines line rules [] = refl
rules_counted_more lines line [] (n ∷ ns) = refl
rules_counted_more lines line (r ∷ rules) (n ∷ ns) =
    let p : Option (List ℕ) → Bool = λ l. breaks_one r (record_taken l) in
    ap (λ z. z ∷ one_counted rules (record_taken line) (all_counted rules lines ns))
    (add_assoc n (number_of p lines) (one_if (p line)) ∙ ap (λ z. n + z) (sym (filter_more p lines line (p line) refl)))
    ∙ ap (λ z. (n + number_of p (lines ++ line ∷ [])) ∷ z) (rules_counted_more lines line rules ns)

-- without rules nothing is counted, nor without places
none_of_no_rules : (o : Option Data) (ns : List ℕ) → one_counted [] o ns ≡ ns
none_of_no_rules o [] = refl
none_of_no_rules o (n ∷ ns) = refl

none_without_places : (bs : List Placed) → counted_each bs [] ≡ []
none_without_places [] = refl
none_without_places (b ∷ bs) = none_without_places bs

module _ (d : Data) where
  -- rules that stand one place further on count one place further on
  shifted : (k : ℕ) (us : List RuleCheck) (n : ℕ) (ns : List ℕ) → counted_each (broken_from (suc k) us d) (n ∷ ns) ≡ n ∷ counted_each (broken_from k us d) ns
  shifted k [] n ns = refl
  shifted k (u ∷ us) n ns =
      let same : suc (k + 1) ≡ suc k + 1 = omega arith in
      let further : (ms : List ℕ) → counted_each (broken_from (suc k + 1) us d) (n ∷ ms) ≡ n ∷ counted_each (broken_from (k + 1) us d) ms =
      λ ms. subst (λ i. counted_each (broken_from i us d) (n ∷ ms) ≡ n ∷ counted_each (broken_from (k + 1) us d) ms) same (shifted (k + 1) us n ms) in
      one (truth (formula_on d u)) (further ns) (further (counted_at k ns))
    where
      one : (b : Bool) → counted_each (broken_from (suc k + 1) us d) (n ∷ ns) ≡ n ∷ counted_each (broken_from (k + 1) us d) ns
          → counted_each (broken_from (suc k + 1) us d) (n ∷ counted_at k ns) ≡ n ∷ counted_each (broken_from (k + 1) us d) (counted_at k ns)
          → counted_each (cond b (broken_from (suc k + 1) us d) ((suc k, u) ∷ broken_from (suc k + 1) us d)) (n ∷ ns)
          ≡ n ∷ counted_each (cond b (broken_from (k + 1) us d) ((k, u) ∷ broken_from (k + 1) us d)) ns
      one true e f = e
      one false e f = f

  each_counted : (us : List RuleCheck) (ns : List ℕ) → counted_each (broken_from 0 us d) ns ≡ one_counted us (Some d) ns
  each_counted [] ns = sym (none_of_no_rules (Some d) ns)
  each_counted (u ∷ us) [] = none_without_places (broken_from 0 (u ∷ us) d)
  each_counted (u ∷ us) (n ∷ ns) = one (truth (formula_on d u)) (each_counted us ns)
    where
      one : (b : Bool) → counted_each (broken_from 0 us d) ns ≡ one_counted us (Some d) ns → counted_each (cond b (broken_from 1 us d) ((0, u) ∷ broken_from 1 us d)) (n ∷ ns) ≡ (n + one_if (not b)) ∷ one_counted us (Some d) ns
      one true e = shifted 0 us n ns ∙ ap (λ z. z ∷ counted_each (broken_from 0 us d) ns) (sym (add-zero n)) ∙ ap (λ z. (n + 0) ∷ z) e
      one false e = shifted 0 us (n + 1) ns ∙ ap (λ z. (n + 1) ∷ z) e

-- one rule more is counted
pub each_more : (bs : List Placed) (b : Placed) (ns : List ℕ) → counted_each (bs ++ b ∷ []) ns ≡ counted_at b.0 (counted_each bs ns)
each_more [] b ns = refl
each_more (x ∷ bs) b ns = each_more bs b (counted_at x.0 ns)

pub rule_counted : (bs : List Broken) (k : ℕ) (b : Broken) (ns old new : List ℕ) → k < length bs → b ≡ get_or bs k b
    → old ≡ counted_each (map placed (take k bs)) ns → new ≡ counted_at b.place old → new ≡ counted_each (map placed (take (k + 1) bs)) ns
rule_counted bs k b ns old new within is before e =
    e ∙ ap (counted_at b.place) before ∙ sym (each_more (map placed (take k bs)) (placed b) ns)
    ∙ ap (λ z. counted_each z ns) (sym (placed_more bs k b within is))

-- at a place that is none nothing is counted
pub past_counted : (place : ℕ) (ns : List ℕ) → length ns ≤ place → ns ≡ counted_at place ns
past_counted place ns past = sym (set_past ns place (get_or ns place 0 + 1) past)

pub or_true : (a : Bool) → (a || true) ≡ true
or_true true = refl
or_true false = refl

-- every rule is asked where something is counted for each
pub counted_judged : (report : Report) (room : Bool) (d : Data) (us : List RuleCheck) (bs : List Placed) (counts : List ℕ) (blocks : List (List ℕ))
    → bs ≡ shown (asks_all report room counts blocks) (broken_from 0 us d) → counted_each bs counts ≡ one_counted us (Some d) counts
counted_judged report room d us bs [] blocks e = none_without_places bs ∙ sym (none_of_no_counts us)
  where
    none_of_no_counts : (us : List RuleCheck) → one_counted us (Some d) [] ≡ []
    none_of_no_counts [] = refl
    none_of_no_counts (u ∷ us) = refl
counted_judged report room d us bs (n ∷ ns) blocks e =
    let some : (not (length (n ∷ ns) == 0)) ≡ true = grind (arith, nat_tests) in
    let whole : asks_all report room (n ∷ ns) blocks ≡ true =
    ap (λ b. (room && shows_all report) || (b || not (length blocks == 0))) some ∙ or_true (room && shows_all report) in
    ap (λ z. counted_each z (n ∷ ns)) (e ∙ ap (λ w. shown w (broken_from 0 us d)) whole) ∙ each_counted d us (n ∷ ns)

-- a line without a record counts for no rule
no_record_counted : (rules : List RuleCheck) (ns : List ℕ) → one_counted rules None ns ≡ ns
no_record_counted rules [] = refl
no_record_counted [] (n ∷ ns) = refl
no_record_counted (r ∷ rules) (n ∷ ns) = ap (λ z. z ∷ one_counted rules None ns) (add-zero n) ∙ ap (λ z. n ∷ z) (no_record_counted rules ns)

pub unread_counted : (rules : List RuleCheck) (o : Option Data) (ns : List ℕ) → None ≡ o → ns ≡ one_counted rules o ns
unread_counted rules o ns e = sym (ap (λ z. one_counted rules z ns) (sym e) ∙ no_record_counted rules ns)
