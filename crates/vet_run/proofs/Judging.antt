-- Which rules a record breaks, one after the other.
use Rattle.std.proofs.Common.{◌≡◌, ℕ, suc, ◌+◌, ◌<◌, ◌≤◌, Bool, true, false, List, [], ◌∷◌, ◌++◌, length, map, take, drop, get_or, refl, sym, ap, ◌∙◌, subst, arith, append-nil, append_assoc, add-one, drop-cons}
use Rattle.std.specs.Prelude.{not, ◌&&◌, ◌||◌, ◌==◌, cond}
use Rattle.std.proofs.lemmas.Bool.Decides.{nat_tests}
use Rattle.std.proofs.lemmas.List.{drop_all, length-map, map-append, take-map, take_more}
use Rattle.serde_json.specs.Data.{Data}
use Rattle.predicates_core.specs.Formula.{truth}
use Rattle.vet_checks.specs.declared.rule_check.RuleCheck.{RuleCheck}
use Rattle.vet_run.specs.Judgements.{Placed, placed, rule_of, broken_from, AddsBroken, IsJudged, asks_all}
use Rattle.vet_run.specs.Records.{formula_on, keeps, broken, shown, AreBroken}
use Rattle.vet_run.specs.Settings.{shows_all}
use Rattle.vet_run.specs.declared.judgement.Broken.{Broken}
use Rattle.vet_run.specs.declared.settings.Report.{Report}

-- ---- all of a list, or the first

suc_not_zero : (n : ℕ) → (suc n == 0) ≡ false
suc_not_zero n = grind (arith, nat_tests)

shown_none : {X : Type 0} (all : Bool) (xs : List X) → (all ≡ false → xs ≡ []) → xs ≡ shown all xs
shown_none true xs none = refl
shown_none false xs none = none refl ∙ ap (take 1) (sym (none refl))

shown_shown : {X : Type 0} (all more : Bool) (xs : List X) → shown all (shown (all || more) xs) ≡ shown all xs
shown_shown true more xs = refl
shown_shown false true xs = refl
shown_shown false false [] = refl
shown_shown false false (x ∷ xs) = refl

shown_map : {X Y : Type 0} (f : X → Y) (all : Bool) (xs : List X) → map f (shown all xs) ≡ shown all (map f xs)
shown_map f true xs = refl
shown_map f false xs = sym (take-map f 1 xs)

none_of_shown : {X : Type 0} (all : Bool) (xs : List X) → (length (shown all xs) == 0) ≡ (length xs == 0)
none_of_shown true xs = refl
none_of_shown false [] = refl
none_of_shown false (x ∷ xs) = suc_not_zero 0 ∙ sym (suc_not_zero (length xs))

-- one rule more
pub placed_more : (bs : List Broken) (k : ℕ) (b : Broken) → k < length bs → b ≡ get_or bs k b → map placed (take (k + 1) bs) ≡ map placed (take k bs) ++ placed b ∷ []
placed_more bs k b within is = ap (map placed) (take_more bs k b within ∙ ap (λ z. take k bs ++ z ∷ []) (sym is)) ∙ map-append placed (take k bs) (b ∷ [])

module _ (d : Data) where
  drop_is : (us : List RuleCheck) (k : ℕ) (u : RuleCheck) → k < length us → u ≡ get_or us k u → drop k us ≡ u ∷ drop (k + 1) us
  drop_is us k u within is = drop-cons us k u within ∙ ap (λ z. z ∷ drop (suc k) us) (sym is) ∙ ap (λ n. u ∷ drop n us) (sym (add-one k))

  kept_from : (k : ℕ) (u : RuleCheck) (us : List RuleCheck) → truth (formula_on d u) ≡ true → broken_from k (u ∷ us) d ≡ broken_from (k + 1) us d
  kept_from k u us e = ap (λ b. cond b (broken_from (k + 1) us d) ((k, u) ∷ broken_from (k + 1) us d)) e

  pub one_from : (k : ℕ) (u : RuleCheck) (us : List RuleCheck) → truth (formula_on d u) ≡ false → broken_from k (u ∷ us) d ≡ (k, u) ∷ broken_from (k + 1) us d
  one_from k u us e = ap (λ b. cond b (broken_from (k + 1) us d) ((k, u) ∷ broken_from (k + 1) us d)) e

  -- ---- rule after rule

  -- the first k rules are asked: those that are found stand before those of the others, and none is
  -- found where the first alone is wanted
  pub record AreJudged (whole : Bool) (us : List RuleCheck) (k : ℕ) (bs : List Placed) : Type 0 where
    pub behind : broken_from 0 us d ≡ bs ++ broken_from k (drop k us) d
    pub none : whole ≡ false → bs ≡ []

  pub none_judged : (whole : Bool) (us : List RuleCheck) → AreJudged whole us 0 []
  none_judged whole us = record { behind = refl; none = λ e. refl }

  found : (us : List RuleCheck) (k : ℕ) (u : RuleCheck) (bs : List Placed) → k < length us → u ≡ get_or us k u → truth (formula_on d u) ≡ false
      → broken_from 0 us d ≡ bs ++ broken_from k (drop k us) d → broken_from 0 us d ≡ (bs ++ (k, u) ∷ []) ++ broken_from (k + 1) (drop (k + 1) us) d
  found us k u bs within is breaks behind =
      behind ∙ ap (λ z. bs ++ broken_from k z d) (drop_is us k u within is) ∙ ap (λ z. bs ++ z) (one_from k u (drop (k + 1) us) breaks)
      ∙ sym (append_assoc bs ((k, u) ∷ []) (broken_from (k + 1) (drop (k + 1) us) d))

  pub judged_more : (whole added : Bool) (us : List RuleCheck) (k : ℕ) (u : RuleCheck) (old new : List Placed) → k < length us → u ≡ get_or us k u
      → AreJudged whole us k old → AddsBroken d u k old new added → (added && not whole) ≡ false → AreJudged whole us (k + 1) new
  judged_more whole false us k u old new within is p h e = record {
    behind = p.behind ∙ ap (λ z. old ++ broken_from k z d) (drop_is us k u within is)
        ∙ ap (λ z. old ++ z) (kept_from k u (drop (k + 1) us) (h.1.at (formula_on d u) (record { is = refl })))
        ∙ ap (λ z. z ++ broken_from (k + 1) (drop (k + 1) us) d) (sym h.0);
    none = λ isnt. h.0 ∙ p.none isnt;
  }
  judged_more true true us k u old new within is p h e = record {
    behind = found us k u old within is (h.1.at (formula_on d u) (record { is = refl })) p.behind
        ∙ ap (λ z. z ++ broken_from (k + 1) (drop (k + 1) us) d) (sym h.0);
    none = λ isnt. absurd (let apart : true ≡ false = isnt in cc);
  }
  judged_more false true us k u old new within is p h e = absurd (let apart : true ≡ false = e in cc)

  pub judged_one : (whole added : Bool) (us : List RuleCheck) (k : ℕ) (u : RuleCheck) (old new : List Placed) → k < length us → u ≡ get_or us k u
      → AreJudged whole us k old → AddsBroken d u k old new added → (added && not whole) ≡ true → new ≡ shown whole (broken_from 0 us d)
  judged_one whole false us k u old new within is p h e = absurd (let apart : false ≡ true = e in cc)
  judged_one true true us k u old new within is p h e = absurd (let apart : false ≡ true = e in cc)
  judged_one false true us k u old new within is p h e =
      let first : broken_from 0 us d ≡ (k, u) ∷ broken_from (k + 1) (drop (k + 1) us) d =
      found us k u old within is (h.1.at (formula_on d u) (record { is = refl })) p.behind
      ∙ ap (λ z. (z ++ (k, u) ∷ []) ++ broken_from (k + 1) (drop (k + 1) us) d) (p.none refl) in
      h.0 ∙ ap (λ z. z ++ (k, u) ∷ []) (p.none refl) ∙ sym (ap (take 1) first)

  pub judged_all : (whole : Bool) (us : List RuleCheck) (k : ℕ) (bs : List Placed) → length us ≤ k → AreJudged whole us k bs → bs ≡ shown whole (broken_from 0 us d)
  judged_all whole us k bs all p =
      let are : broken_from 0 us d ≡ bs = p.behind ∙ ap (λ z. bs ++ broken_from k z d) (drop_all k us all) ∙ append-nil bs in
      shown_none whole bs p.none ∙ ap (shown whole) (sym are)

  -- ---- what is known behind it

  -- where there is room, as many are known as are shown
  pub is_judged : (report : Report) (room : Bool) (counts : List ℕ) (blocks : List (List ℕ)) (us : List RuleCheck) (bs : List Placed)
      → bs ≡ shown (asks_all report room counts blocks) (broken_from 0 us d) → room ≡ true → IsJudged (shows_all report) us d bs
  is_judged report room counts blocks us bs e some =
      let more : Bool = not (length counts == 0) || not (length blocks == 0) in
      ap (shown (shows_all report)) (e ∙ ap (λ r. shown ((r && shows_all report) || more) (broken_from 0 us d)) some)
      ∙ shown_shown (shows_all report) more (broken_from 0 us d)

  none_from : (k : ℕ) (us : List RuleCheck) → (length (broken_from k us d) == 0) ≡ keeps us d
  none_from k [] = refl
  none_from k (u ∷ us) = one (truth (formula_on d u)) (none_from (k + 1) us)
    where
      one : (b : Bool) → (length (broken_from (k + 1) us d) == 0) ≡ keeps us d
          → (length (cond b (broken_from (k + 1) us d) ((k, u) ∷ broken_from (k + 1) us d)) == 0) ≡ (b && keeps us d)
      one true e = e
      one false e = suc_not_zero (length (broken_from (k + 1) us d))

  -- the record keeps every rule where none is found
  pub keeps_where_none : (whole : Bool) (us : List RuleCheck) (bs : List Broken) → map placed bs ≡ shown whole (broken_from 0 us d) → (length bs == 0) ≡ keeps us d
  keeps_where_none whole us bs e =
      ap (λ n. n == 0) (sym (length-map bs placed)) ∙ ap (λ z. length z == 0) e ∙ none_of_shown whole (broken_from 0 us d) ∙ none_from 0 us

  pub keeps_where_judged : (all : Bool) (us : List RuleCheck) (bs : List Broken) → IsJudged all us d (map placed bs) → (length bs == 0) ≡ keeps us d
  keeps_where_judged all us bs e =
      ap (λ n. n == 0) (sym (length-map bs placed)) ∙ sym (none_of_shown all (map placed bs)) ∙ ap (λ z. length z == 0) e
      ∙ none_of_shown all (broken_from 0 us d) ∙ none_from 0 us

  -- ---- those that are shown

  rules_from : (k : ℕ) (us : List RuleCheck) → map (λ (b : Placed). b.1) (broken_from k us d) ≡ broken us d
  rules_from k [] = refl
  rules_from k (u ∷ us) = one (truth (formula_on d u)) (rules_from (k + 1) us)
    where
      one : (b : Bool) → map (λ (b : Placed). b.1) (broken_from (k + 1) us d) ≡ broken us d
          → map (λ (b : Placed). b.1) (cond b (broken_from (k + 1) us d) ((k, u) ∷ broken_from (k + 1) us d)) ≡ cond b (broken us d) (u ∷ broken us d)
      one true e = e
      one false e = ap (λ z. u ∷ z) e

  rules_placed : (bs : List Broken) → map rule_of bs ≡ map (λ (b : Placed). b.1) (map placed bs)
  rules_placed [] = refl
  rules_placed (b ∷ bs) = ap (λ z. rule_of b ∷ z) (rules_placed bs)

  pub rules_shown : (all : Bool) (us : List RuleCheck) (bs : List Broken) → IsJudged all us d (map placed bs) → map rule_of (shown all bs) ≡ shown all (broken us d)
  rules_shown all us bs e =
      rules_placed (shown all bs) ∙ ap (map (λ (b : Placed). b.1)) (shown_map placed all bs ∙ e)
      ∙ shown_map (λ (b : Placed). b.1) all (broken_from 0 us d) ∙ ap (shown all) (rules_from 0 us)

  all_broken : (us : List RuleCheck) → AreBroken d (broken us d)
  all_broken [] = tt
  all_broken (u ∷ us) = one (truth (formula_on d u)) refl (all_broken us)
    where
      one : (b : Bool) → truth (formula_on d u) ≡ b → AreBroken d (broken us d) → AreBroken d (cond b (broken us d) (u ∷ broken us d))
      one true e h = h
      one false e h = (e, h)

  shown_broken : (all : Bool) (us : List RuleCheck) → AreBroken d us → AreBroken d (shown all us)
  shown_broken true us h = h
  shown_broken false [] h = tt
  shown_broken false (u ∷ us) h = (h.0, tt)

  -- the record breaks those that are shown, and all that were found
  pub broken_shown : (all : Bool) (us : List RuleCheck) (bs : List Broken) → IsJudged all us d (map placed bs) → AreBroken d (map rule_of (shown all bs))
  broken_shown all us bs e = subst (AreBroken d) (sym (rules_shown all us bs e)) (shown_broken all (broken us d) (all_broken us))

  pub broken_judged : (whole : Bool) (us : List RuleCheck) (bs : List Broken) → map placed bs ≡ shown whole (broken_from 0 us d) → AreBroken d (map rule_of bs)
  broken_judged whole us bs e =
      subst (AreBroken d)
      (sym (rules_placed bs ∙ ap (map (λ (b : Placed). b.1)) e ∙ shown_map (λ (b : Placed). b.1) whole (broken_from 0 us d) ∙ ap (shown whole) (rules_from 0 us)))
      (shown_broken whole (broken us d) (all_broken us))
