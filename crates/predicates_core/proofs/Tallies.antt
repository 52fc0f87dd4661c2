-- A tally of members, each with formulas of its own.
use Rattle.std.proofs.Common.{◌≡◌, ℕ, zero, suc, ◌+◌, ◌-◌, ◌<◌, ◌≤◌, Bool, true, false, Option, List, [], ◌∷◌, ◌++◌, Some, None, length, length-append, take, drop, get_or, refl, sym, ap, ◌∙◌, subst, arith, inl, inr, ⊎_elim}
use Rattle.std.proofs.lemmas.Bool.Decides.{nat_tests}
use Rattle.std.specs.Prelude.{not, cond, Result, Ok, Err, IfOk}
use mathlib.Core.Bool.{beq}
use Rattle.std.proofs.lemmas.List.{take_more, take_all, take-append-drop, get_or-drop, length-drop}
use Rattle.std.proofs.Math.Seq.{take-add}
use Rattle.predicates_core.specs.Formula.{Formula, AtLeast, enough_of, one_if, truth, HasTruth}
use Rattle.predicates_core.specs.Kinds.{Kind}
use Rattle.predicates_core.specs.Label.{Entry, plain}
use Rattle.predicates_core.specs.Leaves.{IsExactly}
use Rattle.predicates_core.specs.Several.{formulas_of}
use Rattle.predicates_core.specs.Shows.{IsFoundBy}
use Rattle.predicates_core.specs.Tally.{kind_of, held_of, MayCount, IsDone, IsTally, Takes, Counts, Answers, AreOf, IsTallyOf, AreCounted, IsAt, ArePassed, IsFront, count_like}
use Rattle.predicates_core.specs.Asked.{is_other}
use Rattle.predicates_core.specs.Thresholds.{IsSettled, settled, IsOfThreshold}
use Rattle.predicates_core.specs.declared.custom.tally.Sought.{Sought}
use Rattle.predicates_core.specs.declared.custom.tally.Tally.{Tally}
use Rattle.predicates_core.specs.declared.custom.tally.Told.{Told}
use Rattle.predicates_core.specs.declared.custom.tally.Verdicts.{Verdicts}
use Rattle.predicates_core.proofs.Fewer.{fewer_found}
use Rattle.predicates_core.proofs.Found.{Found}
use Rattle.predicates_core.proofs.Several.{are_formulas}
use Rattle.predicates_core.proofs.Tally.{count_joined}
use Rattle.predicates_core.proofs.TallyAnswers.{listed, count_front, truth_of_whole}
use Rattle.predicates_core.proofs.ThresholdCases.{settled_or_not, HasTruth-settled}
use Rattle.predicates_core.proofs.Values.{not-not}

-- a part whose truth alone was asked
pub verdict_told : (q : Kind) {F : Formula → Type 0} {h : Bool} → HasTruth F h → IsFoundBy q F (Some (not h)) None
verdict_told q {F} {h} t = subst (HasTruth F) (sym (not-not h)) t

-- of the members at the front that do not have the verdict no case is sought
pub front_may : (expected : Bool) (s : Sought) (held failed n : ℕ) (spare passed : Verdicts) → s.wanted ≡ Some expected → s.number ≡ n → s.least ≡ cond expected 1 n → spare.held ≡ held_of (not expected) n → spare.failed ≡ held_of (not (not expected)) n → passed.held ≤ spare.held → passed.failed ≤ spare.failed → held ≡ 0 → failed ≡ 0 → MayCount true s held failed passed.held × MayCount false s failed held passed.failed
front_may true s held failed n spare passed wanted number alone eh ef few_held few_failed none_held none_failed = (
  record { unsought = inl (omega (arith, few_held, eh)); barely = λ t. omega (arith, few_held, eh, none_held) },
  record { unsought = inr (rw wanted refl); barely = λ t. omega (arith, few_failed, ef, none_failed, number, alone) },
)
front_may false s held failed n spare passed wanted number alone eh ef few_held few_failed none_held none_failed = (
  record { unsought = inr (rw wanted refl); barely = λ t. omega (arith, few_held, eh, none_held, number, alone) },
  record { unsought = inl (omega (arith, few_failed, ef)); barely = λ t. omega (arith, few_failed, ef, none_failed) },
)

-- what is found of each formula is found of all
found_of_each : (q : Kind) {F : Formula → Type 0} (w : Option Bool) (found : Found) → ((f : Formula) → F f → IsFoundBy q (IsExactly f) w found) → IsFoundBy q F w found
found_of_each q (Some e) None each = record { at = λ f h. (each f h).at f (record { is = refl }) }
found_of_each q (Some e) (Some t) each = record { truth = record { at = λ f h. (each f h).truth.at f (record { is = refl }) }; explains = λ f h. (each f h).explains f (record { is = refl }) }
found_of_each q None None each = λ f h. each f h f (record { is = refl })
found_of_each q None (Some t) each = record { truth = record { at = λ f h. (each f h).truth.at f (record { is = refl }) }; explains = λ f h. (each f h).explains f (record { is = refl }) }

module _ {U : Type 0} (has : U → Formula → Type 0) where
  none_of : (fs : List Formula) → AreOf has [] fs → fs ≡ []
  none_of [] of = refl
  none_of (f ∷ fs) of = absurd of

  -- the formulas of some members and of others
  split_both : (us vs : List U) (fs : List Formula) → AreOf has (us ++ vs) fs → (gs : List Formula) × (hs : List Formula) × AreOf has us gs × AreOf has vs hs × (fs ≡ gs ++ hs)
  split_both [] vs fs of = ([], fs, tt, of, refl)
  split_both (u ∷ us) vs [] of = absurd of
  split_both (u ∷ us) vs (f ∷ fs) of = let ih = split_both us vs fs of.1 in (f ∷ ih.0, ih.1, (of.0, ih.2), ih.3, ap (λ z. f ∷ z) ih.4)

  only_of : (u : U) (fs : List Formula) → AreOf has (u ∷ []) fs → (f : Formula) × has u f × (fs ≡ f ∷ [])
  only_of u [] of = absurd of
  only_of u (f ∷ fs) of = (f, of.0, ap (λ z. f ∷ z) (none_of fs of.1))

  -- the formulas of some members and one more
  split_last : (us : List U) (u : U) (fs : List Formula) → AreOf has (us ++ u ∷ []) fs → (gs : List Formula) × (f : Formula) × AreOf has us gs × has u f × (fs ≡ gs ++ f ∷ [])
  split_last us u fs of = let p = split_both us (u ∷ []) fs of in let o = only_of u p.1 p.3 in (p.0, o.0, p.2, o.1, p.4 ∙ ap (λ z. p.0 ++ z) o.2)

  front_of : (j : ℕ) (us : List U) (fs : List Formula) → AreOf has us fs → AreOf has (take j us) (take j fs)
  front_of zero us fs of = tt
  front_of (suc j) [] [] of = tt
  front_of (suc j) [] (f ∷ fs) of = absurd of
  front_of (suc j) (u ∷ us) [] of = absurd of
  front_of (suc j) (u ∷ us) (f ∷ fs) of = (of.0, front_of j us fs of.1)

  length_of : (us : List U) (fs : List Formula) → AreOf has us fs → length fs ≡ length us
  length_of [] [] of = refl
  length_of [] (f ∷ fs) of = absurd of
  length_of (u ∷ us) [] of = absurd of
  length_of (u ∷ us) (f ∷ fs) of = ap suc (length_of us fs of.1)

  -- ---- members that told no case

  pub counted_none : AreCounted has [] 0 0
  counted_none = record { number = omega arith; at = λ fs of. let e = none_of fs of in (ap (count_like true) e, ap (count_like false) e) }

  -- one more with the truth
  pub counted_next : (b : Bool) (us : List U) (j : ℕ) (u : U) (held failed more further : ℕ) → j < length us → u ≡ get_or us j u → AreCounted has (take j us) held failed → HasTruth (has u) b → more ≡ one_if (beq b true) + held → further ≡ one_if (beq b false) + failed → AreCounted has (take (j + 1) us) more further
  counted_next b us j u held failed more further before is h t em ef = record {
    number = let l = ap length longer in let m = length-append (take j us) (u ∷ []) in let e = h.number in let o = one_truth b in omega (arith, l, m, e, o, em, ef);
    at = λ fs of.
        let p = split_last (take j us) u fs (subst (λ z. AreOf has z fs) longer of) in
        let counts = h.at p.0 p.2 in
        let x = t.at p.1 p.3 in
        (counts_last true p.0 p.1 fs more held p.4 x counts.0 em, counts_last false p.0 p.1 fs further failed p.4 x counts.1 ef);
  }
    where
      longer : take (j + 1) us ≡ take j us ++ u ∷ []
      longer = take_more us j u before ∙ ap (λ z. take j us ++ z ∷ []) (sym is)

      one_truth : (b : Bool) → one_if (beq b true) + one_if (beq b false) ≡ 1
      one_truth true = omega arith
      one_truth false = omega arith

      counts_last : (c : Bool) (gs : List Formula) (f : Formula) (fs : List Formula) (more such : ℕ) → fs ≡ gs ++ f ∷ [] → truth f ≡ b → count_like c gs ≡ such → more ≡ one_if (beq b c) + such → count_like c fs ≡ more
      counts_last c gs f fs more such e x counts is =
          let all = ap (count_like c) e in
          let joined = count_joined c gs (f ∷ []) in
          let own = ap (λ z. one_if (beq z c)) x in
          omega (arith, all, joined, own, counts, is)

  -- enough of the members have the truth
  pub counted_truth : (b : Bool) {text : Entry} {name : List ℕ} (us : List U) (j held failed k : ℕ) → 1 ≤ k → k ≤ length us → AreCounted has (take j us) held failed → enough_of b k (length us) ≤ cond b held failed → HasTruth (IsOfThreshold k text name has us) b
  counted_truth b [] j held failed k some within h enough = absurd (omega (arith, some, within))
  counted_truth b {text} {name} (u ∷ us) j held failed k some within h enough = record {
    at = λ f p.
        let c = p.of_counted some within in
        let x = listed name has u us c.formulas c.of_each in
        let gs = x.0 ∷ x.1 in
        let counts = h.at (take j gs) (front_of j (u ∷ us) gs x.2) in
        let of_front : count_like b (take j gs) ≡ cond b held failed = both b (take j gs) counts in
        let few = count_front b (take j gs) (drop j gs) in
        let all = ap (count_like b) (take-append-drop j gs) in
        let long : length gs ≡ length (u ∷ us) = length_of (u ∷ us) gs x.2 in
        ap truth (c.is ∙ ap (AtLeast k (plain text)) x.3) ∙ truth_of_whole (record { turns = false; wanted = None; least = k; number = length (u ∷ us) }) text name x.0 x.1 long some within b (omega (arith, enough, of_front, few, all));
  }
    where
      both : (b : Bool) (fs : List Formula) → (count_like true fs ≡ held) × (count_like false fs ≡ failed) → count_like b fs ≡ cond b held failed
      both true fs h = h.0
      both false fs h = h.1

  -- the member behind the front decides
  pub front_decides : (b : Bool) {text : Entry} {name : List ℕ} (us : List U) (spare passed : Verdicts) (k : ℕ) → 1 ≤ k → k ≤ length us → spare.held ≡ k - 1 → spare.failed ≡ length us - k → IsFront has spare us passed (Some b) → HasTruth (IsOfThreshold k text name has us) b
  front_decides true us spare passed k some within eh ef h =
      let x = h.ends.1 in
      let full = h.ends.0 in
      counted_truth true us (passed.held + passed.failed + 1) (suc passed.held) passed.failed k some within
      (counted_next true us (passed.held + passed.failed) x.0 passed.held passed.failed (suc passed.held) passed.failed x.1 x.2 h.passed_are.counted x.3 (omega arith) (omega arith))
      (omega (arith, full, eh, some))
  front_decides false us spare passed k some within eh ef h =
      let x = h.ends.1 in
      let full = h.ends.0 in
      counted_truth false us (passed.held + passed.failed + 1) passed.held (suc passed.failed) k some within
      (counted_next false us (passed.held + passed.failed) x.0 passed.held passed.failed passed.held (suc passed.failed) x.1 x.2 h.passed_are.counted x.3 (omega arith) (omega arith))
      (omega (arith, full, ef, within))

  -- no member has the verdict that one decides
  pub none_decides : (expected : Bool) {text : Entry} {name : List ℕ} (us : List U) (spare passed : Verdicts) (k : ℕ) → k ≡ cond expected 1 (length us) → spare.held ≡ held_of (not expected) (length us) → spare.failed ≡ held_of (not (not expected)) (length us) → IsFront has spare us passed None → HasTruth (IsOfThreshold k text name has us) (not expected)
  none_decides true us spare passed k alone eh ef h =
      let few = h.passed_are.held in
      let all = h.ends in
      ⊎_elim
      (λ settles. HasTruth-settled false has k settles (let less : length us < k = ⊎_elim (λ none. absurd (omega (arith, none, alone))) (λ less. less) settles in grind (arith, nat_tests)))
      (λ c. counted_truth false us (passed.held + passed.failed) passed.held passed.failed k c.0 c.1 h.passed_are.counted (omega (arith, few, all, eh, alone)))
      (settled_or_not k (length us))
  none_decides false us spare passed k alone eh ef h =
      let few = h.passed_are.failed in
      let all = h.ends in
      ⊎_elim
      (λ settles. HasTruth-settled true has k settles (let within : k ≤ length us = omega (arith, alone) in grind (arith, nat_tests)))
      (λ c. counted_truth true us (passed.held + passed.failed) passed.held passed.failed k c.0 c.1 h.passed_are.counted (omega (arith, few, all, ef, alone)))
      (settled_or_not k (length us))

  -- one more that has the other verdict
  pub passed_next : (q : Kind) (asked : Option Bool) (o : Bool) (us : List U) (j : ℕ) (u : U) (p p' : ℕ) (found : Found) → o ≡ is_other asked true → j < length us → u ≡ get_or us j u → AreCounted has (take j us) (held_of o p) (held_of (not o) p) → IsFoundBy q (has u) asked found → found ≡ None → (asked ≡ None → ⊥) → p' ≡ p + 1 → AreCounted has (take (j + 1) us) (held_of o p') (held_of (not o) p')
  passed_next q None o us j u p p' found other before is h x none some next = absurd (some refl)
  passed_next q (Some b) o us j u p p' (Some t) other before is h x none some next = absurd (cc)
  passed_next q (Some true) true us j u p p' None other before is h x none some next = absurd (cc)
  passed_next q (Some true) false us j u p p' None other before is h x none some next = counted_next false us j u 0 p 0 p' before is h x (omega arith) (omega (arith, next))
  passed_next q (Some false) true us j u p p' None other before is h x none some next = counted_next true us j u p 0 p' 0 before is h x (omega (arith, next)) (omega arith)
  passed_next q (Some false) false us j u p p' None other before is h x none some next = absurd (cc)

  module _ (s : Sought) (text : Entry) (name : List ℕ) where
    pub tally_none : (t : Tally) → t.sought ≡ s → t.seen ≡ 0 → IsTally text name [] t → IsTallyOf s text name has [] t
    tally_none t sought seen h = record { sought_is = sought; seen = seen; at = λ fs of. subst (λ z. IsTally text name z t) (sym (none_of fs of)) h }

    pub tally_begun : (us : List U) (t : Tally) → t.sought ≡ s → t.seen ≡ 0 → IsTally text name [] t → IsTallyOf s text name has (take t.seen us) t
    tally_begun us t sought seen h = subst (λ n. IsTallyOf s text name has (take n us) t) (sym seen) (tally_none t sought seen h)

    -- one member more, of which this was told
    pub tally_next : (us : List U) {j : ℕ} {u : U} (old new : Tally) (asked : Option Bool) (found : Found) → j < length us → u ≡ get_or us j u → IsTallyOf s text name has (take j us) old → new.sought ≡ old.sought → new.seen ≡ suc old.seen → Takes text name asked found old new → IsFoundBy (kind_of s.turns) (has u) asked found → IsTallyOf s text name has (take (j + 1) us) new
    tally_next us {j} {u} old new asked found before is h sought seen takes x =
        let longer : take (j + 1) us ≡ take j us ++ u ∷ [] = take_more us j u before ∙ ap (λ z. take j us ++ z ∷ []) (sym is) in
        record {
          sought_is = sought ∙ h.sought_is;
          seen = let l = ap length longer in let m = length-append (take j us) (u ∷ []) in let e = h.seen in omega (arith, l, m, e, seen);
          at = λ fs of.
              let p = split_last (take j us) u fs (subst (λ z. AreOf has z fs) longer of) in
              subst (λ z. IsTally text name z new) (sym p.4) (takes p.0 p.1 (h.at p.0 p.2) (subst (λ z. IsFoundBy (kind_of z.turns) (IsExactly p.1) asked found) (sym h.sought_is) (fewer_found (kind_of s.turns) asked found (λ f e. subst (has u) (sym e.is) p.3) x)));
        }

    -- further members, which told no case
    pub tally_counted : (us : List U) (j : ℕ) (old new : Tally) (held failed : ℕ) → IsTallyOf s text name has (take j us) old → AreCounted has (take (held + failed) (drop j us)) held failed → new.sought ≡ old.sought → new.seen ≡ old.seen + (held + failed) → Counts text name held failed old new → IsTallyOf s text name has (take (j + (held + failed)) us) new
    tally_counted us j old new held failed h k sought seen counts =
        let rest = take (held + failed) (drop j us) in
        let longer : take (j + (held + failed)) us ≡ take j us ++ rest = take-add j (held + failed) us in
        record {
          sought_is = sought ∙ h.sought_is;
          seen = let l = ap length longer in let m = length-append (take j us) rest in let e = h.seen in let n = k.number in omega (arith, l, m, e, n, seen);
          at = λ fs of.
              let p = split_both (take j us) rest fs (subst (λ z. AreOf has z fs) longer of) in
              let c = k.at p.1 p.3 in
              subst (λ z. IsTally text name z new) (sym p.4) (counts p.0 p.1 (h.at p.0 p.2) c.0 c.1);
        }

    pub tally_front : (us : List U) (old mid : Tally) (spare passed : Verdicts) → IsTallyOf s text name has (take old.seen us) old → ArePassed has spare (drop old.seen us) passed → mid.sought ≡ old.sought → mid.seen ≡ old.seen + (passed.held + passed.failed) → Counts text name passed.held passed.failed old mid → IsTallyOf s text name has (take mid.seen us) mid
    tally_front us old mid spare passed h p sought seen counts = subst (λ n. IsTallyOf s text name has (take n us) mid) (sym seen) (tally_counted us old.seen old mid passed.held passed.failed h p.counted sought seen counts)

    -- the member behind them
    pub tally_behind : (us : List U) (mid new : Tally) (seen n : ℕ) (t : Told) → IsTallyOf s text name has (take mid.seen us) mid → mid.seen ≡ seen + n → IsAt (drop seen us) n (λ u. IsFoundBy (kind_of s.turns) (has u) t.asked t.found) → new.sought ≡ mid.sought → new.seen ≡ suc mid.seen → Takes text name t.asked t.found mid new → IsTallyOf s text name has (take new.seen us) new
    tally_behind us mid new seen n t h at x sought next takes =
        let rest = length-drop seen us in
        let few = x.1 in
        let before : mid.seen < length us = omega (arith, few, rest, at) in
        let is : x.0 ≡ get_or us mid.seen x.0 = x.2 ∙ get_or-drop seen us n x.0 ∙ ap (λ k. get_or us k x.0) (sym at) in
        let one : mid.seen + 1 ≡ new.seen = omega (arith, next) in
        subst (λ k. IsTallyOf s text name has (take k us) new) one (tally_next us mid new t.asked t.found before is h sought next takes x.3)

    -- all members were seen
    pub tally_full : (us : List U) (j : ℕ) (t : Tally) → length us ≡ s.number → length us ≤ j → IsTallyOf s text name has (take j us) t → IsDone t
    tally_full us j t all full h =
        let n = ap (λ z. z.number) h.sought_is in
        let l = h.seen ∙ ap length (take_all j us full) in
        inr (inl (omega (arith, n, l, all)))

    -- what is found of the whole
    pub tally_answer : {E : Type 0} (us : List U) (j : ℕ) (t : Tally) (r : Result Found E) → length us ≡ s.number → IsTallyOf s text name has (take j us) t
        → (IsSettled t.sought.least t.sought.number → IfOk r (IsFoundBy (kind_of t.sought.turns) (IsExactly (settled text t.sought.least t.sought.number)) t.sought.wanted))
        → IfOk r (Answers text name t) → IfOk r (IsFoundBy (kind_of s.turns) (IsOfThreshold s.least text name has us) s.wanted)
    tally_answer us j t (Err e) all h by_number answers = tt
    tally_answer us j t (Ok found) all h by_number answers = ⊎_elim
        (λ is.
        let x = subst (λ z. IsSettled z.least z.number → IsFoundBy (kind_of z.turns) (IsExactly (settled text z.least z.number)) z.wanted found) h.sought_is by_number is in
        fewer_found (kind_of s.turns) s.wanted found (λ f p. subst (λ n. IsExactly (settled text s.least n) f) all (p.of_settled (subst (IsSettled s.least) (sym all) is))) x)
        (λ c. counted us found all h answers c.0 c.1)
        (settled_or_not s.least s.number)
      where
        exactly : (g : Formula) (gs : List Formula) (f : Formula) → s.least ≤ length (g ∷ gs) → f ≡ AtLeast s.least (plain text) (formulas_of name (λ f. f) g gs) → 1 ≤ s.least → IsOfThreshold s.least text name IsExactly (g ∷ gs) f
        exactly g gs f within is some = record {
          of_settled = λ settles. absurd (⊎_elim (λ none. omega (arith, none, some)) (λ less. omega (arith, less, within)) settles);
          of_counted = λ some within. record { formulas = formulas_of name (λ f. f) g gs; of_each = are_formulas name IsExactly (λ f. f) g gs (λ f. record { is = refl }); is = is };
        }

        counted : (us : List U) (found : Found) → length us ≡ s.number → IsTallyOf s text name has (take j us) t → Answers text name t found → 1 ≤ s.least → s.least ≤ s.number → IsFoundBy (kind_of s.turns) (IsOfThreshold s.least text name has us) s.wanted found
        counted [] found all h answers some within = absurd (omega (arith, all, some, within))
        counted (u ∷ us) found all h answers some within = found_of_each (kind_of s.turns) s.wanted found (λ f p.
            let c = p.of_counted some (omega (arith, within, all)) in
            let x = listed name has u us c.formulas c.of_each in
            let front = take j (x.0 ∷ x.1) in
            let rest = drop j (x.0 ∷ x.1) in
            let both : front ++ rest ≡ x.0 ∷ x.1 = take-append-drop j (x.0 ∷ x.1) in
            let long : length (x.0 ∷ x.1) ≡ s.number = length_of (u ∷ us) (x.0 ∷ x.1) x.2 ∙ all in
            let of_t = answers front rest (h.at front (front_of j (u ∷ us) (x.0 ∷ x.1) x.2)) (ap length both ∙ long ∙ ap (λ z. z.number) (sym h.sought_is)) in
            let of_s = subst (λ z. IsFoundBy (kind_of z.turns) (IsOfThreshold z.least text name IsExactly (front ++ rest)) z.wanted found) h.sought_is of_t in
            let of_all = subst (λ z. IsFoundBy (kind_of s.turns) (IsOfThreshold s.least text name IsExactly z) s.wanted found) both of_s in
            fewer_found (kind_of s.turns) s.wanted found (λ g e. subst (IsOfThreshold s.least text name IsExactly (x.0 ∷ x.1)) (sym e.is) (exactly (x.0) x.1 f (omega (arith, within, long)) (c.is ∙ ap (AtLeast s.least (plain text)) x.3) some)) of_all)
