-- What is found of several of which an odd number has to hold, from what was found of each.
use Rattle.std.proofs.Common.{◌≡◌, ℕ, suc, ◌+◌, ◌≤◌, ◌<◌, ◌⊎◌, Bool, true, false, List, [], ◌∷◌, ◌++◌, Option, Some, None, Ok, map, length, take, get_or, refl, sym, ap, ◌∙◌, subst, arith, inl, inr, ⊎_elim}
use Rattle.std.specs.Prelude.{◌==◌, ◌%◌}
use Rattle.std.specs.declared.alloc.AllocError.{AllocError}
use Rattle.std.proofs.lemmas.Bool.Decides.{nat_tests}
use Rattle.std.proofs.lemmas.List.{take_more, take_all, length-take-le, map-append}
use Rattle.predicates_core.specs.Label.{Label, Entry, plain}
use Rattle.predicates_core.specs.declared.custom.join.Operator.TheVariants.{Xor}
use Rattle.predicates_core.specs.Formula.{Formula, Formulas, one, more, Join, truth, size, HasTruth}
use Rattle.predicates_core.specs.Kinds.{Kind, reasons, changes, First}
use Rattle.predicates_core.specs.Tree.{Tree, Forest, empty, branch, forest, add_last}
use Rattle.predicates_core.specs.Describe.{CaseNode, with_child}
use Rattle.predicates_core.specs.Asked.{is_other, shown_verdict}
use Rattle.predicates_core.specs.Leaves.{IsExactly}
use Rattle.predicates_core.specs.Several.{AreOfEach, is_absent}
use Rattle.predicates_core.specs.Shows.{ShowsPart, ShowsNumbered, Shows, ShowsParts, ExplainsBy, IsCaseBy, IsFound, IsFoundBy, IsNode}
use Rattle.predicates_core.specs.Tally.{kind_of, IsAsked}
use Rattle.predicates_core.specs.Thresholds.{settled}
use Rattle.predicates_core.specs.declared.custom.tally.Sought.{Sought}
use Rattle.predicates_core.proofs.BothKinds.{same_first, first_numbers}
use Rattle.predicates_core.proofs.ChangeCases.{exact_leaf, leaf_found}
use Rattle.predicates_core.proofs.CombinedLemmas.{node_fits}
use Rattle.predicates_core.proofs.Fewer.{fewer_found}
use Rattle.predicates_core.proofs.FirstOf.{one_carries, first_of_odd, one_list}
use Rattle.predicates_core.proofs.Found.{truth_of_none, truth_found, other_wanted, case_wanted}
use Rattle.predicates_core.proofs.Numbers.{shifted}
use Rattle.predicates_core.proofs.Several.{forest-add_last, formula_at}
use Rattle.predicates_core.proofs.Shown.{not_empty, shows_part, shows_all, shows_none}
use Rattle.predicates_tree.specs.declared.odd.OddTally.{OddTally}
use Rattle.predicates_tree.specs.declared.quota.Quota.TheVariants.{Odd}
use Rattle.predicates_tree.specs.OddTallies.{odd_asks, with_found, OddTakes, OddAnswers}
use Rattle.predicates_tree.specs.Quotas.{IsOfQuota}
use Rattle.predicates_tree.proofs.Counted.{Counted, counted_more, met_truth}

-- one case more
pub node_more : {text : Entry} {b : Bool} (name : List ℕ) (cs : List (Tree CaseNode)) (c : Tree CaseNode) {t s : Tree CaseNode} → IsNode text b (map (λ z. (name, z)) cs) t → s ≡ with_child t name c → IsNode text b (map (λ z. (name, z)) (cs ++ c ∷ [])) s
node_more name cs c {t} {s} h e = rw e (record {
  text = h.text;
  result = h.result;
  products = h.products;
  children = ap (λ f. add_last f name c) h.children ∙ forest-add_last (map (λ z. (name, z)) cs) name c ∙ ap forest (sym (map-append (λ z. (name, z)) cs (c ∷ [])));
})

module _ {U : Type 0} (has : U → Formula → Type 0) where
  -- ---- the cases so far: of each for a reason, of the first for a change

  abbrev pub HasCase : Kind → U → Tree CaseNode → Type 0
  HasCase q u c = (b : Bool) × IsCaseBy q (has u) b c

  abbrev pub HaveCases : Kind → List U → List (Tree CaseNode) → Type 0
  HaveCases q [] cs = cs ≡ []
  HaveCases q (u ∷ us) [] = ⊥
  HaveCases reasons (u ∷ us) (c ∷ cs) = HasCase reasons u c × HaveCases reasons us cs
  HaveCases changes (u ∷ us) (c ∷ cs) = HasCase changes u c × (cs ≡ [])

  case_last : (us : List U) (cs : List (Tree CaseNode)) (u : U) (c : Tree CaseNode) → HasCase reasons u c → HaveCases reasons us cs → HaveCases reasons (us ++ u ∷ []) (cs ++ c ∷ [])
  case_last [] [] u c h k = (h, refl)
  case_last [] (d ∷ cs) u c h k = absurd (cc)
  case_last (v ∷ us) [] u c h k = absurd k
  case_last (v ∷ us) (d ∷ cs) u c h k = (k.0, case_last us cs u c h k.1)

  never_none : (asked : Option Bool) → asked ≡ None → is_absent asked None ≡ false → ⊥
  never_none asked is some = let e : true ≡ false = subst (λ z. is_absent z None ≡ false) is some in absurd (cc)

  of_found : (q : Kind) (u : U) (asked : Option Bool) (c : Tree CaseNode) → asked ≡ None → IsFoundBy q (has u) asked (Some c) → HasCase q u c
  of_found q u asked c is x = (c.root.result, subst (λ z. IsFoundBy q (has u) z (Some c)) is x)

  cases_next : (turns : Bool) (us : List U) (cs : List (Tree CaseNode)) (u : U) (asked : Option Bool) (found : Option (Tree CaseNode)) → IsAsked (odd_asks turns (length us)) asked found → IsFoundBy (kind_of turns) (has u) asked found → is_absent asked found ≡ false → HaveCases (kind_of turns) us cs → HaveCases (kind_of turns) (us ++ u ∷ []) (with_found cs found)
  cases_next false us cs u asked None is x some h = absurd (never_none asked is some)
  cases_next false us cs u asked (Some c) is x some h = case_last us cs u c (of_found reasons u asked c is x) h
  cases_next true [] cs u asked None is x some h = absurd (never_none asked is some)
  cases_next true [] [] u asked (Some c) is x some h = (of_found changes u asked c is x, refl)
  cases_next true [] (d ∷ cs) u asked (Some c) is x some h = absurd (cc)
  cases_next true (v ∷ us) [] u asked found is x some h = absurd h
  cases_next true (v ∷ us) (d ∷ cs) u asked None is x some h = h
  cases_next true (v ∷ us) (d ∷ cs) u asked (Some c) is x some h = absurd (cc)

module _ {U : Type 0} (name : List ℕ) (has : U → Formula → Type 0) where
  -- ---- what they show

  no_cases : (us : List U) (cs : List (Tree CaseNode)) → us ≡ [] → HaveCases has reasons us cs → cs ≡ []
  no_cases [] cs e h = h
  no_cases (u ∷ us) cs e h = absurd (cc)

  place_shown : (q : Kind) (k : ℕ) {n : List ℕ} {f : Formula} {c : Tree CaseNode} (rest : Forest CaseNode) → n ≡ name → (x : ExplainsBy q f c) → ShowsPart (ShowsNumbered false k (Shows q f)) n x.leaves (branch name c.root c.children rest) rest
  place_shown q k {n} {f} {c} rest e x = subst (λ z. ShowsPart (ShowsNumbered false k (Shows q f)) n x.leaves (branch z c.root c.children rest) rest) e (shows_part (ShowsNumbered false k (Shows q f)) n rest x.leaves c (not_empty q f x.leaves x.first) (c, refl, x.shown))

  abbrev AreShown : Kind → ℕ → Label → Formulas → List (Tree CaseNode) → Type 0
  AreShown q k label fs cs = (leaves : List ℕ) × First q (Join Xor label fs) leaves × ShowsParts q false k fs (forest (map (λ c. (name, c)) cs)) leaves

  every_shown : (k : ℕ) (label : Label) (us : List U) (fs : Formulas) (cs : List (Tree CaseNode)) → AreOfEach name has us fs → HaveCases has reasons us cs → AreShown reasons k label fs cs
  unfolding Shows
  every_shown k label [] fs cs of h = absurd of
  every_shown k label (u ∷ us) fs [] of h = absurd h
  every_shown k label (u ∷ us) (one n f) (c ∷ cs) of h =
      let x = h.0.1.explains f of.1 in
      let alone : forest (map (λ d. (name, d)) cs) ≡ empty = ap (λ ds. forest (map (λ d. (name, d)) ds)) (no_cases us cs of.2 h.1) in
      (x.leaves, same_first reasons (one_carries Xor label n f) x.leaves x.first, subst (λ rest. ShowsPart (ShowsNumbered false k (Shows reasons f)) n x.leaves (branch name c.root c.children rest) empty) (sym alone) (place_shown reasons k empty of.0 x))
  every_shown k label (u ∷ us) (more n f fs) (c ∷ cs) of h =
      let x = h.0.1.explains f of.1 in
      let ih = every_shown (suc k) label us fs cs of.2 h.1 in
      let children = forest (map (λ d. (name, d)) cs) in (
        x.leaves ++ shifted (size f) ih.0,
        first_of_odd label n f fs reasons x.leaves ih.0 x.first ih.1,
        shows_all (ShowsNumbered false k (Shows reasons f)) n (ShowsParts reasons false (suc k) fs) (size f) x.leaves ih.0 (first_numbers reasons f x.leaves x.first) (branch name c.root c.children children) children (place_shown reasons k children of.0 x) ih.2,
      )

  first_shown : (label : Label) (us : List U) (fs : Formulas) (cs : List (Tree CaseNode)) → AreOfEach name has us fs → HaveCases has changes us cs → AreShown changes 0 label fs cs
  unfolding Shows
  first_shown label [] fs cs of h = absurd of
  first_shown label (u ∷ us) fs [] of h = absurd h
  first_shown label (u ∷ us) (one n f) (c ∷ cs) of h =
      let x = h.0.1.explains f of.1 in
      let alone : forest (map (λ d. (name, d)) cs) ≡ empty = ap (λ ds. forest (map (λ d. (name, d)) ds)) h.1 in
      (x.leaves, same_first changes (one_carries Xor label n f) x.leaves x.first, subst (λ rest. ShowsPart (ShowsNumbered false 0 (Shows changes f)) n x.leaves (branch name c.root c.children rest) empty) (sym alone) (place_shown changes 0 empty of.0 x))
  first_shown label (u ∷ us) (more n f fs) (c ∷ cs) of h =
      let x = h.0.1.explains f of.1 in
      let others = one_list changes (Join Xor label fs) in
      let alone : forest (map (λ d. (name, d)) cs) ≡ empty = ap (λ ds. forest (map (λ d. (name, d)) ds)) h.1 in
      let leaves = x.leaves ++ [] in
      let shown : ShowsParts changes false 0 (more n f fs) (branch name c.root c.children empty) leaves = shows_all (ShowsNumbered false 0 (Shows changes f)) n (ShowsParts changes false 1 fs) (size f) x.leaves [] (first_numbers changes f x.leaves x.first) (branch name c.root c.children empty) empty (place_shown changes 0 empty of.0 x) (shows_none changes false 1 fs) in (
        leaves,
        first_of_odd label n f fs changes x.leaves others.0 x.first others.1,
        subst (λ rest. ShowsParts changes false 0 (more n f fs) (branch name c.root c.children rest) leaves) (sym alone) shown,
      )

  cases_shown : (q : Kind) (label : Label) (us : List U) (fs : Formulas) (cs : List (Tree CaseNode)) → AreOfEach name has us fs → HaveCases has q us cs → AreShown q 0 label fs cs
  cases_shown reasons = every_shown 0
  cases_shown changes = first_shown

  -- a node with the truth over the cases
  odd_case : (q : Kind) (text : Entry) {b : Bool} {us : List U} {t : Tree CaseNode} (cs : List (Tree CaseNode)) → 1 ≤ length us → HasTruth (IsOfQuota Odd text name has us) b → HaveCases has q us cs → IsNode text b (map (λ c. (name, c)) cs) t → IsCaseBy q (IsOfQuota Odd text name has us) b t
  unfolding Shows
  odd_case q text {b} {us} {t} cs some h are node = record {
    truth = h;
    explains = λ f x.
        let o = x.of_number.of_counted (omega arith) some in
        let fs = o.formulas in
        let shown = cases_shown q (plain text) us fs cs o.of_each are in
        let fits = node_fits text b (truth (Join Xor (plain text) fs)) (map (λ c. (name, c)) cs) t node (ap truth (sym o.is) ∙ h.at f x) in
        subst (λ g. ExplainsBy q g t) (sym o.is) (record {
          leaves = shown.0;
          first = shown.1;
          shown = (fits, subst (λ ch. ShowsParts q false 0 fs ch shown.0) (sym node.children) shown.2);
        });
  }

-- nothing was found of a part, whichever its truth: it has no formula
no_formula : (q : Kind) (F : Formula → Type 0) (asked : Option Bool) (found : Option (Tree CaseNode)) → is_absent asked found ≡ true → IsFoundBy q F asked found → (f : Formula) → F f → ⊥
no_formula q F None None e x = x
no_formula q F None (Some c) e x = absurd (cc)
no_formula q F (Some w) found e x = absurd (cc)

absent_or_not : (asked : Option Bool) (found : Option (Tree CaseNode)) → (is_absent asked found ≡ true) ⊎ (is_absent asked found ≡ false)
absent_or_not None None = inl refl
absent_or_not None (Some c) = inr refl
absent_or_not (Some w) found = inr refl

zero_told : (n : ℕ) → (n == 0) ≡ true → n ≡ 0
zero_told n e = grind (arith, nat_tests)

some_told : (n m : ℕ) → (n == 0) ≡ false → n ≡ m → 1 ≤ m
some_told n m e is = grind (arith, nat_tests)

-- what was found of the first k of all
pub record IsOddOf {U : Type 0} (s : Sought) (name : List ℕ) (has : U → Formula → Type 0) (us : List U) (k : ℕ) (t : OddTally) : Type 0 where
  pub sought_is : t.sought ≡ s
  pub seen : t.seen ≡ k
  pub counted : t.absent ≡ false → Counted has (take k us) t.held
  pub cases : t.absent ≡ false → HaveCases has (kind_of s.turns) (take k us) t.cases.items
  pub none : t.absent ≡ true → (fs : Formulas) → AreOfEach name has us fs → ⊥

module _ {U : Type 0} (s : Sought) (name : List ℕ) (has : U → Formula → Type 0) (us : List U) where
  pub odd_none : (t : OddTally) → (t.sought ≡ s) × (t.seen ≡ 0) × (t.held ≡ 0) × (t.cases.items ≡ []) × (t.absent ≡ false) → IsOddOf s name has us 0 t
  odd_none t h = record {
    sought_is = h.0;
    seen = h.1;
    counted = λ e. h.2;
    cases = λ e. h.3;
    none = λ e. absurd (let apart : true ≡ false = sym e ∙ h.4 in cc);
  }

  pub odd_next : {k : ℕ} {u : U} (old new : OddTally) (asked : Option Bool) (found : Option (Tree CaseNode)) → k < length us → u ≡ get_or us k u → old.absent ≡ false → IsOddOf s name has us k old → IsAsked (odd_asks old.sought.turns old.seen) asked found → IsFoundBy (kind_of s.turns) (has u) asked found → OddTakes asked found old new → IsOddOf s name has us (k + 1) new
  odd_next {k} {u} old new asked found within is present h asks x takes = ⊎_elim absent known (absent_or_not asked found)
    where
      longer : take (k + 1) us ≡ take k us ++ u ∷ []
      longer = take_more us k u within ∙ ap (λ z. take k us ++ z ∷ []) (sym is)

      absent : is_absent asked found ≡ true → IsOddOf s name has us (k + 1) new
      absent e = record {
        sought_is = takes.sought ∙ h.sought_is;
        seen = let a = takes.seen in let b = h.seen in omega (arith, a, b);
        counted = λ no. absurd (let apart : true ≡ false = sym (takes.absent e) ∙ no in cc);
        cases = λ no. absurd (let apart : true ≡ false = sym (takes.absent e) ∙ no in cc);
        none = λ _ fs of. let g = formula_at name has us k u fs within is of in no_formula (kind_of s.turns) (has u) asked found e x g.0 g.1;
      }

      known : is_absent asked found ≡ false → IsOddOf s name has us (k + 1) new
      known e = record {
        sought_is = takes.sought ∙ h.sought_is;
        seen = let a = takes.seen in let b = h.seen in omega (arith, a, b);
        counted = λ no. counted_more has us k old.held new.held u (shown_verdict asked found) within is (h.counted present) (truth_found (kind_of s.turns) asked found x) (takes.held e);
        cases = λ no. subst (HaveCases has (kind_of s.turns) (take (k + 1) us)) (sym (takes.cases e)) (subst (λ z. HaveCases has (kind_of s.turns) z (with_found old.cases.items found)) (sym longer) (cases_next has s.turns (take k us) old.cases.items u asked found asked_so x e (h.cases present)));
        none = λ yes. absurd (let apart : true ≡ false = sym yes ∙ takes.present e ∙ present in cc);
      }
        where
          front : length (take k us) ≡ k
          front = length-take-le k us (omega (arith, within))

          asked_so : IsAsked (odd_asks s.turns (length (take k us))) asked found
          asked_so = subst (λ z. IsAsked (odd_asks s.turns z) asked found) (h.seen ∙ sym front) (subst (λ z. IsAsked (odd_asks z.turns old.seen) asked found) h.sought_is asks)

  -- what is found of the whole
  pub odd_found : (text : Entry) (k : ℕ) (t : OddTally) (found : Option (Tree CaseNode)) → s.number ≡ length us → IsOddOf s name has us k t → (t.absent ≡ true) ⊎ (t.sought.number ≤ t.seen) → k ≤ length us → OddAnswers text name t found → IsFoundBy (kind_of s.turns) (IsOfQuota Odd text name has us) s.wanted found
  odd_found text k t found all h over within answers = by_number (t.sought.number == 0) refl
    where
      wanted_is : t.sought.wanted ≡ s.wanted
      wanted_is = ap (λ z. z.wanted) h.sought_is

      number_is : t.sought.number ≡ length us
      number_is = ap (λ z. z.number) h.sought_is ∙ all

      leaf_by : (turns : Bool) → IsFound (IsExactly (settled text 1 0)) s.wanted found → IsFoundBy (kind_of turns) (IsExactly (settled text 1 0)) s.wanted found
      leaf_by false x = x
      leaf_by true x = leaf_found {E = AllocError} s.wanted (Ok found) exact_leaf x

      no_whole : t.absent ≡ true → 1 ≤ length us → (f : Formula) → IsOfQuota Odd text name has us f → ⊥
      no_whole e some f p = let o = p.of_number.of_counted (omega arith) some in h.none e o.formulas o.of_each

      none_by : (w : Option Bool) → ((f : Formula) → IsOfQuota Odd text name has us f → ⊥) → IsFoundBy (kind_of s.turns) (IsOfQuota Odd text name has us) w None
      none_by (Some e) never = truth_of_none never
      none_by None never = never

      by_absence : (a : Bool) → t.absent ≡ a → 1 ≤ length us → (t.sought.number == 0) ≡ false → IsFoundBy (kind_of s.turns) (IsOfQuota Odd text name has us) s.wanted found
      by_absence true e some counts = subst (IsFoundBy (kind_of s.turns) (IsOfQuota Odd text name has us) s.wanted) (sym (answers.none counts (rw e refl))) (none_by s.wanted (no_whole e some))
      by_absence false e some counts = by_other (is_other t.sought.wanted (t.held % 2 == 1)) refl
        where
          full : t.sought.number ≤ t.seen
          full = ⊎_elim (λ yes. absurd (let apart : true ≡ false = sym yes ∙ e in cc)) (λ f. f) over

          whole : take k us ≡ us
          whole = let a = h.seen in take_all k us (omega (arith, full, number_is, a))

          met : HasTruth (IsOfQuota Odd text name has us) (t.held % 2 == 1)
          met = met_truth has text name Odd us t.held (subst (λ z. Counted has z t.held) whole (h.counted e))

          by_other : (o : Bool) → is_other t.sought.wanted (t.held % 2 == 1) ≡ o → IsFoundBy (kind_of s.turns) (IsOfQuota Odd text name has us) s.wanted found
          by_other true o = subst (IsFoundBy (kind_of s.turns) (IsOfQuota Odd text name has us) s.wanted) (sym (answers.none counts (rw (e, o) refl))) (other_wanted (kind_of s.turns) s.wanted met (rw wanted_is at o))
          by_other false o =
              let x = answers.some counts (rw (e, o) refl) in
              subst (IsFoundBy (kind_of s.turns) (IsOfQuota Odd text name has us) s.wanted) (sym x.1) (case_wanted s.wanted (odd_case name has (kind_of s.turns) text t.cases.items some met (subst (λ z. HaveCases has (kind_of s.turns) z t.cases.items) whole (h.cases e)) x.2) (rw wanted_is at o))

      by_number : (b : Bool) → (t.sought.number == 0) ≡ b → IsFoundBy (kind_of s.turns) (IsOfQuota Odd text name has us) s.wanted found
      by_number true e =
          let none : length us ≡ 0 = sym number_is ∙ zero_told t.sought.number e in
          let x = subst (λ w. IsFound (IsExactly (settled text 1 0)) w found) wanted_is (answers.settled e) in
          fewer_found (kind_of s.turns) s.wanted found (λ f p. subst (λ n. IsExactly (settled text 1 n) f) none (p.of_number.of_settled (inr (omega (arith, none))))) (leaf_by s.turns x)
      by_number false e = by_absence t.absent refl (some_told t.sought.number (length us) e number_is) e
