-- What is found of a whole, from the tally of its parts.
use Rattle.std.proofs.Common.{◌≡◌, ℕ, zero, suc, ◌+◌, ◌-◌, ◌<◌, ◌≤◌, Bool, true, false, Option, List, [], ◌∷◌, ◌++◌, Some, None, length-append, map, length, take, refl, sym, ap, ◌∙◌, subst, arith, inl, inr, ⊎_elim, append-nil}
use Rattle.std.specs.Prelude.{not, nat_le, option_map, Result, Ok, Err, IfOk}
use Rattle.std.proofs.lemmas.Bool.Decides.{nat_tests}
use Rattle.std.proofs.lemmas.List.{take_all, take-map, nil_from_length}
use Rattle.predicates_reflection.proofs.Forests.{named_trees-forest}
use Rattle.predicates_core.specs.Label.{Entry, plain}
use Rattle.predicates_core.specs.Formula.{Formula, Formulas, one, more, AtLeast, number_of_parts, needed, enough_of, actual_of_parts, truth, size, HasTruth}
use Rattle.predicates_core.specs.Tree.{Tree, empty, branch, forest, named_trees}
use Rattle.predicates_core.specs.Describe.{CaseNode, with_first_children}
use Rattle.predicates_core.specs.Kinds.{Kind, reasons, changes}
use Rattle.predicates_core.specs.Shows.{ShowsNumbered, tells_numbers, Shows, ShowsParts, ExplainsBy, IsFoundBy, IsCaseBy, IsNode}
use Rattle.predicates_core.specs.Leaves.{IsExactly}
use Rattle.predicates_core.specs.Asked.{is_other}
use Rattle.predicates_core.specs.Several.{AreOfEach, formulas_of}
use Rattle.predicates_core.specs.Thresholds.{IsSettled, settled, IsOfThreshold}
use Rattle.predicates_core.specs.Tally.{kind_of, IsDecided, IsDone, count_like, AreShown, IsOver, IsKept, IsTally, Answers, AreOf}
use Rattle.predicates_core.specs.declared.custom.tally.Kept.{Kept}
use Rattle.predicates_core.specs.declared.custom.tally.Sought.{Sought}
use Rattle.predicates_core.specs.declared.custom.tally.Tally.{Tally}
use Rattle.predicates_core.proofs.Numbers.{shifted, no_numbers}
use Rattle.predicates_core.proofs.BothKinds.{first_numbers}
use Rattle.predicates_core.proofs.Selection.{IsSelected}
use Rattle.predicates_core.proofs.Thresholds.{like, is_like, many, many_like, decisive, truth_by_parts}
use Rattle.predicates_core.proofs.FirstOf.{quota, first_of_threshold}
use Rattle.predicates_core.proofs.Shown.{not_empty, shows_part, shows_all, shows_none}
use Rattle.predicates_core.proofs.CombinedLemmas.{node_fits}
use Rattle.predicates_core.proofs.Values.{needed_is, beq_same, beq_other}
use Rattle.predicates_core.proofs.Tally.{count_both, shown_more, either_way}
use Rattle.predicates_core.proofs.Fewer.{fewer_found}
use Rattle.predicates_core.proofs.ChangeCases.{leaf_found, exact_leaf}
use Rattle.predicates_core.proofs.Found.{Found, case_wanted, other_wanted}

-- ---- what is found of the whole

-- the formulas under the name
abbrev under : List ℕ → Formula → List Formula → Formulas
under name g gs = formulas_of name (λ f. f) g gs

many-under : (b : Bool) (name : List ℕ) (g : Formula) (gs : List Formula) → many (is_like b) (under name g gs) ≡ count_like b (g ∷ gs)
many-under b name g [] = omega arith
many-under b name g (h ∷ gs) = let ih = many-under b name h gs in omega (arith, ih)

number-under : (name : List ℕ) (g : Formula) (gs : List Formula) → number_of_parts (under name g gs) ≡ length (g ∷ gs)
number-under name g [] = refl
number-under name g (h ∷ gs) = ap suc (number-under name h gs)

module _ (q : Kind) (tells b : Bool) (name : List ℕ) where
  abbrev IsShownBy : ℕ → ℕ → Formulas → List (Tree CaseNode) → Type 0
  IsShownBy k m fs cs = (leaves : List ℕ) × IsSelected q (is_like b) m fs leaves × ShowsParts q tells k fs (forest (map (λ d. (name, d)) (take m cs))) leaves

  -- the first m cases show the first leaves of the first m formulas with the truth
  selected_shown : (k m : ℕ) (g : Formula) (gs : List Formula) (cs : List (Tree CaseNode)) → m ≤ length cs → AreShown q tells b k (g ∷ gs) cs → IsShownBy k m (under name g gs) cs
  unfolding Shows
  selected_shown k zero g gs cs within s = ([], refl, shows_none q tells k (under name g gs))
  selected_shown k (suc m) g gs [] within s = absurd (omega (arith, within))
  selected_shown k (suc zero) g [] (c ∷ cs) within s = ⊎_elim
      (λ a. absurd a.1)
      (λ own.
      let x = own.1.2 in
      (x.leaves, (beq_same (truth g) b own.0, x.first, refl), shows_part (ShowsNumbered tells k (Shows q g)) name empty x.leaves c (not_empty q g x.leaves x.first) (own.1.0, own.1.1, x.shown)))
      s
  selected_shown k (suc (suc m)) g [] (c ∷ []) within s = absurd (omega (arith, within))
  selected_shown k (suc (suc m)) g [] (c ∷ d ∷ cs) within s = ⊎_elim (λ a. absurd a.1) (λ own. absurd own.2) s
  selected_shown k (suc m) g (h ∷ gs) (c ∷ cs) within s = ⊎_elim
      (λ a.
      let ih = selected_shown (suc k) (suc m) h gs (c ∷ cs) within a.1 in
      let children = forest (map (λ d. (name, d)) (take (suc m) (c ∷ cs))) in (
        shifted (size g) ih.0,
        ([], ih.0, refl, inr (beq_other (truth g) b a.0, refl, ih.1)),
        shows_all (ShowsNumbered tells k (Shows q g)) name (ShowsParts q tells (suc k) (under name h gs)) (size g) [] ih.0 (no_numbers (size g)) children children refl ih.2,
      ))
      (λ own.
      let x = own.1.2 in
      let ih = selected_shown (suc k) m h gs cs (omega (arith, within)) own.2 in
      let children = forest (map (λ d. (name, d)) (take m cs)) in (
        x.leaves ++ shifted (size g) ih.0,
        (x.leaves, ih.0, refl, inl (beq_same (truth g) b own.0, x.first, ih.1)),
        shows_all (ShowsNumbered tells k (Shows q g)) name (ShowsParts q tells (suc k) (under name h gs)) (size g) x.leaves ih.0 (first_numbers q g x.leaves x.first) (branch name c.root c.children children) children
            (shows_part (ShowsNumbered tells k (Shows q g)) name children x.leaves c (not_empty q g x.leaves x.first) (own.1.0, own.1.1, x.shown)) ih.2,
      ))
      s

-- how many of so many parts with the truth are shown: of a reason as many as decide, of a change as
-- many as are too many for the other truth
abbrev shown_by : Kind → ℕ → ℕ → ℕ
shown_by reasons count enough = enough
shown_by changes count enough = suc count - enough

-- the threshold over the formulas
module _ (s : Sought) (text : Entry) (name : List ℕ) (g : Formula) (gs : List Formula) (number : length (g ∷ gs) ≡ s.number) (some : 1 ≤ s.least) (within : s.least ≤ s.number) where
  abbrev whole : Formula
  whole = AtLeast s.least (plain text) (under name g gs)

  parts_are : number_of_parts (under name g gs) ≡ s.number
  parts_are = number-under name g gs ∙ number

  needs_are : needed s.least (under name g gs) ≡ s.least
  needs_are = needed_is s.least (under name g gs) some (let e = parts_are in omega (arith, within, e))

  decisive_is : (b : Bool) → decisive b s.least (under name g gs) ≡ enough_of b s.least s.number
  decisive_is b = λ i. enough_of b (needs_are i) (parts_are i)

  like_is : (b : Bool) → like b (under name g gs) (actual_of_parts (under name g gs)) ≡ count_like b (g ∷ gs)
  like_is b = sym (many_like b (under name g gs)) ∙ many-under b name g gs

  pub truth_of_whole : (b : Bool) → enough_of b s.least s.number ≤ count_like b (g ∷ gs) → truth whole ≡ b
  truth_of_whole b enough = truth_by_parts b s.least (plain text) (under name g gs) (let d = decisive_is b in let l = like_is b in omega (arith, enough, d, l))

  quota_is : (q : Kind) (b : Bool) → shown_by q (count_like b (g ∷ gs)) (enough_of b s.least s.number) ≡ quota q b s.least (under name g gs)
  quota_is reasons b = sym (decisive_is b)
  quota_is changes b = λ i. suc (sym (like_is b) i) - sym (decisive_is b) i

  explained : (q : Kind) (b : Bool) (m : ℕ) (cs : List (Tree CaseNode)) (t : Tree CaseNode) → truth whole ≡ b → m ≡ shown_by q (count_like b (g ∷ gs)) (enough_of b s.least s.number) → m ≤ length cs → AreShown q (tells_numbers q b s.least s.number) b 0 (g ∷ gs) cs → IsNode text b (map (λ d. (name, d)) (take m cs)) t → ExplainsBy q whole t
  unfolding Shows
  explained q b m cs t is e few shown node =
      let x = selected_shown q (tells_numbers q b s.least s.number) b name 0 m g gs cs few shown in
      let tells : tells_numbers q b s.least s.number ≡ tells_numbers q (truth whole) (needed s.least (under name g gs)) (number_of_parts (under name g gs)) = sym (λ i. tells_numbers q (is i) (needs_are i) (parts_are i)) in
      record {
        leaves = x.0;
        first = first_of_threshold b s.least (plain text) (under name g gs) is q x.0 (subst (λ z. IsSelected q (is_like b) z (under name g gs) x.0) (e ∙ quota_is q b) x.1);
        shown = (node_fits text b _ _ t node is, subst (λ z. ShowsParts q z 0 (under name g gs) t.children x.0) tells (subst (λ ch. ShowsParts q (tells_numbers q b s.least s.number) 0 (under name g gs) ch x.0) (sym node.children) x.2));
      }

-- the formulas of the members as a list
pub listed : {U : Type 0} (name : List ℕ) (has : U → Formula → Type 0) (u : U) (us : List U) (fs : Formulas) → AreOfEach name has (u ∷ us) fs → (f : Formula) × (gs : List Formula) × AreOf has (u ∷ us) (f ∷ gs) × (fs ≡ under name f gs)
listed name has u us (one n f) of = (f, [], (of.1, subst (λ z. AreOf has z []) (sym of.2) tt), ap (λ n. one n f) of.0)
listed name has u [] (more n f fs) of = absurd of.2
listed name has u (v ∷ us) (more n f fs) of = let ih = listed name has v us fs of.2 in (f, ih.0 ∷ ih.1, (of.1, ih.2), λ i. more (of.0 i) f (ih.3 i))

same_formulas : (us fs : List Formula) → AreOf IsExactly us fs → fs ≡ us
same_formulas [] [] h = refl
same_formulas [] (f ∷ fs) h = absurd h
same_formulas (u ∷ us) [] h = absurd h
same_formulas (u ∷ us) (f ∷ fs) h = λ i. h.0.is i ∷ same_formulas us fs h.1 i

-- the threshold over just these formulas
whole_is : (k : ℕ) (text : Entry) (name : List ℕ) (g : Formula) (gs : List Formula) (f : Formula) → 1 ≤ k → k ≤ length (g ∷ gs) → IsOfThreshold k text name IsExactly (g ∷ gs) f → f ≡ AtLeast k (plain text) (under name g gs)
whole_is k text name g gs f some within h =
    let c = h.of_counted some within in
    let x = listed name IsExactly g gs c.formulas c.of_each in
    c.is ∙ ap (AtLeast k (plain text)) (x.3 ∙ (λ i. under name (x.2.0.is i) (same_formulas gs x.1 x.2.1 i)))

module _ (s : Sought) (text : Entry) (name : List ℕ) (some : 1 ≤ s.least) (within : s.least ≤ s.number) where
  truth_of_all : (b : Bool) (us : List Formula) → length us ≡ s.number → enough_of b s.least s.number ≤ count_like b us → HasTruth (IsOfThreshold s.least text name IsExactly us) b
  truth_of_all b [] e enough = absurd (omega (arith, e, some, within))
  truth_of_all b (g ∷ gs) e enough = record { at = λ f p. ap truth (whole_is s.least text name g gs f some (omega (arith, within, e)) p) ∙ truth_of_whole s text name g gs e some within b enough }

  case_of_all : (q : Kind) (b : Bool) (m : ℕ) (cs : List (Tree CaseNode)) (t : Tree CaseNode) (us : List Formula) → length us ≡ s.number → enough_of b s.least s.number ≤ count_like b us → m ≡ shown_by q (count_like b us) (enough_of b s.least s.number) → m ≤ length cs → AreShown q (tells_numbers q b s.least s.number) b 0 us cs → IsNode text b (map (λ d. (name, d)) (take m cs)) t → IsCaseBy q (IsOfThreshold s.least text name IsExactly us) b t
  case_of_all q b m cs t [] e enough is few shown node = absurd (omega (arith, e, some, within))
  case_of_all q b m cs t (g ∷ gs) e enough is few shown node = record {
    truth = truth_of_all b (g ∷ gs) e enough;
    explains = λ f p. subst (λ z. ExplainsBy q z t) (sym (whole_is s.least text name g gs f some (omega (arith, within, e)) p)) (explained s text name g gs e some within q b m cs t (truth_of_whole s text name g gs e some within b enough) is few shown node);
  }

pub count_front : (b : Bool) (fs gs : List Formula) → count_like b fs ≤ count_like b (fs ++ gs)
count_front b [] gs = omega arith
count_front b (f ∷ fs) gs = let ih = count_front b fs gs in omega (arith, ih)

-- one more than all parts
enough_both : (b : Bool) (k n : ℕ) → 1 ≤ k → k ≤ n → enough_of b k n + enough_of (not b) k n ≡ suc n
enough_both true k n some within = omega (arith, some, within)
enough_both false k n some within = omega (arith, some, within)

enough_some : (b : Bool) (k n : ℕ) → 1 ≤ k → k ≤ n → 1 ≤ enough_of b k n
enough_some true k n some within = some
enough_some false k n some within = omega (arith, some, within)

node_over : (b : Bool) (text : Entry) (name : List ℕ) (cs : List (Tree CaseNode)) (found : Found) → 1 ≤ length cs → IsOver b text name cs found → (t : Tree CaseNode) × (found ≡ Some t) × IsNode text b (map (λ d. (name, d)) cs) t
node_over b text name [] found some o = absurd (omega (arith, some))
node_over b text name (c ∷ cs) None some o = absurd o
node_over b text name (c ∷ cs) (Some t) some o = (t, refl, o)

first_node : (b : Bool) (text : Entry) (name : List ℕ) (m : ℕ) (cs : List (Tree CaseNode)) (t : Tree CaseNode) → IsNode text b (map (λ d. (name, d)) cs) t → IsNode text b (map (λ d. (name, d)) (take m cs)) (with_first_children m t)
first_node b text name m cs t h = record {
  text = h.text;
  result = h.result;
  products = h.products;
  children = ap (λ f. forest (take m (named_trees f))) h.children ∙ ap (λ ts. forest (take m ts)) (named_trees-forest (map (λ d. (name, d)) cs)) ∙ ap forest (take-map (λ d. (name, d)) m cs);
}

-- what is found where enough parts have a truth that is wanted
module _ (b : Bool) (s : Sought) (text : Entry) (name : List ℕ) (fs rest : List Formula) (kept : Kept) (others : ℕ) (some : 1 ≤ s.least) (within : s.least ≤ s.number) (all : length (fs ++ rest) ≡ s.number) (h : IsKept b s text name fs kept others) (sum : kept.count + others ≡ length fs) (enough : enough_of b s.least s.number ≤ kept.count) (w : is_other s.wanted b ≡ false) where
  less : others < enough_of (not b) s.least s.number
  less = let both = enough_both b s.least s.number some within in let l = length-append fs rest in omega (arith, both, l, all, sum, enough)

  enough_of_all : enough_of b s.least s.number ≤ count_like b (fs ++ rest)
  enough_of_all = let c = h.counted in let l = count_front b fs rest in omega (arith, c, l, enough)

  case_found_of : (m : ℕ) (t : Tree CaseNode) (result : Found) → result ≡ Some t → IsNode text b (map (λ d. (name, d)) (take m h.cases)) t → m ≤ length h.cases → m ≡ shown_by (kind_of s.turns) (count_like b (fs ++ rest)) (enough_of b s.least s.number) → IsFoundBy (kind_of s.turns) (IsOfThreshold s.least text name IsExactly (fs ++ rest)) s.wanted result
  case_found_of m t result is node few shows = subst (IsFoundBy (kind_of s.turns) (IsOfThreshold s.least text name IsExactly (fs ++ rest)) s.wanted) (sym is) (case_wanted s.wanted (case_of_all s text name some within (kind_of s.turns) b m h.cases t (fs ++ rest) all enough_of_all shows few (shown_more (kind_of s.turns) _ b 0 fs rest h.cases h.shown) node) w)

  reason_found : (result : Found) → s.turns ≡ false → result ≡ kept.node → IsFoundBy (kind_of s.turns) (IsOfThreshold s.least text name IsExactly (fs ++ rest)) s.wanted result
  reason_found result stays is =
      let same : length h.cases ≡ kept.count = ⊎_elim (λ same. same) (λ plenty. absurd (cc (plenty.0, stays))) (h.all w less) in
      let barely = h.barely stays in
      let least = enough_some b s.least s.number some within in
      let x = node_over b text name h.cases kept.node (omega (arith, same, least, enough)) h.over in
      case_found_of (length h.cases) x.0 result (is ∙ x.1) (subst (λ cs. IsNode text b (map (λ d. (name, d)) cs) x.0) (sym (take_all (length h.cases) h.cases (omega arith))) x.2) (omega arith)
      (let e : length h.cases ≡ enough_of b s.least s.number = omega (arith, same, barely, enough) in e ∙ ap (λ t. shown_by (kind_of t) (count_like b (fs ++ rest)) (enough_of b s.least s.number)) (sym stays))

  change_found : (result : Found) → s.turns ≡ true → length rest ≡ 0 → result ≡ option_map (with_first_children (suc kept.count - enough_of b s.least s.number)) kept.node → IsFoundBy (kind_of s.turns) (IsOfThreshold s.least text name IsExactly (fs ++ rest)) s.wanted result
  change_found result turning none is =
      let m = suc kept.count - enough_of b s.least s.number in
      let least = enough_some b s.least s.number some within in
      let both = enough_both b s.least s.number some within in
      let l = length-append fs rest in
      let few : m ≤ length h.cases = ⊎_elim (λ same. omega (arith, same, least)) (λ plenty. let p = plenty.1 in omega (arith, p, both, l, all, sum)) (h.all w less) in
      let x = node_over b text name h.cases kept.node (omega (arith, few, enough)) h.over in
      let end : fs ++ rest ≡ fs = ap (λ r. fs ++ r) (nil_from_length rest none) ∙ append-nil fs in
      let counted : kept.count ≡ count_like b (fs ++ rest) = h.counted ∙ sym (ap (count_like b) end) in
      case_found_of m (with_first_children m x.0) result (is ∙ ap (option_map (with_first_children m)) x.1) (first_node b text name m h.cases x.0 x.2) few
      (ap (λ c. suc c - enough_of b s.least s.number) counted ∙ ap (λ t. shown_by (kind_of t) (count_like b (fs ++ rest)) (enough_of b s.least s.number)) (sym turning))

-- ---- the answer

settled_by : {E : Type 0} (turns : Bool) (text : Entry) (k n : ℕ) (w : Option Bool) (r : Result Found E) → IfOk r (IsFoundBy reasons (IsExactly (settled text k n)) w) → IfOk r (IsFoundBy (kind_of turns) (IsExactly (settled text k n)) w)
settled_by false text k n w r x = x
settled_by true text k n w r x = leaf_found w r exact_leaf x

pub settled_answer : {E : Type 0} (text : Entry) (t : Tally) (r : Result Found E) → IfOk r (IsFoundBy reasons (IsExactly (settled text t.sought.least t.sought.number)) t.sought.wanted) → IfOk r (IsFoundBy (kind_of t.sought.turns) (IsExactly (settled text t.sought.least t.sought.number)) t.sought.wanted)
settled_answer text t r x = settled_by t.sought.turns text t.sought.least t.sought.number t.sought.wanted r x

pub settled_answers : {E : Type 0} (text : Entry) (name : List ℕ) (t : Tally) (r : Result Found E) → IsSettled t.sought.least t.sought.number → IfOk r (IsFoundBy (kind_of t.sought.turns) (IsExactly (settled text t.sought.least t.sought.number)) t.sought.wanted) → IfOk r (Answers text name t)
settled_answers text name t (Err e) is x = tt
settled_answers text name t (Ok found) is x = λ fs rest h all. fewer_found (kind_of t.sought.turns) t.sought.wanted found
    (λ f p. subst (λ n. IsExactly (settled text t.sought.least n) f) all (p.of_settled (subst (IsSettled t.sought.least) (sym all) is)))
    x

module _ (text : Entry) (name : List ℕ) (t : Tally) (some : 1 ≤ t.sought.least) (within : t.sought.least ≤ t.sought.number) (done : IsDone t) where
  pub absent_answers : (found : Found) → t.absent ≡ true → Answers text name t found
  absent_answers found e = λ fs rest h all. absurd (let p = h.present in cc)

  module _ (fs rest : List Formula) (h : IsTally text name fs t) (all : length (fs ++ rest) ≡ t.sought.number) where
    sum : t.held.count + t.failed.count ≡ length fs
    sum = let c = count_both true fs in let x = h.held.counted in let y = h.failed.counted in omega (arith, c, x, y)

    -- too few hold, so enough fail
    few_held : t.held.count < t.sought.least → enough_of false t.sought.least t.sought.number ≤ t.failed.count
    few_held few =
        let e = sum in
        let l = length-append fs rest in
        let seen = h.seen in
        ⊎_elim (λ a. absurd (let p = h.present in cc))
        (λ more. ⊎_elim (λ full. omega (arith, full, e, l, seen, all, few))
        (λ more. ⊎_elim (λ settles. absurd (⊎_elim (λ none. omega (arith, none, some)) (λ less. omega (arith, less, within)) settles))
        (λ more. ⊎_elim (λ d. absurd (let x = d.enough in omega (arith, x, few))) (λ d. d.enough) more) more) more) done

    abbrev count_of : Bool → ℕ
    count_of true = t.held.count
    count_of false = t.failed.count

    never_both : enough_of true t.sought.least t.sought.number ≤ t.held.count → enough_of false t.sought.least t.sought.number ≤ t.failed.count → ⊥
    never_both x y =
        let e = sum in
        let l = length-append fs rest in
        omega (arith, x, y, e, l, all, within)

    -- a change is only known where all parts were seen
    no_rest : (b : Bool) → is_other t.sought.wanted b ≡ false → t.sought.turns ≡ true → enough_of b t.sought.least t.sought.number ≤ count_of b → length rest ≡ 0
    no_rest b w turning enough =
        let l = length-append fs rest in
        let seen = h.seen in
        ⊎_elim (λ a. absurd (let p = h.present in cc))
        (λ more. ⊎_elim (λ full. omega (arith, full, l, seen, all))
        (λ more. ⊎_elim (λ settles. absurd (⊎_elim (λ none. omega (arith, none, some)) (λ less. omega (arith, less, within)) settles))
        (λ more. ⊎_elim (λ d. absurd (decided_held b w enough d)) (λ d. absurd (decided_failed b w enough d)) more) more) more) done
      where
        decided_held : (b : Bool) → is_other t.sought.wanted b ≡ false → enough_of b t.sought.least t.sought.number ≤ count_of b → IsDecided true t.sought t.held.count → ⊥
        decided_held true w enough d = let o = d.other turning in cc
        decided_held false w enough d = never_both d.enough enough

        decided_failed : (b : Bool) → is_other t.sought.wanted b ≡ false → enough_of b t.sought.least t.sought.number ≤ count_of b → IsDecided false t.sought t.failed.count → ⊥
        decided_failed false w enough d = let o = d.other turning in cc
        decided_failed true w enough d = never_both enough d.enough

  pub held_answers : (result : Found) → t.sought.least ≤ t.held.count → is_other t.sought.wanted (nat_le t.sought.least t.held.count) ≡ false → (t.sought.turns ≡ false → result ≡ t.held.node) → (t.sought.turns ≡ true → result ≡ option_map (with_first_children (suc t.held.count - t.sought.least)) t.held.node) → Answers text name t result
  held_answers result enough other reason change = λ fs rest h all.
      let holds : nat_le t.sought.least t.held.count ≡ true = grind (arith, nat_tests) in
      let w : is_other t.sought.wanted true ≡ false = subst (λ v. is_other t.sought.wanted v ≡ false) holds other in
      ⊎_elim
      (λ turning. change_found true t.sought text name fs rest t.held t.failed.count some within all h.held (sum fs rest h all) enough w result turning (no_rest fs rest h all true w turning enough) (change turning))
      (λ stays. reason_found true t.sought text name fs rest t.held t.failed.count some within all h.held (sum fs rest h all) enough w result stays (reason stays))
      (either_way t.sought.turns)

  pub failed_answers : (result : Found) → t.held.count < t.sought.least → is_other t.sought.wanted (nat_le t.sought.least t.held.count) ≡ false → (t.sought.turns ≡ false → result ≡ t.failed.node) → (t.sought.turns ≡ true → result ≡ option_map (with_first_children (suc t.failed.count - enough_of false t.sought.least t.sought.number)) t.failed.node) → Answers text name t result
  failed_answers result few other reason change = λ fs rest h all.
      let fails : nat_le t.sought.least t.held.count ≡ false = grind (arith, nat_tests) in
      let w : is_other t.sought.wanted false ≡ false = subst (λ v. is_other t.sought.wanted v ≡ false) fails other in
      let enough = few_held fs rest h all few in
      let both : t.failed.count + t.held.count ≡ length fs = let e = sum fs rest h all in omega (arith, e) in
      ⊎_elim
      (λ turning. change_found false t.sought text name fs rest t.failed t.held.count some within all h.failed both enough w result turning (no_rest fs rest h all false w turning enough) (change turning))
      (λ stays. reason_found false t.sought text name fs rest t.failed t.held.count some within all h.failed both enough w result stays (reason stays))
      (either_way t.sought.turns)

  pub other_answers : (v : Bool) → v ≡ nat_le t.sought.least t.held.count → is_other t.sought.wanted v ≡ true → Answers text name t None
  other_answers true e o = λ fs rest h all.
      let enough : t.sought.least ≤ t.held.count = grind (arith, nat_tests) in
      let c = h.held.counted in
      let l = count_front true fs rest in
      other_wanted (kind_of t.sought.turns) t.sought.wanted (truth_of_all t.sought text name some within true (fs ++ rest) all (omega (arith, enough, c, l))) o
  other_answers false e o = λ fs rest h all.
      let few : t.held.count < t.sought.least = grind (arith, nat_tests) in
      let enough = few_held fs rest h all few in
      let c = h.failed.counted in
      let l = count_front false fs rest in
      other_wanted (kind_of t.sought.turns) t.sought.wanted (truth_of_all t.sought text name some within false (fs ++ rest) all (omega (arith, enough, c, l))) o
