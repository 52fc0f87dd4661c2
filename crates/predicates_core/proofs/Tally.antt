-- A tally of parts: of one part more, and what is found of the whole.
use Rattle.std.proofs.Common.{◌≡◌, ◌⊎◌, ℕ, suc, ◌+◌, ◌<◌, ◌≤◌, ◌^◌, Bool, true, false, Option, List, [], ◌∷◌, ◌++◌, Some, None, length-append, map, length, refl, sym, ap, ◌∙◌, subst, arith, inl, inr, ⊎_elim}
use Rattle.std.specs.Prelude.{not, ◌&&◌, ◌||◌, nat_lt, cond, min, ◌-◌, option_map}
use Rattle.std.proofs.lemmas.Bool.{cases_lt}
use Rattle.std.proofs.lemmas.Bool.Decides.{nat_tests}
use Rattle.std.proofs.lemmas.List.{map-append}
use Rattle.predicates_core.specs.Label.{Entry}
use Rattle.predicates_core.specs.Formula.{Formula, enough_of, truth}
use Rattle.predicates_core.specs.Tree.{Tree, forest, add_last}
use Rattle.predicates_core.specs.Describe.{CaseNode}
use Rattle.predicates_core.specs.Kinds.{Kind}
use Rattle.predicates_core.specs.Shows.{numbered, tells_numbers, ExplainsBy, IsFoundBy}
use Rattle.predicates_core.specs.Leaves.{IsExactly}
use Rattle.predicates_core.specs.Asked.{shown_verdict, is_other}
use Rattle.predicates_core.specs.Several.{is_absent}
use Rattle.predicates_core.specs.Tally.{kind_of, asks_for, asked_by, IsAsked, IsUnsought, IsDecided, IsOpen, IsSpare, MayCount, count_like, AreShown, IsOver, IsNextCase, IsNodeWith, IsKept, Takes, Counts}
use Rattle.predicates_core.specs.declared.custom.tally.Kept.{Kept}
use Rattle.predicates_core.specs.declared.custom.tally.Sought.{Sought}
use Rattle.predicates_core.specs.declared.custom.tally.Tally.{Tally}
use Rattle.predicates_core.specs.declared.custom.tally.Verdicts.{Verdicts}
use Rattle.predicates_core.proofs.Thresholds.{either, one_like, none_like}
use Rattle.predicates_core.proofs.Values.{not-not}
use Rattle.predicates_core.proofs.Found.{Found, truth_found, case_found}
use Rattle.predicates_core.proofs.Several.{forest-add_last}

-- ---- what a part with a formula told

pub told_truth : (q : Kind) (f : Formula) (asked : Option Bool) (found : Found) → IsFoundBy q (IsExactly f) asked found → truth f ≡ shown_verdict asked found
told_truth q f asked found x = (truth_found q asked found x).at f (record { is = refl })

pub never_absent : (q : Kind) (f : Formula) (asked : Option Bool) (found : Found) → is_absent asked found ≡ true → IsFoundBy q (IsExactly f) asked found → ⊥
never_absent q f None None e x = x f (record { is = refl })
never_absent q f None (Some t) e x = cc
never_absent q f (Some b) found e x = cc

-- a case was told just where it was asked for
abbrev IsToldIf : Bool → Found → Type 0
IsToldIf true None = ⊥
IsToldIf true (Some c) = Unit {0}
IsToldIf false None = Unit {0}
IsToldIf false (Some c) = ⊥

told_if : (b h f : Bool) (asked : Option Bool) (found : Found) → IsAsked (asked_by h f) asked found → is_absent asked found ≡ false → shown_verdict asked found ≡ b → IsToldIf (cond b h f) found
told_if true true f asked (Some c) e some v = tt
told_if false h true asked (Some c) e some v = tt
told_if true false f asked None e some v = tt
told_if false h false asked None e some v = tt
told_if true true true None None e some v = absurd (cc)
told_if true true true (Some a) None e some v = absurd (cc)
told_if true true false None None e some v = absurd (cc)
told_if true true false (Some a) None e some v = absurd (cc)
told_if false true true None None e some v = absurd (cc)
told_if false true true (Some a) None e some v = absurd (cc)
told_if false false true None None e some v = absurd (cc)
told_if false false true (Some a) None e some v = absurd (cc)
told_if true false true None (Some c) e some v = absurd (cc)
told_if true false true (Some a) (Some c) e some v = absurd (cc)
told_if true false false asked (Some c) e some v = absurd (cc)
told_if false true false None (Some c) e some v = absurd (cc)
told_if false true false (Some a) (Some c) e some v = absurd (cc)
told_if false false false asked (Some c) e some v = absurd (cc)

-- ---- how many formulas have a truth

pub count_joined : (b : Bool) (fs gs : List Formula) → count_like b (fs ++ gs) ≡ count_like b fs + count_like b gs
count_joined b [] gs = omega arith
count_joined b (f ∷ fs) gs = let ih = count_joined b fs gs in omega (arith, ih)

count_with : (b : Bool) (fs : List Formula) (f : Formula) → truth f ≡ b → count_like b (fs ++ f ∷ []) ≡ suc (count_like b fs)
count_with b fs f is = let e = count_joined b fs (f ∷ []) in let o = one_like (truth f) b is in omega (arith, e, o)

count_without : (b : Bool) (fs : List Formula) (f : Formula) → truth f ≡ not b → count_like b (fs ++ f ∷ []) ≡ count_like b fs
count_without b fs f is = let e = count_joined b fs (f ∷ []) in let o = none_like (truth f) b is in omega (arith, e, o)

pub count_both : (b : Bool) (fs : List Formula) → count_like b fs + count_like (not b) fs ≡ length fs
count_both b [] = refl
count_both b (f ∷ fs) =
    let ih = count_both b fs in
    ⊎_elim
    (λ is. let x = one_like (truth f) b is in let y = none_like (truth f) (not b) (is ∙ sym (not-not b)) in omega (arith, ih, x, y))
    (λ is. let x = none_like (truth f) b is in let y = one_like (truth f) (not b) is in omega (arith, ih, x, y))
    (either (truth f) b)

-- ---- the cases of the first formulas with a truth

module _ (q : Kind) (tells b : Bool) where
  shown_short : (k : ℕ) (fs : List Formula) (cs : List (Tree CaseNode)) → AreShown q tells b k fs cs → length cs ≤ count_like b fs
  shown_short k fs [] s = omega arith
  shown_short k [] (c ∷ cs) s = absurd s
  shown_short k (f ∷ fs) (c ∷ cs) s = ⊎_elim
      (λ a. let ih = shown_short (suc k) fs (c ∷ cs) a.1 in omega (arith, ih))
      (λ x. let ih = shown_short (suc k) fs cs x.2 in let o = one_like (truth f) b x.0 in omega (arith, ih, o))
      s

  pub shown_more : (k : ℕ) (fs gs : List Formula) (cs : List (Tree CaseNode)) → AreShown q tells b k fs cs → AreShown q tells b k (fs ++ gs) cs
  shown_more k fs gs [] s = tt
  shown_more k [] gs (c ∷ cs) s = absurd s
  shown_more k (f ∷ fs) gs (c ∷ cs) s = ⊎_elim (λ a. inl (a.0, shown_more (suc k) fs gs (c ∷ cs) a.1)) (λ x. inr (x.0, x.1, shown_more (suc k) fs gs cs x.2)) s

  -- one more has the truth, and all before it have their cases
  shown_next : (k n : ℕ) (fs : List Formula) (f : Formula) (cs : List (Tree CaseNode)) (part : Tree CaseNode) → length cs ≡ count_like b fs → AreShown q tells b k fs cs → truth f ≡ b → n ≡ k + length fs → ExplainsBy q f part → AreShown q tells b k (fs ++ f ∷ []) (cs ++ numbered tells n part ∷ [])
  shown_next k n [] f [] part all s is at x = inr (is, (part, ap (λ i. numbered tells i part) (let e : n ≡ k = omega (arith, at) in e), x), tt)
  shown_next k n [] f (c ∷ cs) part all s is at x = absurd s
  shown_next k n (g ∷ fs) f [] part all s is at x = ⊎_elim
      (λ a. absurd (let o = one_like (truth g) b a in omega (arith, all, o)))
      (λ a. let o = none_like (truth g) b a in inl (a, shown_next (suc k) n fs f [] part (omega (arith, all, o)) tt is (omega (arith, at)) x))
      (either (truth g) b)
  shown_next k n (g ∷ fs) f (c ∷ cs) part all s is at x = ⊎_elim
      (λ a. let o = none_like (truth g) b a.0 in inl (a.0, shown_next (suc k) n fs f (c ∷ cs) part (omega (arith, all, o)) a.1 is (omega (arith, at)) x))
      (λ y. let o = one_like (truth g) b y.0 in inr (y.0, y.1, shown_next (suc k) n fs f cs part (omega (arith, all, o)) y.2 is (omega (arith, at)) x))
      s

-- ---- the parts with one truth, of one part more

over_next : (b : Bool) (text : Entry) (name : List ℕ) (cs : List (Tree CaseNode)) (node : Found) (d t : Tree CaseNode) → IsOver b text name cs node → IsNextCase b text name d node t → IsOver b text name (cs ++ d ∷ []) (Some t)
over_next b text name [] None d t o n = n
over_next b text name [] (Some w) d t o n = absurd o
over_next b text name (c ∷ cs) None d t o n = absurd o
over_next b text name (c ∷ cs) (Some w) d t o n = rw n (record {
  text = o.text;
  result = o.result;
  products = o.products;
  children = ap (λ f. add_last f name d) o.children ∙ forest-add_last (map (λ z. (name, z)) (c ∷ cs)) name d ∙ ap forest (sym (map-append (λ z. (name, z)) (c ∷ cs) (d ∷ [])));
})

all_pass : (x t y z : Bool) → (not x && (not t || (y && z))) ≡ true → (x ≡ false) × (t ≡ true → (y ≡ true) × (z ≡ true))
all_pass x t y z e = (grind arith, λ t. (grind arith, grind arith))

none_passes : (x t y z : Bool) → (not x && (not t || (y && z))) ≡ false → x ≡ false → z ≡ true → (t ≡ true) × (y ≡ false)
none_passes x t y z e w l = (grind arith, grind arith)

-- so many more parts with the truth may follow
few_such : (b : Bool) (s : Sought) (such : ℕ) → (IsDecided b s such → ⊥) → s.turns ≡ false → such < enough_of b s.least s.number
few_such b s such none e = ⊎_elim (λ less. less) (λ enough. absurd (none (record { enough = enough; other = λ t. absurd (cc) }))) (cases_lt such (enough_of b s.least s.number))

pub either_way : (t : Bool) → (t ≡ true) ⊎ (t ≡ false)
either_way t = grind arith

next_node : (b : Bool) (text : Entry) (name : List ℕ) (so_far : Found) (d : Tree CaseNode) (node : Found) → IsNodeWith b text name so_far (Some d) node → (t : Tree CaseNode) × (node ≡ Some t) × IsNextCase b text name d so_far t
next_node b text name so_far d None h = absurd h
next_node b text name so_far d (Some t) h = (t, refl, h)

module _ (b : Bool) (s : Sought) (text : Entry) (name : List ℕ) where
  abbrev room : ℕ
  room = enough_of (not b) s.least s.number

  not_asked : (such others : ℕ) → asks_for b s such others ≡ false → is_other s.wanted b ≡ false → others < room → (s.turns ≡ true) × (room ≤ such)
  not_asked such others e w few =
      let less : nat_lt others room ≡ true = grind (arith, nat_tests) in
      let x = none_passes (is_other s.wanted b) s.turns (nat_lt such room) (nat_lt others room) e w less in
      let enough : nat_lt such room ≡ false = x.1 in
      (x.0, grind (arith, nat_tests))

  -- parts of which no case is sought
  kept_counted : (fs gs : List Formula) (old new : Kept) (others fresh : ℕ) → IsKept b s text name fs old others → MayCount b s old.count others (count_like b gs) → new.node ≡ old.node → new.count ≡ old.count + count_like b gs → others ≤ fresh → IsKept b s text name (fs ++ gs) new fresh
  kept_counted fs gs old new others fresh h may node count grown = record {
    cases = h.cases;
    over = subst (IsOver b text name h.cases) (sym node) h.over;
    shown = shown_more (kind_of s.turns) _ b 0 fs gs h.cases h.shown;
    counted = let c = h.counted in let j = count_joined b fs gs in omega (arith, c, j, count);
    barely = λ t. let m = may.barely t in omega (arith, m, count);
    all = λ w few.
        let known = h.all w (omega (arith, few, grown)) in
        ⊎_elim
        (λ none. ⊎_elim (λ same. inl (omega (arith, same, count, none))) (λ plenty. inr plenty) known)
        (λ unsought.
        let x = not_asked old.count others unsought w (omega (arith, few, grown)) in
        inr (x.0, ⊎_elim (λ same. let full = x.1 in omega (arith, same, full)) (λ plenty. plenty.1) known))
        may.unsought;
  }

  -- a part with the other truth
  pub kept_passed : (fs : List Formula) (f : Formula) (kept : Kept) (others fresh : ℕ) → IsKept b s text name fs kept others → truth f ≡ not b → fresh ≡ suc others → IsKept b s text name (fs ++ f ∷ []) kept fresh
  kept_passed fs f kept others fresh h is grown =
      let none = none_like (truth f) b is in
      kept_counted fs (f ∷ []) kept kept others fresh h (record { unsought = inl (omega (arith, none)); barely = λ t. let m = h.barely t in omega (arith, m, none) }) refl (omega (arith, none)) (omega (arith, grown))

  so_asked : (such others : ℕ) → asks_for b s such others ≡ true → (is_other s.wanted b ≡ false) × (s.turns ≡ true → (such < room) × (others < room))
  so_asked such others e =
      let x = all_pass (is_other s.wanted b) s.turns (nat_lt such room) (nat_lt others room) e in
      (x.0, λ t. let few : nat_lt such room ≡ true = (x.1 t).0 in let less : nat_lt others room ≡ true = (x.1 t).1 in (grind (arith, nat_tests), grind (arith, nat_tests)))

  -- a part with the truth, of which a case was told where it was asked for
  pub kept_more : (fs : List Formula) (f : Formula) (index : ℕ) (old new : Kept) (others : ℕ) (found : Found) → IsKept b s text name fs old others → truth f ≡ b → index ≡ length fs → ((c : Tree CaseNode) → found ≡ Some c → ExplainsBy (kind_of s.turns) f c) → IsToldIf (asks_for b s old.count others) found → (IsDecided b s old.count → ⊥) → (IsDecided (not b) s others → ⊥) → new.count ≡ suc old.count → IsNodeWith b text name old.node (option_map (numbered (tells_numbers (kind_of s.turns) b s.least s.number) index) found) new.node → IsKept b s text name (fs ++ f ∷ []) new others
  kept_more fs f index old new others found h is at of_case told open_such open_others count node =
      more found (asks_for b s old.count others) refl told node of_case
    where
      counts : new.count ≡ count_like b (fs ++ f ∷ [])
      counts = let e = count_with b fs f is in let c = h.counted in omega (arith, count, e, c)

      few : s.turns ≡ false → new.count ≤ enough_of b s.least s.number
      few t = let l = few_such b s old.count open_such t in omega (arith, l, count)

      more : (found : Found) (asks : Bool) → asks_for b s old.count others ≡ asks → IsToldIf asks found → IsNodeWith b text name old.node (option_map (numbered (tells_numbers (kind_of s.turns) b s.least s.number) index) found) new.node → ((c : Tree CaseNode) → found ≡ Some c → ExplainsBy (kind_of s.turns) f c) → IsKept b s text name (fs ++ f ∷ []) new others
      more None true e told node of_case = absurd told
      more (Some c) false e told node of_case = absurd told
      more None false e told node of_case =
          let one = one_like (truth f) b is in
          kept_counted fs (f ∷ []) old new others others h (record { unsought = inr e; barely = λ t. let m = few t in omega (arith, m, count, one) }) node (omega (arith, count, one)) (omega arith)
      more (Some c) true e told node of_case =
          let tells = tells_numbers (kind_of s.turns) b s.least s.number in
          let d : Tree CaseNode = numbered tells index c in
          let a = so_asked old.count others e in
          let less : others < room = ⊎_elim (λ t. (a.1 t).1) (λ t. few_such (not b) s others open_others t) (either_way s.turns) in
          let short = shown_short (kind_of s.turns) tells b 0 fs h.cases h.shown in
          let same : length h.cases ≡ old.count = ⊎_elim (λ same. same) (λ plenty. absurd (let l = (a.1 plenty.0).0 in let c = h.counted in let m = plenty.1 in omega (arith, short, l, c, m))) (h.all a.0 less) in
          let x = next_node b text name old.node d new.node node in
          let longer = length-append h.cases (d ∷ []) in
          record {
            cases = h.cases ++ d ∷ [];
            over = subst (IsOver b text name (h.cases ++ d ∷ [])) (sym x.1) (over_next b text name h.cases old.node d x.0 h.over x.2);
            shown = shown_next (kind_of s.turns) tells b 0 index fs f h.cases c (same ∙ h.counted) h.shown is (omega (arith, at)) (of_case c refl);
            counted = counts;
            barely = few;
            all = λ w less. inl (omega (arith, longer, same, count));
          }

-- ---- one part more

module _ (text : Entry) (name : List ℕ) (t : Tally) (may : IsOpen t) (asked : Option Bool) (found : Found) (as_asked : IsAsked (asked_by (asks_for true t.sought t.held.count t.failed.count) (asks_for false t.sought t.failed.count t.held.count)) asked found) (told : is_absent asked found ≡ false) where
  case_of : (fs : List Formula) (f : Formula) → IsFoundBy (kind_of t.sought.turns) (IsExactly f) asked found → (c : Tree CaseNode) → found ≡ Some c → ExplainsBy (kind_of t.sought.turns) f c
  case_of fs f x c is = (case_found (kind_of t.sought.turns) asked c (subst (IsFoundBy (kind_of t.sought.turns) (IsExactly f) asked) is x)).explains f (record { is = refl })

  few_counted : (b : Bool) (fs : List Formula) (count seen : ℕ) → count ≡ count_like b fs → t.seen ≡ length fs → seen ≡ suc t.seen → seen < 2 ^ 64 → count + 1 < 2 ^ 64
  few_counted b fs count seen e l next fits = let s = count_both b fs in omega (arith, s, e, l, next, fits)

  pub takes_held : (held : Kept) (seen : ℕ) → shown_verdict asked found ≡ true → seen ≡ suc t.seen → seen < 2 ^ 64 → (t.held.count + 1 < 2 ^ 64 → held.count ≡ suc t.held.count)
      → IsNodeWith true text name t.held.node (option_map (numbered (tells_numbers (kind_of t.sought.turns) true t.sought.least t.sought.number) t.seen) found) held.node → Takes text name asked found t (record t { seen = seen; held = held })
  takes_held held seen v next fits count node fs f h x =
      let is : truth f ≡ true = told_truth (kind_of t.sought.turns) f asked found x ∙ v in
      let grown = count (few_counted true fs t.held.count seen h.held.counted h.seen next fits) in
      record {
        present = h.present;
        seen = let l = length-append fs (f ∷ []) in let e = h.seen in omega (arith, l, e, next);
        held = kept_more true t.sought text name fs f t.seen t.held held t.failed.count found h.held is h.seen (case_of fs f x) (told_if true _ _ asked found as_asked told v) may.held may.failed grown node;
        failed = kept_passed false t.sought text name fs f t.failed t.held.count held.count h.failed is grown;
      }

  pub takes_failed : (failed : Kept) (seen : ℕ) → shown_verdict asked found ≡ false → seen ≡ suc t.seen → seen < 2 ^ 64 → (t.failed.count + 1 < 2 ^ 64 → failed.count ≡ suc t.failed.count)
      → IsNodeWith false text name t.failed.node (option_map (numbered (tells_numbers (kind_of t.sought.turns) false t.sought.least t.sought.number) t.seen) found) failed.node → Takes text name asked found t (record t { seen = seen; failed = failed })
  takes_failed failed seen v next fits count node fs f h x =
      let is : truth f ≡ false = told_truth (kind_of t.sought.turns) f asked found x ∙ v in
      let grown = count (few_counted false fs t.failed.count seen h.failed.counted h.seen next fits) in
      record {
        present = h.present;
        seen = let l = length-append fs (f ∷ []) in let e = h.seen in omega (arith, l, e, next);
        held = kept_passed true t.sought text name fs f t.held t.failed.count failed.count h.held is grown;
        failed = kept_more false t.sought text name fs f t.seen t.failed failed t.held.count found h.failed is h.seen (case_of fs f x) (told_if false _ _ asked found as_asked told v) may.failed may.held grown node;
      }

-- ---- parts that told no case

pub counts_more : (text : Entry) (name : List ℕ) (t : Tally) (held failed : Kept) (seen h f : ℕ) → MayCount true t.sought t.held.count t.failed.count h → MayCount false t.sought t.failed.count t.held.count f → seen ≡ t.seen + (h + f) → seen < 2 ^ 64
    → held.node ≡ t.held.node → failed.node ≡ t.failed.node → (t.held.count + h < 2 ^ 64 → held.count ≡ t.held.count + h) → (t.failed.count + f < 2 ^ 64 → failed.count ≡ t.failed.count + f) → Counts text name h f t (record t { seen = seen; held = held; failed = failed })
counts_more text name t held failed seen h f may_held may_failed next fits held_node failed_node held_is failed_is = λ fs gs k eh ef.
    let all : count_like true fs + count_like false fs ≡ length fs = count_both true fs in
    let more : count_like true gs + count_like false gs ≡ length gs = count_both true gs in
    let c = k.held.counted in
    let d = k.failed.counted in
    let l = k.seen in
    let held_grown = held_is (omega (arith, all, c, l, next, fits)) in
    let failed_grown = failed_is (omega (arith, all, d, l, next, fits)) in
    record {
      present = k.present;
      seen = let m = length-append fs gs in omega (arith, m, more, l, next, eh, ef);
      held = kept_counted true t.sought text name fs gs t.held held t.failed.count failed.count k.held (subst (MayCount true t.sought t.held.count t.failed.count) (sym eh) may_held) held_node (omega (arith, held_grown, eh)) (omega (arith, failed_grown));
      failed = kept_counted false t.sought text name fs gs t.failed failed t.held.count held.count k.failed (subst (MayCount false t.sought t.failed.count t.held.count) (sym ef) may_failed) failed_node (omega (arith, failed_grown, ef)) (omega (arith, held_grown));
    }

-- ---- what the next part is asked behind parts that told no case

some_pass : (x t y z y' z' : Bool) → (not x && (not t || (y && z))) ≡ true → (y ≡ true → y' ≡ true) → (z ≡ true → z' ≡ true) → (not x && (not t || (y' && z'))) ≡ true
some_pass true t y z y' z' e p q = absurd (cc)
some_pass false false y z y' z' e p q = refl
some_pass false true true true y' z' e p q = rw (p refl, q refl) refl
some_pass false true true false y' z' e p q = absurd (cc)
some_pass false true false z y' z' e p q = absurd (cc)

none_pass : (x t y z y' z' : Bool) → (not x && (not t || (y && z))) ≡ false → (y ≡ false → y' ≡ false) → (z ≡ false → z' ≡ false) → (not x && (not t || (y' && z'))) ≡ false
none_pass true t y z y' z' e p q = refl
none_pass false false y z y' z' e p q = absurd (cc)
none_pass false true true true y' z' e p q = absurd (cc)
none_pass false true true false true z' e p q = q refl
none_pass false true true false false z' e p q = refl
none_pass false true false z y' z' e p q = rw (p refl) refl

module _ (b : Bool) (s : Sought) (text : Entry) (name : List ℕ) where
  -- the next is asked for a case of the truth as before
  still_same : (such others more further such' others' : ℕ) → enough_of (not b) s.least s.number < 2 ^ 64 → such' ≡ min (such + more) (2 ^ 64 - 1) → others' ≡ min (others + further) (2 ^ 64 - 1) → (more ≡ 0) ⊎ (asks_for b s such others ≡ false) → (others < enough_of (not b) s.least s.number → others + further < enough_of (not b) s.least s.number) → asks_for b s such' others' ≡ asks_for b s such others
  still_same such others more further such' others' fits es eo unsought few = ⊎_elim
      (λ yes. some_pass (is_other s.wanted b) s.turns (nat_lt such room') (nat_lt others room') (nat_lt such' room') (nat_lt others' room') yes
      (λ l. let less : such < room' = grind (arith, nat_tests) in let none : more ≡ 0 = ⊎_elim (λ n. n) (λ e. absurd (cc)) unsought in let still : such' < room' = omega (arith, less, none, es) in grind (arith, nat_tests))
      (λ l. let less : others < room' = grind (arith, nat_tests) in let still : others' < room' = let m = few less in omega (arith, m, eo) in grind (arith, nat_tests)) ∙ sym yes)
      (λ no. none_pass (is_other s.wanted b) s.turns (nat_lt such room') (nat_lt others room') (nat_lt such' room') (nat_lt others' room') no
      (λ l. let full : room' ≤ such = grind (arith, nat_tests) in let still : room' ≤ such' = omega (arith, full, fits, es) in grind (arith, nat_tests))
      (λ l. let full : room' ≤ others = grind (arith, nat_tests) in let still : room' ≤ others' = omega (arith, full, fits, eo) in grind (arith, nat_tests)) ∙ sym no)
      (either_way (asks_for b s such others))
    where
      room' : ℕ
      room' = enough_of (not b) s.least s.number

unsought_for : (b x y : Bool) (a : Option (Option Bool)) → asked_by x y ≡ a → IsUnsought b a → cond b x y ≡ false
unsought_for true true true a e u = absurd (⊎_elim (λ n. cc) (λ o. cc) u)
unsought_for true true false a e u = absurd (⊎_elim (λ n. cc) (λ o. cc) u)
unsought_for true false y a e u = refl
unsought_for false true true a e u = absurd (⊎_elim (λ n. cc) (λ o. cc) u)
unsought_for false false true a e u = absurd (⊎_elim (λ n. cc) (λ o. cc) u)
unsought_for false x false a e u = refl

-- a tally, and the same with so many more parts
module _ (text : Entry) (name : List ℕ) (t : Tally) (may : IsOpen t) (spare passed : Verdicts) (spare_held : IsSpare true t.sought t.held.count spare.held) (spare_failed : IsSpare false t.sought t.failed.count spare.failed) (few_held : passed.held ≤ spare.held) (few_failed : passed.failed ≤ spare.failed) (asked : Option (Option Bool)) (asks_is : asked_by (asks_for true t.sought t.held.count t.failed.count) (asks_for false t.sought t.failed.count t.held.count) ≡ asked) (held_unsought : (passed.held ≡ 0) ⊎ IsUnsought true asked) (failed_unsought : (passed.failed ≡ 0) ⊎ IsUnsought false asked) where
  no_held : (passed.held ≡ 0) ⊎ (asks_for true t.sought t.held.count t.failed.count ≡ false)
  no_held = ⊎_elim (λ none. inl none) (λ u. inr (unsought_for true _ _ asked asks_is u)) held_unsought

  no_failed : (passed.failed ≡ 0) ⊎ (asks_for false t.sought t.failed.count t.held.count ≡ false)
  no_failed = ⊎_elim (λ none. inl none) (λ u. inr (unsought_for false _ _ asked asks_is u)) failed_unsought

  module _ (new : Tally) (fits : t.sought.number < 2 ^ 64) (sought : new.sought ≡ t.sought) (absent : new.absent ≡ t.absent) (next : new.seen < t.sought.number) (held : new.held.count ≡ min (t.held.count + passed.held) (2 ^ 64 - 1)) (failed : new.failed.count ≡ min (t.failed.count + passed.failed) (2 ^ 64 - 1)) where
    pub still_asks : asked_by (asks_for true new.sought new.held.count new.failed.count) (asks_for false new.sought new.failed.count new.held.count) ≡ asked
    still_asks =
        let some = may.some in
        let within = may.within in
        let x = still_same true t.sought text name t.held.count t.failed.count passed.held passed.failed new.held.count new.failed.count (omega (arith, some, within, fits)) held failed no_held (λ less. let l = spare_failed less in omega (arith, l, few_failed)) in
        let y = still_same false t.sought text name t.failed.count t.held.count passed.failed passed.held new.failed.count new.held.count (omega (arith, some, within, fits)) failed held no_failed (λ less. let l = spare_held less in omega (arith, l, few_held)) in
        ap (λ s. asked_by (asks_for true s new.held.count new.failed.count) (asks_for false s new.failed.count new.held.count)) sought ∙ (λ i. asked_by (x i) (y i)) ∙ asks_is
