-- What is found of two parts that are asked in turn.
use Rattle.std.proofs.Common.{◌≡◌, ℕ, ◌+◌, ◌-◌, List, [], ◌++◌, Bool, true, false, suc, refl, sym, ap, arith, subst, ◌∙◌, codes, inl, inr, Option, Some, None, cond}
use Rattle.std.specs.Prelude.{not, ◌&&◌, ◌||◌}
use mathlib.Core.Bool.{beq}
use Rattle.predicates_core.specs.Label.{Label, Fits, plain}
use Rattle.predicates_core.specs.declared.custom.join.Operator.{Operator}
use Rattle.predicates_core.specs.declared.custom.join.Operator.TheVariants.{And, Or, Xor}
use Rattle.predicates_core.specs.Formula.{Formula, Formulas, one, more, AtLeast, apply, pair, one_if, needed, enough_of, size, truth, differ, HasTruth}
use Rattle.predicates_core.specs.Kinds.{Kind, reasons, changes, First}
use Rattle.predicates_core.specs.Asked.{asks, keeps, left_wanted, right_wanted, shown_verdict, is_other, IsFoundIf, IsAnswerIf}
use Rattle.predicates_core.specs.Turning.{turns_right, IsRightChange}
use Rattle.predicates_core.proofs.Numbers.{shifted, no_numbers}
use Rattle.predicates_core.proofs.BothKinds.{Carries, carried_truth, same_first, first_numbers}
use Rattle.predicates_core.proofs.Selection.{IsSelected}
use Rattle.predicates_core.proofs.Thresholds.{is_like, many_like}
use Rattle.predicates_core.proofs.FirstOf.{quota, first_of_threshold, and_carries, or_carries, one_carries, first_of_odd, one_list}
use Rattle.predicates_core.proofs.Values.{truth-pair}
use Rattle.predicates_core.specs.Reason.{AreIncreasing}
use Rattle.predicates_core.specs.Tree.{Tree, Forest, empty, branch, forest}
use Rattle.predicates_core.specs.Describe.{CaseNode}
use Rattle.predicates_core.specs.Shows.{ShowsPart, ShowsNumbered, Shows, ShowsParts, ExplainsBy, IsCaseBy, IsFoundBy, IsFound, IsNode, found_parts}
use Rattle.predicates_core.specs.Change.{IsFoundChange}
use Rattle.predicates_core.specs.Combined.{IsPair}
use Rattle.predicates_core.proofs.Shown.{IsNonempty, not_empty, shows_part, shows_all}
use Rattle.predicates_core.proofs.CombinedLemmas.{HasTruth-pair, HasTruth-left, node_fits, node_of_text}
use Rattle.predicates_core.proofs.Found.{Found, no_formula, truth_of_none, truth_found, case_found, other_wanted, case_wanted}

-- ---- the first leaves of two parts that are joined, from those of the parts

abbrev pub both : Formula → Formula → Formulas
both l r = more (codes "left") l (one (codes "right") r)

-- whether the right part belongs to the first leaves of the whole where the parts have these truths
abbrev pub right_counts : Kind → Operator → Bool → Bool → Bool
right_counts reasons op a b = asks op a
right_counts changes op a b = turns_right op b

abbrev pub kept : Bool → List ℕ → List ℕ
kept true S = S
kept false S = []

module _ (q : Kind) (such : Formula → Bool) (l r : Formula) (S T : List ℕ) (s : First q l S) (t : First q r T) where
  selected_two : (x y : Bool) → such l ≡ x → (y ≡ true → such r ≡ true) → IsSelected q such (one_if x + one_if y) (both l r) (kept x S ++ shifted (size l) (kept y T))
  selected_two true true e f = (S, T, refl, inl (e, s, (f refl, t, refl)))
  selected_two true false e f = (S, [], refl, inl (e, s, refl))
  selected_two false true e f = ([], T, refl, inr (e, refl, (f refl, t, refl)))
  selected_two false false e f = refl

-- how many of two parts belong to it, where m have the truth of the whole
abbrev quota_of_two : Kind → Bool → ℕ → ℕ → ℕ
quota_of_two reasons h k m = enough_of h k 2
quota_of_two changes h k m = suc m - enough_of h k 2

-- a part belongs to it only if it has the truth of the whole
record IsRow (q : Kind) (op : Operator) (k : ℕ) (a b h : Bool) : Type 0 where
  pub left : beq a h ≡ keeps op a b
  pub right : right_counts q op a b ≡ true → beq b h ≡ true
  pub number : quota_of_two q h k (one_if (beq a h) + one_if (beq b h)) ≡ one_if (keeps op a b) + one_if (right_counts q op a b)

row_of_and : (q : Kind) (a b : Bool) → IsRow q And 2 a b (a && b)
row_of_and reasons a b = record { left = grind arith; right = λ e. grind arith; number = grind arith }
row_of_and changes a b = record { left = grind arith; right = λ e. grind arith; number = grind arith }

row_of_or : (q : Kind) (a b : Bool) → IsRow q Or 1 a b (a || b)
row_of_or reasons a b = record { left = grind arith; right = λ e. grind arith; number = grind arith }
row_of_or changes a b = record { left = grind arith; right = λ e. grind arith; number = grind arith }

module _ (q : Kind) (label : Label) (l r : Formula) (S T : List ℕ) (s : First q l S) (t : First q r T) where
  abbrev FirstOfPair : Operator → Type 0
  FirstOfPair op = First q (pair op label l r) (kept (keeps op (truth l) (truth r)) S ++ shifted (size l) (kept (right_counts q op (truth l) (truth r)) T))

  quota_is : (h : Bool) (k : ℕ) → needed k (both l r) ≡ k → quota q h k (both l r) ≡ quota_of_two q h k (one_if (beq (truth l) h) + one_if (beq (truth r) h))
  quota_is h k e = by_kind q
    where
      by_kind : (q : Kind) → quota q h k (both l r) ≡ quota_of_two q h k (one_if (beq (truth l) h) + one_if (beq (truth r) h))
      by_kind reasons = ap (λ z. enough_of h z 2) e
      by_kind changes = cc (many_like h (both l r))

  by_threshold : (op : Operator) (k : ℕ) → needed k (both l r) ≡ k → Carries false (AtLeast k label (both l r)) (pair op label l r) → IsRow q op k (truth l) (truth r) (apply op (truth l) (truth r)) → FirstOfPair op
  by_threshold op k e c row =
      let h = apply op (truth l) (truth r) in
      let leaves = kept (keeps op (truth l) (truth r)) S ++ shifted (size l) (kept (right_counts q op (truth l) (truth r)) T) in
      same_first q c leaves (first_of_threshold h k label (both l r) (sym (carried_truth c) ∙ truth-pair op label l r) q leaves
      (subst (λ m. IsSelected q (is_like h) m (both l r) leaves) (sym (quota_is h k e ∙ row.number)) (selected_two q (is_like h) l r S T s t (keeps op (truth l) (truth r)) (right_counts q op (truth l) (truth r)) row.left row.right)))

  -- each part that belongs to it by its own first leaves
  pub first_of_pair : (op : Operator) → FirstOfPair op
  first_of_pair And = by_threshold And 2 refl (and_carries label (both l r)) (row_of_and q (truth l) (truth r))
  first_of_pair Or = by_threshold Or 1 refl (or_carries label (both l r)) (row_of_or q (truth l) (truth r))
  first_of_pair Xor = by_kind q s t
    where
      by_kind : (q : Kind) → First q l S → First q r T → First q (pair Xor label l r) (S ++ shifted (size l) (kept (right_counts q Xor (truth l) (truth r)) T))
      by_kind reasons s t = first_of_odd label (codes "left") l (one (codes "right") r) reasons S T s (same_first reasons (one_carries Xor label (codes "right") r) T t)
      by_kind changes s t = first_of_odd label (codes "left") l (one (codes "right") r) changes S T s (same_first changes (one_carries Xor label (codes "right") r) T t)

-- the part has the truth, where it was asked for it
abbrev IsTruthIf : Bool → (Formula → Type 0) → Bool → Type 0
IsTruthIf true F b = HasTruth F b
IsTruthIf false F b = Unit {0}

-- the right part has the truth, which its reason tells only where it was asked for
abbrev IsTruthOfRight : Kind → Operator → Bool → (Formula → Type 0) → Bool → Type 0
IsTruthOfRight reasons op a F b = IsTruthIf (asks op a) F b
IsTruthOfRight changes op a F b = HasTruth F b

truth_where_counted : (q : Kind) (op : Operator) (a : Bool) (F : Formula → Type 0) (b : Bool) → IsTruthOfRight q op a F b → right_counts q op a b ≡ true → HasTruth F b
truth_where_counted reasons op a F b h e = subst (λ z. IsTruthIf z F b) e h
truth_where_counted changes op a F b h e = h

same_parts : (q : Kind) (op : Operator) (a : Bool) (F : Formula → Type 0) (b : Bool) → IsTruthOfRight q op a F b → (f : Formula) → F f → (keeps op a (truth f) ≡ keeps op a b) × (right_counts q op a (truth f) ≡ right_counts q op a b)
same_parts reasons And true F b h f of = (ap (keeps And true) (h.at f of), refl)
same_parts reasons And false F b h f of = (refl, refl)
same_parts reasons Or true F b h f of = (refl, refl)
same_parts reasons Or false F b h f of = (ap (keeps Or false) (h.at f of), refl)
same_parts reasons Xor a F b h f of = (refl, refl)
same_parts changes op a F b h f of = (ap (keeps op a) (h.at f of), ap (turns_right op) (h.at f of))

-- ---- the case of two parts

module _ (q : Kind) where
  -- the part's case, where it belongs to that of the whole
  abbrev IsKept : Bool → Formula → Found → List ℕ → Type 0
  IsKept true f (Some c) S = IsNonempty S × Shows q f c S
  IsKept true f None S = ⊥
  IsKept false f (Some c) S = ⊥
  IsKept false f None S = Unit {0}

  -- the children with the part's case before them, if there is one
  abbrev before : List ℕ → Found → Forest CaseNode → Forest CaseNode
  before name (Some c) rest = branch name c.root c.children rest
  before name None rest = rest

  part_shown : (name : List ℕ) (k : ℕ) (keep : Bool) (f : Formula) (found : Found) (S : List ℕ) (rest : Forest CaseNode) → IsKept keep f found S → ShowsPart (ShowsNumbered false k (Shows q f)) name (kept keep S) (before name found rest) rest
  part_shown name k true f (Some c) S rest h = shows_part (ShowsNumbered false k (Shows q f)) name rest S c h.0 (c, refl, h.1)
  part_shown name k true f None S rest h = absurd h
  part_shown name k false f (Some c) S rest h = absurd h
  part_shown name k false f None S rest h = refl

  kept_numbers : (keep : Bool) (f : Formula) (S : List ℕ) → First q f S → AreIncreasing 0 (size f) (kept keep S)
  kept_numbers true f S h = first_numbers q f S h
  kept_numbers false f S h = no_numbers (size f)

  children_of : (c d : Found) → before (codes "left") c (before (codes "right") d empty) ≡ forest (found_parts c d)
  children_of None None = refl
  children_of None (Some d) = refl
  children_of (Some c) None = refl
  children_of (Some c) (Some d) = refl

  -- the part's first leaves, which its case shows where that belongs to the whole's
  side : (F : Formula → Type 0) {a : Bool} (keep : Bool) (found : Found) → (keep ≡ true → HasTruth F a) → IsAnswerIf q keep F a found → (f : Formula) → F f → (S : List ℕ) × First q f S × IsKept keep f found S
  side F true (Some c) has x f of = let e = x.explains f of in (e.leaves, e.first, (not_empty q f e.leaves e.first, e.shown))
  side F true None has x f of = absurd (no_formula (has refl) x f of)
  side F false (Some c) has x f of = absurd (cc)
  side F false None has x f of = let e = one_list q f in (e.0, e.1, tt)

  module _ (op : Operator) (c d : Found) {text : Option (List ℕ)} {e : Bool} {t : Tree CaseNode} where
    explains_pair : (l r : Formula) (S T : List ℕ) → First q l S → First q r T → IsKept (keeps op (truth l) (truth r)) l c S → IsKept (right_counts q op (truth l) (truth r)) r d T → truth (pair op (plain text) l r) ≡ e → IsNode text e (found_parts c d) t → ExplainsBy q (pair op (plain text) l r) t
    unfolding Shows
    explains_pair l r S T s g x y is node =
        let keep = keeps op (truth l) (truth r) in
        let counts = right_counts q op (truth l) (truth r) in
        let right = before (codes "right") d empty in
        let leaves = kept keep S ++ shifted (size l) (kept counts T) in
        let shown : ShowsParts q false 0 (both l r) (before (codes "left") c right) leaves =
        shows_all (ShowsNumbered false 0 (Shows q l)) (codes "left") (ShowsParts q false 1 (one (codes "right") r)) (size l) (kept keep S) (kept counts T) (kept_numbers keep l S s) (before (codes "left") c right) right
        (part_shown (codes "left") 0 keep l c S right x) (part_shown (codes "right") 1 counts r d T empty y) in
        record {
          leaves = leaves;
          first = first_of_pair q (plain text) l r S T s g op;
          shown = (node_fits text e _ _ t node is, subst (λ ch. ShowsParts q false 0 (both l r) ch leaves) (children_of c d ∙ sym node.children) shown);
        }

  module _ (op : Operator) (a b : Bool) (c d : Found) {text : Option (List ℕ)} {left right : Formula → Type 0} {e : Bool} {t : Tree CaseNode} {bytes : List ℕ} where
    -- the node over the cases of the parts that belong to it
    pub pair_case : HasTruth (IsPair op text left right) e → HasTruth left a → IsTruthOfRight q op a right b → IsAnswerIf q (keeps op a b) left a c → IsAnswerIf q (right_counts q op a b) right b d → IsNode (Some bytes) e (found_parts c d) t → Fits text bytes → IsCaseBy q (IsPair op text left right) e t
    pair_case whole l r x y written fits = record {
      truth = whole;
      explains = λ f h.
          let s = side left (keeps op a b) c (λ k. l) x h.left_formula h.of_left in
          let g = side right (right_counts q op a b) d (truth_where_counted q op a right b r) y h.right_formula h.of_right in
          let same = same_parts q op a right b r h.right_formula h.of_right in
          let is = l.at h.left_formula h.of_left in
          let keeps_same = ap (λ z. keeps op z (truth h.right_formula)) is ∙ same.0 in
          let counts_same = ap (λ z. right_counts q op z (truth h.right_formula)) is ∙ same.1 in
          subst (λ z. ExplainsBy q z t) (sym h.is) (explains_pair op c d h.left_formula h.right_formula s.0 g.0 s.1 g.1
          (subst (λ k. IsKept k h.left_formula c s.0) (sym keeps_same) s.2) (subst (λ k. IsKept k h.right_formula d g.0) (sym counts_same) g.2) (ap truth (sym h.is) ∙ whole.at f h) (node_of_text written fits));
    }

-- ---- what was found of each

-- the left part has not the truth of the whole
not_left_of_and : (e b : Bool) → differ e (not e && b) ≡ false → (not (not e) || b) ≡ true → ⊥
not_left_of_and e b same kept = grind arith

not_left_of_or : (e b : Bool) → differ e (not e || b) ≡ false → (not e || not b) ≡ true → ⊥
not_left_of_or e b same kept = grind arith

-- the left part's case, where it belongs to that of the whole
left_case : (q : Kind) (F : Formula → Type 0) (op : Operator) (w : Option Bool) (b : Bool) (c : Found) → IsFoundBy q F (left_wanted op w) c → is_other w (apply op (shown_verdict (left_wanted op w) c) b) ≡ false → keeps op (shown_verdict (left_wanted op w) c) b ≡ true → IsAnswerIf q true F (shown_verdict (left_wanted op w) c) c
left_case q F op w b (Some t) x same kept = case_found q (left_wanted op w) t x
left_case q F And None b None x same kept = truth_of_none x
left_case q F Or None b None x same kept = truth_of_none x
left_case q F Xor w b None x same kept = truth_of_none x
left_case q F And (Some e) b None x same kept = absurd (not_left_of_and e b same kept)
left_case q F Or (Some e) b None x same kept = absurd (not_left_of_or e b same kept)

-- and so the right one, where it was asked
not_right_of_and : (e a : Bool) → differ e (a && not e) ≡ false → a ≡ true → ⊥
not_right_of_and e a same asked = grind arith

not_right_of_or : (e a : Bool) → differ e (a || not e) ≡ false → not a ≡ true → ⊥
not_right_of_or e a same asked = grind arith

not_right_of_xor : (e a : Bool) → differ e (differ a (not (differ e a))) ≡ false → ⊥
not_right_of_xor e a same = grind arith

-- the right part's case, where it was asked
right_case : (F : Formula → Type 0) (op : Operator) (w : Option Bool) (a : Bool) (d : Found) → IsFound F (right_wanted op a w) d → is_other w (apply op a (shown_verdict (right_wanted op a w) d)) ≡ false → asks op a ≡ true → IsAnswerIf reasons true F (shown_verdict (right_wanted op a w) d) d
right_case F op w a (Some t) x same asked = case_found reasons (right_wanted op a w) t x
right_case F And None a None x same asked = truth_of_none x
right_case F Or None a None x same asked = truth_of_none x
right_case F Xor None a None x same asked = truth_of_none x
right_case F And (Some e) a None x same asked = absurd (not_right_of_and e a same asked)
right_case F Or (Some e) a None x same asked = absurd (not_right_of_or e a same asked)
right_case F Xor (Some e) a None x same asked = absurd (not_right_of_xor e a same)

module _ {text : Option (List ℕ)} {left right : Formula → Type 0} where
  truth_in_turn : (op : Operator) (a b : Bool) → HasTruth left a → IsTruthIf (asks op a) right b → HasTruth (IsPair op text left right) (apply op a b)
  truth_in_turn And true b l r = HasTruth-pair And l r
  truth_in_turn And false b l r = HasTruth-left And l refl (λ y. refl)
  truth_in_turn Or true b l r = HasTruth-left Or l refl (λ y. refl)
  truth_in_turn Or false b l r = HasTruth-pair Or l r
  truth_in_turn Xor a b l r = HasTruth-pair Xor l r

truth_asked : (F : Formula → Type 0) (asked : Bool) (w : Option Bool) (d : Found) → IsFoundIf asked F w d → IsTruthIf asked F (shown_verdict w d)
truth_asked F true w d x = truth_found reasons w d x
truth_asked F false w d x = tt

left_kept : (q : Kind) (F : Formula → Type 0) (op : Operator) (w : Option Bool) (b keep : Bool) (c : Found) {of_left : Option Bool} {a h : Bool} → of_left ≡ left_wanted op w → IsFoundBy q F of_left c → a ≡ shown_verdict of_left c → is_other w h ≡ false → h ≡ apply op a b → keep ≡ keeps op a b → IsAnswerIf q keep F a (cond keep c None)
left_kept q F op w b true c lw x la same is k =
    rw (la, lw) (left_case q F op w b c (rw (← lw) x) (rw (← lw, ← la, ← is) same) (rw (← lw, ← la) (sym k)))
left_kept q F op w b false c lw x la same is k = refl

right_asked : (F : Formula → Type 0) (op : Operator) (w : Option Bool) (a asked : Bool) (d : Found) {of_right : Option Bool} {b h : Bool} → of_right ≡ right_wanted op a w → IsFoundIf asked F of_right d → b ≡ shown_verdict of_right d → is_other w h ≡ false → h ≡ apply op a b → asked ≡ asks op a → IsAnswerIf reasons asked F b d
right_asked F op w a true d rw_ y ra same is s =
    rw (ra, rw_) (right_case F op w a d (rw (← rw_) y) (rw (← rw_, ← ra, ← is) same) (sym s))
right_asked F op w a false d rw_ y ra same is s = y

module _ (op : Operator) (w : Option Bool) (c d : Found) (text : Option (List ℕ)) (left right : Formula → Type 0) {of_left of_right : Option Bool} {a b asked h : Bool} where
  -- another truth is wanted than the whole has
  pub none_in_turn : of_left ≡ left_wanted op w → IsFound left of_left c → a ≡ shown_verdict of_left c → asked ≡ asks op a → of_right ≡ right_wanted op a w → IsFoundIf asked right of_right d → b ≡ shown_verdict of_right d → h ≡ apply op a b → is_other w h ≡ true → IsFound (IsPair op text left right) w None
  none_in_turn lw x la s rw_ y ra is other =
      let l : HasTruth left a = rw la (truth_found reasons of_left c x) in
      let r : IsTruthIf (asks op a) right b = rw (← s, ra) (truth_asked right asked of_right d y) in
      other_wanted reasons w (rw is (truth_in_turn op a b l r)) other

  -- the case of the whole, where its truth is wanted
  pub case_in_turn : {keep : Bool} (bytes : List ℕ) {t : Tree CaseNode} → of_left ≡ left_wanted op w → IsFound left of_left c → a ≡ shown_verdict of_left c → asked ≡ asks op a → of_right ≡ right_wanted op a w → IsFoundIf asked right of_right d → b ≡ shown_verdict of_right d → h ≡ apply op a b → is_other w h ≡ false
      → keep ≡ keeps op a b → IsNode (Some bytes) h (found_parts (cond keep c None) d) t → Fits text bytes → IsFound (IsPair op text left right) w (Some t)
  case_in_turn {keep} bytes lw x la s rw_ y ra is same k written fits =
      let l : HasTruth left a = rw la (truth_found reasons of_left c x) in
      let r : IsTruthIf (asks op a) right b = rw (← s, ra) (truth_asked right asked of_right d y) in
      let of_c : IsAnswerIf reasons (keeps op a b) left a (cond keep c None) = rw (← k) (left_kept reasons left op w b keep c lw x la same is k) in
      let of_d : IsAnswerIf reasons (asks op a) right b d = rw (← s) (right_asked right op w a asked d rw_ y ra same is s) in
      case_wanted w (pair_case reasons op a b (cond keep c None) d (rw is (truth_in_turn op a b l r)) l r of_c of_d written fits) same

-- what would turn the whole, where the right part's truth is always known
module _ (op : Operator) (w : Option Bool) (c d : Found) (text : Option (List ℕ)) (left right : Formula → Type 0) (of_left : Option Bool) {a b h : Bool} where
  pub no_change_in_turn : IsFoundChange left of_left c → a ≡ shown_verdict of_left c → IsRightChange op right b d → h ≡ apply op a b → is_other w h ≡ true → IsFoundChange (IsPair op text left right) w None
  no_change_in_turn x la y is other =
      let l : HasTruth left a = rw la (truth_found changes of_left c x) in
      other_wanted changes w (rw is (HasTruth-pair op l y.truth)) other

  pub change_in_turn : {keep : Bool} (bytes : List ℕ) {t : Tree CaseNode} → of_left ≡ left_wanted op w → IsFoundChange left of_left c → a ≡ shown_verdict of_left c → IsRightChange op right b d → h ≡ apply op a b → is_other w h ≡ false
      → keep ≡ keeps op a b → IsNode (Some bytes) h (found_parts (cond keep c None) d) t → Fits text bytes → IsFoundChange (IsPair op text left right) w (Some t)
  change_in_turn {keep} bytes lw x la y is same k written fits =
      let l : HasTruth left a = rw la (truth_found changes of_left c x) in
      let of_c : IsAnswerIf changes (keeps op a b) left a (cond keep c None) = rw (← k) (left_kept changes left op w b keep c lw x la same is k) in
      case_wanted w (pair_case changes op a b (cond keep c None) d (rw is (HasTruth-pair op l y.truth)) l y.truth of_c y.change written fits) same

pub truth_of_pair : (op : Operator) (a b : Bool) {left right : Formula → Type 0} → HasTruth left a → HasTruth right b → {h : Bool} → h ≡ apply op a b → (text : Option (List ℕ)) → HasTruth (IsPair op text left right) h
truth_of_pair op a b {left} {right} l r is text = subst (HasTruth (IsPair op text left right)) (sym is) (HasTruth-pair op l r)

pub not_same : (a b : Bool) → not (beq a b) ≡ differ a b
not_same a b = grind arith
