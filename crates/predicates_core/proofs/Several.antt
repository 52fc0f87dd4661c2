-- Several members, each with a formula of its own.
use Rattle.std.proofs.Common.{◌≡◌, ℕ, zero, suc, List, [], ◌∷◌, ◌++◌, length, get_or, ◌<◌, refl, sym, ap, ◌∙◌, subst, arith}
use Rattle.std.specs.List.{AllByRecursion}
use Rattle.predicates_core.specs.Formula.{Formula, Formulas, one, more}
use Rattle.predicates_core.specs.Tree.{Tree, branch, forest, add_last}
use Rattle.predicates_core.specs.Describe.{CaseNode, NamedCase}
use Rattle.predicates_core.specs.Several.{AreOfEach, formulas_of}

-- a case behind others is the last child
pub forest-add_last : (cs : List NamedCase) (name : List ℕ) (c : Tree CaseNode) → add_last (forest cs) name c ≡ forest (cs ++ (name, c) ∷ [])
forest-add_last [] name c = refl
forest-add_last (d ∷ cs) name c = ap (branch d.0 d.1.root d.1.children) (forest-add_last cs name c)

module _ {U : Type 0} (name : List ℕ) (has : U → Formula → Type 0) where
  -- each of the members has a formula, where the node has one
  pub formula_at : (us : List U) (k : ℕ) (u : U) (fs : Formulas) → k < length us → u ≡ get_or us k u → AreOfEach name has us fs → (f : Formula) × has u f
  formula_at [] k u fs within is of = absurd of
  formula_at (v ∷ us) zero u (one n f) within is of = (f, subst (λ z. has z f) (sym is) of.1)
  formula_at (v ∷ us) zero u (more n f fs) within is of = (f, subst (λ z. has z f) (sym is) of.1)
  formula_at (v ∷ us) (suc k) u (one n f) within is of = absurd (omega (arith, within, ap length of.2))
  formula_at (v ∷ us) (suc k) u (more n f fs) within is of = formula_at us k u fs (omega (arith, within)) is of.2

-- what holds of every member holds of each in a list, and what follows from that
pub each_holds : {U : Type 0} {P : U → Type 0} (us : List U) → ((u : U) → P u) → AllByRecursion P us
each_holds [] all = tt
each_holds (u ∷ us) all = (all u, each_holds us all)

pub each_weaker : {U : Type 0} (P Q : U → Type 0) (us : List U) → ((u : U) → P u → Q u) → AllByRecursion P us → AllByRecursion Q us
each_weaker P Q [] weaker h = tt
each_weaker P Q (u ∷ us) weaker h = (weaker u h.0, each_weaker P Q us weaker h.1)

module _ {U : Type 0} (name : List ℕ) (has : U → Formula → Type 0) where
  no_member : (vs : List U) (gs : Formulas) → vs ≡ [] → AreOfEach name has vs gs → ⊥
  no_member [] gs e k = k
  no_member (v ∷ vs) gs e k = cc

  -- the member has at most one formula
  abbrev pub HasOne : U → Type 0
  HasOne u = (x y : Formula) → has u x → has u y → x ≡ y

  pub one_of_each : (us : List U) (fs gs : Formulas) → AllByRecursion HasOne us → AreOfEach name has us fs → AreOfEach name has us gs → fs ≡ gs
  one_of_each [] fs gs one_of h k = absurd h
  one_of_each (u ∷ us) (one n f) (one m g) one_of h k = λ i. one ((h.0 ∙ sym k.0) i) (one_of.0 f g h.1 k.1 i)
  one_of_each (u ∷ us) (one n f) (more m g gs) one_of h k = absurd (no_member us gs h.2 k.2)
  one_of_each (u ∷ us) (more n f fs) (one m g) one_of h k = absurd (no_member us fs k.2 h.2)
  one_of_each (u ∷ us) (more n f fs) (more m g gs) one_of h k = λ i. more ((h.0 ∙ sym k.0) i) (one_of.0 f g h.1 k.1 i) (one_of_each us fs gs one_of.1 h.2 k.2 i)

  pub are_formulas : (g : U → Formula) (u : U) (us : List U) → ((v : U) → has v (g v)) → AreOfEach name has (u ∷ us) (formulas_of name g u us)
  are_formulas g u [] had = (refl, had u, refl)
  are_formulas g u (v ∷ us) had = (refl, had u, are_formulas g v us had)
