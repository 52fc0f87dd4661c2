-- The laws of a check: its printed text fits its formulas, and it has one where each leaf has.
use Rattle.std.specs.Prelude.{◌≡◌, refl, ℕ, suc, List, [], length, map, codes, Option, Some}
use Rattle.std.specs.Prelude.{None, option_map}
use Rattle.std.proofs.Common.{ap, ◌∙◌, sym, subst}
use Rattle.std.proofs.lemmas.List.{map-id}
use Rattle.predicates_core.specs.Label.{Entry, FitsEntry, Product}
use Rattle.predicates_core.specs.Formula.{Formula, Formulas, one, more, text_of}
use Rattle.predicates_core.specs.Several.{AreOfEach}
use Rattle.predicates_core.proofs.CombinedLemmas.{pair_text_fits, not_text_fits, named_text_fits}
use Rattle.predicates_core.proofs.CombinedLemmas.{one_pair, one_not, one_named}
use Rattle.predicates_core.proofs.CombinedLemmas.{has_pair, has_not, has_named}
use Rattle.predicates_core.proofs.Several.{each_holds, one_of_each}
use Rattle.predicates_tree.specs.Quotas.{IsOfNumber, IsOfQuota, quota_formula}
use Rattle.predicates_tree.specs.QuotaLaws.{number_text_fits, one_by_number, has_quota}
use Rattle.predicates_tree.specs.QuotaLaws.{quota_read}
use Rattle.predicates_tree.specs.Trees.{Tree, Trees, Leaf, Not, Named, Pair, Row, Members}
use Rattle.predicates_tree.specs.Trees.{nothing, also, AllLeaves, AllOfTrees}
use Rattle.predicates_tree.specs.Viewed.{IsViewed, viewed_formula, viewed_text_fits}
use Rattle.predicates_tree.specs.Viewed.{one_viewed, has_viewed}
use Rattle.predicates_tree.specs.Formulas.{tree_text, HasFormula, AreFormulas}
use Rattle.predicates_tree.specs.Formulas.{IsNothing, number_of, tree_formula, tree_formulas}

unread : {Item : Type 0} (held : Option (List Item)) → option_map (map (λ u. u)) held ≡ held
unread None = refl
unread (Some us) = ap Some (map-id us)

-- where a view gives nothing
pub none_read : {U K : Type 0} (read : U → K) {o : Option (List U)} → None ≡ o
    → option_map (map read) o ≡ None
none_read read is = ap (option_map (map read)) (sym is)

-- where an item is read as it is, and a view gives one list
pub members_as_they_are : {V Item : Type 0} (members : V → Item → Option (List Item)) (view : V)
    (v : Item) (o : Option (List Item)) → members view v ≡ o
    → option_map (map (λ u. u)) o ≡ members view v
members_as_they_are members view v o is = unread o ∙ sym is

module _ {L V Item : Type 0} (text : L → Entry) (view_text : V → Entry)
    (has : L → Item → Formula → Type 0) (gives : V → Item → Option (List Item) → Type 0)
    (absence : V → Item → List Product) where
  module _ (fits : (l : L) (v : Item) (f : Formula) → has l v f → FitsEntry (text_of f) (text l))
      (given : (view : V) (v : Item) → (o : Option (List Item)) × gives view v o) where
    pub tree_text_fits : (v : Item) (t : Tree L V) (f : Formula)
        → HasFormula text view_text has gives absence v t f
        → FitsEntry (text_of f) (tree_text text view_text t)
    tree_text_fits v (Leaf l) f h = fits l v f h
    tree_text_fits v (Not w t) f h = not_text_fits h
    tree_text_fits v (Named name t) f h = named_text_fits h
    tree_text_fits v (Pair w op a b) f h = pair_text_fits h
    tree_text_fits v (Row w q ts) f h = number_text_fits q (number_of ts) h
    tree_text_fits v (Members w q view t) f h = viewed_text_fits (given view v).0 (given view v).1
        (λ us g x. number_text_fits q (length us) x.of_number) h

  module _ (lawful : L → Type 0)
      (one_of : (l : L) (v : Item) (f g : Formula) → lawful l → has l v f → has l v g → f ≡ g)
      (given : (view : V) (v : Item) → (o : Option (List Item)) × gives view v o) where
    mutual
      pub one_tree : (v : Item) (t : Tree L V) (f g : Formula) → AllLeaves lawful t
          → HasFormula text view_text has gives absence v t f
          → HasFormula text view_text has gives absence v t g → f ≡ g
      one_tree v (Leaf l) f g all h k = one_of l v f g all h k
      one_tree v (Not w t) f g all h k = one_not (λ x y. one_tree v t x y all) h k
      one_tree v (Named name t) f g all h k = one_named (λ x y. one_tree v t x y all) h k
      one_tree v (Pair w op a b) f g all h k =
          one_pair (λ x y. one_tree v a x y all.0) (λ x y. one_tree v b x y all.1) h k
      one_tree v (Row w q ts) f g all h k = one_by_number q (number_of ts)
          (λ fs gs. one_of_trees w.part v ts fs gs all) h k
      one_tree v (Members w q view t) f g all h k =
          one_viewed (given view v).0 (given view v).1
          (λ us x y m n. one_by_number q (length us)
          (λ fs gs. one_of_each (codes "item")
          (λ u. HasFormula text view_text has gives absence u t) us fs gs
          (each_holds us (λ u z w. one_tree u t z w all))) m.of_number n.of_number) h k

      one_of_trees : (name : List ℕ) (v : Item) (ts : Trees L V) (fs gs : Formulas)
          → AllOfTrees lawful ts
          → AreFormulas text view_text has gives absence name v ts fs
          → AreFormulas text view_text has gives absence name v ts gs → fs ≡ gs
      one_of_trees name v nothing fs gs all h k = absurd h
      one_of_trees name v (also t ts) (one n f) (one m g) all h k =
          λ i. one ((h.0 ∙ sym k.0) i) (one_tree v t f g all.0 h.1 k.1 i)
      one_of_trees name v (also t nothing) (one n f) (more m g gs) all h k = absurd k.2
      one_of_trees name v (also t (also u us)) (one n f) (more m g gs) all h k = absurd h.2
      one_of_trees name v (also t nothing) (more n f fs) (one m g) all h k = absurd h.2
      one_of_trees name v (also t (also u us)) (more n f fs) (one m g) all h k = absurd k.2
      one_of_trees name v (also t ts) (more n f fs) (more m g gs) all h k =
          λ i. more ((h.0 ∙ sym k.0) i) (one_tree v t f g all.0 h.1 k.1 i)
          (one_of_trees name v ts fs gs all.1 h.2 k.2 i)

  -- the one formula is that of what is read of the item, where its members are those of the item
  module _ {K : Type 0} (read : Item → K) (formula_of : L → K → Formula)
      (read_members : V → K → Option (List K)) (read_absence : V → K → List Product)
      (had : (l : L) (v : Item) → has l v (formula_of l (read v)))
      (same_members : (view : V) (v : Item) (o : Option (List Item)) → gives view v o
      → option_map (map read) o ≡ read_members view (read v))
      (same_absence : (view : V) (v : Item) → absence view v ≡ read_absence view (read v)) where
    abbrev formula_at : Item → Tree L V → Formula
    formula_at v t = tree_formula text view_text formula_of read_members read_absence (read v) t

    abbrev formulas_at : Item → Trees L V → List Formula
    formulas_at v ts =
        tree_formulas text view_text formula_of read_members read_absence (read v) ts

    number_formed : (v : Item) (ts : Trees L V) → length (formulas_at v ts) ≡ number_of ts
    number_formed v nothing = refl
    number_formed v (also t ts) = ap suc (number_formed v ts)

    none_formed : (v : Item) (ts : Trees L V) → formulas_at v ts ≡ [] → IsNothing ts
    none_formed v nothing h = tt
    none_formed v (also t ts) h = absurd (cc)

    -- a formula of the members, or the leaf where there is no list
    has_of_view : (own : Entry) (view : V) (v : Item) (have : List Item → Formula → Type 0)
        (form : List K → Formula) → ((us : List Item) → have us (form (map read us)))
        → IsViewed own (absence view v) have (gives view v)
        (viewed_formula own (read_absence view (read v)) form (read_members view (read v)))
    has_of_view own view v have form each =
        subst (λ products. IsViewed own (absence view v) have (gives view v)
        (viewed_formula own products form (read_members view (read v)))) (same_absence view v)
        (has_viewed own (absence view v) have (gives view v) (map read) form
        (read_members view (read v)) (same_members view v) each)

    mutual
      pub has_tree : (v : Item) (t : Tree L V)
          → HasFormula text view_text has gives absence v t (formula_at v t)
      has_tree v (Leaf l) = had l v
      has_tree v (Not w t) = has_not (has_tree v t)
      has_tree v (Named name t) = has_named (has_tree v t)
      has_tree v (Pair w op a b) = has_pair (has_tree v a) (has_tree v b)
      has_tree v (Row w q ts) =
          let h = has_quota {name = w.part} {has = λ u f. u ≡ f} q (λ f. f) (formulas_at v ts)
          (λ u. refl) in
          subst (λ n. IsOfNumber q n (tree_text text view_text (Row w q ts))
          (AreFormulas text view_text has gives absence w.part v ts)
          (formula_at v (Row w q ts)))
          (number_formed v ts) (record {
            of_settled = h.of_number.of_settled;
            of_counted = λ some within.
                let c = h.of_number.of_counted some within in
                record {
                  formulas = c.formulas;
                  of_each = are_formed w.part v ts c.formulas c.of_each;
                  is = c.is;
                };
          })
      has_tree v (Members w q view t) =
          let own = tree_text text view_text (Members w q view t) in
          has_of_view own view v (IsOfQuota q own (codes "item")
          (λ u. HasFormula text view_text has gives absence u t))
          (quota_formula q own (codes "item")
          (λ k. tree_formula text view_text formula_of read_members read_absence k t))
          (λ us. subst (IsOfQuota q own (codes "item")
          (λ u. HasFormula text view_text has gives absence u t) us)
          (quota_read q _ (codes "item") read _ us)
          (has_quota q (λ u. formula_at u t) us (λ u. has_tree u t)))

      are_formed : (name : List ℕ) (v : Item) (ts : Trees L V) (fs : Formulas)
          → AreOfEach name (λ u f. u ≡ f) (formulas_at v ts) fs
          → AreFormulas text view_text has gives absence name v ts fs
      are_formed name v nothing fs h = h
      are_formed name v (also t ts) (one n f) h = (
        h.0,
        subst (HasFormula text view_text has gives absence v t) h.1 (has_tree v t),
        none_formed v ts h.2,
      )
      are_formed name v (also t ts) (more n f fs) h = (
        h.0,
        subst (HasFormula text view_text has gives absence v t) h.1 (has_tree v t),
        are_formed name v ts fs h.2,
      )

-- what holds of all leaves holds of those of a tree
module _ {L V : Type 0} (fact : L → Type 0) (all : (l : L) → fact l) where
  mutual
    pub all_leaves : (t : Tree L V) → AllLeaves fact t
    all_leaves (Leaf l) = all l
    all_leaves (Not w t) = all_leaves t
    all_leaves (Named name t) = all_leaves t
    all_leaves (Pair w op a b) = (all_leaves a, all_leaves b)
    all_leaves (Row w q ts) = all_trees ts
    all_leaves (Members w q view t) = all_leaves t

    pub all_trees : (ts : Trees L V) → AllOfTrees fact ts
    all_trees nothing = tt
    all_trees (also t ts) = (all_leaves t, all_trees ts)
