-- Lemmas on lists of entries in preorder.
use Rattle.std.proofs.Common.{◌≡◌, ◌+◌, ◌-◌, ◌≤◌, ℕ, zero, suc, List, [], ◌∷◌, ◌++◌, refl, ap, sym, ◌∙◌, arith, length, take, drop, length-take, length-drop, length-append, append_assoc}
use Rattle.std.proofs.lemmas.List.{take-append-le, drop-append-le, take_all, drop_all}
use Rattle.predicates_reflection.specs.Tree.{Forest, Tree, empty, branch, named_trees, add_last, node_count}
use Rattle.predicates_reflection.specs.Describe.{CaseNode}
use Rattle.predicates_reflection.specs.CaseFields.{node_of, trees_of, trees, AreSized, IsPreorder}
use Rattle.predicates_reflection.specs.declared.reflection.case.Entry.{Entry}

-- the number of entries that is given does not matter, if there are no more
pub trees_of-any : (k j : ℕ) (es : List Entry) → length es ≤ k → length es ≤ j → trees_of k es ≡ trees_of j es
trees_of-any zero zero es h g = refl
trees_of-any zero (suc j) [] h g = refl
trees_of-any zero (suc j) (e ∷ es) h g = absurd (omega arith)
trees_of-any (suc k) zero [] h g = refl
trees_of-any (suc k) zero (e ∷ es) h g = absurd (omega arith)
trees_of-any (suc k) (suc j) [] h g = refl
trees_of-any (suc k) (suc j) (e ∷ es) h g =
    let n = e.size - 1 in
    let a = trees_of-any k j (take n es) (omega (arith, length-take n es)) (omega (arith, length-take n es)) in
    let b = trees_of-any k j (drop n es) (omega (arith, length-drop n es)) (omega (arith, length-drop n es)) in
    ap (λ f. branch e.name (node_of e.node) f (trees_of k (drop n es))) a ∙ ap (branch e.name (node_of e.node) (trees_of j (take n es))) b

pub trees-cons : (e : Entry) (es : List Entry) → trees (e ∷ es) ≡ branch e.name (node_of e.node) (trees (take (e.size - 1) es)) (trees (drop (e.size - 1) es))
trees-cons e es =
    let n = e.size - 1 in
    let k = length es in
    ap (λ f. branch e.name (node_of e.node) f (trees_of k (drop n es))) (trees_of-any k _ (take n es) (omega (arith, length-take n es)) (omega arith))
    ∙ ap (branch e.name (node_of e.node) (trees (take n es))) (trees_of-any k _ (drop n es) (omega (arith, length-drop n es)) (omega arith))

pub AreSized-any : (k j : ℕ) (es : List Entry) → length es ≤ k → length es ≤ j → AreSized k es → AreSized j es
AreSized-any k zero es h g s = tt
AreSized-any k (suc j) [] h g s = tt
AreSized-any zero (suc j) (e ∷ es) h g s = absurd (omega arith)
AreSized-any (suc k) (suc j) (e ∷ es) h g s =
    let n = e.size - 1 in (
      s.0,
      s.1,
      AreSized-any k j (take n es) (omega (arith, length-take n es)) (omega (arith, length-take n es)) s.2,
      AreSized-any k j (drop n es) (omega (arith, length-drop n es)) (omega (arith, length-drop n es)) s.3,
    )

pub record IsFirst (e : Entry) (es : List Entry) : Type 0 where
  pub counts_itself : 1 ≤ e.size
  pub fits : e.size - 1 ≤ length es
  pub below : IsPreorder (take (e.size - 1) es)
  pub next : IsPreorder (drop (e.size - 1) es)

pub first_entry : (e : Entry) (es : List Entry) → IsPreorder (e ∷ es) → IsFirst e es
first_entry e es s =
    let n = e.size - 1 in
    let k = length es in
    record {
      counts_itself = s.0;
      fits = s.1;
      below = AreSized-any k _ (take n es) (omega (arith, length-take n es)) (omega arith) s.2;
      next = AreSized-any k _ (drop n es) (omega (arith, length-drop n es)) (omega arith) s.3;
    }

pub preorder-cons : (e : Entry) (es : List Entry) → IsFirst e es → IsPreorder (e ∷ es)
preorder-cons e es f =
    let n = e.size - 1 in
    let k = length es in (
      f.counts_itself,
      f.fits,
      AreSized-any _ k (take n es) (omega arith) (omega (arith, length-take n es)) f.below,
      AreSized-any _ k (drop n es) (omega arith) (omega (arith, length-drop n es)) f.next,
    )

-- named trees, and others after them
abbrev pub joined : Forest CaseNode → Forest CaseNode → Forest CaseNode
joined empty g = g
joined (branch name node below next) g = branch name node below (joined next g)

pub joined-last : (f : Forest CaseNode) (name : List ℕ) (t : Tree CaseNode) → joined f (branch name t.root t.children empty) ≡ add_last f name t
joined-last empty name t = refl
joined-last (branch n node below next) name t = ap (branch n node below) (joined-last next name t)

trees_of-append : (k : ℕ) (es fs : List Entry) → length es ≤ k → IsPreorder es → trees (es ++ fs) ≡ joined (trees es) (trees fs)
trees_of-append k [] fs h s = refl
trees_of-append zero (e ∷ es) fs h s = absurd (omega arith)
trees_of-append (suc k) (e ∷ es) fs h s =
    let n = e.size - 1 in
    let f = first_entry e es s in
    let front : take n (es ++ fs) ≡ take n es = take-append-le n es fs f.fits in
    let back : drop n (es ++ fs) ≡ drop n es ++ fs = drop-append-le n es fs f.fits in
    let rest : trees (drop n es ++ fs) ≡ joined (trees (drop n es)) (trees fs) = trees_of-append k (drop n es) fs (omega (arith, length-drop n es)) f.next in
    trees-cons e (es ++ fs)
    ∙ ap (λ l. branch e.name (node_of e.node) (trees l) (trees (drop n (es ++ fs)))) front
    ∙ ap (branch e.name (node_of e.node) (trees (take n es))) (ap trees back ∙ rest)
    ∙ ap (λ t. joined t (trees fs)) (sym (trees-cons e es))

pub trees-append : (es fs : List Entry) → IsPreorder es → trees (es ++ fs) ≡ joined (trees es) (trees fs)
trees-append es fs s = trees_of-append (length es) es fs (omega arith) s

preorder_within-append : (k : ℕ) (es fs : List Entry) → length es ≤ k → IsPreorder es → IsPreorder fs → IsPreorder (es ++ fs)
preorder_within-append k [] fs h s r = r
preorder_within-append zero (e ∷ es) fs h s r = absurd (omega arith)
preorder_within-append (suc k) (e ∷ es) fs h s r =
    let n = e.size - 1 in
    let f = first_entry e es s in
    let front : take n (es ++ fs) ≡ take n es = take-append-le n es fs f.fits in
    let back : drop n (es ++ fs) ≡ drop n es ++ fs = drop-append-le n es fs f.fits in
    let rest : IsPreorder (drop n es ++ fs) = preorder_within-append k (drop n es) fs (omega (arith, length-drop n es)) f.next r in
    preorder-cons e (es ++ fs) record {
      counts_itself = f.counts_itself;
      fits = omega (arith, f.fits, length-append es fs);
      below = rw front f.below;
      next = rw back rest;
    }

pub preorder-append : (es fs : List Entry) → IsPreorder es → IsPreorder fs → IsPreorder (es ++ fs)
preorder-append es fs s r = preorder_within-append (length es) es fs (omega arith) s r

-- an entry and the whole subtree under it
module _ (e : Entry) (es : List Entry) (size : e.size ≡ length es + 1) where
  one_subtree : e.size - 1 ≡ length es
  one_subtree = omega arith

  all_taken : take (e.size - 1) es ≡ es
  all_taken = take_all (e.size - 1) es (omega arith)

  none_left : drop (e.size - 1) es ≡ []
  none_left = drop_all (e.size - 1) es (omega arith)

  pub trees-one : trees (e ∷ es) ≡ branch e.name (node_of e.node) (trees es) empty
  trees-one = trees-cons e es ∙ ap (λ l. branch e.name (node_of e.node) (trees l) (trees (drop (e.size - 1) es))) all_taken
      ∙ ap (λ l. branch e.name (node_of e.node) (trees es) (trees l)) none_left

  pub preorder-one : IsPreorder es → IsPreorder (e ∷ es)
  preorder-one s = preorder-cons e es record {
    counts_itself = omega arith;
    fits = omega arith;
    below = rw all_taken s;
    next = rw none_left tt;
  }

-- what a list of entries in preorder says when it is split after the subtree of its first entry
pub record SplitsFirst (es : List Entry) (name : List ℕ) (e : Entry) (front back : List Entry) : Type 0 where
  pub front_preorder : IsPreorder front
  pub back_preorder : IsPreorder back
  pub tree_first : named_trees (trees es) ≡ (name, record { root = node_of e.node; children = trees front }) ∷ named_trees (trees back)

pub splits_first : (es : List Entry) (name : List ℕ) (e : Entry) (rest front back : List Entry)
    → IsPreorder es → name ≡ e.name → es ≡ e ∷ rest → front ≡ take (e.size - 1) rest → back ≡ drop (e.size - 1) rest
    → SplitsFirst es name e front back
splits_first es name e rest front back s named cons hf hb =
    let f = first_entry e rest (rw cons at s) in
    record {
      front_preorder = rw hf f.below;
      back_preorder = rw hb f.next;
      tree_first = rw (named, cons, hf, hb) (ap named_trees (trees-cons e rest));
    }

-- a tree under a name, after those of a list in preorder
pub trees-push : (es : List Entry) (e : Entry) (subtree : List Entry) (all : List Entry)
    → IsPreorder es → all ≡ (es ++ e ∷ []) ++ subtree → e.size ≡ length subtree + 1
    → trees all ≡ add_last (trees es) e.name record { root = node_of e.node; children = trees subtree }
trees-push es e subtree all s ha size =
    ap trees (ha ∙ append_assoc es (e ∷ []) subtree) ∙ trees-append es (e ∷ subtree) s ∙ ap (joined (trees es)) (trees-one e subtree size)
    ∙ joined-last (trees es) e.name record { root = node_of e.node; children = trees subtree }

pub preorder-push : (es : List Entry) (e : Entry) (subtree : List Entry) (all : List Entry)
    → IsPreorder es → IsPreorder subtree → all ≡ (es ++ e ∷ []) ++ subtree → e.size ≡ length subtree + 1 → IsPreorder all
preorder-push es e subtree all s r ha size =
    rw (ha, append_assoc es (e ∷ []) subtree) (preorder-append es (e ∷ subtree) s (preorder-one e subtree size r))

-- the same where there was no tree before it
pub trees-first : (es : List Entry) (e : Entry) (subtree : List Entry) (all : List Entry)
    → es ≡ [] → all ≡ e ∷ subtree → e.size ≡ length subtree + 1
    → trees all ≡ add_last (trees es) e.name record { root = node_of e.node; children = trees subtree }
trees-first es e subtree all none ha size = rw (none, ha) (trees-one e subtree size)

pub preorder-first : (e : Entry) (subtree : List Entry) (all : List Entry)
    → IsPreorder subtree → all ≡ e ∷ subtree → e.size ≡ length subtree + 1 → IsPreorder all
preorder-first e subtree all r ha size = rw ha (preorder-one e subtree size r)

length-trees_of-le : (k : ℕ) (es : List Entry) → length (named_trees (trees_of k es)) ≤ length es
length-trees_of-le zero es = omega arith
length-trees_of-le (suc k) [] = omega arith
length-trees_of-le (suc k) (e ∷ es) = omega (arith, length-trees_of-le k (drop (e.size - 1) es), length-drop (e.size - 1) es)

count-trees_of-le : (k : ℕ) (es : List Entry) → node_count (trees_of k es) ≤ length es
count-trees_of-le zero es = omega arith
count-trees_of-le (suc k) [] = omega arith
count-trees_of-le (suc k) (e ∷ es) =
    let n = e.size - 1 in
    omega (arith, count-trees_of-le k (take n es), count-trees_of-le k (drop n es), length-take n es, length-drop n es)

-- there are no more nodes than entries
pub count-trees-le : (es : List Entry) → node_count (trees es) ≤ length es
count-trees-le es = count-trees_of-le (length es) es

-- there are no more trees than entries
pub length-trees-le : (es : List Entry) → length (named_trees (trees es)) ≤ length es
length-trees-le es = length-trees_of-le (length es) es
