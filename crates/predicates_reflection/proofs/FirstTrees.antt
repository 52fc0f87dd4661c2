-- The first trees of a list of entries in preorder.
use Rattle.std.proofs.Common.{◌≡◌, ◌+◌, ◌-◌, ◌<◌, ◌≤◌, ℕ, List, [], ◌∷◌, ◌++◌, refl, ap, sym, ◌∙◌, subst, arith, ⊎_elim, length, take, drop, get_or, length-append, append_assoc, append-nil}
use Rattle.std.proofs.lemmas.List.{nil_from_length, get_or-append_right, take_at, take_all, take-append-drop, length-take-le}
use Rattle.std.proofs.lemmas.Bool.{cases_lt}
use Rattle.predicates_reflection.specs.Tree.{Forest, empty, branch, named_trees}
use Rattle.predicates_reflection.specs.Describe.{CaseNode}
use Rattle.predicates_reflection.specs.CaseFields.{trees, IsPreorder}
use Rattle.predicates_reflection.specs.declared.reflection.case.Entry.{Entry}
use Rattle.predicates_reflection.proofs.Preorder.{first_entry, joined, trees-append, trees-one, preorder-append, preorder-one}

named-joined : (f g : Forest CaseNode) → named_trees (joined f g) ≡ named_trees f ++ named_trees g
named-joined empty g = refl
named-joined (branch name node below next) g = ap (λ ts. (name, record { root = node; children = below }) ∷ ts) (named-joined next g)

-- the first k trees end at the place
pub record EndAt (es : List Entry) (k end : ℕ) : Type 0 where
  pub front : List Entry
  pub back : List Entry
  pub both : es ≡ front ++ back
  pub place : length front ≡ end
  pub first : IsPreorder front
  pub rest : IsPreorder back
  pub number : length (named_trees (trees front)) ≡ k

pub none_end : (es : List Entry) → IsPreorder es → EndAt es 0 0
none_end es h = record { front = []; back = es; both = refl; place = refl; first = tt; rest = h; number = refl }

-- the first tree behind the place
first_behind : (front back : List Entry) (end : ℕ) (e : Entry) → length front ≡ end → end < length (front ++ back) → e ≡ get_or (front ++ back) end e → (rest : List Entry) × (back ≡ e ∷ rest)
first_behind front [] end e place within is = absurd (omega (arith, within, place, length-append front []))
first_behind front (x ∷ rest) end e place within is =
    let none : end - end ≡ 0 = omega arith in
    (rest, ap (λ z. z ∷ rest) (sym (is ∙ get_or-append_right front (x ∷ rest) end end e place (omega arith) ∙ ap (λ n. get_or (x ∷ rest) n e) none)))

-- one tree more
more_end : (es front rest : List Entry) (k end : ℕ) (e : Entry) → es ≡ front ++ e ∷ rest → length front ≡ end → IsPreorder front → IsPreorder (e ∷ rest) → length (named_trees (trees front)) ≡ k → EndAt es (k + 1) (end + e.size)
more_end es front rest k end e both place first h number =
    let n = e.size - 1 in
    let f = first_entry e rest h in
    let sub : List Entry = take n rest in
    let long : length sub ≡ n = length-take-le n rest f.fits in
    let size : e.size ≡ length sub + 1 = omega (arith, long, f.counts_itself) in
    let named = ap named_trees (trees-append front (e ∷ sub) first) ∙ named-joined (trees front) (trees (e ∷ sub)) in
    let one = ap (λ t. length (named_trees t)) (trees-one e sub size) in
    let counted = ap length named ∙ length-append (named_trees (trees front)) (named_trees (trees (e ∷ sub))) in
    record {
      front = front ++ e ∷ sub;
      back = drop n rest;
      both = both ∙ ap (λ z. front ++ e ∷ z) (sym (take-append-drop n rest)) ∙ sym (append_assoc front (e ∷ sub) (drop n rest));
      place = omega (arith, length-append front (e ∷ sub), place, size);
      first = preorder-append front (e ∷ sub) first (preorder-one e sub size f.below);
      rest = f.next;
      number = omega (arith, counted, one, number);
    }

pub next_end : (es : List Entry) (k end : ℕ) (e : Entry) → end < length es → e ≡ get_or es end e → EndAt es k end → EndAt es (k + 1) (end + e.size)
next_end es k end e within is h =
    let b = first_behind h.front h.back end e h.place (subst (λ z. end < length z) h.both within) (subst (λ z. e ≡ get_or z end e) h.both is) in
    more_end es h.front b.0 k end e (h.both ∙ ap (λ z. h.front ++ z) b.1) h.place h.first (subst IsPreorder b.1 h.rest) h.number

-- the trees that end there are the first n, where there are so many, or no others
pub first_trees : (es : List Entry) (k end n : ℕ) → EndAt es k end → k ≤ n → (k < n → length es ≤ end) → IsPreorder (take end es) × (named_trees (trees (take end es)) ≡ take n (named_trees (trees es)))
first_trees es k end n h le all =
    let here : take end es ≡ h.front = ap (take end) h.both ∙ take_at h.front h.back end h.place in
    let whole : named_trees (trees es) ≡ named_trees (trees h.front) ++ named_trees (trees h.back) = ap (λ z. named_trees (trees z)) h.both ∙ ap named_trees (trees-append h.front h.back h.first) ∙ named-joined (trees h.front) (trees h.back) in
    (subst IsPreorder (sym here) h.first, ap (λ z. named_trees (trees z)) here ∙ sym (ap (take n) whole ∙ ⊎_elim (few whole) (λ just. take_at _ _ n (omega (arith, just, le, h.number))) (cases_lt k n)))
  where
    few : named_trees (trees es) ≡ named_trees (trees h.front) ++ named_trees (trees h.back) → k < n → take n (named_trees (trees h.front) ++ named_trees (trees h.back)) ≡ named_trees (trees h.front)
    few whole less =
        let long = length-append h.front h.back in
        let end' = ap length h.both in
        let none : h.back ≡ [] = nil_from_length h.back (let a = all less in omega (arith, a, long, end', h.place)) in
        ap (λ z. take n (named_trees (trees h.front) ++ named_trees (trees z))) none ∙ ap (take n) (append-nil (named_trees (trees h.front))) ∙ take_all n (named_trees (trees h.front)) (omega (arith, h.number, le))
