-- What is spelled is read.
use Rattle.std.proofs.Common.{◌≡◌, ℕ, zero, suc, ◌≤◌, Bool, true, false, List, [], ◌∷◌, length, Option, Some, None, Ok, refl, sym, ap, ◌∙◌, arith}
use Rattle.vet_rules.specs.declared.error.Expected.{Expected}
use Rattle.vet_rules.specs.declared.error.Expected.TheVariants as expected
use Rattle.vet_rules.specs.declared.expression.Connective.{Connective}
use Rattle.vet_rules.specs.declared.expression.HowMany.{HowMany}
use Rattle.vet_rules.specs.declared.expression.HowMany.TheVariants as quantifiers
use Rattle.vet_rules.specs.declared.fixed.Fixed.{Fixed}
use Rattle.vet_rules.specs.declared.fixed.Fixed.TheVariants as fixed
use Rattle.vet_rules.specs.declared.parser.Separator.{Separator}
use Rattle.vet_rules.specs.declared.parser.Separator.TheVariants as separators
use Rattle.vet_rules.specs.Literals.{Natural}
use Rattle.vet_rules.specs.Signs as signs
use Rattle.vet_rules.specs.Signs.{Sign}
use Rattle.vet_rules.specs.Conditions.{Condition, KeysIn}
use Rattle.vet_rules.specs.Trees.{Tree, Test, Implies, Quantified, Joined, AtLeast, Trees, none, more, trees_of}
use Rattle.vet_rules.specs.Grammar.{Level, Whole, Premise, tighter, separator_word, part_level, path_in, value_in, text_in, Items, last, another, IsList, no_items, items, IsCondition, word, compare, compare_with, has_length, of_kind, relate, among, each, any, at_least_items, Spells, test, keys, denied, group, quantified, at_least, alone, joined, no_if, implied, premise, Follow, no_more, and_more, IsSpelled}
use Rattle.vet_rules.specs.Reading.{Reader, Answer, is_word, next_word, one_at, count_at, comparison_at, kind_at, parts_at, row_at, items_at, list_at, other_path_at, compared_at, length_at, said_by, condition_at, test_at, keys_at, join, chain, listed, counted, threshold, begun_by, single, implication, whole, at_level, below, ended, all_of}
use Rattle.vet_rules.specs.Reading as reading
use Rattle.vet_rules.proofs.Words.{word_is, next_found, after_found}
use Rattle.vet_rules.proofs.Loop.{one_found, one_shortens, path_no_word}
use Rattle.vet_rules.proofs.Parts.{no_parts}
use Rattle.vet_rules.proofs.Lengths.{spells_shortens}
use Rattle.vet_rules.proofs.Steps.{level_step, whole_step, join_begins, Stops, stops_at_close, stops_at_then, stops_at_end, Ends, ends_here, ends_inside, stops_at_separator, row_ends_at_close}

-- one more part, where the word is next
next_part : {A : Type 0} (k : ℕ) (w : Fixed) (part : Reader A) (ts us rest : List Sign) (e : A) (es : List A) → part ts ≡ Ok (e, us) → parts_at k w part us ≡ Ok (es, rest) → parts_at (suc k) w part (signs.Word w ∷ ts) ≡ Ok (e ∷ es, rest)
unfolding parts_at
next_part k w part ts us rest e es p q = rw (next_found w ts, p, q) refl

module _ {A : Type 0} (seen : Sign → Option A) (x : Expected) where
  -- the first item, and then the others
  record IsRow (ts : List Sign) (vs : List A) (rest : List Sign) : Type 0 where
    pub first : A
    pub others : List A
    pub behind : List Sign
    pub are : vs ≡ first ∷ others
    pub is : one_at seen x ts ≡ Ok (first, behind)
    pub follow : (k : ℕ) → length behind ≤ k → parts_at k fixed.Comma (one_at seen x) behind ≡ Ok (others, signs.Word fixed.CloseList ∷ rest)

  comma_ends : (rest : List Sign) → next_word fixed.Comma (signs.Word fixed.CloseList ∷ rest) ≡ None
  unfolding next_word
  comma_ends rest = refl

  row_is : {ts : List Sign} {vs : List A} {rest : List Sign} → Items seen ts vs rest → IsRow ts vs rest
  row_is (last {t = t} {v = v} {rest = rest} h) = record {
    first = v;
    others = [];
    behind = signs.Word fixed.CloseList ∷ rest;
    are = refl;
    is = one_found seen x t (signs.Word fixed.CloseList ∷ rest) v h;
    follow = λ k le. no_parts fixed.Comma (one_at seen x) k (signs.Word fixed.CloseList ∷ rest) (comma_ends rest);
  }
  row_is (another {t = t} {v = v} {ts = ts} {rest = rest} {vs = vs} h i) =
      let r = row_is i in
      record {
        first = v;
        others = vs;
        behind = signs.Word fixed.Comma ∷ ts;
        are = refl;
        is = one_found seen x t (signs.Word fixed.Comma ∷ ts) v h;
        follow = λ k le. more_follow r k le;
      }
    where
      more_follow : (r : IsRow ts vs rest) (k : ℕ) → suc (length ts) ≤ k → parts_at k fixed.Comma (one_at seen x) (signs.Word fixed.Comma ∷ ts) ≡ Ok (vs, signs.Word fixed.CloseList ∷ rest)
      more_follow r zero le = absurd (omega (arith, le))
      more_follow r (suc k) le =
          let shorter = one_shortens seen x ts (r.first, r.behind) r.is in
          next_part k fixed.Comma (one_at seen x) ts r.behind (signs.Word fixed.CloseList ∷ rest) r.first r.others r.is (r.follow k (omega (arith, shorter, le)))
          ∙ ap (λ (ws : List A). Ok (ws, signs.Word fixed.CloseList ∷ rest)) (sym r.are)

  items_again : {ts : List Sign} {vs : List A} {rest : List Sign} → Items seen ts vs rest → row_at fixed.CloseList expected.ListGoesOn (one_at seen x) ts ≡ Ok (vs, rest)
  unfolding row_at
  items_again {ts = ts} {vs = vs} {rest = rest} i =
      let r = row_is i in
      rw (r.is, r.follow (length r.behind) (omega arith), after_found fixed.CloseList expected.ListGoesOn rest) (ap (λ (ws : List A). Ok (ws, rest)) (sym r.are))

  no_close : (t : Sign) (ts : List Sign) (v : A) → seen (signs.Word fixed.CloseList) ≡ None → seen t ≡ Some v → next_word fixed.CloseList (t ∷ ts) ≡ None
  unfolding next_word
  no_close t ts v closed some = by_condition (is_word fixed.CloseList t) refl
    where
      by_condition : (b : Bool) → is_word fixed.CloseList t ≡ b → next_word fixed.CloseList (t ∷ ts) ≡ None
      by_condition true e = let both : ◌≡◌ {A = Option A} (Some v) None = sym some ∙ ap seen (word_is fixed.CloseList t e) ∙ closed in absurd cc
      by_condition false e = rw e refl

  items_open : {ts : List Sign} {vs : List A} {rest : List Sign} → seen (signs.Word fixed.CloseList) ≡ None → Items seen ts vs rest → next_word fixed.CloseList ts ≡ None
  items_open closed (last {t = t} {v = v} {rest = rest} h) = no_close t (signs.Word fixed.CloseList ∷ rest) v closed h
  items_open closed (another {t = t} {v = v} {ts = ts} h i) = no_close t (signs.Word fixed.Comma ∷ ts) v closed h

  list_again : {ts : List Sign} {vs : List A} {rest : List Sign} → seen (signs.Word fixed.CloseList) ≡ None → IsList seen ts vs rest → list_at (one_at seen x) ts ≡ Ok (vs, rest)
  unfolding list_at items_at
  list_again closed (no_items {rest = rest}) = rw (after_found fixed.OpenList expected.List (signs.Word fixed.CloseList ∷ rest), next_found fixed.CloseList rest) refl
  list_again closed (items {ts = ts} i) = rw (after_found fixed.OpenList expected.List ts, items_open closed i, items_again i) refl

condition_again : {ts : List Sign} {t : Condition} {rest : List Sign} → IsCondition ts t rest → condition_at ts ≡ Ok (t, rest)
unfolding condition_at said_by compared_at other_path_at comparison_at count_at length_at kind_at
condition_again word = refl
condition_again (compare h) = rw h refl
condition_again compare_with = refl
condition_again has_length = refl
condition_again of_kind = refl
condition_again (relate {t = t} {text = text} {rest = rest} h) = rw (one_found text_in expected.Text t rest text h) refl
condition_again (among l) = rw (list_again value_in expected.Literal refl l) refl

keys_again : (p : Sign) (path : List ℕ) {ts : List Sign} {texts : List (List ℕ)} {rest : List Sign} → path_in p ≡ Some path → IsList text_in ts texts rest → keys_at (p ∷ signs.Word fixed.In ∷ ts) ≡ Ok (Test path (KeysIn texts), rest)
unfolding keys_at
keys_again p path {ts = ts} h l = rw (one_found path_in expected.Path p (signs.Word fixed.In ∷ ts) path h, after_found fixed.In expected.In ts, list_again text_in expected.Text refl l) refl

test_again : (deeper : Level → List Sign → Answer) (p : Sign) (ts : List Sign) (path : List ℕ) → path_in p ≡ Some path → single deeper (p ∷ ts) ≡ test_at (p ∷ ts)
unfolding single
test_again deeper (signs.Word f) ts path h = absurd cc
test_again deeper p ts path h = refl

tested : (p : Sign) (ts rest : List Sign) (path : List ℕ) (t : Condition) → path_in p ≡ Some path → condition_at ts ≡ Ok (t, rest) → test_at (p ∷ ts) ≡ Ok (Test path t, rest)
unfolding test_at
tested p ts rest path t h c = rw (one_found path_in expected.Expression p ts path h, c) refl

-- ---- rows

abbrev pub list_of : Trees → List Tree
list_of none = []
list_of (more e es) = e ∷ list_of es

listed_back : (es : Trees) → trees_of (list_of es) ≡ es
listed_back none = refl
listed_back (more e es) = ap (more e) (listed_back es)

-- a part, and then those that follow
parts_join : (c : Connective) (part : List Sign → Answer) (ts us rest : List Sign) (e : Tree) (es : List Tree) → part ts ≡ Ok (e, us) → parts_at (length us) (fixed.Join c) part us ≡ Ok (es, rest) → chain c part ts ≡ Ok (join c e es, rest)
unfolding chain
parts_join c part ts us rest e es p q = rw (p, q) refl

parts_listed : (deeper : Level → List Sign → Answer) (k : ℕ) (ts us rest : List Sign) (e : Tree) (es : List Tree) → deeper Whole ts ≡ Ok (e, us) → parts_at (length us) fixed.Comma (deeper Whole) us ≡ Ok (es, signs.Word fixed.Close ∷ rest)
    → listed deeper k (signs.Word fixed.Open ∷ ts) ≡ Ok (AtLeast k (more e (trees_of es)), rest)
unfolding listed row_at
parts_listed deeper k ts us rest e es p q = rw (after_found fixed.Open expected.Open ts, p, q, after_found fixed.Close expected.PartsGoOn rest) refl

group_again : (deeper : Level → List Sign → Answer) (ts rest : List Sign) (e : Tree) → deeper Whole ts ≡ Ok (e, signs.Word fixed.Close ∷ rest) → reading.group deeper ts ≡ Ok (e, rest)
unfolding reading.group
group_again deeper ts rest e p = rw (p, after_found fixed.Close expected.Close rest) refl

quantified_again : (deeper : Level → List Sign → Answer) (x : Expected) (q : HowMany) (p : Sign) (path : List ℕ) (ts rest : List Sign) (e : Tree) → path_in p ≡ Some path → deeper Whole ts ≡ Ok (e, signs.Word fixed.Close ∷ rest)
    → reading.quantified deeper x q (p ∷ signs.Word fixed.Open ∷ ts) ≡ Ok (Quantified q path e, rest)
unfolding reading.quantified
quantified_again deeper x q p path ts rest e h d =
    rw (one_found path_in x p (signs.Word fixed.Open ∷ ts) path h, after_found fixed.Open expected.Open ts, group_again deeper ts rest e d) refl

threshold_again : (deeper : Level → List Sign → Answer) (k : ℕ) (ts : List Sign) → threshold deeper (signs.Word fixed.Least ∷ signs.Literal (Natural k) ∷ ts) ≡ counted deeper k ts
unfolding threshold count_at
threshold_again deeper k ts = rw (after_found fixed.Least expected.Least (signs.Literal (Natural k) ∷ ts)) refl

counted_list : (deeper : Level → List Sign → Answer) (k : ℕ) (ts : List Sign) → counted deeper k (signs.Word fixed.Of ∷ ts) ≡ listed deeper k ts
unfolding counted
counted_list deeper k ts = rw (next_found fixed.Of ts) refl

counted_items : (deeper : Level → List Sign → Answer) (k : ℕ) (p : Sign) (ts : List Sign) (path : List ℕ) → path_in p ≡ Some path → counted deeper k (p ∷ ts) ≡ reading.quantified deeper expected.Counted (quantifiers.AtLeast k) (p ∷ ts)
unfolding counted
counted_items deeper k p ts path h = rw (path_no_word fixed.Of p ts path h) refl

implied_again : (deeper : Level → List Sign → Answer) (ts us rest : List Sign) (a b : Tree) → deeper Premise ts ≡ Ok (a, signs.Word fixed.Then ∷ us) → deeper Whole us ≡ Ok (b, rest) → implication deeper ts ≡ Ok (Implies a b, rest)
unfolding implication
implied_again deeper ts us rest a b p q = rw (p, after_found fixed.Then expected.Then us, q) refl

implied_whole : (deeper : Level → List Sign → Answer) (ts : List Sign) → whole deeper (signs.Word fixed.If ∷ ts) ≡ implication deeper ts
unfolding whole
implied_whole deeper ts = rw (next_found fixed.If ts) refl

-- where parts follow, the one before them stops
follow_stops : {n : ℕ} {s : Separator} {ts : List Sign} {es : Trees} {rest : List Sign} → Follow n s ts es rest → Ends s rest → Stops (part_level s) ts
follow_stops (no_more {s = s} {rest = rest}) e = ends_inside s rest e
follow_stops (and_more {s = s} {ts = ts} d f) e = stops_at_separator s ts

mutual
  unfolding at_level single begun_by below

  pub spells_again : {n : ℕ} {l : Level} {ts : List Sign} {e : Tree} {rest : List Sign} → Spells n l ts e rest → Stops l rest → at_level (below n) l ts ≡ Ok (e, rest)
  spells_again (test {n = n} {p = p} {path = path} {t = t} {ts = ts} {rest = rest} h c) s = test_again (below n) p ts path h ∙ tested p ts rest path t h (condition_again c)
  spells_again (keys {p = p} {path = path} h l) s = keys_again p path h l
  spells_again (denied d) s = rw (spells_again d tt) refl
  spells_again (group {n = n} {e = e} {ts = ts} {rest = rest} d) s = group_again (below (suc n)) ts rest e (spells_again d (stops_at_close Whole rest))
  spells_again (quantified {n = n} {p = p} {path = path} {e = e} {us = us} {rest = rest} h each d) s = quantified_again (below (suc n)) expected.Path quantifiers.Each p path us rest e h (spells_again d (stops_at_close Whole rest))
  spells_again (quantified {n = n} {p = p} {path = path} {e = e} {us = us} {rest = rest} h any d) s = quantified_again (below (suc n)) expected.Path quantifiers.Any p path us rest e h (spells_again d (stops_at_close Whole rest))
  spells_again (quantified {n = n} {p = p} {path = path} {e = e} {us = us} {rest = rest} h (at_least_items {k = k}) d) s =
      threshold_again (below (suc n)) k (p ∷ signs.Word fixed.Open ∷ us)
      ∙ counted_items (below (suc n)) k p (signs.Word fixed.Open ∷ us) path h
      ∙ quantified_again (below (suc n)) expected.Counted (quantifiers.AtLeast k) p path us rest e h (spells_again d (stops_at_close Whole rest))
  spells_again (at_least {n = n} {k = k} {e = e} {es = es} {ts = ts} {us = us} {rest = rest} d f) s =
      let ends = row_ends_at_close rest in
      threshold_again (below (suc n)) k (signs.Word fixed.Of ∷ signs.Word fixed.Open ∷ ts)
      ∙ counted_list (below (suc n)) k (signs.Word fixed.Open ∷ ts)
      ∙ parts_listed (below (suc n)) k ts us rest e (list_of es) (spells_again d (follow_stops f ends)) (parts_again f ends (length us) (omega arith))
      ∙ ap (λ (gs : Trees). Ok (AtLeast k (more e gs), rest)) (listed_back es)
  spells_again (alone {n = n} {c = c} {e = e} {ts = ts} {rest = rest} d) s =
      level_step (below n) c ts
      ∙ parts_join c (at_level (below n) (tighter c)) ts rest rest e [] (spells_again d (ends_inside (separators.Connective c) rest s))
      (no_parts (fixed.Join c) (at_level (below n) (tighter c)) (length rest) rest (ends_here (separators.Connective c) rest s))
  spells_again (joined {n = n} {c = c} {e = e} {f = g} {es = es} {ts = ts} {us = us} {rest = rest} d f) s =
      level_step (below n) c ts
      ∙ parts_join c (at_level (below n) (tighter c)) ts us rest e (g ∷ list_of es) (spells_again d (follow_stops f s)) (parts_again f s (length us) (omega arith))
      ∙ ap (λ (gs : Trees). Ok (Joined c (more e (more g gs)), rest)) (listed_back es)
  spells_again (no_if {n = n} {ts = ts} d) s = whole_step (below n) ts (join_begins d) ∙ spells_again d s
  spells_again (implied {n = n} {a = a} {b = b} {ts = ts} {us = us} {rest = rest} d g) s =
      implied_whole (below (suc n)) ts ∙ implied_again (below (suc n)) ts us rest a b (spells_again d (stops_at_then us)) (spells_again g s)
  spells_again (premise d) s = spells_again d s

  pub parts_again : {n : ℕ} {s : Separator} {ts : List Sign} {es : Trees} {rest : List Sign} → Follow n s ts es rest → Ends s rest → (k : ℕ) → length ts ≤ k → parts_at k (separator_word s) (at_level (below n) (part_level s)) ts ≡ Ok (list_of es, rest)
  parts_again (no_more {n = n} {s = s} {rest = rest}) e k le = no_parts (separator_word s) (at_level (below n) (part_level s)) k rest (ends_here s rest e)
  parts_again (and_more d f) e zero le = absurd (omega arith)
  parts_again (and_more {n = n} {s = s} {e = g} {es = es} {ts = ts} {us = us} {rest = rest} d f) e (suc k) le =
      next_part k (separator_word s) (at_level (below n) (part_level s)) ts us rest g (list_of es) (spells_again d (follow_stops f e)) (parts_again f e k (omega (arith, spells_shortens d)))

-- all of the tokens
pub spelled_again : (n : ℕ) (ts : List Sign) (e : Tree) → IsSpelled n ts e → all_of n ts ≡ Ok e
unfolding all_of ended below
spelled_again n ts e d = rw (spells_again d (stops_at_end Whole)) refl
