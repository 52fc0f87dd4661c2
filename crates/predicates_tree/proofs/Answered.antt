-- What is found of checks, whether why they have their verdicts or what would turn these.
use Rattle.std.proofs.Common.{◌≡◌, Bool, true, false, Option, Some, None, cond, List, ℕ, Result, IfOk, refl, sym, subst}
use Rattle.std.specs.Prelude.{◌||◌}
use Rattle.predicates_core.specs.Label.{Entry, Product, Fits}
use Rattle.predicates_core.specs.Formula.{Formula, apply}
use Rattle.predicates_core.specs.declared.custom.join.Operator.{Operator}
use Rattle.predicates_core.specs.declared.custom.join.Operator.TheVariants.{And, Or, Xor}
use Rattle.predicates_core.specs.Tree.{Tree}
use Rattle.predicates_core.specs.Describe.{CaseNode}
use Rattle.predicates_core.specs.Combined.{IsPair}
use Rattle.predicates_core.specs.Asked.{asks, keeps, left_wanted, right_wanted, shown_verdict, is_other, IsFoundIf}
use Rattle.predicates_core.specs.Change.{IsFoundChange}
use Rattle.predicates_core.specs.Kinds.{reasons, changes}
use Rattle.predicates_core.specs.Leaves.{IsExactly}
use Rattle.predicates_core.specs.Shows.{IsFound, IsFoundBy, IsNode, found_parts}
use Rattle.predicates_core.specs.Turning.{IsRightChange}
use Rattle.predicates_core.proofs.Found.{truth_found}
use Rattle.predicates_core.proofs.Asked.{none_in_turn, case_in_turn, no_change_in_turn, change_in_turn}
use Rattle.predicates_core.proofs.ChangeCases.{exact_leaf, leaf_found}
use Rattle.predicates_core.proofs.Fewer.{fewer_found_of}
use Rattle.predicates_core.specs.Tally.{kind_of, IsAsked}
use Rattle.predicates_tree.specs.Questions.{IsRight, right_asks}
use Rattle.predicates_tree.specs.Viewed.{IsViewed, no_list}

-- ---- two parts

module _ (F : Formula → Type 0) where
  and_change : (found : Option (Tree CaseNode)) → IsFoundChange F (Some false) found → IsRightChange And F (shown_verdict (Some false) found) found
  and_change None x = record { truth = x; change = refl }
  and_change (Some c) x = record { truth = x.truth; change = x }

  or_change : (found : Option (Tree CaseNode)) → IsFoundChange F (Some true) found → IsRightChange Or F (shown_verdict (Some true) found) found
  or_change None x = record { truth = x; change = refl }
  or_change (Some c) x = record { truth = x.truth; change = x }

  xor_change : (asked : Option Bool) (found : Option (Tree CaseNode)) → found ≡ None → IsFoundChange F asked found → IsRightChange Xor F (shown_verdict asked found) found
  xor_change asked None none x = record { truth = truth_found changes asked None x; change = refl }
  xor_change asked (Some c) none x = absurd (cc)

  right_change : (op : Operator) (w asked : Option Bool) (found : Option (Tree CaseNode)) → IsAsked (right_asks true op w) asked found → IsFoundChange F asked found → IsRightChange op F (shown_verdict asked found) found
  right_change And w asked found is x = subst (λ z. IsRightChange And F (shown_verdict z found) found) (sym is) (and_change found (subst (λ z. IsFoundChange F z found) is x))
  right_change Or w asked found is x = subst (λ z. IsRightChange Or F (shown_verdict z found) found) (sym is) (or_change found (subst (λ z. IsFoundChange F z found) is x))
  right_change Xor w asked found is x = xor_change asked found is x

  -- the right part of a reason is not asked
  passed_right : (b : Bool) (asked : Option Bool) → b ≡ false → IsFoundIf b F asked None
  passed_right true asked e = absurd (cc)
  passed_right false asked e = refl

  asked_right : (b : Bool) (asked : Option Bool) (found : Option (Tree CaseNode)) → b ≡ true → IsFound F asked found → IsFoundIf b F asked found
  asked_right true asked found e x = x
  asked_right false asked found e x = absurd (cc)

  pub right_passed : (turns : Bool) (op : Operator) (a : Bool) (w asked : Option Bool) → asked ≡ right_wanted op a w → (turns || asks op a) ≡ false → IsRight turns op a w F asked None
  right_passed false op a w asked is e = (is, passed_right (asks op a) asked e)
  right_passed true op a w asked is e = absurd (cc)

  pub right_found : (turns : Bool) (op : Operator) (a : Bool) (w asked : Option Bool) (found : Option (Tree CaseNode)) → (turns || asks op a) ≡ true → IsAsked (right_asks turns op (right_wanted op a w)) asked found → IsFoundBy (kind_of turns) F asked found → IsRight turns op a w F asked found
  right_found false op a w asked found e is x = (is, asked_right (asks op a) asked found e x)
  right_found true op a w asked found e is x = right_change op (right_wanted op a w) asked found is x

module _ (op : Operator) (w : Option Bool) (c d : Option (Tree CaseNode)) (text : Option (List ℕ)) (left right : Formula → Type 0) (of_left asked : Option Bool) {a b h : Bool} where
  -- another truth is wanted than the whole has
  pub pair_none : (turns : Bool) → of_left ≡ left_wanted op w → IsFoundBy (kind_of turns) left of_left c → a ≡ shown_verdict of_left c → IsRight turns op a w right asked d → b ≡ shown_verdict asked d → h ≡ apply op a b → is_other w h ≡ true → IsFoundBy (kind_of turns) (IsPair op text left right) w None
  pair_none false lw x la y ra is other = none_in_turn op w c d text left right lw x la refl y.0 y.1 ra is other
  pair_none true lw x la y ra is other = no_change_in_turn op w c d text left right of_left x la (subst (λ z. IsRightChange op right z d) (sym ra) y) is other

  -- the case of the whole, where it is wanted
  pub pair_some : {kept : Bool} (bytes : List ℕ) {t : Tree CaseNode} (turns : Bool) → of_left ≡ left_wanted op w → IsFoundBy (kind_of turns) left of_left c → a ≡ shown_verdict of_left c → IsRight turns op a w right asked d → b ≡ shown_verdict asked d → h ≡ apply op a b → is_other w h ≡ false
      → kept ≡ keeps op a b → IsNode (Some bytes) h (found_parts (cond kept c None) d) t → Fits text bytes → IsFoundBy (kind_of turns) (IsPair op text left right) w (Some t)
  pair_some bytes false lw x la y ra is same k written fits = case_in_turn op w c d text left right bytes lw x la refl y.0 y.1 ra is same k written fits
  pair_some bytes true lw x la y ra is same k written fits = change_in_turn op w c d text left right of_left bytes lw x la (subst (λ z. IsRightChange op right z d) (sym ra) y) is same k written fits

-- ---- members

module _ {U : Type 0} (text : Entry) (absence : List Product) (has : List U → Formula → Type 0) (gives : Option (List U) → Type 0) where
  pub absent_answered : {E : Type 0} (turns : Bool) (w : Option Bool) (r : Result (Option (Tree CaseNode)) E) → gives None → IfOk r (IsFound (IsExactly (no_list text absence)) w) → IfOk r (IsFoundBy (kind_of turns) (IsViewed text absence has gives) w)
  absent_answered false w r e h = fewer_found_of reasons w r (λ f x. x.of_none e) h
  absent_answered true w r e h = fewer_found_of changes w r (λ f x. x.of_none e) (leaf_found w r exact_leaf h)
