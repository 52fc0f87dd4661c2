-- What is found of a check that joins two, from what was found of these.
use Rattle.std.proofs.Common.{◌≡◌, ℕ, Bool, true, false, List, Option, Some, None, cond, refl}
use Rattle.predicates_core.specs.Asked.{keeps, left_wanted, shown_verdict, is_other}
use Rattle.predicates_core.specs.Combined.{IsPair}
use Rattle.predicates_core.specs.Describe.{CaseNode, NamedCase}
use Rattle.predicates_core.specs.Formula.{Formula, apply}
use Rattle.predicates_core.specs.Kinds.{Kind, reasons, changes}
use Rattle.predicates_core.specs.Label.{Fits}
use Rattle.predicates_core.specs.Shows.{IsFoundBy, IsNode, found_parts}
use Rattle.predicates_core.specs.Tree.{Tree}
use Rattle.predicates_core.specs.declared.custom.join.Operator.{Operator}
use Rattle.predicates_core.proofs.Asked.{none_in_turn, case_in_turn, no_change_in_turn, change_in_turn}
use Rattle.explain_words.specs.Checks.{check_text, FindsRight, IsNodeOf}
use Rattle.explain_words.specs.declared.check.TextCheck.{TextCheck}

-- from the node that was written
pub found_of_node : (q : Kind) (c : TextCheck) (holds : Bool) (parts : List NamedCase) (F : Formula → Type 0) (w : Option Bool) (found : Option (Tree CaseNode)) → IsNodeOf c holds parts found
    → ((bytes : List ℕ) (t : Tree CaseNode) → Fits (check_text c) bytes → IsNode (Some bytes) holds parts t → IsFoundBy q F w (Some t)) → IsFoundBy q F w found
found_of_node q c holds parts F w None none shown = elim none [ ]
found_of_node q c holds parts F w (Some t) (bytes, fits, written) shown = shown bytes t fits written

module _ (op : Operator) (w : Option Bool) (c d : Option (Tree CaseNode)) (text : Option (List ℕ)) (left right : Formula → Type 0) (b : Bool) {of_left : Option Bool} {a h : Bool} where
  pub nothing_in_turn : (q : Kind) → of_left ≡ left_wanted op w → IsFoundBy q left of_left c → a ≡ shown_verdict of_left c → FindsRight q op right w a b d → h ≡ apply op a b → is_other w h ≡ true → IsFoundBy q (IsPair op text left right) w None
  nothing_in_turn reasons lw x la y is other = none_in_turn op w c d text left right lw x la refl refl y.0 y.1 is other
  nothing_in_turn changes lw x la y is other = no_change_in_turn op w c d text left right of_left x la y is other

  pub found_in_turn : (q : Kind) {kept : Bool} (bytes : List ℕ) {t : Tree CaseNode} → of_left ≡ left_wanted op w → IsFoundBy q left of_left c → a ≡ shown_verdict of_left c → FindsRight q op right w a b d → h ≡ apply op a b → is_other w h ≡ false
      → kept ≡ keeps op a b → IsNode (Some bytes) h (found_parts (cond kept c None) d) t → Fits text bytes → IsFoundBy q (IsPair op text left right) w (Some t)
  found_in_turn reasons bytes lw x la y is same k written fits = case_in_turn op w c d text left right bytes lw x la refl refl y.0 y.1 is same k written fits
  found_in_turn changes bytes lw x la y is same k written fits = change_in_turn op w c d text left right of_left bytes lw x la y is same k written fits
