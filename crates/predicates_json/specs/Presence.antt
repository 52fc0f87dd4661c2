-- Whether anything stands at a pointer.
use Rattle.std.specs.Prelude.{ℕ, List, ◌++◌, Bool, not, cond, Option, Some, is_some, codes}
use Rattle.predicates_core.specs.Label.{plain}
use Rattle.predicates_core.specs.Formula.{Formula, Leaf}
use Rattle.serde_json.specs.declared.value.Value.{Value}
use Rattle.predicates_json.specs.At.{at_pointer}
use Rattle.predicates_json.specs.declared.presence.PointerPresencePredicate.{
  PointerPresencePredicate,
}

abbrev pub presence_text : Bool → List ℕ → List ℕ
presence_text present pointer = cond present
    (codes "exists(" ++ pointer ++ codes ")")
    (codes "missing(" ++ pointer ++ codes ")")

-- what stands there is asked to be there, or not to be
abbrev pub presence_truth : Bool → Option Value → Bool
presence_truth present found = cond present (is_some found) (not (is_some found))

abbrev pub presence_formula : Bool → List ℕ → Value → Formula
presence_formula present pointer v = Leaf (plain (Some (presence_text present pointer)))
    (presence_truth present (at_pointer pointer v))

module _ {N : Type 0} where
  abbrev pub asks_presence : PointerPresencePredicate N → Bool
  asks_presence p = p.present

  abbrev pub asked_pointer : PointerPresencePredicate N → N
  asked_pointer p = p.pointer
