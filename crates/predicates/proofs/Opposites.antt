-- Comparisons of opposite truth, and what is found for opposite verdicts.
use Rattle.std.proofs.Common.{◌≡◌, Bool, true, false, refl, sym, ap, ◌∙◌}
use Rattle.std.specs.Prelude.{not}
use Rattle.std.specs.declared.cmp.Ordering.{Ordering}
use Rattle.std.specs.declared.cmp.Ordering.TheVariants.{Less, Equal, Greater}
use Rattle.std.specs.Ordering.{is_lt, is_le, is_ge, is_gt}
use Rattle.predicates_core.specs.Label.{Label}
use Rattle.predicates_core.specs.Formula.{Leaf, truth}
use Rattle.predicates_core.specs.Leaves.{IsExactly}
use Rattle.predicates_core.proofs.Values.{truth-Leaf}
use Rattle.predicates.specs.Laws.{AreOpposite}

pub opposite_leaves : (l m : Label) (a b : Bool) → a ≡ not b → AreOpposite (IsExactly (Leaf l a)) (IsExactly (Leaf m b))
opposite_leaves l m a b e = record { at = λ f g h k. ap truth h.is ∙ truth-Leaf l a ∙ e ∙ ap not (sym (ap truth k.is ∙ truth-Leaf m b)) }

pub less_or_not : (o : Ordering) → is_lt o ≡ not (is_ge o)
less_or_not Less = refl
less_or_not Equal = refl
less_or_not Greater = refl

pub greater_or_not : (o : Ordering) → is_gt o ≡ not (is_le o)
greater_or_not Less = refl
greater_or_not Equal = refl
greater_or_not Greater = refl

pub twice : (b : Bool) → b ≡ not (not b)
twice true = refl
twice false = refl
