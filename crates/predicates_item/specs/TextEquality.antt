-- Equality of a text with a constant, or its opposite, by the text's bytes.
use Rattle.std.specs.Prelude.{ℕ, List, codes, string_bytes, bytes_eq}
use Rattle.std.specs.Fmt.{debug_str}
use Rattle.predicates_core.specs.Text.{Text}
use Rattle.predicates_core.specs.Label.{Entry, showing}
use Rattle.predicates_core.specs.Formula.{Formula, Leaf}
use Rattle.predicates_item.specs.Comparison.{eq_symbol, eq_truth, comparison_text}
use Rattle.predicates_item.specs.declared.ord.equality.EqPredicate.{EqPredicate}
use Rattle.predicates_item.specs.declared.showing.ShowingPredicate.{ShowingPredicate}

abbrev pub text_equality_text : ShowingPredicate (EqPredicate Text) → Entry
text_equality_text p = comparison_text (eq_symbol p.test.op)
    (debug_str (string_bytes p.test.constant))

abbrev pub text_equality_formula : ShowingPredicate (EqPredicate Text) → List ℕ → Formula
text_equality_formula p bytes = Leaf
    (showing (text_equality_text p) (codes "var") (debug_str bytes))
    (eq_truth p.test.op (bytes_eq bytes (string_bytes p.test.constant)))
