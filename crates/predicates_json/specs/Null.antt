-- The formula of the predicate of null.
use Rattle.std.specs.Prelude.{ℕ, List, Some, true, codes}
use Rattle.predicates_core.specs.Label.{plain}
use Rattle.predicates_core.specs.Formula.{Formula, Leaf}
use Rattle.serde_json.specs.Data.{Data, null, boolean, number, string, array, object}
use Rattle.predicates_core.specs.Present.{absent_leaf}
use Rattle.predicates_json.specs.Kinds.{kind_text}

abbrev pub null_text : List ℕ
null_text = codes "var.is_null()"

-- a true leaf of null, and of another kind a false one that shows the kind
abbrev pub null_formula : Data → Formula
null_formula null = Leaf (plain (Some null_text)) true
null_formula (boolean b) = absent_leaf (Some null_text) (kind_text (boolean b))
null_formula (number n) = absent_leaf (Some null_text) (kind_text (number n))
null_formula (string s) = absent_leaf (Some null_text) (kind_text (string s))
null_formula (array ds) = absent_leaf (Some null_text) (kind_text (array ds))
null_formula (object ms) = absent_leaf (Some null_text) (kind_text (object ms))
