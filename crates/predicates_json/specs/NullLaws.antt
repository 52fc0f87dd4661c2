-- What the predicate of null prints is the text of its formula.
use Rattle.std.specs.Prelude.{Some}
use Rattle.predicates_core.specs.Label.{FitsEntry}
use Rattle.predicates_core.specs.Formula.{Formula, text_of}
use Rattle.predicates_core.specs.Leaves.{IsExactly}
use Rattle.predicates_core.specs.LeafLaws.{exactly_text_fits}
use Rattle.serde_json.specs.Data.{Data, null, boolean, number, string, array, object}
use Rattle.predicates_json.specs.Null.{null_text, null_formula}

pub null_text_fits : {f : Formula} (d : Data) → IsExactly (null_formula d) f
    → FitsEntry (text_of f) (Some null_text)
null_text_fits null h = exactly_text_fits h
null_text_fits (boolean b) h = exactly_text_fits h
null_text_fits (number n) h = exactly_text_fits h
null_text_fits (string s) h = exactly_text_fits h
null_text_fits (array ds) h = exactly_text_fits h
null_text_fits (object ms) h = exactly_text_fits h
