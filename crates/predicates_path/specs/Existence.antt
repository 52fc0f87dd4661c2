-- What the predicates of existence print and test.
use Rattle.std.specs.Prelude.{ℕ, Bool, true, false, not, List, Some, codes, is_ok}
use Rattle.predicates_core.specs.Label.{Product}
use Rattle.predicates_core.specs.Formula.{Formula}
use Rattle.predicates_path.specs.declared.existence.ExistencePredicate.{ExistencePredicate}
use Rattle.predicates_path.specs.declared.file_test.FileTestPredicate.{FileTestPredicate}
use Rattle.predicates_path.specs.declared.snapshot.Snapshot.{Snapshot}
use Rattle.predicates_path.specs.FileTest.{file_leaf}
use Rattle.predicates_path.specs.Snapshot.{path_of, followed_of}

-- whether it holds where something is there, or where nothing is
abbrev pub asks_presence : FileTestPredicate ExistencePredicate → Bool
asks_presence p = p.test.exists

abbrev pub existence_text : Bool → List ℕ
existence_text true = codes "exists(var)"
existence_text false = codes "missing(var)"

abbrev pub existence_truth : Bool → Snapshot → Bool
existence_truth true s = is_ok (followed_of s)
existence_truth false s = not (is_ok (followed_of s))

-- the path as a product
abbrev pub path_product : Snapshot → Product
path_product s = record { name = codes "var"; value = Some (path_of s) }

-- a leaf that shows the path
abbrev pub existence_formula : Bool → Snapshot → Formula
existence_formula asks s = file_leaf (Some (existence_text asks)) (Some (path_product s))
    (existence_truth asks s)
