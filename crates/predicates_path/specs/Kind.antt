-- What the predicates of kinds print and test.
use Rattle.std.specs.Prelude.{ℕ, Bool, false, cond, List, ◌++◌, Result, Ok, Err, Some, codes}
use Rattle.predicates_core.specs.Label.{Product}
use Rattle.predicates_core.specs.Formula.{Formula}
use Rattle.predicates_path.specs.declared.file_test.FileTestPredicate.{FileTestPredicate}
use Rattle.predicates_path.specs.declared.file_type_predicate.FileTypePredicate.{FileTypePredicate}
use Rattle.predicates_path.specs.declared.file_type.FileType.{FileType}
use Rattle.predicates_path.specs.declared.fault.PathFault.{PathFault}
use Rattle.predicates_path.specs.declared.snapshot.Snapshot.{Snapshot}
use Rattle.predicates_path.specs.Fault.{fault_text}
use Rattle.predicates_path.specs.FileTest.{file_leaf}
use Rattle.predicates_path.specs.FileType.{kind_text, is_same_kind}
use Rattle.predicates_path.specs.Snapshot.{plain_of, followed_of}

-- the kind that is tested for
abbrev pub tested_kind : FileTestPredicate FileTypePredicate → FileType
tested_kind p = p.test.kind

-- whether links are followed
abbrev pub follows : FileTestPredicate FileTypePredicate → Bool
follows p = p.test.follow

-- the kind of a snapshot that is compared
abbrev pub found_kind : Bool → Snapshot → Result FileType PathFault
found_kind follow s = cond follow (followed_of s) (plain_of s)

-- there is a kind, and it is the one that is tested for
abbrev pub has_kind : FileType → Result FileType PathFault → Bool
has_kind kind (Ok found) = is_same_kind found kind
has_kind kind (Err fault) = false

-- the kind, or its fault, as a product
abbrev pub kind_product : Result FileType PathFault → Product
kind_product (Ok found) = record { name = codes "actual filetype"; value = Some (kind_text found) }
kind_product (Err fault) = record { name = codes "error"; value = Some (fault_text fault) }

abbrev pub kind_predicate_text : FileType → List ℕ
kind_predicate_text kind = codes "var is " ++ kind_text kind

-- a leaf that shows the kind that was found, or its fault
abbrev pub kind_leaf : FileType → Bool → Snapshot → Formula
kind_leaf kind follow s =
    let found : Result FileType PathFault = found_kind follow s in
    file_leaf (Some (kind_predicate_text kind)) (Some (kind_product found)) (has_kind kind found)

-- that of a predicate
abbrev pub kind_formula : FileTestPredicate FileTypePredicate → Snapshot → Formula
kind_formula p s = kind_leaf (tested_kind p) (follows p) s
