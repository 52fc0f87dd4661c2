-- What the equalities with a file print and test.
use Rattle.std.specs.Prelude.{ℕ, Bool, false, List, ◌++◌, Result, Ok, Err, Some, codes}
use Rattle.std.specs.Prelude.{string_bytes, bytes_eq}
use Rattle.std.specs.Fmt.{decimal, debug_list}
use Rattle.predicates_core.specs.Label.{Entry, plain}
use Rattle.predicates_core.specs.Formula.{Formula, Leaf}
use Rattle.predicates_path.specs.declared.equality.BinaryFilePredicate.{BinaryFilePredicate}
use Rattle.predicates_path.specs.declared.fault.PathFault.{PathFault}
use Rattle.predicates_path.specs.declared.file_test.FileTestPredicate.{FileTestPredicate}
use Rattle.predicates_path.specs.declared.snapshot.Snapshot.{Snapshot}
use Rattle.predicates_path.specs.Snapshot.{content_of}

-- the path of the file
abbrev pub compared_path : FileTestPredicate BinaryFilePredicate → List ℕ
compared_path p = string_bytes p.test.path

-- the bytes of the file
abbrev pub compared_bytes : FileTestPredicate BinaryFilePredicate → List ℕ
compared_bytes p = p.test.content.items

abbrev pub equality_text : List ℕ → List ℕ
equality_text path = codes "var is " ++ path

-- the debug form of bytes
abbrev pub shown_bytes : List ℕ → Entry
shown_bytes bytes = debug_list (λ n. Some (decimal n)) bytes

abbrev pub has_bytes : List ℕ → List ℕ → Bool
has_bytes bytes found = bytes_eq found bytes

-- the content is there, and is the bytes
abbrev pub has_content : List ℕ → Result (List ℕ) PathFault → Bool
has_content bytes (Ok found) = has_bytes bytes found
has_content bytes (Err fault) = false

-- a leaf without products, for a file with the path and the bytes
abbrev pub equals_bytes : List ℕ → List ℕ → List ℕ → Formula
equals_bytes path bytes found = Leaf (plain (Some (equality_text path))) (has_bytes bytes found)

abbrev pub equals_content : List ℕ → List ℕ → Snapshot → Formula
equals_content path bytes s = Leaf (plain (Some (equality_text path)))
    (has_content bytes (content_of s))
