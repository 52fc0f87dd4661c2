-- What the equality with a file's text compares.
use Rattle.std.specs.Prelude.{ℕ, List, string_bytes}
use Rattle.predicates_path.specs.declared.file_test.FileTestPredicate.{FileTestPredicate}
use Rattle.predicates_path.specs.declared.equality.StrFilePredicate.{StrFilePredicate}

-- the path of the file
abbrev pub compared_path : FileTestPredicate StrFilePredicate → List ℕ
compared_path p = string_bytes p.test.path

-- the bytes of the text of the file
abbrev pub compared_text : FileTestPredicate StrFilePredicate → List ℕ
compared_text p = string_bytes p.test.content
