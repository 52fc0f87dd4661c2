-- The parts of a check's nodes.
use Rattle.std.specs.Prelude.{ℕ, List, Some, codes, string_bytes}
use Rattle.predicates_tree.specs.Trees.{Words}
use Rattle.vet_checks.specs.declared.elements.Elements.{Elements}
use Rattle.vet_checks.specs.declared.path_test.PathTest.{PathTest}
use Rattle.vet_checks.specs.declared.written.Written.{Written}

abbrev pub text_of_test : PathTest → List ℕ
text_of_test t = string_bytes t.text

abbrev pub path_of_test : PathTest → List ℕ
path_of_test t = string_bytes t.path

abbrev pub path_of_view : Elements → List ℕ
path_of_view e = string_bytes e.path

-- a node prints the text, and where it is over several, each is a part
abbrev pub written : List ℕ → Words
written text = record { text = Some text; part = codes "part" }

abbrev pub words_of_node : Written → Words
words_of_node w = written (string_bytes w.text)
