-- When a file is a script.
use Rattle.std.specs.Prelude.{◌≡◌, ℕ, Bool, true, false, ◌&&◌, List, Option, MatchOption, Result}
use Rattle.std.specs.Prelude.{Ok, Err, codes}
use Rattle.std.specs.Str.{chars, is_utf8}
use Rattle.predicates_core.specs.Tree.{Tree}
use Rattle.predicates_core.specs.Describe.{CaseNode}
use Rattle.predicates_text.specs.Places.{is_front}
use Rattle.predicates_path.specs.declared.fault.PathFault.{PathFault}
use Rattle.predicates_path.specs.declared.file_type.FileType.TheVariants.{File}
use Rattle.predicates_path.specs.declared.snapshot.Snapshot.{Snapshot}
use Rattle.predicates_path.specs.Kind.{has_kind}
use Rattle.predicates_path.specs.Snapshot.{Bytes, followed_of, held_of}

-- the content is there, is text, and begins with the mark
abbrev pub is_marked : List ℕ → Result Bytes PathFault → Bool
is_marked mark (Ok bytes) = is_utf8 bytes.items && is_front (chars mark) (chars bytes.items)
is_marked mark (Err fault) = false

-- the path leads to a regular file, whose text begins with `#!`
abbrev pub is_script : Snapshot → Bool
is_script s = has_kind File (followed_of s) && is_marked (codes "#!") (held_of s)

-- none where it is one, and a case where it is not
abbrev pub IsNoScript : Snapshot → Option (Tree CaseNode) → Type 0
IsNoScript s found = MatchOption found (is_script s ≡ true) (λ case. is_script s ≡ false)
