-- What a snapshot holds.
use Rattle.std.specs.Prelude.{◌≡◌, ◌≢◌, ℕ, List, Vec, Result, Ok, Err, IfErr, IfOk, string_bytes}
use Rattle.std.specs.Global.{Global}
use Rattle.predicates_path.specs.declared.snapshot.Snapshot.{Snapshot}
use Rattle.predicates_path.specs.declared.file_type.FileType.{FileType}
use Rattle.predicates_path.specs.declared.file_type.FileType.TheVariants.{File}
use Rattle.predicates_path.specs.declared.fault.PathFault.{PathFault}
use Rattle.predicates_path.specs.declared.fault.PathFault.TheVariants.{NotRegular}

-- `Vec<u8>`, with the allocator `Global`
abbrev pub Bytes : Type 0
Bytes = Vec ℕ Global

-- the path that was given
abbrev pub path_of : Snapshot → List ℕ
path_of s = string_bytes s.path

-- the kind without following links
abbrev pub plain_of : Snapshot → Result FileType PathFault
plain_of s = s.plain

-- the kind with following links
abbrev pub followed_of : Snapshot → Result FileType PathFault
followed_of s = s.followed

-- the content, as it is stored
abbrev pub held_of : Snapshot → Result Bytes PathFault
held_of s = s.content

-- the bytes of what was read, or its fault
abbrev pub read_bytes : {V : Type 0} → (V → List ℕ) → Result V PathFault → Result (List ℕ) PathFault
read_bytes items (Ok bytes) = Ok (items bytes)
read_bytes items (Err fault) = Err fault

-- the bytes of the content
abbrev pub content_of : Snapshot → Result (List ℕ) PathFault
content_of s = read_bytes (λ bytes. bytes.items) (held_of s)

-- content is there only behind a regular file
pub record IsConsistent (s : Snapshot) : Type 0 where
  pub missing : IfErr (followed_of s) (λ fault. content_of s ≡ Err fault)
  pub not_regular : IfOk (followed_of s) (λ kind. kind ≢ File → content_of s ≡ Err NotRegular)
