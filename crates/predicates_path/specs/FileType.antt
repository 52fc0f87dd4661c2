-- The texts of kinds, when two are the same, and the kind that the system reports.
use Rattle.std.specs.Prelude.{◌≡◌, ◌↔◌, ℕ, Bool, true, false, List, codes}
use Rattle.std.specs.declared.fs.FileType.{FileType as SystemFileType}
use Rattle.std.specs.Fs.{IsDir, IsFile, IsSymlink}
use Rattle.predicates_path.specs.declared.file_type.FileType.{FileType}
use Rattle.predicates_path.specs.declared.file_type.FileType.TheVariants.{File, Dir, Symlink, Other}

-- how a kind is printed
abbrev pub kind_text : FileType → List ℕ
kind_text File = codes "file"
kind_text Dir = codes "dir"
kind_text Symlink = codes "symlink"
kind_text Other = codes "other"

abbrev pub is_same_kind : FileType → FileType → Bool
is_same_kind File File = true
is_same_kind Dir Dir = true
is_same_kind Symlink Symlink = true
is_same_kind Other Other = true
is_same_kind _ _ = false

-- the kind that the system reports, which is `Other` where it is no file, directory or link
pub record IsKindOf (reported : SystemFileType) (kind : FileType) : Type 0 where
  pub file : (kind ≡ File) ↔ IsFile reported
  pub dir : (kind ≡ Dir) ↔ IsDir reported
  pub symlink : (kind ≡ Symlink) ↔ IsSymlink reported
