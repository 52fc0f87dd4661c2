-- What the holder of a text that is there for good may do.
use Rattle.std.specs.Prelude.{◌≡◌, ℕ, List, []}
use base.Fml.{Fml}
use denote.Builtin.{u8}
use denote.RawPtr.{Ptr, block_ptr, block_of, count_of}
use denote.Slice.{elements_shared}

-- the address p lies in a block, so it is not null
abbrev pub IsPlaced : Ptr → Type 0
IsPlaced p = p ≡ block_ptr (block_of p) (count_of p)

-- the right to read the bytes xs at p under the lifetime `[]`, which never ends
abbrev pub static_bytes_own : Ptr → List ℕ → Fml
static_bytes_own p xs = elements_shared u8 xs (block_of p) (count_of p) []
