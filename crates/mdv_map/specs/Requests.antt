-- What a request does to the blocks of a volume, and what it knows of them, whatever others do to other blocks.
use Rattle.std.specs.Prelude.{◌≡◌, ℕ, ◌+◌, ◌<◌, Bool, true, List, [], length, slice_index_or}
use Rattle.mdv_map.specs.Below.{Among, IsKept, IsOldOrNew, MayLeave, Tale, last, told}
use Rattle.mdv_map.specs.Maps.{Map, HasDriveBlock, readings}

-- a block of a drive belongs to none of so many blocks of the volume, from that one on
abbrev pub IsOff : Map → ℕ → ℕ → ℕ → ℕ → Type 0
IsOff v at count drive block = (k : ℕ) → k < count → HasDriveBlock (v.places (at + k)) drive block → ⊥

-- Blocks of the volume are being written, those from that one on: wherever one lies, it is as it was or new, every other block of
-- the drives is kept, and nothing is told. Where none is written, all is kept: so it is for reads and syncs.
pub record Rewriting (v : Map) (at : ℕ) (news : List (List ℕ)) (t m : Tale) : Type 0 where
  pub inside : (k drive block : ℕ) → k < length news → HasDriveBlock (v.places (at + k)) drive block → IsOldOrNew t m drive block (slice_index_or news k [])
  pub outside : (drive block : ℕ) → IsOff v at (length news) drive block → IsKept t m drive block
  pub quiet : told m ≡ told t

-- each copy of the first so many of these blocks reads so
abbrev pub AreRead : Map → ℕ → ℕ → List (List ℕ) → Tale → Type 0
AreRead v at count blocks t = (k : ℕ) (x : List ℕ) → k < count → Among (readings v (last t) (at + k)) x → x ≡ slice_index_or blocks k []

-- of all of them
abbrev pub AllRead : Map → ℕ → List (List ℕ) → Tale → Type 0
AllRead v at blocks t = AreRead v at (length blocks) blocks t

-- of the copies of these blocks on the drives that pass a test a crash leaves only what a read gives
abbrev pub OnDrives : Map → (ℕ → Bool) → ℕ → ℕ → Tale → Type 0
OnDrives v passes at count t = (k drive block : ℕ) (x : List ℕ) → k < count → HasDriveBlock (v.copies (at + k)) drive block → passes drive ≡ true → MayLeave t drive block x → x ≡ last t drive block

-- of all their copies
abbrev pub AllOnDisk : Map → ℕ → ℕ → Tale → Type 0
AllOnDisk v at count t = (k drive block : ℕ) (x : List ℕ) → k < count → HasDriveBlock (v.copies (at + k)) drive block → MayLeave t drive block x → x ≡ last t drive block

-- the drive of each copy of these blocks passes the test
abbrev pub AreDrivesOf : (ℕ → Bool) → Map → ℕ → ℕ → Type 0
AreDrivesOf passes v at count = (k drive block : ℕ) → k < count → HasDriveBlock (v.copies (at + k)) drive block → passes drive ≡ true

-- each copy of these blocks is kept
abbrev pub AreCopiesKept : Map → ℕ → ℕ → Tale → Tale → Type 0
AreCopiesKept v at count t m = (k drive block : ℕ) → k < count → HasDriveBlock (v.copies (at + k)) drive block → IsKept t m drive block
