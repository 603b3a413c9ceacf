-- Blocks that are written and then synced.
use Rattle.std.specs.Prelude.{◌≡◌, ◌⊎◌, ℕ, ◌+◌, ◌-◌, ◌<◌, true, List, [], length, slice_index_or}
use Rattle.mdv_shelf.specs.Tale.{Tale, last, MayLeave, told, covers}
use Rattle.mdv_shelf.specs.Area.{range, KeptOutside}
use Rattle.mdv_shelf.specs.Calls.{Shows}

-- a block that reads as it did, or has this value, and of which a crash leaves no third
pub record IsOldOrNew (t m : Tale) (drive block : ℕ) (new : List ℕ) : Type 0 where
  pub last : (last m drive block ≡ last t drive block) ⊎ (last m drive block ≡ new)
  pub left : (x : List ℕ) → MayLeave m drive block x → MayLeave t drive block x ⊎ (x ≡ new)

-- a crash leaves on the drive what a read gives
abbrev pub IsSynced : ℕ → Tale → Type 0
IsSynced drive t = (block : ℕ) (x : List ℕ) → MayLeave t drive block x → x ≡ last t drive block

-- these blocks are what a read gives there and all that a crash may leave
pub record IsFixed (drive at : ℕ) (blocks : List (List ℕ)) (t : Tale) : Type 0 where
  pub fixed_shows : Shows t drive at blocks
  pub fixed_only : (k : ℕ) → k < length blocks → (x : List ℕ) → MayLeave t drive (at + k) x → x ≡ slice_index_or blocks k []

-- at each moment: each block of the range is old or new, the others are kept, and nothing is told
pub record Settling (drive at : ℕ) (blocks : List (List ℕ)) (t m : Tale) : Type 0 where
  pub inside : (block : ℕ) → covers drive at (length blocks) drive block ≡ true → IsOldOrNew t m drive block (slice_index_or blocks (block - at) [])
  pub outside : KeptOutside (range drive at (length blocks)) t m
  pub quiet : told m ≡ told t

-- and in the end they are on the disk, with all that the drive was given before
pub record IsSettled (drive at : ℕ) (blocks : List (List ℕ)) (u : Tale) : Type 0 where
  pub shows : Shows u drive at blocks
  pub synced : IsSynced drive u
