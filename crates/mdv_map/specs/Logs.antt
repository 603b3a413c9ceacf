-- What each block of a volume has lived through.
use Rattle.std.specs.Prelude.{◌≡◌, ℕ, ◌+◌, ◌-◌, ◌<◌, Bool, ◌&&◌, nat_le, nat_lt, List, [], ◌∷◌, ◌++◌, length, slice_index_or, if◌then◌else◌}
use Rattle.mdv_map.specs.Below.{Among, Image, IsImage, Tale, last, values}
use Rattle.mdv_map.specs.Maps.{DriveBlock, Map, readings}

-- The values that a block may have, the newest first. A read may give that of the last write that was answered, and each that was
-- issued since; a crash may leave that of the last that was put on the disk, and each that was issued since.
pub record BlockLog : Type 0 where
  pub reads : List (List ℕ)
  pub leaves : List (List ℕ)

-- those of a volume's blocks
abbrev pub VolumeLog : Type 0
VolumeLog = ℕ → BlockLog

-- whether a block is one of so many from that one on
abbrev pub is_among : ℕ → ℕ → ℕ → Bool
is_among at count b = nat_le at b && nat_lt b (at + count)

-- the one value
abbrev pub only : List ℕ → BlockLog
only x = record { reads = x ∷ []; leaves = x ∷ [] }

-- blocks begin to be written
abbrev pub after_issue : ℕ → List (List ℕ) → VolumeLog → VolumeLog
after_issue at blocks log b =
    if is_among at (length blocks) b then record { reads = slice_index_or blocks (b - at) [] ∷ (log b).reads; leaves = slice_index_or blocks (b - at) [] ∷ (log b).leaves } else log b

-- a write of blocks was answered
abbrev pub after_answer : ℕ → List (List ℕ) → VolumeLog → VolumeLog
after_answer at blocks log b = if is_among at (length blocks) b then record (log b) { reads = slice_index_or blocks (b - at) [] ∷ [] } else log b

-- blocks were put on the disk
abbrev pub after_flush : ℕ → ℕ → VolumeLog → VolumeLog
after_flush at count log b = if is_among at count b then record (log b) { leaves = (log b).reads } else log b

-- there was a crash
abbrev pub after_crash : VolumeLog → VolumeLog
after_crash log b = record (log b) { reads = (log b).leaves }

-- a boot found one value of each block
abbrev pub after_boot : (ℕ → List ℕ) → VolumeLog → VolumeLog
after_boot content log b = only (content b)

-- from that block on the logs are others
abbrev pub after_begin : ℕ → VolumeLog → VolumeLog → VolumeLog
after_begin from logs log b = if nat_lt b from then log b else logs b

-- what a crash may leave in any of these blocks
abbrev pub left_in : Tale → List DriveBlock → List (List ℕ)
left_in t [] = []
left_in t (s ∷ ss) = values t s.drive s.block ++ left_in t ss

-- the logs that begin now: what a read gives, and what a crash may leave
abbrev pub opening : Map → Tale → VolumeLog
opening v t b = record { reads = readings v (last t) b; leaves = left_in t (v.copies b) }

-- each of these values may be read and may be left
abbrev pub AreIssued : VolumeLog → ℕ → List (List ℕ) → Type 0
AreIssued log at blocks = (k : ℕ) → k < length blocks → Among (log (at + k)).reads (slice_index_or blocks k []) × Among (log (at + k)).leaves (slice_index_or blocks k [])

-- each of these values is the last that was issued for its block
abbrev pub AreLastIssued : VolumeLog → ℕ → List (List ℕ) → Type 0
AreLastIssued log at blocks = (k : ℕ) → k < length blocks → (older : List (List ℕ)) × ((log (at + k)).reads ≡ slice_index_or blocks k [] ∷ older)

-- The drives follow the log: whatever a read gives of any copy, and whatever a crash leaves there, is in it.
pub record Follows (v : Map) (log : VolumeLog) (t : Tale) : Type 0 where
  pub reads : (b : ℕ) (x : List ℕ) → b < v.blocks → Among (readings v (last t) b) x → Among (log b).reads x
  pub leaves : (image : Image) (b : ℕ) (x : List ℕ) → IsImage t image → b < v.blocks → Among (readings v image b) x → Among (log b).leaves x
