-- What a table of drives says of its slices.
use Rattle.std.specs.Prelude.{◌≡◌, ◌<◌, ◌≤◌, ◌+◌, ◌==◌, ◌&&◌, ℕ, Bool, false, nat_lt, max, min, Option, Some, List}
use Rattle.mdv_config.specs.Below.{SliceName, SliceAt, SliceLine, HasSlice, slice_at}
pub use Rattle.mdv_name.specs.Sound.{IsSound, IsSoundSlice}

-- the block of the drive is one of the slice
pub record HasBlock (at : SliceAt) (block : ℕ) : Type 0 where
  pub first : at.start ≤ block
  pub last : block < at.start + at.blocks

-- they lie on one drive and share a block, as each slice does with itself
pub record Overlap (a b : SliceAt) : Type 0 where
  pub drive : a.drive ≡ b.drive
  pub block : ℕ
  pub in_first : HasBlock a block
  pub in_second : HasBlock b block

-- the slice of this name overlaps another, which lies there
pub record OverlapsAt (lines : List SliceLine) (name : SliceName) (other : SliceAt) : Type 0 where
  pub at : SliceAt
  pub has : HasSlice lines name at
  pub overlap : Overlap at other

-- the slices of these names overlap
pub record Overlaps (lines : List SliceLine) (m n : SliceName) : Type 0 where
  pub first : SliceAt
  pub second : SliceAt
  pub has_first : HasSlice lines m first
  pub has_second : HasSlice lines n second
  pub overlap : Overlap first second

-- by a test: the later of their starts is before the earlier of their ends
abbrev pub share_a_block : SliceAt → SliceAt → Bool
share_a_block a b = (a.drive.0 == b.drive.0) && nat_lt (max a.start b.start) (min (a.start + a.blocks) (b.start + b.blocks))

abbrev pub both_share : Option SliceAt → Option SliceAt → Bool
both_share (Some a) (Some b) = share_a_block a b
both_share _ _ = false

-- where a slice isn't there, none overlaps it
abbrev pub overlaps_by : List SliceLine → SliceName → SliceName → Bool
overlaps_by lines m n = both_share (slice_at lines m) (slice_at lines n)
