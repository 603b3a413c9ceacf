-- Slices that lie within their drives.
use Rattle.std.specs.Prelude.{ℕ, ◌+◌, ◌*◌, ◌^◌, ◌<◌, ◌≤◌, List, length, slice_index_or}
use Rattle.mdv_name.specs.declared.slice_lines.SliceLine.{SliceLine}

-- the slice ends within its drive, which is one of those of these sizes
pub record EndsWithin (sizes : List ℕ) (line : SliceLine) : Type 0 where
  pub there : line.at.drive.0 < length sizes
  pub within : line.at.start + line.at.blocks ≤ slice_index_or sizes line.at.drive.0 0
  pub small : slice_index_or sizes line.at.drive.0 0 < 2 ^ 64

-- so many places of so many blocks have room on it
pub record HasRoom (sizes : List ℕ) (count blocks : ℕ) (line : SliceLine) : Type 0 where
  pub ends : EndsWithin sizes line
  pub room : 16 + count * blocks ≤ line.at.blocks
