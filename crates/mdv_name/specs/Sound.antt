-- What a table of drives that was read says of its slices.
use Rattle.std.specs.Prelude.{◌≡◌, ◌<◌, ◌≤◌, ◌+◌, ◌^◌}
use Rattle.mdv_base.specs.declared.drive.SliceName.{SliceName}
use Rattle.mdv_name.specs.Drive.{IsSliceName}
use Rattle.mdv_name.specs.SliceIndex.{HasSlice}
use Rattle.mdv_name.specs.declared.geometry.Geometry.{Geometry}
use Rattle.mdv_name.specs.declared.slice_lines.SliceAt.{SliceAt}

-- a slice of the first 256 drives, of one block at least, that ends within 2 ^ 40 blocks
pub record IsSoundSlice (slice : SliceName) (at : SliceAt) : Type 0 where
  pub named : IsSliceName slice
  pub drive : at.drive.0 < 256
  pub some : 0 < at.blocks
  pub within : at.start + at.blocks ≤ 2 ^ 40

-- each slice is named once, and a drive's number stands for one drive
pub record IsSound (g : Geometry) : Type 0 where
  pub each : (name : SliceName) (at : SliceAt) → HasSlice g.slices name at → IsSoundSlice name at
  pub once : (name : SliceName) (a b : SliceAt) → HasSlice g.slices name a → HasSlice g.slices name b → a ≡ b
  pub drives : (m n : SliceName) (a b : SliceAt) → HasSlice g.slices m a → HasSlice g.slices n b → a.drive ≡ b.drive → m.drive ≡ n.drive
