-- The places that are asked for.
use Rattle.std.specs.Prelude.{◌≡◌, ◌<◌, ◌≤◌, ◌+◌, ◌*◌, ◌^◌, nat_lt, if◌then◌else◌, ℕ, List, length, map, slice_index_or, AllPairs, Contains}
use Rattle.mdv_acts.specs.Below.{DriveNo, SliceLine}

-- There are such places: on each slice so many, one behind another, within it and its drive; fifty at most, and no slice twice.
pub record AreAsked (sizes : List ℕ) (lines : List SliceLine) (count blocks : ℕ) : Type 0 where
  pub some : 1 ≤ length lines
  pub more : 1 ≤ count
  pub few : length lines * count ≤ 50
  pub least : 16 ≤ blocks
  pub most : blocks ≤ 8192
  pub within : (line : SliceLine) → Contains lines line → 16 + count * blocks ≤ line.at.blocks
  pub drive : (line : SliceLine) → Contains lines line → line.at.drive.0 < length sizes
  pub laid : (line : SliceLine) → Contains lines line → line.at.start + line.at.blocks ≤ slice_index_or sizes line.at.drive.0 0
  pub small : (line : SliceLine) → Contains lines line → slice_index_or sizes line.at.drive.0 0 < 2 ^ 64
  pub once : AllPairs (λ (a b : SliceLine). a ≡ b → ⊥) lines

abbrev pub drives_asked : List SliceLine → List DriveNo
drives_asked lines = map (λ (line : SliceLine). line.at.drive) lines

-- so many masters are blanked: those of slices that get more than one place
abbrev pub blanked_asked : List SliceLine → ℕ → ℕ
blanked_asked lines count = if nat_lt 1 count then length lines * count else 0
