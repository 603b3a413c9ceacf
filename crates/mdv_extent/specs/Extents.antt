-- The extents of soft partitions on one base.
use Rattle.std.specs.Prelude.{◌≡◌, ◌≤◌, ◌&&◌, ◌||◌, ℕ, Bool, nat_le, true, false, List, [], ◌∷◌, length, All, sum_by, map}
use Rattle.std.specs.List.{list_all}
use Rattle.mdv_extent.specs.declared.run.Run.{Run}
use Rattle.mdv_extent.specs.Runs.{end_of, has, covers, takes, with_header, IsInOrder}

-- no block has two of the extents, with their headers
abbrev pub IsApart : List Run → Type 0
IsApart [] = Unit {0}
IsApart (r ∷ extents) = ((k : ℕ) → has (with_header r) k ≡ true → takes extents k ≡ false) × IsApart extents

-- an extent has a block, and one before it for its header, and ends within the base
pub record IsExtent (blocks : ℕ) (r : Run) : Type 0 where
  pub header : 1 ≤ r.at
  pub whole : 1 ≤ r.blocks
  pub within : end_of r ≤ blocks

-- the extents of soft partitions on one base
pub record LieApart (blocks : ℕ) (extents : List Run) : Type 0 where
  pub lie : All (IsExtent blocks) extents
  pub apart : IsApart extents

-- Below: the same as a test.

abbrev pub is_extent : ℕ → Run → Bool
is_extent blocks r = nat_le 1 r.at && (nat_le 1 r.blocks && nat_le (end_of r) blocks)

-- runs that have a block, and none in common
abbrev pub is_clear_of : Run → Run → Bool
is_clear_of r s = nat_le (end_of r) s.at || nat_le (end_of s) r.at

abbrev pub is_clear_of_all : Run → List Run → Bool
is_clear_of_all r runs = list_all (λ s. is_clear_of (with_header r) (with_header s)) runs

-- whether they can be the extents of soft partitions on one base
unfoldable pub lie_apart : ℕ → List Run → Bool
lie_apart blocks [] = true
lie_apart blocks (r ∷ extents) = is_extent blocks r && (is_clear_of_all r extents && lie_apart blocks extents)

-- the extents that one soft partition may have on a base of so many blocks
pub record IsExtents (blocks : ℕ) (extents : List Run) : Type 0 where
  pub few : length extents ≤ 16
  pub on_base : LieApart blocks extents

-- extents that so many blocks of free runs are made: they lie, with their headers, in the runs and in their order
pub record IsAllotment (low high : ℕ) (free : List Run) (need : ℕ) (extents : List Run) : Type 0 where
  pub few : length extents ≤ 16
  pub sum : sum_by (λ (r : Run). r.blocks) extents ≡ need
  pub whole : All (λ (r : Run). (1 ≤ r.at) × (1 ≤ r.blocks)) extents
  pub order : IsInOrder low high (map with_header extents)
  pub free_before : (k : ℕ) → takes extents k ≡ true → covers free k ≡ true
