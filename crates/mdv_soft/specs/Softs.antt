-- Soft partitions: which blocks of their base are theirs, and which extents make none.
use Rattle.std.specs.Prelude.{◌≡◌, ℕ, ◌+◌, ◌-◌, ◌&&◌, ◌<◌, ◌≤◌, Bool, nat_le, nat_lt, List, [], ◌∷◌, length, sum_by, if◌then◌else◌}
use Rattle.std.specs.List.{All, Any}
use Rattle.mdv_soft.specs.Below.{IsApart, IsExtent, IsExtents, Map, Run, end_of, soft_map}
use Rattle.mdv_soft.specs.declared.no_soft.NoSoft.{NoSoft}
use Rattle.mdv_soft.specs.declared.no_soft.NoSoft.TheVariants.{TooFew, TooMany, EmptyExtent, NoHeader, PastTheEnd, SharedBlock}

-- how many blocks the extents have together
abbrev pub total : List Run → ℕ
total extents = sum_by (λ (r : Run). r.blocks) extents

-- which block of the base a block is: the extents' blocks follow one another
abbrev pub picked : List Run → ℕ → ℕ
picked [] b = 0
picked (r ∷ extents) b = if nat_lt b r.blocks then r.at + b else picked extents (b - r.blocks)

-- how many blocks there are from that one on to the end of its extent
abbrev pub left_in : List Run → ℕ → ℕ
left_in [] b = 0
left_in (r ∷ extents) b = if nat_lt b r.blocks then r.blocks - b else left_in extents (b - r.blocks)

-- a soft partition's map: each block lies where the block of the base lies that it is
abbrev pub soft_on : Map → List Run → Map
soft_on v extents = soft_map (picked extents) (total extents) v

-- one extent to sixteen
pub record AreFew (extents : List Run) : Type 0 where
  pub some : 0 < length extents
  pub most : length extents ≤ 16

-- the extents of a soft partition on a base of so many blocks
pub record IsSoft (blocks : ℕ) (extents : List Run) : Type 0 where
  pub some : 0 < length extents
  pub are : IsExtents blocks extents

-- why they make none; each cause comes where those before it don't
abbrev pub IsNoSoft : ℕ → List Run → NoSoft → Type 0
IsNoSoft blocks extents TooFew = length extents ≡ 0
IsNoSoft blocks extents TooMany = 16 < length extents
IsNoSoft blocks extents EmptyExtent = AreFew extents × Any (λ (r : Run). r.blocks ≡ 0) extents
IsNoSoft blocks extents NoHeader = AreFew extents × All (λ (r : Run). 0 < r.blocks) extents × Any (λ (r : Run). r.at ≡ 0) extents
IsNoSoft blocks extents PastTheEnd = AreFew extents × All (λ (r : Run). 0 < r.blocks) extents × All (λ (r : Run). 0 < r.at) extents × Any (λ (r : Run). blocks < end_of r) extents
IsNoSoft blocks extents SharedBlock = AreFew extents × All (IsExtent blocks) extents × (IsApart extents → ⊥)

-- two extents with their headers have a block in common
abbrev pub meet : Run → Run → Bool
meet r s = nat_le r.at (end_of s) && nat_le s.at (end_of r)
