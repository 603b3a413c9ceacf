-- Which tables are of a geometry.
use Rattle.std.specs.Prelude.{◌≡◌, ◌<◌, ◌≤◌, ◌+◌, ◌%◌, ◌^◌, ◌⊎◌, ℕ, true, false, None, List, [], ◌∷◌, length, map, replicate, sum_by, All, AllPairs, IsTrue}
use Rattle.mdv_config.specs.Below.{SliceName, Place, Geometry, SliceAt, HasSlice, are_spaced, meets_db, no_set, IsSorted, Lists, One, Two, Plan, Table}
use Rattle.mdv_config.specs.Below.{Base, Slice, Volume, Component, Row, OneStripe, OneVolume, VolumeKind, Stripe}
use Rattle.mdv_config.specs.Below.{KindStatus, StripeNoted, SoftNoted, PartStatus, Okay, Status, VolumeStatus}
use Rattle.mdv_config.specs.Lists.{places_of, component_slices}
use Rattle.mdv_config.specs.Slices.{Overlaps}

-- 16 to 8192 blocks of a slice that is set aside for replicas, within it, from a block on whose number has 32 bits
pub record IsPlaceIn (at : SliceAt) (p : Place) : Type 0 where
  pub db : at.db ≡ true
  pub start : p.start < 2 ^ 32
  pub least : 16 ≤ p.blocks
  pub most : p.blocks ≤ 8192
  pub within : p.start + p.blocks ≤ at.blocks

-- a replica lies in a slice of the geometry, which no other slice that is set aside for replicas overlaps
pub record IsPlaceOf (g : Geometry) (p : Place) : Type 0 where
  pub at : SliceAt
  pub has : HasSlice g.slices p.slice at
  pub lies : IsPlaceIn at p
  pub clear : meets_db g p.slice ≡ false

-- 1 to 50 different places, and all of a slice have one number b of blocks and start at 16 + k * b
pub record IsPlacesOf (g : Geometry) (places : List Place) : Type 0 where
  pub some : 1 ≤ length places
  pub few : length places ≤ 50
  pub spaced : IsTrue (are_spaced (One places))
  pub differ : AllPairs (λ (p q : Place). p ≡ q → ⊥) places
  pub each : All (IsPlaceOf g) places

-- one list of places, or two, whose places of a slice have one number b of blocks and start at 16 + k * b in both: so two of them are equal or apart
abbrev pub IsListsOf : Geometry → Lists → Type 0
IsListsOf g (One places) = IsPlacesOf g places
IsListsOf g (Two old new) = IsPlacesOf g old × IsPlacesOf g new × IsTrue (are_spaced (Two old new))

-- so many blocks from the first one on of a slice that isn't set aside for replicas, and has as many
pub record IsPartIn (at : SliceAt) (blocks : ℕ) (c : Component) : Type 0 where
  pub plain : at.db ≡ false
  pub start : c.start ≡ 0
  pub blocks_are : c.blocks ≡ blocks
  pub within : blocks ≤ at.blocks

-- a component lies in a slice of the geometry, which no other slice that is set aside for replicas overlaps
pub record IsPart (g : Geometry) (blocks : ℕ) (c : Component) (slice : SliceName) : Type 0 where
  pub at : SliceAt
  pub has : HasSlice g.slices slice at
  pub lies : IsPartIn at blocks c
  pub clear : meets_db g slice ≡ false

-- no component lies on a volume yet
abbrev pub IsPartOn : Geometry → ℕ → Component → Base → Type 0
IsPartOn g blocks c (Slice slice) = IsPart g blocks c slice
IsPartOn g blocks c (Volume v) = ⊥

abbrev pub first_blocks : List Component → ℕ
first_blocks [] = 0
first_blocks (c ∷ cs) = c.blocks

-- how many blocks each component of the row has
abbrev pub row_depth : Row → ℕ
row_depth row = first_blocks row.components

abbrev pub width : Row → ℕ
width row = length row.components

-- all components have as many blocks, in whole interlaces where there are several
pub record IsRowOf (g : Geometry) (row : Row) : Type 0 where
  pub least : 16 ≤ row.interlace
  pub most : row.interlace ≤ 204800
  pub some : 0 < row_depth row
  pub units : (width row ≡ 1) ⊎ (row_depth row % row.interlace ≡ 0)
  pub each : All (λ c. IsPartOn g (row_depth row) c c.on) row.components

-- over all rows
abbrev pub width_of : OneStripe → ℕ
width_of s = sum_by width s.rows

-- rows of at most 100 components together; nothing takes spares yet
pub record IsRowsOf (g : Geometry) (s : OneStripe) : Type 0 where
  pub some : 0 < length s.rows
  pub few : width_of s ≤ 100
  pub each : All (IsRowOf g) s.rows
  pub spares : s.spares ≡ None

-- other kinds don't come yet
abbrev pub IsKindOf : Geometry → VolumeKind → Type 0
IsKindOf g (Stripe s) = IsRowsOf g s
IsKindOf g other = ⊥

-- no two uses of slices overlap: components, and a component and a replica
pub record IsApart (g : Geometry) (places : List Place) (slices : List SliceName) : Type 0 where
  pub components : AllPairs (λ m n. Overlaps g.slices m n → ⊥) slices
  pub replicas : All (λ n. All (λ p. Overlaps g.slices p.slice n → ⊥) places) slices

-- a component that is Okay and lies on its own base
abbrev pub quiet_part : PartStatus
quiet_part = record { state = Okay; spare = None }

-- what is noted of a volume where nothing ever failed; a soft partition has no state, and other kinds don't come yet
abbrev pub quiet_kind : VolumeKind → KindStatus
quiet_kind (Stripe s) = StripeNoted (replicate (width_of s) quiet_part)
quiet_kind other = SoftNoted

abbrev pub quiet_volume : OneVolume → VolumeStatus
quiet_volume v = record { number = v.number; kind = quiet_kind v.kind }

abbrev pub quiet_status : Plan → Status
quiet_status p = record { volumes = map quiet_volume p.volumes; spares = [] }

abbrev pub volume_key : OneVolume → ℕ
volume_key v = v.number.0

-- a local database without sets and pools
pub record IsLocal (p : Plan) : Type 0 where
  pub set : p.set ≡ no_set
  pub pending : p.pending ≡ []
  pub pools : p.pools ≡ []

pub record IsOfGeometry (g : Geometry) (t : Table) : Type 0 where
  pub lists : IsListsOf g t.plan.lists
  pub numbers : IsSorted volume_key 8192 t.plan.volumes
  pub kinds : All (λ (v : OneVolume). IsKindOf g v.kind) t.plan.volumes
  pub apart : IsApart g (places_of t.plan.lists) (component_slices t.plan.volumes)
  pub alone : IsLocal t.plan
  pub quiet : t.status ≡ quiet_status t.plan
