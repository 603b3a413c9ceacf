-- How a change moves the maps of volumes.
use Rattle.std.specs.Prelude.{◌≡◌, ℕ, ◌<◌, ◌≤◌, List, Option, None, Some, Contains}
use Rattle.mdv_growing_law.specs.Below.{AddRow, Change, Clear, ClearAll, ClearBelow, Geometry, HasDriveBlock, IsSound, IsStepOf, MakeStripe, Map, PoolId, RowAsked, Table, VolId}
use Rattle.mdv_layout_law.specs.Chained.{IsFrontOf}
use Rattle.mdv_layout_law.specs.Layout.{IsMapOf, map_of}

-- how many blocks a volume has; none where it has no map
abbrev pub blocks_at : Option Map → ℕ
blocks_at None = 0
blocks_at (Some v) = v.blocks

-- where a map of the table behind the change comes from
pub data Went (g : Geometry) (old : Table) (volume : VolId) (v : Map) : Type 0 where
  stayed : IsMapOf g old volume v → Went g old volume v
  -- the volume has more blocks behind those that it had
  grew : (w : Map) → IsMapOf g old volume w → IsFrontOf w v → Went g old volume v
  began : map_of g old volume ≡ None → Went g old volume v

-- the blocks of a map from that one on lie in no map of the table
abbrev pub IsFresh : Geometry → Table → ℕ → Map → Type 0
IsFresh g t from v = (other : VolId) (u : Map) (a b drive block : ℕ) → IsMapOf g t other u → a < u.blocks → from ≤ b → b < v.blocks
    → HasDriveBlock (u.places a) drive block → HasDriveBlock (v.places b) drive block → ⊥

-- the volume had no map, and has one; those of others stay
pub record IsMadeAnew (g : Geometry) (volume : VolId) (old next : Table) : Type 0 where
  pub none : map_of g old volume ≡ None
  pub map : Map
  pub lies : IsMapOf g next volume map
  pub others : (other : VolId) → (other ≡ volume → ⊥) → map_of g next other ≡ map_of g old other

-- the volume had this map, and has one that begins with it; those of others stay
pub record IsGrown (g : Geometry) (volume : VolId) (old next : Table) : Type 0 where
  pub before : Map
  pub was : IsMapOf g old volume before
  pub map : Map
  pub lies : IsMapOf g next volume map
  pub front : IsFrontOf before map
  pub others : (other : VolId) → (other ≡ volume → ⊥) → map_of g next other ≡ map_of g old other

-- The change takes the volume away. None lies below another yet, so that with those below them only the volumes go that it names.
abbrev pub Clears : Change → VolId → Type 0
Clears (Clear volumes pools) volume = Contains volumes volume
Clears (ClearBelow volumes pools) volume = Contains volumes volume
Clears ClearAll volume = Unit {0}
Clears other volume = ⊥

-- it takes volumes away, and makes none
abbrev pub IsClearing : Change → Type 0
IsClearing (Clear volumes pools) = Unit {0}
IsClearing (ClearBelow volumes pools) = Unit {0}
IsClearing ClearAll = Unit {0}
IsClearing other = ⊥

-- the volumes that the change takes away have no map, and the others have that which they had
pub record IsCleared (g : Geometry) (change : Change) (old next : Table) : Type 0 where
  pub gone : (volume : VolId) → Clears change volume → map_of g next volume ≡ None
  pub others : (volume : VolId) → (Clears change volume → ⊥) → map_of g next volume ≡ map_of g old volume

-- changes of tables of a geometry
pub record MapsGo : Type 0 where
  pub went : (g : Geometry) (change : Change) (old next : Table) (volume : VolId) (v : Map) → IsStepOf g change old next → IsMapOf g next volume v → Went g old volume v
  -- what was there is there, as it was or longer, unless the change takes it away
  pub keeps : (g : Geometry) (change : Change) (old next : Table) (volume : VolId) (w : Map) → IsStepOf g change old next → (Clears change volume → ⊥) → IsMapOf g old volume w
      → (v : Map) × IsMapOf g next volume v × IsFrontOf w v
  -- what a volume has now and didn't have belonged to none
  pub fresh : (g : Geometry) (change : Change) (old next : Table) (volume : VolId) (v : Map) → IsSound g → IsStepOf g change old next → IsMapOf g next volume v
      → IsFresh g old (blocks_at (map_of g old volume)) v
  -- so it is where a volume is made
  pub made : (g : Geometry) (volume : VolId) (rows : List RowAsked) (pool : Option PoolId) (old next : Table) → IsStepOf g (MakeStripe volume rows pool) old next → IsMadeAnew g volume old next
  -- and so where it has a row more
  pub grown : (g : Geometry) (volume : VolId) (asked : RowAsked) (old next : Table) → IsStepOf g (AddRow volume asked) old next → IsGrown g volume old next
  -- where volumes are cleared, these alone go
  pub cleared : (g : Geometry) (change : Change) (old next : Table) → IsClearing change → IsStepOf g change old next → IsCleared g change old next
