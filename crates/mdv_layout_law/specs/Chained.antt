-- Volumes one behind another, and the first blocks of a volume.
use Rattle.std.specs.Prelude.{◌≡◌, ℕ, ◌<◌, ◌≤◌, List, [], ◌∷◌, ◌++◌, length, sum_by}
use Rattle.mdv_layout_law.specs.Below.{AreApart, AreDisjoint, IsDisjoint, IsOneCopy, LiesAs, Map, chain_map, column_at, no_map}

-- so many blocks of a volume, from its first one on
abbrev pub front_map : ℕ → Map → Map
front_map count v = record v { blocks = count }

-- a concatenation of all of them; of one alone it is that one
abbrev pub chained : List Map → Map
chained [] = no_map
chained (v ∷ []) = v
chained (v ∷ w ∷ vs) = chain_map v (chained (w ∷ vs))

abbrev pub blocks_in : Map → ℕ
blocks_in v = v.blocks

-- the volume begins with the blocks of another one, each where it is there
pub record IsFrontOf (w v : Map) : Type 0 where
  pub blocks : w.blocks ≤ v.blocks
  pub copies : (b : ℕ) → b < w.blocks → v.copies b ≡ w.copies b
  pub places : (b : ℕ) → b < w.blocks → v.places b ≡ w.places b

-- a block of the concatenation is that block of that volume
pub record LiesInOne (vs : List Map) (b : ℕ) : Type 0 where
  pub index : ℕ
  pub listed : index < length vs
  pub block : ℕ
  pub lies : LiesAs (chained vs) b (column_at vs index) block

-- concatenations of any number of volumes
pub record ChainedLie : Type 0 where
  pub blocks : (vs : List Map) → (chained vs).blocks ≡ sum_by blocks_in vs
  pub lies : (vs : List Map) (b : ℕ) → b < (chained vs).blocks → LiesInOne vs b
  -- each block has one copy where it has in each of them
  pub one : (vs : List Map) → ((i : ℕ) → i < length vs → IsOneCopy (column_at vs i)) → IsOneCopy (chained vs)
  pub disjoint : (vs : List Map) → AreApart vs → IsDisjoint (chained vs)
  pub apart : (vs : List Map) (u : Map) → ((i : ℕ) → i < length vs → AreDisjoint (column_at vs i) u) → AreDisjoint (chained vs) u
  -- where more come behind them, the blocks stay where they are
  pub front : (vs ws : List Map) → IsFrontOf (chained vs) (chained (vs ++ ws))

-- the first blocks of a volume
pub record FrontsLie : Type 0 where
  pub itself : (v : Map) → IsFrontOf v v
  pub front : (count : ℕ) (v : Map) → count ≤ v.blocks → IsFrontOf (front_map count v) v
  pub further : (u w v : Map) → IsFrontOf u w → IsFrontOf w v → IsFrontOf u v
  pub disjoint : (w v : Map) → IsFrontOf w v → IsDisjoint v → IsDisjoint w
  pub apart : (w v u : Map) → IsFrontOf w v → AreDisjoint v u → AreDisjoint w u
