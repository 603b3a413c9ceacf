-- Which uses of slices may stand beside each other.
use Rattle.std.specs.Prelude.{◌≡◌, Bool, true, false, not, ◌+◌, List, map, AllPairs, nat_eq}
use Rattle.std.specs.List.{IsDistinct, list_all}
use Rattle.mdv_name.specs.Drive.{IsSliceName}
use Rattle.mdv_fitting.specs.Below.{Geometry, Pool, SliceUse, User, Replica, Component, Extent, Spare, Asked, ReplicasTo, OneComponent, Extents, OneSpare, clashes_with, end_of, meets_db, spare_key}

-- what is asked for where such a use comes
abbrev pub asked_by : SliceUse → User → Asked
asked_by u Replica = ReplicasTo (u.start + end_of u.run)
asked_by u (Component v) = OneComponent
asked_by u (Extent v) = Extents
asked_by u (Spare p) = OneSpare

-- the first stands in the way of the second
abbrev pub hinders : Geometry → SliceUse → SliceUse → Bool
hinders g u v = clashes_with g (asked_by v v.by) v.slice u

abbrev pub GoTogether : Geometry → SliceUse → SliceUse → Type 0
GoTogether g u v = hinders g u v ≡ false

-- it lies on no slice that another one overlaps which is set aside for replicas
abbrev pub is_clear : Geometry → SliceUse → Bool
is_clear g u = not (meets_db g u.slice)

-- none stands in the way of one behind it, and each is clear of replicas
pub record StandTogether (g : Geometry) (uses : List SliceUse) : Type 0 where
  pub pairs : AllPairs (GoTogether g) uses
  pub clear : list_all (is_clear g) uses ≡ true

-- it has each slice once
abbrev pub HasOnce : Pool → Type 0
HasOnce q = IsDistinct nat_eq (map spare_key q.spares)

-- it isn't by a replica
abbrev pub IsPart : SliceUse → Type 0
IsPart u = u.by ≡ Replica → ⊥

abbrev pub IsNamed : SliceUse → Type 0
IsNamed u = IsSliceName u.slice
