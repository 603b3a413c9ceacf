-- A change leaves a table of the table of drives.
use Rattle.std.specs.Prelude.{◌≡◌, false, List}
use Rattle.mdv_keeping.specs.Below.{Change, DriveNo, Geometry, IsListsOf, IsMade, IsOfGeometry, IsSound, Lists, Table, settled, with_lists}
use Rattle.mdv_keeping.specs.Built.{IsBuilt, names_db}

-- a built change, which names no slice for replicas and which nothing refuses, makes the one table of the other, and both are of the geometry
pub record IsStepOf (g : Geometry) (change : Change) (old next : Table) : Type 0 where
  pub built : IsBuilt change
  pub plain : names_db g change ≡ false
  pub drives : List DriveNo
  pub made : IsMade g drives change old next
  pub old_of : IsOfGeometry g old
  pub next_of : IsOfGeometry g next

-- tables of a geometry stay such tables
pub record TablesStay : Type 0 where
  pub kept : (g : Geometry) (drives : List DriveNo) (change : Change) (old next : Table)
      → IsSound g → IsOfGeometry g old → IsBuilt change → names_db g change ≡ false → IsMade g drives change old next → IsOfGeometry g next
  -- places of replicas come and go, and the volumes lie clear of them wherever replicas may lie
  pub settled_kept : (g : Geometry) (t : Table) → IsSound g → IsOfGeometry g t → IsOfGeometry g (settled t)
  pub moved_kept : (g : Geometry) (t : Table) (lists : Lists) → IsSound g → IsOfGeometry g t → IsListsOf g lists → IsOfGeometry g (with_lists t lists)
