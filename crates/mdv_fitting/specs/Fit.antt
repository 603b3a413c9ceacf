-- Tables that fit a table of drives.
use Rattle.std.specs.Prelude.{◌≡◌, true, All}
use Rattle.std.specs.List.{list_all}
use Rattle.mdv_fitting.specs.Below.{Geometry, Plan, Table, IsShaped}
use Rattle.mdv_fitting.specs.Beside.{HasOnce, StandTogether}
use Rattle.mdv_fitting.specs.OnBases.{AreOnBases}
use Rattle.mdv_fitting.specs.Parts.{lies, parts_of}
use Rattle.mdv_fitting.specs.Places.{are_placed}

-- all that lies on slices has its blocks there
pub record Fits (g : Geometry) (p : Plan) : Type 0 where
  -- replicas, on slices that are set aside for them
  pub placed : are_placed g p.lists ≡ true
  -- components, extents and spares
  pub lie : list_all (lies g p.lists) (parts_of p) ≡ true
  -- no two of these in each other's way, nor in that of replicas
  pub together : StandTogether g (parts_of p)
  -- a pool has a spare once
  pub once : All HasOnce p.pools
  -- soft partitions on their bases
  pub bases : AreOnBases g p

-- a table of this table of drives
pub record IsOf (g : Geometry) (t : Table) : Type 0 where
  pub fits : Fits g t.plan
  pub shaped : IsShaped t
