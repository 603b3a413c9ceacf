-- Plans that are as they would be made now of what is printed of them.
use Rattle.std.specs.Prelude.{◌≡◌, Bool, true, false, List, [], map, Option, None, Some, All}
use Rattle.mdv_remake.specs.Below.{Base, Slice, Volume, DriveNo, Geometry, OnePool, OneRaid, OneVolume, Plan, RaidAsked, Row, Spare, Table, VolumeKind, Change}
use Rattle.mdv_remake.specs.Below.{Stripe, Mirror, Raid, Soft, IsAscending, column_blocks, component_named, component_on, entry_of_pool, entry_of_volume, mirror_blocks, new_spare, row_entry, row_on, start_of, units_of, volume_of, without}
use Rattle.mdv_remake.specs.Asked.{asked_of, raid_of, row_of}
use Rattle.mdv_remake.specs.Making.{refused}

-- the plan without one of its volumes, or of its pools
abbrev pub beside : OneVolume → Plan → Plan
beside w p = record p { volumes = without (λ v. v.number.0) w.number.0 p.volumes }

abbrev pub beside_pool : OnePool → Plan → Plan
beside_pool q p = record p { pools = without (λ r. r.number.0) q.number.0 p.pools }

-- nothing is noted of it
abbrev pub unnoted : Plan → Table
unnoted p = record { plan = p; status = record { volumes = []; spares = [] } }

-- what is asked by what is printed of a volume, and of a pool
abbrev pub volume_asked : OneVolume → Option Change
volume_asked w = asked_of (entry_of_volume None w)

abbrev pub pool_asked : OnePool → Option Change
pool_asked q = asked_of (entry_of_pool None q)

-- no other volume and no pool stands in the way of the volume, and what it needs is there
abbrev pub Fits : Geometry → List DriveNo → Plan → OneVolume → Type 0
Fits g drives p w = refused g drives (unnoted (beside w p)) (volume_asked w) ≡ None

abbrev pub PoolFits : Geometry → List DriveNo → Plan → OnePool → Type 0
PoolFits g drives p q = refused g drives (unnoted (beside_pool q p)) (pool_asked q) ≡ None

-- a stripe of the same components, made now: of a width of 1 with the interlace that is made where none is asked for
abbrev pub row_now : Geometry → Plan → Row → Row
row_now g p row = row_on g p (row_of (row_entry row))

abbrev pub IsRowNow : Geometry → Plan → Row → Type 0
IsRowNow g p row = row_now g p row ≡ row

-- what is asked of a RAID-5 volume by its print
abbrev pub raid_asked : OneRaid → RaidAsked
raid_asked r = raid_of (map component_named r.columns) (record { interlace = Some r.interlace; spares = r.spares; keep = true })

abbrev pub is_raid_kind : VolumeKind → Bool
is_raid_kind (Raid r) = true
is_raid_kind _ = false

abbrev pub is_raid : Option OneVolume → Bool
is_raid None = false
is_raid (Some v) = is_raid_kind v.kind

-- a RAID-5 volume takes no soft partition where it is made anew, since all of it is written then
abbrev pub lies_on_raid : Plan → Base → Bool
lies_on_raid p (Slice s) = false
lies_on_raid p (Volume v) = is_raid (volume_of p v)

-- Each component begins where one begins now and has as many blocks as it would have, a mirror is as large as its smallest submirror, and a soft
-- partition counts its extents from where one begins now, and lies on no RAID-5 volume.
abbrev pub IsNow : Geometry → Plan → VolumeKind → Type 0
IsNow g p (Stripe s) = All (IsRowNow g p) s.rows
IsNow g p (Mirror m) = mirror_blocks p m.submirrors ≡ m.blocks
IsNow g p (Raid r) = (units_of g p (raid_asked r) ≡ r.units) × (map (component_on g p (column_blocks g p (raid_asked r))) (raid_asked r).columns ≡ r.columns)
IsNow g p (Soft s) = (start_of g p s.base ≡ s.start) × (lies_on_raid p s.base ≡ false)

abbrev pub IsVolumeNow : Geometry → Plan → OneVolume → Type 0
IsVolumeNow g p w = IsNow g p w.kind

-- each spare has all of its slice that a component could have now
abbrev pub IsSpareNow : Geometry → Plan → Spare → Type 0
IsSpareNow g p s = new_spare g p s.slice ≡ s

abbrev pub IsPoolNow : Geometry → Plan → OnePool → Type 0
IsPoolNow g p q = All (IsSpareNow g p) q.spares

-- a plan that is as it would be made now
pub record IsAsNow (g : Geometry) (drives : List DriveNo) (p : Plan) : Type 0 where
  pub volumes : IsAscending (λ v. v.number.0) p.volumes
  pub pools : IsAscending (λ q. q.number.0) p.pools
  pub fit : All (Fits g drives p) p.volumes
  pub now : All (IsVolumeNow g p) p.volumes
  pub pools_fit : All (PoolFits g drives p) p.pools
  pub pools_now : All (IsPoolNow g p) p.pools
