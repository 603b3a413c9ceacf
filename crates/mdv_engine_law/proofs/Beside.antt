-- Where a volume of the open database lies: each of its blocks in one place, on slices that volumes may lie on, and so beside the replicas.
use Rattle.std.proofs.Common.{◌≡◌, ◌+◌, ◌<◌, ℕ, true, arith}
use Rattle.mdv_databases.specs.Lasting.{IsElsewhere}
use Rattle.mdv_dev.specs.Pieces.{LiesAt}
use Rattle.mdv_engine_law.specs.Below.{HasDriveBlock, IsSound, Map, VolId}
use Rattle.mdv_layout_law.specs.Laid.{plain_area}
use Rattle.mdv_map.specs.Maps.{area_of_map}
use Rattle.mdv_config.specs.Table.{IsOfGeometry}
use Rattle.mdv_volumes.proofs.Tables.{blocks_plain, tables_lie}
use Rattle.mdv_volumes.specs.Tables.{AreLaid}
use Rattle.mdv_engine_law.specs.declared.host.Host.{Host}
use Rattle.mdv_engine_law.specs.Line.{HasBlocks, Memory}

-- blocks of a volume of a table of these drives
module _ (host : Host) (sound : IsSound host.drives) (memory : Memory) (volume : VolId) (at count : ℕ) (v : Map) (there : HasBlocks host memory volume at count v) (listed : IsOfGeometry host.drives there.o.table) where
  laid : AreLaid host.drives there.o.table
  laid = tables_lie.laid host.drives there.o.table sound listed

  pub lies_at : (k : ℕ) → k < count → (drive : ℕ) × (block : ℕ) × LiesAt v (at + k) drive block
  lies_at k lt = laid.one volume v there.lies (at + k) (let within = there.within in omega (arith, lt, within))

  pub lies_plain : (k drive block : ℕ) → k < count → HasDriveBlock (v.places (at + k)) drive block → plain_area host.drives drive block ≡ true
  lies_plain k drive block lt has = blocks_plain host.drives there.o.table laid volume v there.lies (at + k) drive block (let within = there.within in omega (arith, lt, within)) has

  -- no boot looks there for replicas
  pub lies_beside : IsElsewhere host.drives (area_of_map v)
  lies_beside = laid.clear volume v there.lies
