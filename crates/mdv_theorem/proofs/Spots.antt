-- A block of a drive in which a block of a volume may lie is no other host's.
use Rattle.std.proofs.Common.{◌≡◌, inl, inr, ℕ, false, List}
use Rattle.mdv_base.specs.declared.name.VolId.{VolId}
use Rattle.mdv_engine_law.specs.Hosts.{host_area}
use Rattle.mdv_name.specs.declared.geometry.Geometry.{Geometry}
use Rattle.mdv_plan.specs.declared.table.Table.{Table}
use Rattle.mdv_run_law.specs.Lives.{host_of}
use Rattle.mdv_run_law.proofs.Elsewhere.{table_elsewhere}
use Rattle.mdv_shelf.proofs.Blocks.{both_ways}
use Rattle.mdv_config.specs.Slices.{IsSound}
use Rattle.mdv_theorem.proofs.Agreeing.{own_sound}
use Rattle.mdv_theorem.proofs.Place.{Spot, laid, spot_area}

pub spot_elsewhere : (drives : Geometry) (name : List ℕ) (sound : IsSound drives) (table : Table) (volume : VolId) (number : ℕ) (spot : Spot (host_of drives name 0).drives table volume number) (other : List ℕ) (fresh : ℕ) → (other ≡ name → ⊥)
    → host_area (host_of drives other fresh) spot.at.drive spot.at.block ≡ false
spot_elsewhere drives name sound table volume number spot other fresh differ = elim (both_ways (host_area (host_of drives other fresh) spot.at.drive spot.at.block)) [
  | inl does ↦
      let g = (host_of drives name 0).drives in
      absurd (table_elsewhere drives name other 0 fresh differ table (laid g (own_sound drives name 0 sound) table spot.plan) volume spot.map spot.lies spot.at.drive spot.at.block does (spot_area g table volume number spot))
  | inr never ↦ never
]
