-- Where a volume lies: beside the replicas.
use Rattle.std.proofs.Common.{◌≡◌, inl, inr, ℕ, ◌<◌, true, false, subst, arith}
use Rattle.std.proofs.lemmas.Bool.{false_from_ne_true}
use Rattle.mdv_map.specs.Maps.{HasDriveBlock, area_of_map}
use Rattle.mdv_map.proofs.Covering.{off_outside}
use Rattle.mdv_run_law.specs.Below.{Host, Map, Site, Table, VolId, key_of, site_area, site_of}
use Rattle.mdv_shelf.proofs.Blocks.{both_ways}
use Rattle.mdv_volumes.specs.Tables.{AreLaid, IsMapOf}

-- the host's replicas may lie where a boot of its key looks for them
abbrev pub SeesOwn : Host → Type 0
SeesOwn host = host.site ≡ site_of host.drives (key_of host)

module _ (host : Host) (sees : SeesOwn host) (table : Table) (laid : AreLaid host.drives table) (volume : VolId) (v : Map) (lies : IsMapOf host.drives table volume v) where
  -- a volume's blocks are none that a replica may have
  pub lies_beside : (drive block : ℕ) → area_of_map v drive block ≡ true → site_area host.site drive block ≡ false
  lies_beside drive block here = false_from_ne_true (site_area host.site drive block)
      (λ there. laid.clear volume v lies (key_of host) drive block here (subst (λ (s : Site). site_area s drive block ≡ true) sees there))

  -- wherever one of them lies
  pub block_beside : (b drive block : ℕ) → b < v.blocks → HasDriveBlock (v.places b) drive block → site_area host.site drive block ≡ false
  block_beside b drive block below has = elim (both_ways (area_of_map v drive block)) [
    | inl here ↦ lies_beside drive block here
    | inr out ↦ absurd (off_outside v drive block b 1 (omega (arith, below)) out 0 (omega arith) (subst (λ (i : ℕ). HasDriveBlock (v.places i) drive block) (omega arith) has))
  ]
