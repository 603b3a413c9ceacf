-- The one place of a block of a volume: a block of a drive, which no other block of a volume of the table has.
use Rattle.std.proofs.Common.{◌≡◌, inl, inr, ℕ, zero, suc, List, Contains, ◌+◌, ◌<◌, ◌≤◌, ◌==◌, ◌&&◌, true, false, sym, ◌∙◌, ap, subst, arith}
use Rattle.std.proofs.lemmas.Bool.{and_parts, cases_eq, false≢true}
use Rattle.std.proofs.lemmas.List.Folds.{Any-from_list_any}
use Rattle.mdv_base.specs.declared.name.VolId.{VolId}
use Rattle.mdv_dev.specs.Pieces.{LiesAt, drive_of, has_drive as lies_on}
use Rattle.mdv_dev.proofs.Copies.{drive_is, has_copy, has_place, one_place}
use Rattle.mdv_dev.proofs.Counting.{same_number}
use Rattle.mdv_engine_law.specs.declared.host.Host.{Host}
use Rattle.mdv_home.proofs.Viewing.{view_is_own}
use Rattle.mdv_home.specs.Drives.{own_drives}
use Rattle.mdv_home.specs.View.{own_view}
use Rattle.mdv_layout_law.specs.Chained.{IsFrontOf}
use Rattle.mdv_layout_law.specs.Laid.{plain_area, takes_volumes}
use Rattle.mdv_map.specs.Maps.{HasDriveBlock, Map, area_of_map}
use Rattle.mdv_map.proofs.Covering.{one_of}
use Rattle.mdv_name.specs.declared.geometry.Geometry.{Geometry}
use Rattle.mdv_name.specs.declared.slice_lines.SliceLine.{SliceLine}
use Rattle.mdv_run_law.proofs.Extents.{SeesOwn, block_beside}
use Rattle.mdv_shelf.specs.Area.{range}
use Rattle.mdv_shown.proofs.Elsewhere.{in_range}
use Rattle.mdv_shown.specs.Site.{site_area}
use Rattle.mdv_config.specs.Slices.{IsSound}
use Rattle.mdv_config.specs.Table.{IsOfGeometry}
use Rattle.mdv_plan.specs.declared.table.Table.{Table}
use Rattle.mdv_volumes.specs.Tables.{AreLaid, IsMapOf}
use Rattle.mdv_volumes.proofs.Made.{HasFront}
use Rattle.mdv_volumes.proofs.Maps.{in_area, same_map}
use Rattle.mdv_volumes.proofs.Tables.{blocks_plain, tables_lie}

-- a block of a map lies there, and nowhere else
pub record BlockAt (v : Map) (number : ℕ) : Type 0 where
  pub within : number < v.blocks
  pub drive : ℕ
  pub block : ℕ
  pub lies : LiesAt v number drive block

-- and it is a block of a volume of the table
pub record Spot (g : Geometry) (table : Table) (volume : VolId) (number : ℕ) : Type 0 where
  pub map : Map
  pub plan : IsOfGeometry g table
  pub lies : IsMapOf g table volume map
  pub at : BlockAt map number

-- one of these blocks lies on each of their drives
pub drive_among : (v : Map) (at count drive : ℕ) → lies_on v at count drive ≡ true → (k : ℕ) × (k < count) × (drive_of (v.copies (at + k)) ≡ drive)
unfolding lies_on
drive_among v at zero drive is = absurd (false≢true is)
drive_among v at (suc n) drive is = elim (one_of (drive_of (v.copies (at + n)) == drive) (lies_on v at n drive) is) [
  | inl here ↦ (n, omega arith, same_number (drive_of (v.copies (at + n))) drive here)
  | inr earlier ↦ let found = drive_among v at n drive earlier in (found.0, (let below = found.1 in omega (arith, below)), found.2)
]

-- it lies there in a map that begins with this one, and in each of those that this one begins with and that has it
abbrev pub block_longer : (v w : Map) (number : ℕ) → IsFrontOf v w → BlockAt v number → BlockAt w number
block_longer v w number front at =
    let below = at.within in
    let more = front.blocks in
    record {
      within = omega (arith, below, more);
      drive = at.drive;
      block = at.block;
      lies = record { copies = front.copies number at.within ∙ at.lies.copies; places = front.places number at.within ∙ at.lies.places };
    }

abbrev pub block_shorter : (v w : Map) (number : ℕ) → IsFrontOf v w → number < v.blocks → BlockAt w number → BlockAt v number
block_shorter v w number front below at = record {
  within = below;
  drive = at.drive;
  block = at.block;
  lies = record { copies = sym (front.copies number below) ∙ at.lies.copies; places = sym (front.places number below) ∙ at.lies.places };
}

module _ (v : Map) (number : ℕ) (at : BlockAt v number) where
  -- that block of the drive belongs to it
  pub at_place : HasDriveBlock (v.places number) at.drive at.block
  at_place = has_place v number at.drive at.block at.lies

module _ (g : Geometry) (sound : IsSound g) (table : Table) (plan : IsOfGeometry g table) where
  pub laid : AreLaid g table
  laid = tables_lie.laid g table sound plan

  pub block_at : (volume : VolId) (v : Map) (number : ℕ) → IsMapOf g table volume v → number < v.blocks → BlockAt v number
  block_at volume v number lies within = let there = laid.one volume v lies number within in record { within = within; drive = there.0; block = there.1; lies = there.2 }

  -- each drive of some blocks has a copy of one of them
  pub drive_copy : (volume : VolId) (v : Map) (at count drive : ℕ) → IsMapOf g table volume v → at + count ≤ v.blocks → lies_on v at count drive ≡ true → (b : ℕ) × (block : ℕ) × (b < at + count) × HasDriveBlock (v.copies b) drive block
  drive_copy volume v at count drive lies within on =
      let among = drive_among v at count drive on in
      let below = among.1 in
      let place = block_at volume v (at + among.0) lies (omega (arith, below, within)) in
      let is : place.drive ≡ drive = sym (drive_is v (at + among.0) place.drive place.block place.lies) ∙ among.2 in
      (at + among.0, place.block, omega (arith, below), subst (λ (d : ℕ). HasDriveBlock (v.copies (at + among.0)) d place.block) is (has_copy v (at + among.0) place.drive place.block place.lies))

  -- a volume has one map, and its block one place
  pub one_spot : (volume : VolId) (v w : Map) (number : ℕ) → IsMapOf g table volume v → IsMapOf g table volume w → (a : BlockAt v number) (b : BlockAt w number) → (a.drive ≡ b.drive) × (a.block ≡ b.block)
  one_spot volume v w number lies other a b =
      one_place w number b.drive b.block b.lies a.drive a.block
      (subst (λ (x : Map). HasDriveBlock (x.places number) a.drive a.block) (same_map g table volume v w lies other) (at_place v number a))

  -- also where it is known of a map that begins its own
  pub front_spot : (volume : VolId) (w v : Map) (number : ℕ) → IsMapOf g table volume w → HasFront g volume v table → (a : BlockAt w number) (b : BlockAt v number) → (a.drive ≡ b.drive) × (a.block ≡ b.block)
  front_spot volume w v number lies (u, map, front) a b = one_spot volume w u number lies map a (block_longer v u number front b)

  module _ (volume other : VolId) (v w : Map) (a b drive block : ℕ) (lies : IsMapOf g table volume v) (beside : IsMapOf g table other w) (below : a < v.blocks) (within : b < w.blocks) (here : HasDriveBlock (v.places a) drive block) (there : HasDriveBlock (w.places b) drive block) where
    same_volume : other ≡ volume
    same_volume = elim (cases_eq other.0 volume.0) [
      | inl same ↦ λ i. record { 0 = same i }
      | inr differ ↦ absurd (laid.apart volume other v w (λ same. differ (sym (ap (λ (n : VolId). n.0) same))) lies beside a b drive block below within here there)
    ]

    -- blocks of volumes that share a block of a drive are the same
    pub same_block : (other ≡ volume) × (b ≡ a)
    same_block =
        let same : w ≡ v = same_map g table volume w v (subst (λ (n : VolId). IsMapOf g table n w) same_volume beside) lies in
        (same_volume, (laid.disjoint volume v lies).apart b a drive block (subst (λ (x : Map). b < x.blocks) same within) below (subst (λ (x : Map). HasDriveBlock (x.places b) drive block) same there) here)

-- it is one of the blocks of its map
pub spot_area : (g : Geometry) (table : Table) (volume : VolId) (number : ℕ) (spot : Spot g table volume number) → area_of_map spot.map spot.at.drive spot.at.block ≡ true
spot_area g table volume number spot = in_area spot.map number spot.at.drive spot.at.block spot.at.within (at_place spot.map number spot.at)

-- no replica may have it
pub spot_beside : (host : Host) → IsSound host.drives → SeesOwn host → (table : Table) (volume : VolId) (number : ℕ) (spot : Spot host.drives table volume number) → site_area host.site spot.at.drive spot.at.block ≡ false
spot_beside host sound sees table volume number spot =
    block_beside host sees table (laid host.drives sound table spot.plan) volume spot.map spot.lies number spot.at.drive spot.at.block spot.at.within (at_place spot.map number spot.at)

-- it is a block of a slice on which volumes may lie
pub spot_plain : (g : Geometry) (its : Table) (volume : VolId) (number : ℕ) → IsSound g → (spot : Spot g its volume number) → plain_area g spot.at.drive spot.at.block ≡ true
spot_plain g its volume number sound spot =
    blocks_plain g its (laid g sound its spot.plan) volume spot.map spot.lies number spot.at.drive spot.at.block spot.at.within (at_place spot.map number spot.at)

-- and its drive is one of the host's
pub spot_own : (table : Geometry) (host : List ℕ) (its : Table) (volume : VolId) (number : ℕ) → IsSound (own_view table host) → (spot : Spot (own_view table host) its volume number) → Contains (own_drives table host) (record { 0 = spot.at.drive })
spot_own table host its volume number sound spot =
    let g = own_view table host in
    let place = spot.at in
    let plain = spot_plain g its volume number sound spot in
    let found = Any-from_list_any (λ (line : SliceLine). takes_volumes g line && range line.at.drive.0 line.at.start line.at.blocks place.drive place.block) g.slices plain in
    let line : SliceLine = found.1 in
    let within = (and_parts (takes_volumes g line) (range line.at.drive.0 line.at.start line.at.blocks place.drive place.block) found.4).1 in
    let on : line.at.drive.0 ≡ place.drive = (in_range line.at.drive.0 line.at.start line.at.blocks place.drive place.block within).0 in
    let seen = ((view_is_own.seen table host line.name line.at).0 (found.0, found.2, found.3)).1 in
    subst (λ (d : ℕ). Contains (own_drives table host) (record { 0 = d })) on seen
