-- What the plan of a table has, and that the table tells of each.
use Rattle.std.specs.Prelude.{◌≡◌, ◌<◌, ◌==◌, ℕ, Bool, true, false, is_some, length, find, Option, None, Some}
use Rattle.std.specs.List.{list_any, sum_by}
use Rattle.mdv_plan.specs.declared.volume.VolumeKind.TheVariants.{Stripe as StripeKind, Raid as RaidKind}
use Rattle.mdv_whole.specs.Noted.{width}
use Rattle.mdv_plan.specs.declared.pool.Pool.{Pool}
use Rattle.mdv_plan.specs.declared.pool.Spare.{Spare}
use Rattle.mdv_notes.specs.Below.{VolId, SliceName, slice_code, OneVolume, Plan, Table, VolumeKind}
use Rattle.mdv_notes.specs.Flags.{subs_of}
use Rattle.mdv_notes.specs.Told.{offline_at, part_at, raid_at, spare_at}
use Rattle.mdv_notes.specs.declared.note.PartAt.{PartAt}

abbrev pub kind_width : VolumeKind → ℕ
kind_width (StripeKind s) = sum_by width s.rows
kind_width (RaidKind r) = length r.columns
kind_width _ = 0

abbrev pub width_at : Option OneVolume → ℕ
width_at None = 0
width_at (Some w) = kind_width w.kind

-- how many components or columns a volume has
abbrev pub width_of : Plan → VolId → ℕ
width_of p v = width_at (find (λ w. w.number.0 == v.0) p.volumes)

abbrev pub is_raid_kind : VolumeKind → Bool
is_raid_kind (RaidKind r) = true
is_raid_kind _ = false

abbrev pub is_raid_at : Option OneVolume → Bool
is_raid_at None = false
is_raid_at (Some w) = is_raid_kind w.kind

abbrev pub is_raid : Plan → VolId → Bool
is_raid p v = is_raid_at (find (λ w. w.number.0 == v.0) p.volumes)

abbrev pub is_volume : VolId → VolId → Bool
is_volume v w = w.0 == v.0

abbrev pub is_spare : SliceName → Spare → Bool
is_spare s q = slice_code q.slice == slice_code s

abbrev pub has_spare : SliceName → Pool → Bool
has_spare s p = list_any (is_spare s) p.spares

-- of each component, submirror, RAID-5 volume and spare of the plan something is told, so that no note of it is passed over
pub record TellsOfPlan (t : Table) : Type 0 where
  pub parts : (at : PartAt) → at.place < width_of t.plan at.volume → is_some (part_at t.status at) ≡ true
  pub subs : (m v : VolId) → list_any (is_volume v) (subs_of t.plan m) ≡ true → is_some (offline_at t m v) ≡ true
  pub raids : (v : VolId) → is_raid t.plan v ≡ true → is_some (raid_at t.status v) ≡ true
  pub spares : (s : SliceName) → list_any (has_spare s) t.plan.pools ≡ true → is_some (spare_at t.status s) ≡ true
