-- Which things a note names, what they are after it, and that all others stay.
use Rattle.std.specs.Prelude.{◌≡◌, ◌<◌, ◌*◌, ℕ, Bool, true, false, ◌==◌, ◌&&◌, ◌||◌, length, Option, None, Some}
use Rattle.std.specs.Option.{option_map}
use Rattle.mdv_notes.specs.Below.{VolId, SliceName, slice_code, SpareUse, SpareState, Available, InUse, Broken, RaidDone, KindStatus, StripeNoted, Table}
use Rattle.mdv_notes.specs.Noted.{status_after, noted_of}
use Rattle.mdv_notes.specs.Parts.{part_noted, part_resumed}
use Rattle.mdv_notes.specs.Regions.{has_dirty, in_range}
use Rattle.mdv_notes.specs.Told.{dirty_of, offline_at, part_at, raid_at, region_at, spare_at, spare_under, status_at, told_of}
use Rattle.mdv_notes.specs.declared.note.Note.{Note}
use Rattle.mdv_notes.specs.declared.note.Note.TheVariants.{Part, SpareBroken, SpareAvailable, RegionsDirty, RegionsClean, SubOffline, SubOnline, RaidOkay}
use Rattle.mdv_notes.specs.declared.note.PartAt.{PartAt}
use Rattle.mdv_notes.specs.declared.note.PartNote.{PartNote}
use Rattle.mdv_notes.specs.declared.note.PartNote.TheVariants.{Okay as NowOkay, Resyncing as NowResyncing, Spared, LastErred as NowLastErred, Enabled}
use Rattle.mdv_notes.specs.declared.note.RegionRange.{RegionRange}

-- a component, or all of a submirror that comes back
abbrev pub names_part : Note → PartAt → Bool
names_part (Part at note) q = (at.volume.0 == q.volume.0) && (at.place == q.place)
names_part (SubOnline m v) q = v.0 == q.volume.0
names_part n q = false

abbrev pub names_region : Note → VolId → ℕ → Bool
names_region (RegionsDirty m range) w r = (m.0 == w.0) && in_range range r
names_region (RegionsClean m range) w r = (m.0 == w.0) && in_range range r
names_region n w r = false

-- a submirror of a mirror
abbrev pub names_sub : Note → VolId → VolId → Bool
names_sub (SubOffline m v) n w = (m.0 == n.0) && (v.0 == w.0)
names_sub (SubOnline m v) n w = (m.0 == n.0) && (v.0 == w.0)
names_sub note n w = false

abbrev pub names_raid : Note → VolId → Bool
names_raid (RaidOkay v) w = v.0 == w.0
names_raid n w = false

abbrev pub is_slice : SliceName → SliceName → Bool
is_slice a b = slice_code a == slice_code b

abbrev pub is_under : Option SpareUse → SliceName → Bool
is_under None s = false
is_under (Some u) s = is_slice u.slice s

-- the spare that the component takes
abbrev pub takes : PartNote → SliceName → Bool
takes (Spared u) s = is_slice u.slice s
takes note s = false

-- the spare that it leaves, where it lay on this one
abbrev pub leaves : PartNote → Option SpareUse → SliceName → Bool
leaves NowOkay under s = false
leaves (NowResyncing resync) under s = false
leaves NowLastErred under s = false
leaves note under s = is_under under s

abbrev pub names_spare : Table → Note → SliceName → Bool
names_spare t (Part at note) s = takes note s || leaves note (spare_under t.status at) s
names_spare t (SpareBroken b) s = is_slice b s
names_spare t (SpareAvailable a) s = is_slice a s
names_spare t n s = false

-- what the note doesn't name is as it was
pub record LeavesOthers (t : Table) (n : Note) : Type 0 where
  pub parts : (at : PartAt) → names_part n at ≡ false → part_at (status_after t n) at ≡ part_at t.status at
  pub regions : (m : VolId) (r : ℕ) → names_region n m r ≡ false → region_at (status_after t n) m r ≡ region_at t.status m r
  pub subs : (m v : VolId) → names_sub n m v ≡ false → offline_at (noted_of t n) m v ≡ offline_at t m v
  pub raids : (v : VolId) → names_raid n v ≡ false → raid_at (status_after t n) v ≡ raid_at t.status v
  pub spares : (s : SliceName) → names_spare t n s ≡ false → spare_at (status_after t n) s ≡ spare_at t.status s

abbrev pub left_state : PartNote → SpareState
left_state Enabled = Available
left_state note = Broken

-- the component is as the note says, the spare that it takes in use, and the one that it leaves Broken or Available
pub record PartIsSaid (t : Table) (at : PartAt) (note : PartNote) : Type 0 where
  pub part : part_at (status_after t (Part at note)) at ≡ option_map (part_noted note) (part_at t.status at)
  pub taken : (s : SliceName) → takes note s ≡ true → spare_at (status_after t (Part at note)) s ≡ option_map (λ was. InUse) (spare_at t.status s)
  pub left : (s : SliceName) → takes note s ≡ false → leaves note (spare_under t.status at) s ≡ true →
      spare_at (status_after t (Part at note)) s ≡ option_map (λ was. left_state note) (spare_at t.status s)

abbrev pub is_stripe : KindStatus → Bool
is_stripe (StripeNoted parts) = true
is_stripe _ = false

-- the submirror, which is a stripe, is offline no more, and each of its components is resumed
pub record SubIsBack (t : Table) (m v : VolId) : Type 0 where
  pub flag : offline_at (noted_of t (SubOnline m v)) m v ≡ option_map (λ was. false) (offline_at t m v)
  pub parts : (at : PartAt) → v.0 ≡ at.volume.0 → told_of false is_stripe (status_at t.status at.volume) ≡ true →
      part_at (status_after t (SubOnline m v)) at ≡ option_map (part_resumed (has_dirty (dirty_of t.status m))) (part_at t.status at)

-- the regions of the range, as far as the mirror has them
abbrev pub AreRegions : Table → Note → VolId → RegionRange → Bool → Type 0
AreRegions t n m range dirty = (r : ℕ) → in_range range r ≡ true → r < 8 * length (dirty_of t.status m) → region_at (status_after t n) m r ≡ dirty

-- what the note names is as it says, where the table has it
abbrev pub IsSaid : Table → Note → Type 0
IsSaid t (Part at note) = PartIsSaid t at note
IsSaid t (SpareBroken s) = spare_at (status_after t (SpareBroken s)) s ≡ option_map (λ was. Broken) (spare_at t.status s)
IsSaid t (SpareAvailable s) = spare_at (status_after t (SpareAvailable s)) s ≡ option_map (λ was. Available) (spare_at t.status s)
IsSaid t (RegionsDirty m range) = AreRegions t (RegionsDirty m range) m range true
IsSaid t (RegionsClean m range) = AreRegions t (RegionsClean m range) m range false
IsSaid t (SubOffline m v) = offline_at (noted_of t (SubOffline m v)) m v ≡ option_map (λ was. true) (offline_at t m v)
IsSaid t (SubOnline m v) = SubIsBack t m v
IsSaid t (RaidOkay v) = raid_at (status_after t (RaidOkay v)) v ≡ option_map (λ was. RaidDone) (raid_at t.status v)
