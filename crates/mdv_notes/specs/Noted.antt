-- What a note makes of a table.
use Rattle.std.specs.Prelude.{ℕ, Bool, true, false, ◌==◌, List, map, if◌then◌else◌}
use Rattle.mdv_notes.specs.Below.{VolId, KindStatus, StripeNoted, MirrorNoted, RaidNoted, PartStatus, RaidDone, SpareStatus, Status, VolumeStatus, Table, Available, Broken}
use Rattle.mdv_notes.specs.Flags.{flags_noted, subs_of}
use Rattle.mdv_notes.specs.Parts.{changed_at, part_noted, part_resumed}
use Rattle.mdv_notes.specs.Regions.{has_dirty, regions_noted}
use Rattle.mdv_notes.specs.Spares.{spares_after, spares_noted}
use Rattle.mdv_notes.specs.Told.{dirty_of, spare_under}
use Rattle.mdv_notes.specs.declared.note.Note.{Note}
use Rattle.mdv_notes.specs.declared.note.Note.TheVariants.{Part, SpareBroken, SpareAvailable, RegionsDirty, RegionsClean, SubOffline, SubOnline, RaidOkay}
use Rattle.mdv_notes.specs.declared.note.RegionRange.{RegionRange}

-- one volume's states, as this makes them
abbrev pub restated : VolId → (KindStatus → KindStatus) → VolumeStatus → VolumeStatus
restated v f s = if s.number.0 == v.0 then record s { kind = f s.kind } else s

abbrev pub with_kind : VolId → (KindStatus → KindStatus) → Status → Status
with_kind v f s = record s { volumes = map (restated v f) s.volumes }

abbrev pub with_part : ℕ → (PartStatus → PartStatus) → KindStatus → KindStatus
with_part n f (StripeNoted parts) = StripeNoted (changed_at n f parts)
with_part n f (RaidNoted r) = RaidNoted (record r { columns = changed_at n f r.columns })
with_part n f kind = kind

abbrev pub with_parts : (PartStatus → PartStatus) → KindStatus → KindStatus
with_parts f (StripeNoted parts) = StripeNoted (map f parts)
with_parts f kind = kind

abbrev pub with_regions : RegionRange → Bool → KindStatus → KindStatus
with_regions range dirty (MirrorNoted m) = MirrorNoted (record m { dirty = regions_noted range dirty 0 m.dirty })
with_regions range dirty kind = kind

abbrev pub with_flag : List VolId → VolId → Bool → KindStatus → KindStatus
with_flag subs v is (MirrorNoted m) = MirrorNoted (record m { offline = flags_noted v is subs m.offline })
with_flag subs v is kind = kind

abbrev pub with_raid_done : KindStatus → KindStatus
with_raid_done (RaidNoted r) = RaidNoted (record r { state = RaidDone })
with_raid_done kind = kind

abbrev pub with_spares : (List SpareStatus → List SpareStatus) → Status → Status
with_spares f s = record s { spares = f s.spares }

-- the flag of a submirror is so; which one is its own, the plan tells
abbrev pub switched : Table → VolId → VolId → Bool → Status
switched t m v is = with_kind m (with_flag (subs_of t.plan m) v is) t.status

-- the status after a note: what it names is as it says, and all else stays
abbrev pub status_after : Table → Note → Status
status_after t (Part at note) = with_spares (spares_after note (spare_under t.status at)) (with_kind at.volume (with_part at.place (part_noted note)) t.status)
status_after t (SpareBroken s) = with_spares (spares_noted s Broken) t.status
status_after t (SpareAvailable s) = with_spares (spares_noted s Available) t.status
status_after t (RegionsDirty m range) = with_kind m (with_regions range true) t.status
status_after t (RegionsClean m range) = with_kind m (with_regions range false) t.status
status_after t (SubOffline m v) = switched t m v true
status_after t (SubOnline m v) = with_kind v (with_parts (part_resumed (has_dirty (dirty_of t.status m)))) (switched t m v false)
status_after t (RaidOkay v) = with_kind v with_raid_done t.status

-- the table after it
abbrev pub noted_of : Table → Note → Table
noted_of t n = record t { status = status_after t n }
