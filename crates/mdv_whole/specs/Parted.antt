-- The table that a record is of: each of its parts, parted into what the plan says and what is noted.
use Rattle.std.specs.Prelude.{◌≡◌, Bool, List, [], map, flat_map, take}
use Rattle.std.specs.List.{fold}
use Rattle.mdv_whole.specs.Below.{VolId, Recorded, RecordedKind, RecordedPart, RecordedPool, RecordedRow, RecordedSpare, RecordedSubmirror, RecordedVolume}
use Rattle.mdv_whole.specs.Below.{with_put, Pool, Spare, KindStatus, PartStatus, SpareStatus, VolumeStatus, Table, Component, Row, Volume, VolumeKind}
use Rattle.mdv_whole.specs.Sides.{spare_key}
use Rattle.mdv_codec.specs.declared.recorded.RecordedKind.TheVariants.{Stripe as StripeRecorded, Mirror as MirrorRecorded, Raid as RaidRecorded, Soft as SoftRecorded}
use Rattle.mdv_plan.specs.declared.status.KindStatus.TheVariants.{Stripe as StripeNoted, Mirror as MirrorNoted, Raid as RaidNoted, Soft as SoftNoted}
use Rattle.mdv_plan.specs.declared.volume.VolumeKind.TheVariants.{Stripe as StripeKind, Mirror as MirrorKind, Raid as RaidKind, Soft as SoftKind}

abbrev pub component_in : RecordedPart → Component
component_in p = p.component

abbrev pub status_in : RecordedPart → PartStatus
status_in p = p.status

abbrev pub volume_in : RecordedSubmirror → VolId
volume_in s = s.volume

abbrev pub offline_in : RecordedSubmirror → Bool
offline_in s = s.offline

abbrev pub spare_in : RecordedSpare → Spare
spare_in s = s.spare

abbrev pub row_in : RecordedRow → Row
row_in r = record { interlace = r.interlace; components = map component_in r.parts }

abbrev pub row_states : RecordedRow → List PartStatus
row_states r = map status_in r.parts

-- over all rows, as many as a list has room for
abbrev pub stripe_states : List RecordedRow → List PartStatus
stripe_states rows = take 100 (flat_map row_states rows)

abbrev pub kind_in : RecordedKind → VolumeKind
kind_in (StripeRecorded s) = StripeKind (record { rows = map row_in s.rows; spares = s.spares })
kind_in (MirrorRecorded m) = MirrorKind (record { submirrors = map volume_in m.submirrors; read = m.options.read; write = m.options.write; pass = m.options.pass; blocks = m.blocks })
kind_in (RaidRecorded r) = RaidKind (record { columns = map component_in r.columns.parts; interlace = r.interlace; units = r.columns.units; spares = r.spares })
kind_in (SoftRecorded s) = SoftKind (record { base = s.base; start = s.start; extents = s.extents })

abbrev pub noted_in : RecordedKind → KindStatus
noted_in (StripeRecorded s) = StripeNoted (stripe_states s.rows)
noted_in (MirrorRecorded m) = MirrorNoted (record { offline = map offline_in m.submirrors; dirty = m.dirty })
noted_in (RaidRecorded r) = RaidNoted (record { state = r.columns.state; columns = map status_in r.columns.parts })
noted_in (SoftRecorded s) = SoftNoted

-- what the plan says, and what is noted
abbrev pub ArePartsOf : RecordedKind → VolumeKind × KindStatus → Type 0
ArePartsOf kind sides = (sides.0 ≡ kind_in kind) × (sides.1 ≡ noted_in kind)

abbrev pub plan_volume : RecordedVolume → Volume
plan_volume v = record { number = v.number; kind = kind_in v.kind }

abbrev pub noted_volume : RecordedVolume → VolumeStatus
noted_volume v = record { number = v.number; kind = noted_in v.kind }

abbrev pub plan_pool : RecordedPool → Pool
plan_pool p = record { number = p.number; spares = map spare_in p.spares }

abbrev pub noted_spare : RecordedSpare → SpareStatus
noted_spare s = record { slice = s.spare.slice; state = s.state }

abbrev pub with_spare : List SpareStatus → RecordedSpare → List SpareStatus
with_spare states s = with_put spare_key (noted_spare s) states

abbrev pub with_spares : List SpareStatus → List RecordedSpare → List SpareStatus
with_spares states spares = fold with_spare states spares

abbrev pub with_pool : List SpareStatus → RecordedPool → List SpareStatus
with_pool states p = with_spares states p.spares

-- the states of all spares, ascending by the names of their slices
abbrev pub spare_states : List RecordedPool → List SpareStatus
spare_states pools = fold with_pool [] pools

abbrev pub table_of : Recorded → Table
table_of r =
    record {
      plan =
          record {
            lists = r.front.lists;
            set = r.front.set;
            pending = r.front.pending;
            pools = map plan_pool r.pools;
            volumes = map plan_volume r.volumes;
          };
      status = record { volumes = map noted_volume r.volumes; spares = spare_states r.pools };
    }
