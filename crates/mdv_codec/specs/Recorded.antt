-- A table as a record has it: each part of the plan with its state beside it.
use Rattle.std.specs.Prelude.{◌≡◌, ◌<◌, ◌≤◌, ◌^◌, ℕ, List, [], ◌∷◌, ◌++◌, length, flat_map, All}
use Rattle.std.specs.List.{sum_by}
use Rattle.mdv_fields.specs.Below.{Base, Slice, Volume}
use Rattle.mdv_fields.specs.Names.{volume_id_text, VolumeIdFits, pool_text, PoolFits, pool_id_text, PoolIdFits, flag_text}
use Rattle.mdv_fields.specs.Numbers.{u16_text, u32_text, u64_text}
use Rattle.mdv_fields.specs.Parts.{run_text, RunFits, base_text, BaseFits, component_text, ComponentFits, part_status_text, PartStatusFits, spare_text, SpareFits, spare_state_text, raid_state_text, read_text, write_text}
use Rattle.mdv_fields.specs.Reading.{ListFits, ShortFits, short_text, LongFits, long_text}
use Rattle.mdv_codec.specs.declared.recorded.RecordedPart.{RecordedPart}
use Rattle.mdv_codec.specs.declared.recorded.RecordedSubmirror.{RecordedSubmirror}
use Rattle.mdv_codec.specs.declared.recorded.RecordedSpare.{RecordedSpare}
use Rattle.mdv_codec.specs.declared.recorded.RecordedOptions.{RecordedOptions}
use Rattle.mdv_codec.specs.declared.recorded.RecordedRow.{RecordedRow}
use Rattle.mdv_codec.specs.declared.recorded.RecordedStripe.{RecordedStripe}
use Rattle.mdv_codec.specs.declared.recorded.RecordedMirror.{RecordedMirror}
use Rattle.mdv_codec.specs.declared.recorded.RecordedColumns.{RecordedColumns}
use Rattle.mdv_codec.specs.declared.recorded.RecordedRaid.{RecordedRaid}
use Rattle.mdv_codec.specs.declared.recorded.RecordedSoft.{RecordedSoft}
use Rattle.mdv_codec.specs.declared.recorded.RecordedKind.{RecordedKind}
use Rattle.mdv_codec.specs.declared.recorded.RecordedKind.TheVariants.{Stripe, Mirror, Raid, Soft}
use Rattle.mdv_codec.specs.declared.recorded.RecordedVolume.{RecordedVolume}
use Rattle.mdv_codec.specs.declared.recorded.RecordedPool.{RecordedPool}

-- a component and its state
unfoldable pub part_text : RecordedPart → List ℕ
part_text p = component_text p.component ++ part_status_text p.status

abbrev pub PartFits : RecordedPart → Type 0
PartFits p = ComponentFits p.component × PartStatusFits p.status

-- width, interlace and components
abbrev pub row_body : RecordedRow → List ℕ
row_body r = u32_text r.interlace ++ flat_map part_text r.parts

unfoldable pub row_text : RecordedRow → List ℕ
row_text r = u16_text (length r.parts) ++ row_body r

pub record RowFits (r : RecordedRow) : Type 0 where
  pub interlace : r.interlace < 256 ^ 4
  pub some : 0 < length r.parts
  pub few : length r.parts ≤ 100
  pub each : All PartFits r.parts

-- what stands behind the width
abbrev pub RowBodyFits : ℕ → RecordedRow → Type 0
RowBodyFits width r = (r.interlace < 256 ^ 4) × ListFits PartFits width r.parts

-- how many components all rows have
abbrev pub width_of : RecordedRow → ℕ
width_of r = length r.parts

unfoldable pub stripe_text : RecordedStripe → List ℕ
stripe_text s = pool_text s.spares ++ long_text row_text s.rows

pub record StripeFits (s : RecordedStripe) : Type 0 where
  pub spares : PoolFits s.spares
  pub rows : LongFits RowFits 100 s.rows
  pub some : 0 < length s.rows
  pub few : sum_by width_of s.rows ≤ 100

-- a submirror and whether it is offline
unfoldable pub submirror_text : RecordedSubmirror → List ℕ
submirror_text s = volume_id_text s.volume ++ flag_text s.offline

abbrev pub SubmirrorFits : RecordedSubmirror → Type 0
SubmirrorFits s = VolumeIdFits s.volume

-- how it is read and written, and the pass
unfoldable pub options_text : RecordedOptions → List ℕ
options_text o = read_text o.read ++ (write_text o.write ++ o.pass ∷ [])

abbrev pub OptionsFit : RecordedOptions → Type 0
OptionsFit o = (1 ≤ o.pass) × (o.pass ≤ 9)

-- options, submirrors, size and dirty regions
unfoldable pub mirror_text : RecordedMirror → List ℕ
mirror_text m = options_text m.options ++ (short_text submirror_text m.submirrors ++ (u64_text m.blocks ++ m.dirty))

pub record MirrorFits (m : RecordedMirror) : Type 0 where
  pub options : OptionsFit m.options
  pub submirrors : ShortFits SubmirrorFits 4 m.submirrors
  pub some : 0 < length m.submirrors
  pub blocks : m.blocks < 256 ^ 8
  pub dirty : length m.dirty ≡ 128

-- how many columns, units, state and the columns
abbrev pub columns_body : RecordedColumns → List ℕ
columns_body c = u64_text c.units ++ (raid_state_text c.state ++ flat_map part_text c.parts)

unfoldable pub columns_text : RecordedColumns → List ℕ
columns_text c = u16_text (length c.parts) ++ columns_body c

pub record ColumnsFit (c : RecordedColumns) : Type 0 where
  pub units : c.units < 256 ^ 8
  pub some : 3 ≤ length c.parts
  pub few : length c.parts ≤ 32
  pub each : All PartFits c.parts

-- what stands behind the number of columns
abbrev pub ColumnsBodyFits : ℕ → RecordedColumns → Type 0
ColumnsBodyFits count c = (c.units < 256 ^ 8) × ListFits PartFits count c.parts

unfoldable pub raid_text : RecordedRaid → List ℕ
raid_text r = pool_text r.spares ++ (u32_text r.interlace ++ columns_text r.columns)

pub record RaidFits (r : RecordedRaid) : Type 0 where
  pub spares : PoolFits r.spares
  pub interlace : r.interlace < 256 ^ 4
  pub columns : ColumnsFit r.columns

-- on a volume the extents are counted from its first block
abbrev pub MayStart : Base → ℕ → Type 0
MayStart (Slice s) start = Unit {0}
MayStart (Volume v) start = start ≡ 0

unfoldable pub soft_text : RecordedSoft → List ℕ
soft_text s = base_text s.base ++ (u64_text s.start ++ short_text run_text s.extents)

pub record SoftFits (s : RecordedSoft) : Type 0 where
  pub base : BaseFits s.base
  pub start : s.start < 256 ^ 8
  pub may : MayStart s.base s.start
  pub extents : ShortFits RunFits 16 s.extents
  pub some : 0 < length s.extents

unfoldable pub kind_text : RecordedKind → List ℕ
kind_text (Stripe s) = 0 ∷ stripe_text s
kind_text (Mirror m) = 1 ∷ mirror_text m
kind_text (Raid r) = 2 ∷ raid_text r
kind_text (Soft s) = 3 ∷ soft_text s

abbrev pub KindFits : RecordedKind → Type 0
KindFits (Stripe s) = StripeFits s
KindFits (Mirror m) = MirrorFits m
KindFits (Raid r) = RaidFits r
KindFits (Soft s) = SoftFits s

unfoldable pub volume_text : RecordedVolume → List ℕ
volume_text v = volume_id_text v.number ++ kind_text v.kind

abbrev pub VolumeFits : RecordedVolume → Type 0
VolumeFits v = VolumeIdFits v.number × KindFits v.kind

-- a spare and its state
unfoldable pub spare_part_text : RecordedSpare → List ℕ
spare_part_text s = spare_text s.spare ++ spare_state_text s.state

abbrev pub SparePartFits : RecordedSpare → Type 0
SparePartFits s = SpareFits s.spare

unfoldable pub pool_part_text : RecordedPool → List ℕ
pool_part_text p = pool_id_text p.number ++ long_text spare_part_text p.spares

abbrev pub PoolPartFits : RecordedPool → Type 0
PoolPartFits p = PoolIdFits p.number × LongFits SparePartFits 100 p.spares
