-- What the lines of volumes and pools say, as the entries of an md.tab.
use Rattle.std.specs.Prelude.{◌<◌, ◌≤◌, ◌^◌, ℕ, nat_lt, Bool, true, false, if◌then◌else◌, Option, None, Some, List, ◌++◌, All, length, map}
use Rattle.mdv_base.specs.declared.drive.SliceName.{SliceName}
use Rattle.mdv_name.specs.Drive.{IsSliceName}
use Rattle.mdv_name.specs.declared.volume.VolName.{VolName}
use Rattle.mdv_parts.specs.declared.component.Component.{Component as Named}
use Rattle.mdv_tab.specs.declared.entry.Entry.{Entry}
use Rattle.mdv_tab.specs.declared.entry.Extent.{Extent}
use Rattle.mdv_tab.specs.declared.entry.ReadFrom.{ReadFrom}
use Rattle.mdv_tab.specs.declared.entry.Room.{Room}
use Rattle.mdv_tab.specs.declared.entry.Row.{Row as RowEntry}
use Rattle.mdv_print.specs.Below.{Base, Component, OnePool, OneVolume, Plan, PoolId, ReadOption, Row, Run, Spare, VolId, VolumeKind, WriteOption}
use Rattle.mdv_print.specs.Order.{uppermost, with_below}
use Rattle.mdv_plan.specs.declared.volume.Base.TheVariants.{Slice, Volume}
use Rattle.mdv_plan.specs.declared.volume.ReadOption.TheVariants.{InTurn, Geometric, First}
use Rattle.mdv_plan.specs.declared.volume.VolumeKind.TheVariants.{Stripe, Mirror, Raid, Soft}
use Rattle.mdv_plan.specs.declared.volume.WriteOption.TheVariants.{Parallel, Serial}

abbrev pub base_named : Base → Named
base_named (Slice s) = Named.Slice s
base_named (Volume v) = Named.Volume v

abbrev pub component_named : Component → Named
component_named c = base_named c.on

-- the interlace where it matters, of widths over 1
abbrev pub row_entry : Row → RowEntry
row_entry row = record { components = map component_named row.components; interlace = if nat_lt 1 (length row.components) then Some row.interlace else None }

abbrev pub read_from : ReadOption → Option ReadFrom
read_from InTurn = None
read_from Geometric = Some ReadFrom.Geometric
read_from First = Some ReadFrom.First

abbrev pub is_serial : WriteOption → Bool
is_serial Parallel = false
is_serial Serial = true

abbrev pub extent_entry : Run → Extent
extent_entry run = record { offset = run.at; blocks = run.blocks }

abbrev pub kind_entry : VolName → VolumeKind → Entry
kind_entry name (Stripe s) = Entry.Stripe name (map row_entry s.rows) s.spares
kind_entry name (Mirror m) = Entry.Mirror name m.submirrors (record { read = read_from m.read; serial = is_serial m.write }) m.pass
kind_entry name (Raid r) = Entry.Raid name (map component_named r.columns) (record { interlace = Some r.interlace; spares = r.spares; keep = true })
kind_entry name (Soft s) = Entry.Soft name (base_named s.base) (Room.Extents (map extent_entry s.extents))

abbrev pub entry_of_volume : Option (List ℕ) → OneVolume → Entry
entry_of_volume set v = kind_entry (record { set = set; volume = v.number }) v.kind

abbrev pub spare_slice : Spare → SliceName
spare_slice s = s.slice

abbrev pub entry_of_pool : Option (List ℕ) → OnePool → Entry
entry_of_pool set q = Entry.Pool (record { set = set; pool = q.number }) (map spare_slice q.spares)

-- the entries of a whole plan, in the order of its text
abbrev pub entries_of : Option (List ℕ) → Plan → List Entry
entries_of set p = map (entry_of_volume set) (with_below p (uppermost p)) ++ map (entry_of_pool set) p.pools

-- Below: names and numbers are in range, and nothing is empty that an entry must have.

abbrev pub IsInRange : Base → Type 0
IsInRange (Slice s) = IsSliceName s
IsInRange (Volume v) = v.0 < 8192

abbrev pub HasRange : Component → Type 0
HasRange c = IsInRange c.on

abbrev pub IsPoolInRange : Option PoolId → Type 0
IsPoolInRange None = Unit {0}
IsPoolInRange (Some q) = q.0 < 1000

pub record IsWholeRow (row : Row) : Type 0 where
  pub width : length row.components < 2 ^ 64
  pub components : All HasRange row.components
  pub interlace : row.interlace ≤ 2 ^ 40

abbrev pub IsSubmirror : VolId → Type 0
IsSubmirror v = v.0 < 8192

abbrev pub IsWholeRun : Run → Type 0
IsWholeRun run = (run.at < 2 ^ 64) × (run.blocks < 2 ^ 64)

abbrev pub IsWholeKind : VolumeKind → Type 0
IsWholeKind (Stripe s) = (0 < length s.rows) × (length s.rows < 2 ^ 64) × All IsWholeRow s.rows × IsPoolInRange s.spares
IsWholeKind (Mirror m) = (0 < length m.submirrors) × All IsSubmirror m.submirrors × (1 ≤ m.pass) × (m.pass ≤ 9)
IsWholeKind (Raid r) = (0 < length r.columns) × All HasRange r.columns × (r.interlace ≤ 2 ^ 40) × IsPoolInRange r.spares
IsWholeKind (Soft s) = IsInRange s.base × (0 < length s.extents) × All IsWholeRun s.extents

pub record IsWholeVolume (v : OneVolume) : Type 0 where
  pub number : v.number.0 < 8192
  pub kind : IsWholeKind v.kind

abbrev pub IsWholeSpare : Spare → Type 0
IsWholeSpare s = IsSliceName s.slice

pub record IsWholePool (q : OnePool) : Type 0 where
  pub number : q.number.0 < 1000
  pub spares : All IsWholeSpare q.spares

pub record IsWholePlan (p : Plan) : Type 0 where
  pub volumes : All IsWholeVolume p.volumes
  pub pools : All IsWholePool p.pools
