-- What fits the fields of a record, part by part: no kind of volume fits that a table of a geometry can't have.
use Rattle.std.specs.Prelude.{◌≡◌, ◌<◌, ◌≤◌, ◌^◌, length, All, None}
use Rattle.std.specs.List.{sum_by}
use Rattle.mdv_encoding.specs.Below.{Base, Slice, Volume, Component, Row, OneStripe, OneVolume, VolumeKind, Stripe, width}
use Rattle.mdv_fields.specs.Names.{SliceFits}

abbrev pub FitsBase : Base → Type 0
FitsBase (Slice s) = SliceFits s
FitsBase (Volume v) = ⊥

pub record FitsComponent (c : Component) : Type 0 where
  pub on : FitsBase c.on
  pub start : c.start < 256 ^ 8
  pub blocks : c.blocks < 256 ^ 8

pub record FitsRow (row : Row) : Type 0 where
  pub interlace : row.interlace < 256 ^ 4
  pub some : 0 < length row.components
  pub few : length row.components ≤ 100
  pub each : All FitsComponent row.components

pub record FitsStripe (s : OneStripe) : Type 0 where
  pub some : 0 < length s.rows
  pub few : sum_by width s.rows ≤ 100
  pub rows : length s.rows ≤ 100
  pub each : All FitsRow s.rows
  pub spares : s.spares ≡ None

abbrev pub FitsKind : VolumeKind → Type 0
FitsKind (Stripe s) = FitsStripe s
FitsKind other = ⊥

pub record FitsVolume (v : OneVolume) : Type 0 where
  pub number : v.number.0 < 8192
  pub kind : FitsKind v.kind
