-- What a table of a geometry says fits the fields of a record, and is noted.
use Rattle.std.proofs.Common.{◌≡◌, ◌<◌, ◌≤◌, ◌+◌, ◌^◌, ℕ, refl, sym, ◌∙◌, subst, List, [], ◌∷◌, length, get_or, map, replicate, arith}
use Rattle.std.proofs.lemmas.List.{length-map, length-replicate}
use Rattle.std.proofs.lemmas.List.Elements.{All-cons, All-head, All-map, All-nil, All-tail, All-weaker}
use Rattle.std.proofs.lemmas.List.Sums.{sum_by-cons}
use Rattle.std.specs.List.{AllZip, sum_by}
use Rattle.std.specs.Prelude.{All, AllPairs, IsTrue}
use Rattle.mdv_codec.proofs.Records.{length-record_text as length-recorded}
use Rattle.mdv_codec.specs.Record.{FrontFits, IsBehindPool, IsBehindVolume, RisingFits}
use Rattle.mdv_codec.specs.Recorded.{PartFits, RowFits, StripeFits, KindFits, VolumeFits, width_of as parts_of}
use Rattle.mdv_encoding.specs.Below.{SliceName, Place, Geometry, SliceAt, HasSlice, Lists, One, Two, Table, Base, Slice, Volume, Component, RecordedRow, RecordedVolume, Row, OneStripe, OneVolume, VolumeKind, Stripe, Mirror, Raid, Soft, IsSound, IsOfGeometry, IsListsOf, IsPlacesOf, IsPlaceOf, IsPartOn, IsRowOf, IsRowsOf, IsKindOf, first_blocks, no_set, quiet_kind, quiet_part, quiet_volume, row_depth, volume_key, width, width_of}
use Rattle.mdv_encoding.specs.Parsing.{table_with, table_from}
use Rattle.mdv_encoding.specs.Text.{okay_part, okay_row, quiet_recorded, record_text}
use Rattle.mdv_encoding.proofs.Fits.{FitsBase, FitsComponent, FitsRow, FitsStripe, FitsKind, FitsVolume}
use Rattle.mdv_encoding.proofs.Parsed.{parts_read}
use Rattle.mdv_encoding.proofs.Quiet.{rows_quiet, volumes_quiet}
use Rattle.mdv_fields.specs.Names.{SliceFits}
use Rattle.mdv_fields.specs.Parts.{BaseFits, PlaceFits}
use Rattle.mdv_fields.specs.Reading.{LongFits, ShortFits}
use Rattle.mdv_fields.specs.Sets.{IsBehindDrive, IsBehindPending, ListsFit, PlacesFit, are_spaced}
use Rattle.mdv_plan.proofs.Ascending.{few}
use Rattle.mdv_plan.specs.Sorted.{IsSorted}
use Rattle.mdv_whole.proofs.Noting.{noted_is_table}
use Rattle.mdv_whole.proofs.Table.{ascending_sides}
use Rattle.mdv_whole.specs.Noted.{IsKindNoted, IsVolumeNoted}
use Rattle.mdv_whole.specs.Sides.{kind_of, recorded_of}
use Rattle.mdv_whole.specs.Text.{IsTable}

none_short : {A : Type 0} (F : A → Type 0) (most : ℕ) → ShortFits F most []
none_short F most = record { few = omega arith; counted = omega arith; each = All-nil F }

none_long : {A : Type 0} (F : A → Type 0) (most : ℕ) → LongFits F most []
none_long F most = record { few = omega arith; counted = omega arith; each = All-nil F }

none_paired : {A : Type 0} (R : A → A → Type 0) → AllPairs R []
none_paired R i j d below within = absurd (omega arith)

-- each row has a component, so there are no more rows
rows_few : (rows : List Row) → All FitsRow rows → length rows ≤ sum_by width rows
rows_few [] fits = omega arith
rows_few (row ∷ rows) fits =
    let sum : sum_by width (row ∷ rows) ≡ length row.components + sum_by width rows = sum_by-cons width row rows in
    omega (arith, rows_few rows (All-tail FitsRow row rows fits), sum, (All-head FitsRow row rows fits).some)

-- a row has no more components than all have
row_few : (rows : List Row) → sum_by width rows ≤ 100 → All (λ row. width row ≤ 100) rows
row_few [] most = All-nil _
row_few (row ∷ rows) most =
    let sum : sum_by width (row ∷ rows) ≡ length row.components + sum_by width rows = sum_by-cons width row rows in
    All-cons (λ r. width r ≤ 100) row rows (omega (arith, sum, most)) (row_few rows (omega (arith, sum, most)))

-- a row that has blocks has a component
row_some : (cs : List Component) → 0 < first_blocks cs → 0 < length cs
row_some [] some = absurd (omega arith)
row_some (c ∷ cs) some = omega arith

module _ (g : Geometry) (sound : IsSound g) where
  slice_fits : (s : SliceName) (at : SliceAt) → HasSlice g.slices s at → SliceFits s
  slice_fits s at has =
      let name = (sound.each s at has).named in
      ((name.drive.controller, (name.drive.target, name.drive.disk)), omega (arith, name.slice))

  place_fits : (p : Place) → IsPlaceOf g p → PlaceFits p
  place_fits p is = (slice_fits p.slice is.at is.has, (is.lies.start, omega (arith, is.lies.most)))

  places_fit : (ps : List Place) → IsPlacesOf g ps → PlacesFit ps
  places_fit ps is = record { few = is.few; counted = omega (arith, is.few); each = All-weaker (IsPlaceOf g) PlaceFits place_fits ps is.each }

  lists_fit : (l : Lists) → IsListsOf g l → ListsFit l
  lists_fit (One ps) is = places_fit ps is
  lists_fit (Two old new) is = (places_fit old is.0, places_fit new is.1)

  lists_spaced : (l : Lists) → IsListsOf g l → IsTrue (are_spaced l)
  lists_spaced (One ps) is = is.spaced
  lists_spaced (Two old new) is = is.2

  on_fits : (blocks : ℕ) (c : Component) (b : Base) → IsPartOn g blocks c b → FitsBase b × ((c.start < 256 ^ 8) × (c.blocks < 256 ^ 8))
  on_fits blocks c (Volume v) is = absurd is
  on_fits blocks c (Slice s) is =
      (slice_fits s is.at is.has, (omega (arith, is.lies.start), omega (arith, is.lies.blocks_are, is.lies.within, (sound.each s is.at is.has).within)))

  component_fits : (blocks : ℕ) (c : Component) → IsPartOn g blocks c c.on → FitsComponent c
  component_fits blocks c is = let fits = on_fits blocks c c.on is in record { on = fits.0; start = fits.1.0; blocks = fits.1.1 }

  row_fits : (row : Row) → IsRowOf g row → width row ≤ 100 → FitsRow row
  row_fits row is small = record {
    interlace = omega (arith, is.most);
    some = row_some row.components is.some;
    few = small;
    each = All-weaker (λ c. IsPartOn g (row_depth row) c c.on) FitsComponent (component_fits (row_depth row)) row.components is.each;
  }

  stripe_fits : (s : OneStripe) → IsRowsOf g s → FitsStripe s
  stripe_fits s is =
      let small = row_few s.rows is.few in
      let each : All FitsRow s.rows = λ k d within. row_fits (get_or s.rows k d) (is.each k d within) (small k d within) in
      record { some = is.some; few = is.few; rows = omega (arith, rows_few s.rows each, is.few); each = each; spares = is.spares }

  kind_fits : (k : VolumeKind) → IsKindOf g k → FitsKind k
  kind_fits (Stripe s) is = stripe_fits s is
  kind_fits (Mirror m) is = absurd is
  kind_fits (Raid r) is = absurd is
  kind_fits (Soft s) is = absurd is

  volumes_fit : (vs : List OneVolume) → IsSorted volume_key 8192 vs → All (λ (v : OneVolume). IsKindOf g v.kind) vs → All FitsVolume vs
  volumes_fit vs numbers kinds k d within = record { number = numbers.keys k d within; kind = kind_fits (get_or vs k d).kind (kinds k d within) }

-- what fits, as a record has it
base_recorded : (b : Base) → FitsBase b → BaseFits b
base_recorded (Slice s) fits = fits
base_recorded (Volume v) fits = absurd fits

component_recorded : (c : Component) → FitsComponent c → PartFits (okay_part c)
component_recorded c fits = ((base_recorded c.on fits.on, (fits.start, fits.blocks)), tt)

row_recorded : (row : Row) → FitsRow row → RowFits (okay_row row)
row_recorded row fits =
    let size = length-map row.components okay_part in
    record {
      interlace = fits.interlace;
      some = omega (arith, size, fits.some);
      few = omega (arith, size, fits.few);
      each = All-map PartFits okay_part row.components (All-weaker FitsComponent (λ c. PartFits (okay_part c)) component_recorded row.components fits.each);
    }

widths : (rows : List Row) → sum_by parts_of (map okay_row rows) ≡ sum_by width rows
widths [] = refl
widths (row ∷ rows) =
    sum_by-cons parts_of (okay_row row) (map okay_row rows) ∙ (λ i. length-map row.components okay_part i + widths rows i) ∙ sym (sum_by-cons width row rows)

kind_recorded : (k : VolumeKind) → FitsKind k → KindFits (kind_of k (quiet_kind k))
kind_recorded (Mirror m) fits = absurd fits
kind_recorded (Raid r) fits = absurd fits
kind_recorded (Soft s) fits = absurd fits
kind_recorded (Stripe s) fits =
    let size = length-map s.rows okay_row in
    subst (λ (rows : List RecordedRow). StripeFits (record { spares = s.spares; rows = rows })) (sym (rows_quiet s.rows)) (record {
      spares = rw fits.spares tt;
      rows = record {
        few = omega (arith, size, fits.rows);
        counted = omega (arith, size, fits.rows);
        each = All-map RowFits okay_row s.rows (All-weaker FitsRow (λ row. RowFits (okay_row row)) row_recorded s.rows fits.each);
      };
      some = omega (arith, size, fits.some);
      few = omega (arith, widths s.rows, fits.few);
    })

volume_recorded : (v : OneVolume) → FitsVolume v → VolumeFits (quiet_recorded v)
volume_recorded v fits = (fits.number, kind_recorded v.kind fits.kind)

-- numbers that ascend do so in the record too
rising_recorded : (vs : List OneVolume) → IsSorted volume_key 8192 vs → All FitsVolume vs → RisingFits VolumeFits IsBehindVolume 8192 (map quiet_recorded vs)
rising_recorded vs sorted fits =
    let size = length-map vs quiet_recorded in
    let most = few volume_key 8192 vs sorted in
    record {
      list = record {
        few = omega (arith, size, most);
        counted = omega (arith, size, most);
        each = All-map VolumeFits quiet_recorded vs (All-weaker FitsVolume (λ v. VolumeFits (quiet_recorded v)) volume_recorded vs fits);
      };
      ascending = ascending_sides (λ (v : RecordedVolume). v.number.0) quiet_recorded vs sorted.ascending;
    }

-- a state of each component is noted
kind_noted : (k : VolumeKind) → FitsKind k → IsKindNoted k (quiet_kind k)
kind_noted (Mirror m) fits = absurd fits
kind_noted (Raid r) fits = absurd fits
kind_noted (Soft s) fits = absurd fits
kind_noted (Stripe s) fits =
    let size : length (replicate (width_of s) quiet_part) ≡ sum_by width s.rows = length-replicate (width_of s) quiet_part in
    (size, omega (arith, size, fits.few))

volumes_noted : (vs : List OneVolume) → All FitsVolume vs → AllZip IsVolumeNoted vs (map quiet_volume vs)
volumes_noted [] fits = tt
volumes_noted (v ∷ vs) fits =
    (record { number = refl; kind = kind_noted v.kind (All-head FitsVolume v vs fits).kind }, volumes_noted vs (All-tail FitsVolume v vs fits))

-- a table that has lists and volumes alone
same_table : (t : Table) (g : Geometry) → IsOfGeometry g t → t ≡ table_with t.plan.lists t.plan.volumes
same_table t g is = λ i. record {
  plan = record { lists = t.plan.lists; set = is.alone.set i; pending = is.alone.pending i; pools = is.alone.pools i; volumes = t.plan.volumes };
  status = is.quiet i;
}

-- A table of which all is noted, and whose record is one, has a text that can be read: a law of mdv_whole, which who cites these calls.
module _ (g : Geometry) (sound : IsSound g) where
  -- what is read of its text is the table
  pub table_read : (t : Table) → IsOfGeometry g t → table_from (record_text t) ≡ t
  table_read t is =
      let most = few volume_key 8192 t.plan.volumes is.numbers in
      let read = parts_read t.plan.lists t.plan.volumes (lists_fit g sound t.plan.lists is.lists) most (volumes_fit g sound t.plan.volumes is.numbers is.kinds) in
      subst (λ (u : Table). table_from (record_text u) ≡ u) (sym (same_table t g is)) read

  front_fits : (l : Lists) → IsListsOf g l → FrontFits (record { lists = l; set = no_set; pending = [] })
  front_fits l is = record {
    lists = lists_fit g sound l is;
    spaced = lists_spaced g sound l is;
    set = record { owner = tt; hosts = none_short _ 8; drives = none_long _ 48; ascending = none_paired IsBehindDrive; mediators = none_short _ 3 };
    pending = none_short _ 31;
    names = none_paired IsBehindPending;
  }

  with_fits : (l : Lists) (vs : List OneVolume) → IsListsOf g l → IsSorted volume_key 8192 vs → All (λ (v : OneVolume). IsKindOf g v.kind) vs → length (record_text (table_with l vs)) < 2 ^ 32 → IsTable (table_with l vs)
  with_fits l vs lists numbers kinds short =
      let each = volumes_fit g sound vs numbers kinds in
      noted_is_table (table_with l vs) (record { volumes = volumes_noted vs each; spares = refl }) (record {
        fits = record {
          front = front_fits l lists;
          pools = record { list = none_long _ 1000; ascending = none_paired IsBehindPool };
          volumes = subst (RisingFits VolumeFits IsBehindVolume 8192) (sym (volumes_quiet vs)) (rising_recorded vs numbers each);
        };
        short = omega (arith, length-recorded (recorded_of (table_with l vs)), short);
      })

  -- all of it is in its text, and can be read again
  pub fits_table : (t : Table) → IsOfGeometry g t → length (record_text t) < 2 ^ 32 → IsTable t
  fits_table t is short =
      let same = same_table t g is in
      subst IsTable (sym same) (with_fits t.plan.lists t.plan.volumes is.lists is.numbers is.kinds (subst (λ (u : Table). length (record_text u) < 2 ^ 32) same short))
