-- A run of one host leaves the drives as they stand with the history of another: all blocks that it may touch lie on its own drives, and a drive is one host's own.
use Rattle.std.proofs.Common.{◌≡◌, inl, inr, ◌+◌, ◌-◌, ℕ, Bool, true, false, ◌&&◌, ◌||◌, List, Contains, subst, arith}
use Rattle.std.proofs.lemmas.Bool.Decides.{nat_tests}
use Rattle.std.proofs.lemmas.List.Folds.{Any-from_list_any}
use Rattle.mdv_base.specs.declared.drive.DriveNo.{DriveNo}
use Rattle.mdv_run_law.specs.Below.{Geometry, HasSlice, History, Host, Key, Map, SliceAt, SliceLine, SliceName, StandsAt, StaysHome, Table, Tale, VolId, host_area, own_drives, own_view, site_area, site_of}
use Rattle.mdv_home.proofs.Owning.{one_owner}
use Rattle.mdv_home.proofs.Viewing.{view_is_own}
use Rattle.mdv_map.specs.Maps.{area_of_map}
use Rattle.mdv_shelf.specs.Area.{Area, AreApart, range}
use Rattle.mdv_shelf.proofs.Blocks.{both_ways}
use Rattle.mdv_shown.specs.Sites.{is_line_of}
use Rattle.mdv_volumes.specs.HistoryLaws.{IsElsewhere}
use Rattle.mdv_volumes.specs.Tables.{AreLaid, IsMapOf}
use Rattle.mdv_volumes.proofs.Lists.{in_filter}
use Rattle.mdv_volumes.proofs.Restarts.{restarts_go}
use Rattle.mdv_layout_law.specs.Laid.{plain_area, takes_volumes}
use Rattle.mdv_run_law.specs.Lives.{host_of}

-- each block of the area lies on one of these drives
abbrev LiesOn : List DriveNo → Area → Type 0
LiesOn own area = (drive block : ℕ) → area drive block ≡ true → Contains own (record { 0 = drive })

on_drive : (at first count drive block : ℕ) → range at first count drive block ≡ true → at ≡ drive
on_drive at first count drive block is = grind (arith, nat_tests)

-- so it is of blocks of one of them
range_on : (own : List DriveNo) (at : DriveNo) (first count : ℕ) → Contains own at → LiesOn own (range at.0 first count)
range_on own at first count has drive block is = subst (λ (n : ℕ). Contains own (record { 0 = n })) (on_drive at.0 first count drive block is) has

-- so areas on the drives of two hosts are apart
apart_on : (table : Geometry) (host other : List ℕ) (a b : Area) → (host ≡ other → ⊥) → LiesOn (own_drives table host) a → LiesOn (own_drives table other) b → AreApart a b
apart_on table host other a b differ first second drive block in_a in_b = differ (one_owner table host other (record { 0 = drive }) (first drive block in_a) (second drive block in_b))

both_are : (a b : Bool) → a && b ≡ true → b ≡ true
both_are true b is = is
both_are false b is = absurd (cc (is))

other_is : (a b : Bool) → a ≡ false → a || b ≡ true → b ≡ true
other_is true b none is = absurd (cc (none))
other_is false b none is = is

-- all that is a host's lies on its drives
module _ (table : Geometry) (name : List ℕ) (fresh : ℕ) where
  abbrev own : List DriveNo
  own = own_drives table name

  abbrev view : Geometry
  view = own_view table name

  abbrev host : Host
  host = host_of table name fresh

  -- a slice that it sees
  slice_on : (slice : SliceName) (at : SliceAt) → HasSlice view.slices slice at → Contains own at.drive
  slice_on slice at has = ((view_is_own.seen table name slice at).0 has).1

  line_on : (line : SliceLine) → Contains view.slices line → Contains own line.at.drive
  line_on line has = slice_on line.name line.at has

  -- those on which a boot looks for replicas, of whatever key
  site_on : (key : Key) → LiesOn own (site_area (site_of view key))
  site_on key drive block is =
      let found = Any-from_list_any (λ (l : SliceLine). range l.at.drive.0 (l.at.start + 16) (l.at.blocks - 16) drive block) (site_of view key).lines is in
      let line : SliceLine = found.1 in
      range_on own line.at.drive (line.at.start + 16) (line.at.blocks - 16) (line_on line (in_filter (is_line_of view key) view.slices line (found.0, found.2, found.3)).0) drive block found.4

  -- and those on which volumes may lie
  plain_on : LiesOn own (plain_area view)
  plain_on drive block is =
      let found = Any-from_list_any (λ (l : SliceLine). takes_volumes view l && range l.at.drive.0 l.at.start l.at.blocks drive block) view.slices is in
      let line : SliceLine = found.1 in
      range_on own line.at.drive line.at.start line.at.blocks (line_on line (found.0, found.2, found.3)) drive block (both_are (takes_volumes view line) (range line.at.drive.0 line.at.start line.at.blocks drive block) found.4)

  -- the blocks that a run of it may touch
  host_on : LiesOn own (host_area host)
  host_on drive block here = elim (both_ways (site_area host.site drive block)) [
    | inl does ↦ site_on host.site.key drive block does
    | inr never ↦ plain_on drive block (other_is (site_area host.site drive block) (plain_area view drive block) never here)
  ]

  -- and the volumes of its tables
  volume_on : (t : Table) → AreLaid view t → (volume : VolId) (v : Map) → IsMapOf view t volume v → LiesOn own (area_of_map v)
  volume_on t laid volume v lies drive block here = plain_on drive block (laid.plain volume v lies drive block here)

-- what one host's run may touch is neither where replicas of another may lie nor one of its volumes
module _ (table : Geometry) (name other : List ℕ) (fresh again : ℕ) (differ : other ≡ name → ⊥) where
  elsewhere : (h : History) (t : Tale) → StandsAt (host_of table name fresh) h t → IsElsewhere (own_view table name) h.databases (host_area (host_of table other again))
  elsewhere h t stands = record {
    slices = λ key. apart_on table other name (host_area (host_of table other again)) (site_area (site_of (own_view table name) key)) differ (host_on table other again) (site_on table name fresh key);
    volumes = λ key volume v named. apart_on table other name (host_area (host_of table other again)) (area_of_map v) differ (host_on table other again)
        (volume_on table name fresh named.version.table (stands.laid key named.version named.found) volume v named.map);
  }

  -- so the drives stand as they stood
  pub stands_elsewhere : (h : History) (t m : Tale) → StaysHome (host_of table other again) t m → StandsAt (host_of table name fresh) h t → StandsAt (host_of table name fresh) h m
  stands_elsewhere h t m stays stands = restarts_go.elsewhere (own_view table name) h (host_area (host_of table other again)) t m (elsewhere h t stands) stays stands

  -- a block of a volume of a table of the one is none that a run of the other may touch
  pub table_elsewhere : (t : Table) → AreLaid (own_view table name) t → (volume : VolId) (v : Map) → IsMapOf (own_view table name) t volume v → AreApart (host_area (host_of table other again)) (area_of_map v)
  table_elsewhere t laid volume v lies = apart_on table other name (host_area (host_of table other again)) (area_of_map v) differ (host_on table other again) (volume_on table name fresh t laid volume v lies)
