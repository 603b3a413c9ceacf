-- A boot of a host looks at slices of the host's own drives alone, and the host's view of the table tells it which.
use Rattle.std.proofs.Common.{◌≡◌, ◌<◌, ◌^◌, ◌&&◌, ◌+◌, ℕ, Bool, true, false, if◌then◌else◌, not, nat_le, refl, sym, ◌∙◌, ap, subst, List, [], ◌∷◌, Option, None, Some, Contains, slice_get, filter, inl, inr, arith}
use Rattle.std.proofs.lemmas.Bool.Decides.{nat_tests}
use Rattle.std.proofs.lemmas.Bool.{and_parts, cond-false, false≢true}
use Rattle.std.proofs.lemmas.List.Elements.{All-contains}
use Rattle.std.proofs.lemmas.List.Folds.{Any-from_list_any, list_any_at}
use Rattle.std.proofs.lemmas.Option.{get_or_from_slice_get}
use Rattle.std.specs.List.{list_any}
use Rattle.mdv_base.specs.declared.drive.DriveNo.{DriveNo}
use Rattle.mdv_base.specs.declared.drive.SliceName.{SliceName}
use Rattle.mdv_base.specs.declared.name.Key.TheVariants.{Local}
use Rattle.mdv_name.proofs.Finding.{slice_at-some}
use Rattle.mdv_name.proofs.Sound.{sound_geometry}
use Rattle.mdv_name.specs.declared.drive_line.DriveKind.{DriveKind}
use Rattle.mdv_name.specs.declared.drive_line.DriveKind.TheVariants.{Own, Shared, Mediator}
use Rattle.mdv_name.specs.declared.drive_line.DriveLine.{DriveLine}
use Rattle.mdv_name.specs.declared.geometry.Geometry.{Geometry}
use Rattle.mdv_name.specs.declared.slice_lines.SliceAt.{SliceAt}
use Rattle.mdv_name.specs.declared.slice_lines.SliceLine.{SliceLine}
use Rattle.mdv_name.specs.Geometry.{IsGeometry as IsTable}
use Rattle.mdv_name.specs.SliceIndex.{HasSlice, is_among, same_slice}
use Rattle.mdv_name.specs.Sound.{IsSound}
use Rattle.mdv_plan.specs.Slices.{is_other_db, meets_db, overlap, overlap_at, share_a_block, slice_at}
use Rattle.mdv_shelf.proofs.Blocks.{both_ways}
use Rattle.mdv_shelf.specs.Drives.{AreDrives}
use Rattle.mdv_shown.proofs.Sites.{law_sites}
use Rattle.mdv_shown.specs.Site.{size_on}
use Rattle.mdv_shown.specs.Sites.{drives_from, is_line_of, is_reached, is_reached_at, is_reached_line, lines_of, site_of, takes_replicas}
use Rattle.mdv_survey.specs.Replica.{IsOnShelf}
use Rattle.mdv_home.specs.Drives.{IsOwnDrive, is_own, own_drives, own_from, sizes_of}
use Rattle.mdv_home.specs.Sites.{SitesAreOwn}
use Rattle.mdv_home.specs.View.{own_view}
use Rattle.mdv_home.proofs.Owning.{of_host, own_lie, owned, drives_are_own, size_at}
use Rattle.mdv_home.proofs.Places.{slices_within}
use Rattle.mdv_home.proofs.Read.{LiesOn, drive_at, read_table}
use Rattle.mdv_home.proofs.Viewing.{first, behind, in_filter, is_there, there_is, view_is_own}

alike : (a b : Bool) → (a ≡ true → b ≡ true) → (b ≡ true → a ≡ true) → a ≡ b
alike true true there back = refl
alike true false there back = sym (there refl)
alike false true there back = back refl
alike false false there back = refl

-- a drive that the host's own database reaches is the host's own
reached_own : (host : List ℕ) (kind : DriveKind) → is_reached (Local host) kind ≡ is_own host kind
reached_own host (Own drive owner) = refl
reached_own host (Shared drive) = refl
reached_own host (Mediator other) = refl

reached_from : (host : List ℕ) (number : ℕ) (lines : List DriveLine) → drives_from (Local host) number lines ≡ own_from number host lines
reached_from host number [] = refl
reached_from host number (line ∷ lines) =
    ap (λ (drives : List DriveNo). if is_reached (Local host) line.kind then record { 0 = number } ∷ drives else drives) (reached_from host (number + 1) lines)
    ∙ ap (λ (own : Bool). if own then record { 0 = number } ∷ own_from (number + 1) host lines else own_from (number + 1) host lines) (reached_own host line.kind)

-- so a boot brings these up
pub brought_up : (table : Geometry) (host : List ℕ) → (site_of table (Local host)).drives ≡ own_drives table host
brought_up table host = reached_from host 0 table.drives

module _ (table : Geometry) (host : List ℕ) (drive : DriveNo) where
  reached_is : (line : Option DriveLine) → slice_get table.drives drive.0 ≡ line → is_reached_line (Local host) line ≡ true → IsOwnDrive table host drive
  reached_is None at is = absurd (false≢true is)
  reached_is (Some line) at is =
      let own = owned host line.kind (sym (reached_own host line.kind) ∙ is) in
      record { line = line; place = at; name = own.name; own = own.own }

  is_reached_there : IsOwnDrive table host drive → is_reached_at table (Local host) drive.0 ≡ true
  is_reached_there is = ap (is_reached_line (Local host)) is.place ∙ reached_own host is.line.kind ∙ of_host host is.line.kind (record { name = is.name; own = is.own })

  -- it reaches just the drives that are the host's own
  reached_among : is_reached_at table (Local host) drive.0 ≡ is_among (own_drives table host) drive
  reached_among = alike (is_reached_at table (Local host) drive.0) (is_among (own_drives table host) drive)
      (λ is. there_is (own_drives table host) drive ((drives_are_own.own table host drive).1 (reached_is (slice_get table.drives drive.0) refl is)))
      (λ is. is_reached_there ((drives_are_own.own table host drive).0 (is_there (own_drives table host) drive is)))

-- a list has it, so the test finds it
any_has : {X : Type 0} (p : X → Bool) (xs : List X) (x : X) → Contains xs x → p x ≡ true → list_any p xs ≡ true
any_has p xs x has is = list_any_at p xs has.0 x has.1 (ap p has.2 ∙ is)

-- of slices that share a block both lie on one drive
share_drive : (a b : SliceAt) → share_a_block a b ≡ true → b.drive ≡ a.drive
share_drive a b share =
    let same : a.drive.0 ≡ b.drive.0 = grind (arith, nat_tests) in
    λ i. record { 0 = sym same i }

module _ (table : Geometry) (host : List ℕ) (sound : IsSound table) where
  view : Geometry
  view = own_view table host

  -- a slice on a drive of the host's own lies in the view where it lies in the table
  seen_alike : (name : SliceName) (at : SliceAt) → HasSlice table.slices name at → Contains (own_drives table host) at.drive → slice_at (own_view table host).slices name ≡ slice_at table.slices name
  seen_alike name at has own =
      (slice_at-some (own_view table host) name at (view_is_own.sound table host sound)).1 ((view_is_own.seen table host name at).1 (has, own)) ∙ sym ((slice_at-some table name at sound).1 has)

  module _ (name : SliceName) (at : SliceAt) (has : HasSlice table.slices name at) (own : Contains (own_drives table host) at.drive) where
    other_alike : (line : SliceLine) → Contains table.slices line → Contains (own_drives table host) line.at.drive → is_other_db (own_view table host) name line ≡ is_other_db table name line
    other_alike line one_of on_own =
        ap (λ (o : Option SliceAt). (line.at.db && not (same_slice line.name name)) && overlap_at o (slice_at (own_view table host).slices name)) (seen_alike line.name line.at one_of on_own)
        ∙ ap (λ (o : Option SliceAt). (line.at.db && not (same_slice line.name name)) && overlap_at (slice_at table.slices line.name) o) (seen_alike name at has own)

    -- another slice that has a block of it lies there too
    other_own : (line : SliceLine) → Contains table.slices line → is_other_db table name line ≡ true → Contains (own_drives table host) line.at.drive
    other_own line one_of is =
        let over : overlap table line.name name ≡ true = (and_parts (line.at.db && not (same_slice line.name name)) (overlap table line.name name) is).1 in
        let share : share_a_block line.at at ≡ true =
        sym (ap (λ (o : Option SliceAt). overlap_at o (slice_at table.slices name)) ((slice_at-some table line.name line.at sound).1 one_of) ∙ ap (overlap_at (Some line.at)) ((slice_at-some table name at sound).1 has)) ∙ over in
        subst (Contains (own_drives table host)) (share_drive line.at at share) own

    pub meets_alike : meets_db (own_view table host) name ≡ meets_db table name
    meets_alike = alike (meets_db (own_view table host) name) (meets_db table name)
        (λ is.
        let found = Any-from_list_any (is_other_db (own_view table host) name) (own_view table host).slices is in
        let line = found.1 in
        let there = (view_is_own.seen table host line.name line.at).0 (found.0, found.2, found.3) in
        any_has (is_other_db table name) table.slices line there.0 (sym (other_alike line there.0 there.1) ∙ found.4))
        (λ is.
        let found = Any-from_list_any (is_other_db table name) table.slices is in
        let line = found.1 in
        let one_of : Contains table.slices line = (found.0, found.2, found.3) in
        let on_own = other_own line one_of found.4 in
        any_has (is_other_db (own_view table host) name) (own_view table host).slices line ((view_is_own.seen table host line.name line.at).1 (one_of, on_own)) (other_alike line one_of on_own ∙ found.4))

-- what passes one test of those that pass another
filter_twice : {X : Type 0} (p seen test : X → Bool) (xs : List X) → ((x : X) → Contains xs x → seen x ≡ true → test x ≡ p x) → ((x : X) → Contains xs x → seen x ≡ false → p x ≡ false) → filter test (filter seen xs) ≡ filter p xs
filter_twice p seen test [] same none = refl
filter_twice {X} p seen test (y ∷ xs) same none =
    let rest : filter test (filter seen xs) ≡ filter p xs = filter_twice p seen test xs (λ x has. same x (behind y x xs has)) (λ x has. none x (behind y x xs has)) in
    elim (both_ways (seen y)) [
      | inl does ↦ rw does (
          ap (λ (b : Bool). if b then y ∷ filter test (filter seen xs) else filter test (filter seen xs)) (same y (first y y xs refl) does)
          ∙ ap (λ (l : List X). if p y then y ∷ l else l) rest)
      | inr never ↦ rw never (rest ∙ sym (cond-false (p y) (y ∷ filter p xs) (filter p xs) (none y (first y y xs refl) never)))
    ]

module _ (table : Geometry) (host : List ℕ) (sound : IsSound table) where
  line_alike : (line : SliceLine) → Contains table.slices line → is_among (own_drives table host) line.at.drive ≡ true → is_line_of (own_view table host) (Local host) line ≡ is_line_of table (Local host) line
  line_alike line one_of own =
      ap (λ (meets : Bool). is_reached_at table (Local host) line.at.drive.0 && ((line.at.db && nat_le 32 line.at.blocks) && not meets))
      (meets_alike table host sound line.name line.at one_of (is_there (own_drives table host) line.at.drive own))

  elsewhere : (line : SliceLine) → Contains table.slices line → is_among (own_drives table host) line.at.drive ≡ false → is_line_of table (Local host) line ≡ false
  elsewhere line one_of other = ap (λ (reached : Bool). reached && takes_replicas table line) (reached_among table host line.at.drive ∙ other)

  pub lines_alike : lines_of (own_view table host) (Local host) ≡ lines_of table (Local host)
  lines_alike = filter_twice (is_line_of table (Local host)) (λ (line : SliceLine). is_among (own_drives table host) line.at.drive) (is_line_of (own_view table host) (Local host)) table.slices line_alike elsewhere

  pub site_alike : site_of (own_view table host) (Local host) ≡ site_of table (Local host)
  site_alike = λ i. record { key = Local host; lines = lines_alike i; drives = drives_from (Local host) 0 table.drives; sizes = sizes_of table }

module _ (text : List ℕ) (table : Geometry) (host : List ℕ) (is : IsTable text table) where
  in_table : (line : SliceLine) → Contains (site_of table (Local host)).lines line → Contains table.slices line
  in_table line has = (in_filter (is_line_of table (Local host)) table.slices line has).0

  small : (line : SliceLine) → Contains table.slices line → size_on (site_of table (Local host)) line < 2 ^ 64
  small line has =
      let read = read_table text table is in
      let lies = All-contains (LiesOn table.drives) table.slices line read.slices has in
      let size = get_or_from_slice_get (sizes_of table) line.at.drive.0 lies.drive.blocks 0 (size_at table line.at.drive.0 lies.drive lies.place) in
      omega (arith, size, (drive_at table read line.at.drive.0 lies.drive lies.place).most)

  pub on_shelf : IsOnShelf (sizes_of table) (site_of table (Local host))
  on_shelf = record {
    site_is = law_sites.sites table (Local host) (sound_geometry text table is);
    sizes_are = refl;
    drives = subst (AreDrives (sizes_of table)) (sym (brought_up table host)) (own_lie text table host is);
    brought = law_sites.brought table (Local host);
    within = λ line has. (slices_within text table line.name line.at is (in_table line has)).within;
    small = λ line has. small line (in_table line has);
  }

pub sites_are_own : SitesAreOwn
sites_are_own = record { drives = brought_up; seen = site_alike; on_shelf = on_shelf }
