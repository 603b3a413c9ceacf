-- The volumes of a table of a geometry lie apart, on slices that aren't for replicas.
use Rattle.std.proofs.Common.{◌≡◌, inl, inr, ℕ, ◌+◌, ◌*◌, ◌^◌, ◌<◌, ◌≤◌, ◌&&◌, ◌==◌, Bool, true, false, not, if◌then◌else◌, List, [], ◌∷◌, length, get_or, map, zero, suc, flat_map, sum_by, Contains, Option, None, Some, refl, sym, ◌∙◌, ap, subst, arith}
use Rattle.std.specs.Prelude.{All, AllPairs}
use Rattle.std.proofs.lemmas.Bool.{and_from, cases_lt, not_from_false}
use Rattle.std.proofs.lemmas.Bool.Decides.{nat_tests}
use Rattle.std.proofs.lemmas.List.{get_or-map, get_or_default, length-map}
use Rattle.std.proofs.lemmas.List.Elements.{All-head, All-tail}
use Rattle.std.proofs.lemmas.List.Folds.{list_any_at}
use Rattle.std.proofs.lemmas.List.Sums.{sum_by-cons}
use Rattle.std.proofs.lemmas.Option.{none-some}
use Rattle.std.proofs.Math.Nat.{add-mul, mul-le-mul_left, mul-le-mul_right}
use Rattle.mdv_dev.specs.Together.{lies_where}
use Rattle.mdv_map.proofs.Combining.{in_run, run_disjoint}
use Rattle.mdv_map.proofs.Covering.{areas_cover}
use Rattle.mdv_map.specs.Maps.{DriveBlock, column_of, offset_of}
use Rattle.mdv_name.proofs.Finding.{slice_at-some}
use Rattle.mdv_stripe.proofs.Legs.{legs_match, stripes_stand}
use Rattle.mdv_stripe.specs.Stripes.{depth}
use Rattle.mdv_layout_law.specs.Below.{AreApart, AreDisjoint, Base, Component, DriveNo, Geometry, HasBlock, HasDriveBlock, HasSlice, IsDisjoint, IsKindOf, IsOfGeometry, IsOneCopy, IsPartOn, IsRowOf, IsRowsOf, IsSound, Map, Mirror, OneStripe, OneVolume, Overlaps, Plan, Raid, Row, Slice, SliceAt, SliceLine, SliceName, Soft, Stripe, Table, VolId, Volume, VolumeKind, area_of_map, base_slices, column_at, has_parent, kind_slices, meets_db, no_map, part_slices, range, row_depth, row_slices, slice_at, volume_of, volume_slices, width}
use Rattle.mdv_layout_law.specs.Chained.{blocks_in}
use Rattle.mdv_layout_law.specs.Laid.{AreLaid, TablesLie, plain_area, takes_volumes}
use Rattle.mdv_layout_law.specs.Layout.{IsMapOf, at_map, component_map, kind_map, map_at, row_map, rows_map}
use Rattle.mdv_layout_law.proofs.Chained.{chained_lie}
use Rattle.mdv_layout_law.proofs.Lists.{Found, find_found, in_flat, pairs_between, pairs_within}

-- the block of the drive is one of a slice of these names, on which volumes may lie
record LiesIn (g : Geometry) (names : List SliceName) (drive block : ℕ) : Type 0 where
  name : SliceName
  named : Contains names name
  at : SliceAt
  has : HasSlice g.slices name at
  plain : at.db ≡ false
  clear : meets_db g name ≡ false
  on_drive : drive ≡ at.drive.0
  within : HasBlock at block

-- all blocks of the map do
abbrev LieIn : Geometry → List SliceName → Map → Type 0
LieIn g names v = (b drive block : ℕ) → b < v.blocks → HasDriveBlock (v.places b) drive block → LiesIn g names drive block

abbrev Never : Geometry → SliceName → SliceName → Type 0
Never g m n = Overlaps g.slices m n → ⊥

lies_more : (g : Geometry) (names more : List SliceName) (drive block : ℕ) → ((name : SliceName) → Contains names name → Contains more name) → LiesIn g names drive block → LiesIn g more drive block
lies_more g names more drive block among it =
    record { name = it.name; named = among it.name it.named; at = it.at; has = it.has; plain = it.plain; clear = it.clear; on_drive = it.on_drive; within = it.within }

-- maps on slices that don't overlap share nothing
never_disjoint : (g : Geometry) (ms ns : List SliceName) (v w : Map) → ((m n : SliceName) → Contains ms m → Contains ns n → Never g m n) → LieIn g ms v → LieIn g ns w → AreDisjoint v w
never_disjoint g ms ns v w never one other a b drive block below above in_a in_b =
    let x = one a drive block below in_a in
    let y = other b drive block above in_b in
    let drives : x.at.drive ≡ y.at.drive = same_drive x.at.drive y.at.drive (sym x.on_drive ∙ y.on_drive) in
    never x.name y.name x.named y.named (record { first = x.at; second = y.at; has_first = x.has; has_second = y.has; overlap = record { drive = drives; block = block; in_first = x.within; in_second = y.within } })
  where
    same_drive : (c d : DriveNo) → c.0 ≡ d.0 → c ≡ d
    same_drive c d is = ap (λ (n : ℕ). record { 0 = n }) is

other_way : (v w : Map) → AreDisjoint v w → AreDisjoint w v
other_way v w are a b drive block below above in_a in_b = are b a drive block above below in_b in_a

-- what a map on some slices is known by
record IsOn (g : Geometry) (names : List SliceName) (most : ℕ) (v : Map) : Type 0 where
  lie : LieIn g names v
  disjoint : IsDisjoint v
  one : IsOneCopy v
  short : v.blocks ≤ most

abbrev nothing : Component
nothing = record { on = Volume (record { 0 = 0 }); start = 0; blocks = 0 }

abbrev no_row : Row
no_row = record { interlace = 0; components = [] }

times_less : (w d most : ℕ) → (0 < w → d ≤ most) → w * d ≤ w * most
times_less zero d most less = omega arith
times_less (suc w) d most less = mul-le-mul_left (suc w) (less (omega arith))

sum_more : (b s w r most whole parts : ℕ) → b ≤ w * most → s ≤ r * most → parts ≡ b + s → whole ≡ w + r → parts ≤ whole * most
sum_more b s w r most whole parts one other is all =
    subst (λ (n : ℕ). parts ≤ n * most) (sym all) (subst (λ (n : ℕ). parts ≤ n) (sym (add-mul w r most)) (omega arith))

module _ (g : Geometry) (sound : IsSound g) (p : Plan) where
  on_part : (blocks : ℕ) (c : Component) (base : Base) → IsPartOn g blocks c base → IsOn g (base_slices base) (2 ^ 40) (component_map g p c base)
  on_part blocks c (Slice slice) part =
      let found : slice_at g.slices slice ≡ Some part.at = (slice_at-some g slice part.at sound).1 part.has in
      let within = (sound.each slice part.at part.has).within in
      let start = part.lies.start in
      let count = part.lies.blocks_are in
      let room = part.lies.within in
      subst (λ (o : Option SliceAt). IsOn g (slice ∷ []) (2 ^ 40) (at_map o c.start c.blocks)) (sym found) (record {
        lie = λ b drive block lt has.
            let is = in_run part.at.drive.0 (part.at.start + c.start) c.blocks b drive block has in
            let at = is.1 in record {
              name = slice;
              named = (0, omega arith, refl);
              at = part.at;
              has = part.has;
              plain = part.lies.plain;
              clear = part.clear;
              on_drive = is.0;
              within = record { first = omega arith; last = omega arith };
            };
        disjoint = run_disjoint part.at.drive.0 (part.at.start + c.start) c.blocks;
        one = λ b lt. (part.at.drive.0, part.at.start + c.start + b, record { copies = refl; places = refl });
        short = omega arith;
      })
  on_part blocks c (Volume volume) part = absurd part

  abbrev column : Component → Map
  column c = component_map g p c c.on

  module _ (row : Row) (is : IsRowOf g row) where
    abbrev cs : List Component
    cs = row.components

    abbrev columns : List Map
    columns = map column cs

    some : 0 < row.interlace
    some = let least = is.least in omega arith

    in_cs : (i : ℕ) → i < length columns → i < length cs
    in_cs i lt = omega (arith, length-map cs column)

    part : (i : ℕ) → i < length columns → IsOn g (part_slices (get_or cs i nothing)) (2 ^ 40) (column_at columns i)
    part i lt =
        let listed = in_cs i lt in
        let c = get_or cs i nothing in
        subst (IsOn g (part_slices c) (2 ^ 40)) (sym (get_or-map column cs i nothing no_map listed)) (on_part (row_depth row) c c.on (is.each i nothing listed))

    row_lie : LieIn g (flat_map part_slices cs) (row_map g p row)
    row_lie b drive block lt has =
        let there = legs_match.lies row.interlace columns b some lt in
        let i = column_of row.interlace (length columns) b in
        let listed = legs_match.column row.interlace columns b some lt in
        let in_part = (part i listed).lie (offset_of row.interlace (length columns) b) drive block there.below (subst (λ (ss : List DriveBlock). HasDriveBlock ss drive block) there.places has) in
        lies_more g (part_slices (get_or cs i nothing)) (flat_map part_slices cs) drive block (λ name named. in_flat part_slices cs i nothing name (in_cs i listed) named) in_part

    row_one : IsOneCopy (row_map g p row)
    row_one b lt =
        let there = legs_match.lies row.interlace columns b some lt in
        let i = column_of row.interlace (length columns) b in
        let listed = legs_match.column row.interlace columns b some lt in
        let a = offset_of row.interlace (length columns) b in
        let at = (part i listed).one a there.below in
        (at.0, at.1, lies_where (row_map g p row) (column_at columns i) b a at.0 at.1 there at.2)

    row_short : (row_map g p row).blocks ≤ length cs * 2 ^ 40
    row_short =
        let size = legs_match.blocks row.interlace columns in
        let as_many = length-map cs column in
        let deep : 0 < length columns → depth row.interlace columns ≤ 2 ^ 40 = λ lt. let room = legs_match.room row.interlace columns 0 lt in let least = (part 0 lt).short in omega arith in
        let less = times_less (length columns) (depth row.interlace columns) (2 ^ 40) deep in
        subst (λ (n : ℕ). (row_map g p row).blocks ≤ n * 2 ^ 40) as_many (subst (λ (n : ℕ). n ≤ length columns * 2 ^ 40) (sym size) less)

    row_on : AllPairs (Never g) (flat_map part_slices cs) → IsOn g (flat_map part_slices cs) (length cs * 2 ^ 40) (row_map g p row)
    row_on pairs = record {
      lie = row_lie;
      disjoint = stripes_stand.disjoint row.interlace columns some (record { each = λ i lt. (part i lt).disjoint; apart = columns_apart });
      one = row_one;
      short = row_short;
    }
      where
        less_apart : (i j : ℕ) → i < length columns → j < length columns → i < j → AreDisjoint (column_at columns i) (column_at columns j)
        less_apart i j lt within less =
            never_disjoint g (part_slices (get_or cs i nothing)) (part_slices (get_or cs j nothing)) (column_at columns i) (column_at columns j)
            (λ m n one other. pairs_between (Never g) part_slices cs i j nothing m n pairs less (in_cs j within) one other) (part i lt).lie (part j within).lie

        columns_apart : (i j : ℕ) → i < length columns → j < length columns → (i ≡ j → ⊥) → AreDisjoint (column_at columns i) (column_at columns j)
        columns_apart i j lt within differ = elim (cases_lt i j) [
          | inl less ↦ less_apart i j lt within less
          | inr le ↦ elim (cases_lt j i) [
            | inl more ↦ other_way (column_at columns j) (column_at columns i) (less_apart j i within lt more)
            | inr ge ↦ absurd (differ (omega arith))
          ]
        ]

  module _ (rows : List Row) (are : All (IsRowOf g) rows) (pairs : AllPairs (Never g) (flat_map row_slices rows)) where
    abbrev laid_rows : List Map
    laid_rows = map (row_map g p) rows

    in_rows : (i : ℕ) → i < length laid_rows → i < length rows
    in_rows i lt = omega (arith, length-map rows (row_map g p))

    at_row : (i : ℕ) → i < length laid_rows → IsOn g (row_slices (get_or rows i no_row)) (length (get_or rows i no_row).components * 2 ^ 40) (column_at laid_rows i)
    at_row i lt =
        let listed = in_rows i lt in
        let row = get_or rows i no_row in
        subst (IsOn g (row_slices row) (length row.components * 2 ^ 40)) (sym (get_or-map (row_map g p) rows i no_row no_map listed))
        (row_on row (are i no_row listed) (pairs_within (Never g) row_slices rows i no_row pairs listed))

    rows_lie : LieIn g (flat_map row_slices rows) (rows_map g p rows)
    rows_lie b drive block lt has =
        let there = chained_lie.lies laid_rows b lt in
        let in_row = (at_row there.index there.listed).lie there.block drive block there.lies.below (subst (λ (ss : List DriveBlock). HasDriveBlock ss drive block) there.lies.places has) in
        lies_more g (row_slices (get_or rows there.index no_row)) (flat_map row_slices rows) drive block
        (λ name named. in_flat row_slices rows there.index no_row name (in_rows there.index there.listed) named) in_row

    rows_apart : AreApart laid_rows
    rows_apart = record {
      each = λ i lt. (at_row i lt).disjoint;
      apart = λ i j lt within differ. elim (cases_lt i j) [
        | inl less ↦ less_apart i j lt within less
        | inr le ↦ elim (cases_lt j i) [
          | inl more ↦ other_way (column_at laid_rows j) (column_at laid_rows i) (less_apart j i within lt more)
          | inr ge ↦ absurd (differ (omega arith))
        ]
      ];
    }
      where
        less_apart : (i j : ℕ) → i < length laid_rows → j < length laid_rows → i < j → AreDisjoint (column_at laid_rows i) (column_at laid_rows j)
        less_apart i j lt within less =
            never_disjoint g (row_slices (get_or rows i no_row)) (row_slices (get_or rows j no_row)) (column_at laid_rows i) (column_at laid_rows j)
            (λ m n one other. pairs_between (Never g) row_slices rows i j no_row m n pairs less (in_rows j within) one other) (at_row i lt).lie (at_row j within).lie

  rows_sum : (most : ℕ) (rows : List Row) → All (λ (row : Row). (row_map g p row).blocks ≤ width row * most) rows → sum_by blocks_in (map (row_map g p) rows) ≤ sum_by width rows * most
  rows_sum most [] each = omega arith
  rows_sum most (row ∷ rows) each =
      let rest = rows_sum most rows (All-tail (λ (r : Row). (row_map g p r).blocks ≤ width r * most) row rows each) in
      let here = All-head (λ (r : Row). (row_map g p r).blocks ≤ width r * most) row rows each in
      sum_more (row_map g p row).blocks (sum_by blocks_in (map (row_map g p) rows)) (width row) (sum_by width rows) most (sum_by width (row ∷ rows)) (sum_by blocks_in (map (row_map g p) (row ∷ rows)))
      here rest (sum_by-cons blocks_in (row_map g p row) (map (row_map g p) rows)) (sum_by-cons width row rows)

  rows_on : (s : OneStripe) → IsRowsOf g s → AllPairs (Never g) (flat_map row_slices s.rows) → IsOn g (flat_map row_slices s.rows) (100 * 2 ^ 40) (rows_map g p s.rows)
  rows_on s is pairs = record {
    lie = rows_lie s.rows is.each pairs;
    disjoint = chained_lie.disjoint (laid_rows s.rows is.each pairs) (rows_apart s.rows is.each pairs);
    one = chained_lie.one (laid_rows s.rows is.each pairs) (λ i lt. (at_row s.rows is.each pairs i lt).one);
    short =
        (let each = rows_sum (2 ^ 40) s.rows (λ k d lt. row_short (get_or s.rows k d) (is.each k d lt)) in
        let all : sum_by width s.rows * 2 ^ 40 ≤ 100 * 2 ^ 40 = mul-le-mul_right {m = sum_by width s.rows} {n = 100} (2 ^ 40) is.few in
        omega (arith, chained_lie.blocks (map (row_map g p) s.rows)));
  }

module _ (g : Geometry) (sound : IsSound g) (t : Table) where
  on_kind : (kind : VolumeKind) (v : Map) → IsKindOf g kind → AllPairs (Never g) (kind_slices kind) → kind_map g t kind ≡ Some v → IsOn g (kind_slices kind) (100 * 2 ^ 40) v
  on_kind (Stripe s) v is pairs map = let same : rows_map g t.plan s.rows ≡ v = cc map in subst (IsOn g (kind_slices (Stripe s)) (100 * 2 ^ 40)) same (rows_on g sound t.plan s is pairs)
  on_kind (Mirror m) v is pairs map = absurd is
  on_kind (Raid r) v is pairs map = absurd is
  on_kind (Soft s) v is pairs map = absurd is

  -- the volume of a map
  record IsAt (volume : VolId) (v : Map) : Type 0 where
    of : OneVolume
    found : volume_of t.plan volume ≡ Some of
    map : kind_map g t of.kind ≡ Some v

  map_at_of : (volume : VolId) (v : Map) → IsMapOf g t volume v → IsAt volume v
  map_at_of volume v map = by (has_parent t.plan volume) (volume_of t.plan volume) refl map where
    by : (used : Bool) (o : Option OneVolume) → volume_of t.plan volume ≡ o → (if used then None else map_at g t o) ≡ Some v → IsAt volume v
    by true o is map = absurd (none-some v map)
    by false None is map = absurd (none-some v map)
    by false (Some of) is map = record { of = of; found = is; map = map }

  module _ (is : IsOfGeometry g t) where
    abbrev volumes : List OneVolume
    volumes = t.plan.volumes

    record IsLaid (volume : VolId) (v : Map) : Type 0 where
      of : OneVolume
      found : Found (λ (w : OneVolume). w.number.0 == volume.0) volumes of
      on : IsOn g (volume_slices of) (100 * 2 ^ 40) v

    is_laid : (volume : VolId) (v : Map) → IsMapOf g t volume v → IsLaid volume v
    is_laid volume v map =
        let at = map_at_of volume v map in
        let found = find_found (λ (w : OneVolume). w.number.0 == volume.0) volumes at.of at.found in
        let kind : IsKindOf g at.of.kind = subst (λ (w : OneVolume). IsKindOf g w.kind) found.is (is.kinds found.at at.of found.within) in
        let pairs : AllPairs (Never g) (volume_slices at.of) = subst (λ (w : OneVolume). AllPairs (Never g) (volume_slices w)) found.is (pairs_within (Never g) volume_slices volumes found.at at.of is.apart.components found.within) in
        record { of = at.of; found = found; on = on_kind at.of.kind v kind pairs at.map }

    less_apart : (volume other : VolId) (v w : Map) (a : IsLaid volume v) (b : IsLaid other w) → a.found.at < b.found.at → AreDisjoint v w
    less_apart volume other v w a b less =
        let second : get_or volumes b.found.at a.of ≡ b.of = get_or_default volumes b.found.at a.of b.of b.found.within ∙ b.found.is in
        never_disjoint g (volume_slices a.of) (volume_slices b.of) v w
        (λ m n one other. pairs_between (Never g) volume_slices volumes a.found.at b.found.at a.of m n is.apart.components less b.found.within
        (subst (λ (x : OneVolume). Contains (volume_slices x) m) (sym a.found.is) one) (subst (λ (x : OneVolume). Contains (volume_slices x) n) (sym second) other)) a.on.lie b.on.lie

    same_number : (x : ℕ) (v w : VolId) → x == v.0 ≡ true → x == w.0 ≡ true → v ≡ w
    same_number x v w one other = let is : v.0 ≡ w.0 = grind (arith, nat_tests) in ap (λ (n : ℕ). record { 0 = n }) is

    apart_maps : (volume other : VolId) (v w : Map) → (volume ≡ other → ⊥) → IsMapOf g t volume v → IsMapOf g t other w → AreDisjoint v w
    apart_maps volume other v w differ map beside =
        let a = is_laid volume v map in
        let b = is_laid other w beside in
        elim (cases_lt a.found.at b.found.at) [
          | inl less ↦ less_apart volume other v w a b less
          | inr le ↦ elim (cases_lt b.found.at a.found.at) [
            | inl more ↦ other_way w v (less_apart other volume w v b a more)
            | inr ge ↦
                let at : a.found.at ≡ b.found.at = omega arith in
                let one : a.of ≡ b.of = sym a.found.is ∙ get_or_default volumes a.found.at a.of b.of a.found.within ∙ ap (λ (k : ℕ). get_or volumes k b.of) at ∙ b.found.is in
                absurd (differ (same_number a.of.number.0 volume other a.found.passes (ap (λ (x : OneVolume). x.number.0 == other.0) one ∙ b.found.passes)))
          ]
        ]

    plain_map : (volume : VolId) (v : Map) → IsMapOf g t volume v → (drive block : ℕ) → area_of_map v drive block ≡ true → plain_area g drive block ≡ true
    plain_map volume v map drive block here =
        let has = areas_cover.inside v drive block here in
        in_plain drive block ((is_laid volume v map).on.lie has.0 drive block has.1 has.2)
      where
        in_slice : (of start blocks drive block : ℕ) → drive ≡ of → start ≤ block → block < start + blocks → range of start blocks drive block ≡ true
        in_slice of start blocks drive block is from to = grind (arith, nat_tests)

        in_plain : (drive block : ℕ) → LiesIn g (volume_slices (is_laid volume v map).of) drive block → plain_area g drive block ≡ true
        in_plain drive block it =
            let line : SliceLine = record { name = it.name; at = it.at } in
            let test = λ (l : SliceLine). takes_volumes g l && range l.at.drive.0 l.at.start l.at.blocks drive block in
            let takes = and_from (not it.at.db) (not (meets_db g it.name)) (not_from_false it.at.db it.plain) (not_from_false (meets_db g it.name) it.clear) in
            let inside = in_slice it.at.drive.0 it.at.start it.at.blocks drive block it.on_drive it.within.first it.within.last in
            list_any_at test g.slices it.has.0 line it.has.1 (ap test it.has.2 ∙ and_from (takes_volumes g line) (range it.at.drive.0 it.at.start it.at.blocks drive block) takes inside)

    laid : AreLaid g t
    laid = record {
      disjoint = λ volume v map. (is_laid volume v map).on.disjoint;
      apart = apart_maps;
      plain = plain_map;
      one = λ volume v map. (is_laid volume v map).on.one;
      bounded = λ volume v map. let short = (is_laid volume v map).on.short in omega arith;
    }

pub tables_lie : TablesLie
tables_lie g t sound is = laid g sound t is
