-- How a change moves the maps of volumes.
use Rattle.std.proofs.Common.{◌≡◌, ◌⊎◌, inl, inr, ℕ, ◌==◌, Bool, true, false, not, if◌then◌else◌, List, [], ◌∷◌, ◌++◌, append-nil, filter, get_or, map, find, Contains, Option, None, Some, option_map, refl, sym, ◌∙◌, ap, subst, arith}
use Rattle.std.specs.Prelude.{All}
use Rattle.std.specs.List.{list_any}
use Rattle.std.specs.Option.{is_some}
use Rattle.std.proofs.lemmas.Bool.{cases_Bool, false≢true, or_parts}
use Rattle.std.proofs.lemmas.Bool.Decides.{nat_tests}
use Rattle.std.proofs.lemmas.List.{map-append}
use Rattle.std.proofs.lemmas.List.Elements.{All-append, All-cons, All-filter, All-map, All-nil}
use Rattle.std.proofs.lemmas.List.Folds.{list_any_none}
use Rattle.std.proofs.lemmas.Option.{none-some}
use Rattle.mdv_change.specs.Below.{kept, volume_key}
use Rattle.mdv_change.specs.Change.{refusal_of, row_behind, table_after, with_changed}
use Rattle.mdv_change.specs.Levels.{below_at, below_of, falls, with_level, with_levels}
use Rattle.mdv_components.proofs.Causes.{is_none}
use Rattle.mdv_components.specs.Bases.{is_missing}
use Rattle.mdv_components.specs.Room.{component_on}
use Rattle.mdv_components.specs.Stripes.{row_blocks, row_on, stripe_on}
use Rattle.mdv_config.specs.Table.{IsKindOf, IsPartOn, row_depth}
use Rattle.mdv_keeping.proofs.Unrefused.{unrefused}
use Rattle.mdv_layout_law.proofs.Chained.{chained_lie, fronts_lie}
use Rattle.mdv_layout_law.proofs.Laid.{tables_lie}
use Rattle.mdv_layout_law.proofs.Lists.{All-changed, Found, All-with_item, changed_found, changed_others, find_found, with_new, with_others}
use Rattle.mdv_layout_law.proofs.Telling.{rows_same, volumes_tell}
use Rattle.mdv_layout_law.specs.Chained.{IsFrontOf, chained}
use Rattle.mdv_layout_law.specs.Layout.{IsMapOf, component_map, kind_map, map_at, map_of, row_map, rows_map}
use Rattle.mdv_plan.specs.Named.{base_below, component_below, kind_below, row_below}
use Rattle.mdv_plan.specs.Parents.{has_parent, is_component, is_in_row, is_volume, names_volume}
use Rattle.mdv_plan.specs.Sorted.{changed, with_item}
use Rattle.mdv_rows.specs.Adding.{kind_with, with_row}
use Rattle.mdv_growing_law.specs.Below.{AddRow, Base, Change, Clear, ClearAll, ClearBelow, Component, DriveNo, Geometry, HasDriveBlock, IsOfGeometry, IsOfSlices, IsSlice, IsSound, IsStepOf, MakeStripe, Map, Mirror, OneVolume, Plan, PoolId, Raid, Row, RowAsked, Slice, Soft, Stripe, Table, VolId, Volume, VolumeKind, volume_of}
use Rattle.mdv_growing_law.specs.Going.{blocks_at, Clears, IsClearing, IsCleared, IsFresh, IsGrown, IsMadeAnew, MapsGo, Went, stayed, grew, began}
use Rattle.mdv_growing_law.proofs.Clearing.{find_gone, find_kept, flat_none, is_one, named_is, same_id, unnamed_isnt}

-- rows of slices alone
abbrev pub IsRowSlices : Row → Type 0
IsRowSlices row = All (λ (c : Component). IsSlice c.on) row.components

abbrev pub OnSlices : VolumeKind → Type 0
OnSlices (Stripe s) = All IsRowSlices s.rows
OnSlices (Mirror m) = ⊥
OnSlices (Raid r) = ⊥
OnSlices (Soft s) = ⊥

abbrev pub AllOnSlices : Table → Type 0
AllOnSlices t = All (λ (w : OneVolume). OnSlices w.kind) t.plan.volumes

part_on : (g : Geometry) (blocks : ℕ) (c : Component) (base : Base) → IsPartOn g blocks c base → IsSlice base
part_on g blocks c (Slice slice) part = tt
part_on g blocks c (Volume volume) part = part

kind_on : (g : Geometry) (kind : VolumeKind) → IsKindOf g kind → OnSlices kind
kind_on g (Stripe s) is = λ k d lt i c within. let row = get_or s.rows k d in
    part_on g (row_depth row) (get_or row.components i c) (get_or row.components i c).on ((is.each k d lt).each i c within)
kind_on g (Mirror m) is = is
kind_on g (Raid r) is = is
kind_on g (Soft s) is = is

pub of_geometry : (g : Geometry) (t : Table) → IsOfGeometry g t → AllOnSlices t
of_geometry g t is k d lt = kind_on g (get_or t.plan.volumes k d).kind (is.kinds k d lt)

-- such volumes are no part of others
unnamed_base : (volume : VolId) (base : Base) → IsSlice base → is_volume volume base ≡ false
unnamed_base volume (Slice slice) is = refl
unnamed_base volume (Volume other) is = absurd is

unnamed : (volume : VolId) (kind : VolumeKind) → OnSlices kind → names_volume volume kind ≡ false
unnamed volume (Stripe s) is = list_any_none (is_in_row volume) s.rows (λ k d lt. let row = get_or s.rows k d in
    list_any_none (is_component volume) row.components (λ i c within. unnamed_base volume (get_or row.components i c).on (is k d lt i c within)))
unnamed volume (Mirror m) is = absurd is
unnamed volume (Raid r) is = absurd is
unnamed volume (Soft s) is = absurd is

pub no_parent : (t : Table) (volume : VolId) → AllOnSlices t → has_parent t.plan volume ≡ false
no_parent t volume are = list_any_none (λ (w : OneVolume). names_volume volume w.kind) t.plan.volumes (λ k d lt. unnamed volume (get_or t.plan.volumes k d).kind (are k d lt))

-- so the map of one is that of its kind
pub map_alone : (g : Geometry) (t : Table) (volume : VolId) → AllOnSlices t → map_of g t volume ≡ map_at g t (volume_of t.plan volume)
map_alone g t volume are = ap (λ (used : Bool). if used then None else map_at g t (volume_of t.plan volume)) (no_parent t volume are)

part_same : (g : Geometry) (p q : Plan) (c : Component) (base : Base) → IsSlice base → component_map g p c base ≡ component_map g q c base
part_same g p q c (Slice slice) is = refl
part_same g p q c (Volume volume) is = absurd is

rows_alone : (g : Geometry) (p q : Plan) (rows : List Row) → All IsRowSlices rows → rows_map g p rows ≡ rows_map g q rows
rows_alone g p q rows are = rows_same g p q rows (λ k d lt i c within. let part = get_or (get_or rows k d).components i c in part_same g p q part part.on (are k d lt i c within))

-- where a map comes from, and where it goes
data Moves (o n : Option Map) : Type 0 where
  as_was : n ≡ o → Moves o n
  longer : (u v : Map) → o ≡ Some u → n ≡ Some v → IsFrontOf u v → Moves o n
  as_new : o ≡ None → Moves o n

-- a map, and one that begins with it
record IsLonger (o n : Option Map) : Type 0 where
  before : Map
  was : o ≡ Some before
  after : Map
  now : n ≡ Some after
  front : IsFrontOf before after

abbrev number : OneVolume → ℕ
number w = w.number.0

module _ (g : Geometry) (old next : Table) (were : AllOnSlices old) (are : AllOnSlices next) where
  kind_same : (kind : VolumeKind) → OnSlices kind → kind_map g next kind ≡ kind_map g old kind
  kind_same (Stripe s) is = ap Some (rows_alone g next.plan old.plan s.rows is)
  kind_same (Mirror m) is = absurd is
  kind_same (Raid r) is = absurd is
  kind_same (Soft s) is = absurd is

  -- a volume that is what it was
  lies_as_was : (volume : VolId) → volume_of next.plan volume ≡ volume_of old.plan volume → map_of g next volume ≡ map_of g old volume
  lies_as_was volume found = by (volume_of old.plan volume) refl where
    by : (o : Option OneVolume) → volume_of old.plan volume ≡ o → map_of g next volume ≡ map_of g old volume
    by None is = map_alone g next volume are ∙ ap (map_at g next) (found ∙ is) ∙ sym (map_alone g old volume were ∙ ap (map_at g old) is)
    by (Some of) is =
        let at = find_found (λ (w : OneVolume). w.number.0 == volume.0) old.plan.volumes of is in
        let kind : OnSlices of.kind = subst (λ (w : OneVolume). OnSlices w.kind) at.is (were at.at of at.within) in
        map_alone g next volume are ∙ ap (map_at g next) (found ∙ is) ∙ kind_same of.kind kind ∙ sym (map_alone g old volume were ∙ ap (map_at g old) is)

  stays : (volume : VolId) → volume_of next.plan volume ≡ volume_of old.plan volume → Moves (map_of g old volume) (map_of g next volume)
  stays volume found = as_was (lies_as_was volume found)

module _ (g : Geometry) (old next : Table) (were : AllOnSlices old) (volume : VolId) where
  asked_slices : (n : ℕ) (bases : List Base) → All IsSlice bases → All (λ (c : Component). IsSlice c.on) (map (component_on g old.plan n) bases)
  asked_slices n bases all = All-map (λ (c : Component). IsSlice c.on) (component_on g old.plan n) bases all

  row_slices : (asked : RowAsked) → IsOfSlices asked → IsRowSlices (row_on g old.plan asked)
  row_slices asked all = asked_slices (row_blocks g old.plan asked) asked.components all

  module _ (rows : List RowAsked) (pool : Option PoolId) (slices : All IsOfSlices rows) (made : next ≡ table_after g old (MakeStripe volume rows pool)) (free : volume_of old.plan volume ≡ None) where
    abbrev stripe : OneVolume
    stripe = stripe_on g old.plan volume rows pool

    stripe_slices : OnSlices stripe.kind
    stripe_slices = All-map IsRowSlices (row_on g old.plan) rows (λ k d lt. row_slices (get_or rows k d) (slices k d lt))

    made_volumes : next.plan.volumes ≡ with_item number stripe old.plan.volumes
    made_volumes = ap (λ (t : Table). t.plan.volumes) made

    now_are : AllOnSlices next
    now_are = subst (All (λ (w : OneVolume). OnSlices w.kind)) (sym made_volumes) (All-with_item number stripe (λ (w : OneVolume). OnSlices w.kind) stripe_slices old.plan.volumes were)

    had_none : map_of g old volume ≡ None
    had_none = map_alone g old volume were ∙ ap (map_at g old) free

    others_stay : (other : VolId) → volume.0 == other.0 ≡ false → volume_of next.plan other ≡ volume_of old.plan other
    others_stay other differs = ap (find (λ (w : OneVolume). w.number.0 == other.0)) made_volumes ∙ with_others number stripe old.plan.volumes other.0 differs

    made_moves : (other : VolId) → Moves (map_of g old other) (map_of g next other)
    made_moves other = elim (cases_Bool (volume.0 == other.0)) [
      | inl is ↦ as_new (subst (λ (v : VolId). map_of g old v ≡ None) (same_id volume other is) had_none)
      | inr differs ↦ stays g old next were now_are other (others_stay other differs)
    ]

    -- it is there, on its rows
    found_new : volume_of next.plan volume ≡ Some stripe
    found_new = ap (find (λ (w : OneVolume). w.number.0 == volume.0)) made_volumes ∙ with_new number stripe old.plan.volumes free

    made_anew : IsMadeAnew g volume old next
    made_anew = record {
      none = had_none;
      map = rows_map g next.plan (map (row_on g old.plan) rows);
      lies = map_alone g next volume now_are ∙ ap (map_at g next) found_new;
      others = λ other differ. elim (cases_Bool (volume.0 == other.0)) [
        | inl is ↦ absurd (differ (sym (same_id volume other is)))
        | inr differs ↦ lies_as_was g old next were now_are other (others_stay other differs)
      ];
    }

  module _ (asked : RowAsked) (slices : IsOfSlices asked) (made : next ≡ table_after g old (AddRow volume asked)) where
    abbrev row : Row
    row = row_on g old.plan (row_behind old.plan volume asked)

    row_is : IsRowSlices row
    row_is = row_slices (row_behind old.plan volume asked) slices

    abbrev volumes_with : Option OneVolume → List OneVolume
    volumes_with None = old.plan.volumes
    volumes_with (Some of) = changed number (with_row row of) old.plan.volumes

    abbrev volumes_by : Option OneVolume → List OneVolume
    volumes_by o = (with_changed (option_map (with_row row) o) old).plan.volumes

    added_volumes : (o : Option OneVolume) → volume_of old.plan volume ≡ o → next.plan.volumes ≡ volumes_with o
    added_volumes o is = ap (λ (t : Table). t.plan.volumes) made ∙ ap volumes_by is ∙ by o where
      by : (o : Option OneVolume) → volumes_by o ≡ volumes_with o
      by None = refl
      by (Some of) = refl

    grown_kind : (kind : VolumeKind) → OnSlices kind → OnSlices (kind_with row kind)
    grown_kind (Stripe s) is = All-append IsRowSlices s.rows (row ∷ []) is (All-cons IsRowSlices row [] row_is (All-nil IsRowSlices))
    grown_kind (Mirror m) is = absurd is
    grown_kind (Raid r) is = absurd is
    grown_kind (Soft s) is = absurd is

    -- the rows that were there are in front
    kind_longer : (kind : VolumeKind) → OnSlices kind → IsLonger (kind_map g old kind) (kind_map g next (kind_with row kind))
    kind_longer (Stripe s) is =
        let before = rows_map g old.plan s.rows in
        let here = map (row_map g next.plan) s.rows in
        let behind = row_map g next.plan row ∷ [] in
        let whole : rows_map g next.plan (s.rows ++ row ∷ []) ≡ chained (here ++ behind) = ap chained (map-append (row_map g next.plan) s.rows (row ∷ [])) in
        let front : IsFrontOf before (chained (here ++ behind)) = subst (λ (v : Map). IsFrontOf v (chained (here ++ behind))) (rows_alone g next.plan old.plan s.rows is) (chained_lie.front here behind) in
        record { before = before; was = refl; after = chained (here ++ behind); now = ap Some whole; front = front }
    kind_longer (Mirror m) is = absurd is
    kind_longer (Raid r) is = absurd is
    kind_longer (Soft s) is = absurd is

    -- the volume is there
    module _ (of : OneVolume) (there : volume_of old.plan volume ≡ Some of) where
      at : Found (λ (w : OneVolume). w.number.0 == volume.0) old.plan.volumes of
      at = find_found (λ (w : OneVolume). w.number.0 == volume.0) old.plan.volumes of there

      on_slices : OnSlices of.kind
      on_slices = subst (λ (w : OneVolume). OnSlices w.kind) at.is (were at.at of at.within)

      its_number : of.number ≡ volume
      its_number = same_id of.number volume at.passes

      listed : next.plan.volumes ≡ changed number (with_row row of) old.plan.volumes
      listed = added_volumes (Some of) there

      all_on : AllOnSlices next
      all_on = subst (All (λ (w : OneVolume). OnSlices w.kind)) (sym listed) (All-changed number (with_row row of) (λ (w : OneVolume). OnSlices w.kind) (grown_kind of.kind on_slices) old.plan.volumes were)

      others_found : (other : VolId) → of.number.0 == other.0 ≡ false → volume_of next.plan other ≡ volume_of old.plan other
      others_found other differs = ap (find (λ (w : OneVolume). w.number.0 == other.0)) listed ∙ changed_others number (with_row row of) old.plan.volumes other.0 differs

      found_longer : volume_of next.plan volume ≡ Some (with_row row of)
      found_longer =
          let key : volume.0 ≡ of.number.0 = sym (ap (λ (v : VolId). v.0) its_number) in
          let was : find (λ (w : OneVolume). w.number.0 == of.number.0) old.plan.volumes ≡ Some of = ap (λ (k : ℕ). find (λ (w : OneVolume). w.number.0 == k) old.plan.volumes) (sym key) ∙ there in
          ap (find (λ (w : OneVolume). w.number.0 == volume.0)) listed ∙ ap (λ (k : ℕ). find (λ (w : OneVolume). w.number.0 == k) (changed number (with_row row of) old.plan.volumes)) key
          ∙ changed_found number (with_row row of) old.plan.volumes of was

      is_longer : IsLonger (kind_map g old of.kind) (kind_map g next (kind_with row of.kind))
      is_longer = kind_longer of.kind on_slices

      grown_there : IsGrown g volume old next
      grown_there = record {
        before = is_longer.before;
        was = map_alone g old volume were ∙ ap (map_at g old) there ∙ is_longer.was;
        map = is_longer.after;
        lies = map_alone g next volume all_on ∙ ap (map_at g next) found_longer ∙ is_longer.now;
        front = is_longer.front;
        others = λ other differ. elim (cases_Bool (of.number.0 == other.0)) [
          | inl here ↦ absurd (differ (sym (same_id of.number other here) ∙ its_number))
          | inr differs ↦ lies_as_was g old next were all_on other (others_found other differs)
        ];
      }

      there_moves : (other : VolId) → Moves (map_of g old other) (map_of g next other)
      there_moves other = elim (cases_Bool (of.number.0 == other.0)) [
        | inl here ↦
            let named : volume ≡ other = sym its_number ∙ same_id of.number other here in
            subst (λ (v : VolId). Moves (map_of g old v) (map_of g next v)) named (longer grown_there.before grown_there.map grown_there.was grown_there.lies grown_there.front)
        | inr differs ↦ stays g old next were all_on other (others_found other differs)
      ]

    added_moves : (other : VolId) → Moves (map_of g old other) (map_of g next other)
    added_moves other = by (volume_of old.plan volume) refl where
      by : (o : Option OneVolume) → volume_of old.plan volume ≡ o → Moves (map_of g old other) (map_of g next other)
      by None is = as_was (volumes_tell g next old other (added_volumes None is))
      by (Some of) is = there_moves of is other

    grown_by : (o : Option OneVolume) → volume_of old.plan volume ≡ o → is_some o ≡ true → IsGrown g volume old next
    grown_by None none some = absurd (false≢true some)
    grown_by (Some of) there some = grown_there of there

-- what nothing refuses has a free name
free_name : (g : Geometry) (drives : List DriveNo) (old : Table) (volume : VolId) (rows : List RowAsked) (pool : Option PoolId) → refusal_of g drives old (MakeStripe volume rows pool) ≡ None → volume_of old.plan volume ≡ None
free_name g drives old volume rows pool allowed = is_none (volume_of old.plan volume) (unrefused g drives old (MakeStripe volume rows pool) allowed).free

-- and where a row is added the volume is there
is_there : (g : Geometry) (drives : List DriveNo) (old : Table) (volume : VolId) (asked : RowAsked) → refusal_of g drives old (AddRow volume asked) ≡ None → is_some (volume_of old.plan volume) ≡ true
is_there g drives old volume asked allowed =
    let none = (or_parts (not (is_some (volume_of old.plan volume))) (list_any (is_missing old.plan) asked.components) (unrefused g drives old (AddRow volume asked) allowed).there).0 in
    is_not (is_some (volume_of old.plan volume)) none where
      is_not : (b : Bool) → not b ≡ false → b ≡ true
      is_not true is = refl
      is_not false is = absurd (false≢true (sym is))

-- no volume lies below another
base_alone : (base : Base) → IsSlice base → base_below base ≡ []
base_alone (Slice slice) is = refl
base_alone (Volume volume) is = absurd is

kind_alone : (kind : VolumeKind) → OnSlices kind → kind_below kind ≡ []
kind_alone (Stripe s) is = flat_none row_below s.rows (λ k d lt. let row = get_or s.rows k d in
    flat_none component_below row.components (λ i c within. base_alone (get_or row.components i c).on (is k d lt i c within)))
kind_alone (Mirror m) is = absurd is
kind_alone (Raid r) is = absurd is
kind_alone (Soft s) is = absurd is

module _ (t : Table) (are : AllOnSlices t) where
  none_below : (volume : VolId) → below_of t.plan volume ≡ []
  none_below volume = by (volume_of t.plan volume) refl where
    by : (o : Option OneVolume) → volume_of t.plan volume ≡ o → below_at o ≡ []
    by None is = refl
    by (Some of) is =
        let at = find_found (λ (w : OneVolume). w.number.0 == volume.0) t.plan.volumes of is in
        kind_alone of.kind (subst (λ (w : OneVolume). OnSlices w.kind) at.is (are at.at of at.within))

  level_alone : (vs : List VolId) → with_level t.plan vs ≡ vs
  level_alone vs = ap (λ (l : List VolId). vs ++ filter (falls t.plan vs) l) (flat_none (below_of t.plan) vs (λ k d lt. none_below (get_or vs k d))) ∙ append-nil vs

  levels_alone : (vs : List VolId) → with_levels t.plan vs ≡ vs
  levels_alone vs = ap (λ (l : List VolId). with_level t.plan (with_level t.plan l)) (level_alone vs) ∙ ap (with_level t.plan) (level_alone vs) ∙ level_alone vs

module _ (g : Geometry) (old next : Table) (were : AllOnSlices old) where
  -- the volumes of these names go
  module _ (vs : List VolId) (left : next.plan.volumes ≡ kept number (map volume_key vs) old.plan.volumes) where
    left_are : AllOnSlices next
    left_are = subst (All (λ (w : OneVolume). OnSlices w.kind)) (sym left) (All-filter (λ (w : OneVolume). not (is_one vs w.number)) (λ (w : OneVolume). OnSlices w.kind) old.plan.volumes were)

    cleared_gone : (volume : VolId) → Contains vs volume → map_of g next volume ≡ None
    cleared_gone volume has =
        let none = find_gone number (map volume_key vs) volume.0 (named_is vs volume has) old.plan.volumes in
        map_alone g next volume left_are ∙ ap (map_at g next) (ap (find (λ (w : OneVolume). w.number.0 == volume.0)) left ∙ none)

    cleared_others : (volume : VolId) → (Contains vs volume → ⊥) → map_of g next volume ≡ map_of g old volume
    cleared_others volume never =
        let same = find_kept number (map volume_key vs) volume.0 (unnamed_isnt vs volume never) old.plan.volumes in
        lies_as_was g old next were left_are volume (ap (find (λ (w : OneVolume). w.number.0 == volume.0)) left ∙ same)

  -- all go
  all_gone : next.plan.volumes ≡ [] → (volume : VolId) → map_of g next volume ≡ None
  all_gone left volume =
      let are : AllOnSlices next = subst (All (λ (w : OneVolume). OnSlices w.kind)) (sym left) (All-nil (λ (w : OneVolume). OnSlices w.kind)) in
      map_alone g next volume are ∙ ap (map_at g next) (ap (find (λ (w : OneVolume). w.number.0 == volume.0)) left)

cleared : (g : Geometry) (change : Change) (old next : Table) → IsClearing change → IsStepOf g change old next → IsCleared g change old next
cleared g (Clear vs pools) old next is step =
    let were = of_geometry g old step.old_of in
    let left : next.plan.volumes ≡ kept number (map volume_key vs) old.plan.volumes = ap (λ (t : Table). t.plan.volumes) step.made.after in
    record { gone = cleared_gone g old next were vs left; others = cleared_others g old next were vs left }
cleared g (ClearBelow vs pools) old next is step =
    let were = of_geometry g old step.old_of in
    let left : next.plan.volumes ≡ kept number (map volume_key vs) old.plan.volumes =
    ap (λ (t : Table). t.plan.volumes) step.made.after ∙ ap (λ (l : List VolId). kept number (map volume_key l) old.plan.volumes) (levels_alone old were vs) in
    record { gone = cleared_gone g old next were vs left; others = cleared_others g old next were vs left }
cleared g ClearAll old next is step = record {
  gone = λ volume clears. all_gone g old next (of_geometry g old step.old_of) (ap (λ (t : Table). t.plan.volumes) step.made.after) volume;
  others = λ volume never. absurd (never tt);
}
cleared g other old next is step = absurd is

-- a change clears volumes, or none
clears_or : (change : Change) → IsClearing change ⊎ ((volume : VolId) → Clears change volume → ⊥)
clears_or (Clear vs pools) = inl tt
clears_or (ClearBelow vs pools) = inl tt
clears_or ClearAll = inl tt
clears_or other = inr (λ volume is. is)

-- so a volume that has a map isn't cleared
uncleared : (g : Geometry) (change : Change) (old next : Table) (volume : VolId) (v : Map) → IsStepOf g change old next → IsMapOf g next volume v → Clears change volume → ⊥
uncleared g change old next volume v step map is = elim (clears_or change) [
  | inl clears ↦ none-some v (sym ((cleared g change old next clears step).gone volume is) ∙ map)
  | inr never ↦ never volume is
]

moves : (g : Geometry) (change : Change) (old next : Table) (step : IsStepOf g change old next) (volume : VolId) → (Clears change volume → ⊥) → Moves (map_of g old volume) (map_of g next volume)
moves g (MakeStripe v rows pool) old next step volume never =
    made_moves g old next (of_geometry g old step.old_of) v rows pool step.built.2 step.made.after (free_name g step.drives old v rows pool step.made.allowed) volume
moves g (AddRow v asked) old next step volume never = added_moves g old next (of_geometry g old step.old_of) v asked step.built step.made.after volume
moves g (Clear vs pools) old next step volume never = as_was ((cleared g (Clear vs pools) old next tt step).others volume never)
moves g (ClearBelow vs pools) old next step volume never = as_was ((cleared g (ClearBelow vs pools) old next tt step).others volume never)
moves g ClearAll old next step volume never = absurd (never tt)
moves g other old next step volume never = absurd step.built

went : (g : Geometry) (change : Change) (old next : Table) (volume : VolId) (v : Map) → IsStepOf g change old next → IsMapOf g next volume v → Went g old volume v
went g change old next volume v step map = elim (moves g change old next step volume (uncleared g change old next volume v step map)) [
  | as_was is ↦ stayed (sym is ∙ map)
  | longer u w was now front ↦ let is : w ≡ v = (let both = sym now ∙ map in cc both) in grew u was (subst (IsFrontOf u) is front)
  | as_new was ↦ began was
]

keeps : (g : Geometry) (change : Change) (old next : Table) (volume : VolId) (w : Map) → IsStepOf g change old next → (Clears change volume → ⊥) → IsMapOf g old volume w → (v : Map) × IsMapOf g next volume v × IsFrontOf w v
keeps g change old next volume w step never map = elim (moves g change old next step volume never) [
  | as_was is ↦ (w, is ∙ map, fronts_lie.itself w)
  | longer u v was now front ↦ let is : u ≡ w = (let both = sym was ∙ map in cc both) in (v, now, subst (λ (x : Map). IsFrontOf x v) is front)
  | as_new was ↦ absurd (none-some w (sym was ∙ map))
]

-- where volumes are cleared no map is longer
cleared_fresh : (g : Geometry) (change : Change) (old next : Table) (volume : VolId) (v : Map) → IsClearing change → IsStepOf g change old next → IsMapOf g next volume v → IsFresh g old (blocks_at (map_of g old volume)) v
cleared_fresh g change old next volume v is step map other u a b drive block there below from above in_a in_b =
    let same = (cleared g change old next is step).others volume (uncleared g change old next volume v step map) in
    let had : blocks_at (map_of g old volume) ≡ v.blocks = ap blocks_at (sym same ∙ map) in
    omega (arith, had, from, above)

others_fresh : (g : Geometry) (change : Change) (old next : Table) (volume : VolId) (v : Map) → IsSound g → ((other : VolId) → Clears change other → ⊥) → IsStepOf g change old next → IsMapOf g next volume v
    → IsFresh g old (blocks_at (map_of g old volume)) v
others_fresh g change old next volume v sound never step map other u a b drive block there below from above in_a in_b =
    let laid = tables_lie g next sound step.next_of in
    let kept = keeps g change old next other u step (never other) there in
    let within = kept.2.blocks in
    let in_kept : HasDriveBlock (kept.0.places a) drive block = subst (λ ss. HasDriveBlock ss drive block) (sym (kept.2.places a below)) in_a in
    elim (cases_Bool (other.0 == volume.0)) [
      | inl here ↦
          let named = same_id other volume here in
          let one : kept.0 ≡ v = (let both = sym kept.1 ∙ ap (map_of g next) named ∙ map in cc both) in
          let in_v : HasDriveBlock (v.places a) drive block = subst (λ (w : Map). HasDriveBlock (w.places a) drive block) one in_kept in
          let had : blocks_at (map_of g old volume) ≡ u.blocks = ap blocks_at (ap (map_of g old) (sym named) ∙ there) in
          let size : v.blocks ≡ kept.0.blocks = ap (λ (w : Map). w.blocks) (sym one) in
          let equal = (laid.disjoint volume v map).apart a b drive block (omega arith) above in_v in_b in omega arith
      | inr differs ↦
          let apart = laid.apart other volume kept.0 v (λ named. (let yes : other.0 == volume.0 ≡ true = (let n = ap (λ (x : VolId). x.0) named in grind (arith, nat_tests)) in cc)) kept.1 map in
          apart a b drive block (omega arith) above in_kept in_b
    ]

fresh : (g : Geometry) (change : Change) (old next : Table) (volume : VolId) (v : Map) → IsSound g → IsStepOf g change old next → IsMapOf g next volume v → IsFresh g old (blocks_at (map_of g old volume)) v
fresh g change old next volume v sound step map = elim (clears_or change) [
  | inl is ↦ cleared_fresh g change old next volume v is step map
  | inr never ↦ others_fresh g change old next volume v sound never step map
]

made_new : (g : Geometry) (volume : VolId) (rows : List RowAsked) (pool : Option PoolId) (old next : Table) → IsStepOf g (MakeStripe volume rows pool) old next → IsMadeAnew g volume old next
made_new g volume rows pool old next step =
    made_anew g old next (of_geometry g old step.old_of) volume rows pool step.built.2 step.made.after (free_name g step.drives old volume rows pool step.made.allowed)

grown : (g : Geometry) (volume : VolId) (asked : RowAsked) (old next : Table) → IsStepOf g (AddRow volume asked) old next → IsGrown g volume old next
grown g volume asked old next step =
    grown_by g old next (of_geometry g old step.old_of) volume asked step.built step.made.after (volume_of old.plan volume) refl (is_there g step.drives old volume asked step.made.allowed)

pub maps_go : MapsGo
maps_go = record { went = went; keeps = keeps; fresh = fresh; made = made_new; grown = grown; cleared = cleared }
