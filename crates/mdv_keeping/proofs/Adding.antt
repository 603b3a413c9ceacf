-- A row of slices more for a volume leaves a table of the geometry.
use Rattle.std.proofs.Common.{◌≡◌, ℕ, ◌≤◌, ◌+◌, ◌==◌, ◌++◌, Bool, true, false, cond, not, if◌then◌else◌, List, [], ◌∷◌, append-nil, append_assoc, length, find, map, flat_map, nat_lt, replicate, Contains, Option, None, Some, refl, sym, ◌∙◌, ap, subst, arith}
use Rattle.std.specs.Prelude.{All}
use Rattle.std.specs.List.{list_any}
use Rattle.std.specs.Option.{is_some, option_map}
use Rattle.std.proofs.lemmas.Bool.{false≢true, or_parts}
use Rattle.std.proofs.lemmas.Bool.Decides.{nat_tests}
use Rattle.std.proofs.lemmas.List.{length-append, length-map, length-replicate, replicate-append-replicate}
use Rattle.std.proofs.lemmas.List.Concat.{flat_map-append, length-flat_map}
use Rattle.std.proofs.lemmas.List.Elements.{All-contains, All-push, Contains-append_right}
use Rattle.std.proofs.lemmas.List.Sums.{sum_by-append, sum_by-cons}
use Rattle.mdv_base.specs.declared.name.VolId.{VolId}
use Rattle.mdv_change.specs.Change.{condition, row_behind, table_after, with_changed, with_states}
use Rattle.mdv_components.specs.Bases.{has_meeting, is_missing, is_no_leaf, is_slice_in_use, volume_of}
use Rattle.mdv_components.specs.Room.{okay_part}
use Rattle.mdv_components.specs.Stripes.{row_on}
use Rattle.mdv_config.specs.Lists.{base_slices, component_slices, kind_slices, row_slices, volume_slices}
use Rattle.mdv_config.specs.Table.{IsKindOf, IsRowOf, IsRowsOf, quiet_part, quiet_volume, volume_key, width, width_of}
use Rattle.mdv_plan.specs.Sorted.{changed}
use Rattle.mdv_plan.specs.Uses.{uses_of}
use Rattle.mdv_plan.specs.declared.plan.Plan.{Plan}
use Rattle.mdv_plan.specs.declared.status.KindStatus.TheVariants.{Stripe as StripeNoted}
use Rattle.mdv_plan.specs.declared.status.PartStatus.{PartStatus}
use Rattle.mdv_plan.specs.declared.status.Status.{Status}
use Rattle.mdv_plan.specs.declared.status.VolumeStatus.{VolumeStatus}
use Rattle.mdv_plan.specs.declared.volume.Row.{Row}
use Rattle.mdv_plan.specs.declared.volume.Stripe.{Stripe as OneStripe}
use Rattle.mdv_plan.specs.declared.volume.Volume.{Volume as OneVolume}
use Rattle.mdv_plan.specs.declared.volume.VolumeKind.{VolumeKind}
use Rattle.mdv_plan.specs.declared.volume.VolumeKind.TheVariants.{Stripe, Mirror, Raid, Soft}
use Rattle.mdv_rows.specs.Adding.{added_states, is_full, parts_of, rows_at, states_at, with_parts, with_row}
use Rattle.mdv_submirrors.specs.Joining.{noted, status_key}
use Rattle.mdv_submirrors.specs.Sizes.{is_no_stripe, is_no_volume, is_stripe_volume}
use Rattle.mdv_keeping.specs.Below.{AddRow, Base, DriveNo, Geometry, IsOfGeometry, IsSound, RowAsked, SliceName, Table, refusal_of}
use Rattle.mdv_keeping.specs.Built.{IsOfSlices, has_db}
use Rattle.mdv_keeping.proofs.Apart.{apart_with}
use Rattle.mdv_keeping.proofs.Lists.{Changed, changed_all, changed_sorted, item_changed}
use Rattle.mdv_keeping.proofs.Rows.{okay_parts, row_of, row_on_slices}
use Rattle.mdv_keeping.proofs.Unrefused.{IsUnrefused, unrefused}

-- what is noted of a volume, and of one that comes in its place
quiet_found : (k : ℕ) (vs : List OneVolume) → find (λ (s : VolumeStatus). s.number.0 == k) (map quiet_volume vs) ≡ option_map quiet_volume (find (λ (v : OneVolume). v.number.0 == k) vs)
quiet_found k [] = refl
quiet_found k (v ∷ vs) = by (quiet_found k vs) (v.number.0 == k) where
  by : find (λ (s : VolumeStatus). s.number.0 == k) (map quiet_volume vs) ≡ option_map quiet_volume (find (λ (w : OneVolume). w.number.0 == k) vs)
      → (same : Bool) → cond same (Some (quiet_volume v)) (find (λ (s : VolumeStatus). s.number.0 == k) (map quiet_volume vs)) ≡ option_map quiet_volume (cond same (Some v) (find (λ (w : OneVolume). w.number.0 == k) vs))
  by later true = refl
  by later false = later

quiet_changed : (x : OneVolume) (vs : List OneVolume) → changed status_key (quiet_volume x) (map quiet_volume vs) ≡ map quiet_volume (changed volume_key x vs)
quiet_changed x [] = refl
quiet_changed x (v ∷ vs) = by (quiet_changed x vs) (v.number.0 == x.number.0) where
  by : changed status_key (quiet_volume x) (map quiet_volume vs) ≡ map quiet_volume (changed volume_key x vs)
      → (same : Bool) → (if same then quiet_volume x else quiet_volume v) ∷ changed status_key (quiet_volume x) (map quiet_volume vs) ≡ quiet_volume (if same then x else v) ∷ map quiet_volume (changed volume_key x vs)
  by later true = ap (λ (l : List VolumeStatus). quiet_volume x ∷ l) later
  by later false = ap (λ (l : List VolumeStatus). quiet_volume v ∷ l) later

module _ (g : Geometry) (sound : IsSound g) (drives : List DriveNo) (old : Table) (is : IsOfGeometry g old) (v : VolId) (asked : RowAsked) where
  abbrev plan : Plan
  plan = old.plan

  abbrev volumes : List OneVolume
  volumes = plan.volumes

  abbrev bases : List Base
  bases = asked.components

  -- with its interlace
  abbrev whole : RowAsked
  whole = row_behind plan v asked

  abbrev row : Row
  row = row_on g plan whole

  module _ (slices : IsOfSlices asked) (plain : has_db g asked ≡ false) (allowed : refusal_of g drives old (AddRow v asked) ≡ None) where
    abbrev not_refused : IsUnrefused (condition g drives old (AddRow v asked))
    not_refused = unrefused g drives old (AddRow v asked) allowed

    unused : list_any (is_slice_in_use g (uses_of plan)) bases ≡ false
    unused = (or_parts (list_any (is_slice_in_use g (uses_of plan)) bases) (has_meeting g bases) not_refused.unused).0

    unmeeting : has_meeting g bases ≡ false
    unmeeting = (or_parts (list_any (is_slice_in_use g (uses_of plan)) bases) (has_meeting g bases) not_refused.unused).1

    there : is_no_volume plan v ≡ false
    there = (or_parts (is_no_volume plan v) (list_any (is_missing plan) bases) not_refused.there).0

    stripes : is_no_stripe plan v ≡ false
    stripes = (or_parts (is_no_stripe plan v) (list_any (is_no_leaf plan) bases) not_refused.kind).0

    row_is : IsRowOf g row
    row_is = row_of g sound drives (uses_of plan) plan whole (record { slices = slices; plain = plain; there = not_refused.slices; unused = unused }) not_refused.some not_refused.interlace not_refused.room

    -- the volume is one of rows
    module _ (number : VolId) (s : OneStripe) (found : volume_of plan v ≡ Some (record { number = number; kind = Stripe s })) where
      abbrev was : OneVolume
      was = record { number = number; kind = Stripe s }

      abbrev longer : OneVolume
      longer = with_row row was

      abbrev after : List OneVolume
      after = changed volume_key longer volumes

      comes : Changed was longer volumes after
      comes = (item_changed volume_key longer was v.0 volumes refl is.numbers.ascending found).1

      rows_were : IsRowsOf g s
      rows_were =
          let has : Contains volumes was = subst (λ (l : List OneVolume). Contains l was) (sym comes.old) (Contains-append_right comes.front (was ∷ comes.behind) was (0, omega arith, refl)) in
          All-contains (λ (w : OneVolume). IsKindOf g w.kind) volumes was is.kinds has

      wide : width row ≡ length bases
      wide = length-map bases _

      total : width_of s + length bases ≤ 100
      total =
          let full : is_full s.rows (length bases) ≡ false = subst (λ (o : Option OneVolume). is_full (rows_at o) (length bases) ≡ false) found not_refused.few in
          let parts = or_parts (nat_lt 99 (length s.rows)) (nat_lt 100 (length (flat_map parts_of s.rows) + length bases)) full in
          let few = parts.1 in
          let size = length-flat_map parts_of s.rows in
          let most : length (flat_map parts_of s.rows) + length bases ≤ 100 = grind (arith, nat_tests) in
          omega (arith, size, most)

      width_is : width_of (record s { rows = s.rows ++ row ∷ [] }) ≡ width_of s + length bases
      width_is = omega (arith, sum_by-append width s.rows (row ∷ []), sum_by-cons width row [], wide)

      rows_are : IsRowsOf g (record s { rows = s.rows ++ row ∷ [] })
      rows_are = record {
        some = omega (arith, length-append s.rows (row ∷ []), rows_were.some);
        few = omega (arith, width_is, total);
        each = All-push (IsRowOf g) s.rows row rows_were.each row_is;
        spares = rows_were.spares;
      }

      kinds : All (λ (w : OneVolume). IsKindOf g w.kind) after
      kinds = changed_all volume_key longer (λ (w : OneVolume). IsKindOf g w.kind) rows_are volumes is.kinds

      -- the new components are noted behind the others
      parts_noted : with_parts (replicate (width_of s) quiet_part) (map okay_part bases) ≡ replicate (width_of (record s { rows = s.rows ++ row ∷ [] })) quiet_part
      parts_noted =
          let had = replicate (width_of s) quiet_part in
          let new = map okay_part bases in
          let one = length-replicate (width_of s) quiet_part in
          let two = length-map bases okay_part in
          let room : nat_lt 100 (length had + length new) ≡ false = (let most = total in grind (arith, nat_tests)) in
          ap (λ (b : Bool). if b then had else had ++ new) room
          ∙ ap (λ (ps : List PartStatus). had ++ ps) (okay_parts bases)
          ∙ replicate-append-replicate (width_of s) (length bases) quiet_part
          ∙ ap (λ (n : ℕ). replicate n quiet_part) (sym width_is)

      states : added_states old.status v whole ≡ quiet_volume longer ∷ []
      states =
          ap (λ (t : Status). added_states t v whole) is.quiet
          ∙ ap (states_at (map okay_part bases)) (quiet_found v.0 volumes ∙ ap (option_map quiet_volume) found)
          ∙ ap (λ (ps : List PartStatus). record { number = number; kind = StripeNoted ps } ∷ []) parts_noted

      noted_are : noted old.status.volumes (added_states old.status v whole) ≡ map quiet_volume after
      noted_are =
          ap (noted old.status.volumes) states
          ∙ ap (λ (t : Status). changed status_key (quiet_volume longer) t.volumes) is.quiet
          ∙ quiet_changed longer volumes

      -- the new slices come behind those of the volume
      abbrev front : List SliceName
      front = component_slices comes.front ++ kind_slices (Stripe s)

      abbrev behind : List SliceName
      behind = component_slices comes.behind

      before_is : component_slices volumes ≡ front ++ behind
      before_is =
          ap component_slices comes.old
          ∙ flat_map-append volume_slices comes.front (was ∷ comes.behind)
          ∙ sym (append_assoc (component_slices comes.front) (kind_slices (Stripe s)) behind)

      own_is : volume_slices longer ≡ kind_slices (Stripe s) ++ flat_map base_slices bases
      own_is =
          flat_map-append row_slices s.rows (row ∷ [])
          ∙ ap (λ (l : List SliceName). kind_slices (Stripe s) ++ l) (append-nil (row_slices row) ∙ row_on_slices g plan whole)

      after_is : component_slices after ≡ front ++ (flat_map base_slices bases ++ behind)
      after_is =
          let new = flat_map base_slices bases in
          ap component_slices comes.new
          ∙ flat_map-append volume_slices comes.front (longer ∷ comes.behind)
          ∙ ap (λ (l : List SliceName). component_slices comes.front ++ (l ++ behind)) own_is
          ∙ ap (λ (l : List SliceName). component_slices comes.front ++ l) (append_assoc (kind_slices (Stripe s)) new behind)
          ∙ sym (append_assoc (component_slices comes.front) (kind_slices (Stripe s)) (new ++ behind))

      table_is : table_after g old (AddRow v asked) ≡ with_states (added_states old.status v whole) (with_changed (Some longer) old)
      table_is = ap (λ (o : Option OneVolume). with_states (added_states old.status v whole) (with_changed (option_map (with_row row) o) old)) found

      row_kept : IsOfGeometry g (table_after g old (AddRow v asked))
      row_kept = subst (IsOfGeometry g) (sym table_is) (record {
        lists = is.lists;
        numbers = changed_sorted volume_key longer 8192 volumes is.numbers;
        kinds = kinds;
        apart = apart_with g sound plan.lists plan after bases front behind is.lists kinds is.apart.components unmeeting unused before_is after_is;
        alone = record { set = is.alone.set; pending = is.alone.pending; pools = is.alone.pools };
        quiet = λ i. record { volumes = noted_are i; spares = (is.quiet i).spares };
      })

    pub added_kept : IsOfGeometry g (table_after g old (AddRow v asked))
    added_kept = by (volume_of plan v) refl where
      of_kind : (number : VolId) (kind : VolumeKind) → volume_of plan v ≡ Some (record { number = number; kind = kind }) → IsOfGeometry g (table_after g old (AddRow v asked))
      of_kind number (Stripe s) found = row_kept number s found
      of_kind number (Mirror m) found = absurd (false≢true (sym stripes ∙ ap (λ (o : Option OneVolume). not (is_stripe_volume o)) found))
      of_kind number (Raid r) found = absurd (false≢true (sym stripes ∙ ap (λ (o : Option OneVolume). not (is_stripe_volume o)) found))
      of_kind number (Soft s) found = absurd (false≢true (sym stripes ∙ ap (λ (o : Option OneVolume). not (is_stripe_volume o)) found))

      by : (o : Option OneVolume) → volume_of plan v ≡ o → IsOfGeometry g (table_after g old (AddRow v asked))
      by None none = absurd (false≢true (sym there ∙ ap (λ (o : Option OneVolume). not (is_some o)) none))
      by (Some of) found = of_kind of.number of.kind found
