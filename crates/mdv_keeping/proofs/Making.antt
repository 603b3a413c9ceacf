-- A new volume of rows of slices leaves a table of the geometry.
use Rattle.std.proofs.Common.{◌≡◌, ℕ, ◌<◌, ◌≤◌, ◌==◌, ◌++◌, Bool, true, false, cond, if◌then◌else◌, List, [], ◌∷◌, length, get_or, find, map, flat_map, nat_lt, replicate, Option, None, Some, refl, sym, ◌∙◌, ap, arith}
use Rattle.std.specs.Prelude.{All}
use Rattle.std.specs.List.{list_any}
use Rattle.std.proofs.lemmas.Bool.{or_parts}
use Rattle.std.proofs.lemmas.Bool.Decides.{nat_tests}
use Rattle.std.proofs.lemmas.List.{length-map}
use Rattle.std.proofs.lemmas.List.Concat.{flat_map-append}
use Rattle.std.proofs.lemmas.List.Elements.{All-cons, All-map, All-nil}
use Rattle.std.proofs.lemmas.List.Folds.{list_any-append}
use Rattle.std.proofs.lemmas.Option.{none-some}
use Rattle.mdv_base.specs.declared.name.PoolId.{PoolId}
use Rattle.mdv_base.specs.declared.name.VolId.{VolId}
use Rattle.mdv_change.specs.Change.{condition, table_after}
use Rattle.mdv_components.proofs.Causes.{is_none}
use Rattle.mdv_components.proofs.Formed.{none_passes}
use Rattle.mdv_components.specs.Bases.{has_meeting, is_foreign, is_slice_in_use, volume_of}
use Rattle.mdv_components.specs.Stripes.{all_bases, is_bad_row, is_empty_row, is_too_small, row_on, stripe_on, stripe_status}
use Rattle.mdv_config.specs.Lists.{base_slices, component_slices, volume_slices}
use Rattle.mdv_config.specs.Table.{IsKindOf, IsRowOf, IsRowsOf, quiet_part, quiet_volume, volume_key}
use Rattle.mdv_plan.proofs.Ascending.{with_sorted}
use Rattle.mdv_plan.specs.Sorted.{with_item, with_put}
use Rattle.mdv_plan.specs.Uses.{uses_of}
use Rattle.mdv_plan.specs.declared.plan.Plan.{Plan}
use Rattle.mdv_plan.specs.declared.status.KindStatus.TheVariants.{Stripe as StripeNoted}
use Rattle.mdv_plan.specs.declared.status.PartStatus.{PartStatus}
use Rattle.mdv_plan.specs.declared.status.Status.{Status}
use Rattle.mdv_plan.specs.declared.status.VolumeStatus.{VolumeStatus}
use Rattle.mdv_plan.specs.declared.volume.Volume.{Volume as OneVolume}
use Rattle.mdv_keeping.specs.Below.{Base, DriveNo, Geometry, IsOfGeometry, IsSound, MakeStripe, RowAsked, SliceName, Table, refusal_of}
use Rattle.mdv_keeping.specs.Built.{IsOfSlices, has_db}
use Rattle.mdv_keeping.proofs.Apart.{apart_with}
use Rattle.mdv_keeping.proofs.Lists.{Put, item_put, put_all}
use Rattle.mdv_keeping.proofs.Rows.{okay_parts, row_of, rows_on_slices, rows_on_width}
use Rattle.mdv_keeping.proofs.Unrefused.{IsUnrefused, unrefused}

-- what is noted of a new volume comes where the volume does
quiet_put : (v : OneVolume) (vs : List OneVolume) → find (λ (w : OneVolume). w.number.0 == v.number.0) vs ≡ None
    → with_put (λ (s : VolumeStatus). s.number.0) (quiet_volume v) (map quiet_volume vs) ≡ map quiet_volume (with_item volume_key v vs)
quiet_put v [] none = refl
quiet_put v (w ∷ ws) none = by (λ rest. quiet_put v ws rest) (nat_lt v.number.0 w.number.0) (w.number.0 == v.number.0) none where
  by : (find (λ (u : OneVolume). u.number.0 == v.number.0) ws ≡ None → with_put (λ (s : VolumeStatus). s.number.0) (quiet_volume v) (map quiet_volume ws) ≡ map quiet_volume (with_item volume_key v ws))
      → (less same : Bool) → cond same (Some w) (find (λ (u : OneVolume). u.number.0 == v.number.0) ws) ≡ None
      → (if less then quiet_volume v ∷ quiet_volume w ∷ map quiet_volume ws
      else (if same then quiet_volume v ∷ map quiet_volume ws else quiet_volume w ∷ with_put (λ (s : VolumeStatus). s.number.0) (quiet_volume v) (map quiet_volume ws)))
      ≡ map quiet_volume (if less then v ∷ w ∷ ws else w ∷ with_item volume_key v ws)
  by later true same is = refl
  by later false true is = absurd (none-some w (sym is))
  by later false false is = ap (λ (l : List VolumeStatus). quiet_volume w ∷ l) (later is)

-- what isn't so of the components of all rows isn't of those of each
each_row : (p : Base → Bool) (rows : List RowAsked) → list_any p (all_bases rows) ≡ false → All (λ (r : RowAsked). list_any p r.components ≡ false) rows
each_row p [] none = All-nil _
each_row p (r ∷ rs) none =
    let parts = or_parts (list_any p r.components) (list_any p (all_bases rs)) (sym (list_any-append p r.components (all_bases rs)) ∙ none) in
    All-cons (λ (q : RowAsked). list_any p q.components ≡ false) r rs parts.0 (each_row p rs parts.1)

module _ (g : Geometry) (sound : IsSound g) (drives : List DriveNo) (old : Table) (is : IsOfGeometry g old) (v : VolId) (rows : List RowAsked) (pool : Option PoolId) where
  abbrev plan : Plan
  plan = old.plan

  abbrev volumes : List OneVolume
  volumes = plan.volumes

  abbrev bases : List Base
  bases = all_bases rows

  abbrev made : OneVolume
  made = stripe_on g plan v rows pool

  module _ (small : v.0 < 8192) (no_pool : pool ≡ None) (slices : All IsOfSlices rows) (plain : list_any (has_db g) rows ≡ false) (allowed : refusal_of g drives old (MakeStripe v rows pool) ≡ None) where
    abbrev not_refused : IsUnrefused (condition g drives old (MakeStripe v rows pool))
    not_refused = unrefused g drives old (MakeStripe v rows pool) allowed

    unused : list_any (is_slice_in_use g (uses_of plan)) bases ≡ false
    unused = (or_parts (list_any (is_slice_in_use g (uses_of plan)) bases) (has_meeting g bases) not_refused.unused).0

    unmeeting : has_meeting g bases ≡ false
    unmeeting = (or_parts (list_any (is_slice_in_use g (uses_of plan)) bases) (has_meeting g bases) not_refused.unused).1

    free : volume_of plan v ≡ None
    free = is_none (volume_of plan v) not_refused.free

    form : (length rows == 0 ≡ false) × (list_any is_empty_row rows ≡ false)
    form = or_parts (length rows == 0) (list_any is_empty_row rows) not_refused.some

    rows_are : IsRowsOf g (record { rows = map (row_on g plan) rows; spares = pool })
    rows_are =
        let first = form.0 in
        let few = not_refused.few in
        let wide = rows_on_width g plan rows in
        let long = length-map rows (row_on g plan) in
        let some : 0 < length rows = grind (arith, nat_tests) in
        let most : length bases ≤ 100 = grind (arith, nat_tests) in
        record {
          some = omega (arith, some, long);
          few = omega (arith, wide, most);
          each = All-map (IsRowOf g) (row_on g plan) rows (λ k d within. row_of g sound drives (uses_of plan) plan (get_or rows k d) (record {
            slices = slices k d within;
            plain = none_passes (has_db g) rows plain k d within;
            there = each_row (is_foreign g drives) rows not_refused.slices k d within;
            unused = each_row (is_slice_in_use g (uses_of plan)) rows unused k d within;
          }) (none_passes is_empty_row rows form.1 k d within) (none_passes is_bad_row rows not_refused.interlace k d within) (none_passes (is_too_small g plan) rows not_refused.room k d within));
          spares = no_pool;
        }

    put : Put made volumes (with_item volume_key made volumes)
    put = item_put volume_key made volumes

    kinds : All (λ (w : OneVolume). IsKindOf g w.kind) (with_item volume_key made volumes)
    kinds = put_all volume_key made (λ (w : OneVolume). IsKindOf g w.kind) rows_are volumes (with_item volume_key made volumes) put is.kinds

    status : stripe_status v rows ≡ quiet_volume made
    status = ap (λ (ps : List PartStatus). record { number = v; kind = StripeNoted ps }) (okay_parts bases ∙ ap (λ (n : ℕ). replicate n quiet_part) (sym (rows_on_width g plan rows)))

    noted : with_put (λ (s : VolumeStatus). s.number.0) (stripe_status v rows) old.status.volumes ≡ map quiet_volume (with_item volume_key made volumes)
    noted =
        ap (λ (s : VolumeStatus). with_put (λ (t : VolumeStatus). t.number.0) s old.status.volumes) status
        ∙ ap (λ (s : Status). with_put (λ (t : VolumeStatus). t.number.0) (quiet_volume made) s.volumes) is.quiet
        ∙ quiet_put made volumes free

    -- the slices of the new volume come where it does
    before : component_slices volumes ≡ component_slices put.front ++ component_slices put.behind
    before = ap component_slices put.old ∙ flat_map-append volume_slices put.front put.behind

    after : component_slices (with_item volume_key made volumes) ≡ component_slices put.front ++ (flat_map base_slices bases ++ component_slices put.behind)
    after =
        ap component_slices put.new
        ∙ flat_map-append volume_slices put.front (made ∷ put.behind)
        ∙ ap (λ (l : List SliceName). component_slices put.front ++ (l ++ component_slices put.behind)) (rows_on_slices g plan rows)

    pub stripe_kept : IsOfGeometry g (table_after g old (MakeStripe v rows pool))
    stripe_kept = record {
      lists = is.lists;
      numbers = with_sorted volume_key 8192 made volumes is.numbers small free;
      kinds = kinds;
      apart = apart_with g sound plan.lists plan (with_item volume_key made volumes) bases (component_slices put.front) (component_slices put.behind) is.lists kinds is.apart.components unmeeting unused before after;
      alone = record { set = is.alone.set; pending = is.alone.pending; pools = is.alone.pools };
      quiet = λ i. record { volumes = noted i; spares = (is.quiet i).spares };
    }
