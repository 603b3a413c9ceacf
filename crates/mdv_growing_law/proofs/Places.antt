-- What a change makes of volumes on slices that aren't for replicas doesn't depend on the places of replicas.
use Rattle.std.proofs.Common.{◌≡◌, ℕ, ◌^◌, min, false, List, [], ◌∷◌, get_or, map, Option, None, Some, option_map, refl, ◌∙◌, ap}
use Rattle.std.specs.Prelude.{All}
use Rattle.std.specs.List.{fold, list_any}
use Rattle.std.proofs.lemmas.List.Elements.{All-head, All-tail}
use Rattle.mdv_change.specs.declared.change.Change.TheVariants.{MakeRaid, MakeMirror, MakeSoft, Attach, Detach, Offline, Online, EnablePart, ReplacePart, Grow, AddSpares, AddSparesToAll, DeleteSpares, ReplaceSpare, EnableSpares}
use Rattle.mdv_change.specs.Change.{row_behind, table_after, with_changed, with_states, with_volume}
use Rattle.mdv_components.proofs.Formed.{none_passes}
use Rattle.mdv_components.specs.Room.{component_on, room_at, room_of, start_at, start_of}
use Rattle.mdv_components.specs.Stripes.{row_blocks, row_interlace, row_on, stripe_status, used_blocks}
use Rattle.mdv_config.specs.Lists.{with_lists}
use Rattle.mdv_keeping.specs.Built.{has_db, is_db, is_db_at, names_db}
use Rattle.mdv_layout_law.proofs.Telling.{map_same}
use Rattle.mdv_name.specs.SliceIndex.{slice_at}
use Rattle.mdv_name.specs.declared.slice_lines.SliceAt.{SliceAt}
use Rattle.mdv_plan.specs.declared.lists.Lists.{Lists}
use Rattle.mdv_rows.specs.Adding.{added_states, with_row}
use Rattle.mdv_growing_law.specs.Below.{AddRow, Base, Change, Clear, ClearAll, ClearBelow, Component, Geometry, IsBuilt, IsOfSlices, IsSlice, MakeStripe, OneVolume, Plan, PoolId, Row, RowAsked, Slice, Stripe, Table, VolId, Volume, volume_of}

least_same : (f h : Base → ℕ) (a : ℕ) (xs : List Base) → All (λ (x : Base). f x ≡ h x) xs → fold (λ least x. min least (f x)) a xs ≡ fold (λ least x. min least (h x)) a xs
least_same f h a [] same = refl
least_same f h a (x ∷ xs) same =
    ap (λ (n : ℕ). fold (λ least y. min least (f y)) (min a n) xs) (All-head (λ (y : Base). f y ≡ h y) x xs same) ∙ least_same f h (min a (h x)) xs (All-tail (λ (y : Base). f y ≡ h y) x xs same)

module _ (g : Geometry) (p q : Plan) where
  base_same : (b : Base) → IsSlice b → is_db g b ≡ false → (start_of g p b ≡ start_of g q b) × (room_of g p b ≡ room_of g q b)
  base_same (Volume v) is plain = absurd is
  base_same (Slice s) is plain = by (slice_at g.slices s) plain where
    by : (o : Option SliceAt) → is_db_at o ≡ false → (start_at p.lists s o ≡ start_at q.lists s o) × (room_at p.lists s o ≡ room_at q.lists s o)
    by None plain = (refl, refl)
    by (Some at) plain = let db : at.db ≡ false = plain in rw db (refl, refl)

  module _ (r : RowAsked) (slices : IsOfSlices r) (plain : has_db g r ≡ false) where
    bases_same : All (λ (b : Base). (start_of g p b ≡ start_of g q b) × (room_of g p b ≡ room_of g q b)) r.components
    bases_same k d lt = base_same (get_or r.components k d) (slices k d lt) (none_passes (is_db g) r.components plain k d lt)

    blocks_same : row_blocks g p r ≡ row_blocks g q r
    blocks_same = ap (used_blocks _ (row_interlace r)) (least_same (room_of g p) (room_of g q) (2 ^ 63) r.components (λ k d lt. (bases_same k d lt).1))

    part_same : (b : Base) → start_of g p b ≡ start_of g q b → component_on g p (row_blocks g p r) b ≡ component_on g q (row_blocks g q r) b
    part_same b start = λ i. record { on = b; start = start i; blocks = blocks_same i }

    row_same : row_on g p r ≡ row_on g q r
    row_same = ap (λ (cs : List Component). record { interlace = row_interlace r; components = cs })
        (map_same (component_on g p (row_blocks g p r)) (component_on g q (row_blocks g q r)) r.components (λ k d lt. part_same (get_or r.components k d) (bases_same k d lt).0))

  rows_same : (rows : List RowAsked) → All IsOfSlices rows → list_any (has_db g) rows ≡ false → map (row_on g p) rows ≡ map (row_on g q) rows
  rows_same rows slices plain = map_same (row_on g p) (row_on g q) rows (λ k d lt. row_same (get_or rows k d) (slices k d lt) (none_passes (has_db g) rows plain k d lt))

module _ (g : Geometry) (t : Table) (lists : Lists) where
  abbrev other : Table
  other = with_lists t lists

  made : (v : VolId) (rows : List RowAsked) (pool : Option PoolId) → All IsOfSlices rows → names_db g (MakeStripe v rows pool) ≡ false → table_after g other (MakeStripe v rows pool) ≡ with_lists (table_after g t (MakeStripe v rows pool)) lists
  made v rows pool slices plain =
      ap (λ (rs : List Row). with_volume (record { number = v; kind = Stripe (record { rows = rs; spares = pool }) }) (stripe_status v rows) other) (rows_same g other.plan t.plan rows slices plain)

  changed_with : (o : Option OneVolume) → with_changed o other ≡ with_lists (with_changed o t) lists
  changed_with None = refl
  changed_with (Some v) = refl

  added : (v : VolId) (r : RowAsked) → IsOfSlices r → has_db g r ≡ false → table_after g other (AddRow v r) ≡ with_lists (table_after g t (AddRow v r)) lists
  added v r slices plain =
      let row = row_behind t.plan v r in
      let states = added_states t.status v row in
      ap (λ (w : Row). with_states states (with_changed (option_map (with_row w) (volume_of t.plan v)) other)) (row_same g other.plan t.plan row slices plain)
      ∙ ap (with_states states) (changed_with (option_map (with_row (row_on g t.plan row)) (volume_of t.plan v)))

-- the change makes the same of a table with other lists of places, which stay
pub places_apart : (g : Geometry) (change : Change) (t : Table) (lists : Lists) → IsBuilt change → names_db g change ≡ false → table_after g (with_lists t lists) change ≡ with_lists (table_after g t change) lists
places_apart g (MakeStripe v rows pool) t lists built plain = made g t lists v rows pool built.2 plain
places_apart g (AddRow v r) t lists built plain = added g t lists v r built plain
places_apart g (Clear volumes pools) t lists built plain = refl
places_apart g (ClearBelow volumes pools) t lists built plain = refl
places_apart g ClearAll t lists built plain = refl
places_apart g (MakeRaid v raid) t lists built plain = absurd built
places_apart g (MakeMirror v mirror) t lists built plain = absurd built
places_apart g (MakeSoft v asked) t lists built plain = absurd built
places_apart g (Attach mirror sub) t lists built plain = absurd built
places_apart g (Detach mirror sub force) t lists built plain = absurd built
places_apart g (Offline mirror sub) t lists built plain = absurd built
places_apart g (Online mirror sub) t lists built plain = absurd built
places_apart g (EnablePart v part) t lists built plain = absurd built
places_apart g (ReplacePart v part new) t lists built plain = absurd built
places_apart g (Grow v blocks) t lists built plain = absurd built
places_apart g (AddSpares q new slices) t lists built plain = absurd built
places_apart g (AddSparesToAll slices) t lists built plain = absurd built
places_apart g (DeleteSpares pools slices) t lists built plain = absurd built
places_apart g (ReplaceSpare pools part new) t lists built plain = absurd built
places_apart g (EnableSpares slices) t lists built plain = absurd built
