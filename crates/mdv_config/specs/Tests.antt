-- By tests, so that it can be computed: which tables are of a geometry.
use Rattle.std.specs.Prelude.{◌==◌, ◌&&◌, ◌||◌, ◌+◌, ◌%◌, ◌^◌, ℕ, Bool, true, false, not, nat_le, nat_lt, Option, None, Some, List, [], ◌∷◌, length}
use Rattle.std.specs.List.{list_all}
use Rattle.std.specs.Option.{is_none}
use Rattle.mdv_config.specs.Below.{SliceName, Place, Geometry, SliceAt, are_spaced, meets_db, slice_at, Lists, One, Two, Plan, Table}
use Rattle.mdv_config.specs.Below.{Base, Slice, Volume, Component, Row, OneStripe, OneVolume, VolumeKind, Stripe}
use Rattle.mdv_config.specs.Below.{KindStatus, StripeNoted, SoftNoted, PartStatus, State, Okay, Status, VolumeStatus, SetData}
use Rattle.mdv_config.specs.Lists.{places_of, component_slices}
pub use Rattle.mdv_config.specs.Lists.{same_place}
use Rattle.mdv_config.specs.Slices.{overlaps_by}
use Rattle.mdv_config.specs.Table.{row_depth, volume_key, width, width_of}

-- each value passes with each later one
abbrev pub pairs_pass : {X : Type 0} → (X → X → Bool) → List X → Bool
pairs_pass test [] = true
pairs_pass test (x ∷ xs) = list_all (test x) xs && pairs_pass test xs

abbrev pub is_empty : {X : Type 0} → List X → Bool
is_empty [] = true
is_empty (x ∷ xs) = false

-- the slice is there, and passes
abbrev pub is_there_and : (SliceAt → Bool) → Option SliceAt → Bool
is_there_and test None = false
is_there_and test (Some at) = test at

abbrev pub is_place_in : Place → SliceAt → Bool
is_place_in p at = (at.db && nat_lt p.start (2 ^ 32)) && ((nat_le 16 p.blocks && nat_le p.blocks 8192) && nat_le (p.start + p.blocks) at.blocks)

abbrev pub is_place_of : Geometry → Place → Bool
is_place_of g p = is_there_and (is_place_in p) (slice_at g.slices p.slice) && not (meets_db g p.slice)

-- no place stands there twice
abbrev pub do_differ : List Place → Bool
do_differ places = pairs_pass (λ p q. not (same_place p q)) places

abbrev pub are_places_of : Geometry → List Place → Bool
are_places_of g places = (nat_le 1 (length places) && nat_le (length places) 50) && (are_spaced (One places) && (do_differ places && list_all (is_place_of g) places))

abbrev pub are_lists_of : Geometry → Lists → Bool
are_lists_of g (One places) = are_places_of g places
are_lists_of g (Two old new) = are_places_of g old && (are_places_of g new && are_spaced (Two old new))

abbrev pub is_part_in : ℕ → Component → SliceAt → Bool
is_part_in blocks c at = (not at.db && c.start == 0) && (c.blocks == blocks && nat_le blocks at.blocks)

abbrev pub is_part_on : Geometry → ℕ → Component → Base → Bool
is_part_on g blocks c (Slice slice) = is_there_and (is_part_in blocks c) (slice_at g.slices slice) && not (meets_db g slice)
is_part_on g blocks c (Volume v) = false

abbrev pub is_row_of : Geometry → Row → Bool
is_row_of g row =
    let depth = row_depth row in
    let units = width row == 1 || depth % row.interlace == 0 in
    (nat_le 16 row.interlace && nat_le row.interlace 204800) && (nat_lt 0 depth && (units && list_all (λ c. is_part_on g depth c c.on) row.components))

abbrev pub are_rows_of : Geometry → OneStripe → Bool
are_rows_of g s = (nat_lt 0 (length s.rows) && nat_le (width_of s) 100) && (list_all (is_row_of g) s.rows && is_none s.spares)

abbrev pub is_kind_of : Geometry → VolumeKind → Bool
is_kind_of g (Stripe s) = are_rows_of g s
is_kind_of g other = false

-- the numbers ascend, and are below 8192
abbrev pub are_volumes : List OneVolume → Bool
are_volumes vs = pairs_pass (λ v w. nat_lt (volume_key v) (volume_key w)) vs && list_all (λ v. nat_lt (volume_key v) 8192) vs

-- no two of the components overlap, and none of them a replica
abbrev pub are_apart : Geometry → List Place → List SliceName → Bool
are_apart g places slices = pairs_pass (λ m n. not (overlaps_by g.slices m n)) slices && list_all (λ n. list_all (λ p. not (overlaps_by g.slices p.slice n)) places) slices

abbrev pub is_no_set : SetData → Bool
is_no_set s = (is_none s.owner && is_empty s.hosts) && (is_empty s.drives && is_empty s.mediators)

abbrev pub is_local : Plan → Bool
is_local p = is_no_set p.set && (is_empty p.pending && is_empty p.pools)

abbrev pub is_okay : State → Bool
is_okay Okay = true
is_okay other = false

abbrev pub is_quiet_part : PartStatus → Bool
is_quiet_part p = is_okay p.state && is_none p.spare

abbrev pub is_quiet_stripe : OneStripe → KindStatus → Bool
is_quiet_stripe s (StripeNoted parts) = length parts == width_of s && list_all is_quiet_part parts
is_quiet_stripe s other = false

abbrev pub is_soft_noted : KindStatus → Bool
is_soft_noted SoftNoted = true
is_soft_noted other = false

abbrev pub is_quiet_kind : VolumeKind → KindStatus → Bool
is_quiet_kind (Stripe s) noted = is_quiet_stripe s noted
is_quiet_kind other noted = is_soft_noted noted

abbrev pub is_quiet_volume : OneVolume → VolumeStatus → Bool
is_quiet_volume v s = s.number.0 == v.number.0 && is_quiet_kind v.kind s.kind

abbrev pub are_quiet : List OneVolume → List VolumeStatus → Bool
are_quiet [] [] = true
are_quiet (v ∷ vs) (s ∷ ss) = is_quiet_volume v s && are_quiet vs ss
are_quiet vs ss = false

abbrev pub is_quiet : Plan → Status → Bool
is_quiet p s = are_quiet p.volumes s.volumes && is_empty s.spares

unfoldable pub is_of_geometry : Geometry → Table → Bool
is_of_geometry g t =
    let volumes = t.plan.volumes in
    let kinds = list_all (λ v. is_kind_of g v.kind) volumes in
    (are_lists_of g t.plan.lists && are_volumes volumes) && (kinds && (are_apart g (places_of t.plan.lists) (component_slices volumes) && (is_local t.plan && is_quiet t.plan t.status)))
