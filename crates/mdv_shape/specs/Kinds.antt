-- What may lie below a volume: all that it names is there, and of a kind that may.
use Rattle.std.specs.Prelude.{Bool, not, ◌&&◌}
use Rattle.std.specs.List.{list_all}
use Rattle.mdv_shape.specs.Below.{VolId, Plan, Component, Row, OneVolume, VolumeKind, Stripe, Mirror, Raid, Soft, is_missing, is_nested, is_no_leaf, is_no_stripe, no_pool}

-- it lies on a slice, or on a soft partition on a slice
abbrev pub is_leaf_part : Plan → Component → Bool
is_leaf_part p c = not (is_no_leaf p c.on)

abbrev pub is_leaf_row : Plan → Row → Bool
is_leaf_row p r = list_all (is_leaf_part p) r.components

abbrev pub is_stripe_there : Plan → VolId → Bool
is_stripe_there p v = not (is_no_stripe p v)

-- Submirrors are volumes of stripes. The base of a soft partition neither is one nor contains one.
abbrev pub is_kind_below : Plan → VolumeKind → Bool
is_kind_below p (Stripe s) = list_all (is_leaf_row p) s.rows && not (no_pool p s.spares)
is_kind_below p (Mirror m) = list_all (is_stripe_there p) m.submirrors
is_kind_below p (Raid r) = list_all (is_leaf_part p) r.columns && not (no_pool p r.spares)
is_kind_below p (Soft s) = not (is_missing p s.base) && not (is_nested p s.base)

abbrev pub is_volume_below : Plan → OneVolume → Bool
is_volume_below p w = is_kind_below p w.kind

abbrev pub are_below : Plan → Bool
are_below p = list_all (is_volume_below p) p.volumes
