-- How many blocks volumes and their components have.
use Rattle.std.specs.Prelude.{ℕ, Bool, true, not, ◌+◌, ◌*◌, ◌%◌, ◌^◌, ◌==◌, ◌&&◌, ◌||◌, nat_le, nat_lt, List, [], ◌∷◌, length}
use Rattle.std.specs.List.{list_all}
use Rattle.mdv_shape.specs.Below.{VolId, Plan, Base, Slice, Volume, Component, Row, OneMirror, OneRaid, OneVolume, VolumeKind, Stripe, Mirror, Raid, Soft, blocks_of, soft_blocks, stripe_blocks, volume_of}

-- a component on a soft partition has blocks from its first on, and no more than it has
abbrev pub fits_base : Plan → Component → Base → Bool
fits_base p c (Slice s) = true
fits_base p c (Volume v) = (c.start == 0) && nat_le c.blocks (soft_blocks (volume_of p v))

abbrev pub fits : Plan → Component → Bool
fits p c = fits_base p c c.on

abbrev pub has_blocks : ℕ → Component → Bool
has_blocks blocks c = c.blocks == blocks

abbrev pub first_blocks : List Component → ℕ
first_blocks [] = 0
first_blocks (c ∷ cs) = c.blocks

-- a stripe of one component has any number of them, a wider one whole units
abbrev pub is_in_units : ℕ → ℕ → ℕ → Bool
is_in_units width interlace blocks = (width == 1) || (blocks % interlace == 0)

-- all components have as many blocks, and at least one
abbrev pub is_even : Row → Bool
is_even r = not (r.interlace == 0) && (not (first_blocks r.components == 0) && (list_all (has_blocks (first_blocks r.components)) r.components && is_in_units (length r.components) r.interlace (first_blocks r.components)))

abbrev pub is_row_sized : Plan → Row → Bool
is_row_sized p r = is_even r && list_all (fits p) r.components

-- it is no larger than the submirror
abbrev pub has_room : Plan → ℕ → VolId → Bool
has_room p blocks v = nat_le blocks (blocks_of p v)

abbrev pub is_mirror_sized : Plan → OneMirror → Bool
is_mirror_sized p m = not (m.blocks == 0) && list_all (has_room p m.blocks) m.submirrors

-- the prewrite area and the units
abbrev pub column_blocks : OneRaid → ℕ
column_blocks r = 136 + r.units * r.interlace

-- all columns have as many blocks, with at least one unit, and together fewer than 2 ^ 63
abbrev pub is_raid_even : OneRaid → Bool
is_raid_even r = not (r.units * r.interlace == 0) && (nat_lt (column_blocks r) (2 ^ 63) && (nat_lt (length r.columns * column_blocks r) (2 ^ 63) && list_all (has_blocks (column_blocks r)) r.columns))

-- the extents of soft partitions are judged on their bases
abbrev pub is_kind_sized : Plan → VolumeKind → Bool
is_kind_sized p (Stripe s) = list_all (is_row_sized p) s.rows && nat_lt (stripe_blocks (Stripe s)) (2 ^ 63)
is_kind_sized p (Mirror m) = is_mirror_sized p m
is_kind_sized p (Raid r) = is_raid_even r && list_all (fits p) r.columns
is_kind_sized p (Soft s) = true

abbrev pub is_sized : Plan → OneVolume → Bool
is_sized p w = is_kind_sized p w.kind

abbrev pub are_sized : Plan → Bool
are_sized p = list_all (is_sized p) p.volumes
