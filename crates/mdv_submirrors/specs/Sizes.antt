-- How many blocks a submirror has.
use Rattle.std.specs.Prelude.{ℕ, Bool, false, true, not, ◌^◌, is_some, min, sum_by, Option, None, Some}
use Rattle.mdv_submirrors.specs.Below.{VolId, Plan, Component, Row, OneVolume, VolumeKind, Stripe, volume_of}

abbrev pub part_blocks : Component → ℕ
part_blocks c = c.blocks

-- no more than 2 ^ 63 blocks count
abbrev pub row_blocks : Row → ℕ
row_blocks r = min (sum_by part_blocks r.components) (2 ^ 63)

abbrev pub stripe_blocks : VolumeKind → ℕ
stripe_blocks (Stripe s) = min (sum_by row_blocks s.rows) (2 ^ 63)
stripe_blocks _ = 0

abbrev pub volume_blocks : Option OneVolume → ℕ
volume_blocks None = 0
volume_blocks (Some v) = stripe_blocks v.kind

-- the blocks of a stripe or concatenation, all its components together
abbrev pub blocks_of : Plan → VolId → ℕ
blocks_of p v = volume_blocks (volume_of p v)

abbrev pub is_no_volume : Plan → VolId → Bool
is_no_volume p v = not (is_some (volume_of p v))

abbrev pub is_stripe : VolumeKind → Bool
is_stripe (Stripe s) = true
is_stripe _ = false

abbrev pub is_stripe_volume : Option OneVolume → Bool
is_stripe_volume None = false
is_stripe_volume (Some v) = is_stripe v.kind

-- neither a stripe nor a concatenation
abbrev pub is_no_stripe : Plan → VolId → Bool
is_no_stripe p v = not (is_stripe_volume (volume_of p v))
