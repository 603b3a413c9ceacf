-- Numbers that are marked, each at its place.
use Rattle.std.specs.Prelude.{◌≡◌, ◌<◌, ◌==◌, ℕ, Bool, false, List, [], ◌∷◌, Option, None, Some, length, slice_index_or}
use Rattle.std.specs.List.{flat_map, list_any}
use Rattle.mdv_keys.specs.Below.{OneVolume, PoolId, VolId, VolumeKind, kind_below, unmarked}
use Rattle.mdv_plan.specs.declared.volume.VolumeKind.TheVariants.{Stripe, Raid}

-- exactly the keys of the values are marked, of those below the limit
pub record AreMarks {T : Type 0} (key : T → ℕ) (limit : ℕ) (marks : List Bool) (xs : List T) : Type 0 where
  pub size : length marks ≡ limit
  pub marked : (k : ℕ) → k < limit → slice_index_or marks k false ≡ list_any (λ x. key x == k) xs

abbrev pub volume_key : VolId → ℕ
volume_key v = v.0

abbrev pub pool_key : PoolId → ℕ
pool_key q = q.0

-- of numbers themselves
abbrev pub same : ℕ → ℕ
same k = k

abbrev pub AreMarked : List Bool → List VolId → Type 0
AreMarked marks vs = AreMarks volume_key 8192 marks vs

abbrev pub number_of : OneVolume → ℕ
number_of w = w.number.0

abbrev pub below_it : OneVolume → List VolId
below_it w = kind_below w.kind

-- the volumes that those name which aren't marked
abbrev pub below_unmarked : List Bool → List OneVolume → List VolId
below_unmarked marks ws = flat_map below_it (unmarked number_of marks ws)

-- the pool from which a volume of this kind takes its spares
abbrev pub kind_pool : VolumeKind → Option PoolId
kind_pool (Stripe s) = s.spares
kind_pool (Raid r) = r.spares
kind_pool _ = None

abbrev pub pool_list : Option PoolId → List PoolId
pool_list None = []
pool_list (Some q) = q ∷ []

abbrev pub pools_of : OneVolume → List PoolId
pools_of w = pool_list (kind_pool w.kind)

-- the pools of those volumes that aren't marked
abbrev pub pools_unmarked : List Bool → List OneVolume → List PoolId
pools_unmarked marks ws = flat_map pools_of (unmarked number_of marks ws)
