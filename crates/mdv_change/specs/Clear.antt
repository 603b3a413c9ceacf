-- The clearing of volumes and pools: what refuses it, and what is left.
use Rattle.std.specs.Prelude.{ℕ, Bool, false, not, ◌==◌, ◌&&◌, ◌||◌, List, [], ◌∷◌, map, Option, None, Some, is_some, nat_eq, if◌then◌else◌}
use Rattle.std.specs.List.{find, fold, flat_map, list_any}
use Rattle.mdv_change.specs.Below.{VolId, PoolId, SliceName, Plan, Pool, Spare, Status, Table, OneVolume, VolumeKind, VolumeStatus, KindStatus, PartStatus, SpareStatus, SpareUse}
use Rattle.mdv_change.specs.Below.{volume_of, pool_of, names_volume, names_pool, pool_key, same_slice, slice_code, volume_key, changed, kept, Cause}
use Rattle.mdv_components.specs.declared.cause.Cause.TheVariants.{NoSuchVolume, NoSuchPool, HasParent, SpareInUse}
use Rattle.mdv_plan.specs.declared.status.KindStatus.TheVariants.{Stripe, Mirror, Raid, Soft}
use Rattle.mdv_plan.specs.declared.status.SpareState.TheVariants.{Available}

abbrev pub is_no_volume : Plan → VolId → Bool
is_no_volume p v = not (is_some (volume_of p v))

abbrev pub is_no_pool : Plan → PoolId → Bool
is_no_pool p q = not (is_some (pool_of p q))

abbrev pub is_named : List VolId → VolId → Bool
is_named volumes v = list_any (λ w. w.0 == v.0) volumes

abbrev pub is_named_pool : List PoolId → PoolId → Bool
is_named_pool pools q = list_any (λ r. r.0 == q.0) pools

-- a volume of this kind uses one of the volumes, or takes its spares from one of the pools
abbrev pub uses_one : List VolId → List PoolId → VolumeKind → Bool
uses_one volumes pools kind = list_any (λ v. names_volume v kind) volumes || list_any (λ q. names_pool q kind) pools

-- it stays, and uses what goes
abbrev pub is_left_with : List VolId → List PoolId → OneVolume → Bool
is_left_with volumes pools w = not (is_named volumes w.number) && uses_one volumes pools w.kind

abbrev pub spare_used : Option SpareUse → List SliceName
spare_used None = []
spare_used (Some u) = u.slice ∷ []

abbrev pub part_spare : PartStatus → List SliceName
part_spare part = spare_used part.spare

abbrev pub parts_of : KindStatus → List PartStatus
parts_of (Stripe parts) = parts
parts_of (Mirror m) = []
parts_of (Raid r) = r.columns
parts_of Soft = []

abbrev pub spares_in : Option VolumeStatus → List SliceName
spares_in None = []
spares_in (Some s) = flat_map part_spare (parts_of s.kind)

abbrev pub spares_under : Status → VolId → List SliceName
spares_under s v = spares_in (find (λ w. w.number.0 == v.0) s.volumes)

-- the spares on which components of the volumes lie
abbrev pub used_spares : Status → List VolId → List SliceName
used_spares s volumes = flat_map (spares_under s) volumes

abbrev pub available : SliceName → SpareStatus
available s = record { slice = s; state = Available }

abbrev pub spare_key : SpareStatus → ℕ
spare_key s = slice_code s.slice

-- these are Available again
abbrev pub given_back : List SpareStatus → List SliceName → List SpareStatus
given_back spares slices = fold (λ ss s. changed spare_key (available s) ss) spares slices

abbrev pub has_spare : SliceName → Pool → Bool
has_spare s q = list_any (λ t. same_slice t.slice s) q.spares

abbrev pub is_kept_with : List PoolId → SliceName → Pool → Bool
is_kept_with pools s q = not (is_named_pool pools q.number) && has_spare s q

-- a pool that stays has the spare
abbrev pub is_kept_spare : Plan → List PoolId → SliceName → Bool
is_kept_spare p pools s = list_any (is_kept_with pools s) p.pools

abbrev pub lost_spare : Plan → List PoolId → Spare → List ℕ
lost_spare p pools s = if is_kept_spare p pools s.slice then [] else slice_code s.slice ∷ []

abbrev pub lost_in : Plan → List PoolId → Option Pool → List ℕ
lost_in p pools None = []
lost_in p pools (Some q) = flat_map (lost_spare p pools) q.spares

abbrev pub lost_of : Plan → List PoolId → PoolId → List ℕ
lost_of p pools q = lost_in p pools (pool_of p q)

-- the spares of the pools that go which no other pool has, each by its number
abbrev pub lost_spares : Plan → List PoolId → List ℕ
lost_spares p pools = flat_map (lost_of p pools) pools

abbrev pub is_among : List ℕ → SliceName → Bool
is_among keys s = list_any (nat_eq (slice_code s)) keys

-- the component lies on a spare of one of these numbers
abbrev pub lies_on : List ℕ → PartStatus → Bool
lies_on keys part = list_any (is_among keys) (part_spare part)

-- the volume stays, and a component of it lies on one of these spares
abbrev pub is_left_on : List VolId → List ℕ → VolumeStatus → Bool
is_left_on volumes keys s = not (is_named volumes s.number) && list_any (lies_on keys) (parts_of s.kind)

-- what refuses the clearing; a use by a volume that goes too doesn't count
abbrev pub clear_condition : Table → List VolId → List PoolId → Cause → Bool
clear_condition t volumes pools NoSuchVolume = list_any (is_no_volume t.plan) volumes
clear_condition t volumes pools NoSuchPool = list_any (is_no_pool t.plan) pools
clear_condition t volumes pools HasParent = list_any (is_left_with volumes pools) t.plan.volumes
clear_condition t volumes pools SpareInUse = list_any (is_left_on volumes (lost_spares t.plan pools)) t.status.volumes
clear_condition t volumes pools _ = false

-- The volumes and pools are gone, and their states with them. A spare that a component of theirs had is Available again, and one that no pool has
-- any more has no state.
abbrev pub cleared : List VolId → List PoolId → Table → Table
cleared volumes pools t =
    record {
      plan = record t.plan {
        pools = kept (λ q. q.number.0) (map pool_key pools) t.plan.pools;
        volumes = kept (λ w. w.number.0) (map volume_key volumes) t.plan.volumes;
      };
      status = record {
        volumes = kept (λ w. w.number.0) (map volume_key volumes) t.status.volumes;
        spares = kept spare_key (lost_spares t.plan pools) (given_back t.status.spares (used_spares t.status volumes));
      };
    }

-- no volumes and pools, and no states
abbrev pub emptied : Table → Table
emptied t = record { plan = record t.plan { pools = []; volumes = [] }; status = record { volumes = []; spares = [] } }
