-- Which volumes use others.
use Rattle.std.proofs.Common.{◌≡◌, ◌<◌, ◌+◌, ◌==◌, ◌&&◌, ℕ, Bool, true, false, not, cond, refl, sym, ◌∙◌, ap, List, [], ◌∷◌, ◌++◌, length, get_or, take, Option, None, Some, append-nil}
use Rattle.std.proofs.lemmas.Grind.{flat_map-append}
use Rattle.std.proofs.lemmas.List.{take_more}
use Rattle.std.proofs.lemmas.List.Elements.{filter_more}
use Rattle.std.specs.List.{flat_map, list_any}
use Rattle.mdv_plan.specs.Named.{base_below, component_below, row_below, kind_below}
use Rattle.mdv_plan.specs.Parents.{is_component, is_in_row, is_pool, is_volume, names_pool, names_volume}
use Rattle.mdv_plan.specs.declared.volume.Base.{Base}
use Rattle.mdv_plan.specs.declared.volume.Base.TheVariants.{Slice, Volume}
use Rattle.mdv_plan.specs.declared.volume.Component.{Component}
use Rattle.mdv_plan.specs.declared.volume.Row.{Row}
use Rattle.mdv_plan.specs.declared.volume.VolumeKind.{VolumeKind}
use Rattle.mdv_plan.specs.declared.volume.VolumeKind.TheVariants.{Stripe, Mirror, Raid, Soft}
use Rattle.mdv_keys.specs.Below.{OneVolume, PoolId, VolId, unmarked}
use Rattle.mdv_keys.specs.Marks.{AreMarks, AreMarked, below_it, below_unmarked, kind_pool, number_of, pool_key, pool_list, pools_of, pools_unmarked, volume_key}
use Rattle.mdv_keys.proofs.Any.{any_filter, any_flat}
use Rattle.mdv_keys.proofs.Marking.{or_false}

abbrev pub is_among : List VolId → VolId → Bool
is_among vs v = list_any (λ w. w.0 == v.0) vs

base_among : (v : VolId) (b : Base) → is_volume v b ≡ is_among (base_below b) v
base_among v (Slice s) = refl
base_among v (Volume w) = sym (or_false (w.0 == v.0))

component_among : (v : VolId) (c : Component) → is_component v c ≡ is_among (component_below c) v
component_among v c = base_among v c.on

row_among : (v : VolId) (row : Row) → is_in_row v row ≡ is_among (row_below row) v
row_among v row = any_flat component_below (λ w. w.0 == v.0) (is_component v) (component_among v) row.components

pub kind_among : (v : VolId) (kind : VolumeKind) → names_volume v kind ≡ is_among (kind_below kind) v
kind_among v (Stripe s) = any_flat row_below (λ w. w.0 == v.0) (is_in_row v) (row_among v) s.rows
kind_among v (Mirror m) = refl
kind_among v (Raid r) = any_flat component_below (λ w. w.0 == v.0) (is_component v) (component_among v) r.columns
kind_among v (Soft s) = base_among v s.base

pub volumes_among : (v : VolId) (ws : List OneVolume) → list_any (λ (w : OneVolume). names_volume v w.kind) ws ≡ is_among (flat_map below_it ws) v
volumes_among v ws = any_flat below_it (λ w. w.0 == v.0) (λ (w : OneVolume). names_volume v w.kind) (λ w. kind_among v w.kind) ws

spares_among : (q : PoolId) (o : Option PoolId) → is_pool q o ≡ list_any (λ (r : PoolId). r.0 == q.0) (pool_list o)
spares_among q None = refl
spares_among q (Some r) = sym (or_false (r.0 == q.0))

pool_among : (q : PoolId) (kind : VolumeKind) → names_pool q kind ≡ list_any (λ (r : PoolId). r.0 == q.0) (pool_list (kind_pool kind))
pool_among q (Stripe s) = spares_among q s.spares
pool_among q (Mirror m) = refl
pool_among q (Raid r) = spares_among q r.spares
pool_among q (Soft s) = refl

-- what has a mark is named by a volume that isn't marked
used_by : {T : Type 0} (key : T → ℕ) (limit : ℕ) (below : OneVolume → List T) (names : OneVolume → Bool) (k : ℕ) (used marked : List Bool) (ws : List OneVolume) → ((w : OneVolume) → names w ≡ list_any (λ x. key x == k) (below w)) → AreMarks key limit used (flat_map below (unmarked number_of marked ws)) → k < limit → get_or used k false ≡ list_any (λ (w : OneVolume). not (get_or marked w.number.0 false) && names w) ws
used_by key limit below names k used marked ws each are small =
    are.marked k small
    ∙ sym (any_flat below (λ x. key x == k) names each (unmarked number_of marked ws))
    ∙ any_filter names (λ (w : OneVolume). not (get_or marked w.number.0 false)) ws

pub used_is : (used marked : List Bool) (v : VolId) (ws : List OneVolume) → AreMarked used (below_unmarked marked ws) → v.0 < 8192 → get_or used v.0 false ≡ list_any (λ (w : OneVolume). not (get_or marked w.number.0 false) && names_volume v w.kind) ws
used_is used marked v ws are small = used_by volume_key 8192 below_it (λ (w : OneVolume). names_volume v w.kind) v.0 used marked ws (λ w. kind_among v w.kind) are small

pub pool_used_is : (used marked : List Bool) (q : PoolId) (ws : List OneVolume) → AreMarks pool_key 1000 used (pools_unmarked marked ws) → q.0 < 1000 → get_or used q.0 false ≡ list_any (λ (w : OneVolume). not (get_or marked w.number.0 false) && names_pool q w.kind) ws
pool_used_is used marked q ws are small = used_by pool_key 1000 pools_of (λ (w : OneVolume). names_pool q w.kind) q.0 used marked ws (λ w. pool_among q w.kind) are small

-- what one more volume names
pub below_more : (ws : List OneVolume) (i : ℕ) (d : OneVolume) → i < length ws → flat_map below_it (take i ws) ++ below_it (get_or ws i d) ≡ flat_map below_it (take (i + 1) ws)
below_more ws i d lt =
    let w = get_or ws i d in
    ap (λ (l : List VolId). flat_map below_it (take i ws) ++ l) (sym (append-nil (below_it w))) ∙ sym (flat_map-append below_it (take i ws) (w ∷ [])) ∙ ap (flat_map below_it) (sym (take_more ws i d lt))

-- nothing where it is marked
pub unmarked_same : {T : Type 0} (below : OneVolume → List T) (marked : List Bool) (ws : List OneVolume) (i : ℕ) (d : OneVolume) → i < length ws → get_or marked (get_or ws i d).number.0 false ≡ true → flat_map below (unmarked number_of marked (take i ws)) ≡ flat_map below (unmarked number_of marked (take (i + 1) ws))
unmarked_same below marked ws i d lt is =
    let front = unmarked number_of marked (take i ws) in
    let w = get_or ws i d in
    let grown : unmarked number_of marked (take (i + 1) ws) ≡ front ++ [] = filter_more (λ (x : OneVolume). not (get_or marked x.number.0 false)) ws i d lt ∙ ap (λ (b : Bool). front ++ cond (not b) (w ∷ []) []) is in
    ap (flat_map below) (sym (grown ∙ append-nil front))

pub unmarked_more : {T : Type 0} (below : OneVolume → List T) (marked : List Bool) (ws : List OneVolume) (i : ℕ) (d : OneVolume) → i < length ws → get_or marked (get_or ws i d).number.0 false ≡ false → flat_map below (unmarked number_of marked (take i ws)) ++ below (get_or ws i d) ≡ flat_map below (unmarked number_of marked (take (i + 1) ws))
unmarked_more {T = T} below marked ws i d lt is =
    let front = unmarked number_of marked (take i ws) in
    let w = get_or ws i d in
    let grown : unmarked number_of marked (take (i + 1) ws) ≡ front ++ w ∷ [] = filter_more (λ (x : OneVolume). not (get_or marked x.number.0 false)) ws i d lt ∙ ap (λ (b : Bool). front ++ cond (not b) (w ∷ []) []) is in
    ap (λ (l : List T). flat_map below front ++ l) (sym (append-nil (below w))) ∙ sym (flat_map-append below front (w ∷ [])) ∙ ap (flat_map below) (sym grown)
