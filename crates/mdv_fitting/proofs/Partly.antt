-- The uses of slices by others than replicas.
use Rattle.std.proofs.Common.{◌≡◌, ◌&&◌, ℕ, Bool, true, false, List, [], ◌∷◌, get_or, map, refl, ◌∙◌, ap}
use Rattle.std.proofs.lemmas.List.Folds.{list_all-append}
use Rattle.std.proofs.lemmas.List.Sums.{AllPass-from_list_all}
use Rattle.std.specs.List.{All, flat_map, list_all}
use Rattle.mdv_plan.specs.Uses.{component_uses, extent_uses, first_blocks, kind_uses, row_uses, spare_use, uses_on}
use Rattle.mdv_plan.specs.declared.pool.Spare.{Spare as OneSpareOf}
use Rattle.mdv_plan.specs.declared.volume.Component.{Component as Part}
use Rattle.mdv_base.specs.declared.name.PoolId.{PoolId}
use Rattle.mdv_base.specs.declared.name.VolId.{VolId}
use Rattle.mdv_fitting.specs.Below.{Base, Slice, Volume, Plan, Run, SliceUse, User, Replica, Component, Extent, VolumeKind, Stripe, Mirror, Raid, Soft, pool_uses, volume_uses}
use Rattle.mdv_fitting.specs.Beside.{IsPart}
use Rattle.mdv_fitting.specs.Parts.{parts_of}

abbrev is_user : User → Bool
is_user Replica = false
is_user _ = true

abbrev is_part : SliceUse → Bool
is_part u = is_user u.by

both : (a b : Bool) → a ≡ true → b ≡ true → (a && b) ≡ true
both a b one two = cc

flat_parts : {T : Type 0} (f : T → List SliceUse) (xs : List T) → ((x : T) → list_all is_part (f x) ≡ true) → list_all is_part (flat_map f xs) ≡ true
flat_parts f [] each = refl
flat_parts f (x ∷ xs) each = list_all-append is_part (f x) (flat_map f xs) ∙ both (list_all is_part (f x)) (list_all is_part (flat_map f xs)) (each x) (flat_parts f xs each)

on_parts : (b : Base) (start : ℕ) (run : Run) (by : User) → is_user by ≡ true → list_all is_part (uses_on b start run by) ≡ true
on_parts (Slice s) start run by is = both (is_user by) true is refl
on_parts (Volume v) start run by is = refl

component_parts : (v : VolId) (c : Part) → list_all is_part (component_uses v c) ≡ true
component_parts v c = on_parts c.on c.start (first_blocks c.blocks) (Component v) refl

kind_parts : (v : VolId) (kind : VolumeKind) → list_all is_part (kind_uses v kind) ≡ true
kind_parts v (Stripe s) = flat_parts (row_uses v) s.rows (λ r. flat_parts (component_uses v) r.components (component_parts v))
kind_parts v (Mirror m) = refl
kind_parts v (Raid r) = flat_parts (component_uses v) r.columns (component_parts v)
kind_parts v (Soft s) = flat_parts (extent_uses v s.base s.start) s.extents (λ run. on_parts s.base s.start run (Extent v) refl)

spare_parts : (q : PoolId) (ss : List OneSpareOf) → list_all is_part (map (spare_use q) ss) ≡ true
spare_parts q [] = refl
spare_parts q (s ∷ ss) = both true (list_all is_part (map (spare_use q) ss)) refl (spare_parts q ss)

pub are_parts : (p : Plan) → All IsPart (parts_of p)
are_parts p k d within by = never (is_part (get_or (parts_of p) k d)) (AllPass-from_list_all is_part (parts_of p) all k d within) (ap is_user by)
  where
    all : list_all is_part (parts_of p) ≡ true
    all =
        list_all-append is_part (flat_map volume_uses p.volumes) (flat_map pool_uses p.pools)
        ∙ both (list_all is_part (flat_map volume_uses p.volumes)) (list_all is_part (flat_map pool_uses p.pools)) (flat_parts volume_uses p.volumes (λ w. kind_parts w.number w.kind)) (flat_parts pool_uses p.pools (λ q. spare_parts q.number q.spares))

    never : (b : Bool) → b ≡ true → b ≡ false → ⊥
    never b is not = cc
