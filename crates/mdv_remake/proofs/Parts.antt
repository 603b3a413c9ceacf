-- Plans that have some volumes and pools of another one, and all else of it.
use Rattle.std.proofs.Common.{◌≡◌, ◌==◌, ℕ, Bool, true, false, not, Option, None, Some, refl, sym, ◌∙◌, ap, List, [], ◌∷◌, ◌++◌, min}
use Rattle.std.specs.List.{All, filter, flat_map, fold, list_any}
use Rattle.std.specs.Option.{is_some}
use Rattle.std.proofs.lemmas.Bool.{eqb-true, or_parts, or_from}
use Rattle.std.proofs.lemmas.List.Elements.{All-head, All-tail}
use Rattle.std.proofs.lemmas.List.Folds.{list_any-append}
use Rattle.mdv_plan.specs.Parents.{has_parent, is_taken, names_volume, takes_volume}
use Rattle.mdv_plan.specs.Uses.{list_uses, pool_uses, uses_of, volume_uses}
use Rattle.mdv_plan.specs.declared.uses.SliceUse.{SliceUse}
use Rattle.mdv_components.specs.Bases.{is_leaf_volume, is_missing, is_no_leaf, no_pool, pool_of, volume_of}
use Rattle.mdv_components.specs.Room.{least_room, room_of, volume_blocks}
use Rattle.mdv_remake.specs.Below.{Base, Slice, Volume, Geometry, OnePool, OneVolume, Plan, PoolId, VolId}
use Rattle.mdv_remake.proofs.Kept.{find_kept, find_gone, none_kept, none_flat}

-- the volumes and the pools of these numbers
abbrev pub part : (ℕ → Bool) → (ℕ → Bool) → Plan → Plan
part vs qs p = record p { volumes = filter (λ w. vs w.number.0) p.volumes; pools = filter (λ q. qs q.number.0) p.pools }

abbrev pub BaseIn : (ℕ → Bool) → Base → Type 0
BaseIn vs (Slice s) = Unit {0}
BaseIn vs (Volume v) = vs v.0 ≡ true

abbrev pub PoolIn : (ℕ → Bool) → Option PoolId → Type 0
PoolIn qs None = Unit {0}
PoolIn qs (Some q) = qs q.0 ≡ true

at_key : (n k : ℕ) (b : Bool) (vs : ℕ → Bool) → vs k ≡ b → (n == k) ≡ true → vs n ≡ b
at_key n k b vs is same = ap vs (eqb-true n k same) ∙ is

-- what is kept is found, and what isn't is not
pub volume_kept : (vs qs : ℕ → Bool) (p : Plan) (v : VolId) → vs v.0 ≡ true → volume_of (part vs qs p) v ≡ volume_of p v
volume_kept vs qs p v is = find_kept (λ (w : OneVolume). w.number.0 == v.0) (λ (w : OneVolume). vs w.number.0) (λ w same. at_key w.number.0 v.0 true vs is same) p.volumes

pub volume_gone : (vs qs : ℕ → Bool) (p : Plan) (v : VolId) → vs v.0 ≡ false → volume_of (part vs qs p) v ≡ None
volume_gone vs qs p v is = find_gone (λ (w : OneVolume). w.number.0 == v.0) (λ (w : OneVolume). vs w.number.0) (λ w same. at_key w.number.0 v.0 false vs is same) p.volumes

pub pool_kept : (vs qs : ℕ → Bool) (p : Plan) (q : PoolId) → qs q.0 ≡ true → pool_of (part vs qs p) q ≡ pool_of p q
pool_kept vs qs p q is = find_kept (λ (r : OnePool). r.number.0 == q.0) (λ (r : OnePool). qs r.number.0) (λ r same. at_key r.number.0 q.0 true qs is same) p.pools

pub pool_gone : (vs qs : ℕ → Bool) (p : Plan) (q : PoolId) → qs q.0 ≡ false → pool_of (part vs qs p) q ≡ None
pool_gone vs qs p q is = find_gone (λ (r : OnePool). r.number.0 == q.0) (λ (r : OnePool). qs r.number.0) (λ r same. at_key r.number.0 q.0 false qs is same) p.pools

pub room_kept : (vs qs : ℕ → Bool) (p : Plan) (g : Geometry) (b : Base) → BaseIn vs b → room_of g (part vs qs p) b ≡ room_of g p b
room_kept vs qs p g (Slice s) is = refl
room_kept vs qs p g (Volume v) is = ap volume_blocks (volume_kept vs qs p v is)

pub fold_same : {A : Type 0} (f h : A → ℕ) (xs : List A) → All (λ x. f x ≡ h x) xs → (a : ℕ) → fold (λ n x. min n (f x)) a xs ≡ fold (λ n x. min n (h x)) a xs
fold_same f h [] same a = refl
fold_same f h (x ∷ xs) same a =
    let first : min a (f x) ≡ min a (h x) = ap (min a) (All-head (λ y. f y ≡ h y) x xs same) in
    ap (λ (n : ℕ). fold (λ m y. min m (f y)) n xs) first ∙ fold_same f h xs (All-tail (λ y. f y ≡ h y) x xs same) (min a (h x))

pub least_kept : (vs qs : ℕ → Bool) (p : Plan) (g : Geometry) (bs : List Base) → All (BaseIn vs) bs → least_room g (part vs qs p) bs ≡ least_room g p bs
least_kept vs qs p g bs all = fold_same (room_of g (part vs qs p)) (room_of g p) bs (λ i d lt. room_kept vs qs p g _ (all i d lt)) _

-- Below: two parts of one plan, of which the one has all that the other has.
module _ (vs ws qs rs : ℕ → Bool) (more : (n : ℕ) → vs n ≡ true → ws n ≡ true) (more_pools : (n : ℕ) → qs n ≡ true → rs n ≡ true) (p : Plan) where
  base_in : (b : Base) → BaseIn vs b → BaseIn ws b
  base_in (Slice s) is = tt
  base_in (Volume v) is = more v.0 is

  pub volume_same : (v : VolId) → vs v.0 ≡ true → volume_of (part ws rs p) v ≡ volume_of (part vs qs p) v
  volume_same v is = volume_kept ws rs p v (more v.0 is) ∙ sym (volume_kept vs qs p v is)

  pub missing_same : (b : Base) → BaseIn vs b → is_missing (part ws rs p) b ≡ is_missing (part vs qs p) b
  missing_same (Slice s) is = refl
  missing_same (Volume v) is = ap (λ (o : Option OneVolume). not (is_some o)) (volume_same v is)

  pub leaf_same : (b : Base) → BaseIn vs b → is_no_leaf (part ws rs p) b ≡ is_no_leaf (part vs qs p) b
  leaf_same (Slice s) is = refl
  leaf_same (Volume v) is = ap (λ (o : Option OneVolume). not (is_leaf_volume o)) (volume_same v is)

  pub pool_same : (pool : Option PoolId) → PoolIn qs pool → no_pool (part ws rs p) pool ≡ no_pool (part vs qs p) pool
  pool_same None is = refl
  pool_same (Some q) is = ap (λ (o : Option OnePool). not (is_some o)) (pool_kept ws rs p q (more_pools q.0 is) ∙ sym (pool_kept vs qs p q is))

  pub least_same : (g : Geometry) (bs : List Base) → All (BaseIn vs) bs → least_room g (part ws rs p) bs ≡ least_room g (part vs qs p) bs
  least_same g bs all = least_kept ws rs p g bs (λ i d lt. base_in _ (all i d lt)) ∙ sym (least_kept vs qs p g bs all)

  fewer : (w : OneVolume) → vs w.number.0 ≡ true → ws w.number.0 ≡ true
  fewer w is = more w.number.0 is

  fewer_pools : (q : OnePool) → qs q.number.0 ≡ true → rs q.number.0 ≡ true
  fewer_pools q is = more_pools q.number.0 is

  pub none_used : (f : SliceUse → Bool) → list_any f (uses_of (part ws rs p)) ≡ false → list_any f (uses_of (part vs qs p)) ≡ false
  none_used f none =
      let volumes = λ (l : List OneVolume). flat_map volume_uses l in
      let pools = λ (l : List OnePool). flat_map pool_uses l in
      let old_vs = filter (λ (w : OneVolume). ws w.number.0) p.volumes in
      let old_qs = filter (λ (q : OnePool). rs q.number.0) p.pools in
      let new_vs = filter (λ (w : OneVolume). vs w.number.0) p.volumes in
      let new_qs = filter (λ (q : OnePool). qs q.number.0) p.pools in
      let front = list_uses p.lists in
      let outer = or_parts (list_any f (front ++ volumes old_vs)) (list_any f (pools old_qs)) (sym (list_any-append f (front ++ volumes old_vs) (pools old_qs)) ∙ none) in
      let inner = or_parts (list_any f front) (list_any f (volumes old_vs)) (sym (list_any-append f front (volumes old_vs)) ∙ outer.0) in
      list_any-append f (front ++ volumes new_vs) (pools new_qs)
      ∙ or_from (list_any f (front ++ volumes new_vs)) (list_any f (pools new_qs))
      (list_any-append f front (volumes new_vs) ∙ or_from (list_any f front) (list_any f (volumes new_vs)) inner.0 (none_flat f volume_uses (λ (w : OneVolume). vs w.number.0) (λ (w : OneVolume). ws w.number.0) fewer p.volumes inner.1))
      (none_flat f pool_uses (λ (q : OnePool). qs q.number.0) (λ (q : OnePool). rs q.number.0) fewer_pools p.pools outer.1)

  pub no_parent : (v : VolId) → has_parent (part ws rs p) v ≡ false → has_parent (part vs qs p) v ≡ false
  no_parent v none = none_kept (λ (w : OneVolume). names_volume v w.kind) (λ (w : OneVolume). vs w.number.0) (λ (w : OneVolume). ws w.number.0) fewer p.volumes none

  pub not_taken : (v : VolId) → is_taken (part ws rs p) v ≡ false → is_taken (part vs qs p) v ≡ false
  not_taken v none = none_kept (λ (w : OneVolume). takes_volume v w.kind) (λ (w : OneVolume). vs w.number.0) (λ (w : OneVolume). ws w.number.0) fewer p.volumes none
