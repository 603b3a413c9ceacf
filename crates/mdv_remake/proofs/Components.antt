-- What stands against volumes of components in a plan stands against them in each plan that has more.
use Rattle.std.proofs.Common.{◌≡◌, ◌-◌, ◌/◌, ℕ, Bool, true, false, Option, refl, sym, ◌∙◌, ap, List, [], ◌∷◌, eqb, length}
use Rattle.std.specs.List.{All, list_any}
use Rattle.std.specs.Option.{is_some}
use Rattle.std.proofs.lemmas.Bool.{or_parts, or_from}
use Rattle.std.proofs.lemmas.List.Elements.{All-cons, All-nil, All-weaker}
use Rattle.mdv_components.specs.Bases.{base_condition, has_meeting, has_twice, is_missing, is_no_leaf, is_slice_in_use, is_volume_in_use}
use Rattle.mdv_components.specs.Raids.{raid_condition, raid_interlace, units_of}
use Rattle.mdv_components.specs.Stripes.{all_bases, bases_of, is_too_small, row_interlace, stripe_condition, used_blocks}
use Rattle.mdv_components.specs.declared.cause.Cause.{Cause}
use Rattle.mdv_components.specs.declared.cause.Cause.TheVariants.{NoSuchVolume, NoSuchPool, NoSuchSlice, NameTaken, WrongKind, WrongState, LastCopy, TooFew, TooMany, BadInterlace, SliceInUse, HasParent, Nested, SpareInUse, TooSmall, NoSpace}
use Rattle.mdv_plan.specs.Slices.{clashes, clashes_with, meets_db}
use Rattle.mdv_plan.specs.Uses.{uses_of}
use Rattle.mdv_plan.specs.declared.clash.Asked.TheVariants.{OneComponent}
use Rattle.mdv_remake.specs.Below.{Base, Slice, Volume, DriveNo, Geometry, Plan, PoolId, RaidAsked, RowAsked, VolId}
use Rattle.mdv_remake.proofs.Bases.{all_split}
use Rattle.mdv_remake.proofs.Kept.{any_none, any_same}
use Rattle.mdv_remake.proofs.Parts.{BaseIn, PoolIn, part, volume_gone, missing_same, leaf_same, pool_same, least_same, none_used, no_parent}

-- each row has its bases
pub rows_in : (P : Base → Type 0) (rows : List RowAsked) → All P (all_bases rows) → All (λ (r : RowAsked). All P r.components) rows
rows_in P [] all = All-nil (λ (r : RowAsked). All P r.components)
rows_in P (r ∷ rows) all =
    let parts = all_split P (bases_of r) (all_bases rows) all in
    All-cons (λ (s : RowAsked). All P s.components) r rows parts.0 (rows_in P rows parts.1)

module _ (vs ws qs rs : ℕ → Bool) (more : (n : ℕ) → vs n ≡ true → ws n ≡ true) (more_pools : (n : ℕ) → qs n ≡ true → rs n ≡ true) (p : Plan) (g : Geometry) (drives : List DriveNo) where
  not_in_use : (b : Base) → is_slice_in_use g (uses_of (part ws rs p)) b ≡ false → is_slice_in_use g (uses_of (part vs qs p)) b ≡ false
  not_in_use (Slice s) none =
      let parts = or_parts (clashes g OneComponent s (uses_of (part ws rs p))) (meets_db g s) none in
      or_from (clashes g OneComponent s (uses_of (part vs qs p))) (meets_db g s) (none_used vs ws qs rs more more_pools p (clashes_with g OneComponent s) parts.0) parts.1
  not_in_use (Volume v) none = refl

  not_used : (b : Base) → is_volume_in_use (part ws rs p) b ≡ false → is_volume_in_use (part vs qs p) b ≡ false
  not_used (Slice s) none = refl
  not_used (Volume v) none = no_parent vs ws qs rs more more_pools p v none

  pub bases_free : (v : VolId) (bs : List Base) (pool : Option PoolId) → vs v.0 ≡ false → All (BaseIn vs) bs → PoolIn qs pool →
      ((c : Cause) → base_condition g drives (part ws rs p) v bs pool c ≡ false) → (c : Cause) → base_condition g drives (part vs qs p) v bs pool c ≡ false
  bases_free v bs pool out all in_pool free NoSuchVolume = sym (any_same (is_missing (part ws rs p)) (is_missing (part vs qs p)) bs (λ i d lt. missing_same vs ws qs rs more more_pools p _ (all i d lt))) ∙ free NoSuchVolume
  bases_free v bs pool out all in_pool free NoSuchPool = sym (pool_same vs ws qs rs more more_pools p pool in_pool) ∙ free NoSuchPool
  bases_free v bs pool out all in_pool free NoSuchSlice = free NoSuchSlice
  bases_free v bs pool out all in_pool free NameTaken = ap is_some (volume_gone vs qs p v out)
  bases_free v bs pool out all in_pool free WrongKind = sym (any_same (is_no_leaf (part ws rs p)) (is_no_leaf (part vs qs p)) bs (λ i d lt. leaf_same vs ws qs rs more more_pools p _ (all i d lt))) ∙ free WrongKind
  bases_free v bs pool out all in_pool free WrongState = refl
  bases_free v bs pool out all in_pool free LastCopy = refl
  bases_free v bs pool out all in_pool free TooFew = refl
  bases_free v bs pool out all in_pool free TooMany = refl
  bases_free v bs pool out all in_pool free BadInterlace = refl
  bases_free v bs pool out all in_pool free SliceInUse =
      let parts = or_parts (list_any (is_slice_in_use g (uses_of (part ws rs p))) bs) (has_meeting g bs) (free SliceInUse) in
      or_from (list_any (is_slice_in_use g (uses_of (part vs qs p))) bs) (has_meeting g bs) (any_none (is_slice_in_use g (uses_of (part ws rs p))) (is_slice_in_use g (uses_of (part vs qs p))) not_in_use bs parts.0) parts.1
  bases_free v bs pool out all in_pool free HasParent =
      let parts = or_parts (list_any (is_volume_in_use (part ws rs p)) bs) (has_twice bs) (free HasParent) in
      or_from (list_any (is_volume_in_use (part vs qs p)) bs) (has_twice bs) (any_none (is_volume_in_use (part ws rs p)) (is_volume_in_use (part vs qs p)) not_used bs parts.0) parts.1
  bases_free v bs pool out all in_pool free Nested = refl
  bases_free v bs pool out all in_pool free SpareInUse = refl
  bases_free v bs pool out all in_pool free TooSmall = refl
  bases_free v bs pool out all in_pool free NoSpace = refl

  -- a stripe without what its form and its room give against it
  stripe_bases : (v : VolId) (rows : List RowAsked) (pool : Option PoolId) → ((c : Cause) → stripe_condition g drives (part ws rs p) v rows pool c ≡ false) → (c : Cause) → base_condition g drives (part ws rs p) v (all_bases rows) pool c ≡ false
  stripe_bases v rows pool free NoSuchVolume = free NoSuchVolume
  stripe_bases v rows pool free NoSuchPool = free NoSuchPool
  stripe_bases v rows pool free NoSuchSlice = free NoSuchSlice
  stripe_bases v rows pool free NameTaken = free NameTaken
  stripe_bases v rows pool free WrongKind = free WrongKind
  stripe_bases v rows pool free WrongState = refl
  stripe_bases v rows pool free LastCopy = refl
  stripe_bases v rows pool free TooFew = refl
  stripe_bases v rows pool free TooMany = refl
  stripe_bases v rows pool free BadInterlace = refl
  stripe_bases v rows pool free SliceInUse = free SliceInUse
  stripe_bases v rows pool free HasParent = free HasParent
  stripe_bases v rows pool free Nested = refl
  stripe_bases v rows pool free SpareInUse = refl
  stripe_bases v rows pool free TooSmall = refl
  stripe_bases v rows pool free NoSpace = refl

  small_same : (r : RowAsked) → All (BaseIn vs) r.components → is_too_small g (part ws rs p) r ≡ is_too_small g (part vs qs p) r
  small_same r all = ap (λ (n : ℕ). eqb (used_blocks (length r.components) (row_interlace r) n) 0) (least_same vs ws qs rs more more_pools p g r.components all)

  pub stripe_free : (v : VolId) (rows : List RowAsked) (pool : Option PoolId) → vs v.0 ≡ false → All (BaseIn vs) (all_bases rows) → PoolIn qs pool →
      ((c : Cause) → stripe_condition g drives (part ws rs p) v rows pool c ≡ false) → (c : Cause) → stripe_condition g drives (part vs qs p) v rows pool c ≡ false
  stripe_free v rows pool out all in_pool free NoSuchVolume = bases_free v (all_bases rows) pool out all in_pool (stripe_bases v rows pool free) NoSuchVolume
  stripe_free v rows pool out all in_pool free NoSuchPool = bases_free v (all_bases rows) pool out all in_pool (stripe_bases v rows pool free) NoSuchPool
  stripe_free v rows pool out all in_pool free NoSuchSlice = free NoSuchSlice
  stripe_free v rows pool out all in_pool free NameTaken = bases_free v (all_bases rows) pool out all in_pool (stripe_bases v rows pool free) NameTaken
  stripe_free v rows pool out all in_pool free WrongKind = bases_free v (all_bases rows) pool out all in_pool (stripe_bases v rows pool free) WrongKind
  stripe_free v rows pool out all in_pool free WrongState = refl
  stripe_free v rows pool out all in_pool free LastCopy = refl
  stripe_free v rows pool out all in_pool free TooFew = free TooFew
  stripe_free v rows pool out all in_pool free TooMany = free TooMany
  stripe_free v rows pool out all in_pool free BadInterlace = free BadInterlace
  stripe_free v rows pool out all in_pool free SliceInUse = bases_free v (all_bases rows) pool out all in_pool (stripe_bases v rows pool free) SliceInUse
  stripe_free v rows pool out all in_pool free HasParent = bases_free v (all_bases rows) pool out all in_pool (stripe_bases v rows pool free) HasParent
  stripe_free v rows pool out all in_pool free Nested = refl
  stripe_free v rows pool out all in_pool free SpareInUse = refl
  stripe_free v rows pool out all in_pool free TooSmall = sym (any_same (is_too_small g (part ws rs p)) (is_too_small g (part vs qs p)) rows (All-weaker (λ (r : RowAsked). All (BaseIn vs) r.components) (λ (r : RowAsked). is_too_small g (part ws rs p) r ≡ is_too_small g (part vs qs p) r) small_same rows (rows_in (BaseIn vs) rows all))) ∙ free TooSmall
  stripe_free v rows pool out all in_pool free NoSpace = refl

  raid_bases : (v : VolId) (r : RaidAsked) → ((c : Cause) → raid_condition g drives (part ws rs p) v r c ≡ false) → (c : Cause) → base_condition g drives (part ws rs p) v r.columns r.spares c ≡ false
  raid_bases v r free NoSuchVolume = free NoSuchVolume
  raid_bases v r free NoSuchPool = free NoSuchPool
  raid_bases v r free NoSuchSlice = free NoSuchSlice
  raid_bases v r free NameTaken = free NameTaken
  raid_bases v r free WrongKind = free WrongKind
  raid_bases v r free WrongState = refl
  raid_bases v r free LastCopy = refl
  raid_bases v r free TooFew = refl
  raid_bases v r free TooMany = refl
  raid_bases v r free BadInterlace = refl
  raid_bases v r free SliceInUse = free SliceInUse
  raid_bases v r free HasParent = free HasParent
  raid_bases v r free Nested = refl
  raid_bases v r free SpareInUse = refl
  raid_bases v r free TooSmall = refl
  raid_bases v r free NoSpace = refl

  pub units_same : (r : RaidAsked) → All (BaseIn vs) r.columns → units_of g (part ws rs p) r ≡ units_of g (part vs qs p) r
  units_same r all = ap (λ (n : ℕ). (n - 136) / raid_interlace r) (least_same vs ws qs rs more more_pools p g r.columns all)

  pub raid_free : (v : VolId) (r : RaidAsked) → vs v.0 ≡ false → All (BaseIn vs) r.columns → PoolIn qs r.spares →
      ((c : Cause) → raid_condition g drives (part ws rs p) v r c ≡ false) → (c : Cause) → raid_condition g drives (part vs qs p) v r c ≡ false
  raid_free v r out all in_pool free NoSuchVolume = bases_free v r.columns r.spares out all in_pool (raid_bases v r free) NoSuchVolume
  raid_free v r out all in_pool free NoSuchPool = bases_free v r.columns r.spares out all in_pool (raid_bases v r free) NoSuchPool
  raid_free v r out all in_pool free NoSuchSlice = free NoSuchSlice
  raid_free v r out all in_pool free NameTaken = bases_free v r.columns r.spares out all in_pool (raid_bases v r free) NameTaken
  raid_free v r out all in_pool free WrongKind = bases_free v r.columns r.spares out all in_pool (raid_bases v r free) WrongKind
  raid_free v r out all in_pool free WrongState = refl
  raid_free v r out all in_pool free LastCopy = refl
  raid_free v r out all in_pool free TooFew = free TooFew
  raid_free v r out all in_pool free TooMany = free TooMany
  raid_free v r out all in_pool free BadInterlace = free BadInterlace
  raid_free v r out all in_pool free SliceInUse = bases_free v r.columns r.spares out all in_pool (raid_bases v r free) SliceInUse
  raid_free v r out all in_pool free HasParent = bases_free v r.columns r.spares out all in_pool (raid_bases v r free) HasParent
  raid_free v r out all in_pool free Nested = refl
  raid_free v r out all in_pool free SpareInUse = refl
  raid_free v r out all in_pool free TooSmall = ap (λ (n : ℕ). eqb n 0) (sym (units_same r all)) ∙ free TooSmall
  raid_free v r out all in_pool free NoSpace = refl
