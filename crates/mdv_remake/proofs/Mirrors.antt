-- What stands against a mirror in a plan stands against it in each plan that has more.
use Rattle.std.proofs.Common.{◌≡◌, ℕ, Bool, true, false, not, eqb, Option, refl, sym, ◌∙◌, ap, List}
use Rattle.std.specs.List.{All, list_any}
use Rattle.std.specs.Option.{is_some}
use Rattle.std.proofs.lemmas.Bool.{or_parts, or_from}
use Rattle.mdv_components.specs.declared.cause.Cause.{Cause}
use Rattle.mdv_components.specs.declared.cause.Cause.TheVariants.{NoSuchVolume, NoSuchPool, NoSuchSlice, NameTaken, WrongKind, WrongState, LastCopy, TooFew, TooMany, BadInterlace, SliceInUse, HasParent, Nested, SpareInUse, TooSmall, NoSpace}
use Rattle.mdv_plan.specs.Parents.{has_parent}
use Rattle.mdv_submirrors.specs.Mirrors.{has_twice, mirror_blocks, mirror_condition}
use Rattle.mdv_submirrors.specs.Sizes.{blocks_of, is_no_stripe, is_no_volume, is_stripe_volume, volume_blocks}
use Rattle.mdv_remake.specs.Below.{OneVolume, Plan, VolId}
use Rattle.mdv_remake.proofs.Kept.{any_none, any_same}
use Rattle.mdv_remake.proofs.Parts.{fold_same, part, volume_gone, volume_kept, volume_same, no_parent}

abbrev pub VolumeIn : (ℕ → Bool) → VolId → Type 0
VolumeIn vs v = vs v.0 ≡ true

pub blocks_kept : (vs qs : ℕ → Bool) (p : Plan) (subs : List VolId) → All (VolumeIn vs) subs → mirror_blocks (part vs qs p) subs ≡ mirror_blocks p subs
blocks_kept vs qs p subs all = fold_same (blocks_of (part vs qs p)) (blocks_of p) subs (λ i d lt. ap volume_blocks (volume_kept vs qs p _ (all i d lt))) _

module _ (vs ws qs rs : ℕ → Bool) (more : (n : ℕ) → vs n ≡ true → ws n ≡ true) (more_pools : (n : ℕ) → qs n ≡ true → rs n ≡ true) (p : Plan) where
  no_volume_same : (v : VolId) → VolumeIn vs v → is_no_volume (part ws rs p) v ≡ is_no_volume (part vs qs p) v
  no_volume_same v is = ap (λ (o : Option OneVolume). not (is_some o)) (volume_same vs ws qs rs more more_pools p v is)

  no_stripe_same : (v : VolId) → VolumeIn vs v → is_no_stripe (part ws rs p) v ≡ is_no_stripe (part vs qs p) v
  no_stripe_same v is = ap (λ (o : Option OneVolume). not (is_stripe_volume o)) (volume_same vs ws qs rs more more_pools p v is)

  more_in : (subs : List VolId) → All (VolumeIn vs) subs → All (VolumeIn ws) subs
  more_in subs all = λ i d lt. more _ (all i d lt)

  pub mirror_free : (v : VolId) (subs : List VolId) → vs v.0 ≡ false → All (VolumeIn vs) subs → ((c : Cause) → mirror_condition (part ws rs p) v subs c ≡ false) → (c : Cause) → mirror_condition (part vs qs p) v subs c ≡ false
  mirror_free v subs out all free NoSuchVolume = sym (any_same (is_no_volume (part ws rs p)) (is_no_volume (part vs qs p)) subs (λ i d lt. no_volume_same _ (all i d lt))) ∙ free NoSuchVolume
  mirror_free v subs out all free NoSuchPool = refl
  mirror_free v subs out all free NoSuchSlice = refl
  mirror_free v subs out all free NameTaken = ap is_some (volume_gone vs qs p v out)
  mirror_free v subs out all free WrongKind = sym (any_same (is_no_stripe (part ws rs p)) (is_no_stripe (part vs qs p)) subs (λ i d lt. no_stripe_same _ (all i d lt))) ∙ free WrongKind
  mirror_free v subs out all free WrongState = refl
  mirror_free v subs out all free LastCopy = refl
  mirror_free v subs out all free TooFew = free TooFew
  mirror_free v subs out all free TooMany = free TooMany
  mirror_free v subs out all free BadInterlace = refl
  mirror_free v subs out all free SliceInUse = refl
  mirror_free v subs out all free HasParent =
      let parts = or_parts (list_any (has_parent (part ws rs p)) subs) (has_twice subs) (free HasParent) in
      or_from (list_any (has_parent (part vs qs p)) subs) (has_twice subs) (any_none (has_parent (part ws rs p)) (has_parent (part vs qs p)) (no_parent vs ws qs rs more more_pools p) subs parts.0) parts.1
  mirror_free v subs out all free Nested = refl
  mirror_free v subs out all free SpareInUse = refl
  mirror_free v subs out all free TooSmall = ap (λ (n : ℕ). eqb n 0) (blocks_kept vs qs p subs all ∙ sym (blocks_kept ws rs p subs (more_in subs all))) ∙ free TooSmall
  mirror_free v subs out all free NoSpace = refl
