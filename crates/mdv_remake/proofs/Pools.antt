-- What stands against a pool in a plan stands against it in each plan that has more.
use Rattle.std.proofs.Common.{◌≡◌, ◌+◌, ◌++◌, ℕ, Bool, true, false, eqb, ltb, Option, refl, sym, ◌∙◌, ap, List, [], ◌∷◌, length, map, inl, inr}
use Rattle.std.specs.List.{All, filter, find, list_any}
use Rattle.std.specs.Option.{is_some, option_or}
use Rattle.std.proofs.lemmas.Bool.{cases_Bool, or_parts, or_from}
use Rattle.std.proofs.lemmas.List.Elements.{All-filter, All-head, All-tail}
use Rattle.mdv_components.specs.Bases.{has_meeting}
use Rattle.mdv_components.specs.declared.cause.Cause.{Cause}
use Rattle.mdv_components.specs.declared.cause.Cause.TheVariants.{NoSuchVolume, NoSuchPool, NoSuchSlice, NameTaken, WrongKind, WrongState, LastCopy, TooFew, TooMany, BadInterlace, SliceInUse, HasParent, Nested, SpareInUse, TooSmall, NoSpace}
use Rattle.mdv_name.proofs.Finding.{same_slice-equal}
use Rattle.mdv_plan.specs.Slices.{clashes, clashes_with, meets_db}
use Rattle.mdv_plan.specs.Uses.{same_slice, uses_of}
use Rattle.mdv_plan.specs.declared.clash.Asked.TheVariants.{OneSpare}
use Rattle.mdv_print.specs.Entries.{spare_slice}
use Rattle.mdv_spares.specs.Pools.{is_barred, is_spare, is_taken, is_too_small, new_spare, pool_with, slice_base, spare_in, spare_on, spare_or, spares_at, spares_condition, spares_of}
use Rattle.mdv_remake.specs.Below.{DriveNo, Geometry, OnePool, Plan, PoolId, SliceName, Spare}
use Rattle.mdv_remake.specs.Now.{IsPoolNow, IsSpareNow}
use Rattle.mdv_remake.proofs.Kept.{any_none, any_same, find-behind, find-first}
use Rattle.mdv_remake.proofs.Parts.{part, pool_gone, none_used}

-- a spare that is found on a slice is as one would be now
spare_found : (g : Geometry) (p : Plan) (s : SliceName) (spares : List Spare) (rest : Option Spare) → All (IsSpareNow g p) spares → spare_or rest (new_spare g p s) ≡ new_spare g p s →
    spare_or (option_or (find (is_spare s) spares) rest) (new_spare g p s) ≡ new_spare g p s
spare_found g p s [] rest all is = is
spare_found g p s (t ∷ spares) rest all is = elim (cases_Bool (same_slice t.slice s)) [
  | inl here ↦
      ap (λ (o : Option Spare). spare_or (option_or o rest) (new_spare g p s)) (find-first (is_spare s) t spares here)
      ∙ sym (All-head (IsSpareNow g p) t spares all) ∙ ap (new_spare g p) (same_slice-equal t.slice s here)
  | inr away ↦
      ap (λ (o : Option Spare). spare_or (option_or o rest) (new_spare g p s)) (find-behind (is_spare s) t spares away)
      ∙ spare_found g p s spares rest (All-tail (IsSpareNow g p) t spares all) is
]

spare_now : (g : Geometry) (p : Plan) (s : SliceName) (pools : List OnePool) → All (IsPoolNow g p) pools → spare_or (spare_in pools s) (new_spare g p s) ≡ new_spare g p s
spare_now g p s [] all = refl
spare_now g p s (q ∷ pools) all = spare_found g p s q.spares (spare_in pools s) (All-head (IsPoolNow g p) q pools all) (spare_now g p s pools (All-tail (IsPoolNow g p) q pools all))

-- in a part of the plan too
pub spare_kept : (vs qs : ℕ → Bool) (p : Plan) (g : Geometry) (s : SliceName) → All (IsPoolNow g p) p.pools → spare_on g (part vs qs p) s ≡ new_spare g p s
spare_kept vs qs p g s all = spare_now g p s (filter (λ (q : OnePool). qs q.number.0) p.pools) (All-filter (λ (q : OnePool). qs q.number.0) (IsPoolNow g p) p.pools all)

no_spares : (vs qs : ℕ → Bool) (p : Plan) (q : PoolId) → qs q.0 ≡ false → spares_of (part vs qs p) q ≡ []
no_spares vs qs p q out = ap spares_at (pool_gone vs qs p q out)

map_spares : (f : SliceName → Spare) (spares : List Spare) → All (λ (s : Spare). f s.slice ≡ s) spares → map f (map spare_slice spares) ≡ spares
map_spares f [] all = refl
map_spares f (s ∷ spares) all = λ i. All-head (λ (t : Spare). f t.slice ≡ t) s spares all i ∷ map_spares f spares (All-tail (λ (t : Spare). f t.slice ≡ t) s spares all) i

-- the pool is made as it is
pub pool_made : (vs qs : ℕ → Bool) (p : Plan) (g : Geometry) (q : OnePool) → qs q.number.0 ≡ false → All (IsPoolNow g p) p.pools → IsPoolNow g p q → pool_with g (part vs qs p) q.number (map spare_slice q.spares) ≡ q
pool_made vs qs p g q out all now =
    let each : All (λ (s : Spare). spare_on g (part vs qs p) s.slice ≡ s) q.spares = λ i d lt. spare_kept vs qs p g _ all ∙ now i d lt in
    let had : spares_of (part vs qs p) q.number ++ map (spare_on g (part vs qs p)) (map spare_slice q.spares) ≡ q.spares =
    ap (λ (l : List Spare). l ++ map (spare_on g (part vs qs p)) (map spare_slice q.spares)) (no_spares vs qs p q.number out) ∙ map_spares (spare_on g (part vs qs p)) q.spares each
    in
    λ i. record { number = q.number; spares = had i }

module _ (vs ws qs rs : ℕ → Bool) (more : (n : ℕ) → vs n ≡ true → ws n ≡ true) (more_pools : (n : ℕ) → qs n ≡ true → rs n ≡ true) (p : Plan) (g : Geometry) (drives : List DriveNo)
    (q : PoolId) (out : qs q.0 ≡ false) (out_too : rs q.0 ≡ false) (now : All (IsPoolNow g p) p.pools) where
  same_had : spares_of (part ws rs p) q ≡ spares_of (part vs qs p) q
  same_had = no_spares ws rs p q out_too ∙ sym (no_spares vs qs p q out)

  not_barred : (s : SliceName) → is_taken g (uses_of (part ws rs p)) (spares_of (part ws rs p) q) s ≡ false → is_taken g (uses_of (part vs qs p)) (spares_of (part vs qs p) q) s ≡ false
  not_barred s none =
      let parts = or_parts (list_any (is_spare s) (spares_of (part ws rs p) q)) (is_barred g (uses_of (part ws rs p)) s) none in
      let inner = or_parts (clashes g OneSpare s (uses_of (part ws rs p))) (meets_db g s) parts.1 in
      or_from (list_any (is_spare s) (spares_of (part vs qs p) q)) (is_barred g (uses_of (part vs qs p)) s)
      (ap (list_any (is_spare s)) (sym same_had) ∙ parts.0)
      (or_from (clashes g OneSpare s (uses_of (part vs qs p))) (meets_db g s) (none_used vs ws qs rs more more_pools p (clashes_with g OneSpare s) inner.0) inner.1)

  small_same : (s : SliceName) → is_too_small g (part ws rs p) s ≡ is_too_small g (part vs qs p) s
  small_same s = ap (λ (t : Spare). eqb t.blocks 0) (spare_kept ws rs p g s now ∙ sym (spare_kept vs qs p g s now))

  pub pool_free : (slices : List SliceName) → ((c : Cause) → spares_condition g drives (part ws rs p) true q slices c ≡ false) → (c : Cause) → spares_condition g drives (part vs qs p) true q slices c ≡ false
  pool_free slices free NoSuchVolume = refl
  pool_free slices free NoSuchPool = refl
  pool_free slices free NoSuchSlice = free NoSuchSlice
  pool_free slices free NameTaken = ap is_some (pool_gone vs qs p q out)
  pool_free slices free WrongKind = refl
  pool_free slices free WrongState = refl
  pool_free slices free LastCopy = refl
  pool_free slices free TooFew = refl
  pool_free slices free TooMany = ap (λ (had : List Spare). ltb 100 (length had + length slices)) (sym same_had) ∙ free TooMany
  pool_free slices free BadInterlace = refl
  pool_free slices free SliceInUse =
      let parts = or_parts (list_any (is_taken g (uses_of (part ws rs p)) (spares_of (part ws rs p) q)) slices) (has_meeting g (map slice_base slices)) (free SliceInUse) in
      or_from (list_any (is_taken g (uses_of (part vs qs p)) (spares_of (part vs qs p) q)) slices) (has_meeting g (map slice_base slices))
      (any_none (is_taken g (uses_of (part ws rs p)) (spares_of (part ws rs p) q)) (is_taken g (uses_of (part vs qs p)) (spares_of (part vs qs p) q)) not_barred slices parts.0) parts.1
  pool_free slices free HasParent = refl
  pool_free slices free Nested = refl
  pool_free slices free SpareInUse = refl
  pool_free slices free TooSmall = sym (any_same (is_too_small g (part ws rs p)) (is_too_small g (part vs qs p)) slices (λ i d lt. small_same _)) ∙ free TooSmall
  pool_free slices free NoSpace = refl
