-- Volumes that are cleared leave a table of the geometry.
use Rattle.std.proofs.Common.{◌≡◌, ℕ, ◌<◌, ◌==◌, ◌++◌, Bool, true, false, cond, not, inl, inr, List, [], ◌∷◌, filter, flat_map, get_or, map, Contains, refl, ◌∙◌, ap, arith}
use Rattle.std.specs.Prelude.{All, AllPairs}
use Rattle.std.specs.List.{list_any}
use Rattle.std.proofs.lemmas.List.Elements.{All-contains, All-filter, All-nil, Contains-append_cases, Contains-append_left, Contains-append_right, Contains-get_or}
use Rattle.std.proofs.lemmas.List.Kept.{AllPairs-filter}
use Rattle.mdv_base.specs.declared.name.PoolId.{PoolId}
use Rattle.mdv_base.specs.declared.name.VolId.{VolId}
use Rattle.mdv_change.specs.Below.{kept, pool_key, volume_key as id_key}
use Rattle.mdv_change.specs.Clear.{cleared, emptied, given_back, lost_spares, spare_key, used_spares}
use Rattle.mdv_config.specs.Lists.{volume_slices}
use Rattle.mdv_config.specs.Table.{IsKindOf, quiet_volume, volume_key}
use Rattle.mdv_plan.proofs.Pairs.{AllPairs-cons, AllPairs-first, AllPairs-rest}
use Rattle.mdv_plan.specs.declared.pool.Pool.{Pool}
use Rattle.mdv_plan.specs.declared.status.SpareStatus.{SpareStatus}
use Rattle.mdv_plan.specs.declared.status.VolumeStatus.{VolumeStatus}
use Rattle.mdv_plan.specs.declared.volume.Volume.{Volume as OneVolume}
use Rattle.mdv_keeping.specs.Below.{Geometry, IsOfGeometry, IsSound, SliceName, Table}
use Rattle.mdv_keeping.proofs.Apart.{Never, replicas_clear}

module _ {X A : Type 0} (f : X → List A) (p : X → Bool) where
  -- what those that stay give is part of what all give
  stay_part : (xs : List X) (a : A) → Contains (flat_map f (filter p xs)) a → Contains (flat_map f xs) a
  stay_part [] a has = has
  stay_part (x ∷ xs) a has = by (stay_part xs a) (p x) has where
    by : (Contains (flat_map f (filter p xs)) a → Contains (flat_map f xs) a) → (stays : Bool) → Contains (flat_map f (cond stays (x ∷ filter p xs) (filter p xs))) a → Contains (f x ++ flat_map f xs) a
    by later true it = elim (Contains-append_cases (f x) (flat_map f (filter p xs)) a it) [
      | inl here ↦ Contains-append_left (f x) (flat_map f xs) a here
      | inr behind ↦ Contains-append_right (f x) (flat_map f xs) a (later behind)
    ]
    by later false it = Contains-append_right (f x) (flat_map f xs) a (later it)

module _ {A : Type 0} (R : A → A → Type 0) where
  pairs_behind : (xs ys : List A) → AllPairs R (xs ++ ys) → AllPairs R ys
  pairs_behind [] ys pairs = pairs
  pairs_behind (x ∷ xs) ys pairs = pairs_behind xs ys (AllPairs-rest R x (xs ++ ys) pairs)

  -- part of what is behind the first ones, in its place
  pairs_less : (xs ys zs : List A) → AllPairs R (xs ++ ys) → AllPairs R zs → ((a : A) → Contains zs a → Contains ys a) → AllPairs R (xs ++ zs)
  pairs_less [] ys zs pairs less part = less
  pairs_less (x ∷ xs) ys zs pairs less part =
      let first = AllPairs-first R x (xs ++ ys) pairs in
      let each : (a : A) → Contains (xs ++ zs) a → R x a = λ a has. elim (Contains-append_cases xs zs a has) [
        | inl here ↦ All-contains (R x) (xs ++ ys) a first (Contains-append_left xs ys a here)
        | inr behind ↦ All-contains (R x) (xs ++ ys) a first (Contains-append_right xs ys a (part a behind))
      ] in
      let all = xs ++ zs in
      AllPairs-cons R x all (λ k d within. each (get_or all k d) (Contains-get_or all k d within)) (pairs_less xs ys zs (AllPairs-rest R x (xs ++ ys) pairs) less part)

  -- two of what those give that stay
  pub pairs_stay : {X : Type 0} (f : X → List A) (p : X → Bool) (xs : List X) → AllPairs R (flat_map f xs) → AllPairs R (flat_map f (filter p xs))
  pairs_stay f p [] pairs = pairs
  pairs_stay f p (x ∷ xs) pairs = by (pairs_stay f p xs (pairs_behind (f x) (flat_map f xs) pairs)) (p x) where
    by : AllPairs R (flat_map f (filter p xs)) → (stays : Bool) → AllPairs R (flat_map f (cond stays (x ∷ filter p xs) (filter p xs)))
    by less true = pairs_less (f x) (flat_map f xs) (flat_map f (filter p xs)) pairs less (stay_part f p xs)
    by less false = less

-- what is noted of the volumes that stay
quiet_kept : (keys : List ℕ) (vs : List OneVolume) → kept (λ (s : VolumeStatus). s.number.0) keys (map quiet_volume vs) ≡ map quiet_volume (kept volume_key keys vs)
quiet_kept keys [] = refl
quiet_kept keys (v ∷ vs) = by (quiet_kept keys vs) (not (list_any (λ (k : ℕ). v.number.0 == k) keys)) where
  by : kept (λ (s : VolumeStatus). s.number.0) keys (map quiet_volume vs) ≡ map quiet_volume (kept volume_key keys vs)
      → (stays : Bool) → cond stays (quiet_volume v ∷ kept (λ (s : VolumeStatus). s.number.0) keys (map quiet_volume vs)) (kept (λ (s : VolumeStatus). s.number.0) keys (map quiet_volume vs)) ≡ map quiet_volume (cond stays (v ∷ kept volume_key keys vs) (kept volume_key keys vs))
  by later true = ap (λ (l : List VolumeStatus). quiet_volume v ∷ l) later
  by later false = later

-- where no spare has a state, none is given back
none_back : (slices : List SliceName) → given_back [] slices ≡ []
none_back [] = refl
none_back (s ∷ ss) = none_back ss

module _ (g : Geometry) (old : Table) (is : IsOfGeometry g old) where
  abbrev volumes : List OneVolume
  volumes = old.plan.volumes

  module _ (sound : IsSound g) (vs : List VolId) (qs : List PoolId) where
    abbrev keys : List ℕ
    keys = map id_key vs

    abbrev stays : OneVolume → Bool
    stays w = not (list_any (λ (k : ℕ). w.number.0 == k) keys)

    abbrev lost : List ℕ
    lost = lost_spares old.plan qs

    abbrev used : List SliceName
    used = used_spares old.status vs

    kinds : All (λ (w : OneVolume). IsKindOf g w.kind) (filter stays volumes)
    kinds = All-filter stays (λ (w : OneVolume). IsKindOf g w.kind) volumes is.kinds

    noted : kept (λ (s : VolumeStatus). s.number.0) keys old.status.volumes ≡ map quiet_volume (filter stays volumes)
    noted = (λ i. kept (λ (s : VolumeStatus). s.number.0) keys (is.quiet i).volumes) ∙ quiet_kept keys volumes

    spares : kept spare_key lost (given_back old.status.spares used) ≡ []
    spares = (λ i. kept spare_key lost (given_back (is.quiet i).spares used)) ∙ ap (λ (l : List SpareStatus). kept spare_key lost l) (none_back used)

    pub cleared_kept : IsOfGeometry g (cleared vs qs old)
    cleared_kept = record {
      lists = is.lists;
      numbers = record {
        ascending = AllPairs-filter (λ (v w : OneVolume). volume_key v < volume_key w) stays volumes is.numbers.ascending;
        keys = All-filter stays (λ (w : OneVolume). volume_key w < 8192) volumes is.numbers.keys;
      };
      kinds = kinds;
      apart = record {
        components = pairs_stay (Never g) volume_slices stays volumes is.apart.components;
        replicas = replicas_clear g sound old.plan.lists is.lists (filter stays volumes) kinds;
      };
      alone = record { set = is.alone.set; pending = is.alone.pending; pools = ap (λ (l : List Pool). kept (λ (q : Pool). q.number.0) (map pool_key qs) l) is.alone.pools };
      quiet = λ i. record { volumes = noted i; spares = spares i };
    }

  -- and so where all are
  pub emptied_kept : IsOfGeometry g (emptied old)
  emptied_kept = record {
    lists = is.lists;
    numbers = record { ascending = λ i j d below within. absurd (omega arith); keys = λ k d within. absurd (omega arith) };
    kinds = λ k d within. absurd (omega arith);
    apart = record { components = λ i j d below within. absurd (omega arith); replicas = λ k d within. absurd (omega arith) };
    alone = record { set = is.alone.set; pending = is.alone.pending; pools = refl };
    quiet = refl;
  }
