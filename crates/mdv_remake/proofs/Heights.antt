-- The volumes of a plan in which each fits beside the others lie in layers: soft partitions of slices lowest, then stripes and RAID-5 volumes, then
-- mirrors, and soft partitions of volumes highest.
use Rattle.std.proofs.Common.{◌≡◌, ◌≢◌, ◌<◌, ◌≤◌, ◌==◌, ℕ, Bool, true, false, not, Option, None, Some, refl, sym, ◌∙◌, ap, subst, List, [], ◌∷◌, map, inl, inr, arith}
use Rattle.std.specs.List.{All, list_any}
use Rattle.std.specs.Option.{is_some}
use Rattle.std.proofs.lemmas.Bool.{cases_Bool, eq-eqb, eqb-true, not-false, not_from_false, not_from_true, or_cases, or_parts}
use Rattle.std.proofs.lemmas.List.Elements.{All-cons, All-head, All-nil, All-tail, All-weaker}
use Rattle.mdv_components.specs.Bases.{is_leaf_kind, is_leaf_volume, is_missing, is_no_leaf, is_slice, no_pool, volume_of}
use Rattle.mdv_components.specs.Stripes.{all_bases}
use Rattle.mdv_components.specs.declared.cause.Cause.TheVariants.{NoSuchVolume, NoSuchPool, WrongKind, Nested}
use Rattle.mdv_plan.specs.Named.{base_below, kind_below}
use Rattle.mdv_plan.specs.declared.volume.Mirror.{Mirror as OneMirror}
use Rattle.mdv_plan.specs.declared.volume.Soft.{Soft as OneSoft}
use Rattle.mdv_plan.specs.declared.volume.Stripe.{Stripe as OneStripe}
use Rattle.mdv_print.specs.Entries.{base_named, extent_entry, is_serial, read_from, row_entry}
use Rattle.mdv_print.specs.Layers.{IsLayered}
use Rattle.mdv_print.specs.Order.{is_among}
use Rattle.mdv_keys.proofs.Users.{kind_among}
use Rattle.mdv_softs.specs.Asking.{contains_soft, contains_soft_at, is_nested}
use Rattle.mdv_submirrors.specs.Sizes.{is_no_stripe, is_stripe, is_stripe_volume}
use Rattle.mdv_remake.specs.Asked.{base_of, mirror_of, row_of, run_of}
use Rattle.mdv_remake.specs.Below.{Base, Slice, Volume, Change, DriveNo, Extents, Geometry, MakeMirror, MakeRaid, MakeSoft, MakeStripe, Mirror, OnePool, OneRaid, OneVolume, Plan, PoolId, Raid, RowAsked, Soft, Stripe, VolId, VolumeKind}
use Rattle.mdv_remake.specs.Making.{refused}
use Rattle.mdv_remake.specs.Now.{Fits, IsAsNow, raid_asked, unnoted, volume_asked}
use Rattle.mdv_remake.proofs.Bases.{below_all, part_bases, parts_below, rows_below}
use Rattle.mdv_remake.proofs.Causes.{free_of_causes}
use Rattle.mdv_remake.proofs.Parts.{part, pool_kept, volume_gone, volume_kept}
use Rattle.mdv_remake.proofs.Ready.{found}
use Rattle.mdv_remake.proofs.Steps.{any, beside_is, but, kind_pool}

abbrev pub base_height : Base → ℕ
base_height (Slice s) = 0
base_height (Volume v) = 3

abbrev pub kind_height : VolumeKind → ℕ
kind_height (Stripe s) = 1
kind_height (Mirror m) = 2
kind_height (Raid r) = 1
kind_height (Soft s) = base_height s.base

abbrev pub height_at : Option OneVolume → ℕ
height_at None = 0
height_at (Some w) = kind_height w.kind

-- the plan has the volume, and it lies lower than this one
pub record IsBelow (p : Plan) (w : OneVolume) (v : VolId) : Type 0 where
  pub volume : OneVolume
  pub found : volume_of p v ≡ Some volume
  pub apart : v.0 ≢ w.number.0
  pub lower : kind_height volume.kind < kind_height w.kind

pub some_of : {X : Type 0} (o : Option X) → is_some o ≡ true → (x : X) × (o ≡ Some x)
some_of None is = cc
some_of (Some x) is = (x, refl)

all_none : {X : Type 0} (f : X → Bool) (xs : List X) → list_any f xs ≡ false → All (λ x. f x ≡ false) xs
all_none f [] none = All-nil (λ x. f x ≡ false)
all_none f (x ∷ xs) none = let parts = or_parts (f x) (list_any f xs) none in All-cons (λ y. f y ≡ false) x xs parts.0 (all_none f xs parts.1)

leaf_base : (b : Base) → is_slice b ≡ true → base_height b ≡ 0
leaf_base (Slice s) on = refl
leaf_base (Volume v) on = cc

leaf_kind : (kind : VolumeKind) → is_leaf_kind kind ≡ true → kind_height kind ≡ 0
leaf_kind (Stripe s) on = cc
leaf_kind (Mirror m) on = cc
leaf_kind (Raid r) on = cc
leaf_kind (Soft s) on = leaf_base s.base on

leaf_height : (o : Option OneVolume) → is_leaf_volume o ≡ true → (x : OneVolume) × (o ≡ Some x) × (kind_height x.kind ≡ 0)
leaf_height None is = cc
leaf_height (Some x) is = (x, refl, leaf_kind x.kind is)

stripe_kind : (kind : VolumeKind) → is_stripe kind ≡ true → kind_height kind ≡ 1
stripe_kind (Stripe s) on = refl
stripe_kind (Mirror m) on = cc
stripe_kind (Raid r) on = cc
stripe_kind (Soft s) on = cc

stripe_height : (o : Option OneVolume) → is_stripe_volume o ≡ true → (x : OneVolume) × (o ≡ Some x) × (kind_height x.kind ≡ 1)
stripe_height None is = cc
stripe_height (Some x) is = (x, refl, stripe_kind x.kind is)

plain_kind : (p : Plan) (kind : VolumeKind) → contains_soft p kind ≡ false → kind_height kind < 3
plain_kind p (Stripe s) none = omega arith
plain_kind p (Mirror m) none = omega arith
plain_kind p (Raid r) none = omega arith
plain_kind p (Soft s) none = cc

module _ (p : Plan) (g : Geometry) (drives : List DriveNo) (v : VolId) where
  abbrev rest : Plan
  rest = part (but v.0) any p

  -- what the others have, the plan has
  there : (u : VolId) (x : OneVolume) → volume_of (part (but v.0) any p) u ≡ Some x → (volume_of p u ≡ Some x) × (u.0 ≢ v.0)
  there u x is = elim (cases_Bool (u.0 == v.0)) [
    | inl same ↦ let none : Some x ≡ None = sym is ∙ volume_gone (but v.0) any p u (not_from_true (u.0 == v.0) same) in cc
    | inr other ↦ (sym (volume_kept (but v.0) any p u (not_from_false (u.0 == v.0) other)) ∙ is, λ same. let both : true ≡ false = sym (eq-eqb u.0 v.0 same) ∙ other in cc)
  ]

  leaf_below : (w : OneVolume) → w.number ≡ v → 0 < kind_height w.kind → (b : Base) → is_no_leaf (part (but v.0) any p) b ≡ false → All (IsBelow p w) (base_below b)
  leaf_below w named high (Slice s) none = All-nil (IsBelow p w)
  leaf_below w named high (Volume u) none =
      let at = leaf_height (volume_of (part (but v.0) any p) u) (not-false (is_leaf_volume (volume_of (part (but v.0) any p) u)) none) in
      let both = there u at.0 at.1 in
      All-cons (IsBelow p w) u [] (record { volume = at.0; found = both.0; apart = λ same. both.1 (same ∙ ap (λ (n : VolId). n.0) named); lower = omega (arith, at.2, high) }) (All-nil (IsBelow p w))

  stripe_below : (s : OneStripe) → refused g drives (unnoted (part (but v.0) any p)) (volume_asked (record { number = v; kind = Stripe s })) ≡ None → All (IsBelow p (record { number = v; kind = Stripe s })) (kind_below (Stripe s))
  stripe_below s fits =
      let rows : List RowAsked = map row_of (map row_entry s.rows) in
      let w : OneVolume = record { number = v; kind = Stripe s } in
      let none : list_any (is_no_leaf (part (but v.0) any p)) (all_bases rows) ≡ false = free_of_causes g drives (unnoted (part (but v.0) any p)) (MakeStripe v rows s.spares) fits WrongKind in
      subst (All (IsBelow p w)) (rows_below s.rows) (below_all (λ b. is_no_leaf (part (but v.0) any p) b ≡ false) (IsBelow p w) (leaf_below w refl (omega arith)) (all_bases rows) (all_none (is_no_leaf (part (but v.0) any p)) (all_bases rows) none))

  raid_below : (r : OneRaid) → refused g drives (unnoted (part (but v.0) any p)) (volume_asked (record { number = v; kind = Raid r })) ≡ None → All (IsBelow p (record { number = v; kind = Raid r })) (kind_below (Raid r))
  raid_below r fits =
      let w : OneVolume = record { number = v; kind = Raid r } in
      let none : list_any (is_no_leaf (part (but v.0) any p)) (part_bases r.columns) ≡ false = free_of_causes g drives (unnoted (part (but v.0) any p)) (MakeRaid v (raid_asked r)) fits WrongKind in
      subst (All (IsBelow p w)) (parts_below r.columns) (below_all (λ b. is_no_leaf (part (but v.0) any p) b ≡ false) (IsBelow p w) (leaf_below w refl (omega arith)) (part_bases r.columns) (all_none (is_no_leaf (part (but v.0) any p)) (part_bases r.columns) none))

  mirror_below : (m : OneMirror) → refused g drives (unnoted (part (but v.0) any p)) (volume_asked (record { number = v; kind = Mirror m })) ≡ None → All (IsBelow p (record { number = v; kind = Mirror m })) (kind_below (Mirror m))
  mirror_below m fits =
      let w : OneVolume = record { number = v; kind = Mirror m } in
      let change : Change = MakeMirror v (mirror_of m.submirrors (record { read = read_from m.read; serial = is_serial m.write }) m.pass) in
      let none : list_any (is_no_stripe (part (but v.0) any p)) m.submirrors ≡ false = free_of_causes g drives (unnoted (part (but v.0) any p)) change fits WrongKind in
      All-weaker (λ u. is_no_stripe (part (but v.0) any p) u ≡ false) (IsBelow p w) (λ u off.
      let at = stripe_height (volume_of (part (but v.0) any p) u) (not-false (is_stripe_volume (volume_of (part (but v.0) any p) u)) off) in
      let both = there u at.0 at.1 in
      record { volume = at.0; found = both.0; apart = both.1; lower = omega (arith, at.2) }) m.submirrors (all_none (is_no_stripe (part (but v.0) any p)) m.submirrors none)

  soft_at : (w : OneVolume) → w.number ≡ v → (b : Base) → kind_height w.kind ≡ base_height b → is_missing (part (but v.0) any p) (base_of (base_named b)) ≡ false → is_nested (part (but v.0) any p) (base_of (base_named b)) ≡ false → All (IsBelow p w) (base_below b)
  soft_at w named (Slice s) high some none = All-nil (IsBelow p w)
  soft_at w named (Volume u) high some none =
      let at = some_of (volume_of (part (but v.0) any p) u) (not-false (is_some (volume_of (part (but v.0) any p) u)) some) in
      let both = there u at.0 at.1 in
      let plain : kind_height at.0.kind < 3 = plain_kind (part (but v.0) any p) at.0.kind (sym (ap (contains_soft_at (part (but v.0) any p)) at.1) ∙ none) in
      All-cons (IsBelow p w) u [] (record { volume = at.0; found = both.0; apart = λ same. both.1 (same ∙ ap (λ (n : VolId). n.0) named); lower = omega (arith, plain, high) }) (All-nil (IsBelow p w))

  soft_below : (s : OneSoft) → refused g drives (unnoted (part (but v.0) any p)) (volume_asked (record { number = v; kind = Soft s })) ≡ None → All (IsBelow p (record { number = v; kind = Soft s })) (kind_below (Soft s))
  soft_below s fits =
      let change : Change = MakeSoft v (record { base = base_of (base_named s.base); room = Extents (map run_of (map extent_entry s.extents)) }) in
      let free = free_of_causes g drives (unnoted (part (but v.0) any p)) change fits in
      soft_at (record { number = v; kind = Soft s }) refl s.base refl (free NoSuchVolume) (free Nested)

  kinds_below : (kind : VolumeKind) → refused g drives (unnoted (part (but v.0) any p)) (volume_asked (record { number = v; kind = kind })) ≡ None → All (IsBelow p (record { number = v; kind = kind })) (kind_below kind)
  kinds_below (Stripe s) fits = stripe_below s fits
  kinds_below (Mirror m) fits = mirror_below m fits
  kinds_below (Raid r) fits = raid_below r fits
  kinds_below (Soft s) fits = soft_below s fits

  -- the pool of its spares is there
  pool_there : (pool : Option PoolId) → no_pool (part (but v.0) any p) pool ≡ false → no_pool p pool ≡ false
  pool_there None none = refl
  pool_there (Some q) none = ap (λ (o : Option OnePool). not (is_some o)) (sym (pool_kept (but v.0) any p q refl)) ∙ none

  kinds_pool : (kind : VolumeKind) → refused g drives (unnoted (part (but v.0) any p)) (volume_asked (record { number = v; kind = kind })) ≡ None → no_pool p (kind_pool kind) ≡ false
  kinds_pool (Stripe s) fits = pool_there s.spares (free_of_causes g drives (unnoted (part (but v.0) any p)) (MakeStripe v (map row_of (map row_entry s.rows)) s.spares) fits NoSuchPool)
  kinds_pool (Mirror m) fits = refl
  kinds_pool (Raid r) fits = pool_there r.spares (free_of_causes g drives (unnoted (part (but v.0) any p)) (MakeRaid v (raid_asked r)) fits NoSuchPool)
  kinds_pool (Soft s) fits = refl

fits_part : (g : Geometry) (drives : List DriveNo) (p : Plan) (w : OneVolume) → Fits g drives p w → refused g drives (unnoted (part (but w.number.0) any p)) (volume_asked w) ≡ None
fits_part g drives p w fits = subst (λ (q : Plan). refused g drives (unnoted q) (volume_asked w) ≡ None) (sym (beside_is p w)) fits

-- all volumes below one that fits are there, and lie lower
pub all_below : (g : Geometry) (drives : List DriveNo) (p : Plan) (w : OneVolume) → Fits g drives p w → All (IsBelow p w) (kind_below w.kind)
all_below g drives p w fits = kinds_below p g drives w.number w.kind (fits_part g drives p w fits)

pub pool_is_there : (g : Geometry) (drives : List DriveNo) (p : Plan) (w : OneVolume) → Fits g drives p w → no_pool p (kind_pool w.kind) ≡ false
pool_is_there g drives p w fits = kinds_pool p g drives w.number w.kind (fits_part g drives p w fits)

among_all : (Q : VolId → Type 0) (vs : List VolId) (v : VolId) → All Q vs → is_among vs v ≡ true → Q v
among_all Q [] v all is = cc
among_all Q (u ∷ vs) v all is = elim (or_cases (u.0 == v.0) (is_among vs v) is) [
  | inl here ↦ subst Q (same_volume u v (eqb-true u.0 v.0 here)) (All-head Q u vs all)
  | inr later ↦ among_all Q vs v (All-tail Q u vs all) later
]
  where
    same_volume : (a b : VolId) → a.0 ≡ b.0 → a ≡ b
    same_volume a b is = λ i. record { 0 = is i }

base_most : (b : Base) → base_height b ≤ 3
base_most (Slice s) = omega arith
base_most (Volume v) = omega arith

height_most : (o : Option OneVolume) → height_at o ≤ 3
height_most None = omega arith
height_most (Some w) = of_kind w.kind
  where
    of_kind : (kind : VolumeKind) → kind_height kind ≤ 3
    of_kind (Stripe s) = omega arith
    of_kind (Mirror m) = omega arith
    of_kind (Raid r) = omega arith
    of_kind (Soft s) = base_most s.base

pub in_layers : (g : Geometry) (drives : List DriveNo) (p : Plan) → IsAsNow g drives p → IsLayered p
in_layers g drives p is = record {
  ascending = is.volumes;
  height = λ n. height_at (volume_of p (record { 0 = n }));
  most = 3;
  bounded = λ n. height_most (volume_of p (record { 0 = n }));
  lower = λ x v own named.
      let fits = (found (Fits g drives p) (λ (w : OneVolume). w.number.0 == x.number.0) p.volumes x is.fit own).0 in
      let below = among_all (IsBelow p x) (kind_below x.kind) v (all_below g drives p x fits) (sym (kind_among v x.kind) ∙ named) in
      let low : height_at (volume_of p v) ≡ kind_height below.volume.kind = ap height_at below.found in
      let high : height_at (volume_of p x.number) ≡ kind_height x.kind = ap height_at own in
      omega (arith, low, high, below.lower);
}
