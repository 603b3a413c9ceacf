-- What is noted while volumes are made: of no volume but a RAID-5 volume that it is being made.
use Rattle.std.proofs.Common.{◌≡◌, ◌==◌, ℕ, Bool, true, false, cond, eqb, ltb, Option, None, Some, refl, sym, ◌∙◌, ap, subst, List, [], ◌∷◌, map, inl, inr}
use Rattle.std.specs.List.{All, find}
use Rattle.std.proofs.lemmas.Bool.{cases_Bool, eqb-true, false≢true, false_from_ne_true}
use Rattle.std.proofs.lemmas.List.Elements.{All-cons, All-head, All-nil, All-tail, All-map}
use Rattle.mdv_components.specs.Bases.{volume_of}
use Rattle.mdv_submirrors.specs.Below.{replaced}
use Rattle.mdv_plan.specs.Sorted.{changed, with_put}
use Rattle.mdv_plan.specs.declared.status.Status.{Status}
use Rattle.mdv_plan.specs.declared.status.VolumeStatus.{VolumeStatus}
use Rattle.mdv_softs.specs.Asking.{is_initializing, is_kind_being_made, is_made_at}
use Rattle.mdv_submirrors.specs.Joining.{all_joined, joined, noted, status_at, status_key}
use Rattle.mdv_plan.specs.declared.status.State.TheVariants.{Okay, Resyncing}
use Rattle.mdv_plan.specs.declared.status.Resync.TheVariants.{Whole}
use Rattle.mdv_remake.specs.Below.{Base, Slice, Volume, OneVolume, Plan, VolId}
use Rattle.mdv_remake.specs.Now.{is_raid, lies_on_raid}
use Rattle.mdv_remake.proofs.Kept.{find-behind, find-first}

abbrev pub IsReady : Plan → VolumeStatus → Type 0
IsReady p s = is_kind_being_made s.kind ≡ true → is_raid (volume_of p s.number) ≡ true

abbrev pub AreReady : Plan → List VolumeStatus → Type 0
AreReady p ss = All (IsReady p) ss

All-put : {X : Type 0} (P : X → Type 0) (key : X → ℕ) (x : X) (xs : List X) → P x → All P xs → All P (with_put key x xs)
All-put P key x [] one all = All-cons P x [] one all
All-put P key x (y ∷ ys) one all =
    let rest = All-tail P y ys all in
    let first = All-head P y ys all in
    elim (ltb (key x) (key y)) as (λ b. All P (cond b (x ∷ y ∷ ys) (cond (eqb (key y) (key x)) (x ∷ ys) (y ∷ with_put key x ys)))) [
      | true ↦ All-cons P x (y ∷ ys) one all
      | false ↦ elim (eqb (key y) (key x)) as (λ b. All P (cond b (x ∷ ys) (y ∷ with_put key x ys))) [
        | true ↦ All-cons P x ys one rest
        | false ↦ All-cons P y (with_put key x ys) first (All-put P key x ys one rest)
      ]
    ]

All-changed : {X : Type 0} (P : X → Type 0) (key : X → ℕ) (x : X) (xs : List X) → P x → All P xs → All P (changed key x xs)
All-changed P key x [] one all = all
All-changed P key x (y ∷ ys) one all =
    let rest = All-changed P key x ys one (All-tail P y ys all) in
    elim (eqb (key y) (key x)) as (λ b. All P (cond b x y ∷ changed key x ys)) [
      | true ↦ All-cons P x (changed key x ys) one rest
      | false ↦ All-cons P y (changed key x ys) (All-head P y ys all) rest
    ]

All-replaced : {X : Type 0} (P : X → Type 0) (key : X → ℕ) (xs ys : List X) → All P xs → All P ys → All P (replaced key xs ys)
All-replaced P key xs [] all some = all
All-replaced P key xs (y ∷ ys) all some = All-changed P key y (replaced key xs ys) (All-head P y ys some) (All-replaced P key xs ys all (All-tail P y ys some))

-- one state more
pub put_ready : (p : Plan) (s : VolumeStatus) (ss : List VolumeStatus) → IsReady p s → AreReady p ss → AreReady p (with_put (λ w. w.number.0) s ss)
put_ready p s ss one all = All-put (IsReady p) (λ w. w.number.0) s ss one all

joined_ready : (p : Plan) (s : Status) (v : VolId) → IsReady p (joined Okay s v) × IsReady p (joined (Resyncing Whole) s v)
joined_ready p s v = (λ made. absurd (false≢true made), λ made. absurd (false≢true made))

all_joined_ready : (p : Plan) (s : Status) (vs : List VolId) → AreReady p (all_joined s vs)
all_joined_ready p s [] = All-nil (IsReady p)
all_joined_ready p s (v ∷ vs) =
    All-cons (IsReady p) (joined Okay s v) (map (joined (Resyncing Whole) s) vs) (joined_ready p s v).0 (All-map (IsReady p) (joined (Resyncing Whole) s) vs (λ i d lt. (joined_ready p s _).1))

pub joined_stay_ready : (p : Plan) (s : Status) (ss : List VolumeStatus) (vs : List VolId) → AreReady p ss → AreReady p (noted ss (all_joined s vs))
joined_stay_ready p s ss vs all = All-replaced (IsReady p) status_key ss (all_joined s vs) all (all_joined_ready p s vs)

pub found : {X : Type 0} (P : X → Type 0) (test : X → Bool) (xs : List X) (x : X) → All P xs → find test xs ≡ Some x → P x × (test x ≡ true)
found P test [] x all is = cc
found {X = X} P test (y ∷ ys) x all is = elim (cases_Bool (test y)) [
  | inl here ↦
      let first : Some y ≡ Some x = sym (find-first test y ys here) ∙ is in
      let same : y ≡ x = cc in
      subst (λ (z : X). P z × (test z ≡ true)) same (All-head P y ys all, here)
  | inr away ↦ found P test ys x (All-tail P y ys all) (sym (find-behind test y ys away) ∙ is)
]

not_made : (p : Plan) (v : VolId) (o : Option VolumeStatus) → ((s : VolumeStatus) → o ≡ Some s → IsReady p s × (s.number.0 == v.0 ≡ true)) → is_raid (volume_of p v) ≡ false → is_made_at o ≡ false
not_made p v None at none = refl
not_made p v (Some s) at none = false_from_ne_true (is_kind_being_made s.kind) (λ made.
    let one = at s refl in
    let same : volume_of p s.number ≡ volume_of p v = ap (λ (n : ℕ). find (λ (w : OneVolume). w.number.0 == n) p.volumes) (eqb-true s.number.0 v.0 one.1) in
    false≢true (sym none ∙ ap is_raid (sym same) ∙ one.0 made))

-- so no base is initialized but a RAID-5 volume
pub not_initializing : (p : Plan) (s : Status) (on : Base) → AreReady p s.volumes → lies_on_raid p on ≡ false → is_initializing s on ≡ false
not_initializing p s (Slice n) ready none = refl
not_initializing p s (Volume v) ready none = not_made p v (status_at s v) (λ x is. found (IsReady p) (λ (w : VolumeStatus). w.number.0 == v.0) s.volumes x ready is) none
