-- What stands against a soft partition of given extents in a plan stands against it in each plan that has more.
use Rattle.std.proofs.Common.{◌≡◌, ◌==◌, ◌++◌, ℕ, Bool, true, false, cond, ltb, Option, None, Some, refl, sym, ◌∙◌, ap, subst, List, [], ◌∷◌, length, inl, inr}
use Rattle.std.specs.Prelude.{unwrap_or}
use Rattle.std.specs.List.{All, filter}
use Rattle.std.specs.Option.{is_some, option_or}
use Rattle.std.proofs.lemmas.Bool.{cases_Bool, cond-true, cond-false, or_parts, or_from}
use Rattle.std.proofs.lemmas.List.Elements.{All-filter, All-head, All-tail}
use Rattle.mdv_components.specs.Bases.{volume_of}
use Rattle.mdv_components.specs.Room.{start_of}
use Rattle.mdv_components.specs.Softs.{has_soft_at, has_soft_in}
use Rattle.mdv_components.specs.declared.cause.Cause.{Cause}
use Rattle.mdv_components.specs.declared.cause.Cause.TheVariants.{NoSuchVolume, NoSuchPool, NoSuchSlice, NameTaken, WrongKind, WrongState, LastCopy, TooFew, TooMany, BadInterlace, SliceInUse, HasParent, Nested, SpareInUse, TooSmall, NoSpace}
use Rattle.mdv_extent.specs.Extents.{lie_apart}
use Rattle.mdv_name.proofs.Finding.{same_slice-equal}
use Rattle.mdv_plan.specs.Slices.{clashes, clashes_with, meets_db, slice_at}
use Rattle.mdv_plan.specs.Uses.{runs_on, same_base, uses_of, volume_runs}
use Rattle.mdv_plan.specs.declared.clash.Asked.TheVariants.{Extents as SomeExtents}
use Rattle.mdv_plan.specs.declared.status.Status.{Status}
use Rattle.mdv_softs.specs.Asking.{contains_soft, contains_soft_at, is_initializing, is_nested, is_short, is_slice_in_use, is_too_many, is_unfit, is_volume_taken}
use Rattle.mdv_softs.specs.Making.{soft_condition}
use Rattle.mdv_softs.specs.Room.{blocks_behind, fits_on, given_room, kind_start, size_on, start_in, start_on, volume_blocks}
use Rattle.mdv_softs.specs.declared.making.SoftAsked.{SoftAsked}
use Rattle.mdv_softs.specs.declared.room.Room.TheVariants as room
use Rattle.mdv_remake.specs.Below.{Base, Slice, Volume, DriveNo, Extents, Geometry, Mirror, OneVolume, Plan, Raid, Run, SliceName, Soft, Stripe, Table, VolId, VolumeKind}
use Rattle.mdv_remake.specs.Now.{unnoted}
use Rattle.mdv_remake.proofs.Apart.{fewer_apart}
use Rattle.mdv_remake.proofs.Kept.{any_none}
use Rattle.mdv_remake.proofs.Parts.{BaseIn, part, volume_gone, volume_same, missing_same, none_used, not_taken}

-- a soft partition counts its extents from where the first on its base does now
abbrev pub StartsNow : Geometry → Plan → VolumeKind → Type 0
StartsNow g p (Soft s) = start_of g p s.base ≡ s.start
StartsNow g p _ = Unit {0}

same_start : (g : Geometry) (p : Plan) (a b : Base) → same_base a b ≡ true → start_of g p a ≡ start_of g p b
same_start g p (Slice a) (Slice b) same = ap (λ (s : SliceName). start_of g p (Slice s)) (same_slice-equal a b same)
same_start g p (Volume a) (Volume b) same = refl
same_start g p (Slice a) (Volume b) same = cc
same_start g p (Volume a) (Slice b) same = cc

-- where the volume is a soft partition on the base, it begins as one does now
kind_start_now : (g : Geometry) (p : Plan) (on : Base) (kind : VolumeKind) (rest : Option ℕ) → StartsNow g p kind → unwrap_or rest (start_of g p on) ≡ start_of g p on → unwrap_or (option_or (kind_start on kind) rest) (start_of g p on) ≡ start_of g p on
kind_start_now g p on (Stripe s) rest now is = is
kind_start_now g p on (Mirror m) rest now is = is
kind_start_now g p on (Raid r) rest now is = is
kind_start_now g p on (Soft s) rest now is = elim (cases_Bool (same_base s.base on)) [
  | inl here ↦ ap (λ (o : Option ℕ). unwrap_or (option_or o rest) (start_of g p on)) (cond-true (same_base s.base on) (Some s.start) None here) ∙ sym now ∙ same_start g p s.base on here
  | inr away ↦ ap (λ (o : Option ℕ). unwrap_or (option_or o rest) (start_of g p on)) (cond-false (same_base s.base on) (Some s.start) None away) ∙ is
]

start_now : (g : Geometry) (p : Plan) (on : Base) (ws : List OneVolume) → All (λ w. StartsNow g p w.kind) ws → unwrap_or (start_in ws on) (start_of g p on) ≡ start_of g p on
start_now g p on [] all = refl
start_now g p on (w ∷ ws) all =
    kind_start_now g p on w.kind (start_in ws on) (All-head (λ (x : OneVolume). StartsNow g p x.kind) w ws all) (start_now g p on ws (All-tail (λ (x : OneVolume). StartsNow g p x.kind) w ws all))

start_of_part : (g : Geometry) (vs qs : ℕ → Bool) (p : Plan) (on : Base) → start_of g (part vs qs p) on ≡ start_of g p on
start_of_part g vs qs p (Slice s) = refl
start_of_part g vs qs p (Volume v) = refl

pub start_kept : (g : Geometry) (vs qs : ℕ → Bool) (p : Plan) (on : Base) → All (λ w. StartsNow g p w.kind) p.volumes → start_on g (part vs qs p) on ≡ start_of g p on
start_kept g vs qs p on all =
    ap (unwrap_or (start_in (filter (λ (w : OneVolume). vs w.number.0) p.volumes) on)) (start_of_part g vs qs p on)
    ∙ start_now g p on (filter (λ (w : OneVolume). vs w.number.0) p.volumes) (All-filter (λ (w : OneVolume). vs w.number.0) (λ (w : OneVolume). StartsNow g p w.kind) p.volumes all)

-- extents that are given and neither too many nor unfit
given_fit : (many fit : Bool) (runs : List Run) → is_too_many (cond many room.TooMany (cond fit (room.Extents runs) room.Unfit)) ≡ false → is_unfit (cond many room.TooMany (cond fit (room.Extents runs) room.Unfit)) ≡ false → (many ≡ false) × (fit ≡ true)
given_fit true fit runs few fits = cc
given_fit false true runs few fits = (refl, refl)
given_fit false false runs few fits = cc

given_is : (many fit : Bool) (runs : List Run) → many ≡ false → fit ≡ true → cond many room.TooMany (cond fit (room.Extents runs) room.Unfit) ≡ room.Extents runs
given_is true fit runs few fits = cc
given_is false true runs few fits = refl
given_is false false runs few fits = cc

abbrev pub asked_on : Base → List Run → SoftAsked
asked_on on runs = record { base = on; room = Extents runs }

module _ (vs ws qs rs : ℕ → Bool) (more : (n : ℕ) → vs n ≡ true → ws n ≡ true) (more_pools : (n : ℕ) → qs n ≡ true → rs n ≡ true) (p : Plan) (g : Geometry) (drives : List DriveNo) where
  no_soft : (v : VolId) → has_soft_in (part ws rs p) v ≡ false → has_soft_in (part vs qs p) v ≡ false
  no_soft v none = elim (cases_Bool (vs v.0)) [
    | inl there ↦ ap has_soft_at (sym (volume_same vs ws qs rs more more_pools p v there)) ∙ none
    | inr out ↦ ap has_soft_at (volume_gone vs qs p v out)
  ]

  no_soft_kind : (kind : VolumeKind) → contains_soft (part ws rs p) kind ≡ false → contains_soft (part vs qs p) kind ≡ false
  no_soft_kind (Stripe s) none = none
  no_soft_kind (Mirror m) none = any_none (has_soft_in (part ws rs p)) (has_soft_in (part vs qs p)) no_soft m.submirrors none
  no_soft_kind (Raid r) none = none
  no_soft_kind (Soft s) none = none

  no_soft_at : (o : Option OneVolume) → contains_soft_at (part ws rs p) o ≡ false → contains_soft_at (part vs qs p) o ≡ false
  no_soft_at None none = refl
  no_soft_at (Some w) none = no_soft_kind w.kind none

  not_nested : (on : Base) → BaseIn vs on → is_nested (part ws rs p) on ≡ false → is_nested (part vs qs p) on ≡ false
  not_nested (Slice s) is none = refl
  not_nested (Volume v) is none =
      ap (contains_soft_at (part vs qs p)) (sym (volume_same vs ws qs rs more more_pools p v is)) ∙ no_soft_at (volume_of (part ws rs p) v) none

  not_in_use : (on : Base) → is_slice_in_use g (uses_of (part ws rs p)) on ≡ false → is_slice_in_use g (uses_of (part vs qs p)) on ≡ false
  not_in_use (Slice s) none =
      let parts = or_parts (clashes g SomeExtents s (uses_of (part ws rs p))) (meets_db g s) none in
      or_from (clashes g SomeExtents s (uses_of (part vs qs p))) (meets_db g s) (none_used vs ws qs rs more more_pools p (clashes_with g SomeExtents s) parts.0) parts.1
  not_in_use (Volume v) none = refl

  not_had : (on : Base) → is_volume_taken (part ws rs p) on ≡ false → is_volume_taken (part vs qs p) on ≡ false
  not_had (Slice s) none = refl
  not_had (Volume v) none = not_taken vs ws qs rs more more_pools p v none

  module _ (starts : All (λ w. StartsNow g p w.kind) p.volumes) where
    size_same : (on : Base) → BaseIn vs on → size_on g (part ws rs p) on ≡ size_on g (part vs qs p) on
    size_same (Slice s) is = ap (λ (n : ℕ). blocks_behind n (slice_at g.slices s)) (start_kept g ws rs p (Slice s) starts ∙ sym (start_kept g vs qs p (Slice s) starts))
    size_same (Volume v) is = ap volume_blocks (volume_same vs ws qs rs more more_pools p v is)

    fits_fewer : (on : Base) (runs : List Run) → BaseIn vs on → fits_on g (part ws rs p) on runs ≡ true → fits_on g (part vs qs p) on runs ≡ true
    fits_fewer on runs is fits =
        fewer_apart (volume_runs on) (λ (w : OneVolume). vs w.number.0) (λ (w : OneVolume). ws w.number.0) (λ w there. more w.number.0 there) (size_on g (part vs qs p) on) runs p.volumes
        (subst (λ (n : ℕ). lie_apart n (runs_on on (part ws rs p) ++ runs) ≡ true) (size_same on is) fits)

    module _ (v : VolId) (on : Base) (runs : List Run) (status : Status) (out : vs v.0 ≡ false) (there : BaseIn vs on) (ready : is_initializing status on ≡ false)
        (free : (c : Cause) → soft_condition g drives (unnoted (part ws rs p)) v (asked_on on runs) c ≡ false) where
      nothing_unfit : (length runs == 0 ≡ false) × (is_unfit (given_room g (part ws rs p) on runs) ≡ false)
      nothing_unfit = or_parts (length runs == 0) (is_unfit (given_room g (part ws rs p) on runs)) (free TooSmall)

      few_fit : (ltb 16 (length runs) ≡ false) × (fits_on g (part ws rs p) on runs ≡ true)
      few_fit = given_fit (ltb 16 (length runs)) (fits_on g (part ws rs p) on runs) runs (free TooMany) nothing_unfit.1

      pub given_there : given_room g (part vs qs p) on runs ≡ room.Extents runs
      given_there = given_is (ltb 16 (length runs)) (fits_on g (part vs qs p) on runs) runs few_fit.0 (fits_fewer on runs there few_fit.1)

      abbrev now : Table
      now = record { plan = part vs qs p; status = status }

      pub soft_free : (c : Cause) → soft_condition g drives now v (asked_on on runs) c ≡ false
      soft_free NoSuchVolume = sym (missing_same vs ws qs rs more more_pools p on there) ∙ free NoSuchVolume
      soft_free NoSuchPool = refl
      soft_free NoSuchSlice = free NoSuchSlice
      soft_free NameTaken = ap is_some (volume_gone vs qs p v out)
      soft_free WrongKind = refl
      soft_free WrongState = ready
      soft_free LastCopy = refl
      soft_free TooFew = refl
      soft_free TooMany = ap is_too_many given_there
      soft_free BadInterlace = refl
      soft_free SliceInUse = not_in_use on (free SliceInUse)
      soft_free HasParent = not_had on (free HasParent)
      soft_free Nested = not_nested on there (free Nested)
      soft_free SpareInUse = refl
      soft_free TooSmall = or_from (length runs == 0) (is_unfit (given_room g (part vs qs p) on runs)) nothing_unfit.0 (ap is_unfit given_there)
      soft_free NoSpace = ap is_short given_there
