-- The slices of a table that fits have names, so that each has a number of its own.
use Rattle.std.proofs.Common.{◌≡◌, ◌<◌, ◌==◌, ◌&&◌, ◌++◌, ◌^◌, ℕ, suc, Bool, true, false, cond, Option, None, Some, List, [], ◌∷◌, get_or, refl, sym, ◌∙◌, ap, subst, arith}
use Rattle.std.proofs.lemmas.Bool.Decides.{nat_tests}
use Rattle.std.proofs.lemmas.List.Sums.{AllPass-from_list_all}
use Rattle.std.specs.List.{All, flat_map, list_all}
use Rattle.std.specs.Option.{option_or}
use Rattle.mdv_name.proofs.Finding.{same_slice-equal, same_slice-refl, slice_at-some}
use Rattle.mdv_name.proofs.Places.{slice_code_injective}
use Rattle.mdv_name.specs.Drive.{IsSliceName}
use Rattle.mdv_fitting.specs.Below.{Base, Slice, Volume, Geometry, IsSound, Lists, OneVolume, Run, SliceAt, SliceName, SliceUse, VolumeKind, Stripe, Mirror, Raid, Soft, same_base, slice_at, slice_code, start_in, volume_runs}
use Rattle.mdv_fitting.specs.Beside.{IsNamed}
use Rattle.mdv_fitting.specs.Keys.{base_key, kind_runs_at, kind_start_at, runs_at, start_at}
use Rattle.mdv_plan.specs.Uses.{kind_runs}
use Rattle.mdv_softs.specs.Room.{kind_start}
use Rattle.mdv_fitting.specs.OnBases.{is_counted, is_kind_counted, may_count}
use Rattle.mdv_fitting.specs.Parts.{ends_at, lies, may_start_at}

found_named : (g : Geometry) (s : SliceName) (o : Option SliceAt) → IsSound g → slice_at g.slices s ≡ o → (o ≡ None → ⊥) → IsSliceName s
found_named g s None sound is some = absurd (some refl)
found_named g s (Some at) sound is some = (sound.each s at ((slice_at-some g s at sound).0 is)).named

starts_named : (g : Geometry) (lists : Lists) (s : SliceName) (start : ℕ) → IsSound g → may_start_at lists s start (slice_at g.slices s) ≡ true → IsSliceName s
starts_named g lists s start sound may = found_named g s (slice_at g.slices s) sound refl (λ none. let never = ap (may_start_at lists s start) (sym none) ∙ may in cc (never))

first_part : (a b : Bool) → (a && b) ≡ true → a ≡ true
first_part true b is = refl
first_part false b is = cc

pub lies_named : (g : Geometry) (lists : Lists) (us : List SliceUse) → IsSound g → list_all (lies g lists) us ≡ true → All IsNamed us
lies_named g lists us sound lie k d within =
    let u = get_or us k d in
    let it = AllPass-from_list_all (lies g lists) us lie k d within in
    starts_named g lists u.slice u.start sound (first_part (may_start_at lists u.slice u.start (slice_at g.slices u.slice)) (ends_at u (slice_at g.slices u.slice)) it)

abbrev pub IsBaseNamed : Base → Type 0
IsBaseNamed (Slice s) = IsSliceName s
IsBaseNamed (Volume v) = Unit {0}

abbrev pub IsKindNamed : VolumeKind → Type 0
IsKindNamed (Soft s) = IsBaseNamed s.base
IsKindNamed _ = Unit {0}

abbrev pub IsVolumeNamed : OneVolume → Type 0
IsVolumeNamed w = IsKindNamed w.kind

kind_named : (g : Geometry) (lists : Lists) (kind : VolumeKind) → IsSound g → is_kind_counted g lists kind ≡ true → IsKindNamed kind
kind_named g lists (Soft s) sound counted = base_named s.base counted
  where
    base_named : (b : Base) → may_count g lists b s.start ≡ true → IsBaseNamed b
    base_named (Slice n) may = starts_named g lists n s.start sound may
    base_named (Volume v) may = tt
kind_named g lists (Stripe s) sound counted = tt
kind_named g lists (Mirror m) sound counted = tt
kind_named g lists (Raid r) sound counted = tt

pub counted_named : (g : Geometry) (lists : Lists) (vs : List OneVolume) → IsSound g → list_all (is_counted g lists) vs ≡ true → All IsVolumeNamed vs
counted_named g lists vs sound counted k d within = kind_named g lists (get_or vs k d).kind sound (AllPass-from_list_all (is_counted g lists) vs counted k d within)

short_code : (s : SliceName) → IsSliceName s → slice_code s < 2 ^ 32
short_code s named = omega (arith, named.drive.controller, named.drive.target, named.drive.disk, named.slice)

-- a base has a number of its own
pub one_base : (a b : Base) → IsBaseNamed a → IsBaseNamed b → base_key a ≡ base_key b → a ≡ b
one_base (Slice s) (Slice t) first second same = ap Slice (slice_code_injective s t first.drive second.drive (omega (arith, first.slice)) (omega (arith, second.slice)) same)
one_base (Slice s) (Volume v) first second same = absurd (omega (arith, short_code s first, same))
one_base (Volume v) (Slice t) first second same = absurd (omega (arith, short_code t second, same))
one_base (Volume v) (Volume w) first second same =
    let number : v.0 ≡ w.0 = omega (arith, same) in
    λ i. Volume (record { 0 = number i })

pub same_base-refl : (b : Base) → same_base b b ≡ true
same_base-refl (Slice s) = same_slice-refl s
same_base-refl (Volume v) = grind (arith, nat_tests)

same_base-equal : (a b : Base) → same_base a b ≡ true → a ≡ b
same_base-equal (Slice s) (Slice t) same = ap Slice (same_slice-equal s t same)
same_base-equal (Slice s) (Volume v) same = cc
same_base-equal (Volume v) (Slice t) same = cc
same_base-equal (Volume v) (Volume w) same =
    let number : v.0 ≡ w.0 = grind (arith, nat_tests) in
    λ i. Volume (record { 0 = number i })

-- bases are the same where their numbers are
pub key_tells : (a b : Base) → IsBaseNamed a → IsBaseNamed b → (base_key a == base_key b) ≡ same_base a b
key_tells a b first second =
    elim (base_key a == base_key b) as (λ t. (base_key a == base_key b) ≡ t → t ≡ same_base a b) [
      | true ↦ λ is.
          let keys : base_key a ≡ base_key b = grind (arith, nat_tests) in
          let one = one_base a b first second keys in
          sym (subst (λ (c : Base). same_base a c ≡ true) one (same_base-refl a))
      | false ↦ λ is. differ (same_base a b) refl is
    ] refl
  where
    differ : (t : Bool) → same_base a b ≡ t → (base_key a == base_key b) ≡ false → false ≡ t
    differ false _ is = refl
    differ true same is =
        let keys : base_key a ≡ base_key b = ap base_key (same_base-equal a b same) in
        let here : (base_key a == base_key b) ≡ true = grind (arith, nat_tests) in
        cc (here, is)

-- what is said by number is said by base
pub runs_are : (b : Base) (vs : List OneVolume) → IsBaseNamed b → All IsVolumeNamed vs → runs_at (base_key b) vs ≡ flat_map (volume_runs b) vs
runs_are b [] named all = refl
runs_are b (v ∷ vs) named all =
    ap (λ (l : List Run). l ++ runs_at (base_key b) vs) (kind_is v.kind (all 0 v (omega arith))) ∙ ap (λ (l : List Run). volume_runs b v ++ l) (runs_are b vs named (λ k d within. all (suc k) d (omega arith)))
  where
    kind_is : (kind : VolumeKind) → IsKindNamed kind → kind_runs_at (base_key b) kind ≡ kind_runs b kind
    kind_is (Soft s) one = ap (λ (t : Bool). cond t s.extents []) (key_tells s.base b one named)
    kind_is (Stripe s) one = refl
    kind_is (Mirror m) one = refl
    kind_is (Raid r) one = refl

pub starts_are : (b : Base) (vs : List OneVolume) → IsBaseNamed b → All IsVolumeNamed vs → start_at (base_key b) vs ≡ start_in vs b
starts_are b [] named all = refl
starts_are b (v ∷ vs) named all =
    ap (λ (o : Option ℕ). option_or o (start_at (base_key b) vs)) (kind_is v.kind (all 0 v (omega arith))) ∙ ap (option_or (kind_start b v.kind)) (starts_are b vs named (λ k d within. all (suc k) d (omega arith)))
  where
    kind_is : (kind : VolumeKind) → IsKindNamed kind → kind_start_at (base_key b) kind ≡ kind_start b kind
    kind_is (Soft s) one = ap (λ (t : Bool). cond t (Some s.start) None) (key_tells s.base b one named)
    kind_is (Stripe s) one = refl
    kind_is (Mirror m) one = refl
    kind_is (Raid r) one = refl
