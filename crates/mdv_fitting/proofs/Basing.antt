-- Soft partitions lie on their bases where they are counted from one block, and the extents of each base lie apart.
use Rattle.std.proofs.Common.{◌≡◌, ◌<◌, ℕ, zero, suc, Bool, true, cond, Option, None, Some, List, [], ◌∷◌, length, get_or, refl, sym, ◌∙◌, ap, subst, arith}
use Rattle.std.proofs.lemmas.Bool.Decides.{nat_tests}
use Rattle.std.proofs.lemmas.List.Sums.{AllPass-from_list_all, list_all-from_AllPass}
use Rattle.std.specs.List.{All, list_all}
use Rattle.std.specs.Option.{option_or}
use Rattle.std.specs.Prelude.{◌↔◌, IsTrue, is_some, unwrap_or}
use Rattle.mdv_fitting.specs.Below.{Base, Slice, Volume, Geometry, IsSound, LieApart, OneSoft, OneVolume, Plan, VolumeKind, Stripe, Mirror, Raid, Soft, blocks_behind, runs_on, size_on, slice_at, start_in, start_on}
use Rattle.mdv_fitting.specs.Keys.{base_key, runs_at, start_at}
use Rattle.mdv_fitting.specs.OnBases.{AreOnBases, IsKindOnBase, is_counted, is_kind_counted}
use Rattle.mdv_fitting.specs.Runs.{AreSameSize, IsKindApart, IsVolumeApart, SameSize, size_from, soft_size}
use Rattle.mdv_fitting.specs.Starts.{is_joined_in, is_kind_joined_in, is_some_at}
use Rattle.mdv_components.specs.Room.{start_of}
use Rattle.mdv_softs.specs.Room.{kind_start}
use Rattle.mdv_fitting.proofs.Named.{IsBaseNamed, IsKindNamed, IsVolumeNamed, counted_named, one_base, runs_are, same_base-refl, starts_are}

start_is : (start : ℕ) (o : Option ℕ) → is_some_at start o ≡ true → o ≡ Some start
start_is start None is = cc
start_is start (Some s) is =
    let same : s ≡ start = grind (arith, nat_tests) in
    ap Some same

is_start : (start other : ℕ) (o : Option ℕ) → is_some o ≡ true → unwrap_or o other ≡ start → is_some_at start o ≡ true
is_start start other None some is = cc
is_start start other (Some s) some is = grind (arith, nat_tests)

-- the base of a soft partition has a first one
some_start : (vs : List OneVolume) (s : OneSoft) (i : ℕ) (d : OneVolume) → i < length vs → (get_or vs i d).kind ≡ Soft s → is_some (start_in vs s.base) ≡ true
some_start [] s i d within is = absurd (omega arith)
some_start (v ∷ vs) s zero d within is =
    let here : kind_start s.base v.kind ≡ Some s.start = ap (kind_start s.base) is ∙ ap (λ (b : Bool). cond b (Some s.start) None) (same_base-refl s.base) in
    ap (λ (o : Option ℕ). is_some (option_or o (start_in vs s.base))) here
some_start (v ∷ vs) s (suc i) d within is = either (kind_start s.base v.kind) (some_start vs s i d (omega arith) is)
  where
    either : (o : Option ℕ) → is_some (start_in vs s.base) ≡ true → is_some (option_or o (start_in vs s.base)) ≡ true
    either None some = some
    either (Some x) some = refl

size_is : (g : Geometry) (p : Plan) (b : Base) (start : ℕ) → start_on g p b ≡ start → size_on g p b ≡ size_from g p b start
size_is g p (Slice n) start is = ap (λ (k : ℕ). blocks_behind k (slice_at g.slices n)) is
size_is g p (Volume v) start is = refl

on_base : (g : Geometry) (p : Plan) (kind : VolumeKind) → IsKindNamed kind → All IsVolumeNamed p.volumes → is_kind_counted g p.lists kind ≡ true → is_kind_joined_in p.volumes kind ≡ true → IsKindApart g p kind → IsKindOnBase g p kind
on_base g p (Soft s) named all counted joined apart =
    let start : start_in p.volumes s.base ≡ Some s.start = sym (starts_are s.base p.volumes named all) ∙ start_is s.start (start_at (base_key s.base) p.volumes) joined in
    let together : start_on g p s.base ≡ s.start = on_is start in
    let runs : runs_at (base_key s.base) p.volumes ≡ runs_on s.base p = runs_are s.base p.volumes named all in
    let size : soft_size g p s ≡ size_on g p s.base = sym (size_is g p s.base s.start together) in
    record { counted = counted; together = together; apart = subst (λ (n : ℕ). LieApart n (runs_on s.base p)) size (subst (LieApart (soft_size g p s)) runs apart) }
  where
    on_is : start_in p.volumes s.base ≡ Some s.start → start_on g p s.base ≡ s.start
    on_is start = ap (λ (o : Option ℕ). unwrap_or o (start_of g p s.base)) start
on_base g p (Stripe s) named all counted joined apart = tt
on_base g p (Mirror s) named all counted joined apart = tt
on_base g p (Raid s) named all counted joined apart = tt

kind_counts : (g : Geometry) (p : Plan) (kind : VolumeKind) → IsKindOnBase g p kind → is_kind_counted g p.lists kind ≡ true
kind_counts g p (Soft s) on = on.counted
kind_counts g p (Stripe s) on = refl
kind_counts g p (Mirror s) on = refl
kind_counts g p (Raid s) on = refl

kind_joins : (g : Geometry) (p : Plan) (kind : VolumeKind) (i : ℕ) (d : OneVolume) → i < length p.volumes → (get_or p.volumes i d).kind ≡ kind → IsKindNamed kind → All IsVolumeNamed p.volumes → IsKindOnBase g p kind → is_kind_joined_in p.volumes kind ≡ true
kind_joins g p (Soft s) i d within is named all on =
    let some = some_start p.volumes s i d within is in
    ap (is_some_at s.start) (starts_are s.base p.volumes named all) ∙ is_start s.start (start_of g p s.base) (start_in p.volumes s.base) some on.together
kind_joins g p (Stripe s) i d within is named all on = refl
kind_joins g p (Mirror s) i d within is named all on = refl
kind_joins g p (Raid s) i d within is named all on = refl

kind_apart : (g : Geometry) (p : Plan) (kind : VolumeKind) → IsKindNamed kind → All IsVolumeNamed p.volumes → IsKindOnBase g p kind → IsKindApart g p kind
kind_apart g p (Soft s) named all on =
    let runs : runs_on s.base p ≡ runs_at (base_key s.base) p.volumes = sym (runs_are s.base p.volumes named all) in
    let size : size_on g p s.base ≡ soft_size g p s = size_is g p s.base s.start on.together in
    subst (λ (n : ℕ). LieApart n (runs_at (base_key s.base) p.volumes)) size (subst (LieApart (size_on g p s.base)) runs on.apart)
kind_apart g p (Stripe s) named all on = tt
kind_apart g p (Mirror s) named all on = tt
kind_apart g p (Raid s) named all on = tt

-- soft partitions on one base find it as large, since they count from one block
pub one_size : (g : Geometry) (p : Plan) → IsSound g → list_all (is_counted g p.lists) p.volumes ≡ true → list_all (is_joined_in p.volumes) p.volumes ≡ true → AreSameSize g p
one_size g p sound counted joined i d within j e inside =
    let all = counted_named g p.lists p.volumes sound counted in
    both (get_or p.volumes i d).kind (get_or p.volumes j e).kind (all i d within) (all j e inside) (AllPass-from_list_all (is_joined_in p.volumes) p.volumes joined i d within) (AllPass-from_list_all (is_joined_in p.volumes) p.volumes joined j e inside)
  where
    soft : (s t : OneSoft) → IsBaseNamed s.base → IsBaseNamed t.base → is_some_at s.start (start_at (base_key s.base) p.volumes) ≡ true → is_some_at t.start (start_at (base_key t.base) p.volumes) ≡ true → base_key s.base ≡ base_key t.base → soft_size g p s ≡ soft_size g p t
    soft s t first second one also key =
        let base = one_base s.base t.base first second key in
        let here = start_is s.start (start_at (base_key s.base) p.volumes) one in
        let there = start_is t.start (start_at (base_key t.base) p.volumes) also in
        let starts : Some s.start ≡ Some t.start = sym here ∙ ap (λ (k : ℕ). start_at k p.volumes) key ∙ there in
        let start : s.start ≡ t.start = cc (starts) in
        ap (λ (b : Base). size_from g p b s.start) base ∙ ap (size_from g p t.base) start

    both : (a b : VolumeKind) → IsKindNamed a → IsKindNamed b → is_kind_joined_in p.volumes a ≡ true → is_kind_joined_in p.volumes b ≡ true → SameSize g p a b
    both (Soft s) (Soft t) first second one also = soft s t first second one also
    both (Soft s) (Stripe t) first second one also = tt
    both (Soft s) (Mirror t) first second one also = tt
    both (Soft s) (Raid t) first second one also = tt
    both (Stripe s) b first second one also = tt
    both (Mirror s) b first second one also = tt
    both (Raid s) b first second one also = tt

pub bases_count : (g : Geometry) (p : Plan) → AreOnBases g p → list_all (is_counted g p.lists) p.volumes ≡ true
bases_count g p on = list_all-from_AllPass (is_counted g p.lists) p.volumes (λ k d within. kind_counts g p (get_or p.volumes k d).kind (on k d within))

pub bases_join : (g : Geometry) (p : Plan) → IsSound g → AreOnBases g p → list_all (is_joined_in p.volumes) p.volumes ≡ true
bases_join g p sound on =
    let all = counted_named g p.lists p.volumes sound (bases_count g p on) in
    list_all-from_AllPass (is_joined_in p.volumes) p.volumes (λ k d within. kind_joins g p (get_or p.volumes k d).kind k d within refl (all k d within) all (on k d within))

pub bases_are : (g : Geometry) (p : Plan) (answer : Bool) → IsSound g → list_all (is_counted g p.lists) p.volumes ≡ true → list_all (is_joined_in p.volumes) p.volumes ≡ true → IsTrue answer ↔ All (IsVolumeApart g p) p.volumes → IsTrue answer ↔ AreOnBases g p
bases_are g p answer sound counted joined is =
    let all = counted_named g p.lists p.volumes sound counted in (
      λ true k d within. on_base g p (get_or p.volumes k d).kind (all k d within) all (AllPass-from_list_all (is_counted g p.lists) p.volumes counted k d within) (AllPass-from_list_all (is_joined_in p.volumes) p.volumes joined k d within) (is.0 true k d within),
      λ on. is.1 (λ k d within. kind_apart g p (get_or p.volumes k d).kind (all k d within) all (on k d within)),
    )
