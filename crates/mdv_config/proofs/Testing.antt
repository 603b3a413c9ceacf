-- The test of a table passes exactly where the table is of the geometry.
use Rattle.std.proofs.Common.{◌≡◌, ◌<◌, ◌≤◌, ◌+◌, ◌%◌, ◌^◌, ◌⊎◌, inl, inr, ℕ, Bool, true, false, not, refl, sym, ◌∙◌, ap, subst, List, [], ◌∷◌, length, get_or, replicate, map, Option, None, Some, arith, ltb-true, lt-ltb}
use Rattle.std.proofs.lemmas.Bool.{and_parts, and_from, eq-eqb, eqb-true, false≢true, le-leb, leb-true, not-true, not_from_false}
use Rattle.std.proofs.lemmas.Bool.Decides.{nat_tests}
use Rattle.std.proofs.lemmas.List.Sums.{AllPass-from_list_all, list_all-from_AllPass}
use Rattle.std.specs.Prelude.{◌↔◌, ◌==◌, ◌&&◌, ◌||◌, nat_le, nat_lt, All, AllPairs}
use Rattle.std.specs.List.{list_all}
use Rattle.mdv_name.proofs.Finding.{same_slice-equal, same_slice-refl, slice_at-some}
use Rattle.mdv_config.specs.Below.{SliceName, Place, Geometry, SliceAt, HasSlice, are_spaced, meets_db, same_slice, slice_at, no_set, IsSorted, Lists, One, Two, Plan, Table}
use Rattle.mdv_config.specs.Below.{Base, Slice, Volume, Component, Row, OneStripe, OneVolume, VolumeKind, Stripe}
use Rattle.mdv_config.specs.Below.{KindStatus, StripeNoted, SoftNoted, PartStatus, State, Okay, Status, VolumeStatus, SetData}
use Rattle.mdv_plan.specs.declared.status.KindStatus.TheVariants.{Mirror as MirrorNoted, Raid as RaidNoted}
use Rattle.mdv_plan.specs.declared.status.State.TheVariants.{Resyncing, Maintenance, LastErred}
use Rattle.mdv_plan.specs.declared.volume.VolumeKind.TheVariants.{Mirror, Raid, Soft}
use Rattle.mdv_config.specs.Lists.{places_of, component_slices}
use Rattle.mdv_config.specs.Slices.{IsSound, Overlaps, overlaps_by}
use Rattle.mdv_config.specs.Table.{IsPlaceIn, IsPlaceOf, IsPlacesOf, IsListsOf, IsPartIn, IsPartOn, IsRowOf, IsRowsOf, IsKindOf, IsApart, IsLocal, IsOfGeometry}
use Rattle.mdv_config.specs.Table.{quiet_kind, quiet_part, quiet_status, quiet_volume, row_depth, volume_key, width, width_of}
use Rattle.mdv_config.specs.Tests.{pairs_pass, is_empty, is_there_and, is_place_in, is_place_of, same_place, do_differ, are_places_of, are_lists_of, is_part_in, is_part_on, is_row_of, are_rows_of, is_kind_of, are_volumes, are_apart}
use Rattle.mdv_config.specs.Tests.{is_no_set, is_local, is_okay, is_quiet_part, is_quiet_stripe, is_soft_noted, is_quiet_kind, is_quiet_volume, are_quiet, is_quiet, is_of_geometry}
use Rattle.mdv_config.proofs.Deciding.{overlaps_by-true}
use Rattle.mdv_config.proofs.Pairs.{AllPairs-cons, AllPairs-first, AllPairs-rest}
use Rattle.mdv_config.proofs.Quiet.{all_replicated, length_replicated, no_set_is, none-true, quiet_part_is, replicated}

-- what a test tells, in other words
told : {b : Bool} {P Q : Type 0} → b ≡ true ↔ P → (P → Q) → (Q → P) → b ≡ true ↔ Q
told test there back = (λ is. there (test.0 is), λ has. test.1 (back has))

itself : (b : Bool) → b ≡ true ↔ (b ≡ true)
itself b = (λ is. is, λ is. is)

isn't : (b : Bool) → not b ≡ true ↔ (b ≡ false)
isn't b = (not-true b, not_from_false b)

never : (b : Bool) {P : Type 0} → b ≡ true ↔ P → not b ≡ true ↔ (P → ⊥)
never true test = (λ is. absurd (false≢true is), λ none. absurd (none (test.0 refl)))
never false test = (λ is has. absurd (false≢true (test.1 has)), λ none. refl)

both : {a b : Bool} {P Q : Type 0} → a ≡ true ↔ P → b ≡ true ↔ Q → (a && b) ≡ true ↔ (P × Q)
both {a} {b} first second = (λ is. let parts = and_parts a b is in (first.0 parts.0, second.0 parts.1), λ has. and_from a b (first.1 has.0) (second.1 has.1))

either : (a b : Bool) {P Q : Type 0} → a ≡ true ↔ P → b ≡ true ↔ Q → (a || b) ≡ true ↔ (P ⊎ Q)
either true b first second = (λ is. inl (first.0 refl), λ has. refl)
either false b first second = (
  λ is. inr (second.0 is),
  λ has. elim has [
    | inl p ↦ absurd (false≢true (first.1 p))
    | inr q ↦ second.1 q
  ],
)

below : (m n : ℕ) → nat_lt m n ≡ true ↔ (m < n)
below m n = (ltb-true m n, lt-ltb m n)

up_to : (m n : ℕ) → nat_le m n ≡ true ↔ (m ≤ n)
up_to m n = (leb-true m n, le-leb m n)

same : (m n : ℕ) → (m == n) ≡ true ↔ (m ≡ n)
same m n = (eqb-true m n, eq-eqb m n)

all_pass : {X : Type 0} (p : X → Bool) (P : X → Type 0) → ((x : X) → p x ≡ true ↔ P x) → (xs : List X) → list_all p xs ≡ true ↔ All P xs
all_pass p P each xs = (
  λ is k d within. (each (get_or xs k d)).0 (AllPass-from_list_all p xs is k d within),
  λ all. list_all-from_AllPass p xs (λ k d within. (each (get_or xs k d)).1 (all k d within)),
)

pairs_are : {X : Type 0} (q : X → X → Bool) (R : X → X → Type 0) → ((x y : X) → q x y ≡ true ↔ R x y) → (xs : List X) → pairs_pass q xs ≡ true ↔ AllPairs R xs
pairs_are q R each [] = (λ is i j d before within. absurd (omega arith), λ pairs. refl)
pairs_are q R each (x ∷ xs) =
    told (both (all_pass (q x) (R x) (each x) xs) (pairs_are q R each xs))
    (λ has. AllPairs-cons R x xs has.0 has.1)
    (λ pairs. (AllPairs-first R x xs pairs, AllPairs-rest R x xs pairs))

place_in : (p : Place) (at : SliceAt) → is_place_in p at ≡ true ↔ IsPlaceIn at p
place_in p at =
    told (both (both (itself at.db) (below p.start (2 ^ 32))) (both (both (up_to 16 p.blocks) (up_to p.blocks 8192)) (up_to (p.start + p.blocks) at.blocks)))
    (λ has. record { db = has.0.0; start = has.0.1; least = has.1.0.0; most = has.1.0.1; within = has.1.1 })
    (λ is. ((is.db, is.start), ((is.least, is.most), is.within)))

pub same_place-true : (p q : Place) → same_place p q ≡ true ↔ (p ≡ q)
same_place-true p q = (
  λ is.
      let slice = same_slice-equal p.slice q.slice (and_parts (same_slice p.slice q.slice) ((p.start == q.start) && (p.blocks == q.blocks)) is).0 in
      let rest = (and_parts (same_slice p.slice q.slice) ((p.start == q.start) && (p.blocks == q.blocks)) is).1 in
      let start : p.start ≡ q.start = grind (arith, nat_tests) in
      let blocks : p.blocks ≡ q.blocks = grind (arith, nat_tests) in
      λ i. record { slice = slice i; start = start i; blocks = blocks i },
  λ equal. subst (λ (o : Place). same_place p o ≡ true) equal (and_from (same_slice p.slice p.slice) ((p.start == p.start) && (p.blocks == p.blocks)) (same_slice-refl p.slice) (grind (arith, nat_tests))),
)

different : (ps : List Place) → do_differ ps ≡ true ↔ AllPairs (λ (p q : Place). p ≡ q → ⊥) ps
different ps = pairs_are (λ p q. not (same_place p q)) (λ p q. p ≡ q → ⊥) (λ p q. never (same_place p q) (same_place-true p q)) ps

part_in : (blocks : ℕ) (c : Component) (at : SliceAt) → is_part_in blocks c at ≡ true ↔ IsPartIn at blocks c
part_in blocks c at =
    told (both (both (isn't at.db) (same c.start 0)) (both (same c.blocks blocks) (up_to blocks at.blocks)))
    (λ has. record { plain = has.0.0; start = has.0.1; blocks_are = has.1.0; within = has.1.1 })
    (λ is. ((is.plain, is.start), (is.blocks_are, is.within)))

volumes : (vs : List OneVolume) → are_volumes vs ≡ true ↔ IsSorted volume_key 8192 vs
volumes vs =
    told (both (pairs_are (λ v w. nat_lt (volume_key v) (volume_key w)) (λ v w. volume_key v < volume_key w) (λ v w. below (volume_key v) (volume_key w)) vs) (all_pass (λ v. nat_lt (volume_key v) 8192) (λ v. volume_key v < 8192) (λ v. below (volume_key v) 8192) vs))
    (λ has. record { ascending = has.0; keys = has.1 })
    (λ is. (is.ascending, is.keys))

empty : {X : Type 0} (xs : List X) → is_empty xs ≡ true ↔ (xs ≡ [])
empty [] = (λ is. refl, λ is. refl)
empty (x ∷ xs) = (λ is. cc, λ is. cc)

no_sets : (s : SetData) → is_no_set s ≡ true ↔ (s ≡ no_set)
no_sets s =
    told (both (both (none-true s.owner) (empty s.hosts)) (both (empty s.drives) (empty s.mediators)))
    (λ has. no_set_is s has.0.0 has.0.1 has.1.0 has.1.1)
    (λ is. ((ap (λ (o : SetData). o.owner) is, ap (λ (o : SetData). o.hosts) is), (ap (λ (o : SetData). o.drives) is, ap (λ (o : SetData). o.mediators) is)))

locals : (p : Plan) → is_local p ≡ true ↔ IsLocal p
locals p =
    told (both (no_sets p.set) (both (empty p.pending) (empty p.pools)))
    (λ has. record { set = has.0; pending = has.1.0; pools = has.1.1 })
    (λ is. (is.set, (is.pending, is.pools)))

okay : (s : State) → is_okay s ≡ true ↔ (s ≡ Okay)
okay Okay = (λ is. refl, λ is. refl)
okay (Resyncing what) = (λ is. cc, λ is. cc)
okay Maintenance = (λ is. cc, λ is. cc)
okay LastErred = (λ is. cc, λ is. cc)

quiet_state : (p : PartStatus) → is_quiet_part p ≡ true ↔ (p ≡ quiet_part)
quiet_state p =
    told (both (okay p.state) (none-true p.spare))
    (λ has. quiet_part_is p has.0 has.1)
    (λ is. (ap (λ (o : PartStatus). o.state) is, ap (λ (o : PartStatus). o.spare) is))

quiet_states : (n : ℕ) (ps : List PartStatus) → (length ps == n && list_all is_quiet_part ps) ≡ true ↔ (ps ≡ replicate n quiet_part)
quiet_states n ps =
    told (both (same (length ps) n) (all_pass is_quiet_part (λ p. p ≡ quiet_part) quiet_state ps))
    (λ has. replicated quiet_part ps n has.0 has.1)
    (λ is. (ap length is ∙ length_replicated quiet_part n, subst (All (λ (p : PartStatus). p ≡ quiet_part)) (sym is) (all_replicated quiet_part n)))

abbrev noted_parts : KindStatus → List PartStatus
noted_parts (StripeNoted ps) = ps
noted_parts other = []

quiet_stripe : (one : OneStripe) (s : KindStatus) → is_quiet_stripe one s ≡ true ↔ (s ≡ quiet_kind (Stripe one))
quiet_stripe one (StripeNoted ps) = told (quiet_states (width_of one) ps) (λ is. ap StripeNoted is) (λ is. ap noted_parts is)
quiet_stripe one (MirrorNoted m) = (λ is. cc, λ is. cc)
quiet_stripe one (RaidNoted r) = (λ is. cc, λ is. cc)
quiet_stripe one SoftNoted = (λ is. cc, λ is. cc)

soft_noted : (s : KindStatus) → is_soft_noted s ≡ true ↔ (s ≡ SoftNoted)
soft_noted (StripeNoted ps) = (λ is. cc, λ is. cc)
soft_noted (MirrorNoted m) = (λ is. cc, λ is. cc)
soft_noted (RaidNoted r) = (λ is. cc, λ is. cc)
soft_noted SoftNoted = (λ is. refl, λ is. refl)

quiet_kinds : (k : VolumeKind) (s : KindStatus) → is_quiet_kind k s ≡ true ↔ (s ≡ quiet_kind k)
quiet_kinds (Stripe one) s = quiet_stripe one s
quiet_kinds (Mirror m) s = soft_noted s
quiet_kinds (Raid r) s = soft_noted s
quiet_kinds (Soft o) s = soft_noted s

quiet_one : (v : OneVolume) (s : VolumeStatus) → is_quiet_volume v s ≡ true ↔ (s ≡ quiet_volume v)
quiet_one v s =
    told (both (same s.number.0 v.number.0) (quiet_kinds v.kind s.kind))
    (λ has. λ i. record { number = record { 0 = has.0 i }; kind = has.1 i })
    (λ is. (ap (λ (o : VolumeStatus). o.number.0) is, ap (λ (o : VolumeStatus). o.kind) is))

abbrev head_of : VolumeStatus → List VolumeStatus → VolumeStatus
head_of d [] = d
head_of d (s ∷ ss) = s

abbrev rest_of : List VolumeStatus → List VolumeStatus
rest_of [] = []
rest_of (s ∷ ss) = ss

quiet_all : (vs : List OneVolume) (ss : List VolumeStatus) → are_quiet vs ss ≡ true ↔ (ss ≡ map quiet_volume vs)
quiet_all [] [] = (λ is. refl, λ is. refl)
quiet_all (v ∷ vs) (s ∷ ss) =
    told (both (quiet_one v s) (quiet_all vs ss))
    (λ has. λ i. has.0 i ∷ has.1 i)
    (λ is. (ap (head_of s) is, ap rest_of is))
quiet_all [] (s ∷ ss) = (λ is. cc, λ is. cc)
quiet_all (v ∷ vs) [] = (λ is. cc, λ is. cc)

quiet : (p : Plan) (s : Status) → is_quiet p s ≡ true ↔ (s ≡ quiet_status p)
quiet p s =
    told (both (quiet_all p.volumes s.volumes) (empty s.spares))
    (λ has. λ i. record { volumes = has.0 i; spares = has.1 i })
    (λ is. (ap (λ (o : Status). o.volumes) is, ap (λ (o : Status). o.spares) is))

module _ (g : Geometry) (sound : IsSound g) where
  there : (name : SliceName) (test : SliceAt → Bool) (P : SliceAt → Type 0) → ((at : SliceAt) → test at ≡ true ↔ P at) → is_there_and test (slice_at g.slices name) ≡ true ↔ (at : SliceAt) × (HasSlice g.slices name at × P at)
  there name test P each = (found (slice_at g.slices name) refl, λ has. ap (is_there_and test) ((slice_at-some g name has.0 sound).1 has.1.0) ∙ (each has.0).1 has.1.1)
    where
      found : (o : Option SliceAt) → slice_at g.slices name ≡ o → is_there_and test o ≡ true → (at : SliceAt) × (HasSlice g.slices name at × P at)
      found None is passes = absurd (false≢true passes)
      found (Some at) is passes = (at, ((slice_at-some g name at sound).0 is, (each at).0 passes))

  place : (p : Place) → is_place_of g p ≡ true ↔ IsPlaceOf g p
  place p =
      told (both (there p.slice (is_place_in p) (λ at. IsPlaceIn at p) (place_in p)) (isn't (meets_db g p.slice)))
      (λ has. record { at = has.0.0; has = has.0.1.0; lies = has.0.1.1; clear = has.1 })
      (λ is. ((is.at, (is.has, is.lies)), is.clear))

  places : (ps : List Place) → are_places_of g ps ≡ true ↔ IsPlacesOf g ps
  places ps =
      told (both (both (up_to 1 (length ps)) (up_to (length ps) 50)) (both (itself (are_spaced (One ps))) (both (different ps) (all_pass (is_place_of g) (IsPlaceOf g) place ps))))
      (λ has. record { some = has.0.0; few = has.0.1; spaced = has.1.0; differ = has.1.1.0; each = has.1.1.1 })
      (λ is. ((is.some, is.few), (is.spaced, (is.differ, is.each))))

  lists : (l : Lists) → are_lists_of g l ≡ true ↔ IsListsOf g l
  lists (One ps) = places ps
  lists (Two old new) =
      told (both (places old) (both (places new) (itself (are_spaced (Two old new)))))
      (λ has. (has.0, has.1.0, has.1.1))
      (λ is. (is.0, (is.1, is.2)))

  part_on : (blocks : ℕ) (c : Component) (b : Base) → is_part_on g blocks c b ≡ true ↔ IsPartOn g blocks c b
  part_on blocks c (Slice s) =
      told (both (there s (is_part_in blocks c) (λ at. IsPartIn at blocks c) (part_in blocks c)) (isn't (meets_db g s)))
      (λ has. record { at = has.0.0; has = has.0.1.0; lies = has.0.1.1; clear = has.1 })
      (λ is. ((is.at, (is.has, is.lies)), is.clear))
  part_on blocks c (Volume v) = (λ is. absurd (false≢true is), λ is. absurd is)

  row : (r : Row) → is_row_of g r ≡ true ↔ IsRowOf g r
  row r =
      let depth = row_depth r in
      let units = either (width r == 1) (depth % r.interlace == 0) (same (width r) 1) (same (depth % r.interlace) 0) in
      let each = all_pass (λ c. is_part_on g depth c c.on) (λ c. IsPartOn g depth c c.on) (λ c. part_on depth c c.on) r.components in
      told (both (both (up_to 16 r.interlace) (up_to r.interlace 204800)) (both (below 0 depth) (both units each)))
      (λ has. record { least = has.0.0; most = has.0.1; some = has.1.0; units = has.1.1.0; each = has.1.1.1 })
      (λ is. ((is.least, is.most), (is.some, (is.units, is.each))))

  rows : (s : OneStripe) → are_rows_of g s ≡ true ↔ IsRowsOf g s
  rows s =
      told (both (both (below 0 (length s.rows)) (up_to (width_of s) 100)) (both (all_pass (is_row_of g) (IsRowOf g) row s.rows) (none-true s.spares)))
      (λ has. record { some = has.0.0; few = has.0.1; each = has.1.0; spares = has.1.1 })
      (λ is. ((is.some, is.few), (is.each, is.spares)))

  kind : (k : VolumeKind) → is_kind_of g k ≡ true ↔ IsKindOf g k
  kind (Stripe s) = rows s
  kind (Mirror m) = (λ is. absurd (false≢true is), λ is. absurd is)
  kind (Raid r) = (λ is. absurd (false≢true is), λ is. absurd is)
  kind (Soft s) = (λ is. absurd (false≢true is), λ is. absurd is)

  apart_by : (m n : SliceName) → not (overlaps_by g.slices m n) ≡ true ↔ (Overlaps g.slices m n → ⊥)
  apart_by m n = never (overlaps_by g.slices m n) (overlaps_by-true g sound m n)

  apart : (ps : List Place) (slices : List SliceName) → are_apart g ps slices ≡ true ↔ IsApart g ps slices
  apart ps slices =
      let beside = λ (n : SliceName). all_pass (λ p. not (overlaps_by g.slices p.slice n)) (λ p. Overlaps g.slices p.slice n → ⊥) (λ p. apart_by p.slice n) ps in
      told (both (pairs_are (λ m n. not (overlaps_by g.slices m n)) (λ m n. Overlaps g.slices m n → ⊥) apart_by slices) (all_pass (λ n. list_all (λ p. not (overlaps_by g.slices p.slice n)) ps) (λ n. All (λ p. Overlaps g.slices p.slice n → ⊥) ps) beside slices))
      (λ has. record { components = has.0; replicas = has.1 })
      (λ is. (is.components, is.replicas))

  pub is_of_geometry-true : (t : Table) → is_of_geometry g t ≡ true ↔ IsOfGeometry g t
  unfolding is_of_geometry
  is_of_geometry-true t =
      let vs = t.plan.volumes in
      let kinds = all_pass (λ (v : OneVolume). is_kind_of g v.kind) (λ v. IsKindOf g v.kind) (λ v. kind v.kind) vs in
      told (both (both (lists t.plan.lists) (volumes vs)) (both kinds (both (apart (places_of t.plan.lists) (component_slices vs)) (both (locals t.plan) (quiet t.plan t.status)))))
      (λ has. record { lists = has.0.0; numbers = has.0.1; kinds = has.1.0; apart = has.1.1.0; alone = has.1.1.1.0; quiet = has.1.1.1.1 })
      (λ is. ((is.lists, is.numbers), (is.kinds, (is.apart, (is.alone, is.quiet)))))
