-- What is printed of a plan, made in the order of need, is the plan.
use Rattle.std.proofs.Common.{◌≡◌, ◌≢◌, ◌<◌, ◌≤◌, ◌+◌, ◌==◌, ◌||◌, ◌⊎◌, ◌++◌, ℕ, zero, suc, Bool, true, false, eqb, Option, None, Some, refl, sym, ◌∙◌, ap, subst, List, [], ◌∷◌, length, get_or, map, take, append_assoc, append-nil, length-append, inl, inr, arith}
use Rattle.std.specs.Prelude.{slice_get, slice_index}
use Rattle.std.specs.Option.{is_some}
use Rattle.std.specs.List.{All, Contains, filter, find, list_any, IsDistinct}
use Rattle.std.proofs.lemmas.Bool.{cases_Bool, cases_order, eq-eqb, eqb-true, false≢true, false_from_ne_true, ne_eqb, not-false, true_from_ne_false}
use Rattle.std.proofs.lemmas.List.{get_or-take, get_or_at, get_or_default, length-take-le, take_at}
use Rattle.std.proofs.lemmas.Map.Keys.{IsDistinct-from_apart, apart_from_distinct}
use Rattle.std.proofs.lemmas.Map.Steps.{length-le_from_distinct_below}
use Rattle.std.proofs.lemmas.List.Elements.{All-cons, All-nil, Contains-append_left, Contains-append_right, Contains-get_or}
use Rattle.std.proofs.lemmas.List.Folds.{Any-from_list_any, list_any-append, list_any-from_Any}
use Rattle.std.proofs.lemmas.Option.{get_or_from_slice_get, same_Some, slice_get-get_or, slice_get_within}
use Rattle.mdv_base.specs.declared.name.Named.{Named}
use Rattle.mdv_components.specs.Bases.{no_pool, pool_of, volume_of}
use Rattle.mdv_plan.specs.Sorted.{IsAscending}
use Rattle.mdv_plan.specs.Named.{base_below, kind_below}
use Rattle.mdv_print.specs.Entries.{entries_of, entry_of_pool, entry_of_volume, kind_entry}
use Rattle.mdv_print.specs.Layers.{AreAllVolumes, IsLayered}
use Rattle.mdv_print.specs.Order.{uppermost, with_below}
use Rattle.mdv_print.proofs.Complete.{all_told, own_at}
use Rattle.mdv_print.proofs.Walking.{found_number}
use Rattle.mdv_print.proofs.Needs.{base_stands, components_stand, none_waits, rows_stand, submirrors_stand, volume_named}
use Rattle.mdv_tab.specs.Order.{IsNext, IsOrderOfNeed, Needs, Waits, entry_set, makes, pool_names, stands_on}
use Rattle.mdv_tab.specs.declared.entry.Entry.{Entry}
use Rattle.mdv_remake.specs.Asked.{asked_of}
use Rattle.mdv_remake.specs.Below.{Change, DriveNo, Geometry, OnePool, OneVolume, Plan, PoolId, Table, VolId, VolumeKind, Stripe, Mirror, Raid, Soft, emptied}
use Rattle.mdv_remake.specs.Making.{AreMade, after, at_places}
use Rattle.mdv_remake.specs.Now.{Fits, IsAsNow, IsNow, IsPoolNow, IsVolumeNow, PoolFits, pool_asked, volume_asked}
use Rattle.mdv_remake.proofs.Heights.{IsBelow, all_below, in_layers, pool_is_there, some_of}
use Rattle.mdv_remake.proofs.Kept.{above, filter_all, filter_none, filter_same, find-behind, find-first, rest_rises}
use Rattle.mdv_remake.proofs.Mirrors.{VolumeIn}
use Rattle.mdv_remake.proofs.Parts.{PoolIn, part}
use Rattle.mdv_remake.proofs.Ready.{AreReady, found}
use Rattle.mdv_remake.proofs.Softs.{StartsNow}
use Rattle.mdv_remake.proofs.Steps.{IsStep, kind_pool, pool_step, volume_step}

-- what an entry makes
abbrev pub made_at : Option Entry → Option Named
made_at None = None
made_at (Some e) = makes e

abbrev pub is_volume_of : ℕ → Option Named → Bool
is_volume_of n None = false
is_volume_of n (Some (Named.Volume v)) = v.0 == n
is_volume_of n (Some (Named.Pool q)) = false

abbrev pub is_pool_of : ℕ → Option Named → Bool
is_pool_of n None = false
is_pool_of n (Some (Named.Volume v)) = false
is_pool_of n (Some (Named.Pool q)) = q.0 == n

-- the numbers of the volumes, and of the pools, that the entries at these places make
abbrev pub volumes_at : List Entry → List ℕ → ℕ → Bool
volumes_at es done n = list_any (λ i. is_volume_of n (made_at (slice_get es i))) done

abbrev pub pools_at : List Entry → List ℕ → ℕ → Bool
pools_at es done n = list_any (λ i. is_pool_of n (made_at (slice_get es i))) done

makes_volume : (set : Option (List ℕ)) (v : VolId) (kind : VolumeKind) → makes (kind_entry (record { set = set; volume = v }) kind) ≡ Some (Named.Volume v)
makes_volume set v (Stripe s) = refl
makes_volume set v (Mirror m) = refl
makes_volume set v (Raid r) = refl
makes_volume set v (Soft s) = refl

set_of_kind : (set : Option (List ℕ)) (v : VolId) (kind : VolumeKind) → entry_set (kind_entry (record { set = set; volume = v }) kind) ≡ set
set_of_kind set v (Stripe s) = refl
set_of_kind set v (Mirror m) = refl
set_of_kind set v (Raid r) = refl
set_of_kind set v (Soft s) = refl

-- the set changes nothing of what is asked
asked_same : (set : Option (List ℕ)) (v : VolId) (kind : VolumeKind) → asked_of (kind_entry (record { set = set; volume = v }) kind) ≡ volume_asked (record { number = v; kind = kind })
asked_same set v (Stripe s) = refl
asked_same set v (Mirror m) = refl
asked_same set v (Raid r) = refl
asked_same set v (Soft s) = refl

stands_is : (set : Option (List ℕ)) (v : VolId) (kind : VolumeKind) → stands_on (kind_entry (record { set = set; volume = v }) kind) ≡ map volume_named (kind_below kind) ++ pool_names (kind_pool kind)
stands_is set v (Stripe s) = ap (λ (l : List Named). l ++ pool_names s.spares) (rows_stand s.rows)
stands_is set v (Mirror m) = submirrors_stand m.submirrors ∙ sym (append-nil (map volume_named m.submirrors))
stands_is set v (Raid r) = ap (λ (l : List Named). l ++ pool_names r.spares) (components_stand r.columns)
stands_is set v (Soft s) = base_stands s.base ∙ sym (append-nil (map volume_named (base_below s.base)))

-- the place of a value that is found
place_of : {X : Type 0} (test : X → Bool) (xs : List X) (x : X) → find test xs ≡ Some x → (k : ℕ) × (k < length xs) × (slice_get xs k ≡ Some x)
place_of test [] x is = cc
place_of {X = X} test (y ∷ ys) x is = elim (cases_Bool (test y)) [
  | inl here ↦ (0, omega arith, sym (find-first test y ys here) ∙ is)
  | inr away ↦ let behind = place_of test ys x (sym (find-behind test y ys away) ∙ is) in (suc behind.0, omega (arith, behind.1), behind.2)
]

get-append_left : {X : Type 0} (xs ys : List X) (k : ℕ) (x : X) → slice_get xs k ≡ Some x → slice_get (xs ++ ys) k ≡ Some x
get-append_left [] ys k x is = cc
get-append_left (y ∷ xs) ys zero x is = is
get-append_left (y ∷ xs) ys (suc k) x is = get-append_left xs ys k x is

get-append_right : {X : Type 0} (xs ys : List X) (k : ℕ) → slice_get (xs ++ ys) (length xs + k) ≡ slice_get ys k
get-append_right [] ys k = let e : 0 + k ≡ k = omega arith in ap (slice_get ys) e
get-append_right (x ∷ xs) ys k = let e : suc (length xs) + k ≡ suc (length xs + k) = omega arith in ap (slice_get (x ∷ (xs ++ ys))) e ∙ get-append_right xs ys k

get-map : {X Y : Type 0} (f : X → Y) (xs : List X) (k : ℕ) (x : X) → slice_get xs k ≡ Some x → slice_get (map f xs) k ≡ Some (f x)
get-map f [] k x is = cc
get-map f (y ∷ xs) zero x is = let same : y ≡ x = cc in ap (λ z. Some (f z)) same
get-map f (y ∷ xs) (suc k) x is = get-map f xs k x is

-- a value of both, or of the one or the other
get_cases : {X : Type 0} (xs ys : List X) (k : ℕ) (x : X) → slice_get (xs ++ ys) k ≡ Some x → (slice_get xs k ≡ Some x) ⊎ ((m : ℕ) × (k ≡ length xs + m) × (slice_get ys m ≡ Some x))
get_cases [] ys k x is = inr (k, omega arith, is)
get_cases (y ∷ xs) ys zero x is = inl is
get_cases (y ∷ xs) ys (suc k) x is = elim (get_cases xs ys k x is) [
  | inl in_xs ↦ inl in_xs
  | inr in_ys ↦ inr (in_ys.0, omega (arith, in_ys.1), in_ys.2)
]

get_map_back : {X Y : Type 0} (f : X → Y) (xs : List X) (k : ℕ) (y : Y) → slice_get (map f xs) k ≡ Some y → (x : X) × (slice_get xs k ≡ Some x) × (f x ≡ y)
get_map_back f [] k y is = cc
get_map_back f (x ∷ xs) zero y is = let same : f x ≡ y = cc in (x, refl, same)
get_map_back f (x ∷ xs) (suc k) y is = get_map_back f xs k y is

-- a place that is or isn't among others
at_more : (test : ℕ → Bool) (done : List ℕ) (i : ℕ) → list_any test (done ++ i ∷ []) ≡ (list_any test done || (test i || false))
at_more test done i = list_any-append test done (i ∷ [])

or_none : (a b : Bool) → b ≡ false → (a || (b || false)) ≡ a
or_none true b none = refl
or_none false b none = ap (λ (c : Bool). c || false) none

or_one : (a b : Bool) → b ≡ true → (a || (b || false)) ≡ true
or_one true b one = refl
or_one false b one = ap (λ (c : Bool). c || false) one

map_contains : {X Y : Type 0} (f : X → Y) (xs : List X) (k : ℕ) (d : X) → k < length xs → Contains (map f xs) (f (get_or xs k d))
map_contains f [] k d lt = absurd (omega arith)
map_contains f (x ∷ xs) zero d lt = (0, omega arith, refl)
map_contains f (x ∷ xs) (suc k) d lt = let rest = map_contains f xs k d (omega arith) in (suc rest.0, omega (arith, rest.1), rest.2)

pool_number : (n : ℕ) (qs : List OnePool) (q : OnePool) → find (λ r. r.number.0 == n) qs ≡ Some q → q.number.0 ≡ n
pool_number n [] q is = cc
pool_number n (r ∷ qs) q is = elim (cases_Bool (r.number.0 == n)) [
  | inl here ↦ let same : r ≡ q = same_Some r q (sym (find-first (λ (x : OnePool). x.number.0 == n) r qs here) ∙ is) in sym (ap (λ (x : OnePool). x.number.0) same) ∙ eqb-true r.number.0 n here
  | inr away ↦ pool_number n qs q (sym (find-behind (λ (x : OnePool). x.number.0 == n) r qs away) ∙ is)
]

get_within : {X : Type 0} (xs : List X) (k : ℕ) → k < length xs → (x : X) × (slice_get xs k ≡ Some x)
get_within [] k lt = absurd (omega arith)
get_within (x ∷ xs) zero lt = (x, refl)
get_within (x ∷ xs) (suc k) lt = get_within xs k (omega arith)

first_place : (es : List Entry) (i : ℕ) (rest : List ℕ) (e : Entry) → slice_get es i ≡ Some e → at_places es (i ∷ rest) ≡ e ∷ at_places es rest
first_place es i rest e at = simp at

-- a value of a list that ascends is found by its key
own_key : {X : Type 0} (key : X → ℕ) (xs : List X) → IsAscending key xs → (m : ℕ) (x : X) → slice_get xs m ≡ Some x → find (λ y. key y == key x) xs ≡ Some x
own_key key [] rising m x at = cc
own_key key (y ∷ xs) rising zero x at = let same : y ≡ x = same_Some y x at in find-first (λ z. key z == key x) y xs (eq-eqb (key y) (key x) (ap key same)) ∙ at
own_key key (y ∷ xs) rising (suc m) x at =
    let over : key y < key x = subst (λ z. key y < key z) (get_or_from_slice_get xs m x x at) (above key y xs rising m x (slice_get_within xs m x at)) in
    find-behind (λ z. key z == key x) y xs (ne_eqb (key y) (key x) (λ same. omega arith)) ∙ own_key key xs (rest_rises key y xs rising) m x at

module _ (g : Geometry) (drives : List DriveNo) (p : Plan) (set : Option (List ℕ)) (is_now : IsAsNow g drives p) where
  abbrev vols : List OneVolume
  vols = with_below p (uppermost p)

  abbrev es : List Entry
  es = entries_of set p

  layers : IsLayered p
  layers = in_layers g drives p is_now

  all : AreAllVolumes p (with_below p (uppermost p))
  all = all_told p layers

  starts : All (λ (w : OneVolume). StartsNow g p w.kind) p.volumes
  starts i d lt = of_kind (get_or p.volumes i d).kind (is_now.now i d lt)
    where
      of_kind : (kind : VolumeKind) → IsNow g p kind → StartsNow g p kind
      of_kind (Stripe s) now = tt
      of_kind (Mirror m) now = tt
      of_kind (Raid r) now = tt
      of_kind (Soft s) now = now.0

  volume_place : (w : OneVolume) (k : ℕ) → slice_get (with_below p (uppermost p)) k ≡ Some w → slice_get (entries_of set p) k ≡ Some (entry_of_volume set w)
  volume_place w k at = get-append_left (map (entry_of_volume set) (with_below p (uppermost p))) (map (entry_of_pool set) p.pools) k (entry_of_volume set w) (get-map (entry_of_volume set) (with_below p (uppermost p)) k w at)

  pool_place : (q : OnePool) (m : ℕ) → slice_get p.pools m ≡ Some q → slice_get (entries_of set p) (length (map (entry_of_volume set) (with_below p (uppermost p))) + m) ≡ Some (entry_of_pool set q)
  pool_place q m at = get-append_right (map (entry_of_volume set) (with_below p (uppermost p))) (map (entry_of_pool set) p.pools) m ∙ get-map (entry_of_pool set) p.pools m q at

  -- one place makes a volume
  one_volume : (w x : OneVolume) (i j : ℕ) → slice_get (with_below p (uppermost p)) i ≡ Some w → slice_get (with_below p (uppermost p)) j ≡ Some x → w.number.0 ≡ x.number.0 → i ≡ j
  one_volume w x i j at_i at_j same =
      let in_i = slice_get_within (with_below p (uppermost p)) i w at_i in
      let in_j = slice_get_within (with_below p (uppermost p)) j x at_j in
      let is_w : (d : OneVolume) → get_or (with_below p (uppermost p)) i d ≡ w = λ d. get_or_from_slice_get (with_below p (uppermost p)) i w d at_i in
      let is_x : (d : OneVolume) → get_or (with_below p (uppermost p)) j d ≡ x = λ d. get_or_from_slice_get (with_below p (uppermost p)) j x d at_j in
      elim (cases_order i j) [
        | inl equal ↦ equal
        | inr other ↦ elim other [
          | inl less ↦ absurd (all.once i j w less in_j (ap (λ (y : OneVolume). y.number.0) (is_w w) ∙ same ∙ sym (ap (λ (y : OneVolume). y.number.0) (is_x w))))
          | inr more ↦ absurd (all.once j i w more in_i (ap (λ (y : OneVolume). y.number.0) (is_x w) ∙ sym same ∙ sym (ap (λ (y : OneVolume). y.number.0) (is_w w))))
        ]
      ]

  one_pool : (q r : OnePool) (i j : ℕ) → slice_get p.pools i ≡ Some q → slice_get p.pools j ≡ Some r → q.number.0 ≡ r.number.0 → i ≡ j
  one_pool q r i j at_i at_j same =
      let in_i = slice_get_within p.pools i q at_i in
      let in_j = slice_get_within p.pools j r at_j in
      let is_q : get_or p.pools i q ≡ q = get_or_from_slice_get p.pools i q q at_i in
      let is_r : get_or p.pools j q ≡ r = get_or_from_slice_get p.pools j r q at_j in
      let number_q : (get_or p.pools i q).number.0 ≡ q.number.0 = ap (λ (y : OnePool). y.number.0) is_q in
      let number_r : (get_or p.pools j q).number.0 ≡ r.number.0 = ap (λ (y : OnePool). y.number.0) is_r in
      elim (cases_order i j) [
        | inl equal ↦ equal
        | inr other ↦ elim other [
          | inl less ↦ absurd (omega (arith, is_now.pools i j q less in_j))
          | inr more ↦ absurd (omega (arith, is_now.pools j i q more in_i))
        ]
      ]

  -- a place that makes the volume is the volume's
  maker_place : (w : OneVolume) (i j : ℕ) → slice_get (with_below p (uppermost p)) i ≡ Some w → is_volume_of w.number.0 (made_at (slice_get (entries_of set p) j)) ≡ true → j ≡ i
  maker_place w i j at makes_it = by_entry (slice_get (entries_of set p) j) refl makes_it
    where
      by_place : (e : Entry) → slice_get (entries_of set p) j ≡ Some e → is_volume_of w.number.0 (makes e) ≡ true → j ≡ i
      by_place e is on = elim (get_cases (map (entry_of_volume set) (with_below p (uppermost p))) (map (entry_of_pool set) p.pools) j e is) [
        | inl volume ↦
            let back = get_map_back (entry_of_volume set) (with_below p (uppermost p)) j e volume in
            let number : is_volume_of w.number.0 (Some (Named.Volume back.0.number)) ≡ true = sym (ap (is_volume_of w.number.0) (sym (ap makes back.2) ∙ makes_volume set back.0.number back.0.kind)) ∙ on in
            one_volume back.0 w j i back.1 at (eqb-true back.0.number.0 w.number.0 number)
        | inr pool ↦
            let back = get_map_back (entry_of_pool set) p.pools pool.0 e pool.2 in
            let never : false ≡ true = ap (is_volume_of w.number.0) (ap makes back.2) ∙ on in
            cc
      ]

      by_entry : (o : Option Entry) → slice_get (entries_of set p) j ≡ o → is_volume_of w.number.0 (made_at o) ≡ true → j ≡ i
      by_entry None is on = cc
      by_entry (Some e) is on = by_place e is on

  pool_maker_place : (q : OnePool) (m j : ℕ) → slice_get p.pools m ≡ Some q → is_pool_of q.number.0 (made_at (slice_get (entries_of set p) j)) ≡ true → j ≡ length (map (entry_of_volume set) (with_below p (uppermost p))) + m
  pool_maker_place q m j at makes_it = by_entry (slice_get (entries_of set p) j) refl makes_it
    where
      by_place : (e : Entry) → slice_get (entries_of set p) j ≡ Some e → is_pool_of q.number.0 (makes e) ≡ true → j ≡ length (map (entry_of_volume set) (with_below p (uppermost p))) + m
      by_place e is on = elim (get_cases (map (entry_of_volume set) (with_below p (uppermost p))) (map (entry_of_pool set) p.pools) j e is) [
        | inl volume ↦
            let back = get_map_back (entry_of_volume set) (with_below p (uppermost p)) j e volume in
            let never : false ≡ true = ap (is_pool_of q.number.0) (sym (makes_volume set back.0.number back.0.kind) ∙ ap makes back.2) ∙ on in
            cc
        | inr pool ↦
            let back = get_map_back (entry_of_pool set) p.pools pool.0 e pool.2 in
            let number : back.0.number.0 == q.number.0 ≡ true = ap (is_pool_of q.number.0) (ap makes back.2) ∙ on in
            let same = one_pool back.0 q pool.0 m back.1 at (eqb-true back.0.number.0 q.number.0 number) in
            pool.1 ∙ ap (λ (n : ℕ). length (map (entry_of_volume set) (with_below p (uppermost p))) + n) same
      ]

      by_entry : (o : Option Entry) → slice_get (entries_of set p) j ≡ o → is_pool_of q.number.0 (made_at o) ≡ true → j ≡ length (map (entry_of_volume set) (with_below p (uppermost p))) + m
      by_entry None is on = cc
      by_entry (Some e) is on = by_place e is on

  -- none of the places that are made makes it, where its own isn't made
  none_makes : (test : ℕ → Bool) (done : List ℕ) (i : ℕ) → ((j : ℕ) → test j ≡ true → j ≡ i) → (Contains done i → ⊥) → list_any test done ≡ false
  none_makes test done i only out = false_from_ne_true (list_any test done) (λ some.
      let at = Any-from_list_any test done some in
      out (subst (Contains done) (only at.1 at.4) (at.0, at.2, at.3)))

  -- Below: in the order of need.
  module _ (order : List ℕ) (in_order : IsOrderOfNeed (entries_of set p) order) where
    abbrev IsTurn : List ℕ → ℕ → List ℕ → Type 0
    IsTurn done i rest = done ++ (i ∷ rest) ≡ order

    turn_within : (done rest : List ℕ) (i : ℕ) → IsTurn done i rest → length done < length order
    turn_within done rest i is = omega (arith, ap length is, length-append done (i ∷ rest))

    turn_front : (done rest : List ℕ) (i : ℕ) → IsTurn done i rest → take (length done) order ≡ done
    turn_front done rest i is = ap (take (length done)) (sym is) ∙ take_at done (i ∷ rest) (length done) refl

    turn_here : (done rest : List ℕ) (i : ℕ) → IsTurn done i rest → slice_index order (length done) ≡ i
    turn_here done rest i is = ap (λ (l : List ℕ). slice_index l (length done)) (sym is) ∙ get_or_at done i rest 0 (length done) refl

    turn_next : (done rest : List ℕ) (i : ℕ) → IsTurn done i rest → IsNext (Needs (entries_of set p)) (length (entries_of set p)) done i
    turn_next done rest i is =
        subst (λ (n : ℕ). IsNext (Needs (entries_of set p)) (length (entries_of set p)) done n) (turn_here done rest i is)
        (subst (λ (l : List ℕ). IsNext (Needs (entries_of set p)) (length (entries_of set p)) l (slice_index order (length done))) (turn_front done rest i is) (in_order.each (length done) (turn_within done rest i is)))

    turn_free : (done rest : List ℕ) (i : ℕ) → IsTurn done i rest → Waits (Needs (entries_of set p)) (length (entries_of set p)) done i → ⊥
    turn_free done rest i is waits =
        none_waits set p order layers in_order (length done) (turn_within done rest i is)
        (subst (λ (l : List ℕ). Waits (Needs (entries_of set p)) (length (entries_of set p)) l (slice_index order (length done))) (sym (turn_front done rest i is))
        (subst (λ (n : ℕ). Waits (Needs (entries_of set p)) (length (entries_of set p)) done n) (sym (turn_here done rest i is)) waits))

    -- what another place makes that the entry stands on is made
    needed : (done rest : List ℕ) (i j : ℕ) (e f : Entry) (named : Named) → IsTurn done i rest → slice_get (entries_of set p) i ≡ Some e → slice_get (entries_of set p) j ≡ Some f → j ≢ i →
        Contains (stands_on e) named → makes f ≡ Some named → entry_set e ≡ entry_set f → (Contains done j → ⊥) → ⊥
    needed done rest i j e f named is at_i at_j other stands made same out =
        turn_free done rest i is (j, (slice_get_within (entries_of set p) j f at_j, out), record { other = other; entry = e; need = f; at = at_i; below = at_j; needs = record { named = named; stands = stands; made = made; set = same } })

    volume_needed : (done rest : List ℕ) (i : ℕ) (w : OneVolume) (v : VolId) → IsTurn done i rest → slice_get (entries_of set p) i ≡ Some (entry_of_volume set w) → IsBelow p w v → Contains (stands_on (entry_of_volume set w)) (volume_named v) → volumes_at (entries_of set p) done v.0 ≡ true
    volume_needed done rest i w v is at below stands = true_from_ne_false (volumes_at (entries_of set p) done v.0) (λ none.
        let x : OneVolume = below.volume in
        let place = place_of (λ (y : OneVolume). y.number.0 == v.0) (with_below p (uppermost p)) x (all.each v x below.found) in
        let j : ℕ = place.0 in
        let number : x.number.0 ≡ v.0 = found_number v.0 p.volumes x below.found in
        let same : x.number ≡ v = λ k. record { 0 = number k } in
        let at_j : slice_get (entries_of set p) j ≡ Some (entry_of_volume set x) = volume_place x j place.2 in
        let made : made_at (slice_get (entries_of set p) j) ≡ Some (Named.Volume x.number) = ap made_at at_j ∙ makes_volume set x.number x.kind in
        let makes_it : is_volume_of v.0 (made_at (slice_get (entries_of set p) j)) ≡ true = ap (is_volume_of v.0) made ∙ eq-eqb x.number.0 v.0 number in
        let out : Contains done j → ⊥ = λ has. false≢true (sym none ∙ list_any-from_Any (λ (k : ℕ). is_volume_of v.0 (made_at (slice_get (entries_of set p) k))) done (has.0, j, has.1, has.2, makes_it)) in
        let other : j ≢ i = λ equal. below.apart (sym number ∙ eqb-true x.number.0 w.number.0 (sym (ap (is_volume_of w.number.0) made) ∙ ap (λ (k : ℕ). is_volume_of w.number.0 (made_at (slice_get (entries_of set p) k))) equal
        ∙ ap (λ (o : Option Entry). is_volume_of w.number.0 (made_at o)) at ∙ ap (is_volume_of w.number.0) (makes_volume set w.number w.kind) ∙ eq-eqb w.number.0 w.number.0 refl)) in
        needed done rest i j (entry_of_volume set w) (entry_of_volume set x) (volume_named v) is at at_j other stands (makes_volume set x.number x.kind ∙ ap (λ (u : VolId). Some (Named.Volume u)) same) (set_of_kind set w.number w.kind ∙ sym (set_of_kind set x.number x.kind)) out)

    pool_needed : (done rest : List ℕ) (i : ℕ) (w : OneVolume) (q : PoolId) → IsTurn done i rest → slice_get (entries_of set p) i ≡ Some (entry_of_volume set w) → (x : OnePool) → pool_of p q ≡ Some x → Contains (stands_on (entry_of_volume set w)) (Named.Pool q) → pools_at (entries_of set p) done q.0 ≡ true
    pool_needed done rest i w q is at x there stands = true_from_ne_false (pools_at (entries_of set p) done q.0) (λ none.
        let place = place_of (λ (r : OnePool). r.number.0 == q.0) p.pools x there in
        let j : ℕ = length (map (entry_of_volume set) (with_below p (uppermost p))) + place.0 in
        let number : x.number.0 ≡ q.0 = pool_number q.0 p.pools x there in
        let same : x.number ≡ q = λ k. record { 0 = number k } in
        let at_j : slice_get (entries_of set p) j ≡ Some (entry_of_pool set x) = pool_place x place.0 place.2 in
        let made : made_at (slice_get (entries_of set p) j) ≡ Some (Named.Pool x.number) = ap made_at at_j in
        let makes_it : is_pool_of q.0 (made_at (slice_get (entries_of set p) j)) ≡ true = ap (is_pool_of q.0) made ∙ eq-eqb x.number.0 q.0 number in
        let out : Contains done j → ⊥ = λ has. false≢true (sym none ∙ list_any-from_Any (λ (k : ℕ). is_pool_of q.0 (made_at (slice_get (entries_of set p) k))) done (has.0, j, has.1, has.2, makes_it)) in
        let other : j ≢ i = λ equal. false≢true (sym (ap (λ (o : Option Entry). is_pool_of q.0 (made_at o)) at ∙ ap (is_pool_of q.0) (makes_volume set w.number w.kind)) ∙ ap (λ (k : ℕ). is_pool_of q.0 (made_at (slice_get (entries_of set p) k))) (sym equal) ∙ makes_it) in
        needed done rest i j (entry_of_volume set w) (entry_of_pool set x) (Named.Pool q) is at at_j other stands (ap (λ (u : PoolId). Some (Named.Pool u)) same) (set_of_kind set w.number w.kind) out)

    -- all that the volume of a turn needs is made
    all_needed : (done rest : List ℕ) (i : ℕ) (w : OneVolume) → IsTurn done i rest → slice_get (entries_of set p) i ≡ Some (entry_of_volume set w) → Fits g drives p w → All (VolumeIn (volumes_at (entries_of set p) done)) (kind_below w.kind)
    all_needed done rest i w is at fits k d lt =
        volume_needed done rest i w (get_or (kind_below w.kind) k d) is at (all_below g drives p w fits k d lt)
        (subst (λ (l : List Named). Contains l (volume_named (get_or (kind_below w.kind) k d))) (sym (stands_is set w.number w.kind))
        (Contains-append_left (map volume_named (kind_below w.kind)) (pool_names (kind_pool w.kind)) (volume_named (get_or (kind_below w.kind) k d)) (map_contains volume_named (kind_below w.kind) k d lt)))

    its_pool : (done rest : List ℕ) (i : ℕ) (w : OneVolume) → IsTurn done i rest → slice_get (entries_of set p) i ≡ Some (entry_of_volume set w) → (pool : Option PoolId) → kind_pool w.kind ≡ pool → no_pool p pool ≡ false → PoolIn (pools_at (entries_of set p) done) pool
    its_pool done rest i w is at None same none = tt
    its_pool done rest i w is at (Some q) same none =
        let there = some_of (pool_of p q) (not-false (is_some (pool_of p q)) none) in
        let names : pool_names (kind_pool w.kind) ≡ Named.Pool q ∷ [] = ap pool_names same in
        pool_needed done rest i w q is at there.0 there.1
        (subst (λ (l : List Named). Contains l (Named.Pool q)) (sym (stands_is set w.number w.kind))
        (Contains-append_right (map volume_named (kind_below w.kind)) (pool_names (kind_pool w.kind)) (Named.Pool q) (subst (λ (l : List Named). Contains l (Named.Pool q)) (sym names) (0, omega arith, refl))))

    abbrev vols_at : List ℕ → ℕ → Bool
    vols_at done = volumes_at (entries_of set p) done

    abbrev pls_at : List ℕ → ℕ → Bool
    pls_at done = pools_at (entries_of set p) done

    member : (w : OneVolume) (i : ℕ) → slice_get (with_below p (uppermost p)) i ≡ Some w → volume_of p w.number ≡ Some w
    member w i at =
        subst (λ (x : OneVolume). volume_of p x.number ≡ Some x) (get_or_from_slice_get (with_below p (uppermost p)) i w w at) (all.of_plan i w (slice_get_within (with_below p (uppermost p)) i w at))

    of_table : (t : Table) (q : Plan) → t.plan ≡ q → record { plan = q; status = t.status } ≡ t
    of_table t q is = λ i. record { plan = sym is i; status = t.status }

    -- the turn of a volume
    volume_turn : (done rest : List ℕ) (i : ℕ) (w : OneVolume) (t : Table) → IsTurn done i rest → slice_get (with_below p (uppermost p)) i ≡ Some w → t.plan ≡ part (vols_at done) (pls_at done) p → AreReady p t.status.volumes →
        IsStep g drives p (vols_at (done ++ i ∷ [])) (pls_at (done ++ i ∷ [])) t (asked_of (entry_of_volume set w))
    volume_turn done rest i w t is at plan ready =
        let at_i = volume_place w i at in
        let own = member w i at in
        let test = λ (x : OneVolume). x.number.0 == w.number.0 in
        let fits = (found (Fits g drives p) test p.volumes w is_now.fit own).0 in
        let now = (found (IsVolumeNow g p) test p.volumes w is_now.now own).0 in
        let made : made_at (slice_get (entries_of set p) i) ≡ Some (Named.Volume w.number) = ap made_at at_i ∙ makes_volume set w.number w.kind in
        let out : vols_at done w.number.0 ≡ false = none_makes (λ (k : ℕ). is_volume_of w.number.0 (made_at (slice_get (entries_of set p) k))) done i (λ j on. maker_place w i j at on) (turn_next done rest i is).remains.1 in
        let comes : vols_at (done ++ i ∷ []) w.number.0 ≡ true =
        at_more (λ (k : ℕ). is_volume_of w.number.0 (made_at (slice_get (entries_of set p) k))) done i
        ∙ or_one (vols_at done w.number.0) (is_volume_of w.number.0 (made_at (slice_get (entries_of set p) i))) (ap (is_volume_of w.number.0) made ∙ eq-eqb w.number.0 w.number.0 refl)
        in
        let same : (n : ℕ) → n ≢ w.number.0 → vols_at (done ++ i ∷ []) n ≡ vols_at done n = λ n other.
        at_more (λ (k : ℕ). is_volume_of n (made_at (slice_get (entries_of set p) k))) done i
        ∙ or_none (vols_at done n) (is_volume_of n (made_at (slice_get (entries_of set p) i))) (ap (is_volume_of n) made ∙ ne_eqb w.number.0 n (λ equal. other (sym equal)))
        in
        let same_pools : (n : ℕ) → pls_at done n ≡ pls_at (done ++ i ∷ []) n = λ n.
        sym (at_more (λ (k : ℕ). is_pool_of n (made_at (slice_get (entries_of set p) k))) done i
        ∙ or_none (pls_at done n) (is_pool_of n (made_at (slice_get (entries_of set p) i))) (ap (is_pool_of n) made))
        in
        let whole : part (vols_at (done ++ i ∷ [])) (pls_at done) p ≡ part (vols_at (done ++ i ∷ [])) (pls_at (done ++ i ∷ [])) p =
        λ k. record p { volumes = filter (λ (x : OneVolume). vols_at (done ++ i ∷ []) x.number.0) p.volumes; pools = filter_same (λ (q : OnePool). pls_at done q.number.0) (λ (q : OnePool). pls_at (done ++ i ∷ []) q.number.0) p.pools (λ m d lt. same_pools _) k }
        in
        let step = volume_step g drives p (vols_at done) (vols_at (done ++ i ∷ [])) (pls_at done) is_now.volumes starts t.status ready w out comes same own fits now
        (all_needed done rest i w is at_i fits) (its_pool done rest i w is at_i (kind_pool w.kind) refl (pool_is_there g drives p w fits))
        in
        let whole_step : IsStep g drives p (vols_at (done ++ i ∷ [])) (pls_at (done ++ i ∷ [])) (record { plan = part (vols_at done) (pls_at done) p; status = t.status }) (volume_asked w) =
        record { allowed = step.allowed; plan = step.plan ∙ whole; ready = step.ready }
        in
        subst (λ (c : Option Change). IsStep g drives p (vols_at (done ++ i ∷ [])) (pls_at (done ++ i ∷ [])) t c) (sym (asked_same set w.number w.kind))
        (subst (λ (u : Table). IsStep g drives p (vols_at (done ++ i ∷ [])) (pls_at (done ++ i ∷ [])) u (volume_asked w)) (of_table t (part (vols_at done) (pls_at done) p) plan) whole_step)

    pool_own : (q : OnePool) (m : ℕ) → slice_get p.pools m ≡ Some q → pool_of p q.number ≡ Some q
    pool_own q m at = own_key (λ (r : OnePool). r.number.0) p.pools is_now.pools m q at

    -- the turn of a pool
    pool_turn : (done rest : List ℕ) (i m : ℕ) (q : OnePool) (t : Table) → IsTurn done i rest → i ≡ length (map (entry_of_volume set) (with_below p (uppermost p))) + m → slice_get p.pools m ≡ Some q → t.plan ≡ part (vols_at done) (pls_at done) p → AreReady p t.status.volumes →
        IsStep g drives p (vols_at (done ++ i ∷ [])) (pls_at (done ++ i ∷ [])) t (asked_of (entry_of_pool set q))
    pool_turn done rest i m q t is place at plan ready =
        let at_i : slice_get (entries_of set p) i ≡ Some (entry_of_pool set q) = ap (slice_get (entries_of set p)) place ∙ pool_place q m at in
        let own = pool_own q m at in
        let test = λ (x : OnePool). x.number.0 == q.number.0 in
        let fits = (found (PoolFits g drives p) test p.pools q is_now.pools_fit own).0 in
        let now = (found (IsPoolNow g p) test p.pools q is_now.pools_now own).0 in
        let made : made_at (slice_get (entries_of set p) i) ≡ Some (Named.Pool q.number) = ap made_at at_i in
        let out : pls_at done q.number.0 ≡ false = none_makes (λ (k : ℕ). is_pool_of q.number.0 (made_at (slice_get (entries_of set p) k))) done i (λ j on. pool_maker_place q m j at on ∙ sym place) (turn_next done rest i is).remains.1 in
        let comes : pls_at (done ++ i ∷ []) q.number.0 ≡ true =
        at_more (λ (k : ℕ). is_pool_of q.number.0 (made_at (slice_get (entries_of set p) k))) done i
        ∙ or_one (pls_at done q.number.0) (is_pool_of q.number.0 (made_at (slice_get (entries_of set p) i))) (ap (is_pool_of q.number.0) made ∙ eq-eqb q.number.0 q.number.0 refl)
        in
        let same : (n : ℕ) → n ≢ q.number.0 → pls_at (done ++ i ∷ []) n ≡ pls_at done n = λ n other.
        at_more (λ (k : ℕ). is_pool_of n (made_at (slice_get (entries_of set p) k))) done i
        ∙ or_none (pls_at done n) (is_pool_of n (made_at (slice_get (entries_of set p) i))) (ap (is_pool_of n) made ∙ ne_eqb q.number.0 n (λ equal. other (sym equal)))
        in
        let same_volumes : (n : ℕ) → vols_at done n ≡ vols_at (done ++ i ∷ []) n = λ n.
        sym (at_more (λ (k : ℕ). is_volume_of n (made_at (slice_get (entries_of set p) k))) done i
        ∙ or_none (vols_at done n) (is_volume_of n (made_at (slice_get (entries_of set p) i))) (ap (is_volume_of n) made))
        in
        let whole : part (vols_at done) (pls_at (done ++ i ∷ [])) p ≡ part (vols_at (done ++ i ∷ [])) (pls_at (done ++ i ∷ [])) p =
        λ k. record p { volumes = filter_same (λ (x : OneVolume). vols_at done x.number.0) (λ (x : OneVolume). vols_at (done ++ i ∷ []) x.number.0) p.volumes (λ n d lt. same_volumes _) k; pools = filter (λ (r : OnePool). pls_at (done ++ i ∷ []) r.number.0) p.pools }
        in
        let step = pool_step g drives p (vols_at done) (pls_at done) (pls_at (done ++ i ∷ [])) is_now.pools is_now.pools_now t.status ready q own out comes same fits now in
        let whole_step : IsStep g drives p (vols_at (done ++ i ∷ [])) (pls_at (done ++ i ∷ [])) (record { plan = part (vols_at done) (pls_at done) p; status = t.status }) (pool_asked q) =
        record { allowed = step.allowed; plan = step.plan ∙ whole; ready = step.ready }
        in
        subst (λ (u : Table). IsStep g drives p (vols_at (done ++ i ∷ [])) (pls_at (done ++ i ∷ [])) u (pool_asked q)) (of_table t (part (vols_at done) (pls_at done) p) plan) whole_step

    -- whichever stands there
    record IsTurnStep (done : List ℕ) (i : ℕ) (t : Table) : Type 0 where
      entry : Entry
      at : slice_get (entries_of set p) i ≡ Some entry
      step : IsStep g drives p (vols_at (done ++ i ∷ [])) (pls_at (done ++ i ∷ [])) t (asked_of entry)

    turn : (done rest : List ℕ) (i : ℕ) (t : Table) → IsTurn done i rest → t.plan ≡ part (vols_at done) (pls_at done) p → AreReady p t.status.volumes → IsTurnStep done i t
    turn done rest i t is plan ready =
        let es : List Entry = entries_of set p in
        let some = get_within es i (turn_next done rest i is).remains.0 in
        elim (get_cases (map (entry_of_volume set) (with_below p (uppermost p))) (map (entry_of_pool set) p.pools) i some.0 some.1) [
          | inl volume ↦
              let back = get_map_back (entry_of_volume set) (with_below p (uppermost p)) i some.0 volume in
              record { entry = entry_of_volume set back.0; at = volume_place back.0 i back.1; step = volume_turn done rest i back.0 t is back.1 plan ready }
          | inr pool ↦
              let back = get_map_back (entry_of_pool set) p.pools pool.0 some.0 pool.2 in
              record { entry = entry_of_pool set back.0; at = ap (slice_get es) pool.1 ∙ pool_place back.0 pool.0 back.1; step = pool_turn done rest i pool.0 back.0 t is pool.1 back.1 plan ready }
        ]

    pub record IsMadeOn (places : List ℕ) (t : Table) : Type 0 where
      pub new : Table
      pub made : AreMade g drives (at_places (entries_of set p) places) t new
      pub plan : new.plan ≡ part (vols_at order) (pls_at order) p

    go : (rest done : List ℕ) (t : Table) → done ++ rest ≡ order → t.plan ≡ part (vols_at done) (pls_at done) p → AreReady p t.status.volumes → IsMadeOn rest t
    go [] done t is plan ready =
        let whole : done ≡ order = sym (append-nil done) ∙ is in
        record { new = t; made = refl; plan = plan ∙ ap (λ (l : List ℕ). part (vols_at l) (pls_at l) p) whole }
    go (i ∷ rest) done t is plan ready =
        let one = turn done rest i t is plan ready in
        let more = go rest (done ++ i ∷ []) (after g t (asked_of one.entry)) (append_assoc done (i ∷ []) rest ∙ is) one.step.plan one.step.ready in
        let entries : at_places (entries_of set p) (i ∷ rest) ≡ one.entry ∷ at_places (entries_of set p) rest = first_place (entries_of set p) i rest one.entry one.at in
        record { new = more.new; made = subst (λ (l : List Entry). AreMade g drives l t more.new) (sym entries) (one.step.allowed, more.made); plan = more.plan }

    -- each place stands in the order
    distinct : IsDistinct eqb order
    distinct = IsDistinct-from_apart eqb order (λ i j d less within. ne_eqb (get_or order i d) (get_or order j d) (λ same.
        let next = in_order.each j within in
        let in_front : i < length (take j order) = omega (arith, length-take-le j order (omega arith)) in
        let value : get_or (take j order) i d ≡ get_or order i d = get_or-take j order i d less in
        let here : get_or order j d ≡ slice_index order j = get_or_default order j d 0 within in
        next.remains.1 (subst (Contains (take j order)) (value ∙ same ∙ here) (Contains-get_or (take j order) i d in_front))))

    all_within : All (λ n. n < length (entries_of set p)) order
    all_within i d lt = subst (λ (n : ℕ). n < length (entries_of set p)) (get_or_default order i 0 d lt) (in_order.each i lt).remains.0

    none_left : (j : ℕ) → j < length (entries_of set p) → (Contains order j → ⊥) → ⊥
    none_left j lt out =
        let more : IsDistinct eqb (j ∷ order) = IsDistinct-from_apart eqb (j ∷ order) (apart_with j out) in
        let few : length (j ∷ order) ≤ length (entries_of set p) = length-le_from_distinct_below (j ∷ order) (length (entries_of set p)) more (λ q some.
        let at = Any-from_list_any (eqb q) (j ∷ order) some in
        let below : All (λ n. n < length (entries_of set p)) (j ∷ order) = All-cons (λ n. n < length (entries_of set p)) j order lt all_within in
        let is : q ≡ at.1 = eqb-true q at.1 at.4 in
        subst (λ (n : ℕ). n < length (entries_of set p)) (at.3 ∙ sym is) (below at.0 at.1 at.2)) in
        omega (arith, few, in_order.all)
      where
        apart_with : (n : ℕ) → (Contains order n → ⊥) → (i k : ℕ) (d : ℕ) → i < k → k < length (n ∷ order) → eqb (get_or (n ∷ order) i d) (get_or (n ∷ order) k d) ≡ false
        apart_with n away zero zero d less within = absurd (omega arith)
        apart_with n away zero (suc k) d less within = ne_eqb n (get_or order k d) (λ same. away (subst (Contains order) (sym same) (Contains-get_or order k d (omega arith))))
        apart_with n away (suc i) zero d less within = absurd (omega arith)
        apart_with n away (suc i) (suc k) d less within = apart_from_distinct eqb order i k d distinct (omega arith) (omega arith)

    volume_made : (w : OneVolume) → volume_of p w.number ≡ Some w → vols_at order w.number.0 ≡ true
    volume_made w own = true_from_ne_false (vols_at order w.number.0) (λ none.
        let place = place_of (λ (y : OneVolume). y.number.0 == w.number.0) (with_below p (uppermost p)) w (all.each w.number w own) in
        let at = volume_place w place.0 place.2 in
        let makes_it : is_volume_of w.number.0 (made_at (slice_get (entries_of set p) place.0)) ≡ true = ap (λ (o : Option Entry). is_volume_of w.number.0 (made_at o)) at ∙ ap (is_volume_of w.number.0) (makes_volume set w.number w.kind) ∙ eq-eqb w.number.0 w.number.0 refl in
        none_left place.0 (slice_get_within (entries_of set p) place.0 (entry_of_volume set w) at)
        (λ has. false≢true (sym none ∙ list_any-from_Any (λ (k : ℕ). is_volume_of w.number.0 (made_at (slice_get (entries_of set p) k))) order (has.0, place.0, has.1, has.2, makes_it))))

    pool_is_made : (q : OnePool) (m : ℕ) → slice_get p.pools m ≡ Some q → pls_at order q.number.0 ≡ true
    pool_is_made q m at = true_from_ne_false (pls_at order q.number.0) (λ none.
        let j : ℕ = length (map (entry_of_volume set) (with_below p (uppermost p))) + m in
        let at_j = pool_place q m at in
        let makes_it : is_pool_of q.number.0 (made_at (slice_get (entries_of set p) j)) ≡ true = ap (λ (o : Option Entry). is_pool_of q.number.0 (made_at o)) at_j ∙ eq-eqb q.number.0 q.number.0 refl in
        none_left j (slice_get_within (entries_of set p) j (entry_of_pool set q) at_j)
        (λ has. false≢true (sym none ∙ list_any-from_Any (λ (k : ℕ). is_pool_of q.number.0 (made_at (slice_get (entries_of set p) k))) order (has.0, j, has.1, has.2, makes_it))))

    -- so the whole plan is there
    all_there : part (vols_at order) (pls_at order) p ≡ p
    all_there =
        let volumes : filter (λ (w : OneVolume). vols_at order w.number.0) p.volumes ≡ p.volumes =
        filter_all (λ (w : OneVolume). vols_at order w.number.0) p.volumes (λ k d lt. volume_made (get_or p.volumes k d) (own_at p.volumes is_now.volumes k d lt))
        in
        let pools : filter (λ (q : OnePool). pls_at order q.number.0) p.pools ≡ p.pools =
        filter_all (λ (q : OnePool). pls_at order q.number.0) p.pools (λ k d lt. pool_is_made (get_or p.pools k d) k (slice_get-get_or p.pools k d lt))
        in
        λ i. record p { volumes = volumes i; pools = pools i }

    pub made_again : (t : Table) → t.plan ≡ p → (new : Table) × AreMade g drives (at_places (entries_of set p) order) (emptied t) new × (new.plan ≡ p)
    made_again t is =
        let nothing : (emptied t).plan ≡ part (vols_at []) (pls_at []) p =
        λ i. record (is i) { volumes = sym (filter_none (λ (w : OneVolume). vols_at [] w.number.0) p.volumes (λ k d lt. refl)) i; pools = sym (filter_none (λ (q : OnePool). pls_at [] q.number.0) p.pools (λ k d lt. refl)) i }
        in
        let done = go order [] (emptied t) refl nothing (All-nil (λ s. _)) in
        (done.new, done.made, done.plan ∙ all_there)
