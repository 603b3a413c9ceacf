-- Which lists of a table have enough active places.
use Rattle.std.proofs.Common.{◌≡◌, ◌⊎◌, inl, inr, ◌<◌, ◌≤◌, ◌*◌, ◌&&◌, ℕ, Bool, true, false, cond, is_some, List, [], ◌∷◌, Option, None, Some, MatchOption, Contains, length, map, refl, ◌∙◌, ap, subst, arith, sym, ◌||◌, ◌+◌}
use Rattle.std.specs.Prelude.{count_by, AllPairs}
use Rattle.std.specs.List.{cons_option, list_any}
use Rattle.std.specs.Option.{option_or}
use Rattle.std.proofs.lemmas.Bool.{and_from, and_parts, cases_lt, false≢true, le-leb, leb-false, leb-true, lt-ltb, ltb-false, ltb-true, or_cases, or_left, or_right, false_from_ne_true}
use Rattle.std.proofs.lemmas.List.{length-map}
use Rattle.std.proofs.lemmas.List.Folds.{list_any_at}
use Rattle.std.proofs.lemmas.List.Elements.{All-contains, All-contains_itself, Contains-append_left}
use Rattle.mdv_look.proofs.Bringing.{count_cons}
use Rattle.mdv_look.proofs.Looks.{count_within}
use Rattle.mdv_standing.specs.Matching.{spots_in}
use Rattle.mdv_config.proofs.Testing.{same_place-true}
use Rattle.mdv_config.proofs.Settled.{all_of_last}
use Rattle.mdv_config.specs.Lists.{beside, first_of, last_of}
use Rattle.mdv_config.specs.Lists.{same_place}
use Rattle.mdv_plan.specs.declared.lists.Lists.{Lists}
use Rattle.mdv_plan.specs.declared.lists.Lists.TheVariants.{One, Two}
use Rattle.mdv_votes.specs.Spots.{covers, is_half, is_majority}
use Rattle.mdv_store.specs.Below.{Failures, Place, Replica, Site, Spot, Table, lists_of_spots, places_of}
use Rattle.mdv_store.specs.Opened.{AreSeatsOf}
use Rattle.mdv_store.specs.Seats.{AreLeft, active_of, drive_of, replicas_of}
use Rattle.mdv_store.specs.Shares.{has_active, is_active, is_active_at, is_seat_at, share_in, short_in, short_of, suffices}
use Rattle.mdv_store.specs.declared.seats.Need.{Need}
use Rattle.mdv_store.specs.declared.seats.Need.TheVariants.{Half, More}
use Rattle.mdv_store.specs.declared.seats.Seat.{Seat}
use Rattle.mdv_store.specs.declared.seats.Share.{Share}
use Rattle.mdv_store.proofs.Passes.{left_most, mapped}
use Rattle.mdv_store.proofs.Sitting.{contains_behind, contains_first, replica_of}
use Rattle.mdv_config.proofs.Pairs.{AllPairs-first, AllPairs-rest}

-- one of a list passes
any_one : {X : Type 0} (p : X → Bool) (xs : List X) → list_any p xs ≡ true → (x : X) × Contains xs x × (p x ≡ true)
any_one p [] so = absurd (false≢true so)
any_one p (x ∷ xs) so = elim (or_cases (p x) (list_any p xs) so) [
  | inl here ↦ (x, contains_first x xs, here)
  | inr there ↦ (let rest = any_one p xs there in (rest.0, contains_behind x rest.0 xs rest.1, rest.2))
]

counted_one : {X : Type 0} (p : X → Bool) (xs : List X) → 1 ≤ count_by p xs → (x : X) × Contains xs x × (p x ≡ true)
counted_one p [] some = absurd (omega (arith, some))
counted_one {X = X} p (x ∷ xs) some = by (p x) refl (counted_one p xs) where
  by : (b : Bool) → p x ≡ b → (1 ≤ count_by p xs → (y : X) × Contains xs y × (p y ≡ true)) → (y : X) × Contains (x ∷ xs) y × (p y ≡ true)
  by true is rest = (x, contains_first x xs, is)
  by false is rest =
      let count = count_cons p x xs in
      let none = ap (λ (b : Bool). cond {A = ℕ} b 1 0) is in
      let one = rest (omega (arith, some, count, none)) in
      (one.0, contains_behind x one.0 xs one.1, one.2)

-- each place of a list is listed
pub in_first : (lists : Lists) (p : Place) → Contains (first_of lists) p → Contains (places_of lists) p
in_first (One places) p has = has
in_first (Two old new) p has = Contains-append_left old (beside old new) p has

pub in_last : (lists : Lists) (p : Place) → Contains (last_of lists) p → Contains (places_of lists) p
in_last lists p has = All-contains (Contains (places_of lists)) (last_of lists) p (all_of_last (Contains (places_of lists)) lists (All-contains_itself (places_of lists))) has

-- what passes has its spot in the set
counted_spots : (spot : Place → Spot) (set : Spot → Bool) (p : Place → Bool) → ((x : Place) → p x ≡ true → set (spot x) ≡ true) → (list : List Place) → count_by p list ≤ count_by set (map spot list)
counted_spots spot set p each [] = omega arith
counted_spots spot set p each (x ∷ xs) = by (p x) refl (counted_spots spot set p each xs) where
  by : (b : Bool) → p x ≡ b → count_by p xs ≤ count_by set (map spot xs) → count_by p (x ∷ xs) ≤ count_by set (map spot (x ∷ xs))
  by true is rest = omega (arith, rest, count_cons p x xs, count_cons set (spot x) (map spot xs), ap (λ (b : Bool). cond {A = ℕ} b 1 0) is, ap (λ (b : Bool). cond {A = ℕ} b 1 0) (each x is))
  by false is rest = omega (arith, rest, count_cons p x xs, count_cons set (spot x) (map spot xs), ap (λ (b : Bool). cond {A = ℕ} b 1 0) is)

-- an active place has a seat with a replica
pub seat_at : (seats : List Seat) (place : Place) → has_active seats place ≡ true → (s : Seat) × (r : Replica) × Contains seats s × (s.replica ≡ Some r) × (s.place ≡ place)
seat_at seats place so =
    let one = any_one (is_active_at place) seats so in
    let both = and_parts (is_seat_at place one.0) (is_active one.0) one.2 in
    let there = found one.0.replica both.1 in
    (one.0, there.0, one.1, there.1, (same_place-true one.0.place place).0 both.0)
  where
    found : (o : Option Replica) → is_some o ≡ true → (r : Replica) × (o ≡ Some r)
    found None so = absurd (false≢true so)
    found (Some r) so = (r, refl)

-- of the seats' own places at least as many are active as seats are
own_among : (all seats : List Seat) → ((s : Seat) → Contains seats s → Contains all s) → active_of seats ≤ count_by (has_active all) (map (λ (s : Seat). s.place) seats)
own_among all [] among = omega arith
own_among all (s ∷ seats) among = by s.replica refl (own_among all seats (λ t has. among t (contains_behind s t seats has))) where
  places : List Place
  places = map (λ (t : Seat). t.place) seats

  one : is_active s ≡ true → cond {A = ℕ} (has_active all s.place) 1 0 ≡ 1
  one so =
      let there = among s (contains_first s seats) in
      let here = and_from (is_seat_at s.place s) (is_active s) ((same_place-true s.place s.place).1 refl) so in
      ap (λ (b : Bool). cond {A = ℕ} b 1 0) (list_any_at (is_active_at s.place) all there.0 s there.1 (ap (is_active_at s.place) there.2 ∙ here))

  by : (o : Option Replica) → s.replica ≡ o → active_of seats ≤ count_by (has_active all) places → length (cons_option o (replicas_of seats)) ≤ count_by (has_active all) (s.place ∷ places)
  by None is rest = omega (arith, rest, count_cons (has_active all) s.place places)
  by (Some r) is rest = omega (arith, rest, count_cons (has_active all) s.place places, one (ap is_some is))

pub own_active : (seats : List Seat) → active_of seats ≤ count_by (has_active seats) (map (λ (s : Seat). s.place) seats)
own_active seats = own_among seats seats (λ s has. has)

-- and just as many, where these places differ
count_same : {X : Type 0} (p q : X → Bool) (xs : List X) → ((x : X) → Contains xs x → p x ≡ q x) → count_by p xs ≡ count_by q xs
count_same p q xs same =
    let one = count_within p q xs (λ x has is. sym (same x has) ∙ is) in
    let other = count_within q p xs (λ x has is. same x has ∙ is) in
    omega (arith, one, other)

beside_first : (s : Seat) (seats : List Seat) (p : Place) → (s.place ≡ p → ⊥) → has_active (s ∷ seats) p ≡ has_active seats p
beside_first s seats p never =
    let other = false_from_ne_true (same_place s.place p) (λ so. never ((same_place-true s.place p).0 so)) in
    ap (λ (b : Bool). (b && is_active s) || has_active seats p) other

first_alone : (s : Seat) (seats : List Seat) → ((t : Seat) → Contains seats t → s.place ≡ t.place → ⊥) → has_active (s ∷ seats) s.place ≡ is_active s
first_alone s seats never =
    let none = false_from_ne_true (has_active seats s.place) (λ so. let at = seat_at seats s.place so in never at.0 at.2 (sym at.4)) in
    ap (λ (b : Bool). (b && is_active s) || has_active seats s.place) ((same_place-true s.place s.place).1 refl) ∙ ap (λ (b : Bool). is_active s || b) none ∙ by (is_active s)
  where
    by : (b : Bool) → (b || false) ≡ b
    by true = refl
    by false = refl

own_just : (seats : List Seat) → AllPairs (λ (p q : Place). p ≡ q → ⊥) (map (λ (s : Seat). s.place) seats) → count_by (has_active seats) (map (λ (s : Seat). s.place) seats) ≡ active_of seats
own_just [] differ = refl
own_just (s ∷ seats) differ =
    let places : List Place = map (λ (t : Seat). t.place) seats in
    let first = AllPairs-first (λ (p q : Place). p ≡ q → ⊥) s.place places differ in
    let rest = own_just seats (AllPairs-rest (λ (p q : Place). p ≡ q → ⊥) s.place places differ) in
    let same = count_same (has_active (s ∷ seats)) (has_active seats) places (λ p has. beside_first s seats p (All-contains (λ (q : Place). s.place ≡ q → ⊥) places p first has)) in
    let alone = first_alone s seats (λ t has. All-contains (λ (q : Place). s.place ≡ q → ⊥) places t.place first (mapped (λ (x : Seat). x.place) seats t has)) in
    let count = count_cons (has_active (s ∷ seats)) s.place places in
    by s.replica (ap (λ (b : Bool). cond {A = ℕ} b 1 0) alone) (omega (arith, count, same, rest))
  where
    by : (o : Option Replica) → cond {A = ℕ} (has_active (s ∷ seats) s.place) 1 0 ≡ cond {A = ℕ} (is_some o) 1 0
        → count_by (has_active (s ∷ seats)) (s.place ∷ map (λ (t : Seat). t.place) seats) ≡ cond {A = ℕ} (has_active (s ∷ seats) s.place) 1 0 + active_of seats
        → count_by (has_active (s ∷ seats)) (s.place ∷ map (λ (t : Seat). t.place) seats) ≡ length (cons_option o (replicas_of seats))
    by None one all = omega (arith, one, all)
    by (Some r) one all = omega (arith, one, all)

pub share_just : (seats : List Seat) → AllPairs (λ (p q : Place). p ≡ q → ⊥) (map (λ (s : Seat). s.place) seats) → share_in seats (map (λ (s : Seat). s.place) seats) ≡ record { active = active_of seats; listed = length seats }
share_just seats differ = λ i. record { active = own_just seats differ i; listed = length-map seats (λ (s : Seat). s.place) i }

module _ (need : Need) (seats : List Seat) where
  -- a list that isn't short suffices
  pub list_suffices : (list : List Place) → short_in need seats list ≡ None → suffices need (share_in seats list) ≡ true
  list_suffices list none = by (suffices need (share_in seats list)) none where
    by : (b : Bool) → cond b None (Some (share_in seats list)) ≡ None → b ≡ true
    by true none = refl
    by false none = absurd (cc (none))

  pub list_none : (list : List Place) → suffices need (share_in seats list) ≡ true → short_in need seats list ≡ None
  list_none list so = ap (λ (b : Bool). cond b None (Some (share_in seats list))) so

  -- what is short is the share of that list
  pub list_short : (list : List Place) (share : Share) → short_in need seats list ≡ Some share → (share ≡ share_in seats list) × (suffices need share ≡ false)
  list_short list share is = by (suffices need (share_in seats list)) refl is where
    by : (b : Bool) → suffices need (share_in seats list) ≡ b → cond b None (Some (share_in seats list)) ≡ Some share → (share ≡ share_in seats list) × (suffices need share ≡ false)
    by true so is = absurd (cc (is))
    by false so is =
        let same : share ≡ share_in seats list = cc (is) in
        (same, ap (suffices need) same ∙ so)

  pub lists_none : (lists : Lists) → short_in need seats (first_of lists) ≡ None → short_in need seats (last_of lists) ≡ None → short_of need seats lists ≡ None
  lists_none (One list) first last = first
  lists_none (Two old new) first last = ap (λ (o : Option Share). option_or o (short_in need seats new)) first ∙ last

  pub both_none : (a b : Option Share) → option_or a b ≡ None → (a ≡ None) × (b ≡ None)
  both_none None b is = (refl, is)
  both_none (Some share) b is = absurd (cc (is))

  -- where none is short, what follows of each list that suffices holds of all
  pub all_lists : (site : Site) (test : List Spot → Bool) → ((list : List Place) → suffices need (share_in seats list) ≡ true → test (spots_in site list) ≡ true) → (lists : Lists) → short_of need seats lists ≡ None → covers test (lists_of_spots site lists) ≡ true
  all_lists site test each (One list) none = and_from (test (spots_in site list)) true (each list (list_suffices list none)) refl
  all_lists site test each (Two old new) none =
      let both = both_none (short_in need seats old) (short_in need seats new) none in
      and_from (test (spots_in site old)) (test (spots_in site new)) (each old (list_suffices old both.0)) (each new (list_suffices new both.1))

  -- a place of a list that suffices is active, and so one of the replicas
  one_of_list : (list : List Place) → 1 ≤ length list → suffices need (share_in seats list) ≡ true → 1 ≤ active_of seats
  one_of_list list some so =
      let place = counted_one (has_active seats) list (enough need so) in
      let at = seat_at seats place.0 place.2 in
      let there = replica_of seats at.0 at.1 at.2 at.3 in
      omega (arith, there.1)
    where
      enough : (n : Need) → suffices n (share_in seats list) ≡ true → 1 ≤ count_by (has_active seats) list
      enough Half so = (let more = leb-true (length list) (2 * count_by (has_active seats) list) so in omega (arith, some, more))
      enough More so = (let more = ltb-true (length list) (2 * count_by (has_active seats) list) so in omega (arith, more))

  -- the first list has a place, as each list of a table of the geometry has
  pub first_enough : (lists : Lists) → 1 ≤ length (first_of lists) → short_of need seats lists ≡ None → 1 ≤ active_of seats
  first_enough (One list) some none = one_of_list list some (list_suffices list none)
  first_enough (Two old new) some none = one_of_list old some (list_suffices old (both_none (short_in need seats old) (short_in need seats new) none).0)

  pub some_enough : (table : Table) → AreSeatsOf table seats → short_of need seats table.plan.lists ≡ None → 1 ≤ active_of seats
  some_enough table are none = by table.plan.lists are.places none where
    by : (lists : Lists) → map (λ (s : Seat). s.place) seats ≡ places_of lists → short_of need seats lists ≡ None → 1 ≤ active_of seats
    by (One list) is none = one_of_list list (omega (arith, are.some, ap length is, length-map seats (λ (s : Seat). s.place))) (list_suffices list none)
    by (Two [] []) is none = absurd (omega (arith, are.some, ap length is, length-map seats (λ (s : Seat). s.place)))
    by (Two [] (p ∷ new)) is none = one_of_list (p ∷ new) (omega arith) (list_suffices (p ∷ new) (both_none (short_in need seats []) (short_in need seats (p ∷ new)) none).1)
    by (Two (p ∷ old) new) is none = one_of_list (p ∷ old) (omega arith) (list_suffices (p ∷ old) (both_none (short_in need seats (p ∷ old)) (short_in need seats new) none).0)

-- where a table has one list, of which the seats are, half of the seats suffices
pub half_none : (seats : List Seat) (list : List Place) → map (λ (s : Seat). s.place) seats ≡ list → length seats ≤ 2 * active_of seats → short_of Half seats (One list) ≡ None
half_none seats list are half =
    let own = ap (count_by (has_active seats)) are in
    list_none Half seats list
    (le-leb (length list) (2 * count_by (has_active seats) list) (omega (arith, half, own_active seats, own, ap length are, length-map seats (λ (s : Seat). s.place))))

-- more than half of a list has one place
pub some_more : (seats : List Seat) (lists : Lists) → short_of More seats lists ≡ None → 1 ≤ active_of seats
some_more seats lists none = by lists none where
  first : (list : List Place) → short_in More seats list ≡ None → 1 ≤ active_of seats
  first list none =
      let so = list_suffices More seats list none in
      let place = counted_one (has_active seats) list (let more = ltb-true (length list) (2 * count_by (has_active seats) list) so in omega (arith, more)) in
      let at = seat_at seats place.0 place.2 in
      let there = replica_of seats at.0 at.1 at.2 at.3 in
      omega (arith, there.1)

  by : (lists : Lists) → short_of More seats lists ≡ None → 1 ≤ active_of seats
  by (One list) none = first list none
  by (Two old new) none = first old (both_none More seats (short_in More seats old) (short_in More seats new) none).0

-- as the votes count a list: at least half of it, or more than half
abbrev pub takes : Need → (Spot → Bool) → List Spot → Bool
takes Half set list = is_half set list
takes More set list = is_majority set list

pub list_takes : (need : Need) (spot : Place → Spot) (set : Spot → Bool) (seats : List Seat) → ((p : Place) → has_active seats p ≡ true → set (spot p) ≡ true) → (list : List Place) → suffices need (share_in seats list) ≡ true → takes need set (map spot list) ≡ true
list_takes Half spot set seats each list so =
    le-leb (length (map spot list)) (2 * count_by set (map spot list)) (omega (arith, leb-true (length list) (2 * count_by (has_active seats) list) so, counted_spots spot set (has_active seats) each list, length-map list spot))
list_takes More spot set seats each list so =
    lt-ltb (length (map spot list)) (2 * count_by set (map spot list)) (omega (arith, ltb-true (length list) (2 * count_by (has_active seats) list) so, counted_spots spot set (has_active seats) each list, length-map list spot))

-- more than half is at least half
pub more_suffices : (need : Need) (share : Share) → suffices More share ≡ true → suffices need share ≡ true
more_suffices Half share so = le-leb share.listed (2 * share.active) (let more = ltb-true share.listed (2 * share.active) so in omega (arith, more))
more_suffices More share so = so

-- what sufficed suffices where each place that was active is
module _ (had need : Need) (weaker : (share : Share) → suffices had share ≡ true → suffices need share ≡ true) (old now : List Seat) (kept : (p : Place) → has_active old p ≡ true → has_active now p ≡ true) where
  kept_share : (list : List Place) → suffices had (share_in old list) ≡ true → suffices need (share_in now list) ≡ true
  kept_share list so = weaker (share_in now list) (by had so) where
    within : count_by (has_active old) list ≤ count_by (has_active now) list
    within = count_within (has_active old) (has_active now) list (λ p has is. kept p is)

    by : (n : Need) → suffices n (share_in old list) ≡ true → suffices n (share_in now list) ≡ true
    by Half so = le-leb (length list) (2 * count_by (has_active now) list) (omega (arith, leb-true (length list) (2 * count_by (has_active old) list) so, within))
    by More so = lt-ltb (length list) (2 * count_by (has_active now) list) (omega (arith, ltb-true (length list) (2 * count_by (has_active old) list) so, within))

  kept_list : (list : List Place) → short_in had old list ≡ None → short_in need now list ≡ None
  kept_list list none = list_none need now list (kept_share list (list_suffices had old list none))

  pub kept_lists : (lists : Lists) → short_of had old lists ≡ None → short_of need now lists ≡ None
  kept_lists (One list) none = kept_list list none
  kept_lists (Two first last) none =
      let both = both_none had old (short_in had old first) (short_in had old last) none in
      ap (λ (o : Option Share). option_or o (short_in need now last)) (kept_list first both.0) ∙ kept_list last both.1

-- where as many are active the same places are
module _ (failed : ℕ → Failures) (Took : Replica → Replica → Type 0) where
  same_head : (s n : Option Replica) (ss ns : List Replica) → MatchOption s (n ≡ None) (λ (r : Replica). MatchOption n (failed (drive_of r)).some (λ (m : Replica). (failed (drive_of r)).none × Took r m)) → length ns ≤ length ss
      → length (cons_option n ns) ≡ length (cons_option s ss) → (length ns ≡ length ss) × (is_some n ≡ is_some s)
  same_head None n ss ns is few same = (subst (λ (o : Option Replica). length (cons_option o ns) ≡ length ss) is same, ap is_some is)
  same_head (Some x) None ss ns is few same = absurd (omega (arith, few, same))
  same_head (Some x) (Some y) ss ns is few same = (omega (arith, same), refl)

  same_active : (old now : List Seat) → AreLeft failed Took old now → active_of now ≡ active_of old → (p : Place) → has_active old p ≡ true → has_active now p ≡ true
  same_active [] [] are same p so = so
  same_active [] (n ∷ now) are same p so = absurd are
  same_active (s ∷ old) [] are same p so = absurd are
  same_active (s ∷ old) (n ∷ now) are same p so =
      let one = same_head s.replica n.replica (replicas_of old) (replicas_of now) are.0.1 (left_most failed Took old now are.1) same in
      let here : is_active_at p n ≡ is_active_at p s = ap (λ (q : Place). same_place q p && is_some n.replica) are.0.0 ∙ ap (λ (b : Bool). same_place s.place p && b) one.1 in
      elim (or_cases (is_active_at p s) (has_active old p) so) [
        | inl first ↦ or_left (is_active_at p n) (has_active now p) (here ∙ first)
        | inr behind ↦ or_right (is_active_at p n) (has_active now p) (same_active old now are.1 one.0 p behind)
      ]

  -- where enough of each list was active, and of one not enough is left, fewer places are
  pub short_fewer : (had need : Need) → ((share : Share) → suffices had share ≡ true → suffices need share ≡ true) → (lists : Lists) (old now : List Seat) (share : Share) → AreLeft failed Took old now
      → short_of had old lists ≡ None → short_of need now lists ≡ Some share → active_of now < active_of old
  short_fewer had need weaker lists old now share are none short = elim (cases_lt (active_of now) (active_of old)) [
    | inl less ↦ less
    | inr more ↦
        let same : active_of now ≡ active_of old = omega (arith, more, left_most failed Took old now are) in
        let left = kept_lists had need weaker old now (same_active old now are same) lists none in
        absurd (cc (left, short))
  ]

-- The share that is told is that of the first list or of the last one, and doesn't suffice.
pub short_list : (need : Need) (seats : List Seat) (lists : Lists) (share : Share) → short_of need seats lists ≡ Some share
    → (list : List Place) × ((list ≡ first_of lists) ⊎ (list ≡ last_of lists)) × (share ≡ share_in seats list) × (suffices need share ≡ false)
short_list need seats (One list) share short = (let one = list_short need seats list share short in (list, inl refl, one.0, one.1))
short_list need seats (Two old new) share short = by (short_in need seats old) refl short where
  by : (o : Option Share) → short_in need seats old ≡ o → option_or o (short_in need seats new) ≡ Some share
      → (list : List Place) × ((list ≡ old) ⊎ (list ≡ new)) × (share ≡ share_in seats list) × (suffices need share ≡ false)
  by None first rest = (let one = list_short need seats new share rest in (new, inr refl, one.0, one.1))
  by (Some x) first rest = (let one = list_short need seats old share (first ∙ rest) in (old, inl refl, one.0, one.1))

-- so fewer than half of it is active, or no more than half
pub half_less : (seats : List Seat) (lists : Lists) (share : Share) → short_of Half seats lists ≡ Some share → 2 * share.active < share.listed
half_less seats lists share short = (let few = (short_list Half seats lists share short).3 in let less = leb-false share.listed (2 * share.active) few in omega (arith, less))

pub more_less : (seats : List Seat) (lists : Lists) (share : Share) → short_of More seats lists ≡ Some share → 2 * share.active ≤ share.listed
more_less seats lists share short = (let few = (short_list More seats lists share short).3 in let less = ltb-false share.listed (2 * share.active) few in omega (arith, less))
