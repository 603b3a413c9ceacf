-- The places of some list, with the replicas that seats have of them.
use Rattle.std.proofs.Common.{◌≡◌, inl, inr, ◌≤◌, ◌*◌, ◌&&◌, ℕ, Bool, true, false, cond, is_some, List, [], ◌∷◌, Option, None, Some, MatchOption, Contains, All, length, map, refl, sym, ◌∙◌, ap, subst, arith}
use Rattle.std.specs.Prelude.{count_by}
use Rattle.std.specs.List.{AllPairs, cons_option, find, list_any}
use Rattle.std.proofs.lemmas.Bool.{and_from, and_parts, false≢true, le-leb, leb-true, lt-ltb, ltb-true, or_cases, or_left, or_right}
use Rattle.std.proofs.lemmas.List.Folds.{list_any_at}
use Rattle.mdv_look.proofs.Looks.{count_within}
use Rattle.std.proofs.lemmas.List.{length-map}
use Rattle.std.proofs.lemmas.List.Elements.{All-contains, All-cons, All-nil}
use Rattle.mdv_shelf.proofs.Frame.{neither}
use Rattle.mdv_survey.proofs.Identities.{find_none, find_some}
use Rattle.mdv_config.proofs.Pairs.{AllPairs-cons, AllPairs-first, AllPairs-rest}
use Rattle.mdv_config.proofs.Testing.{same_place-true}
use Rattle.mdv_config.specs.Lists.{same_place}
use Rattle.mdv_votes.proofs.Meeting.{same_is, same_self}
use Rattle.mdv_votes.specs.Laws.{IsWithin}
use Rattle.mdv_votes.specs.Spots.{is_in}
use Rattle.mdv_store.specs.Below.{Failures, Identity, Lists, One, Place, Replica, Spot, Table, at_of, Two, last_of, same_spot, settled}
use Rattle.mdv_store.specs.Boot.{is_seated, seat_for, seats_of}
use Rattle.mdv_store.specs.Opened.{AreSeatsOf}
use Rattle.mdv_store.specs.Seats.{AreLaid, AreLeft, HaveRoom, IsLeft, active_of, drive_of, drives_of, replica_area, replicas_of, seats_area, spot_of, spots_of}
use Rattle.mdv_store.specs.Settled.{replica_for, replica_in, seat_now, seats_now}
use Rattle.mdv_store.specs.Shares.{has_active, is_active, is_active_at, is_seat_at, share_in, short_in, short_of, suffices}
use Rattle.mdv_store.specs.declared.seats.Need.{Need}
use Rattle.mdv_store.specs.declared.seats.Need.TheVariants.{Half, More}
use Rattle.mdv_store.specs.declared.seats.Seat.{Seat}
use Rattle.mdv_store.proofs.Passes.{mapped, unmapped}
use Rattle.mdv_store.proofs.Shares.{both_none, list_none, list_suffices, seat_at}
use Rattle.mdv_store.proofs.Sitting.{active_most, contains_behind, contains_first, first_or_behind, left_seat, replica_of, seat_of}

-- seats whose replicas are looked up anew are those of their places
pub now_of : (seats next : List Seat) (places : List Place) → map (λ (s : Seat). s.place) next ≡ places → map (λ (s : Seat). seat_now seats s.place) next ≡ seats_now seats places
now_of seats next places are = by next ∙ ap (seats_now seats) are where
  by : (ss : List Seat) → map (λ (s : Seat). seat_now seats s.place) ss ≡ seats_now seats (map (λ (s : Seat). s.place) ss)
  by [] = refl
  by (s ∷ ss) = ap (λ (l : List Seat). seat_now seats s.place ∷ l) (by ss)

pub now_places : (seats : List Seat) (places : List Place) → map (λ (s : Seat). s.place) (seats_now seats places) ≡ places
now_places seats [] = refl
now_places seats (p ∷ places) = ap (λ (l : List Place). p ∷ l) (now_places seats places)

pub now_count : (seats : List Seat) (places : List Place) → length (seats_now seats places) ≡ length places
now_count seats places = length-map places (seat_now seats)

pub now_active : (seats : List Seat) (places : List Place) → active_of (seats_now seats places) ≤ length places
now_active seats places = (let most = active_most (seats_now seats places) in let count = now_count seats places in omega (arith, most, count))

-- what passes a test of none
pub none_of : {X : Type 0} (p : X → Bool) (xs : List X) (x : X) → list_any p xs ≡ false → Contains xs x → p x ≡ false
none_of p [] x none has = absurd (omega (arith, has.1))
none_of p (y ∷ ys) x none has = elim (first_or_behind y x ys has) [
  | inl here ↦ ap p (sym here) ∙ (neither (p y) (list_any p ys) none).0
  | inr behind ↦ none_of p ys x (neither (p y) (list_any p ys) none).1 behind
]

pub none_all : {X : Type 0} (p : X → Bool) (xs : List X) → ((x : X) → Contains xs x → p x ≡ false) → list_any p xs ≡ false
none_all p [] each = refl
none_all p (x ∷ xs) each = (let here = each x (contains_first x xs) in let rest = none_all p xs (λ y has. each y (contains_behind x y xs has)) in rw here rest)

-- spots of which each is one of these
pub spots_among : (xs ys : List Spot) → ((p : Spot) → Contains xs p → Contains ys p) → IsWithin (is_in xs) (is_in ys)
spots_among [] ys all q is = absurd (false≢true is)
spots_among (x ∷ xs) ys all q is = elim (or_cases (same_spot x q) (is_in xs q) is) [
  | inl here ↦ in_those ys x q (all x (contains_first x xs)) here
  | inr behind ↦ spots_among xs ys (λ p has. all p (contains_behind x p xs has)) q behind
]
  where
    in_those : (ys : List Spot) (y q : Spot) → Contains ys y → same_spot y q ≡ true → is_in ys q ≡ true
    in_those [] y q has same = absurd (omega (arith, has.1))
    in_those (z ∷ ys) y q has same = elim (first_or_behind z y ys has) [
      | inl here ↦ or_left (same_spot z q) (is_in ys q) (ap (λ (p : Spot). same_spot p q) here ∙ same)
      | inr behind ↦ or_right (same_spot z q) (is_in ys q) (in_those ys y q behind same)
    ]

module _ (seats : List Seat) where
  -- a place's replica is that of one of the seats
  replica_found : (p : Place) (r : Replica) → replica_for seats p ≡ Some r → (s : Seat) × Contains seats s × (s.replica ≡ Some r) × (s.place ≡ p)
  replica_found p r some = by (find (is_active_at p) seats) refl some where
    by : (o : Option Seat) → find (is_active_at p) seats ≡ o → replica_in o ≡ Some r → (s : Seat) × Contains seats s × (s.replica ≡ Some r) × (s.place ≡ p)
    by None is none = absurd (cc (none))
    by (Some s) is some = (let one = find_some (is_active_at p) seats s is in (s, one.0, some, (same_place-true s.place p).0 (and_parts (is_seat_at p s) (is_active s) one.1).0))

  -- and where one of them is active there, there is one
  active_found : (p : Place) (s : Seat) (r : Replica) → Contains seats s → s.replica ≡ Some r → s.place ≡ p → (x : Replica) × (replica_for seats p ≡ Some x)
  active_found p s r has some here = by (find (is_active_at p) seats) refl where
    its : is_active_at p s ≡ true
    its = and_from (is_seat_at p s) (is_active s) ((same_place-true s.place p).1 here) (ap is_some some)

    in_it : (o : Option Replica) → is_some o ≡ true → (x : Replica) × (o ≡ Some x)
    in_it None none = absurd (false≢true none)
    in_it (Some x) so = (x, refl)

    by : (o : Option Seat) → find (is_active_at p) seats ≡ o → (x : Replica) × (replica_in o ≡ Some x)
    by None none = absurd (false≢true (sym (find_none (is_active_at p) seats none s has.0 has.1 has.2) ∙ its))
    by (Some t) is = (let one = find_some (is_active_at p) seats t is in in_it t.replica (and_parts (is_seat_at p t) (is_active t) one.1).1)

  pub now_seat : (places : List Place) (r : Replica) → Contains (replicas_of (seats_now seats places)) r → (s : Seat) × Contains seats s × (s.replica ≡ Some r) × Contains places s.place
  now_seat places r has =
      let seat = seat_of (seats_now seats places) r has in
      let place = unmapped (seat_now seats) places seat.0 seat.1 in
      let one = replica_found place.0 r (ap (λ (s : Seat). s.replica) place.2 ∙ seat.2) in
      (one.0, one.1, one.2, subst (Contains places) (sym one.3) place.1)

  pub now_in : (places : List Place) (r : Replica) → Contains (replicas_of (seats_now seats places)) r → Contains (replicas_of seats) r
  now_in places r has = (let one = now_seat places r has in replica_of seats one.0 r one.1 one.2)

  pub now_drive : (places : List Place) (drive : _) → Contains (drives_of (seats_now seats places)) drive → Contains (drives_of seats) drive
  now_drive places drive has =
      let r = unmapped (λ (x : Replica). x.line.at.drive) (replicas_of (seats_now seats places)) drive has in
      subst (Contains (drives_of seats)) r.2 (mapped (λ (x : Replica). x.line.at.drive) (replicas_of seats) r.0 (now_in places r.0 r.1))

  pub now_laid : (places : List Place) (sizes : List ℕ) → AreLaid sizes seats → AreLaid sizes (seats_now seats places)
  now_laid places sizes laid r has = laid r (now_in places r has)

  pub now_room : (places : List Place) (blocks : ℕ) → HaveRoom blocks seats → HaveRoom blocks (seats_now seats places)
  now_room places blocks room r has = room r (now_in places r has)

  -- of a table they are seats of the table with its new list alone
  pub now_seats : (table : Table) → AreSeatsOf table seats → 1 ≤ length (last_of table.plan.lists) → length (last_of table.plan.lists) ≤ 50 → AreSeatsOf (settled table) (seats_now seats (last_of table.plan.lists))
  now_seats table are some few = record {
    places = now_places seats (last_of table.plan.lists);
    some = (let count = now_count seats (last_of table.plan.lists) in omega (arith, some, count));
    few = (let count = now_count seats (last_of table.plan.lists) in omega (arith, few, count));
    at = λ s r has some.
        let place = unmapped (seat_now seats) (last_of table.plan.lists) s has in
        let one = replica_found place.0 r (ap (λ (x : Seat). x.replica) place.2 ∙ some) in
        are.at one.0 r one.1 one.2 ∙ one.3 ∙ ap (λ (x : Seat). x.place) place.2;
  }

  pub now_area : (places : List Place) (drive block : ℕ) → seats_area seats drive block ≡ false → seats_area (seats_now seats places) drive block ≡ false
  now_area places drive block out =
      none_all (λ (r : Replica). replica_area r drive block) (replicas_of (seats_now seats places)) (λ r has. none_of (λ (x : Replica). replica_area x drive block) (replicas_of seats) r out (now_in places r has))

  -- their spots are among those of the seats
  pub now_spots : (places : List Place) → IsWithin (is_in (spots_of (seats_now seats places))) (is_in (spots_of seats))
  now_spots places = spots_among (spots_of (seats_now seats places)) (spots_of seats) (λ q has.
      let r = unmapped spot_of (replicas_of (seats_now seats places)) q has in
      subst (Contains (spots_of seats)) r.2 (mapped spot_of (replicas_of seats) r.0 (now_in places r.0 r.1)))

  -- no two are one, as their places differ
  module _ (once : AllPairs (λ (p q : Spot). same_spot p q ≡ false) (spots_of seats)) (at : (s : Seat) (r : Replica) → Contains seats s → s.replica ≡ Some r → (at_of r).place ≡ s.place) where
    Apart : Spot → Spot → Type 0
    Apart p q = same_spot p q ≡ false

    turned : (p q : Spot) → same_spot p q ≡ false → same_spot q p ≡ false
    turned p q apart = by (same_spot q p) refl where
      by : (b : Bool) → same_spot q p ≡ b → same_spot q p ≡ false
      by true so = absurd (false≢true (sym apart ∙ subst (λ (x : Spot). same_spot p x ≡ true) (sym (same_is q p so)) (same_self p)))
      by false so = so

    pub spot_apart : (rs : List Replica) → AllPairs (λ (p q : Spot). same_spot p q ≡ false) (map spot_of rs) → (r x : Replica) → Contains rs r → Contains rs x → (r ≡ x → ⊥) → same_spot (spot_of r) (spot_of x) ≡ false
    spot_apart [] pairs r x has_r has_x differ = absurd (omega (arith, has_r.1))
    spot_apart (y ∷ rs) pairs r x has_r has_x differ = elim (first_or_behind y r rs has_r) [
      | inl here_r ↦ elim (first_or_behind y x rs has_x) [
        | inl here_x ↦ absurd (differ (sym here_r ∙ here_x))
        | inr behind_x ↦ subst (λ (z : Replica). same_spot (spot_of z) (spot_of x) ≡ false) here_r (one x behind_x)
      ]
      | inr behind_r ↦ elim (first_or_behind y x rs has_x) [
        | inl here_x ↦ subst (λ (z : Replica). same_spot (spot_of r) (spot_of z) ≡ false) here_x (turned (spot_of y) (spot_of r) (one r behind_r))
        | inr behind_x ↦ spot_apart rs (AllPairs-rest (λ (p q : Spot). same_spot p q ≡ false) (spot_of y) (map spot_of rs) pairs) r x behind_r behind_x differ
      ]
    ]
      where
        one : (z : Replica) → Contains rs z → same_spot (spot_of y) (spot_of z) ≡ false
        one z has =
            All-contains (λ (q : Spot). same_spot (spot_of y) q ≡ false) (map spot_of rs) (spot_of z) (AllPairs-first (λ (p q : Spot). same_spot p q ≡ false) (spot_of y) (map spot_of rs) pairs) (mapped spot_of rs z has)

    pub now_once : (places : List Place) → AllPairs (λ (p q : Place). p ≡ q → ⊥) places → AllPairs (λ (p q : Spot). same_spot p q ≡ false) (spots_of (seats_now seats places))
    now_once [] differ = λ i j d less within. absurd (omega (arith, within))
    now_once (p ∷ places) differ = by (replica_for seats p) refl (now_once places (AllPairs-rest (λ (a b : Place). a ≡ b → ⊥) p places differ)) where
      each : (x : Replica) (rs : List Replica) → ((r : Replica) → Contains rs r → same_spot (spot_of x) (spot_of r) ≡ false) → All (λ (q : Spot). same_spot (spot_of x) q ≡ false) (map spot_of rs)
      each x [] all = All-nil (λ (q : Spot). same_spot (spot_of x) q ≡ false)
      each x (r ∷ rs) all = All-cons (λ (q : Spot). same_spot (spot_of x) q ≡ false) (spot_of r) (map spot_of rs) (all r (contains_first r rs)) (each x rs (λ y has. all y (contains_behind r y rs has)))

      by : (o : Option Replica) → replica_for seats p ≡ o → AllPairs (λ (a b : Spot). same_spot a b ≡ false) (spots_of (seats_now seats places)) → AllPairs (λ (a b : Spot). same_spot a b ≡ false) (map spot_of (cons_option o (replicas_of (seats_now seats places))))
      by None is rest = rest
      by (Some x) is rest =
          let mine = replica_found p x is in
          AllPairs-cons (λ (a b : Spot). same_spot a b ≡ false) (spot_of x) (spots_of (seats_now seats places))
          (each x (replicas_of (seats_now seats places)) (λ r has.
          let its = now_seat places r has in
          spot_apart (replicas_of seats) once x r (replica_of seats mine.0 x mine.1 mine.2) (replica_of seats its.0 r its.1 its.2)
          (λ same. All-contains (λ (q : Place). p ≡ q → ⊥) places its.0.place (AllPairs-first (λ (a b : Place). a ≡ b → ⊥) p places differ) its.3
          (sym mine.3 ∙ sym (at mine.0 x mine.1 mine.2) ∙ ap (λ (y : Replica). (at_of y).place) same ∙ at its.0 r its.1 its.2)))) rest

-- Seats of one place have one replica.
abbrev pub AreOne : List Seat → Type 0
AreOne seats = (s t : Seat) → Contains seats s → Contains seats t → s.place ≡ t.place → s.replica ≡ t.replica

-- A pass over seats goes over these.
module _ (failed : ℕ → Failures) (Took : Replica → Replica → Type 0) where
  -- each seat is one behind it
  right_seat : (old new : List Seat) (s : Seat) → AreLeft failed Took old new → Contains old s → (n : Seat) × Contains new n × IsLeft failed Took s n
  right_seat [] new s are has = absurd (omega (arith, has.1))
  right_seat (x ∷ old) [] s are has = absurd are
  right_seat (x ∷ old) (n ∷ new) s are has = elim (first_or_behind x s old has) [
    | inl here ↦ (n, contains_first n new, subst (λ (y : Seat). IsLeft failed Took y n) here are.0)
    | inr behind ↦ (let rest = right_seat old new s are.1 behind in (rest.0, contains_behind n rest.0 new rest.1, rest.2))
  ]

  module _ (old new : List Seat) (one : AreOne old) (are : AreLeft failed Took old new) where
    -- one that is there behind it was there
    came_of : (p : Place) (n : Replica) → replica_for new p ≡ Some n → (r : Replica) × (replica_for old p ≡ Some r) × (failed (drive_of r)).none × Took r n
    came_of p n some =
        let m = replica_found new p n some in
        let s = left_seat failed Took old new m.0 are m.1 in
        let q = from s.0.replica m.0.replica m.2 s.2.1 in
        let here : s.0.place ≡ p = sym s.2.0 ∙ m.3 in
        let first = active_found old p s.0 q.0 s.1 q.1 here in
        let t = replica_found old p first.0 first.1 in
        let same : Some q.0 ≡ Some first.0 = sym q.1 ∙ one s.0 t.0 s.1 t.1 (here ∙ sym t.3) ∙ t.2 in
        let it : q.0 ≡ first.0 = cc (same) in
        (q.0, first.1 ∙ sym same, q.2, q.3)
      where
        from : (o a : Option Replica) → a ≡ Some n → MatchOption o (a ≡ None) (λ (r : Replica). MatchOption a (failed (drive_of r)).some (λ (x : Replica). (failed (drive_of r)).none × Took r x)) → (r : Replica) × (o ≡ Some r) × (failed (drive_of r)).none × Took r n
        from None a some none = absurd (cc (some, none))
        from (Some r) None some gone = absurd (cc (some))
        from (Some r) (Some x) some took = (let same : x ≡ n = cc (some) in (r, refl, took.0, subst (Took r) same took.1))

    -- where none is there a call failed
    went_from : (p : Place) (r : Replica) → replica_for old p ≡ Some r → replica_for new p ≡ None → (failed (drive_of r)).some
    went_from p r some none =
        let s = replica_found old p r some in
        let n = right_seat old new s.0 are s.1 in
        by s.0.replica n.0.replica refl s.2 n.2.1 (λ x is. cc (sym (active_found new p n.0 x n.1 is (n.2.0 ∙ s.3)).1, none))
      where
        by : (o a : Option Replica) → a ≡ a → o ≡ Some r → MatchOption o (a ≡ None) (λ (q : Replica). MatchOption a (failed (drive_of q)).some (λ (x : Replica). (failed (drive_of q)).none × Took q x)) → ((x : Replica) → a ≡ Some x → ⊥) → (failed (drive_of r)).some
        by None a same has gone never = absurd (cc (has))
        by (Some q) None same has gone never = (let it : q ≡ r = cc (has) in subst (λ (y : Replica). (failed (drive_of y)).some) it gone)
        by (Some q) (Some x) same has took never = absurd (never x refl)

    left_for : (p : Place) → IsLeft failed Took (seat_now old p) (seat_now new p)
    left_for p = (refl, by (replica_for old p) (replica_for new p) refl refl) where
      by : (o a : Option Replica) → replica_for old p ≡ o → replica_for new p ≡ a → MatchOption o (a ≡ None) (λ (r : Replica). MatchOption a (failed (drive_of r)).some (λ (x : Replica). (failed (drive_of r)).none × Took r x))
      by None None was is = refl
      by None (Some n) was is = absurd (let one = came_of p n is in cc (sym was ∙ one.1))
      by (Some r) None was is = went_from p r was is
      by (Some r) (Some n) was is = (let one = came_of p n is in let same : one.0 ≡ r = cc (sym one.1 ∙ was) in (subst (λ (y : Replica). (failed (drive_of y)).none) same one.2, subst (λ (y : Replica). Took y n) same one.3))

    pub left_now : (places : List Place) → AreLeft failed Took (seats_now old places) (seats_now new places)
    left_now [] = tt
    left_now (p ∷ places) = (left_for p, left_now places)

-- As many of a list are active of these.
module _ (seats : List Seat) where
  now_has : (list : List Place) (p : Place) → Contains list p → has_active seats p ≡ true → has_active (seats_now seats list) p ≡ true
  now_has list p has so =
      let at = seat_at seats p so in
      let found = active_found seats p at.0 at.1 at.2 at.3 at.4 in
      let there = mapped (seat_now seats) list p has in
      list_any_at (is_active_at p) (seats_now seats list) there.0 (seat_now seats p) there.1 (ap (is_active_at p) there.2 ∙ and_from (is_seat_at p (seat_now seats p)) (is_active (seat_now seats p)) ((same_place-true p p).1 refl) (ap is_some found.1))

  pub last_none : (need : Need) (lists : Lists) → short_of need seats lists ≡ None → short_in need seats (last_of lists) ≡ None
  last_none need (One list) none = none
  last_none need (Two old new) none = (both_none need seats (short_in need seats old) (short_in need seats new) none).1

  -- more than half of a list is some
  pub more_some : (list : List Place) → short_in More seats list ≡ None → 1 ≤ length list
  more_some [] none = absurd (cc (none))
  more_some (p ∷ list) none = omega arith

  pub now_enough : (need : Need) (lists : Lists) → short_of need seats lists ≡ None → short_of need (seats_now seats (last_of lists)) (One (last_of lists)) ≡ None
  now_enough need lists none = list_none need (seats_now seats (last_of lists)) (last_of lists) (more need (list_suffices need seats (last_of lists) (last_none need lists none))) where
    within : count_by (has_active seats) (last_of lists) ≤ count_by (has_active (seats_now seats (last_of lists))) (last_of lists)
    within = count_within (has_active seats) (has_active (seats_now seats (last_of lists))) (last_of lists) (λ p has so. now_has (last_of lists) p has so)

    more : (n : Need) → suffices n (share_in seats (last_of lists)) ≡ true → suffices n (share_in (seats_now seats (last_of lists)) (last_of lists)) ≡ true
    more Half so = le-leb (length (last_of lists)) (2 * count_by (has_active (seats_now seats (last_of lists))) (last_of lists)) (omega (arith, leb-true (length (last_of lists)) (2 * count_by (has_active seats) (last_of lists)) so, within))
    more More so = lt-ltb (length (last_of lists)) (2 * count_by (has_active (seats_now seats (last_of lists))) (last_of lists)) (omega (arith, ltb-true (length (last_of lists)) (2 * count_by (has_active seats) (last_of lists)) so, within))

-- of what was found they are what was found there
module _ (replicas : List Replica) (identity : Identity) (text : ℕ) where
  abbrev at : Place → Option Replica
  at p = find (is_seated identity p text) replicas

  none_for : (all : List Place) (p : Place) → at p ≡ None → replica_for (seats_of replicas identity text all) p ≡ None
  none_for [] p none = refl
  none_for (x ∷ all) p none = by (same_place x p) refl (none_for all p none) where
    by : (b : Bool) → same_place x p ≡ b → replica_for (seats_of replicas identity text all) p ≡ None
        → replica_in (cond (b && is_some (at x)) (Some (seat_for replicas identity text x)) (find (is_active_at p) (seats_of replicas identity text all))) ≡ None
    by true so rest =
        let gone : is_some (at x) ≡ false = ap (λ (q : Place). is_some (at q)) ((same_place-true x p).0 so) ∙ ap is_some none in
        ap (λ (b : Bool). replica_in (cond b (Some (seat_for replicas identity text x)) (find (is_active_at p) (seats_of replicas identity text all)))) gone ∙ rest
    by false so rest = rest

  found_for : (all : List Place) (p : Place) → Contains all p → replica_for (seats_of replicas identity text all) p ≡ at p
  found_for [] p has = absurd (omega (arith, has.1))
  found_for (x ∷ all) p has = by (same_place x p) refl (found_for all p) where
    here_by : (o : Option Replica) → at p ≡ o → x ≡ p
        → replica_in (cond (is_some (at x)) (Some (seat_for replicas identity text x)) (find (is_active_at p) (seats_of replicas identity text all))) ≡ at p
    here_by None none here =
        ap (λ (b : Bool). replica_in (cond b (Some (seat_for replicas identity text x)) (find (is_active_at p) (seats_of replicas identity text all)))) (ap (λ (q : Place). is_some (at q)) here ∙ ap is_some none) ∙ none_for all p none ∙ sym none
    here_by (Some r) some here =
        ap (λ (b : Bool). replica_in (cond b (Some (seat_for replicas identity text x)) (find (is_active_at p) (seats_of replicas identity text all)))) (ap (λ (q : Place). is_some (at q)) here ∙ ap is_some some) ∙ ap at here

    by : (b : Bool) → same_place x p ≡ b → (Contains all p → replica_for (seats_of replicas identity text all) p ≡ at p)
        → replica_in (cond (b && is_some (at x)) (Some (seat_for replicas identity text x)) (find (is_active_at p) (seats_of replicas identity text all))) ≡ at p
    by true so rest = here_by (at p) refl ((same_place-true x p).0 so)
    by false so rest = elim (first_or_behind x p all has) [
      | inl here ↦ absurd (false≢true (sym so ∙ (same_place-true x p).1 here))
      | inr behind ↦ rest behind
    ]

  pub found_now : (all places : List Place) → ((p : Place) → Contains places p → Contains all p) → seats_now (seats_of replicas identity text all) places ≡ seats_of replicas identity text places
  found_now all [] within = refl
  found_now all (p ∷ places) within =
      let here = found_for all p (within p (contains_first p places)) in
      let rest = found_now all places (λ q has. within q (contains_behind p q places has)) in
      λ i. record { place = p; replica = here i } ∷ rest i
