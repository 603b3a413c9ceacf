-- How a change of places goes on from what was checked: the seats of both lists, and those of the new one alone.
use Rattle.std.proofs.Common.{◌≡◌, ◌⊎◌, inl, inr, ◌≤◌, ℕ, Bool, true, false, List, [], ◌∷◌, ◌++◌, filter, length, map, take, AllPairs, Contains, Some, Ok, cond, refl, sym, ◌∙◌, ap, subst, append-nil, arith}
use Rattle.std.proofs.lemmas.List.{length-append, length-map, map-append}
use Rattle.std.proofs.lemmas.List.Elements.{All-contains, Contains-append_cases}
use Rattle.mdv_acts.proofs.Members.{contains_first, first_or_behind}
use Rattle.mdv_encoding.proofs.Rooms.{last_room}
use Rattle.mdv_encoding.specs.Room.{least_slot_bytes}
use Rattle.mdv_shelf.specs.Shelves.{DriveFailures}
use Rattle.mdv_store.proofs.Finishing.{settled_less}
use Rattle.mdv_store.proofs.Sitting.{left_places}
use Rattle.mdv_store.specs.Listing.{IsLast, IsSecond, MayList, WasListed, seats_in}
use Rattle.mdv_store.specs.Opened.{AreSeatsOf}
use Rattle.mdv_store.specs.Writing.{text_size}
use Rattle.mdv_survey.specs.Newest.{HasNoneAbove}
use Rattle.mdv_config.proofs.Beside.{among-true}
use Rattle.mdv_config.proofs.Deciding.{not_so}
use Rattle.mdv_config.proofs.Pairs.{AllPairs-first}
use Rattle.mdv_places.specs.Asked.{Adds, AreAskedOn, Asks, Drops, KeepsFirst, list_after, list_less, lists_after, places_added, seats_added}
use Rattle.mdv_places.specs.Below.{AreLaid, Geometry, Ghosts, Lists, One, Opened, Place, Replica, Seat, TakesSlot, at_of, beside, last_of, next_mark, places_of, replicas_of, settled, with_lists}
use Rattle.mdv_places.specs.Changing.{AreFree, MayMove, both_of}
use Rattle.mdv_places.proofs.Adding.{added_slice, asked_places, claims_places, either_replica, more_above, more_at, more_laid, place_of_seat}
use Rattle.mdv_places.proofs.Coming.{both_less, both_more, has_in, kept_passing, kept_self, none_kept, passes}

pub added_places : (o : Opened) (asked : Asks) → map place_of_seat (seats_added o asked) ≡ places_added asked
added_places o (Adds lines count blocks) = claims_places o.mark.boot _ ∙ asked_places o.key o.identity count blocks lines
added_places o (Drops slices) = refl
added_places o KeepsFirst = refl

-- the first place is one of all
first_within : (list : List Place) (p : Place) → Contains (take 1 list) p → Contains list p
first_within [] p has = has
first_within (x ∷ xs) p has = elim (first_or_behind x p [] has) [
  | inl here ↦ subst (Contains (x ∷ xs)) here (contains_first x xs)
  | inr none ↦ absurd (omega (arith, none.1))
]

-- both lists, each place once, are those that there are, and those that are added
pub both_places : (list : List Place) (asked : Asks) → AreFree asked list → list ++ beside list (list_after asked list) ≡ list ++ places_added asked
both_places list (Adds lines count blocks) free =
    both_more list (places_added (Adds lines count blocks)) (λ p more has. (let one = added_slice count blocks lines p more in free one.0 one.1 p has one.2))
both_places list (Drops slices) free = both_less list (list_less slices list) (λ p has. (passes _ list p has).0) ∙ sym (append-nil list)
both_places list KeepsFirst free = both_less list (take 1 list) (first_within list) ∙ sym (append-nil list)

-- no other place is the first one
apart_first : (x : Place) (xs : List Place) → AllPairs (λ (p q : Place). p ≡ q → ⊥) (x ∷ xs) → (p : Place) → Contains xs p → x ≡ p → ⊥
apart_first x xs differ p has = All-contains (λ (q : Place). x ≡ q → ⊥) xs p (AllPairs-first (λ (a b : Place). a ≡ b → ⊥) x xs differ) has

others_differ : (x : Place) (xs : List Place) → AllPairs (λ (p q : Place). p ≡ q → ⊥) (x ∷ xs) → filter (has_in (x ∷ [])) xs ≡ []
others_differ x xs differ = none_kept (has_in (x ∷ [])) xs (λ p has. not_so (has_in (x ∷ []) p) (among-true (x ∷ []) p) (λ in_one. elim (first_or_behind x p [] in_one) [
  | inl here ↦ apart_first x xs differ p has here
  | inr none ↦ absurd (omega (arith, none.1))
]))

-- those of both lists that the new one has are just its places
pub new_kept : (list : List Place) (asked : Asks) → AllPairs (λ (p q : Place). p ≡ q → ⊥) list → AreFree asked list → filter (has_in (list_after asked list)) (list ++ beside list (list_after asked list)) ≡ list_after asked list
new_kept list (Adds lines count blocks) differ free = ap (filter (has_in (list_after (Adds lines count blocks) list))) (both_places list (Adds lines count blocks) free) ∙ kept_self (list ++ places_added (Adds lines count blocks))
new_kept list (Drops slices) differ free = ap (filter (has_in (list_less slices list))) (both_places list (Drops slices) free ∙ append-nil list) ∙ kept_passing _ list
new_kept list KeepsFirst differ free = ap (filter (has_in (take 1 list))) (both_places list KeepsFirst free ∙ append-nil list) ∙ one list differ where
  one : (l : List Place) → AllPairs (λ (p q : Place). p ≡ q → ⊥) l → filter (has_in (take 1 l)) l ≡ take 1 l
  one [] none = refl
  one (x ∷ xs) apart = ap (λ (b : Bool). cond b (x ∷ filter (has_in (x ∷ [])) xs) (filter (has_in (x ∷ [])) xs)) ((among-true (x ∷ []) x).1 (contains_first x [])) ∙ ap (λ (l : List Place). x ∷ l) (others_differ x xs apart)

-- the seats of a list's places, by their places
pub seats_places : (list : List Place) (seats : List Seat) → map place_of_seat (seats_in list seats) ≡ filter (has_in list) (map place_of_seat seats)
seats_places list [] = refl
seats_places list (s ∷ ss) = by (has_in list s.place) (seats_places list ss) where
  by : (b : Bool) → map place_of_seat (seats_in list ss) ≡ filter (has_in list) (map place_of_seat ss) → map place_of_seat (cond b (s ∷ seats_in list ss) (seats_in list ss)) ≡ cond b (s.place ∷ filter (has_in list) (map place_of_seat ss)) (filter (has_in list) (map place_of_seat ss))
  by true rest = ap (λ (l : List Place). s.place ∷ l) rest
  by false rest = rest

module _ (sizes : List ℕ) (g : Geometry) (o : Opened) (asked : Asks) (may : MayMove sizes g o asked) (checked : MayList o (lists_after asked o.table.plan.lists)) where
  abbrev old : List Place
  old = last_of o.table.plan.lists

  abbrev lists : Lists
  lists = lists_after asked o.table.plan.lists

  pub one_list : o.table.plan.lists ≡ One old
  one_list = may.one.1 ∙ ap One (sym (ap last_of may.one.1))

  pub seat_places : map place_of_seat o.seats ≡ old
  seat_places = checked.seats.places ∙ ap places_of one_list

  pub all_places : map place_of_seat (o.seats ++ seats_added o asked) ≡ places_of lists
  all_places =
      map-append place_of_seat o.seats (seats_added o asked) ∙ ap (λ (l : List Place). l ++ map place_of_seat (seats_added o asked)) seat_places ∙ ap (λ (l : List Place). old ++ l) (added_places o asked)
      ∙ sym (both_places old asked may.free)

  -- the seats of the new list have its places
  pub coming_places : map place_of_seat (seats_in (list_after asked old) (o.seats ++ seats_added o asked)) ≡ list_after asked old
  coming_places = seats_places (list_after asked old) (o.seats ++ seats_added o asked) ∙ ap (filter (has_in (list_after asked old))) all_places ∙ new_kept old asked may.differ may.free

  -- those that are added
  added_at : (s : Seat) (r : Replica) → Contains (seats_added o asked) s → s.replica ≡ Some r → (at_of r).place ≡ s.place
  added_at = by asked may.within where
    by : (m : Asks) → AreAskedOn sizes m → (s : Seat) (r : Replica) → Contains (seats_added o m) s → s.replica ≡ Some r → (at_of r).place ≡ s.place
    by (Adds lines count blocks) a s r has is = more_at o.key o.identity count blocks lines o.mark.boot sizes a s r has is
    by (Drops slices) a s r has is = absurd (omega (arith, has.1))
    by KeepsFirst a s r has is = absurd (omega (arith, has.1))

  added_above : (r : Replica) → Contains (replicas_of (seats_added o asked)) r → HasNoneAbove o.mark r.head
  added_above = by asked where
    by : (m : Asks) → (r : Replica) → Contains (replicas_of (seats_added o m)) r → HasNoneAbove o.mark r.head
    by (Adds lines count blocks) r has = more_above o.key o.identity count blocks lines o.mark.boot o.mark r has
    by (Drops slices) r has = absurd (omega (arith, has.1))
    by KeepsFirst r has = absurd (omega (arith, has.1))

  added_laid : AreLaid sizes (seats_added o asked)
  added_laid = by asked may.within where
    by : (m : Asks) → AreAskedOn sizes m → AreLaid sizes (seats_added o m)
    by (Adds lines count blocks) a r has = more_laid o.key o.identity count blocks lines o.mark.boot sizes a r has
    by (Drops slices) a r has = absurd (omega (arith, has.1))
    by KeepsFirst a r has = absurd (omega (arith, has.1))

  -- a replica of all is one that there was, or one that is added
  either : (r : Replica) → Contains (replicas_of (o.seats ++ seats_added o asked)) r → Contains (replicas_of o.seats) r ⊎ Contains (replicas_of (seats_added o asked)) r
  either = either_replica o.seats (seats_added o asked)

  pub both_laid : AreLaid sizes o.seats → AreLaid sizes (o.seats ++ seats_added o asked)
  both_laid laid r has = elim (either r has) [
    | inl was ↦ laid r was
    | inr more ↦ added_laid r more
  ]

  few_places : length (o.seats ++ seats_added o asked) ≤ 100
  few_places = by asked may.few where
    counted : length o.seats ≡ length old
    counted = sym (length-map o.seats place_of_seat) ∙ ap length seat_places

    by : (m : Asks) → length (list_after m old) ≤ 50 → length (o.seats ++ seats_added o m) ≤ 100
    by (Adds lines count blocks) few =
        let all = length-append o.seats (seats_added o (Adds lines count blocks)) in
        let more : length (seats_added o (Adds lines count blocks)) ≡ length (places_added (Adds lines count blocks)) = sym (length-map (seats_added o (Adds lines count blocks)) place_of_seat) ∙ ap length (added_places o (Adds lines count blocks)) in
        let same = counted in
        omega (arith, all, more, same, few, length-append old (places_added (Adds lines count blocks)))
    by (Drops slices) few = (let all = length-append o.seats [] in let most = checked.seats.few in omega (arith, all, most))
    by KeepsFirst few = (let all = length-append o.seats [] in let most = checked.seats.few in omega (arith, all, most))

  pub both_seats : AreSeatsOf (with_lists o.table lists) (o.seats ++ seats_added o asked)
  both_seats = record {
    places = all_places;
    some = (let all = length-append o.seats (seats_added o asked) in let some = checked.seats.some in omega (arith, all, some));
    few = few_places;
    at = λ s r has is. elim (Contains-append_cases o.seats (seats_added o asked) s has) [
      | inl was ↦ checked.seats.at s r was is
      | inr more ↦ added_at s r more is
    ];
  }

  pub is_second : IsSecond o lists (o.seats ++ seats_added o asked)
  is_second = record {
    may = checked;
    old = old;
    new = list_after asked old;
    one = one_list;
    two = refl;
    of = both_seats;
    marks = λ r has. elim (either r has) [
      | inl was ↦ checked.above r was
      | inr more ↦ added_above r more
    ];
  }

  -- behind the record with both lists
  module _ {S : Type 0} (shelf : Ghosts S) (from to : S) (between : Opened) (wrote : WasListed shelf from to (both_of o asked) between (Ok tt)) where
    between_is : between ≡ record (both_of o asked) { mark = next_mark o.mark; seats = between.seats }
    between_is = wrote.came.1

    lists_are : between.table.plan.lists ≡ lists
    lists_are = ap (λ (b : Opened). b.table.plan.lists) between_is

    pub is_last : IsLast between
    is_last = record {
      half = wrote.came.0;
      places =
          seats_places (last_of between.table.plan.lists) between.seats
          ∙ ap (filter (has_in (last_of between.table.plan.lists))) (left_places (DriveFailures shelf from to) (TakesSlot (next_mark o.mark) (text_size (both_of o asked).table)) (both_of o asked).seats between.seats wrote.wrote.left ∙ all_places)
          ∙ ap (λ (l : Lists). filter (has_in (last_of l)) (places_of lists)) lists_are ∙ new_kept old asked may.differ may.free ∙ sym (ap last_of lists_are);
      some = subst (λ (l : Lists). 1 ≤ length (last_of l)) (sym lists_are) may.some;
      fits = subst (λ (b : Opened). text_size (settled b.table) ≤ least_slot_bytes (last_of b.table.plan.lists)) (sym between_is)
          (let less = settled_less (both_of o asked).table in let fits = checked.fits in omega (arith, less, fits, last_room lists));
      small = (let two = checked.small in let mark = ap (λ (b : Opened). b.mark.count) between_is in omega (arith, two, mark));
    }
