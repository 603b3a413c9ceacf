-- A table that is written with another list of places than the open one.
use Rattle.std.proofs.Common.{◌≡◌, inl, inr, ◌<◌, ◌≤◌, ◌+◌, ◌*◌, ◌^◌, ℕ, Bool, true, false, cond, List, [], ◌∷◌, length, Contains, Some, refl, sym, ◌∙◌, ap, subst, arith}
use Rattle.std.proofs.lemmas.List.{length-map}
use Rattle.mdv_encoding.proofs.Rooms.{room_each}
use Rattle.mdv_encoding.specs.Room.{least_slot_bytes}
use Rattle.mdv_store.specs.Below.{Failures, HasNoneAbove, Lists, Place, Replica, last_of, places_of}
use Rattle.mdv_store.specs.Commit.{next_mark}
use Rattle.mdv_store.specs.Listing.{IsLast, IsRoomFor, IsRoomy, IsSecond, is_listed_in, last_by, seats_in}
use Rattle.mdv_store.specs.Opened.{AreSeatsOf, IsOpen, Opened, least_room}
use Rattle.mdv_store.specs.Seats.{AreLaid, AreLeft, HaveRoom, TakesSlot, replicas_of}
use Rattle.mdv_store.specs.Settled.{first_room}
use Rattle.mdv_store.specs.Shares.{short_of}
use Rattle.mdv_store.specs.Text.{blocks_for}
use Rattle.mdv_store.specs.Writing.{text_size}
use Rattle.mdv_store.specs.declared.seats.Need.TheVariants.{Half}
use Rattle.mdv_store.specs.declared.seats.Seat.{Seat}
use Rattle.mdv_store.specs.declared.seats.Share.{Share}
use Rattle.mdv_store.proofs.Marks.{left_none_above, slot_stays}
use Rattle.mdv_store.proofs.Rooms.{first_least, have_room}
use Rattle.mdv_store.proofs.Sitting.{contains_behind, contains_first, first_or_behind, left_seats, replica_of, seat_of}
use Rattle.mdv_store.proofs.Texts.{text_some}

module _ (b : Opened) (are : AreSeatsOf b.table b.seats) (fits : text_size b.table ≤ least_slot_bytes (places_of b.table.plan.lists)) where
  pub listing_room : HaveRoom (blocks_for (text_size b.table)) b.seats
  listing_room = have_room b.table b.seats (text_size b.table) are (text_some b.table) fits

  -- open as it is then, or lost
  module _ (above : (r : Replica) → Contains (replicas_of b.seats) r → HasNoneAbove b.mark r.head) (boot : b.mark.boot < 2 ^ 63) (small : b.mark.count + 1 < 2 ^ 63) (room : ℕ)
      (whole : least_room (places_of b.table.plan.lists) ≤ room) (first : first_room (last_of b.table.plan.lists) ≤ room) (short : 512 * room < 2 ^ 32)
      (failed : ℕ → Failures) (now : List Seat) (left : AreLeft failed (TakesSlot (next_mark b.mark) (text_size b.table)) b.seats now) where
    seats_now : AreSeatsOf b.table now
    seats_now = left_seats failed (TakesSlot (next_mark b.mark) (text_size b.table)) b.table b.table b.seats now (slot_stays (next_mark b.mark) (text_size b.table)) refl left are

    pub listed_open : IsOpen (record b { mark = next_mark b.mark; seats = now }) room
    listed_open = record {
      boot = boot;
      count = small;
      seats = seats_now;
      whole = whole;
      first = first;
      short = short;
      marks = λ half. left_none_above failed b.mark (text_size b.table) b.seats now left above;
    }

    pub unlisted_open : (share : Share) → short_of Half now b.table.plan.lists ≡ Some share → IsOpen (record b { seats = now }) room
    unlisted_open share few = record {
      boot = boot;
      count = omega (arith, small);
      seats = seats_now;
      whole = whole;
      first = first;
      short = short;
      marks = λ half. absurd (cc (few, half));
    }

-- Seats of a list's places are some of all.
pub in_all : (list : List Place) (seats : List Seat) (s : Seat) → Contains (seats_in list seats) s → Contains seats s
in_all list [] s has = has
in_all list (x ∷ xs) s has = by (is_listed_in list x) has (in_all list xs s) where
  by : (kept : Bool) → Contains (cond kept (x ∷ seats_in list xs) (seats_in list xs)) s → (Contains (seats_in list xs) s → Contains xs s) → Contains (x ∷ xs) s
  by false behind rest = contains_behind x s xs (rest behind)
  by true one rest = elim (first_or_behind x s (seats_in list xs) one) [
    | inl here ↦ subst (Contains (x ∷ xs)) here (contains_first x xs)
    | inr behind ↦ contains_behind x s xs (rest behind)
  ]

pub replicas_in : (list : List Place) (seats : List Seat) (r : Replica) → Contains (replicas_of (seats_in list seats)) r → Contains (replicas_of seats) r
replicas_in list seats r has = (let one = seat_of (seats_in list seats) r has in replica_of seats one.0 r (in_all list seats one.0 one.1) one.2)

few_in : (list : List Place) (seats : List Seat) → length (seats_in list seats) ≤ length seats
few_in list [] = omega arith
few_in list (x ∷ xs) = by (is_listed_in list x) (few_in list xs) where
  by : (kept : Bool) → length (seats_in list xs) ≤ length xs → length (cond kept (x ∷ seats_in list xs) (seats_in list xs)) ≤ length (x ∷ xs)
  by true rest = omega (arith, rest)
  by false rest = omega (arith, rest)

pub laid_in : (list : List Place) (seats : List Seat) (sizes : List ℕ) → AreLaid sizes seats → AreLaid sizes (seats_in list seats)
laid_in list seats sizes laid r has = laid r (replicas_in list seats r has)

module _ (o : Opened) (are : AreSeatsOf o.table o.seats) (last : IsLast o) where
  abbrev comes : List Place
  comes = last_of o.table.plan.lists

  comes_count : length (seats_in comes o.seats) ≡ length comes
  comes_count = sym (length-map (seats_in comes o.seats) (λ (s : Seat). s.place)) ∙ ap length last.places

  pub last_seats : AreSeatsOf (last_by o).table (last_by o).seats
  last_seats = record {
    places = last.places;
    some = (let count = comes_count in let some = last.some in omega (arith, count, some));
    few = (let few = few_in comes o.seats in let all = are.few in omega (arith, few, all));
    at = λ s r has is. are.at s r (in_all comes o.seats s has) is;
  }

  -- there is room enough for each text of these
  pub last_whole : (room : ℕ) → first_room comes ≤ room → least_room comes ≤ room
  last_whole room first = (let less = first_least comes last.some in omega (arith, less, first))

-- there is room for both lists, where the first place of the second one is no longer than that of the only one
pub room_first : (o : Opened) (lists : Lists) (seats : List Seat) → IsSecond o lists seats → (room : ℕ) → least_room (places_of o.table.plan.lists) ≤ room → first_room (last_of o.table.plan.lists) ≤ room → 512 * room < 2 ^ 32 → IsRoomy o lists → IsRoomFor lists room
room_first o lists seats second room whole first short roomy =
    let one = ap (λ (l : Lists). least_room (places_of l)) second.one in
    let two = ap (λ (l : Lists). least_room (places_of l)) second.two in
    let less = room_each second.old second.new in
    record { enough = omega (arith, one, two, less, whole, first, roomy); short = short }
