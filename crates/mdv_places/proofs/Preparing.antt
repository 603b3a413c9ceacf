-- What was taken of memory before anything is written.
use Rattle.std.proofs.Common.{◌≡◌, ◌≤◌, ℕ, List, [], ◌∷◌, ◌++◌, length, take, vec_len, MatchOption, Option, None, Some, sym, ◌∙◌, ap, subst, append-nil, arith}
use Rattle.std.proofs.lemmas.List.{length-map}
use Rattle.mdv_encoding.proofs.Rooms.{room_most}
use Rattle.mdv_store.proofs.Rooms.{first_most}
use Rattle.mdv_store.specs.Listing.{IsRoomFor, IsRoomy, MayList, list_room, seats_then}
use Rattle.mdv_store.specs.Settled.{first_room}
use Rattle.mdv_places.specs.Asked.{Adds, Asks, Drops, KeepsFirst, lists_after, seats_added}
use Rattle.mdv_places.specs.Below.{Geometry, Lists, Opened, Place, Seat, last_of, places_of}
use Rattle.mdv_places.specs.Changing.{IsPrepared, MayMove}
use Rattle.mdv_places.specs.declared.forming.Hand.{Hand}
use Rattle.mdv_places.proofs.Adding.{place_of_seat}
use Rattle.mdv_places.proofs.Moving.{seat_places}

-- the seats of both lists
pub all_seats : (o : Opened) (lists : Lists) (asked : Asks) (hand : Hand) → IsPrepared o lists asked hand → seats_then hand.seats o.seats ≡ o.seats ++ seats_added o asked
all_seats o lists (Adds lines count blocks) hand made = ap (λ (s : Option (List Seat)). seats_then s o.seats) made.0
all_seats o lists (Drops slices) hand made = ap (λ (s : Option (List Seat)). seats_then s o.seats) made.0 ∙ sym (append-nil o.seats)
all_seats o lists KeepsFirst hand made = ap (λ (s : Option (List Seat)). seats_then s o.seats) made.0 ∙ sym (append-nil o.seats)

-- the first place stays the first
first_more : (old more : List Place) → 1 ≤ length old → first_room (old ++ more) ≤ first_room old
first_more [] more some = absurd (omega (arith, some))
first_more (p ∷ ps) more some = omega arith

first_alone : (old : List Place) → first_room (take 1 old) ≤ first_room old
first_alone [] = omega arith
first_alone (p ∷ ps) = omega arith

room_short : (lists : Lists) (n : ℕ) → n ≡ list_room lists → IsRoomFor lists n
room_short lists n is = (let least = room_most (places_of lists) in let first = first_most (last_of lists) in record { enough = omega (arith, is); short = omega (arith, is, least, first) })

module _ (sizes : List ℕ) (g : Geometry) (o : Opened) (asked : Asks) (may : MayMove sizes g o asked) (checked : MayList o (lists_after asked o.table.plan.lists)) where
  some_old : 1 ≤ length (last_of o.table.plan.lists)
  some_old = (let same = sym (length-map o.seats place_of_seat) ∙ ap length (seat_places sizes g o asked may checked) in let some = checked.seats.some in omega (arith, same, some))

  pub has_room : (hand : Hand) → IsPrepared o (lists_after asked o.table.plan.lists) asked hand → MatchOption hand.room (IsRoomy o (lists_after asked o.table.plan.lists)) (λ r. IsRoomFor (lists_after asked o.table.plan.lists) (vec_len r))
  has_room hand made = by asked made where
    old : List Place
    old = last_of o.table.plan.lists

    by : (m : Asks) → IsPrepared o (lists_after m o.table.plan.lists) m hand → MatchOption hand.room (IsRoomy o (lists_after m o.table.plan.lists)) (λ r. IsRoomFor (lists_after m o.table.plan.lists) (vec_len r))
    by (Adds lines count blocks) is =
        subst (λ m. MatchOption m (IsRoomy o (lists_after (Adds lines count blocks) o.table.plan.lists)) (λ r. IsRoomFor (lists_after (Adds lines count blocks) o.table.plan.lists) (vec_len r))) (sym is.1) (first_more (last_of o.table.plan.lists) _ some_old)
    by (Drops slices) is =
        (elim hand.room as (λ m. MatchOption m ⊥ (λ r. vec_len r ≡ list_room (lists_after (Drops slices) o.table.plan.lists)) → MatchOption m (IsRoomy o (lists_after (Drops slices) o.table.plan.lists)) (λ r. IsRoomFor (lists_after (Drops slices) o.table.plan.lists) (vec_len r))) [
          | None ↦ λ none. absurd none
          | Some r ↦ λ same. room_short (lists_after (Drops slices) o.table.plan.lists) (vec_len r) same
        ]) is.1
    by KeepsFirst is = subst (λ m. MatchOption m (IsRoomy o (lists_after KeepsFirst o.table.plan.lists)) (λ r. IsRoomFor (lists_after KeepsFirst o.table.plan.lists) (vec_len r))) (sym is.1) (first_alone (last_of o.table.plan.lists))
