-- The seats of one list's places, of those of both lists.
use Rattle.std.proofs.Common.{◌≡◌, inl, inr, ◌≤◌, ◌||◌, Bool, true, false, cond, List, [], ◌∷◌, length, map, Contains, Option, Some, None, refl, sym, ◌∙◌, ap, subst, arith}
use Rattle.std.proofs.lemmas.Bool.{or_left, or_right}
use Rattle.mdv_acts.proofs.Members.{contains_behind, contains_first, first_or_behind}
use Rattle.std.specs.List.{cons_option, list_any}
use Rattle.mdv_name.specs.Sound.{IsSound}
use Rattle.mdv_shelf.proofs.Everywhere.{last_image}
use Rattle.mdv_shelf.specs.Tale.{last}
use Rattle.mdv_standing.specs.Below.{is_in}
use Rattle.mdv_store.specs.Below.{Geometry, Identity, Key, Replica, Spot, Table, Tale, at_of, last_of, same_spot, settled, site_of}
use Rattle.mdv_store.specs.Listing.{is_listed_in, seats_in}
use Rattle.mdv_store.specs.Opened.{AreSeatsOf}
use Rattle.mdv_store.specs.Seats.{AreHeld, AreNamed, replicas_of, spot_of, spots_of}
use Rattle.mdv_store.specs.Settled.{seats_now}
use Rattle.mdv_store.specs.Shares.{short_of}
use Rattle.mdv_store.specs.declared.seats.Need.TheVariants.{Half}
use Rattle.mdv_store.specs.declared.seats.Seat.{Seat}
use Rattle.mdv_store.proofs.Again.{now_enough, now_seat, now_seats}
use Rattle.mdv_store.proofs.Halves.{spot_at, spot_is}
use Rattle.mdv_store.proofs.Rows.{part_pairs}
use Rattle.mdv_store.proofs.Shares.{some_enough}
use Rattle.mdv_store.proofs.Sitting.{replica_of, seat_of, some_active}
use Rattle.mdv_store_law.proofs.Parts.{part_itself, part_mapped, part_more}
use Rattle.mdv_store_law.specs.Part.{IsPart}
use Rattle.mdv_config.proofs.Beside.{among-true}
use Rattle.mdv_votes.proofs.Meeting.{same_self}
use Rattle.mdv_places.specs.Below.{Place, same_place}
use Rattle.mdv_places.specs.Moments.{replicas_in}
use Rattle.mdv_places.proofs.Coming.{keeps, passes}

module _ (list : List Place) where
  -- they are some of all, in their order
  pub picked_part : (seats : List Seat) → IsPart (replicas_of (seats_in list seats)) (replicas_of seats)
  picked_part [] = tt
  picked_part (s ∷ ss) = by (is_listed_in list s) s.replica (picked_part ss) where
    front : (o : Option Replica) (part whole : List Replica) → IsPart part whole → IsPart (cons_option o part) (cons_option o whole)
    front None part whole is = is
    front (Some r) part whole is = part_more (r ∷ []) (r ∷ []) part whole (part_itself (r ∷ [])) is

    behind : (o : Option Replica) (part whole : List Replica) → IsPart part whole → IsPart part (cons_option o whole)
    behind None part whole is = is
    behind (Some r) part whole is = part_more [] (r ∷ []) part whole tt is

    by : (b : Bool) (o : Option Replica) → IsPart (replicas_of (seats_in list ss)) (replicas_of ss) → IsPart (replicas_of (cond b (s ∷ seats_in list ss) (seats_in list ss))) (cons_option s.replica (replicas_of ss))
    by true o is = front s.replica (replicas_of (seats_in list ss)) (replicas_of ss) is
    by false o is = behind s.replica (replicas_of (seats_in list ss)) (replicas_of ss) is

  pub picked_spots : (seats : List Seat) → IsPart (spots_of (seats_in list seats)) (spots_of seats)
  picked_spots seats = part_mapped spot_of (replicas_of (seats_in list seats)) (replicas_of seats) (picked_part seats)

  -- the seat of one of them
  pub picked_seat : (seats : List Seat) (r : Replica) → Contains (replicas_of (seats_in list seats)) r → (s : Seat) × Contains seats s × (s.replica ≡ Some r) × Contains list s.place
  picked_seat seats r has =
      let s = seat_of (seats_in list seats) r has in
      let one = passes (is_listed_in list) seats s.0 s.1 in
      (s.0, one.0, s.2, (among-true list s.0.place).0 one.1)

  pub picked_one : (seats : List Seat) (s : Seat) (r : Replica) → Contains seats s → s.replica ≡ Some r → Contains list s.place → Contains (replicas_of (seats_in list seats)) r
  picked_one seats s r has is listed = replica_of (seats_in list seats) s r (keeps (is_listed_in list) seats s has ((among-true list s.place).1 listed)) is

  -- by their replicas
  pub picked_are : (seats : List Seat) → ((s : Seat) (r : Replica) → Contains seats s → s.replica ≡ Some r → (at_of r).place ≡ s.place) → replicas_in list (replicas_of seats) ≡ replicas_of (seats_in list seats)
  picked_are [] at = refl
  picked_are (s ∷ ss) at = by s.replica refl (picked_are ss (λ x r has is. at x r (contains_behind s x ss has) is)) where
    none : (b : Bool) → s.replica ≡ None → replicas_of (seats_in list ss) ≡ replicas_of (cond b (s ∷ seats_in list ss) (seats_in list ss))
    none true is = ap (λ (o : Option Replica). cons_option o (replicas_of (seats_in list ss))) (sym is)
    none false is = refl

    some : (b : Bool) (r : Replica) → s.replica ≡ Some r → cond b (r ∷ replicas_of (seats_in list ss)) (replicas_of (seats_in list ss)) ≡ replicas_of (cond b (s ∷ seats_in list ss) (seats_in list ss))
    some true r is = ap (λ (o : Option Replica). cons_option o (replicas_of (seats_in list ss))) (sym is)
    some false r is = refl

    by : (o : Option Replica) → s.replica ≡ o → replicas_in list (replicas_of ss) ≡ replicas_of (seats_in list ss) → replicas_in list (cons_option s.replica (replicas_of ss)) ≡ replicas_of (seats_in list (s ∷ ss))
    by None is rest = ap (λ (o : Option Replica). replicas_in list (cons_option o (replicas_of ss))) is ∙ rest ∙ none (is_listed_in list s) is
    by (Some r) is rest =
        let same : list_any (same_place (at_of r).place) list ≡ is_listed_in list s = ap (λ (p : Place). list_any (same_place p) list) (at s r (contains_first s ss) is) in
        ap (λ (o : Option Replica). replicas_in list (cons_option o (replicas_of ss))) is
        ∙ ap (λ (b : Bool). cond b (r ∷ replicas_in list (replicas_of ss)) (replicas_in list (replicas_of ss))) same
        ∙ ap (λ (l : List Replica). cond (is_listed_in list s) (r ∷ l) l) rest
        ∙ some (is_listed_in list s) r is

-- at least half of each list is active: so of the last one some place is
pub picked_some : (table : Table) (seats : List Seat) → AreSeatsOf table seats → 1 ≤ length (last_of table.plan.lists) → length (last_of table.plan.lists) ≤ 50 → short_of Half seats table.plan.lists ≡ None
    → (r : Replica) × Contains (replicas_of (seats_in (last_of table.plan.lists) seats)) r
picked_some table seats are some few half =
    let list = last_of table.plan.lists in
    let one = some_active (seats_now seats list) (some_enough Half (seats_now seats list) (settled table) (now_seats seats table are some few) (now_enough seats Half table.plan.lists half)) in
    let s = now_seat seats list one.0 one.1 in
    (one.0, picked_one list seats s.0 one.0 s.1 s.2 s.3)

-- They stand as all did, and the list alone names them.
module _ (g : Geometry) (key : Key) (identity : Identity) (sound : IsSound g) (seats : List Seat) (list : List Place) (t : Tale) (held : AreHeld g key identity seats t) where
  in_all : (r : Replica) → Contains (replicas_of (seats_in list seats)) r → Contains (replicas_of seats) r
  in_all r has = (let s = picked_seat list seats r has in replica_of seats s.0 r s.1 s.2)

  pub picked_held : AreHeld g key identity (seats_in list seats) t
  picked_held = record {
    each = λ r has. held.each r (in_all r has);
    once = part_pairs (λ (p q : Spot). same_spot p q ≡ false) (spots_of (seats_in list seats)) (spots_of seats) (picked_spots list seats) held.once;
  }

  pub picked_named : (table : Table) → last_of table.plan.lists ≡ list → ((s : Seat) (r : Replica) → Contains seats s → s.replica ≡ Some r → (at_of r).place ≡ s.place) → AreNamed (site_of g key) (settled table) (seats_in list seats)
  picked_named table is at r has =
      let s = picked_seat list seats r has in
      let spot = spot_is g key sound r s.0.place (held.each r (in_all r has) (last t) (last_image t)).found.one_of (at s.0 r s.1 s.2) in
      subst (λ (l : List Place). (is_in (map (spot_at g key sound) l) (spot_of r) || false) ≡ true) (sym is)
      (or_left (is_in (map (spot_at g key sound) list) (spot_of r)) false (subst (λ (p : Spot). is_in (map (spot_at g key sound) list) p ≡ true) spot (in_spots list s.0.place s.3)))
    where
      in_spots : (places : List Place) (p : Place) → Contains places p → is_in (map (spot_at g key sound) places) (spot_at g key sound p) ≡ true
      in_spots [] p has = absurd (omega (arith, has.1))
      in_spots (x ∷ xs) p has = elim (first_or_behind x p xs has) [
        | inl here ↦ or_left (same_spot (spot_at g key sound x) (spot_at g key sound p)) (is_in (map (spot_at g key sound) xs) (spot_at g key sound p)) (subst (λ (y : Place). same_spot (spot_at g key sound x) (spot_at g key sound y) ≡ true) here (same_self (spot_at g key sound x)))
        | inr behind ↦ or_right (same_spot (spot_at g key sound x) (spot_at g key sound p)) (is_in (map (spot_at g key sound) xs) (spot_at g key sound p)) (in_spots xs p behind)
      ]
