-- At least half of each list is active before a record, so that a call failed where too few took it.
use Rattle.std.proofs.Common.{◌≡◌, ◌<◌, ◌+◌, ◌*◌, ℕ, true, List, ◌++◌, length, Contains, Some, None, sym, ◌∙◌, ap, subst, arith}
use Rattle.std.proofs.lemmas.Bool.{le-leb, leb-true}
use Rattle.std.proofs.lemmas.List.{length-append}
use Rattle.std.proofs.lemmas.List.Elements.{Contains-append_left, Contains-append_right}
use Rattle.std.proofs.lemmas.List.Sums.{sum_by-append}
use Rattle.std.specs.Prelude.{count_by}
use Rattle.mdv_store.proofs.Boots.{count_all}
use Rattle.mdv_store.proofs.Passes.{some_lost, unmapped}
use Rattle.mdv_store.proofs.Relisting.{replicas_in}
use Rattle.mdv_store.proofs.Seated.{seat_is}
use Rattle.mdv_store.proofs.Shares.{kept_lists, list_none, list_suffices, lists_none, seat_at, short_fewer}
use Rattle.mdv_store.specs.Create.{replica_on}
use Rattle.mdv_store.specs.Listing.{MayList, seats_in}
use Rattle.mdv_store.specs.Shares.{has_active, short_of}
use Rattle.mdv_store.specs.declared.seats.Need.TheVariants.{Half}
use Rattle.mdv_places.specs.Asked.{Adds, Asks, Drops, KeepsFirst, claimed, claims, list_after, lists_after, places_added, seats_added}
use Rattle.mdv_places.specs.Below.{AreLeft, Failures, Geometry, Lists, One, Opened, Place, Replica, Seat, Share, Two, active_of, drives_of, last_of, replicas_of, seats_asked}
use Rattle.mdv_places.specs.Changing.{HasFailedOn, IsEnough, MayMove, both_of, drives_dropped, drives_moved}
use Rattle.mdv_places.proofs.Adding.{place_of_seat}
use Rattle.mdv_places.proofs.Halves.{active_by, half_in, seat_active}
use Rattle.mdv_places.proofs.Losing.{drive_in, drive_under}
use Rattle.mdv_places.proofs.Moving.{added_places, one_list}

-- a place is active among more seats
active_among : (seats all : List Seat) → ((s : Seat) → Contains seats s → Contains all s) → (p : Place) → has_active seats p ≡ true → has_active all p ≡ true
active_among seats all among p so = (let at = seat_at seats p so in active_by all at.0 p (among at.0 at.2) (seat_active at.0 p at.1 at.3 at.4))

-- so a list of which half is active stays one
half_among : (seats all : List Seat) → ((s : Seat) → Contains seats s → Contains all s) → (list : List Place) → short_of Half seats (One list) ≡ None → short_of Half all (One list) ≡ None
half_among seats all among list none = kept_lists Half Half (λ share so. so) seats all (active_among seats all among) (One list) none

-- each place that is added is active
added_active : (o : Opened) (asked : Asks) (all : List Seat) → ((s : Seat) → Contains (seats_added o asked) s → Contains all s) → (p : Place) → Contains (places_added asked) p → has_active all p ≡ true
added_active o (Adds lines count blocks) all among p has =
    let s = unmapped place_of_seat (seats_added o (Adds lines count blocks)) p (subst (λ (l : List Place). Contains l p) (sym (added_places o (Adds lines count blocks))) has) in
    let t = unmapped (claims o.mark.boot) (seats_asked o.key o.identity lines count blocks) s.0 s.1 in
    let is = seat_is o.key o.identity count blocks lines t.0 t.1 in
    let r = replica_on o.key o.identity is.line count blocks is.number in
    active_by all s.0 p (among s.0 s.1)
    (seat_active s.0 p (record r { head = record r.head { claim = o.mark.boot } }) (ap (λ (x : Seat). x.replica) (sym t.2) ∙ ap (λ (x : Seat). claimed o.mark.boot x.replica) is.is) s.2)
added_active o (Drops slices) all among p has = absurd (omega (arith, has.1))
added_active o KeepsFirst all among p has = absurd (omega (arith, has.1))

-- so half of a list stays where they come behind it
half_more : (seats : List Seat) (list more : List Place) → short_of Half seats (One list) ≡ None → ((p : Place) → Contains more p → has_active seats p ≡ true) → short_of Half seats (One (list ++ more)) ≡ None
half_more seats list more none each =
    let half = leb-true (length list) (2 * count_by (has_active seats) list) (list_suffices Half seats list none) in
    let all = count_all (has_active seats) more each in
    let both : count_by (has_active seats) (list ++ more) ≡ count_by (has_active seats) list + count_by (has_active seats) more = sum_by-append _ list more in
    list_none Half seats (list ++ more) (le-leb (length (list ++ more)) (2 * count_by (has_active seats) (list ++ more)) (omega (arith, half, all, both, length-append list more)))

module _ (sizes : List ℕ) (g : Geometry) (o : Opened) (asked : Asks) (may : MayMove sizes g o asked) (checked : MayList o (lists_after asked o.table.plan.lists)) where
  abbrev old : List Place
  old = last_of o.table.plan.lists

  abbrev list : List Place
  list = list_after asked old

  abbrev seats : List Seat
  seats = (both_of o asked).seats

  those : (s : Seat) → Contains o.seats s → Contains seats s
  those s has = Contains-append_left o.seats (seats_added o asked) s has

  old_half : short_of Half o.seats (One old) ≡ None
  old_half = subst (λ (l : Lists). short_of Half o.seats l ≡ None) (one_list sizes g o asked may checked) checked.half

  -- half of the list that comes is active among all
  pub coming_half : short_of Half seats (One list) ≡ None
  coming_half = by asked may.enough (λ s has. Contains-append_right o.seats (seats_added o asked) s has) those where
    by : (a : Asks) → IsEnough o a → ((s : Seat) → Contains (seats_added o a) s → Contains seats s) → ((s : Seat) → Contains o.seats s → Contains seats s) → short_of Half seats (One (list_after a old)) ≡ None
    by (Adds lines count blocks) enough added was = half_more seats old (places_added (Adds lines count blocks)) (half_among o.seats seats was old old_half) (added_active o (Adds lines count blocks) seats added)
    by (Drops slices) enough added was = half_among o.seats seats was (list_after (Drops slices) old) enough
    by KeepsFirst enough added was = half_among o.seats seats was (list_after KeepsFirst old) enough

  pub both_half : short_of Half seats (lists_after asked o.table.plan.lists) ≡ None
  both_half = lists_none Half seats (Two old list) (half_among o.seats seats those old old_half) coming_half

  -- Where too few took a record a call failed on the drive of one of its places.
  module _ (calls : ℕ → Failures) (Took : Replica → Replica → Type 0) (now : List Seat) (share : Share) where
    on_drives : (some : List Seat) → ((r : Replica) → Contains (replicas_of some) r → Contains (replicas_of seats) r) → AreLeft calls Took some now → active_of now < active_of some → HasFailedOn (drives_moved g o asked) calls
    on_drives some among left less =
        let r = some_lost calls Took some now left less in
        (drive_under r.0, Contains-append_left (drives_of seats) (drives_dropped g o asked) (drive_under r.0) (drive_in seats r.0 (among r.0 r.1)), r.2)

    pub both_failed : AreLeft calls Took seats now → short_of Half now (lists_after asked o.table.plan.lists) ≡ Some share → HasFailedOn (drives_moved g o asked) calls
    both_failed left few = on_drives seats (λ r has. has) left (short_fewer calls Took Half Half (λ s so. so) (lists_after asked o.table.plan.lists) seats now share left both_half few)

    pub last_failed : AreLeft calls Took (seats_in list seats) now → short_of Half now (One list) ≡ Some share → HasFailedOn (drives_moved g o asked) calls
    last_failed left few =
        on_drives (seats_in list seats) (replicas_in list seats) left (short_fewer calls Took Half Half (λ s so. so) (One list) (seats_in list seats) now share left (half_in list seats coming_half) few)
