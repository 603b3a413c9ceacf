-- The first place alone is left, and all others are wiped: where it lies, that no call failed, and which masters are blank.
use Rattle.std.proofs.Common.{◌≡◌, inl, inr, ◌+◌, ◌*◌, ℕ, true, List, [], ◌∷◌, ◌++◌, append-nil, take, Contains, Option, Some, None, Ok, ap, refl, subst, sym, ◌∙◌, arith}
use Rattle.std.specs.List.{cons_option}
use Rattle.std.specs.Prelude.{MatchOption}
use Rattle.std.proofs.lemmas.List.Elements.{Contains-append_cases, Contains-append_left}
use Rattle.mdv_acts.specs.Wipes.{place_in}
use Rattle.mdv_look.proofs.Among.{is_one_of}
use Rattle.mdv_name.proofs.Finding.{slice_at-some}
use Rattle.mdv_places.proofs.Coming.{passes}
use Rattle.mdv_places.proofs.Fronting.{its_slice}
use Rattle.mdv_places.specs.Asked.{KeepsFirst, dropped, list_after}
use Rattle.mdv_places.specs.Changing.{both_of, drives_dropped, drives_moved, drives_under}
use Rattle.mdv_places.specs.Ending.{IsSole}
use Rattle.mdv_places.specs.Moments.{IsBlankAt, found_at, places_dropped}
use Rattle.mdv_places.specs.Outcomes.{TakesBoth, seats_coming, till_wiped}
use Rattle.mdv_shelf.specs.Shelves.{DriveFailures}
use Rattle.mdv_shelf.specs.declared.shelf.Shelf.{Ghosts}
use Rattle.mdv_store.proofs.Passes.{mapped, unmapped}
use Rattle.mdv_store.proofs.Sitting.{left_seat, replica_of, seat_of}
use Rattle.mdv_store.specs.Listing.{is_listed_in}
use Rattle.mdv_store.specs.Opened.{AreSeatsOf}
use Rattle.mdv_store.specs.Seats.{drive_of, drives_of}
use Rattle.mdv_survey.specs.Replica.{at_of}
use Rattle.mdv_config.specs.Lists.{last_of, places_of}
use Rattle.mdv_plan.specs.declared.lists.Lists.{Lists}
use Rattle.mdv_plan.specs.declared.lists.Lists.TheVariants.{One}
use Rattle.mdv_volumes.proofs.Lists.{contains_first, first_or_behind}
use Rattle.mdv_engine_law.specs.Below.{Place, PlaceAt}
use Rattle.mdv_engine_law.specs.Moves.{places_under}
use Rattle.mdv_engine_law.specs.Places.{list_of}
use Rattle.mdv_engine.specs.Below.{AreCalm, DriveNo, Geometry, IsReady, Opened, Outcomes, Replica, Seat, Site, SliceAt, SliceLine, Tale, key_of, replicas_of, slice_at}
use Rattle.mdv_engine.specs.Engine.{IsHeldBy, IsWell}
use Rattle.mdv_engine.specs.Moving.{HasChanged}
use Rattle.mdv_engine.specs.declared.engine.Engine.{Engine}
use Rattle.mdv_engine.proofs.Creating.{calm_beside}
use Rattle.mdv_engine.proofs.Lying.{drive_on, first_or_dropped, found_in, found_of}
use Rattle.mdv_engine.proofs.May as may

same_list : (a b : List Place) → One a ≡ One b → a ≡ b
same_list a b same = cc (same)

same_at : (a b : SliceAt) → ◌≡◌ {A = Option SliceAt} (Some a) (Some b) → a ≡ b
same_at a b same = cc (same)

same_place_at : (a b : PlaceAt) → ◌≡◌ {A = Option PlaceAt} (Some a) (Some b) → a ≡ b
same_place_at a b same = cc (same)

module _ {S : Type 0} (shelf : Ghosts S) (a b : S) (v : Engine) (ready : IsReady v.host (shelf.sizes a)) (well : IsWell v.host v.state) (o : Opened) (opened : v.state.opened ≡ Some o) (mid : Engine) (has : HasChanged shelf a b v o KeepsFirst (Ok true) mid) (sole : IsSole has.now) where
  abbrev g : Geometry
  g = v.host.drives

  abbrev before : Outcomes
  before = DriveFailures shelf a b

  held : IsHeldBy v.host o
  held = may.held v.host (shelf.sizes a) ready v.state well o opened

  seats : AreSeatsOf o.table o.seats
  seats = has.answer.by.may.seats

  -- Where an active place lies, and that it is listed.
  module _ (s : Seat) (r : Replica) (in_it : Contains o.seats s) (is : s.replica ≡ Some r) where
    there : (at_of r).place ≡ s.place
    there = seats.at s r in_it is

    lies : slice_at g.slices s.place.slice ≡ Some r.line.at
    lies =
        let on = held.seated r (replica_of o.seats s r in_it is) in
        let line = subst (λ (x : Site). Contains x.lines r.line) ready.site on.one_of in
        ap (λ (p : Place). slice_at g.slices p.slice) (sym there) ∙ (slice_at-some g r.line.name r.line.at ready.sound).1 (its_slice g ready.sound (key_of v.host) r.line line)

    listed : Contains (list_of o) s.place
    listed = subst (λ (ps : List Place). Contains ps s.place) (seats.places ∙ ap (λ (l : Lists). places_of l) held.one.1 ∙ sym (ap (λ (l : Lists). last_of l) held.one.1)) (mapped (λ (x : Seat). x.place) o.seats s in_it)

  -- The seat of the one that is left was active before, on whose drive no call failed.
  pub record Comes : Type 0 where
    pub seat : Seat
    pub in_it : Contains o.seats seat
    pub replica : Replica
    pub is : seat.replica ≡ Some replica
    pub place : seat.place ≡ sole.place
    pub calm : (before (drive_of replica)).none
    pub at : at_of sole.replica ≡ at_of replica
    pub line : sole.replica.line ≡ replica.line

  none_of : (drive : ℕ) → (till_wiped before g o KeepsFirst drive).none → (before drive).none
  none_of drive (inl none) = none
  none_of drive (inr (is, some)) = subst (λ (n : ℕ). (before n).none) is.2 (has.answer.by.told is.0 is.1)

  abbrev last_seat : Seat
  last_seat = record { place = sole.place; replica = Some sole.replica }

  by_seat : (s : Seat) → Contains o.seats s → s.place ≡ sole.place → (x : Option Replica) → s.replica ≡ x
      → MatchOption x (◌≡◌ {A = Option Replica} (Some sole.replica) None) (λ (r : Replica). (till_wiped before g o KeepsFirst (drive_of r)).none × TakesBoth before g o KeepsFirst r sole.replica) → Comes
  by_seat s in_it place None is none = absurd (cc (none))
  by_seat s in_it place (Some r) is took = record {
    seat = s;
    in_it = in_it;
    replica = r;
    is = is;
    place = place;
    calm = none_of (drive_of r) took.0;
    at = ap (λ (x : Replica). at_of x) took.1.2.2 ∙ ap (λ (x : Replica). at_of x) took.1.1.2;
    line = ap (λ (x : Replica). x.line) took.1.2.2 ∙ ap (λ (x : Replica). x.line) took.1.1.2;
  }

  pub comes : Comes
  comes =
      let from = left_seat (till_wiped before g o KeepsFirst) (TakesBoth before g o KeepsFirst) (seats_coming before g o KeepsFirst) has.now.seats last_seat has.answer.by.left (subst (λ (ss : List Seat). Contains ss last_seat) (sym sole.seats) (contains_first last_seat [])) in
      let among = passes (is_listed_in (list_after KeepsFirst (list_of o))) (both_of o KeepsFirst).seats from.0 from.1 in
      by_seat from.0 (subst (λ (ss : List Seat). Contains ss from.0) (append-nil o.seats) among.0) (sym from.2.0) from.0.replica refl from.2.1

  first_is : take 1 (list_of o) ≡ sole.place ∷ []
  first_is = same_list (take 1 (list_of o)) (sole.place ∷ []) (sym (ap (λ (x : Opened). x.table.plan.lists) has.answer.by.is) ∙ sole.only)

  is_first : (p : Place) → Contains (take 1 (list_of o)) p → p ≡ sole.place
  is_first p front = elim (first_or_behind sole.place p [] (subst (λ (ps : List Place). Contains ps p) first_is front)) [ inl here ↦ sym here | inr none ↦ absurd (omega (arith, none.1)) ]

  at_first : slice_at g.slices sole.place.slice ≡ Some comes.replica.line.at
  at_first = ap (λ (p : Place). slice_at g.slices p.slice) (sym comes.place) ∙ lies comes.seat comes.replica comes.in_it comes.is

  -- No call failed: on the drives of dropped places as it's told, on that of the place that is left as it's active, and on no other one was made.
  calm_seat : (drive : DriveNo) (s : Seat) (r : Replica) → Contains o.seats s → s.replica ≡ Some r → r.line.at.drive ≡ drive → (before drive.0).none
  calm_seat drive s r in_it is on = elim (first_or_dropped (list_of o) s.place (listed s r in_it is)) [
    | inl front ↦
        let same : r.line.at ≡ comes.replica.line.at = same_at r.line.at comes.replica.line.at (sym (lies s r in_it is) ∙ ap (λ (p : Place). slice_at g.slices p.slice) (is_first s.place front) ∙ at_first) in
        subst (λ (x : DriveNo). (before x.0).none) (ap (λ (x : SliceAt). x.drive) (sym same) ∙ on) comes.calm
    | inr gone ↦
        has.answer.by.told drive (found_of (λ (p : Place). drive_on (slice_at g.slices p.slice)) (dropped KeepsFirst (list_of o)) s.place drive gone (ap drive_on (lies s r in_it is) ∙ ap (λ (x : DriveNo). Some x) on))
  ]

  pub calm : AreCalm before
  calm n = by (record { 0 = n }) where
    by : (drive : DriveNo) → (before drive.0).none
    by drive = elim (is_one_of (drives_moved g o KeepsFirst) drive) [
      | inr other ↦ calm_beside shelf a b (drives_moved g o KeepsFirst) has.kept drive other
      | inl among ↦ elim (Contains-append_cases (drives_of (o.seats ++ [])) (drives_dropped g o KeepsFirst) drive among) [
        | inl seat ↦
            let r = unmapped (λ (x : Replica). x.line.at.drive) (replicas_of (o.seats ++ [])) drive seat in
            let s = seat_of (o.seats ++ []) r.0 r.1 in
            calm_seat drive s.0 r.0 (subst (λ (ss : List Seat). Contains ss s.0) (append-nil o.seats) s.1) s.2 r.2
        | inr gone ↦ has.answer.by.told drive gone
      ]
    ]

  -- where the place that is left lies by the table of drives
  abbrev pub first_at : PlaceAt
  first_at = place_in comes.replica.line.at sole.place

  pub first_placed : places_under g (take 1 (list_of o)) ≡ first_at ∷ []
  first_placed = ap (λ (ps : List Place). places_under g ps) first_is ∙ ap (λ (x : Option SliceAt). cons_option (found_at sole.place x) []) at_first

  pub first_drive : sole.replica.line.at.drive ≡ first_at.drive
  first_drive = ap (λ (l : SliceLine). l.at.drive) comes.line

  pub drive_moved : Contains (drives_moved g o KeepsFirst) first_at.drive
  drive_moved = Contains-append_left (drives_of (o.seats ++ [])) (drives_dropped g o KeepsFirst) first_at.drive
      (mapped (λ (x : Replica). x.line.at.drive) (replicas_of (o.seats ++ [])) comes.replica (replica_of (o.seats ++ []) comes.seat comes.replica (subst (λ (ss : List Seat). Contains ss comes.seat) (sym (append-nil o.seats)) comes.in_it) comes.is))

  pub drive_listed : Contains (drives_under g (list_of o)) first_at.drive
  drive_listed = found_of (λ (p : Place). drive_on (slice_at g.slices p.slice)) (list_of o) comes.seat.place first_at.drive (listed comes.seat comes.replica comes.in_it comes.is) (ap drive_on (lies comes.seat comes.replica comes.in_it comes.is))

  -- its master is that of the replica
  blank_first : (m : Tale) → IsBlankAt (at_of sole.replica) m → IsBlankAt first_at m
  blank_first m blank = subst (λ (n : ℕ). IsBlankAt (record first_at { first = comes.replica.line.at.start + n }) m) start (subst (λ (x : PlaceAt). IsBlankAt x m) comes.at blank) where
    start : 16 + comes.replica.number * comes.replica.first.blocks ≡ sole.place.start
    start = ap (λ (p : Place). p.start) (there comes.seat comes.replica comes.in_it comes.is ∙ comes.place)

  -- with those of dropped places all are blank
  pub each_blank : (m : Tale) → ((x : PlaceAt) → Contains (places_dropped g o KeepsFirst) x → IsBlankAt x m) → IsBlankAt (at_of sole.replica) m → (x : PlaceAt) → Contains (places_under g (list_of o)) x → IsBlankAt x m
  each_blank m gone first x there_is =
      let p = found_in (λ (q : Place). found_at q (slice_at g.slices q.slice)) (list_of o) x there_is in
      elim (first_or_dropped (list_of o) p.0 p.1) [
        | inl front ↦ subst (λ (y : PlaceAt). IsBlankAt y m)
            (same_place_at first_at x (ap (λ (y : Option SliceAt). found_at sole.place y) (sym at_first) ∙ ap (λ (q : Place). found_at q (slice_at g.slices q.slice)) (sym (is_first p.0 front)) ∙ p.2)) (blank_first m first)
        | inr out ↦ gone x (found_of (λ (q : Place). found_at q (slice_at g.slices q.slice)) (dropped KeepsFirst (list_of o)) p.0 x out p.2)
      ]
