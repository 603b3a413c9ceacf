-- What is known of a change of places by each moment of its formation, and in the end of it: where the records begin.
use Rattle.std.proofs.Common.{◌≡◌, inl, inr, ◌+◌, ◌≤◌, ℕ, true, false, List, [], ◌++◌, append-nil, map, Contains, refl, sym, ◌∙◌, ap, subst, arith}
use Rattle.std.proofs.lemmas.Bool.{false≢true, false_from_ne_true, or_cases, or_left}
use Rattle.std.proofs.lemmas.List.{append_cancel_left}
use Rattle.std.proofs.lemmas.List.Elements.{Contains-append_right}
use Rattle.std.proofs.lemmas.List.Folds.{Any-from_list_any, list_any-from_Any}
use Rattle.mdv_acts.specs.Acts.{Act, AreDoing, AreDone, acts_asked}
use Rattle.mdv_acts.specs.Asked.{AreAsked}
use Rattle.mdv_look.specs.Quiet.{IsQuiet}
use Rattle.mdv_quorum.specs.declared.event.Event.TheVariants.{Lists as NextLists}
use Rattle.mdv_shelf.proofs.Frame.{kept_outside_wider}
use Rattle.mdv_shelf.specs.Everywhere.{Everywhere}
use Rattle.mdv_shown.specs.Site.{size_on}
use Rattle.mdv_standing.specs.Listed.{HasPlace}
use Rattle.mdv_standing.specs.Matching.{spots_in, spots_of as lists_of_spots}
use Rattle.mdv_standing.specs.Rest.{RestMayBeTaken}
use Rattle.mdv_standing.specs.Worlds.{IsReadyWith}
use Rattle.mdv_store.proofs.Acted.{quiet_same}
use Rattle.mdv_store.proofs.Blanks.{stay_blank}
use Rattle.mdv_store.proofs.Doing.{doing_end}
use Rattle.mdv_store.proofs.Sitting.{replica_of, seat_of}
use Rattle.mdv_store.specs.Blank.{StayBlank}
use Rattle.mdv_store.specs.Listing.{MayList}
use Rattle.mdv_store.specs.Records.{Spells}
use Rattle.mdv_store.specs.Seats.{AreHeld, AreNamed, replica_area, spot_of}
use Rattle.mdv_votes.specs.Spots.{is_in, is_named}
use Rattle.mdv_places.specs.Asked.{Adds, Asks, Drops, KeepsFirst, acts_moved, claims, list_after, lists_after, places_added, places_asked, seats_added}
use Rattle.mdv_places.specs.Below.{Core, Database, Event, Geometry, IsOpenedAt, Lists, One, Opened, Place, Replica, RestStands, Seat, SliceLine, Tale, Two, beside, last_of, replicas_of, seats_area, seats_asked, site_of, spots_of}
use Rattle.mdv_places.specs.Changing.{MayMove, both_of}
use Rattle.mdv_places.specs.Going.{IsMoving, TracesBy}
use Rattle.mdv_places.specs.Moments.{IsForming, IsLogOf, MayShow, RestMay}
use Rattle.mdv_places.proofs.Adding.{claims_area, either_replica}
use Rattle.mdv_places.proofs.Addition.{IsAddition}
use Rattle.mdv_places.proofs.Formed.{blank_each, goes_each, have_added, held_all, named_added, quiet_each, rest_each, stays_open}
use Rattle.mdv_places.proofs.Tracing.{AreFormingOf, IsFormingOf}
use Rattle.mdv_places.proofs.Going.{goes_less}
use Rattle.mdv_places.proofs.Moving.{both_places}

-- each event of the votes is one of the formation
abbrev pub AreFormed : Geometry → Opened → Asks → List Event → Type 0
AreFormed g old asked es = (e : Event) → Contains es e → IsForming g old asked e

-- the log goes on with the added places noted, and its worlds by blanks and formats, to such ones again
abbrev pub FormGoes : Geometry → Opened → Asks → Tale → Tale → Type 0
FormGoes g old asked t m =
    TracesBy (IsMoving asked) (Spells g) g (site_of g old.key) old.identity (IsLogOf g old) [] (IsReadyWith (spots_of old.seats)) (AreFormed g old asked) (IsReadyWith (spots_of old.seats)) (IsLogOf g old) t m

-- By each moment, of one that stops too, only active and added places were touched; the database is open as it was; the log goes on with nothing asked; all others stand, where they may be taken; and
-- those that show no table show none.
pub record IsFormingAt (g : Geometry) (old : Opened) (asked : Asks) (t m : Tale) : Type 0 where
  pub quiet : IsQuiet (seats_area (both_of old asked).seats) t m
  pub opened : IsOpenedAt g old m
  pub goes : FormGoes g old asked t m
  pub rest : (all : List Database) → RestMay g all old asked t → RestStands (Spells g) g all old.identity m
  pub blank : StayBlank g old.identity t m

-- In the end each place of both lists that is active or added has its replica, whose place the table with both lists names; and so has each that only the new list has.
pub record IsFormedTo (g : Geometry) (old : Opened) (asked : Asks) (t u : Tale) : Type 0 where
  pub forming : IsFormingAt g old asked t u
  pub held : AreHeld g old.key old.identity (both_of old asked).seats u
  pub named : AreNamed (site_of g old.key) (both_of old asked).table (both_of old asked).seats
  pub have : Everywhere (λ image. (place : Place) → Contains (beside (last_of old.table.plan.lists) (list_after asked (last_of old.table.plan.lists))) place → HasPlace (Spells g) (site_of g old.key) old.identity image place) u

-- what a list names the two lists name of which it is the first
first_named : (g : Geometry) (old : Opened) (list other : List Place) (r : Replica) → is_named (lists_of_spots (site_of g old.key) (One list)) (spot_of r) ≡ true → is_named (lists_of_spots (site_of g old.key) (Two list other)) (spot_of r) ≡ true
first_named g old list other r is = elim (or_cases (is_in (spots_in (site_of g old.key) list) (spot_of r)) false is) [
  | inl here ↦ or_left (is_in (spots_in (site_of g old.key) list) (spot_of r)) (is_in (spots_in (site_of g old.key) other) (spot_of r)) here
  | inr none ↦ absurd (cc (none))
]

-- a block outside the areas of all seats is outside those of some
area_more : (xs ys : List Seat) (drive block : ℕ) → seats_area (xs ++ ys) drive block ≡ false → seats_area ys drive block ≡ false
area_more xs ys drive block out = false_from_ne_true (seats_area ys drive block) (λ is.
    let any = Any-from_list_any (λ (r : Replica). replica_area r drive block) (replicas_of ys) is in
    let s = seat_of ys any.1 (any.0, any.2, any.3) in
    let has = replica_of (xs ++ ys) s.0 any.1 (Contains-append_right xs ys s.0 s.1) s.2 in
    false≢true (sym out ∙ list_any-from_Any (λ (r : Replica). replica_area r drive block) (replicas_of (xs ++ ys)) (has.0, any.1, has.1, has.2, any.4)))

module _ (sizes : List ℕ) (g : Geometry) (old : Opened) (t : Tale) where
  abbrev olds : List Place
  olds = last_of old.table.plan.lists

  abbrev Named : Lists → Replica → Type 0
  Named lists r = is_named (lists_of_spots (site_of g old.key) lists) (spot_of r) ≡ true

  -- where nothing is formatted
  still_forming : (asked : Asks) → MayShow g old asked t → IsFormingAt g old asked t t
  still_forming asked go = record {
    quiet = quiet_same (seats_area (both_of old asked).seats) t;
    opened = go.opened;
    goes = λ log covers known. record {
      es = [];
      course = tt;
      come = record { tells = refl; issues = tt; begins = tt };
      traces = λ image is. (image, is, λ w world ready. record { events = []; are = λ e has. absurd (omega (arith, has.1)); may = tt; world = world; known = ready });
      after = known;
    };
    rest = λ all may. may.rest;
    blank = stay_blank g old.identity t;
  }

  -- the places that only the new list has are those that are added
  beside_added : (asked : Asks) → MayMove sizes g old asked → beside olds (list_after asked olds) ≡ places_added asked
  beside_added asked may = append_cancel_left olds (beside olds (list_after asked olds)) (places_added asked) (both_places olds asked may.free)

  -- the table with both lists names the active places
  still_named : (asked : Asks) → MayMove sizes g old asked → MayShow g old asked t → (r : Replica) → Contains (replicas_of old.seats) r → Named (lists_after asked old.table.plan.lists) r
  still_named asked may go r has =
      let one : old.table.plan.lists ≡ One olds = may.one.1 ∙ ap One (sym (ap last_of may.one.1)) in
      first_named g old olds (list_after asked olds) r (subst (λ (l : Lists). Named l r) one (go.opened.named r has))

  still_formed : (asked : Asks) → MayMove sizes g old asked → MayShow g old asked t → seats_added old asked ≡ [] → places_added asked ≡ [] → IsFormedTo g old asked t t
  still_formed asked may go no_seats no_places =
      let same : old.seats ++ seats_added old asked ≡ old.seats = ap (λ (l : List Seat). old.seats ++ l) no_seats ∙ append-nil old.seats in
      record {
        forming = still_forming asked go;
        held = subst (λ (l : List Seat). AreHeld g old.key old.identity l t) (sym same) go.opened.held;
        named = λ r has. still_named asked may go r (subst (λ (l : List Seat). Contains (replicas_of l) r) same has);
        have = λ image is place has. absurd (let none : Contains [] place = subst (λ (l : List Place). Contains l place) (beside_added asked may ∙ no_places) has in omega (arith, none.1));
      }

-- so many places are added on these slices
record IsAddOf (g : Geometry) (old : Opened) (asked : Asks) (lines : List SliceLine) (count blocks : ℕ) (t : Tale) : Type 0 where
  acts : acts_moved old asked ≡ acts_asked old.key old.identity old.mark.boot lines count blocks
  seats : seats_added old asked ≡ map (claims old.mark.boot) (seats_asked old.key old.identity lines count blocks)
  places : places_added asked ≡ places_asked lines count blocks
  new : list_after asked (last_of old.table.plan.lists) ≡ last_of old.table.plan.lists ++ places_asked lines count blocks
  taken : (all : List Database) → RestMay g all old asked t → (line : SliceLine) → Contains lines line → RestMayBeTaken (Spells g) g all old.identity line t

module _ (sizes : List ℕ) (g : Geometry) (old : Opened) (t : Tale) (asked : Asks) (lines : List SliceLine) (count blocks : ℕ) (may : MayMove sizes g old asked) (go : MayShow g old asked t) (a : IsAddition sizes g old lines count blocks t) (is : IsAddOf g old asked lines count blocks t) where
  abbrev more : List Place
  more = places_asked lines count blocks

  abbrev added : List Seat
  added = seats_asked old.key old.identity lines count blocks

  abbrev now : List Seat
  now = map (claims old.mark.boot) added

  abbrev acts : List Act
  acts = acts_asked old.key old.identity old.mark.boot lines count blocks

  one_formed : (e : Event) → IsFormingOf sizes g old lines count blocks t a e → IsForming g old asked e
  one_formed e (inl wipes) = inl wipes
  one_formed e (inr (inl hand)) = inr (inl (hand ∙ ap (λ (l : List Place). NextLists (lists_of_spots (site_of g old.key) (Two (last_of old.table.plan.lists) l))) (sym is.new)))
  one_formed e (inr (inr (q, has, formats))) = inr (inr (q, subst (λ (l : List Seat). Contains (spots_of l) q) (sym is.seats) has, formats))

  wider : (m : Tale) → IsQuiet (seats_area added) t m → IsQuiet (seats_area (both_of old asked).seats) t m
  wider m quiet = record {
    outside = kept_outside_wider (seats_area added) (seats_area (both_of old asked).seats) t m
        (λ drive block out. sym (claims_area old.mark.boot added drive block) ∙ subst (λ (l : List Seat). seats_area l drive block ≡ false) is.seats (area_more old.seats (seats_added old asked) drive block out)) quiet.outside;
    quiet = quiet.quiet;
  }

  add_goes : (m : Tale) → AreDoing acts t m → FormGoes g old asked t m
  add_goes m doing log covers known =
      let Ready : Core → Type 0 = λ w. IsReadyWith (spots_of old.seats) w in
      goes_less (Spells g) g (site_of g old.key) old.identity (IsMoving asked) [] [] Ready Ready Ready (AreFormingOf sizes g old lines count blocks t a) (AreFormed g old asked) (IsLogOf g old) (IsLogOf g old) t m log tt
      (λ es are e has. one_formed e (are e has)) (λ w ready. ready) (λ next known. known) (goes_each sizes g old lines count blocks t a log known covers asked (sym is.places) m doing)

  add_at : (m : Tale) → AreDoing acts t m → IsFormingAt g old asked t m
  add_at m doing =
      let quiet = quiet_each sizes g old lines count blocks t a m doing in
      record {
        quiet = wider m quiet;
        opened = stays_open sizes g old lines count blocks t a m quiet;
        goes = add_goes m doing;
        rest = λ all rest. rest_each sizes g old lines count blocks t a all rest.one_of rest.rest (is.taken all rest) m doing;
        blank = blank_each sizes g old lines count blocks t a m doing;
      }

  abbrev Names : Replica → Type 0
  Names r = is_named (lists_of_spots (site_of g old.key) (Two (last_of old.table.plan.lists) (list_after asked (last_of old.table.plan.lists)))) (spot_of r) ≡ true

  add_to : (u : Tale) → AreDone acts t u → IsFormedTo g old asked t u
  add_to u done = record {
    forming = add_at u (doing_end acts t u done);
    held = subst (λ (l : List Seat). AreHeld g old.key old.identity (old.seats ++ l) u) (sym is.seats) (held_all sizes g old lines count blocks t a u done);
    named = λ r has. elim (either_replica old.seats (seats_added old asked) r has) [
      | inl was ↦ still_named sizes g old t asked may go r was
      | inr new ↦
          subst (λ (l : List Place). is_named (lists_of_spots (site_of g old.key) (Two (last_of old.table.plan.lists) l)) (spot_of r) ≡ true) (sym is.new)
          (named_added sizes g old lines count blocks t a u done r (subst (λ (l : List Seat). Contains (replicas_of l) r) is.seats new))
    ];
    have = λ image here place has. have_added sizes g old lines count blocks t a u done image here place (subst (λ (l : List Place). Contains l place) (beside_added sizes g old t asked may ∙ is.places) has);
  }

-- The formation of whatever change of places.
module _ (sizes : List ℕ) (g : Geometry) (old : Opened) (asked : Asks) (t : Tale) (may : MayMove sizes g old asked) (checked : MayList old (lists_after asked old.table.plan.lists)) (go : MayShow g old asked t) where
  addition : {move : Asks} {lines : List SliceLine} {count blocks : ℕ} → AreAsked sizes lines count blocks → MayMove sizes g old move → MayList old (lists_after move old.table.plan.lists) → IsOpenedAt g old t
      → ((line : SliceLine) → Contains lines line → (p : Place) → Contains (last_of old.table.plan.lists) p → p.slice ≡ line.name → ⊥)
      → ((line : SliceLine) → Contains lines line → Contains (site_of g old.key).lines line × (line.at.start + line.at.blocks ≤ size_on (site_of g old.key) line)) → IsAddition sizes g old lines count blocks t
  addition within its list opened free sites = record {
    asked = within;
    one = its.one.1 ∙ ap One (sym (ap last_of its.one.1));
    free = free;
    seats = list.seats;
    half = list.half;
    boot = list.boot;
    small = (let two = list.small in omega (arith, two));
    opened = opened;
    sites = λ line has. (sites line has).0;
    laid = λ line has. (sites line has).1;
  }

  pub forming_at : (m : Tale) → AreDoing (acts_moved old asked) t m → IsFormingAt g old asked t m
  forming_at = by asked may checked go
    where
      by : (move : Asks) → MayMove sizes g old move → MayList old (lists_after move old.table.plan.lists) → MayShow g old move t → (m : Tale) → AreDoing (acts_moved old move) t m → IsFormingAt g old move t m
      by (Adds lines count blocks) may_move list may_go m is =
          add_at sizes g old t (Adds lines count blocks) lines count blocks may_move may_go (addition may_move.within may_move list may_go.opened may_move.free may_go.sites) (record { acts = refl; seats = refl; places = refl; new = refl; taken = λ all rest. rest.taken }) m is
      by (Drops slices) may_move list may_go m is = subst (λ (w : Tale). IsFormingAt g old (Drops slices) t w) (sym is) (still_forming sizes g old t (Drops slices) may_go)
      by KeepsFirst may_move list may_go m is = subst (λ (w : Tale). IsFormingAt g old KeepsFirst t w) (sym is) (still_forming sizes g old t KeepsFirst may_go)

  pub formed_at : (u : Tale) → AreDone (acts_moved old asked) t u → IsFormedTo g old asked t u
  formed_at = by asked may checked go
    where
      by : (move : Asks) → MayMove sizes g old move → MayList old (lists_after move old.table.plan.lists) → MayShow g old move t → (u : Tale) → AreDone (acts_moved old move) t u → IsFormedTo g old move t u
      by (Adds lines count blocks) may_move list may_go u is =
          add_to sizes g old t (Adds lines count blocks) lines count blocks may_move may_go (addition may_move.within may_move list may_go.opened may_move.free may_go.sites) (record { acts = refl; seats = refl; places = refl; new = refl; taken = λ all rest. rest.taken }) u is
      by (Drops slices) may_move list may_go u is = subst (λ (w : Tale). IsFormedTo g old (Drops slices) t w) (sym is) (still_formed sizes g old t (Drops slices) may_move may_go refl refl)
      by KeepsFirst may_move list may_go u is = subst (λ (w : Tale). IsFormedTo g old KeepsFirst t w) (sym is) (still_formed sizes g old t KeepsFirst may_move may_go refl refl)
