-- Places are added to an open database: by each moment of their formation, and in its end.
use Rattle.std.proofs.Common.{◌≡◌, inl, inr, ℕ, ◌+◌, ◌*◌, ◌<◌, true, false, List, [], ◌∷◌, ◌++◌, map, AllPairs, Contains, refl, sym, ◌∙◌, ap, subst, arith}
use Rattle.std.proofs.lemmas.Bool.{and_parts, false_from_ne_true}
use Rattle.std.proofs.lemmas.List.Elements.{Contains-get_or}
use Rattle.std.proofs.lemmas.List.Folds.{Any-from_list_any}
use Rattle.std.specs.Prelude.{◌==◌, ◌&&◌, slice_index_or}
use Rattle.mdv_acts.specs.Acts.{Act, AreDoing, AreDone, acts_asked}
use Rattle.mdv_base.specs.declared.place.Place.{Place}
use Rattle.mdv_look.specs.Quiet.{IsQuiet}
use Rattle.mdv_name.proofs.Finding.{same_slice-equal}
use Rattle.mdv_name.specs.SliceIndex.{same_slice}
use Rattle.mdv_replica.specs.declared.forms.Master.{Master}
use Rattle.mdv_shelf.proofs.Everywhere.{last_image}
use Rattle.mdv_shelf.specs.Everywhere.{Everywhere}
use Rattle.mdv_shelf.specs.Tale.{last}
use Rattle.mdv_shown.proofs.Elsewhere.{range_has}
use Rattle.mdv_shown.specs.Formats.{master_on}
use Rattle.mdv_shown.specs.Found.{IsOwn}
use Rattle.mdv_shown.specs.Site.{line_area, spot_on}
use Rattle.mdv_shown.specs.declared.site.Site.{Site}
use Rattle.mdv_standing.proofs.PlacesTracing.{traced_placing}
use Rattle.mdv_standing.proofs.Tracing.{trace_more}
use Rattle.mdv_standing.specs.Holding.{IsOneOf}
use Rattle.mdv_standing.specs.Listed.{HasPlace}
use Rattle.mdv_standing.specs.Matching.{spots_of as lists_of_spots}
use Rattle.mdv_standing.specs.Rest.{RestMayBeTaken}
use Rattle.mdv_standing.specs.Worlds.{IsReadyWith}
use Rattle.mdv_store.proofs.Acted.{acts_done_quiet, acts_quiet}
use Rattle.mdv_store.proofs.Clearing.{IsRested, rested_known}
use Rattle.mdv_store.proofs.Doing.{at_each, blanked_put, dark_each, put_end}
use Rattle.mdv_store.proofs.Passes.{unmapped}
use Rattle.mdv_store.proofs.Putting.{Puts, put_steps}
use Rattle.mdv_store.proofs.Resting.{IsRestedTo, rest_steps}
use Rattle.mdv_store.proofs.Seated.{replica_is, seat_is, spots_once}
use Rattle.mdv_store.proofs.Slices.{in_end}
use Rattle.mdv_store.proofs.Spotting.{spots_more}
use Rattle.mdv_store.specs.Below.{CoversWith, is_named, same_spot}
use Rattle.mdv_store.specs.Blank.{StayBlank}
use Rattle.mdv_store.specs.Create.{replica_on}
use Rattle.mdv_store.specs.Records.{Spells}
use Rattle.mdv_store.specs.Seats.{AreHeld, spot_of}
use Rattle.mdv_store_law.proofs.Logs.{is_log_after}
use Rattle.mdv_store_law.specs.Log.{IsPlaceable, Placing, begins_in, log_after}
use Rattle.mdv_votes.proofs.Meeting.{same_is}
use Rattle.mdv_places.specs.Asked.{Asks, claims, places_added, places_asked}
use Rattle.mdv_places.specs.Below.{Core, Database, Event, Geometry, Identity, IsOpenedAt, Key, Log, Opened, Replica, RestStands, Seat, SliceLine, Spot, Tale, Two, last_of, replicas_of, seats_area, seats_asked, site_of, spots_of}
use Rattle.mdv_places.specs.Going.{GoesTracedBy, IsMoving}
use Rattle.mdv_places.specs.Moments.{IsLogOf}
use Rattle.mdv_places.proofs.Adding.{added_slice, asked_places, claims_replica, claims_spots, either_replica, place_of_seat}
use Rattle.mdv_places.proofs.Lists.{pairs_append}
use Rattle.mdv_places.proofs.Addition.{IsAddition, added_apart, given, line_beside, lists_are, names_added, own_of, pairs}
use Rattle.mdv_places.proofs.Beside.{opened_beside}
use Rattle.mdv_places.proofs.Tracing.{AreFormingOf, IsTracedTo, Runs, runs_here, runs_known, trace_steps}

module _ (sizes : List ℕ) (g : Geometry) (old : Opened) (lines : List SliceLine) (count blocks : ℕ) (t : Tale) (a : IsAddition sizes g old lines count blocks t) where
  abbrev site : Site
  site = site_of g old.key

  abbrev key : Key
  key = old.key

  abbrev identity : Identity
  identity = old.identity

  abbrev claim : ℕ
  claim = old.mark.boot

  abbrev more : List Place
  more = places_asked lines count blocks

  abbrev added : List Seat
  added = seats_asked key identity lines count blocks

  abbrev acts : List Act
  acts = acts_asked key identity claim lines count blocks

  abbrev Ready : Core → Type 0
  Ready w = IsReadyWith (spots_of old.seats) w

  abbrev Are : List Event → Type 0
  Are = AreFormingOf sizes g old lines count blocks t a

  -- Only the added places are touched, so the database stays open.
  pub quiet_each : (m : Tale) → AreDoing acts t m → IsQuiet (seats_area added) t m
  quiet_each m is = acts_quiet key identity lines count blocks claim a.asked.least a.asked.more t m is

  pub quiet_end : (v : Tale) → AreDone acts t v → IsQuiet (seats_area added) t v
  quiet_end v is = acts_done_quiet key identity lines count blocks claim a.asked.least a.asked.more t v is

  pub stays_open : (m : Tale) → IsQuiet (seats_area added) t m → IsOpenedAt g old m
  stays_open m quiet = opened_beside g old (seats_area added) t m quiet.outside (added_apart sizes g old lines count blocks t a) a.opened

  -- What shows no table shows none.
  pub blank_each : (m : Tale) → AreDoing acts t m → StayBlank g identity t m
  blank_each m is = (dark_each g key identity lines count blocks claim (given sizes g old lines count blocks t a) a.asked.more (pairs sizes g old lines count blocks t a) t m is).others

  -- The rest stands, where it may be taken.
  module _ (all : List Database) (one_of : IsOneOf all key identity) (rest : RestStands (Spells g) g all identity t) (taken : (line : SliceLine) → Contains lines line → RestMayBeTaken (Spells g) g all identity line t) where
    abbrev Rested : Tale → Type 0
    Rested = IsRested g key identity lines count blocks claim (given sizes g old lines count blocks t a) a.asked.more t all

    pub rest_each : (m : Tale) → AreDoing acts t m → RestStands (Spells g) g all identity m
    rest_each =
        at_each key identity lines count blocks claim a.asked.more (pairs sizes g old lines count blocks t a) (IsRestedTo g all key identity lines count blocks claim (given sizes g old lines count blocks t a) one_of t) (RestStands (Spells g) g all identity)
        (rest_steps g all key identity lines count blocks claim (given sizes g old lines count blocks t a) one_of t) site Rested (rested_known g key identity lines count blocks claim (given sizes g old lines count blocks t a) a.asked.more t all) t (record { rest = rest; taken = taken })
        (λ m known. known.rest)
        (λ u is known. record { put = blanked_put g key identity lines count blocks claim (given sizes g old lines count blocks t a) a.asked.more (pairs sizes g old lines count blocks t a) t u is; rest = known.rest; taken = known.taken })

  -- The log notes the places.
  module _ (log : Log) (known : IsLogOf g old log) where
    abbrev olds : List Place
    olds = last_of old.table.plan.lists

    unlisted_one : (p : Place) → Contains more p → begins_in olds p ≡ false
    unlisted_one p has =
        let at = added_slice count blocks lines p has in
        false_from_ne_true (begins_in olds p) (λ is.
        let any = Any-from_list_any (λ (q : Place). same_slice q.slice p.slice && (q.start == p.start)) olds is in
        let q = any.1 in
        let both = and_parts (same_slice q.slice p.slice) (q.start == p.start) any.4 in
        a.free at.0 at.1 q (any.0, any.2, any.3) (same_slice-equal q.slice p.slice both.0 ∙ at.2))

    pub placeable : IsPlaceable log more
    placeable = record {
      lives = known.lives;
      newest = known.newest.newest.version;
      older = known.newest.newest.older;
      is = known.newest.newest.family;
      written = known.newest.written;
      olds = olds;
      only = lists_are sizes g old lines count blocks t a log known;
      unlisted = λ k d lt. unlisted_one (slice_index_or more k d) (Contains-get_or more k d lt);
    }

    pub still_log : IsLogOf g old (log_after log (Placing more))
    still_log = record {
      is_log = is_log_after g log (Placing more) known.is_log placeable;
      lives = known.lives;
      newest = record {
        newest = record { version = known.newest.newest.version; older = known.newest.newest.older; family = known.newest.newest.family; marked = known.newest.newest.marked; same = known.newest.newest.same };
        written = known.newest.written;
      };
    }

    -- and its worlds go on by blanks and formats
    module _ (covers : CoversWith (Spells g) site identity (λ image w. Ready w) log t) where
      abbrev Run : Tale → Type 0
      Run = Runs sizes g old lines count blocks t a log known covers

      runs_each : (m : Tale) → AreDoing acts t m → Run m
      runs_each =
          at_each key identity lines count blocks claim a.asked.more (pairs sizes g old lines count blocks t a) (IsTracedTo sizes g old lines count blocks t a log known covers) Run (trace_steps sizes g old lines count blocks t a log known covers)
          site Run (runs_known sizes g old lines count blocks t a log known covers) t (runs_here sizes g old lines count blocks t a log known covers) (λ m runs. runs)
          (λ u is runs. record { put = blanked_put g key identity lines count blocks claim (given sizes g old lines count blocks t a) a.asked.more (pairs sizes g old lines count blocks t a) t u is; traces = runs })

      pub goes_each : (move : Asks) → more ≡ places_added move → (m : Tale) → AreDoing acts t m → GoesTracedBy (IsMoving move) (Spells g) g site identity [] Ready Are Ready (IsLogOf g old) t m log
      goes_each move same m is = record {
        es = Placing more ∷ [];
        course = (placeable, tt);
        come = record { tells = refl; issues = (same, tt); begins = tt };
        traces =
            trace_more (Spells g) site identity log (log_after log (Placing more)) (log_after log (Placing more)) Ready Ready Ready (λ es. es ≡ []) Are Are t t m
            (λ es fs none are. subst (λ (l : List Event). Are (l ++ fs)) (sym none) are) (traced_placing (Spells g) site identity log t Ready more) (runs_each m is);
        after = still_log;
      }

  -- In the end each added place has its replica.
  module _ (v : Tale) (is_done : AreDone acts t v) where
    abbrev now : List Seat
    now = map (claims claim) added

    first_same : (l : SliceLine) → master_on site identity l blocks count 0 ≡ (replica_on key identity l count blocks 0).first
    first_same l =
        let start : 16 + 0 * blocks ≡ 16 = omega arith in
        λ i. record { identity = identity; key = key; slice = l.name; start = start i; blocks = blocks; index = 0; count = count }

    abbrev claimed_on : SliceLine → ℕ → Replica
    claimed_on line k = record (replica_on key identity line count blocks k) { head = record (replica_on key identity line count blocks k).head { claim = claim } }

    own_on : (line : SliceLine) (k : ℕ) → Contains lines line → k < count → Everywhere (λ image. IsOwn (Spells g) site identity line k image (claimed_on line k).first (claimed_on line k).head) v
    own_on line k among lt image is =
        let ended = put_end g key identity lines count blocks claim (given sizes g old lines count blocks t a) a.asked.more (pairs sizes g old lines count blocks t a) t v is_done in
        let its = in_end key identity lines count blocks claim (Puts g key identity lines count blocks claim (given sizes g old lines count blocks t a) t) _ (put_steps g key identity lines count blocks claim (given sizes g old lines count blocks t a) t) line k among lt in
        subst (λ (m : Master). IsOwn (Spells g) site identity line k image m (claimed_on line k).head) (first_same line) (ended.own line k its image is)

    -- which replica it is
    record IsAddedOne (r : Replica) : Type 0 where
      line : SliceLine
      number : ℕ
      among : Contains lines line
      lt : number < count
      is : r ≡ claimed_on line number

    added_one : (r : Replica) → Contains (replicas_of now) r → IsAddedOne r
    added_one r has =
        let was = claims_replica claim added r has in
        let one = replica_is key identity count blocks lines was.0 was.1 in
        record { line = one.line; number = one.number; among = one.among; lt = one.lt; is = was.2 ∙ ap (λ (x : Replica). record x { head = record x.head { claim = claim } }) one.is }

    pub own_added : (r : Replica) → Contains (replicas_of now) r → Everywhere (λ image. IsOwn (Spells g) site identity r.line r.number image r.first r.head) v
    own_added r has image is =
        let one = added_one r has in
        subst (λ (x : Replica). IsOwn (Spells g) site identity x.line x.number image x.first x.head) (sym one.is) (own_on one.line one.number one.among one.lt image is)

    pub named_added : (r : Replica) → Contains (replicas_of now) r → is_named (lists_of_spots site (Two (last_of old.table.plan.lists) (last_of old.table.plan.lists ++ more))) (spot_of r) ≡ true
    named_added r has =
        let one = added_one r has in
        subst (λ (x : Replica). is_named (lists_of_spots site (Two (last_of old.table.plan.lists) (last_of old.table.plan.lists ++ more))) (spot_of x) ≡ true) (sym one.is) (names_added sizes g old lines count blocks t a one.line one.number one.among one.lt)

    pub have_added : Everywhere (λ image. (place : Place) → Contains more place → HasPlace (Spells g) site identity image place) v
    have_added image is place has =
        let seat = unmapped place_of_seat added place (subst (λ (l : List Place). Contains l place) (sym (asked_places key identity count blocks lines)) has) in
        let one = seat_is key identity count blocks lines seat.0 seat.1 in
        let r = claimed_on one.line one.number in
        record { line = one.line; number = one.number; first = r.first; head = r.head; own = own_on one.line one.number one.among one.lt image is; is = sym seat.2 ∙ ap place_of_seat one.is }

    -- no two of all active places are one
    differ : (p q : Spot) → (p ≡ q → ⊥) → same_spot p q ≡ false
    differ p q none = false_from_ne_true (same_spot p q) (λ is. none (same_is p q is))

    apart_spots : (r x : Replica) → Contains (replicas_of old.seats) r → Contains (replicas_of now) x → same_spot (spot_of r) (spot_of x) ≡ false
    apart_spots r x has in_now =
        let one = added_one x in_now in
        let line = one.line in
        let fits = (own_on one.line one.number one.among one.lt (last v) (last_image v)).found.within in
        let least = a.asked.least in
        let mine = (own_of sizes g old lines count blocks t a r has).found in
        let ends = mine.within in
        let long = mine.located.lies.least in
        differ (spot_of r) (spot_of x) (λ same.
        let there : spot_of x ≡ spot_on line blocks one.number = ap spot_of one.is in
        let drive : r.line.at.drive.0 ≡ line.at.drive.0 = ap (λ (s : Spot). s.drive.0) (same ∙ there) in
        let first : r.line.at.start + (16 + r.number * r.first.blocks) ≡ line.at.start + (16 + one.number * blocks) = ap (λ (s : Spot). s.first) (same ∙ there) in
        line_beside sizes g old lines count blocks t a r has line one.among line.at.drive.0 (line.at.start + (16 + one.number * blocks))
        (range_has line.at.drive.0 line.at.start line.at.blocks (line.at.start + (16 + one.number * blocks)) (omega arith) (omega (arith, fits, least)))
        (subst (λ (d : ℕ). line_area r.line d (line.at.start + (16 + one.number * blocks)) ≡ true) drive
        (subst (λ (b : ℕ). line_area r.line r.line.at.drive.0 b ≡ true) first (range_has r.line.at.drive.0 r.line.at.start r.line.at.blocks (r.line.at.start + (16 + r.number * r.first.blocks)) (omega arith) (omega (arith, ends, long))))))

    pub held_all : AreHeld g key identity (old.seats ++ now) v
    held_all =
        let opened = stays_open v (quiet_end v is_done) in
        record {
          each = λ r has. elim (either_replica old.seats now r has) [ inl was ↦ opened.held.each r was | inr more ↦ own_added r more ];
          once =
              subst (λ (l : List Spot). AllPairs (λ (p q : Spot). same_spot p q ≡ false) l) (sym (spots_more old.seats now))
              (pairs_append (λ (p q : Spot). same_spot p q ≡ false) (spots_of old.seats) (spots_of now) opened.held.once
              (subst (λ (l : List Spot). AllPairs (λ (p q : Spot). same_spot p q ≡ false) l) (sym (claims_spots claim added)) (spots_once key identity count blocks a.asked.least lines (pairs sizes g old lines count blocks t a) a.asked.within))
              (λ p q in_old in_now.
              let r = unmapped spot_of (replicas_of old.seats) p in_old in
              let x = unmapped spot_of (replicas_of now) q in_now in
              subst (λ (s : Spot). same_spot s q ≡ false) r.2 (subst (λ (s : Spot). same_spot (spot_of r.0) s ≡ false) x.2 (apart_spots r.0 x.0 r.1 x.1))));
        }
