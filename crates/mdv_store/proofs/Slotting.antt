-- What a pass that writes a table leaves.
use Rattle.std.proofs.Common.{◌≡◌, ℕ, ◌+◌, ◌-◌, ◌<◌, ◌≤◌, Bool, false, List, [], ◌∷◌, ◌++◌, length, AllPairs, Contains, Option, append-nil, refl, sym, ◌∙◌, ap, subst, arith}
use Rattle.std.proofs.lemmas.Bool.{or_from}
use Rattle.mdv_name.specs.Sound.{IsSound}
use Rattle.mdv_quorum.specs.declared.event.Event.TheVariants.{Slotted}
use Rattle.mdv_replica.specs.Form.{IsTable, gate_of, other_slot}
use Rattle.mdv_replica.specs.Images.{Fills}
use Rattle.mdv_replica.specs.Replica.{SlotWriting, body_at, gate_at, slot_area, slot_blocks, with_blocks}
use Rattle.mdv_replica.specs.declared.forms.Gate.{Gate}
use Rattle.mdv_replica.specs.declared.replica.Head.{Head}
use Rattle.mdv_replica.specs.declared.replica.PlaceAt.{PlaceAt}
use Rattle.mdv_replica.proofs.Leaving.{leaves_slotted, leaves_slotting}
use Rattle.mdv_replica.proofs.Showing.{own_place, readable_filled}
use Rattle.mdv_shelf.proofs.Frame.{kept_outside_wider, within_range}
use Rattle.mdv_shelf.proofs.Moments.{moments_weaker}
use Rattle.mdv_shelf.specs.Area.{IsKept}
use Rattle.mdv_shelf.specs.Everywhere.{Leaves}
use Rattle.mdv_shelf.specs.Moments.{Moments}
use Rattle.mdv_shown.specs.Found.{Counts}
use Rattle.mdv_shown.specs.Kept.{IsStill}
use Rattle.mdv_shown.specs.Shown.{IsNewestOf}
use Rattle.mdv_shown.specs.Site.{IsSite, size_on}
use Rattle.mdv_shown.specs.Steps.{IsRewrittenAt}
use Rattle.mdv_shown.proofs.Kept.{slots_still}
use Rattle.mdv_shown.proofs.Rewritten.{body_within, own_new}
use Rattle.mdv_shown.proofs.Sites.{site_is}
use Rattle.mdv_shown.proofs.Slots.{shows_filled, shows_kept}
use Rattle.mdv_shown.proofs.Writes.{master_slotted, slot_within}
use Rattle.mdv_standing.specs.Below.{Filled}
use Rattle.mdv_standing.specs.Tracing.{Traces}
use Rattle.mdv_standing.specs.Turning.{IsPlaceAt}
use Rattle.mdv_standing.specs.Worlds.{IsNoneOr, IsTaking}
use Rattle.mdv_standing.proofs.Rest.{rest_slots}
use Rattle.mdv_standing.proofs.Stretches.{traced_slotted, traced_slotting}
use Rattle.mdv_store.specs.Below.{Database, First, Geometry, Identity, Image, IsOwn, IsSynced, Key, Log, Mark, Open, Replica, RestStands, Second, Slot, Spot, Table, Tale, at_of, same_spot, site_of, with_slot}
use Rattle.mdv_store.specs.Blank.{StayBlank, IsBlank}
use Rattle.mdv_store.specs.Passing.{IsPassing, Passed, slotting}
use Rattle.mdv_look.specs.Quiet.{IsQuiet}
use Rattle.mdv_store.specs.Records.{Spells}
use Rattle.mdv_store.specs.Seats.{AreHeld, AreShown, AreTheirs, IsShown, IsSpareOf, TakesSlot, drive_of, replica_area, replicas_of, seats_area, spot_of, spots_of}
use Rattle.mdv_store.specs.Slots.{AreAbove, AreBodies, FillsTrace, IsWritten, SlottingEnds, SlottingMoment}
use Rattle.mdv_store.specs.declared.seats.Seat.{Seat}
use Rattle.mdv_store.proofs.Blanks.{blank_slots}
use Rattle.mdv_store.proofs.Holding.{Own, fewer_taking, other_drive, still_own}
use Rattle.mdv_store.proofs.Staying.{stays_there}
use Rattle.mdv_store.proofs.Passing.{Holds, holds, passed_quiet, passed_synced, spots, stands, traced_all, traced_by}

gate_here : (head : Head) (slot : Slot) (gate : Gate) → gate_of (with_slot head slot gate) slot ≡ gate
gate_here head First gate = refl
gate_here head Second gate = refl

gate_other : (head : Head) (slot : Slot) (gate : Gate) → gate_of (with_slot head slot gate) (other_slot slot) ≡ gate_of head (other_slot slot)
gate_other head First gate = refl
gate_other head Second gate = refl

module _ (mark : Mark) (bytes : ℕ) (body : List (List ℕ)) where
  -- the moments of a slot's writing, at a replica's place
  pub filling : (r : Replica) (slot : Slot) (at : PlaceAt) (a b : Option Tale) → at ≡ at_of r → IsSpareOf r.head slot → Moments (SlotWriting at slot mark bytes body) a b → Moments ((slotting mark bytes body).Goes r) a b
  filling r slot at a b here spare moments =
      moments_weaker (SlotWriting (at_of r) slot mark bytes body) ((slotting mark bytes body).Goes r) a b (λ t m writing. (slot, spare, writing)) (subst (λ (p : PlaceAt). Moments (SlotWriting p slot mark bytes body) a b) here moments)

  module _ (seats : List Seat) (t : Tale) where
    abbrev all : List Replica
    all = replicas_of seats

    pub goes_on : (r n : Replica) (u v : Tale) → (slotting mark bytes body).Ends r n u v → (slotting mark bytes body).Goes r u v
    goes_on r n u v ends = (ends.0, ends.1, ends.3)

    place : (r n : Replica) → TakesSlot mark bytes r n → spot_of n ≡ spot_of r
    place r n took = ap spot_of took.2

    module _ (fits : (r : Replica) → Contains all r → (16 ≤ r.first.blocks) × (length body ≤ slot_blocks r.first.blocks)) where
      within : (r : Replica) (slot : Slot) (drive block : ℕ) → Contains all r → replica_area r drive block ≡ false → slot_area (at_of r) slot (length body) drive block ≡ false
      within r slot drive block one out =
          let fit = fits r one in
          let at = at_of r in
          slot_within at slot (length body) drive block fit.1 fit.0 (within_range at.drive.0 (at.first + 1) (r.first.blocks - 1) at.first r.first.blocks drive block (omega arith) (omega (arith, fit.0)) out)

      quiet_at : (r : Replica) (u m : Tale) → Contains all r → (slotting mark bytes body).Goes r u m → IsQuiet (replica_area r) u m
      quiet_at r u m one goes = record { outside = kept_outside_wider (slot_area (at_of r) goes.0 (length body)) (replica_area r) u m (λ drive block out. within r goes.0 drive block one out) goes.2.outside; quiet = goes.2.quiet }

      slot_quiet : (m : Tale) → IsPassing (slotting mark bytes body) all t m → IsQuiet (seats_area seats) t m
      slot_quiet m passing = passed_quiet (slotting mark bytes body) all t goes_on quiet_at passing.0 passing.1 m passing.2

    -- no other drive is written
    elsewhere : (r : Replica) (u m : Tale) (drive : ℕ) → (drive ≡ drive_of r → ⊥) → (slotting mark bytes body).Goes r u m → (block : ℕ) → IsKept u m drive block
    elsewhere r u m drive apart goes block =
        goes.2.outside drive block (or_from _ _ (other_drive r.line.at.drive.0 (gate_at (at_of r) goes.0) 1 drive block apart) (other_drive r.line.at.drive.0 (body_at (at_of r) goes.0) (length body) drive block apart))

    slot_synced : (new : List Seat) (u : Tale) → Passed (slotting mark bytes body) all t (replicas_of new) [] u → (r : Replica) → Contains (replicas_of new) r → IsSynced (drive_of r) u
    slot_synced new u passed = passed_synced (slotting mark bytes body) all t goes_on (λ r n took. ap drive_of took.2) elsewhere (λ r n u v ends. ends.4.gate_settled.synced) (replicas_of new) [] u passed

    module _ (g : Geometry) (key : Key) (identity : Identity) (table : Table) (sound : IsSound g) (held : AreHeld g key identity seats t) (bodies : AreBodies g seats mark bytes body table) where
      ok : IsSite (site_of g key)
      ok = site_is g key sound

      still_at : (q r : Replica) (u m : Tale) → Contains all r → (spot_of q ≡ spot_of r → ⊥) → Own g key identity q u → Own g key identity r u → (slotting mark bytes body).Goes r u m → Leaves (λ old new. IsOwn (Spells g) (site_of g key) identity q.line q.number old q.first q.head × IsStill (Spells g) (site_of g key) old new q.line q.number q.first q.head) u m
      still_at q r u m one apart own mine goes image is =
          let from = leaves_slotting (at_of r) goes.0 mark bytes body u m goes.2 image is in (
            from.0,
            from.1,
            (
              own from.0 from.1,
              still_own g key identity q r from.0 image apart (own from.0 from.1) (mine from.0 from.1)
                  (λ its. slots_still (Spells g) (site_of g key) r.line r.number r.first r.head from.0 image its ok goes.0 mark bytes body (bodies r one).is from.2),
            ),
          )

      still : (q r : Replica) (u m : Tale) → Contains all r → (spot_of q ≡ spot_of r → ⊥) → Own g key identity q u → Own g key identity r u → (slotting mark bytes body).Goes r u m → Own g key identity q m
      still q r u m one apart own mine goes image is = (let from = still_at q r u m one apart own mine goes image is in record { found = from.2.1.found; of_identity = from.2.0.of_identity })

      -- what a slot that took the body has in an image
      filled_own : (r : Replica) (slot : Slot) (old new : Image) → Contains all r → IsOwn (Spells g) (site_of g key) identity r.line r.number old r.first r.head → Fills (at_of r) slot mark bytes body old new
          → IsOwn (Spells g) (site_of g key) identity r.line r.number new r.first (with_slot r.head slot (Open mark bytes))
      filled_own r slot old new one own fills =
          let at = at_of r in
          let is = (bodies r one).is in
          let sized : at ≡ with_blocks at r.head.master.blocks = own_place at r.head.master.blocks own.found.here.length in
          let again : IsRewrittenAt (Spells g) (site_of g key) identity r.line r.number r.first r.head (with_slot r.head slot (Open mark bytes)) old new = record {
            own = own;
            elsewhere = λ drive block out. fills.elsewhere drive block (slot_within at slot (length body) drive block is.in_slot own.found.located.lies.least out);
            now = readable_filled (Counts (Spells g)) at (size_on (site_of g key) r.line) old new r.head own.found.here.readable slot mark bytes body
                (subst (λ (p : PlaceAt). IsTable (Counts (Spells g)) p mark bytes body) sized is) (subst (λ (p : PlaceAt). Fills p slot mark bytes body old new) sized fills);
            master = master_slotted r.head slot (Open mark bytes);
          } in
          own_new (Spells g) (site_of g key) ok identity r.line r.number r.first r.head (with_slot r.head slot (Open mark bytes)) old new again

      takes : (r n : Replica) (u v : Tale) → Contains all r → Own g key identity r u → (slotting mark bytes body).Ends r n u v → Own g key identity n v
      takes r n u v one mine ends = subst (λ (x : Replica). Own g key identity x v) (sym ends.2) (λ image is.
          let from = leaves_slotted (at_of r) ends.0 mark bytes body u v ends.3.outside ends.4 image is in
          filled_own r ends.0 from.0 image one (mine from.0 from.1) from.2)

      slot_holds : (done due : List Replica) (u : Tale) → Passed (slotting mark bytes body) all t done due u → Holds (slotting mark bytes body) all t goes_on (Own g key identity) (Own g key identity) done due u
      slot_holds = holds (slotting mark bytes body) all t goes_on (Own g key identity) (Own g key identity) place still still takes held.each held.once

      due_own : (front rest : List Replica) (r : Replica) (u : Tale) → Passed (slotting mark bytes body) all t front (r ∷ rest) u → Own g key identity r u
      due_own front rest r u passed = (slot_holds front (r ∷ rest) u passed).due_hold r (0, omega arith, refl)

      slot_held : (new : List Seat) (u : Tale) → Passed (slotting mark bytes body) all t (replicas_of new) [] u → AreHeld g key identity new u
      slot_held new u passed =
          let h = slot_holds (replicas_of new) [] u passed in
          record { each = h.done_hold; once = subst (λ (rs : List Replica). AllPairs (λ (p q : Spot). same_spot p q ≡ false) (spots rs)) (append-nil (replicas_of new)) h.once }

      slot_rest : (databases : List Database) (m : Tale) → IsPassing (slotting mark bytes body) all t m → RestStands (Spells g) g databases identity t → RestStands (Spells g) g databases identity m
      slot_rest databases m passing start =
          stands (slotting mark bytes body) all t goes_on (Own g key identity) due_own (RestStands (Spells g) g databases identity)
          (λ r u v one mine goes rest image is.
          let from = leaves_slotting (at_of r) goes.0 mark bytes body u v goes.2 image is in
          rest_slots (Spells g) g databases from.0 image sound key identity (rest from.0 from.1) r.line r.number r.first r.head (mine from.0 from.1) goes.0 mark bytes body (bodies r one).is from.2)
          start passing.0 passing.1 m passing.2

      -- each replica stays, under one head or another
      pub slot_theirs : (m : Tale) → IsPassing (slotting mark bytes body) all t m → AreTheirs g key identity seats m
      slot_theirs m passing =
          stands (slotting mark bytes body) all t goes_on (Own g key identity) due_own (AreTheirs g key identity seats)
          (λ r u v one mine goes theirs q has image is.
          let from = leaves_slotting (at_of r) goes.0 mark bytes body u v goes.2 image is in
          stays_there g key identity sound r from.0 image (mine from.0 from.1) goes.0 mark bytes body (bodies r one).is from.2 q (theirs q has from.0 from.1))
          (λ q has image is. (q.head, held.each q has image is)) passing.0 passing.1 m passing.2

      slot_blank : (m : Tale) → IsPassing (slotting mark bytes body) all t m → StayBlank g identity t m
      slot_blank m passing ask other another start =
          stands (slotting mark bytes body) all t goes_on (Own g key identity) due_own (IsBlank g ask other)
          (λ r u v one mine goes blank image is.
          let from = leaves_slotting (at_of r) goes.0 mark bytes body u v goes.2 image is in
          blank_slots g ask other from.0 image (blank from.0 from.1) key identity another sound r (mine from.0 from.1) goes.0 mark bytes body (bodies r one).is from.2)
          start passing.0 passing.1 m passing.2

      newest_kept : (its : Mark) (own : Table) (at : PlaceAt) (old new : ℕ → List ℕ) (head : Head) (slot : Slot) → 16 ≤ at.place.blocks → ((block : ℕ) → at.first ≤ block → block < at.first + at.place.blocks → new block ≡ old block)
          → IsNewestOf (Spells g) at old head slot its own → IsNewestOf (Spells g) at new head slot its own
      newest_kept its own at old new head slot least same was = record {
        shows = shows_kept (Spells g) at old new head head slot its own refl (λ block from to. (let w = body_within at slot block least from to in same block (omega (arith, w.0)) w.1)) was.shows;
        last = λ other s it. was.last other s
            (shows_kept (Spells g) at new old head head (other_slot slot) other s refl (λ block from to. (let w = body_within at (other_slot slot) block least from to in sym (same block (omega (arith, w.0)) w.1))) it);
      }

      -- A replica beside them that shows a table goes on to show it.
      module _ (x : Replica) (apart : (r : Replica) → Contains all r → spot_of x ≡ spot_of r → ⊥) (its : Mark) (own : Table) where
        abbrev ShowsIt : Tale → Type 0
        ShowsIt u = Own g key identity x u × IsShown g its own x u

        pub shown_beside : (done due : List Replica) (u : Tale) → Passed (slotting mark bytes body) all t done due u → ShowsIt t → ShowsIt u
        shown_beside done due u passed start =
            stands (slotting mark bytes body) all t goes_on (Own g key identity) due_own ShowsIt
            (λ r v m one mine goes shown. (
              still x r v m one (apart r one) shown.0 mine goes,
              record {
                slot = shown.1.slot;
                each = λ image is.
                    let from = still_at x r v m one (apart r one) shown.0 mine goes image is in
                    newest_kept its own (at_of x) (from.0 (drive_of x)) (image (drive_of x)) x.head shown.1.slot from.2.0.found.located.lies.least from.2.1.same (shown.1.each from.0 from.1);
              },
            ))
            start done due u passed

      -- Each one that took it shows it as its newest table.
      module _ (above : AreAbove mark seats) where
        abbrev Shown : Replica → Tale → Type 0
        Shown q u = Own g key identity q u × IsShown g mark table q u

        still_shown : (q r : Replica) (u m : Tale) → Contains all r → (spot_of q ≡ spot_of r → ⊥) → Shown q u → Own g key identity r u → (slotting mark bytes body).Goes r u m → Shown q m
        still_shown q r u m one apart shown mine goes = (
          still q r u m one apart shown.0 mine goes,
          record {
            slot = shown.1.slot;
            each = λ image is.
                let from = still_at q r u m one apart shown.0 mine goes image is in
                newest_kept mark table (at_of q) (from.0 (drive_of q)) (image (drive_of q)) q.head shown.1.slot from.2.0.found.located.lies.least from.2.1.same (shown.1.each from.0 from.1);
          },
        )

        takes_shown : (r n : Replica) (u v : Tale) → Contains all r → Own g key identity r u → (slotting mark bytes body).Ends r n u v → Shown n v
        takes_shown r n u v one mine ends = (
          takes r n u v one mine ends,
          subst (λ (x : Replica). IsShown g mark table x v) (sym ends.2) (record {
            slot = ends.0;
            each = λ image is.
                let from = leaves_slotted (at_of r) ends.0 mark bytes body u v ends.3.outside ends.4 image is in
                let of_body = bodies r one in
                record {
                  shows = shows_filled (Spells g) (at_of r) from.0 image (with_slot r.head ends.0 (Open mark bytes)) ends.0 mark bytes body table from.2 of_body.is.in_slot of_body.is.in_body of_body.spelled (gate_here r.head ends.0 (Open mark bytes));
                  last = λ other s it. above r one (other_slot ends.0) other it.bytes (sym (gate_other r.head ends.0 (Open mark bytes)) ∙ it.gate);
                };
          }),
        )

        slot_shown : (new : List Seat) (u : Tale) → Passed (slotting mark bytes body) all t (replicas_of new) [] u → AreShown g new mark table u
        slot_shown new u passed r has =
            ((holds (slotting mark bytes body) all t goes_on (Own g key identity) Shown place still still_shown takes_shown held.each held.once (replicas_of new) [] u passed).done_hold r has).1

    -- Each world goes on by places that take it.
    module _ (g : Geometry) (key : Key) (identity : Identity) (log : Log) (table : Table) (by_majority : Bool) (a : IsWritten g key identity seats mark bytes body log table t) where
      placed : (r : Replica) (u : Tale) → Contains all r → Own g key identity r u → IsPlaceAt (Spells g) (site_of g key) identity u table r.line r.number r.first r.head
      placed r u one mine = record { site_is = site_is g key a.sound; each = mine; named = a.named r one }

      going : (r : Replica) (u m : Tale) (before : List Spot) → Contains all r → Own g key identity r u → (slotting mark bytes body).Goes r u m
          → Traces (Spells g) (site_of g key) identity log log (IsTaking by_majority mark before) (IsNoneOr (Slotted (spot_of r) Filled)) (IsTaking by_majority mark before) u m
      going r u m before one mine goes =
          traced_slotting (Spells g) (site_of g key) identity log u r.line r.number r.first r.head mark table bytes body by_majority before (placed r u one mine) (a.bodies r one) (a.above r one) a.newest m goes.0 goes.1.spare
          (leaves_slotting (at_of r) goes.0 mark bytes body u m goes.2)

      gone : (r n : Replica) (u m : Tale) (before : List Spot) → Contains all r → Own g key identity r u → (slotting mark bytes body).Ends r n u m
          → Traces (Spells g) (site_of g key) identity log log (IsTaking by_majority mark before) (λ es. es ≡ Slotted (spot_of r) Filled ∷ []) (IsTaking by_majority mark (spot_of r ∷ before)) u m
      gone r n u m before one mine ends =
          traced_slotted (Spells g) (site_of g key) identity log u r.line r.number r.first r.head mark table bytes body by_majority before (placed r u one mine) (a.bodies r one) (a.above r one) a.newest m ends.0
          (leaves_slotted (at_of r) ends.0 mark bytes body u m ends.3.outside ends.4)

      slot_traces : (before : List Spot) (m : Tale) → IsPassing (slotting mark bytes body) all t m → FillsTrace g key identity seats mark log by_majority before before t m
      slot_traces before m passing =
          traced_by (slotting mark bytes body) all t goes_on (Own g key identity) (due_own g key identity table a.sound a.held a.bodies) (Spells g) (site_of g key) identity log (λ q. Slotted q Filled) (IsTaking by_majority mark) place (fewer_taking by_majority mark) going gone before
          passing.0 passing.1 m passing.2

      slot_traced : (before : List Spot) (new : List Seat) (u : Tale) → Passed (slotting mark bytes body) all t (replicas_of new) [] u → FillsTrace g key identity seats mark log by_majority before (spots_of new ++ before) t u
      slot_traced before new u passed =
          traced_all (slotting mark bytes body) all t goes_on (Own g key identity) (due_own g key identity table a.sound a.held a.bodies) (Spells g) (site_of g key) identity log (λ q. Slotted q Filled) (IsTaking by_majority mark) place (fewer_taking by_majority mark) going gone before
          (replicas_of new) u passed

    -- A pass so far, and to its end.
    pub slotting_moment : ((r : Replica) → Contains all r → (16 ≤ r.first.blocks) × (length body ≤ slot_blocks r.first.blocks)) → (m : Tale) → IsPassing (slotting mark bytes body) all t m → SlottingMoment seats mark bytes body t m
    slotting_moment fits m passing = record {
      quiet = slot_quiet fits m passing;
      passing = passing;
      traces = λ g key identity log table by_majority before a. slot_traces g key identity log table by_majority a before m passing;
      rest = λ g key identity databases table sound held bodies. slot_rest g key identity table sound held bodies databases m passing;
      blank = λ g key identity table sound held bodies. slot_blank g key identity table sound held bodies m passing;
    }

    pub slotting_ends : (new : List Seat) (u : Tale) → Passed (slotting mark bytes body) all t (replicas_of new) [] u → SlottingEnds seats new mark bytes body t u
    slotting_ends new u passed = record {
      passed = passed;
      traces = λ g key identity log table by_majority before a. slot_traced g key identity log table by_majority a before new u passed;
      held = λ g key identity table sound held bodies. slot_held g key identity table sound held bodies new u passed;
      shown = λ g key identity table sound held bodies above. slot_shown g key identity table sound held bodies above new u passed;
      synced = λ r has before. slot_synced new u passed r has;
    }
