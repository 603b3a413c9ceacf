-- What a boot writes: claims, and then the table.
use Rattle.std.proofs.Common.{◌≡◌, inl, inr, ◌<◌, ◌+◌, ℕ, Bool, true, false, List, [], ◌∷◌, ◌++◌, None, Contains, length, take, refl, sym, ◌∙◌, subst, ap, append_assoc, append-nil, arith}
use Rattle.std.specs.List.{concat}
use Rattle.mdv_quorum.specs.declared.event.Event.TheVariants.{Slotted, Told}
use Rattle.mdv_quorum.specs.declared.event.SlotEnd.TheVariants.{Closed as LeftClosed, Holds as Filled}
use Rattle.mdv_replica.specs.Form.{boot_of}
use Rattle.mdv_shelf.proofs.Everywhere.{last_image}
use Rattle.mdv_shown.proofs.Sites.{site_is}
use Rattle.mdv_shown.proofs.Slots.{reads_one}
use Rattle.mdv_shown.specs.Choice.{greatest_seen, spots_seen}
use Rattle.mdv_encoding.specs.Parsing.{read_of}
use Rattle.mdv_standing.proofs.Stores.{all_read}
use Rattle.mdv_standing.proofs.Stretches.{may_begin, traced_answer, traced_begin, traced_look}
use Rattle.mdv_standing.proofs.Tracing.{adds_none, may_answer, more, newest_begun, part_one, run_traced, run_within, traced, trace_weaker}
use Rattle.mdv_standing.proofs.Turning.{covers_known}
use Rattle.mdv_standing.specs.Adopting.{IsLook, drawn}
use Rattle.mdv_standing.specs.Matching.{by_majority_on}
use Rattle.mdv_standing.specs.Others.{Anything}
use Rattle.mdv_standing.specs.Tracing.{GoesTraced, IsBootRun, IsRun, taken_at, written_at}
use Rattle.mdv_standing.specs.Turning.{IsBooting, IsPlaceAt}
use Rattle.mdv_votes.specs.Spots.{is_in}
use Rattle.mdv_store_law.proofs.Parts.{part_front, part_itself, part_mapped, part_more, part_of_part}
use Rattle.mdv_store_law.specs.Log.{MayHappen, Writing, Written, log_after}
use Rattle.mdv_store_law.specs.Part.{IsPart}
use Rattle.mdv_store.specs.Below.{CoversWith, Database, Event, Failures, First, Geometry, Head, HasNoneAbove, IsBelow, IsNewest, IsReadyWith, IsTaking, IsVersionWith, Key, Log, Mark, MayBeClaimed, Open, Replica, RestStands, Second, Site, Slot, Spot, Table, Tale, Traces, Version, at_of, claims_at, fills_at, gate_of, greatest, is_named, last, lists_of_spots, site_of, with_slot}
use Rattle.mdv_store.specs.Blank.{StayBlank}
use Rattle.mdv_store.specs.Boot.{TakesBoth, need_of}
use Rattle.mdv_store.specs.Booting.{AreOfBoot, HasNoStaleVote}
use Rattle.mdv_store.specs.Claims.{AreClaims, ClaimingEnds, ClaimingMoment, ClaimsTrace, IsAdopting}
use Rattle.mdv_store.specs.Commit.{AnyLog, AnyWorld, IsLiveWith}
use Rattle.mdv_store.specs.Opened.{AreSeatsOf, IsOpenedAt}
use Rattle.mdv_store.specs.Records.{Spells}
use Rattle.mdv_store.specs.Seats.{AreHeld, AreLeft, AreNamed, HaveRoom, TakesClaim, TakesSlot, replicas_of, spot_of, spots_of}
use Rattle.mdv_store.specs.Slots.{AreAbove, AreBodies, AreFills, FillsTrace, IsWritten, SlottingEnds, SlottingMoment}
use Rattle.mdv_store.specs.Taking.{IsReadied, IsToAdopt}
use Rattle.mdv_store.specs.Text.{IsSpelled}
use Rattle.mdv_store.specs.declared.booting.Hand.{Hand}
use Rattle.mdv_store.specs.declared.seats.Seat.{Seat}
use Rattle.mdv_store.proofs.Halves.{spot_in_spots}
use Rattle.mdv_store.proofs.Passes.{left_spots}
use Rattle.mdv_store.proofs.Quorums.{enough_claimed, enough_written}
use Rattle.mdv_store.proofs.Shares.{some_enough}
use Rattle.mdv_store.proofs.Records.{record_spelled, spelled_of}
use Rattle.mdv_store.proofs.Sitting.{left_replica, left_seats, some_active}
use Rattle.mdv_store.proofs.Telling.{newest_written}
use Rattle.mdv_store.specs.Shares.{short_of}

-- a claimed replica lies where it lay, and one whose slot was written
claim_stays : (number : ℕ) (r n : Replica) → TakesClaim number r n → at_of n ≡ at_of r
claim_stays number r n took = ap at_of took

slot_stays : (mark : Mark) (bytes : ℕ) (r n : Replica) → TakesSlot mark bytes r n → at_of n ≡ at_of r
slot_stays mark bytes r n took = ap at_of took.2

claim_spot : (number : ℕ) (r n : Replica) → TakesClaim number r n → spot_of n ≡ spot_of r
claim_spot number r n took = ap spot_of took

slot_spot : (mark : Mark) (bytes : ℕ) (r n : Replica) → TakesSlot mark bytes r n → spot_of n ≡ spot_of r
slot_spot mark bytes r n took = ap spot_of took.2

-- a number that is above all that a head has
above_head : (number : ℕ) (head : Head) (slot : Slot) (other : Mark) (bytes : ℕ) → greatest head < number → gate_of head slot ≡ Open other bytes → other.boot < number
above_head number head First other bytes less is = omega (arith, less, ap boot_of is)
above_head number head Second other bytes less is = omega (arith, less, ap boot_of is)

-- so no mark of the head is above it, once it has a slot under that one
none_above : (number bytes : ℕ) (head : Head) (slot other : Slot) (m : Mark) (n : ℕ) → greatest head < number → gate_of (with_slot (record head { claim = number }) slot (Open (drawn number) bytes)) other ≡ Open m n → IsBelow (drawn number) m → ⊥
none_above number bytes head First First m n less is below = not_itself number m (cc (is)) below where
  not_itself : (number : ℕ) (m : Mark) → drawn number ≡ m → IsBelow (drawn number) m → ⊥
  not_itself number m same (inl more) = omega (arith, more, ap (λ (x : Mark). x.boot) same)
  not_itself number m same (inr more) = omega (arith, more.1, ap (λ (x : Mark). x.count) same)
none_above number bytes head First Second m n less is (inl more) = omega (arith, above_head number head Second m n less is, more)
none_above number bytes head First Second m n less is (inr more) = omega (arith, above_head number head Second m n less is, more.0)
none_above number bytes head Second First m n less is (inl more) = omega (arith, above_head number head First m n less is, more)
none_above number bytes head Second First m n less is (inr more) = omega (arith, above_head number head First m n less is, more.0)
none_above number bytes head Second Second m n less is below = not_itself number m (cc (is)) below where
  not_itself : (number : ℕ) (m : Mark) → drawn number ≡ m → IsBelow (drawn number) m → ⊥
  not_itself number m same (inl more) = omega (arith, more, ap (λ (x : Mark). x.boot) same)
  not_itself number m same (inr more) = omega (arith, more.1, ap (λ (x : Mark). x.count) same)

pub both_none_above : (number bytes : ℕ) (r n : Replica) → greatest r.head < number → TakesBoth number bytes r n → HasNoneAbove (drawn number) n.head
both_none_above number bytes r n less took other m k = subst (λ (x : Replica). gate_of x.head other ≡ Open m k → IsBelow (drawn number) m → ⊥) (sym took.2) (none_above number bytes r.head took.0 other m k less)

-- a boot's two passes: it looks at these places, claims some of those, and writes the table to some, one of them first
abbrev pub AreBooted : (read seated : List Spot) → List Event → Type 0
AreBooted read seated es = (p : Spot) × IsBootRun read seated p seated es

module _ (key : Key) (hand : Hand) (table : Table) (ready : IsReadied hand table) where
  abbrev seats : List Seat
  seats = hand.seats

  abbrev mark : Mark
  mark = drawn hand.number

  abbrev places : List Spot
  places = spots_of seats

  -- what the first pass left
  module _ (g : Geometry) (t : Tale) (to : IsToAdopt g key hand table t) (failed : ℕ → Failures) (mid : List Seat) (u : Tale) (left : AreLeft failed (TakesClaim hand.number) seats mid) (ends : ClaimingEnds seats mid hand.number t u)
      (bytes : ℕ) (body : List (List ℕ)) (spelled : IsSpelled table bytes body) where
    abbrev here : Site
    here = site_of g key

    pub mid_seats : AreSeatsOf table mid
    mid_seats = left_seats failed (TakesClaim hand.number) table table seats mid (claim_stays hand.number) refl left ready.seats

    held : AreHeld g key hand.identity mid u
    held = ends.held g key hand.identity to.sound ready.small to.held

    named : AreNamed here table mid
    named n has =
        let one = left_replica failed (TakesClaim hand.number) seats mid n left has in
        subst (λ (p : Spot). is_named (lists_of_spots here table.plan.lists) p ≡ true) (sym (claim_spot hand.number one.0 n one.2)) (to.named one.0 one.1)

    lie : (r : Replica) → Contains (replicas_of mid) r → Contains here.lines r.line
    lie r has = (held.each r has (last u) (last_image u)).found.one_of

    room : HaveRoom (length body) mid
    room n has =
        let one = left_replica failed (TakesClaim hand.number) seats mid n left has in
        let fits = ready.room one.0 one.1 in
        omega (arith, fits, spelled.blocks, spelled.counted, ap (λ (r : Replica). r.first.blocks) one.2)

    bodies : AreBodies g mid mark bytes body table
    bodies n has =
        let read = spelled_of g _ table to.sound (to.read.shows (last t) (last_image t)).text in
        let text = record_spelled g (take bytes (concat body)) table to.sound to.of_geometry (let in_room = read.in_room in omega (arith, in_room)) spelled.text in
        let in_slot = room n has in
        record {
          is = record { of_mark = record { boot = ready.small; count = omega arith }; in_slot = in_slot; in_room = omega (arith, in_slot, spelled.blocks); in_body = spelled.in_body; as_record = (table, text) };
          spelled = text;
        }

    above : AreAbove mark mid
    above n has slot other k is =
        let one = left_replica failed (TakesClaim hand.number) seats mid n left has in
        inl (above_claimed one.0 n (ready.above one.0 one.1) one.2 slot other k is)
      where
        above_claimed : (r n : Replica) → greatest r.head < hand.number → TakesClaim hand.number r n → (slot : Slot) (other : Mark) (k : ℕ) → gate_of n.head slot ≡ Open other k → other.boot < hand.number
        above_claimed r n less took First other k is = above_head hand.number r.head First other k less (sym (ap (λ (x : Replica). x.head.first) took) ∙ is)
        above_claimed r n less took Second other k is = above_head hand.number r.head Second other k less (sym (ap (λ (x : Replica). x.head.second) took) ∙ is)

    pub rest_goes : (all : List Database) (m : Tale) → SlottingMoment mid mark bytes body u m → RestStands (Spells g) g all hand.identity u → RestStands (Spells g) g all hand.identity m
    rest_goes all m moment = moment.rest g key hand.identity all table to.sound held bodies

    pub blank_goes : (m : Tale) → SlottingMoment mid mark bytes body u m → StayBlank g hand.identity u m
    blank_goes m moment = moment.blank g key hand.identity table to.sound held bodies

    -- and the second
    module _ (told : ℕ → Failures) (new : List Seat) (w : Tale) (left_new : AreLeft told (TakesSlot mark bytes) mid new) (last_ends : SlottingEnds mid new mark bytes body u w) where
      new_seats : AreSeatsOf table new
      new_seats = left_seats told (TakesSlot mark bytes) table table mid new (slot_stays mark bytes) refl left_new mid_seats

      held_new : AreHeld g key hand.identity new w
      held_new = last_ends.held g key hand.identity table to.sound held bodies

      lie_new : (r : Replica) → Contains (replicas_of new) r → Contains here.lines r.line
      lie_new r has = (held_new.each r has (last w) (last_image w)).found.one_of

      pub opened : IsOpenedAt g (record { key = key; identity = hand.identity; mark = mark; table = table; seats = new }) w
      opened = record {
        sound = to.sound;
        of_geometry = to.of_geometry;
        held = held_new;
        named = λ n has.
            let one = left_replica told (TakesSlot mark bytes) mid new n left_new has in
            subst (λ (q : Spot). is_named (lists_of_spots here table.plan.lists) q ≡ true) (sym (slot_spot mark bytes one.0 n one.2)) (named one.0 one.1);
        shown = last_ends.shown g key hand.identity table to.sound held bodies above;
      }

  -- it is adopted
  module _ (g : Geometry) (t : Tale) (to : IsToAdopt g key hand table t) (log : Log) (covers : CoversWith (Spells g) (site_of g key) hand.identity (λ image w. Anything w) log t) (known : HasNoStaleVote (site_of g key) to.seen to.mark log) where
    abbrev site : Site
    site = site_of g key

    abbrev Begins : List Event → Type 0
    Begins = IsLook (spots_seen to.seen)

    booting : IsBooting (Spells g) site hand.identity log t to.mark table (greatest_seen to.seen + 1) []
    booting =
        all_read (Spells g) site hand.identity log t (reads_one (read_of g)) to.seen to.s to.slot to.mark table to.read (covers_known (Spells g) site hand.identity (λ image w. Anything w) log t covers)
        known

    abbrev v : Version
    v = booting.version

    version : IsVersionWith log to.mark table v
    version = record { is = booting.is; same = booting.same }

    look : Traces (Spells g) site hand.identity log log Anything (IsRun Begins []) (MayBeClaimed to.mark hand.number []) t t
    look = subst (λ (n : ℕ). Traces (Spells g) site hand.identity log log Anything (IsRun Begins []) (MayBeClaimed to.mark n []) t t) (sym to.number_is)
        (run_traced (Spells g) site hand.identity log log Anything (MayBeClaimed to.mark (greatest_seen to.seen + 1) []) Begins t t (traced_look (Spells g) site hand.identity log t to.seen to.s to.slot to.mark table v to.read version
        known))

    adopting : IsAdopting g key hand.identity seats hand.number log to.mark table v t
    adopting = record { sound = to.sound; small = ready.small; held = to.held; named = to.named; version = version }

    claiming : (now : List Spot) (m : Tale) → ClaimsTrace g key hand.identity seats hand.number log to.mark [] now t m
        → Traces (Spells g) site hand.identity log log Anything (IsRun Begins (claims_at places)) (MayBeClaimed to.mark hand.number now) t m
    claiming now m claims =
        more (Spells g) site hand.identity log log Anything (MayBeClaimed to.mark hand.number []) Begins [] t t look log (MayBeClaimed to.mark hand.number now) (AreClaims places) (claims_at places) m (λ fs are. are) claims

    nowhere_first : Spot
    nowhere_first = record { drive = record { 0 = 0 }; first = 0; mediator = false }

    pub claims_go : (m : Tale) → ClaimingMoment seats hand.number t m → GoesTraced (Spells g) g site hand.identity [] Anything (AreOfBoot site table.plan.lists (spots_seen to.seen) places) AnyWorld AnyLog t m log
    claims_go m moment = record {
      es = [];
      course = tt;
      come = adds_none;
      traces =
          trace_weaker (Spells g) site hand.identity log log Anything Anything (MayBeClaimed to.mark hand.number []) AnyWorld (IsRun Begins (claims_at places)) (AreOfBoot site table.plan.lists (spots_seen to.seen) places) t m (λ w known. known)
          (λ es run. inr (inl (nowhere_first, run_within Begins (claims_at places) (claims_at places ++ written_at nowhere_first places) es (part_front (claims_at places) (written_at nowhere_first places)) run))) (λ w known. tt)
          (claiming [] m (moment.traces g key hand.identity log to.mark table v [] adopting));
      after = tt;
    }

    -- enough places claimed
    module _ (failed : ℕ → Failures) (mid : List Seat) (u : Tale) (left : AreLeft failed (TakesClaim hand.number) seats mid) (ends : ClaimingEnds seats mid hand.number t u) (enough : short_of (need_of key) mid table.plan.lists ≡ None)
        (bytes : ℕ) (body : List (List ℕ)) (spelled : IsSpelled table bytes body) where
      abbrev ok : List Spot
      ok = spots_of mid ++ []

      first : (r : Replica) × Contains (replicas_of mid) r
      first = some_active mid (some_enough (need_of key) mid table (mid_seats g t to failed mid u left ends bytes body spelled) enough)

      abbrev p : Spot
      p = spot_of first.0

      at : IsPlaceAt (Spells g) site hand.identity u table first.0.line first.0.number first.0.first first.0.head
      at = record { site_is = site_is g key to.sound; each = (held g t to failed mid u left ends bytes body spelled).each first.0 first.1; named = (named g t to failed mid u left ends bytes body spelled) first.0 first.1 }

      claimed : Traces (Spells g) site hand.identity log log Anything (IsRun Begins (claims_at places)) (MayBeClaimed to.mark hand.number ok) t u
      claimed = claiming ok u (ends.traces g key hand.identity log to.mark table v [] adopting)

      may : MayHappen g log (Writing mark None v.changes table)
      may =
          may_begin (Spells g) site hand.identity log u first.0.line first.0.number first.0.first first.0.head to.mark table v version hand.number ok at (spot_in_spots mid [] first.0 first.1)
          (enough_claimed g key to.sound table mid (is_in ok) (mid_seats g t to failed mid u left ends bytes body spelled) (lie g t to failed mid u left ends bytes body spelled) (spot_in_spots mid []) enough) g
          (traced (Spells g) site hand.identity log log Anything (IsRun Begins (claims_at places)) (MayBeClaimed to.mark hand.number ok) t u covers claimed)

      abbrev begun : Log
      begun = log_after log (Writing mark None v.changes table)

      abbrev bm : Bool
      bm = by_majority_on site table

      begin : Traces (Spells g) site hand.identity log begun Anything (IsRun Begins (claims_at places ++ Slotted p LeftClosed ∷ [])) (IsTaking bm mark []) t u
      begin =
          more (Spells g) site hand.identity log log Anything (MayBeClaimed to.mark hand.number ok) Begins (claims_at places) t u claimed begun (IsTaking bm mark []) (λ es. es ≡ Slotted p LeftClosed ∷ []) (Slotted p LeftClosed ∷ []) u
          (λ fs is. part_one (Slotted p LeftClosed) fs is)
          (traced_begin (Spells g) site hand.identity log u first.0.line first.0.number first.0.first first.0.head to.mark table v version hand.number ok at (spot_in_spots mid [] first.0 first.1)
          (enough_claimed g key to.sound table mid (is_in ok) (mid_seats g t to failed mid u left ends bytes body spelled) (lie g t to failed mid u left ends bytes body spelled) (spot_in_spots mid []) enough))

      newest : IsNewest begun mark table
      newest = newest_begun log mark None v.changes table

      written : IsWritten g key hand.identity mid mark bytes body begun table u
      written = record { sound = to.sound; held = (held g t to failed mid u left ends bytes body spelled); named = (named g t to failed mid u left ends bytes body spelled); bodies = (bodies g t to failed mid u left ends bytes body spelled); above = (above g t to failed mid u left ends bytes body spelled); newest = newest }

      -- the run, as the boot's plan has it
      abbrev front : List Event
      front = claims_at places ++ Slotted p LeftClosed ∷ []

      fills_part : IsPart (fills_at (spots_of mid)) (fills_at places)
      fills_part = part_mapped (λ q. Slotted q Filled) (spots_of mid) places (left_spots failed (TakesClaim hand.number) seats mid (claim_spot hand.number) left)

      taking : (now : List Spot) (m : Tale) → FillsTrace g key hand.identity mid mark begun bm [] now u m → Traces (Spells g) site hand.identity log begun Anything (IsRun Begins (front ++ fills_at (spots_of mid))) (IsTaking bm mark now) t m
      taking now m fills =
          more (Spells g) site hand.identity log begun Anything (IsTaking bm mark []) Begins front t u begin begun (IsTaking bm mark now) (AreFills (spots_of mid)) (fills_at (spots_of mid)) m (λ fs are. are) fills

      whole_is : front ++ taken_at places ≡ claims_at places ++ written_at p places
      whole_is = append_assoc (claims_at places) (Slotted p LeftClosed ∷ []) (taken_at places)

      planned : (part : List Event) → IsPart part (taken_at places) → (es : List Event) → IsRun Begins (front ++ part) es → AreBooted (spots_seen to.seen) places es
      planned part within es run = (p, subst (λ (plan : List Event). IsRun Begins plan es) whole_is (run_within Begins (front ++ part) (front ++ taken_at places) es (part_more front front part (taken_at places) (part_itself front) within) run))

      pub slots_go : (m : Tale) → SlottingMoment mid mark bytes body u m → GoesTraced (Spells g) g site hand.identity [] Anything (AreOfBoot site table.plan.lists (spots_seen to.seen) places) AnyWorld AnyLog t m log
      slots_go m moment = record {
        es = Writing mark None v.changes table ∷ [];
        course = (may, tt);
        come = record { tells = refl; issues = (tt, tt); begins = tt };
        traces =
            trace_weaker (Spells g) site hand.identity log begun Anything Anything (IsTaking bm mark []) AnyWorld (IsRun Begins (front ++ fills_at (spots_of mid))) (AreOfBoot site table.plan.lists (spots_seen to.seen) places) t m (λ w known. known)
            (λ es run. inr (inl (planned (fills_at (spots_of mid)) (part_of_part (fills_at (spots_of mid)) (fills_at places) (taken_at places) fills_part (part_front (fills_at places) (Told ∷ []))) es run))) (λ w known. tt)
            (taking [] m (moment.traces g key hand.identity begun table bm [] written));
        after = tt;
      }

      -- enough of them took it
      module _ (told : ℕ → Failures) (new : List Seat) (w : Tale) (left_new : AreLeft told (TakesSlot mark bytes) mid new) (last_ends : SlottingEnds mid new mark bytes body u w) (enough_new : short_of (need_of key) new table.plan.lists ≡ None) where
        abbrev took : List Spot
        took = spots_of new ++ []

        abbrev over : Log
        over = log_after begun Written

        answered : Traces (Spells g) site hand.identity begun over (IsTaking bm mark took) (λ es. es ≡ Told ∷ []) (IsReadyWith took) w w
        answered = traced_answer (Spells g) site hand.identity begun w mark table bm took (enough_written g key to.sound table new (is_in took) (new_seats g t to failed mid u left ends bytes body spelled told new w left_new last_ends) (lie_new g t to failed mid u left ends bytes body spelled told new w left_new last_ends) (spot_in_spots new []) enough_new) newest

        run : Traces (Spells g) site hand.identity log over Anything (IsRun Begins ((front ++ fills_at (spots_of mid)) ++ Told ∷ [])) (IsReadyWith took) t w
        run =
            more (Spells g) site hand.identity log begun Anything (IsTaking bm mark took) Begins (front ++ fills_at (spots_of mid)) t w (taking took w (last_ends.traces g key hand.identity begun table bm [] written)) over (IsReadyWith took)
            (λ es. es ≡ Told ∷ []) (Told ∷ []) w (λ fs is. part_one Told fs is) answered

        pub ends_go : GoesTraced (Spells g) g site hand.identity [] Anything (AreBooted (spots_seen to.seen) places) (IsReadyWith (spots_of new)) (λ l. IsLiveWith l mark table) t w log
        ends_go = record {
          es = Writing mark None v.changes table ∷ (Written ∷ []);
          course = (may, (may_answer g begun mark table newest, tt));
          come = record { tells = refl; issues = (tt, (tt, tt)); begins = tt };
          traces =
              trace_weaker (Spells g) site hand.identity log over Anything Anything (IsReadyWith took) (IsReadyWith (spots_of new)) (IsRun Begins ((front ++ fills_at (spots_of mid)) ++ Told ∷ [])) (AreBooted (spots_seen to.seen) places) t w (λ w known. known)
              (λ es is. planned (fills_at (spots_of mid) ++ Told ∷ []) (part_more (fills_at (spots_of mid)) (fills_at places) (Told ∷ []) (Told ∷ []) fills_part (part_itself (Told ∷ []))) es
              (subst (λ (plan : List Event). IsRun Begins plan es) (append_assoc front (fills_at (spots_of mid)) (Told ∷ [])) is)) (λ x known. subst (λ (l : List Spot). IsReadyWith l x) (append-nil (spots_of new)) known) run;
          after = record { newest = newest_written begun mark table newest; lives = refl };
        }
