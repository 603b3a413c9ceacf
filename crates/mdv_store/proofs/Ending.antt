-- What a creation says by each moment and in the end, for each table of drives.
use Rattle.std.proofs.Common.{◌≡◌, inl, inr, ℕ, ◌<◌, ◌≤◌, true, false, List, [], ◌∷◌, ◌++◌, length, Contains, slice_index_or, None, refl, sym, ◌∙◌, ap, subst, append_assoc, append-nil, arith}
use Rattle.std.proofs.lemmas.List.{length-map}
use Rattle.std.proofs.lemmas.List.Elements.{Contains-get_or}
use Rattle.mdv_quorum.specs.declared.event.Event.TheVariants.{Formatted, Slotted, Told}
use Rattle.mdv_quorum.specs.declared.event.SlotEnd.TheVariants.{Closed as LeftClosed}
use Rattle.mdv_store_law.proofs.Parts.{part_front, part_mapped, part_of_part}
use Rattle.mdv_store_law.specs.Log.{Writing as WritesLog, Written, log_after}
use Rattle.mdv_standing.specs.Creating.{AreAllPlaced, IsCreating, first_mark, issued_log}
use Rattle.mdv_standing.specs.Tracing.{IsCreationBegin, IsRun, IsStart, Traces, formats_at, written_at}
use Rattle.mdv_standing.proofs.Creating.{may_write_first}
use Rattle.mdv_store_law.proofs.Fates.{lives_there}
use Rattle.mdv_standing.proofs.Stretches.{traced_answer, traced_first_write}
use Rattle.mdv_standing.proofs.Tracing.{adds_begun, adds_none, adds_written, course_one, course_written, more, newest_begun, part_one, run_within, trace_weaker}
use Rattle.mdv_acts.specs.Acts.{Act, AreDoing, AreDone, blanks_asked, forms_asked}
use Rattle.mdv_store.specs.Below.{Database, Event, Everywhere, Failures, Geometry, Identity, IsPart, IsReadyWith, IsTaking, Key, Log, Replica, RestStands, Site, SliceLine, Spot, Table, Tale, fills_at, lists_of_spots, record_bytes, site_of, spot_on}
use Rattle.mdv_store.specs.Commit.{AnyLog, AnyWorld}
use Rattle.mdv_acts.specs.Asked.{AreAsked}
use Rattle.mdv_store.specs.Create.{AreOfCreation, CreateGoes, IsCreatedTo, MayCreate, replica_on, seats_asked, table_of}
use Rattle.mdv_store.specs.Opened.{AreSeatsOf, IsOpenedAt, Opened}
use Rattle.mdv_store.specs.Records.{Spells}
use Rattle.mdv_store.specs.Seats.{AreHeld, AreLeft, TakesSlot, replicas_of, spot_of, spots_of}
use Rattle.mdv_store.specs.Slots.{AreBodies, AreFills, IsWritten, SlottingEnds, SlottingMoment}
use Rattle.mdv_store.specs.Text.{IsSpelled}
use Rattle.mdv_store.specs.declared.seats.Seat.{Seat}
use Rattle.mdv_votes.specs.Spots.{is_none}
use Rattle.mdv_acts.proofs.Acting.{done_split, doing_split, no_line}
use Rattle.mdv_store.proofs.Clearing.{IsClearing, StaysKnown, all_cleared, all_clearing, clear_known, clear_now, may_form}
use Rattle.mdv_store.proofs.Formed as formed
use Rattle.mdv_store.proofs.Forming.{IsFormedTo, IsFormingAt, form_steps}
use Rattle.mdv_store.proofs.Given.{ArePairsApart, IsOwner}
use Rattle.mdv_store.proofs.Halves.{half_written, spot_in_spots}
use Rattle.mdv_store.proofs.Marks.{slot_stays}
use Rattle.mdv_store.proofs.Passes.{unmapped}
use Rattle.mdv_store.proofs.Places.{GoesOn}
use Rattle.mdv_store.proofs.Putting.{IsGiven}
use Rattle.mdv_store.proofs.Seated.{replica_is, replicas_have, seat_is, seats_of_table, some_asked}
use Rattle.mdv_store.proofs.Sitting.{left_replica, left_seats}
use Rattle.mdv_store.proofs.Slices.{Ended, all_formed, all_forming, in_end}
use Rattle.mdv_store.proofs.Spotting.{asked_active, asked_named}
use Rattle.mdv_store.proofs.Telling.{newest_written}
use Rattle.mdv_store.specs.Shares.{short_of}
use Rattle.mdv_store.specs.declared.seats.Need.TheVariants.{Half}

none_false : (l : List Spot) → 1 ≤ length l → is_none l ≡ false
none_false [] some = absurd (omega (arith, some))
none_false (p ∷ l) some = refl

module _ (g : Geometry) (all : List Database) (key : Key) (identity : Identity) (lines : List SliceLine) (count blocks : ℕ) (sizes : List ℕ) (t : Tale) (owner : IsOwner key identity) (asked : AreAsked sizes lines count blocks)
    (may : MayCreate g all key identity lines (seats_asked key identity lines count blocks) t) where
  abbrev site : Site
  site = site_of g key

  abbrev seats : List Seat
  seats = seats_asked key identity lines count blocks

  abbrev table : Table
  table = table_of seats

  abbrev log : Log
  log = issued_log identity

  abbrev begun : Log
  begun = log_after log (WritesLog first_mark None [] table)

  abbrev bytes : ℕ
  bytes = record_bytes table

  abbrev Begin : List Event → Type 0
  Begin = IsCreationBegin (lists_of_spots site table.plan.lists)

  abbrev given : IsGiven g key identity lines count blocks 1
  given = formed.given g key identity lines count blocks sizes t owner asked may.forms

  abbrev steps : GoesOn key identity lines count blocks 1 (IsFormedTo g all key identity lines count blocks t) (IsFormingAt g all key identity lines count blocks t)
  steps = form_steps g all key identity lines count blocks given may.one_of t

  abbrev pairs : ArePairsApart lines
  pairs = formed.pairs g key identity lines count blocks sizes t owner asked may.forms

  -- the first place
  abbrev line : SliceLine
  line = slice_index_or lines 0 no_line

  among : Contains lines line
  among = (let some = asked.some in Contains-get_or lines 0 no_line (omega (arith, some)))

  abbrev p : Spot
  p = spot_on line blocks 0

  abbrev Are : List Event → Type 0
  Are = AreOfCreation g key seats

  -- by a moment no table was begun
  pub record IsUnbegun (m : Tale) : Type 0 where
    pub goes : CreateGoes g key identity seats AnyWorld (λ log. log.family ≡ []) t m
    pub rest : RestStands (Spells g) g all identity m

  unbegun : (m : Tale) → Traces (Spells g) site identity log log (IsStart site) Are AnyWorld t m → RestStands (Spells g) g all identity m → IsUnbegun m
  unbegun m traces rest = record { goes = record { es = []; course = tt; come = adds_none; traces = traces; after = refl }; rest = rest }

  abbrev Clearing : Tale → Type 0
  Clearing = IsClearing g key identity lines count blocks 1 given asked.more t all

  from_clearing : (m : Tale) → Clearing m → IsUnbegun m
  from_clearing m c = unbegun m (trace_weaker (Spells g) site identity log log (IsStart site) (IsStart site) (IsStart site) AnyWorld (λ es. es ≡ []) Are t m (λ w known. known) (λ es none. inl none) (λ w known. tt) c.traces) c.clear.rest

  from_forming : (m : Tale) → IsFormingAt g all key identity lines count blocks t m → IsUnbegun m
  from_forming m f =
      let spots = spots_of seats in
      let within = part_of_part (formats_at f.part) (formats_at spots) (formats_at spots ++ written_at p spots) (part_mapped Formatted f.part spots (subst (λ (l : List Spot). IsPart f.part l) f.whole (part_front f.part f.due)))
      (part_front (formats_at spots) (written_at p spots)) in
      unbegun m
      (trace_weaker (Spells g) site identity log log (IsStart site) (IsStart site) AnyWorld AnyWorld (IsRun Begin (formats_at f.part)) Are t m (λ w known. known)
      (λ es run. inr (p, run_within Begin (formats_at f.part) (formats_at spots ++ written_at p spots) es within run)) (λ w known. known) f.traces)
      f.rest

  -- the masters are blanked, where there are more than one on a slice
  abbrev clear : Clearing t
  clear = clear_now g key identity lines count blocks 1 given asked.more t all may.clear

  abbrev known : StaysKnown site lines count blocks Clearing
  known = clear_known g key identity lines count blocks 1 given asked.more t all

  clear_to : (u : Tale) → AreDone (blanks_asked lines count blocks) t u → IsFormedTo g all key identity lines count blocks t (λ other j. ⊥) (λ other from. Contains lines other × (1 ≤ from)) [] (spots_of seats) u
  clear_to u is =
      may_form g key identity lines count blocks given asked.more t all u (all_cleared site lines count blocks asked.more Clearing known t clear u is).known (formed.blanked g key identity lines count blocks sizes t owner asked may.forms u is)

  abbrev acts : List Act
  acts = blanks_asked lines count blocks ++ forms_asked key identity 1 lines count blocks

  pub acts_unbegun : (m : Tale) → AreDoing acts t m → IsUnbegun m
  acts_unbegun m is = elim (doing_split (blanks_asked lines count blocks) (forms_asked key identity 1 lines count blocks) t m is) [
    | inl here ↦ from_clearing m (all_clearing site lines count blocks asked.more Clearing known t clear m here)
    | inr behind ↦ from_forming m (all_forming key identity lines count blocks 1 (IsFormedTo g all key identity lines count blocks t) (IsFormingAt g all key identity lines count blocks t) steps pairs behind.0 (clear_to behind.0 behind.1) m behind.2)
  ]

  -- The first table is written.
  module _ (v : Tale) (is_done : AreDone acts t v) where
    f : Ended key identity lines count blocks 1 (IsFormedTo g all key identity lines count blocks t) (IsFormingAt g all key identity lines count blocks t) steps v
    f =
        let two = done_split (blanks_asked lines count blocks) (forms_asked key identity 1 lines count blocks) t v is_done in
        all_formed key identity lines count blocks 1 (IsFormedTo g all key identity lines count blocks t) (IsFormingAt g all key identity lines count blocks t) steps pairs two.0 (clear_to two.0 two.1) v two.2

    held : AreHeld g key identity seats v
    held = formed.held g key identity lines count blocks sizes t owner asked may.forms v is_done

    -- so each place of the table has its replica
    placed : Everywhere (AreAllPlaced (Spells g) site identity table.plan.lists) v
    placed image is place listed =
        let seat = unmapped (λ (s : Seat). s.place) seats place listed in
        let one = seat_is key identity count blocks lines seat.0 seat.1 in
        let r = replica_on key identity one.line count blocks one.number in
        record {
          line = one.line;
          number = one.number;
          first = r.first;
          head = r.head;
          own = held.each r (replicas_have key identity count blocks lines one.line one.number one.among one.lt) image is;
          is = sym seat.2 ∙ ap (λ (s : Seat). s.place) one.is;
        }

    module _ (body : List (List ℕ)) (spelled : IsSpelled table bytes body) where
      bodies : AreBodies g seats first_mark bytes body table
      bodies = formed.bodies g key identity lines count blocks sizes t owner asked may.forms v is_done body spelled

      written : IsWritten g key identity seats first_mark bytes body begun table v
      written = record {
        sound = may.forms.sound;
        held = held;
        named = formed.named g key identity lines count blocks sizes t owner asked may.forms v is_done;
        bodies = bodies;
        above = formed.above g key identity lines count blocks sizes t owner asked may.forms v is_done;
        newest = newest_begun log first_mark None [] table;
      }

      abbrev spots : List Spot
      spots = spots_of seats

      abbrev opening : Event
      opening = Slotted p LeftClosed

      some_first : is_none (lists_of_spots site table.plan.lists).first ≡ false
      some_first =
          let names = asked_named g may.forms.sound key identity count blocks lines may.forms.sites in
          let size = length-map (replicas_of seats) spot_of ∙ asked_active key identity count blocks lines in
          let some = some_asked key identity count blocks lines sizes asked in
          subst (λ (l : List Spot). is_none l ≡ false) (sym names) (none_false spots (omega (arith, size, some)))

      first_write : Traces (Spells g) site identity log begun (IsStart site) (IsRun Begin (formats_at spots ++ opening ∷ [])) (IsTaking false first_mark []) t v
      first_write =
          let lt : 0 < count = (let more_than = asked.more in omega (arith, more_than)) in
          more (Spells g) site identity log log (IsStart site) (IsCreating (lists_of_spots site table.plan.lists) f.made) Begin (formats_at spots) t v f.traces begun (IsTaking false first_mark []) (λ es. es ≡ opening ∷ []) (opening ∷ []) v
          (λ fs is. part_one opening fs is) (traced_first_write (Spells g) site identity log v p table f.made refl some_first (f.has line 0 (in_end key identity lines count blocks 1 (IsFormedTo g all key identity lines count blocks t) (IsFormingAt g all key identity lines count blocks t) steps line 0 among lt)) (given.names line 0 among lt) placed)

      fills : (now : List Spot) (m : Tale) → Traces (Spells g) site identity begun begun (IsTaking false first_mark []) (AreFills spots) (IsTaking false first_mark now) v m
          → Traces (Spells g) site identity log begun (IsStart site) (IsRun Begin ((formats_at spots ++ opening ∷ []) ++ fills_at spots)) (IsTaking false first_mark now) t m
      fills now m second =
          more (Spells g) site identity log begun (IsStart site) (IsTaking false first_mark []) Begin (formats_at spots ++ opening ∷ []) t v first_write begun (IsTaking false first_mark now) (AreFills spots) (fills_at spots) m (λ fs is. is) second

      told_last : ((formats_at spots ++ opening ∷ []) ++ fills_at spots) ++ Told ∷ [] ≡ formats_at spots ++ written_at p spots
      told_last =
          ap (λ (l : List Event). l ++ Told ∷ []) (append_assoc (formats_at spots) (opening ∷ []) (fills_at spots)) ∙ append_assoc (formats_at spots) (opening ∷ fills_at spots) (Told ∷ [])

      -- by a moment its write was begun
      pub writing_goes : (m : Tale) → SlottingMoment seats first_mark bytes body v m → CreateGoes g key identity seats AnyWorld AnyLog t m
      writing_goes m slotting =
          let plan = (formats_at spots ++ opening ∷ []) ++ fills_at spots in
          let within = subst (λ (l : List Event). IsPart plan l) told_last (part_front plan (Told ∷ [])) in
          record {
            es = WritesLog first_mark None [] table ∷ [];
            course = course_one g log (WritesLog first_mark None [] table) (may_write_first g identity log table refl refl (lives_there log.fate refl) (_, refl));
            come = adds_begun first_mark None [] table;
            traces = trace_weaker (Spells g) site identity log begun (IsStart site) (IsStart site) (IsTaking false first_mark []) AnyWorld (IsRun Begin plan) Are t m (λ w known. known)
                (λ es run. inr (p, run_within Begin plan (formats_at spots ++ written_at p spots) es within run)) (λ w known. tt) (fills [] m (slotting.traces g key identity begun table false [] written));
            after = tt;
          }

      pub writing_rest : (m : Tale) → SlottingMoment seats first_mark bytes body v m → RestStands (Spells g) g all identity m
      writing_rest m slotting = slotting.rest g key identity all table may.forms.sound held bodies f.rest

      -- in the end it was answered, where at least half of the places took it
      module _ (failed : ℕ → Failures) (new : List Seat) (left : AreLeft failed (TakesSlot first_mark bytes) seats new) (half : short_of Half new table.plan.lists ≡ None) (u : Tale) (ends : SlottingEnds seats new first_mark bytes body v u) where
        abbrev made : Opened
        made = record { key = key; identity = identity; mark = first_mark; table = table; seats = new }

        was : (r : Replica) → Contains (replicas_of new) r → (x : Replica) × Contains (replicas_of seats) x × TakesSlot first_mark bytes x r
        was r has = left_replica failed (TakesSlot first_mark bytes) seats new r left has

        are : AreSeatsOf table new
        are = left_seats failed (TakesSlot first_mark bytes) table table seats new (slot_stays first_mark bytes) refl left (seats_of_table key identity count blocks lines sizes asked)

        lie : (r : Replica) → Contains (replicas_of new) r → Contains site.lines r.line
        lie r has =
            let one = was r has in
            let took = one.2 in
            let its = replica_is key identity count blocks lines one.0 one.1 in
            subst (λ (x : Replica). Contains site.lines x.line) (sym took.2) (subst (λ (x : Replica). Contains site.lines x.line) (sym its.is) (may.forms.sites its.line its.among))

        goes : CreateGoes g key identity seats (IsReadyWith (spots_of new)) (IsCreatedTo made) t u
        goes =
            let took = spots_of new ++ [] in
            let answered = log_after begun Written in
            let newest = newest_begun log first_mark None [] table in
            let enough = half_written g key may.forms.sound table new took are half lie (λ r has. spot_in_spots new [] r has) in
            let taken = fills took u (ends.traces g key identity begun table false [] written) in
            let all_told = more (Spells g) site identity log begun (IsStart site) (IsTaking false first_mark took) Begin ((formats_at spots ++ opening ∷ []) ++ fills_at spots) t u taken answered (IsReadyWith took) (λ es. es ≡ Told ∷ []) (Told ∷ []) u
            (λ fs is. part_one Told fs is) (traced_answer (Spells g) site identity begun u first_mark table false took enough newest) in
            record {
              es = WritesLog first_mark None [] table ∷ (Written ∷ []);
              course = course_written g log first_mark None [] table (may_write_first g identity log table refl refl (lives_there log.fate refl) (_, refl));
              come = adds_written first_mark None [] table;
              traces = trace_weaker (Spells g) site identity log answered (IsStart site) (IsStart site) (IsReadyWith took) (IsReadyWith (spots_of new)) (IsRun Begin (((formats_at spots ++ opening ∷ []) ++ fills_at spots) ++ Told ∷ [])) Are t u (λ w known. known)
                  (λ es run. inr (p, subst (λ (l : List Event). IsRun Begin l es) told_last run)) (λ w known. subst (λ (l : List Spot). IsReadyWith l w) (append-nil (spots_of new)) known) all_told;
              after = record {
                newest = newest_written begun first_mark table newest;
                tellable = record {
                  before = [];
                  may = record { lives = refl; newest = record { mark = first_mark; table = table; changes = []; is_written = true }; older = []; family = refl; written = refl; later = []; changes = refl; creation = λ none. (refl, refl); untold = tt };
                  newest = refl;
                };
              };
            }

        pub made_ends : IsOpenedAt g made u × CreateGoes g key identity seats (IsReadyWith (spots_of new)) (IsCreatedTo made) t u
        made_ends = (formed.made_opened g key identity lines count blocks sizes t owner asked may.forms v is_done body spelled failed new left u ends, goes)
