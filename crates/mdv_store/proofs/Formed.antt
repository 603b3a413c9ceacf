-- The places of a creation are formatted, and its first table is written to their replicas, whatever else lies on the drives.
use Rattle.std.proofs.Common.{◌≡◌, ℕ, ◌+◌, ◌*◌, ◌≤◌, true, List, Contains, sym, ◌∙◌, ap, subst, arith}
use Rattle.mdv_replica.specs.declared.forms.Gate.TheVariants.{Closed}
use Rattle.mdv_replica.specs.declared.forms.Master.{Master}
use Rattle.mdv_shown.specs.Formats.{master_on}
use Rattle.mdv_standing.specs.Creating.{first_mark}
use Rattle.mdv_acts.specs.Acts.{AreDoing, AreDone, acts_asked, blanks_asked}
use Rattle.mdv_store.specs.Below.{Failures, First, Geometry, Identity, IsOwn, Key, Mark, Open, Replica, Second, Site, SliceLine, Slot, Table, Tale, gate_of, is_named, lists_of_spots, record_bytes, site_of}
use Rattle.mdv_store.specs.Blank.{StayBlank}
use Rattle.mdv_acts.specs.Asked.{AreAsked}
use Rattle.mdv_store.specs.Create.{MayForm, replica_on, seats_asked, table_of}
use Rattle.mdv_store.specs.Opened.{IsOpenedAt, Opened}
use Rattle.mdv_store.specs.Records.{Spells}
use Rattle.mdv_store.specs.Seats.{AreHeld, AreLeft, AreNamed, AreTheirs, TakesSlot, spot_of}
use Rattle.mdv_store.specs.Slots.{AreAbove, AreBodies, SlottingEnds, SlottingMoment}
use Rattle.mdv_store.specs.Text.{IsSpelled}
use Rattle.mdv_store.specs.declared.seats.Seat.{Seat}
use Rattle.mdv_store.proofs.Blanks.{StayDark, still_blank}
use Rattle.mdv_store.proofs.Doing.{PutsEnded, blanked_put, dark_each, put_end}
use Rattle.mdv_store.proofs.Given.{ArePairsApart, IsOwner, all_given, slices_apart}
use Rattle.mdv_store.proofs.Putting.{ArePut, IsGiven, Puts, put_steps}
use Rattle.mdv_store.proofs.Records.{record_spelled}
use Rattle.mdv_store.proofs.Seated.{replica_is, room_for_text, spots_once, text_fits}
use Rattle.mdv_store.proofs.Sitting.{left_replica}
use Rattle.mdv_store.proofs.Slotting.{slot_theirs}
use Rattle.mdv_store.proofs.Slices.{in_end}

module _ (g : Geometry) (key : Key) (identity : Identity) (lines : List SliceLine) (count blocks : ℕ) (sizes : List ℕ) (t : Tale) (owner : IsOwner key identity) (asked : AreAsked sizes lines count blocks)
    (may : MayForm g key lines (seats_asked key identity lines count blocks)) where
  abbrev site : Site
  site = site_of g key

  abbrev seats : List Seat
  seats = seats_asked key identity lines count blocks

  abbrev table : Table
  table = table_of seats

  abbrev bytes : ℕ
  bytes = record_bytes table

  pub given : IsGiven g key identity lines count blocks 1
  given = all_given g key identity lines count blocks sizes owner asked may

  pub pairs : ArePairsApart lines
  pairs = slices_apart g key identity lines count blocks sizes owner asked may

  pub blanked : (u : Tale) → AreDone (blanks_asked lines count blocks) t u → ArePut g key identity lines count blocks 1 t (λ other j. ⊥) (λ other from. Contains lines other × (1 ≤ from)) u
  blanked = blanked_put g key identity lines count blocks 1 given asked.more pairs t

  pub acts_dark : (m : Tale) → AreDoing (acts_asked key identity 1 lines count blocks) t m → StayDark g key identity t m
  acts_dark = dark_each g key identity lines count blocks 1 given asked.more pairs t

  -- The first table is written.
  module _ (v : Tale) (is_done : AreDone (acts_asked key identity 1 lines count blocks) t v) where
    put : PutsEnded g key identity lines count blocks 1 given asked.more pairs t v
    put = put_end g key identity lines count blocks 1 given asked.more pairs t v is_done

    first_same : (l : SliceLine) → master_on site identity l blocks count 0 ≡ (replica_on key identity l count blocks 0).first
    first_same l =
        let start : 16 + 0 * blocks ≡ 16 = omega arith in
        λ i. record { identity = identity; key = key; slice = l.name; start = start i; blocks = blocks; index = 0; count = count }

    pub held : AreHeld g key identity seats v
    held = record {
      each = λ r has image is.
          let one = replica_is key identity count blocks lines r has in
          let its = in_end key identity lines count blocks 1 (Puts g key identity lines count blocks 1 given t) (StayDark g key identity t) (put_steps g key identity lines count blocks 1 given t) one.line one.number one.among one.lt in
          subst (λ (x : Replica). IsOwn (Spells g) site identity x.line x.number image x.first x.head) (sym one.is)
          (subst (λ (m : Master). IsOwn (Spells g) site identity one.line one.number image m (replica_on key identity one.line count blocks one.number).head) (first_same one.line) (put.own one.line one.number its image is));
      once = spots_once key identity count blocks asked.least lines pairs asked.within;
    }

    pub named : AreNamed site table seats
    named r has =
        let one = replica_is key identity count blocks lines r has in
        subst (λ (x : Replica). is_named (lists_of_spots site table.plan.lists) (spot_of x) ≡ true) (sym one.is) (given.names one.line one.number one.among one.lt)

    shut : (slot : Slot) (r : Replica) (m : Mark) (n : ℕ) → r.head.first ≡ Closed → r.head.second ≡ Closed → gate_of r.head slot ≡ Open m n → ⊥
    shut First r m n one two is = (let none : Closed ≡ Open m n = sym one ∙ is in cc (none))
    shut Second r m n one two is = (let none : Closed ≡ Open m n = sym two ∙ is in cc (none))

    pub above : AreAbove first_mark seats
    above r has slot m n is =
        let one = replica_is key identity count blocks lines r has in
        absurd (shut slot r m n (ap (λ (x : Replica). x.head.first) one.is) (ap (λ (x : Replica). x.head.second) one.is) is)

    module _ (body : List (List ℕ)) (spelled : IsSpelled table bytes body) where
      pub bodies : AreBodies g seats first_mark bytes body table
      bodies r has =
          let fits = room_for_text key identity count blocks lines sizes asked r has in
          let blocks_are = spelled.blocks in
          let text = record_spelled g _ table may.sound may.of_geometry (text_fits key identity count blocks lines sizes asked) spelled.text in
          record {
            is = record { of_mark = record { boot = omega arith; count = omega arith }; in_slot = omega (arith, fits, blocks_are); in_room = omega (arith, fits); in_body = spelled.in_body; as_record = (table, text) };
            spelled = text;
          }

      -- by a moment of its write each place has its replica still
      pub writing_stays : (m : Tale) → SlottingMoment seats first_mark bytes body v m → AreTheirs g key identity seats m
      writing_stays m slotting = slot_theirs first_mark bytes body seats v g key identity table may.sound held bodies m slotting.passing

      -- and what showed no table shows none
      pub writing_dark : (m : Tale) → SlottingMoment seats first_mark bytes body v m → StayBlank g identity t m
      writing_dark m slotting = still_blank g identity t v m put.dark.others (slotting.blank g key identity table may.sound held bodies)

      -- in the end, of the places that took it
      module _ (failed : ℕ → Failures) (new : List Seat) (left : AreLeft failed (TakesSlot first_mark bytes) seats new) (u : Tale) (ends : SlottingEnds seats new first_mark bytes body v u) where
        abbrev pub made : Opened
        made = record { key = key; identity = identity; mark = first_mark; table = table; seats = new }

        pub made_opened : IsOpenedAt g made u
        made_opened = record {
          sound = may.sound;
          of_geometry = may.of_geometry;
          held = ends.held g key identity table may.sound held bodies;
          named = λ r has.
              let one = left_replica failed (TakesSlot first_mark bytes) seats new r left has in
              let took = one.2 in
              subst (λ (x : Replica). is_named (lists_of_spots site table.plan.lists) (spot_of x) ≡ true) (sym took.2) (named one.0 one.1);
          shown = ends.shown g key identity table may.sound held bodies above;
        }
