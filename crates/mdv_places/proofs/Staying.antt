-- What stays while a table is written to replicas of the database: that each listed place has its replica, and what may be taken from other databases.
use Rattle.std.proofs.Common.{◌≡◌, inl, inr, ℕ, List, ◌∷◌, Contains, refl, sym, ◌∙◌, ap, subst, arith}
use Rattle.std.proofs.lemmas.Bool.{false_from_ne_true}
use Rattle.mdv_acts.proofs.Members.{contains_first}
use Rattle.mdv_name.specs.Sound.{IsSound}
use Rattle.mdv_replica.specs.Form.{IsTable}
use Rattle.mdv_replica.specs.Images.{MayFill, SameOutside}
use Rattle.mdv_replica.proofs.Leaving.{leaves_slotting}
use Rattle.mdv_shown.specs.Found.{Counts, IsFound}
use Rattle.mdv_shown.specs.Site.{line_area}
use Rattle.mdv_shown.proofs.Elsewhere.{found_kept, range_has}
use Rattle.mdv_shown.proofs.Kept.{slots_before}
use Rattle.mdv_shown.proofs.Sites.{lines_apart, site_is}
use Rattle.mdv_standing.specs.Below.{Head, Master}
use Rattle.mdv_standing.specs.Listed.{HasPlace}
use Rattle.mdv_standing.specs.Rest.{IsRest, MayBeTaken, RestMayBeTaken}
use Rattle.mdv_standing.proofs.Anew.{newest_found}
use Rattle.mdv_standing.proofs.Listed.{own_found, past_reading, slot_still}
use Rattle.mdv_standing.proofs.Within.{apart_or_in, fill_within, found_for}
use Rattle.mdv_store_law.specs.Log.{IsNotOlder, IsRising, Version}
use Rattle.mdv_store.specs.Below.{Database, Everywhere, Geometry, Identity, Image, IsOwn, Key, Mark, Replica, Slot, Table, Tale, at_of, places_of, site_of}
use Rattle.mdv_store.specs.Passing.{IsPassing, Passed, slotting}
use Rattle.mdv_store.specs.Records.{Spells}
use Rattle.mdv_store.specs.Seats.{AreHeld, AreTheirs, replicas_of}
use Rattle.mdv_store.specs.Slots.{AreBodies}
use Rattle.mdv_store.specs.declared.seats.Seat.{Seat}
use Rattle.mdv_store.proofs.Blanks.{blank_slots}
use Rattle.mdv_store.proofs.Passing.{due_part, has_first, stands}
use Rattle.mdv_store.proofs.Rows.{part_has}
use Rattle.mdv_store.proofs.Slotting.{goes_on, slot_theirs}
use Rattle.mdv_store.proofs.Staying.{stays_there}
use Rattle.mdv_places.specs.Below.{Opened, Place, SliceLine}
use Rattle.mdv_places.specs.Moments.{StandsOpen}

-- each of these places has its replica
abbrev pub HaveAll : Geometry → Key → Identity → List Place → Image → Type 0
HaveAll g key identity places image = (p : Place) → Contains places p → HasPlace (Spells g) (site_of g key) identity image p

-- so it is of an open database that stands, with nothing in work
pub have_open : (g : Geometry) (o : Opened) (t : Tale) → StandsOpen g o t → Everywhere (HaveAll g o.key o.identity (places_of o.table.plan.lists)) t
have_open g o t s image is p listed =
    let w = s.covers image is in
    let n = s.is.newest.newest in
    let ready = w.2 in
    elim w.1.listed [
      | inr shut ↦ absurd (past_reading (site_of g o.key) w.0 w.1.reached _ ready.stage (λ read same. cc (same)) shut)
      | inl have ↦ have n.version p (subst (λ (l : List Version). Contains l n.version) (sym n.family) (contains_first n.version n.older))
          (subst (IsNotOlder n.version.mark) (sym n.family) (newest_found n.version n.older (subst IsRising n.family s.is.is_log.rising)))
          (subst (λ (u : Table). Contains (places_of u.plan.lists) p) (sym n.same) listed)
    ]

-- One slot of a replica is written, in an image.
module _ (g : Geometry) (sound : IsSound g) (key : Key) (identity : Identity) (r : Replica) (old new : Image) (mine : IsOwn (Spells g) (site_of g key) identity r.line r.number old r.first r.head)
    (slot : Slot) (mark : Mark) (bytes : ℕ) (body : List (List ℕ)) (table : IsTable (Counts (Spells g)) (at_of r) mark bytes body) (change : MayFill (at_of r) slot mark bytes body old new) where
  outside : SameOutside (line_area r.line) old new
  outside = fill_within r.line r.number r.first.blocks r.first.count old new mine.found.within mine.found.located.lies.least slot mark bytes body table.in_slot change

  pub have_filled : (places : List Place) → HaveAll g key identity places old → HaveAll g key identity places new
  have_filled places have p has =
      let was = have p has in
      let now = slot_still (Spells g) (site_of g key) identity old new (site_is g key sound) r.line r.number r.first r.head (own_found (Spells g) (site_of g key) identity r.line r.number old r.first r.head mine) slot mark bytes body table change
      was.line was.number was.first was.head was.own in
      record { line = was.line; number = was.number; first = was.first; head = now.0; own = now.1; is = was.is }

  -- what is found was found, under the same master
  filled_before : (ask : Key) (l : SliceLine) (j : ℕ) (m : Master) (h : Head) → IsFound (Spells g) (site_of g ask) l j (new l.at.drive.0) m h → (was : Head) × IsFound (Spells g) (site_of g ask) l j (old l.at.drive.0) m was × (was.master ≡ h.master)
  filled_before ask l j m h found = elim (apart_or_in (site_of g ask).lines r.line (λ b has. lines_apart g sound key ask r.line b mine.found.one_of has)) [
    | inl looks ↦
        slots_before (Spells g) (site_of g ask) r.line r.number r.first r.head old new (found_for g key ask r.line looks (Spells g) r.number (old r.line.at.drive.0) r.first r.head mine.found) (site_is g ask sound) slot mark bytes body table change
        l j m h found
    | inr apart ↦
        let fits = found.within in (
          h,
          found_kept (Spells g) (site_of g ask) l (new l.at.drive.0) (old l.at.drive.0) m j h
              (λ block from to. sym (outside l.at.drive.0 block (false_from_ne_true (line_area r.line l.at.drive.0 block)
              (λ has. apart l found.one_of l.at.drive.0 block has (range_has l.at.drive.0 l.at.start l.at.blocks block (omega (arith, from)) (omega (arith, to, fits))))))) found,
          refl,
        )
  ]

  pub taken_filled : (d : Database) → (d.identity ≡ identity → ⊥) → (line : SliceLine) → MayBeTaken (Spells g) g line old d → MayBeTaken (Spells g) g line new d
  taken_filled d another line taken = elim taken [
    | inl out ↦ inl out
    | inr (inl (lives, none)) ↦ inr (inl (lives, blank_slots g d.key d.identity old new none key identity another sound r mine slot mark bytes body table change))
    | inr (inr loose) ↦ inr (inr (λ v has found j m h own.
        let was = filled_before d.key line j m h own.found in
        loose v has found j m was.0 (record { found = was.1; of_identity = ap (λ (x : Master). x.identity) was.2 ∙ own.of_identity })))
  ]

-- A pass writes a body to the active places.
module _ (g : Geometry) (sound : IsSound g) (key : Key) (identity : Identity) (seats : List Seat) (mark : Mark) (bytes : ℕ) (body : List (List ℕ)) (table : Table) (t : Tale) (held : AreHeld g key identity seats t) (bodies : AreBodies g seats mark bytes body table) where
  abbrev all : List Replica
  all = replicas_of seats

  -- a replica that is due is there
  abbrev Due : Replica → Tale → Type 0
  Due r u = Everywhere (λ image. (head : Head) × IsOwn (Spells g) (site_of g key) identity r.line r.number image r.first head) u

  due_there : (front rest : List Replica) (r : Replica) (u : Tale) → Passed (slotting mark bytes body) all t front (r ∷ rest) u → Due r u
  due_there front rest r u passed =
      slot_theirs mark bytes body seats t g key identity table sound held bodies u (front, r ∷ rest, passed) r
      (part_has (r ∷ rest) all r (due_part (slotting mark bytes body) all t front (r ∷ rest) u passed) (has_first r rest))

  -- what one slot's writing leaves of each image all of them leave
  module _ (P : Image → Type 0) (step : (r : Replica) (old new : Image) → IsOwn (Spells g) (site_of g key) identity r.line r.number old r.first r.head → (slot : Slot) → IsTable (Counts (Spells g)) (at_of r) mark bytes body
      → MayFill (at_of r) slot mark bytes body old new → P old → P new) where
    pub pass_keeps : (m : Tale) → IsPassing (slotting mark bytes body) all t m → Everywhere P t → Everywhere P m
    pass_keeps m passing start =
        stands (slotting mark bytes body) all t (goes_on mark bytes body seats t) Due due_there (Everywhere P)
        (λ r u v one there goes so image is.
        let from = leaves_slotting (at_of r) goes.0 mark bytes body u v goes.2 image is in
        let h = there from.0 from.1 in
        step (record r { head = h.0 }) from.0 image h.1 goes.0 (bodies r one).is from.2 (so from.0 from.1))
        start passing.0 passing.1 m passing.2

  pub have_passed : (places : List Place) (m : Tale) → IsPassing (slotting mark bytes body) all t m → Everywhere (HaveAll g key identity places) t → Everywhere (HaveAll g key identity places) m
  have_passed places = pass_keeps (HaveAll g key identity places) (λ r old new mine slot is change have. have_filled g sound key identity r old new mine slot mark bytes body is change places have)

  pub taken_passed : (databases : List Database) (line : SliceLine) (m : Tale) → IsPassing (slotting mark bytes body) all t m → RestMayBeTaken (Spells g) g databases identity line t → RestMayBeTaken (Spells g) g databases identity line m
  taken_passed databases line = pass_keeps (λ image. (d : Database) → IsRest databases identity d → MayBeTaken (Spells g) g line image d)
      (λ r old new mine slot is change taken d rest. taken_filled g sound key identity r old new mine slot mark bytes body is change d rest.1 line (taken d rest))

  -- replicas of the database that are there, under one head or another
  pub theirs_passed : (others : List Seat) (m : Tale) → IsPassing (slotting mark bytes body) all t m → AreTheirs g key identity others t → AreTheirs g key identity others m
  theirs_passed others m passing start q has =
      pass_keeps (λ image. (head : Head) × IsOwn (Spells g) (site_of g key) identity q.line q.number image q.first head)
      (λ r old new mine slot is change there. stays_there g key identity sound r old new mine slot mark bytes body is change q there) m passing (start q has)
