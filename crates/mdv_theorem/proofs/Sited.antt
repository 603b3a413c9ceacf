-- Where the replicas lie that a line adds to a host's database: on slices on which a boot looks.
use Rattle.std.proofs.Common.{◌≡◌, ◌≤◌, ◌+◌, ◌*◌, ◌&&◌, not, if◌then◌else◌, ℕ, Bool, true, false, List, [], ◌∷◌, Option, None, Some, Contains, nat_le, refl, sym, ◌∙◌, ap, subst, arith}
use Rattle.std.proofs.lemmas.Bool.{and_from, le-leb, not_from_false}
use Rattle.std.proofs.Math.Nat.{mul-le-mul_right}
use Rattle.mdv_base.specs.declared.drive.SliceName.{SliceName}
use Rattle.mdv_base.specs.declared.name.Key.{Key}
use Rattle.mdv_base.specs.declared.name.Key.TheVariants.{Local}
use Rattle.mdv_base.specs.declared.place.Place.{Place}
use Rattle.mdv_engine_law.proofs.Allowed.{allowed_aside, allowed_clear, allowed_room, not_not}
use Rattle.mdv_engine_law.proofs.Places.{asked_line}
use Rattle.mdv_engine_law.specs.Commands.{IsAllowed}
use Rattle.mdv_engine_law.specs.Hosts.{key_of, lines_asked}
use Rattle.mdv_engine_law.specs.Line.{Memory}
use Rattle.mdv_engine_law.specs.Moves.{drop_of}
use Rattle.mdv_engine_law.specs.Places.{is_empty, list_less, list_of, or_first}
use Rattle.mdv_engine_law.specs.Refusals.{Case, blocks_at, is_plain, rest_of}
use Rattle.mdv_engine_law.specs.declared.host.Host.{Host}
use Rattle.mdv_home.proofs.Owning.{drives_are_own, of_host}
use Rattle.mdv_home.proofs.Viewing.{view_is_own}
use Rattle.mdv_home.specs.Drives.{is_own}
use Rattle.mdv_home.specs.View.{own_view}
use Rattle.mdv_name.proofs.Finding.{slice_at-some}
use Rattle.mdv_name.specs.SliceIndex.{HasSlice, slice_at}
use Rattle.mdv_name.specs.declared.drive_line.DriveKind.TheVariants.{Own}
use Rattle.mdv_name.specs.declared.geometry.Geometry.{Geometry}
use Rattle.mdv_name.specs.declared.slice_lines.SliceAt.{SliceAt}
use Rattle.mdv_name.specs.declared.slice_lines.SliceLine.{SliceLine}
use Rattle.mdv_places.proofs.Adding.{claims_replica, place_of_seat}
use Rattle.mdv_places.proofs.Coming.{keeps}
use Rattle.mdv_places.proofs.Moving.{added_places}
use Rattle.mdv_places.specs.Asked.{Adds, Drops, KeepsFirst, claimed, claims, places_added, seats_added}
use Rattle.mdv_places.specs.Changing.{IsEnough}
use Rattle.mdv_plan.specs.Slices.{meets_db}
use Rattle.mdv_run_law.specs.Run.{IsOfTable}
use Rattle.mdv_shown.specs.Sites.{is_line_of, is_reached, is_reached_at, is_reached_line, is_slice_of, takes_replicas}
use Rattle.mdv_shown.specs.declared.site.Site.{Site}
use Rattle.mdv_store.proofs.Passes.{unmapped}
use Rattle.mdv_store.proofs.Seated.{replica_is, seat_is}
use Rattle.mdv_store.specs.Create.{replica_on, seats_asked}
use Rattle.mdv_store.specs.Opened.{Opened}
use Rattle.mdv_store.specs.Seats.{replicas_of}
use Rattle.mdv_store.specs.Shares.{short_in}
use Rattle.mdv_store.specs.declared.seats.Need.TheVariants.{Half}
use Rattle.mdv_store.specs.declared.seats.Seat.{Seat}
use Rattle.mdv_survey.specs.declared.replica.Replica.{Replica}
use Rattle.mdv_words.specs.Line.{IsInForm}
use Rattle.mdv_words.specs.declared.command.Command.TheVariants.{AddPlaces}

module _ (host : Host) (of : IsOfTable host) where
  -- each slice of the host lies on one of its own drives
  reached : (line : SliceLine) → Contains host.drives.slices line → is_reached_at host.drives (key_of host) line.at.drive.0 ≡ true
  reached line has =
      let seen = (view_is_own.seen of.table of.name line.name line.at).0 (subst (λ (g : Geometry). HasSlice g.slices line.name line.at) of.view has) in
      let own = (drives_are_own.own of.table of.name line.at.drive).0 seen.1 in
      let named : is_own of.name (Own own.name of.name) ≡ true = of_host of.name (Own own.name of.name) (record { name = own.name; own = refl }) in
      ap (λ (g : Geometry). is_reached_at g (key_of host) line.at.drive.0) of.view ∙ ap (λ (k : Key). is_reached_at (own_view of.table of.name) k line.at.drive.0) of.key
      ∙ ap (is_reached_line (Local of.name)) own.place ∙ ap (is_reached (Local of.name)) own.own ∙ named

  -- a slice that is set aside for replicas, meets no other one that is, and has room for one is one of those on which a boot looks
  asked_sites : (slices : List SliceName) → ((slice : SliceName) → Contains slices slice → is_plain (slice_at host.drives.slices slice) ≡ false) → ((slice : SliceName) → Contains slices slice → meets_db host.drives slice ≡ false)
      → (line : SliceLine) → Contains (lines_asked host slices) line → 32 ≤ line.at.blocks → Contains host.site.lines line
  asked_sites slices aside clear line asked room =
      let is = asked_line host slices line asked in
      let there : HasSlice host.drives.slices is.slice line.at = (slice_at-some host.drives is.slice line.at of.sound).0 is.lies in
      let has : Contains host.drives.slices line = subst (λ (n : SliceName). HasSlice host.drives.slices n line.at) (sym is.named) there in
      let db : line.at.db ≡ true = not_not line.at.db (sym (ap is_plain is.lies) ∙ aside is.slice is.among) in
      let alone : not (meets_db host.drives line.name) ≡ true = not_from_false (meets_db host.drives line.name) (ap (meets_db host.drives) is.named ∙ clear is.slice is.among) in
      let takes : takes_replicas host.drives line ≡ true =
      and_from (line.at.db && nat_le 32 line.at.blocks) (not (meets_db host.drives line.name)) (and_from line.at.db (nat_le 32 line.at.blocks) db (le-leb 32 line.at.blocks room)) alone in
      let lies : (is_slice_of (key_of host) line.name && is_reached_at host.drives (key_of host) line.at.drive.0) ≡ true =
      and_from (is_slice_of (key_of host) line.name) (is_reached_at host.drives (key_of host) line.at.drive.0) (ap (λ (k : Key). is_slice_of k line.name) of.key) (reached line has) in
      subst (λ (s : Site). Contains s.lines line) (sym of.site)
      (keeps (is_line_of host.drives (key_of host)) host.drives.slices line has
      (and_from (is_slice_of (key_of host) line.name && is_reached_at host.drives (key_of host) line.at.drive.0) (takes_replicas host.drives line) lies takes))

  -- Replicas that a line adds, which nothing refuses, lie there.
  module _ (memory : Memory) (slices : List SliceName) (force : Bool) (count blocks : ℕ) (free : IsAllowed (record { host = host; memory = memory }) (AddPlaces slices force count blocks)) (form : IsInForm (AddPlaces slices force count blocks)) where
    abbrev case : Case
    case = record { host = host; memory = memory }

    lines_own : (line : SliceLine) → Contains (lines_asked host slices) line → Contains host.site.lines line
    lines_own line has =
        let is = asked_line host slices line has in
        let room : 16 + count * blocks ≤ line.at.blocks = subst (λ (o : Option SliceAt). 16 + count * blocks ≤ blocks_at o) is.lies (allowed_room case slices force count blocks free is.slice is.among) in
        let one = mul-le-mul_right blocks form.1.0 in
        asked_sites slices (allowed_aside case slices force count blocks free) (allowed_clear case slices force count blocks free) line has (omega (arith, room, one, form.2.0))

    pub added_own : (o : Opened) (r : Replica) → Contains (replicas_of (seats_added o (Adds (lines_asked host slices) count blocks))) r → Contains host.site.lines r.line
    added_own o r has =
        let one = claims_replica o.mark.boot (seats_asked o.key o.identity (lines_asked host slices) count blocks) r has in
        let is = replica_is o.key o.identity count blocks (lines_asked host slices) one.0 one.1 in
        subst (λ (line : SliceLine). Contains host.site.lines line) (sym (ap (λ (x : Replica). x.line) one.2 ∙ ap (λ (x : Replica). x.line) is.is)) (lines_own is.line is.among)

-- a drop of places that nothing refuses leaves a list of which half is active
pub drop_enough : (o : Opened) (slices : List SliceName) → short_in Half o.seats (rest_of o slices) ≡ None → IsEnough o (drop_of o slices)
drop_enough o slices none = by (list_less slices (list_of o)) refl none where
  by : (l : List Place) → list_less slices (list_of o) ≡ l → short_in Half o.seats (or_first l (list_of o)) ≡ None → IsEnough o (if is_empty l then KeepsFirst else Drops slices)
  by [] is enough = enough
  by (p ∷ ps) is enough = subst (λ (l : List Place). short_in Half o.seats l ≡ None) (sym is) enough

-- the seat of a place that is added, with its replica, which lies on one of the lines that are asked
pub record AddedSeat (o : Opened) (lines : List SliceLine) (count blocks : ℕ) (place : Place) : Type 0 where
  pub seat : Seat
  pub replica : Replica
  pub one_of : Contains (seats_added o (Adds lines count blocks)) seat
  pub has : seat.replica ≡ Some replica
  pub is : seat.place ≡ place
  pub among : Contains lines replica.line
  pub named : replica.line.name ≡ place.slice

pub added_seat : (o : Opened) (lines : List SliceLine) (count blocks : ℕ) (p : Place) → Contains (places_added (Adds lines count blocks)) p → AddedSeat o lines count blocks p
added_seat o lines count blocks p has =
    let s = unmapped place_of_seat (seats_added o (Adds lines count blocks)) p (subst (λ (l : List Place). Contains l p) (sym (added_places o (Adds lines count blocks))) has) in
    let t = unmapped (claims o.mark.boot) (seats_asked o.key o.identity lines count blocks) s.0 s.1 in
    let is = seat_is o.key o.identity count blocks lines t.0 t.1 in
    let r = replica_on o.key o.identity is.line count blocks is.number in
    let first : is.line.name ≡ t.0.place.slice = sym (λ i. (is.is i).place.slice) in
    let second : t.0.place.slice ≡ s.0.place.slice = λ i. (t.2 i).place.slice in
    record {
      seat = s.0;
      replica = record r { head = record r.head { claim = o.mark.boot } };
      one_of = s.1;
      has = ap (λ (x : Seat). x.replica) (sym t.2) ∙ ap (λ (x : Seat). claimed o.mark.boot x.replica) is.is;
      is = s.2;
      among = is.among;
      named = first ∙ second ∙ ap (λ (q : Place). q.slice) s.2;
    }
