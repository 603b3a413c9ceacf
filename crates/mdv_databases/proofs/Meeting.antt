-- More than half of the places that a written table lists meet those that took it.
use Rattle.std.proofs.Common.{◌≡◌, inl, inr, ℕ, ◌*◌, ◌<◌, ◌≤◌, ◌&&◌, Bool, true, false, not, cond, List, [], ◌∷◌, length, map, Option, None, Some, Contains, refl, sym, ◌∙◌, ap, subst, arith}
use Rattle.std.specs.List.{list_any}
use Rattle.std.specs.Prelude.{count_by}
use Rattle.std.proofs.lemmas.Bool.{and_from, and_parts, cases_lt, false≢true, lt-ltb, not-true, or_cases, or_left, or_right}
use Rattle.std.proofs.lemmas.List.{length-map}
use Rattle.mdv_replica.specs.Form.{is_open}
use Rattle.mdv_shelf.proofs.Everywhere.{last_image}
use Rattle.mdv_shelf.proofs.Moments.{some_is}
use Rattle.mdv_shown.specs.Found.{IsOwnAt}
use Rattle.mdv_shown.specs.Shown.{HasNumber, NewestIs}
use Rattle.mdv_shown.specs.declared.site.Site.{Site}
use Rattle.mdv_shown.proofs.Choice.{enough}
use Rattle.mdv_shown.proofs.Slots.{never_below}
use Rattle.mdv_store_law.specs.Log.{Lives}
use Rattle.mdv_standing.specs.Below.{FamilyTable, First, Head, Image, IsBelow, Mark, Open, Second, Slot, Spot, SpotLists, covers, gate_of, is_majority, is_none, place_at, place_on, shows, spot_on, table_at}
use Rattle.mdv_standing.specs.Databases.{log_in}
use Rattle.mdv_standing.specs.Matching.{LiesOn, spot_in, spots_in, spots_of as lists_of_spots, tables_of, version_at}
use Rattle.mdv_standing.specs.Worlds.{IsWorld}
use Rattle.mdv_standing.proofs.Reaching.{standing}
use Rattle.mdv_standing.proofs.Versions.{version_has}
use Rattle.mdv_standing.proofs.Voting.{all_that, in_log, numbered}
use Rattle.mdv_look.proofs.Bringing.{count_cons}
use Rattle.mdv_store.proofs.Sitting.{contains_behind, contains_first}
use Rattle.mdv_store_law.specs.Log.{Version, is_firm}
use Rattle.mdv_survey.specs.Replica.{IsFoundIn}
use Rattle.mdv_votes.proofs.Quorums.{seats_itself, writes_meet_reads}
use Rattle.mdv_votes.specs.Laws.{Shares}
use Rattle.mdv_config.specs.Lists.{first_of}
use Rattle.mdv_plan.specs.declared.lists.Lists.{Lists}
use Rattle.mdv_store.proofs.Shares.{in_first}
use Rattle.mdv_databases.specs.Below.{Core, Database, Geometry, Identity, Key, Log, One, Place, Two, Replica, SliceAt, Spells, Tale, current_of, last, log_of, site_of, slice_at}
use Rattle.mdv_databases.specs.Meeting.{ListsLieOn, MayBeFound, is_on}
use Rattle.mdv_databases.specs.Standing.{Stand}
use Rattle.mdv_databases.proofs.Lists.{current_in, current_key}

-- a place, and no mediator's seat, on such a drive
abbrev is_there : (ℕ → Bool) → Spot → Bool
is_there up p = not p.mediator && up p.drive.0

module _ (site : Site) (up : ℕ → Bool) where
  abbrev spot : Place → Spot
  spot place = spot_in (slice_at site.lines place.slice) place

  abbrev on : Place → Bool
  on place = is_on up (slice_at site.lines place.slice)

  one_spot : (place : Place) (o : Option SliceAt) → cond {A = ℕ} (is_on up o) 1 0 ≤ cond {A = ℕ} (is_there up (spot_in o place)) 1 0
  one_spot place None = omega arith
  one_spot place (Some at) = omega arith

  -- as many of their spots are on such drives at least
  spots_counted : (places : List Place) → count_by on places ≤ count_by (is_there up) (map spot places)
  spots_counted [] = omega arith
  spots_counted (x ∷ xs) = omega (arith, count_cons on x xs, count_cons (is_there up) (spot x) (map spot xs), one_spot x (slice_at site.lines x.slice), spots_counted xs)

  most_spots : (places : List Place) → length places < 2 * count_by on places → is_majority (is_there up) (map spot places) ≡ true
  most_spots places most =
      lt-ltb (length (map spot places)) (2 * count_by (is_there up) (map spot places)) (omega (arith, most, spots_counted places, length-map places spot))

pub opens : (head : Head) (slot : Slot) (mark : Mark) (bytes : ℕ) → gate_of head slot ≡ Open mark bytes → shows head ≡ true
opens head First mark bytes e = or_left (is_open head.first) (is_open head.second) (ap is_open e)
opens head Second mark bytes e = or_right (is_open head.first) (is_open head.second) (ap is_open e)

-- a version whose write was answered
one_written : (vs : List Version) → list_any (λ (v : Version). v.is_written) vs ≡ true → (v : Version) × Contains vs v × (v.is_written ≡ true)
one_written [] firm = absurd (false≢true firm)
one_written (v ∷ vs) firm = elim (or_cases v.is_written (list_any (λ (w : Version). w.is_written) vs) firm) [
  | inl here ↦ (v, contains_first v vs, here)
  | inr rest ↦ (let one = one_written vs rest in (one.0, contains_behind v one.0 vs one.1, one.2))
]

module _ (g : Geometry) (site : Site) (identity : Identity) (log : Log) (w : Core) (image : Image) (world : IsWorld (Spells g) site identity log w image) where
  -- a replica that holds a table is found, and shows it
  record IsShownAt (p : Spot) (i : ℕ) : Type 0 where
    at : IsOwnAt (Spells g) site identity image p
    slot : Slot
    bytes : ℕ
    gate : gate_of at.head slot ≡ Open (table_at w.family i).mark bytes

  on_drive : (p : Spot) (at : IsOwnAt (Spells g) site identity image p) (up : ℕ → Bool) → up p.drive.0 ≡ true → up at.line.at.drive.0 ≡ true
  on_drive p at up is = subst (λ (q : Spot). up q.drive.0 ≡ true) at.spot is

  shown_at : (p : Spot) (i : ℕ) → p.mediator ≡ false → (place_at w.places p).holds ≡ true → (place_at w.places p).newest ≡ Some i → IsShownAt p i
  shown_at p i place holds is =
      let o = world.shows.only p place holds in
      let with = world.shows.each o.line o.number o.first o.head o.own in
      let here : (place_at w.places (spot_on o.line o.first.blocks o.number)).newest ≡ Some i = subst (λ (q : Spot). (place_at w.places q).newest ≡ Some i) o.spot is in
      let n : HasNumber (Spells g) (tables_of log.family) w.family (place_on o.line o.first.blocks o.first.count o.number) (image o.line.at.drive.0) o.head i =
      subst (λ (x : Option ℕ). NewestIs (Spells g) (tables_of log.family) w.family (place_on o.line o.first.blocks o.first.count o.number) (image o.line.at.drive.0) o.head x) here with.newest in
      record { at = o; slot = n.slot; bytes = n.is.shows.bytes; gate = n.is.shows.gate }

  -- The firm table's version is one that a boot may find.
  module _ (f : ℕ) (firm : w.firm ≡ Some f) where
    known : f < length w.family
    known = (standing site w world.reached).descent.known f firm

    pub firm_found : MayBeFound log.family (version_at log.family f)
    firm_found = (
      version_has log.family f (in_log site log w world.reached world.matches f known),
      all_that (λ x. x.is_written ≡ true → IsBelow (version_at log.family f).mark x.mark → ⊥) log.family not_above,
    )
      where
        not_above : (x : Version) → Contains log.family x → x.is_written ≡ true → IsBelow (version_at log.family f).mark x.mark → ⊥
        not_above x has written below =
            let i = numbered site log w world.reached world.matches x has in
            let other = world.matches.answered i.0 i.1 (ap (λ (y : Version). y.is_written) i.2 ∙ written) in
            let same : other.0 ≡ f = some_is w.firm other.0 f other.1 firm in
            let marks : IsBelow (table_at w.family f).mark (table_at w.family i.0).mark =
            subst (λ (k : Mark). IsBelow k (table_at w.family i.0).mark) (sym (world.matches.each f known).mark) (subst (λ (k : Mark). IsBelow (version_at log.family f).mark k) (sym i.3) below) in
            elim (cases_lt i.0 f) [
              | inl down ↦ never_below (table_at w.family i.0).mark (table_at w.family f).mark ((standing site w world.reached).family.marks i.0 f down known) marks
              | inr up ↦
                  let itself = subst (λ (n : ℕ). IsBelow (table_at w.family f).mark (table_at w.family n).mark) (number_is i.0 other.0 other.2 up same) marks in
                  never_below (table_at w.family f).mark (table_at w.family f).mark itself itself
            ]
          where
            number_is : (n m : ℕ) → n ≤ m → f ≤ n → m ≡ f → n ≡ f
            number_is n m le ge same = omega (arith, le, ge, same)

    -- a replica on such a drive that shows the firm table or a greater one
    pub record Meets (up : ℕ → Bool) : Type 0 where
      pub replica : Replica
      pub found : IsFoundIn g site image replica
      pub on : up replica.line.at.drive.0 ≡ true
      pub its : replica.head.master.identity ≡ identity
      pub number : ℕ
      pub above : f ≤ number
      pub known : number < length w.family
      pub slot : Slot
      pub bytes : ℕ
      pub gate : gate_of replica.head slot ≡ Open (table_at w.family number).mark bytes

    abbrev pub its_lists : Lists
    its_lists = (version_at log.family f).table.plan.lists

    -- its first list, as the votes count it
    its_first : (table_at w.family f).lists.first ≡ spots_in site (first_of its_lists)
    its_first = ap (λ (l : SpotLists). l.first) (world.matches.each f known).lists ∙ first_spots its_lists
      where
        first_spots : (lists : Lists) → (lists_of_spots site lists).first ≡ spots_in site (first_of lists)
        first_spots (One places) = refl
        first_spots (Two old new) = refl

    -- it lists some
    pub some_listed : 1 ≤ length (first_of its_lists)
    some_listed = by (first_of its_lists) refl where
      by : (places : List Place) → first_of its_lists ≡ places → 1 ≤ length places
      by [] none = absurd (false≢true (sym (world.matches.each f known).some ∙ ap is_none (its_first ∙ ap (spots_in site) none)))
      by (place ∷ places) is = omega arith

    -- each on a slice of the site
    pub all_lie : (place : Place) → Contains (first_of its_lists) place → LiesOn site place
    all_lie place has = (world.matches.each f known).lie place (in_first its_lists place has)

    -- of the places of its first list that took it one is on such a drive
    module _ (up : ℕ → Bool) (most : length (first_of its_lists) < 2 * count_by (λ (place : Place). is_on up (slice_at site.lines place.slice)) (first_of its_lists)) where
      -- as if it had that list alone
      abbrev alone : FamilyTable
      alone = record (table_at w.family f) { lists = record { first = (table_at w.family f).lists.first; second = None; mediators = (table_at w.family f).lists.mediators } }

      read : covers (is_majority (is_there up)) alone.lists ≡ true
      read = and_from (is_majority (is_there up) (table_at w.family f).lists.first) true (subst (λ (l : List Spot). is_majority (is_there up) l ≡ true) (sym its_first) (most_spots site up (first_of its_lists) most)) refl

      pub meets : log.fate ≡ Lives → Meets up
      meets lives =
          let t = table_at w.family f in
          let stands = standing site w world.reached in
          let held = stands.held f firm (world.matches.there lives) in
          let shared : Shares alone.lists t.lists = record { list = t.lists.first; in_a = inl refl; in_b = inl refl; seats = seats_itself t.lists.mediators } in
          let p = writes_meet_reads alone t held.0 (is_there up) (λ q. false) shared (λ half none. none) held.1 (enough (is_there up) alone (λ q. false) read) in
          let place = and_parts (not p.0.mediator) (up p.0.drive.0) p.2 in
          let has = held.2 p.0 p.1 in
          let one = shown_at p.0 has.table (not-true p.0.mediator place.0) has.formed has.shows in
          record {
            replica = record { line = one.at.line; number = one.at.number; first = one.at.first; head = one.at.head };
            found = one.at.own.found;
            on = on_drive p.0 one.at up place.1;
            its = one.at.own.of_identity;
            number = has.table;
            above = has.above;
            known = stands.family.shown p.0 has.table has.shows;
            slot = one.slot;
            bytes = one.bytes;
            gate = one.gate;
          }

  -- where a write was answered, there is a firm table
  pub firm_some : is_firm log ≡ true → (f : ℕ) × (w.firm ≡ Some f)
  firm_some firm =
      let v = one_written log.family firm in
      let i = numbered site log w world.reached world.matches v.0 v.1 in
      let f = world.matches.answered i.0 i.1 (ap (λ (y : Version). y.is_written) i.2 ∙ v.2) in
      (f.0, f.1)

pub databases_meet : (g : Geometry) (all : List Database) (key : Key) (up : ℕ → Bool) (t : Tale) → Stand g all t → (log_of all key).fate ≡ Lives → is_firm (log_of all key) ≡ true → ListsLieOn g key up (log_of all key).family
    → (r : Replica) × IsFoundIn g (site_of g key) (last t) r × (up r.line.at.drive.0 ≡ true) × (shows r.head ≡ true)
databases_meet g all key up t stand lives firm most = of_one (current_of all key) refl lives firm most
  where
    of_one : (c : Option Database) → current_of all key ≡ c → (log_in c).fate ≡ Lives → is_firm (log_in c) ≡ true → ListsLieOn g key up (log_in c).family
        → (r : Replica) × IsFoundIn g (site_of g key) (last t) r × (up r.line.at.drive.0 ≡ true) × (shows r.head ≡ true)
    of_one None is lives firm most = absurd (false≢true firm)
    of_one (Some d) is lives firm most =
        let has = (stand.worlds (last t) (last_image t)).worlds d (current_in key all d is) in
        let world = subst (λ (k : Key). IsWorld (Spells g) (site_of g k) d.identity d.log has.0 (last t)) (current_key key all d is) has.1 in
        let f = firm_some g (site_of g key) d.identity d.log has.0 (last t) world firm in
        let may = firm_found g (site_of g key) d.identity d.log has.0 (last t) world f.0 f.1 in
        let one = meets g (site_of g key) d.identity d.log has.0 (last t) world f.0 f.1 up (most (version_at d.log.family f.0) may).0 lives in
        (one.replica, one.found, one.on, opens one.replica.head one.slot (table_at has.0.family one.number).mark one.bytes one.gate)
