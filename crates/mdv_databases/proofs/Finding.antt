-- A boot that reads all drives on which it looks finds each place that the newest table lists.
use Rattle.std.proofs.Common.{◌≡◌, inl, inr, ⊎_elim, ◌⊎◌, ℕ, ◌+◌, ◌*◌, ◌/◌, ◌≤◌, ◌&&◌, Bool, true, false, cond, is_some, List, [], ◌∷◌, Option, None, Some, MatchOption, Contains, length, slice_get, refl, sym, ◌∙◌, ap, subst, arith}
use Rattle.std.specs.List.{find}
use Rattle.std.specs.Prelude.{count_by, nat_le}
use Rattle.std.proofs.lemmas.Bool.{and_from, cases_Bool, cases_lt, cond-true, false≢true, le-leb, lt-ltb}
use Rattle.std.proofs.lemmas.List.Folds.{list_any_at}
use Rattle.mdv_name.specs.Sound.{IsSound}
use Rattle.mdv_encoding.proofs.Lengths.{length-record_text}
use Rattle.mdv_encoding.specs.Parsing.{read_of}
use Rattle.mdv_encoding.specs.Record.{IsRecordOf}
use Rattle.mdv_encoding.specs.Text.{record_bytes}
use Rattle.mdv_shelf.proofs.Everywhere.{last_image}
use Rattle.mdv_shelf.proofs.Moments.{some_is}
use Rattle.mdv_shelf.specs.Tale.{last}
use Rattle.mdv_shown.proofs.Choice.{chosen_voted}
use Rattle.mdv_shown.proofs.Slots.{reads_one, shows_one}
use Rattle.mdv_shown.specs.Choice.{HaveRead, IsChosen, Seen, spot_seen, spots_seen}
use Rattle.mdv_shown.specs.Found.{IsOwn}
use Rattle.mdv_shown.specs.Shown.{SlotShows}
use Rattle.mdv_shown.specs.declared.site.Site.{Site}
use Rattle.mdv_store_law.proofs.Families.{written_firm}
use Rattle.mdv_store_law.proofs.Fates.{lives_there}
use Rattle.mdv_standing.specs.Adopting.{AreOwn, IsFoundVersion, IsLook}
use Rattle.mdv_standing.specs.Below.{IsBelow, Mark, Open, Slot, Spot, after_all, gate_of, table_at}
use Rattle.mdv_standing.specs.Databases.{log_in}
use Rattle.mdv_standing.specs.Listed.{HasPlace, HavePlaces, IsShut}
use Rattle.mdv_standing.specs.Matching.{tables_of, version_at}
use Rattle.mdv_standing.specs.Worlds.{IsWorld, Turned}
use Rattle.mdv_standing.proofs.Reaching.{standing}
use Rattle.mdv_standing.proofs.Voting.{all_that, numbered}
use Rattle.mdv_standing.proofs.Adopting.{finds}
use Rattle.mdv_standing.proofs.Looking.{looks}
use Rattle.mdv_look.proofs.Bringing.{count_cons}
use Rattle.mdv_store.proofs.Adoptions.{got_contains, same_identity_self}
use Rattle.mdv_store.proofs.Boots.{count_all}
use Rattle.mdv_store.proofs.Passes.{mapped}
use Rattle.mdv_store.proofs.Reading.{lies_at, seen_of}
use Rattle.mdv_store.proofs.Records.{spelled_of}
use Rattle.mdv_store.proofs.Rooms.{room_least}
use Rattle.mdv_store.proofs.Seating.{seats_places}
use Rattle.mdv_store.proofs.Shares.{in_first, in_last, list_none, list_suffices, lists_none, short_list}
use Rattle.mdv_store.proofs.Sitting.{contains_behind, contains_first, first_or_behind}
use Rattle.mdv_standing.proofs.Named.{line_found}
use Rattle.mdv_store_law.specs.Log.{Lives, Version, is_firm}
use Rattle.mdv_store.specs.Booting.{HasShown}
use Rattle.mdv_store.specs.Boot.{IsShort, is_seated, seat_for, seats_of}
use Rattle.mdv_store.specs.Opened.{least_room}
use Rattle.mdv_store.specs.Shares.{has_active, is_active_at, share_in, short_in, short_of, suffices}
use Rattle.mdv_store.specs.Text.{blocks_for}
use Rattle.mdv_replica.specs.Form.{text_of}
use Rattle.mdv_replica.specs.Replica.{slot_blocks}
use Rattle.mdv_survey.proofs.Newests.{below_more}
use Rattle.mdv_survey.specs.Choice.{IsChoiceAmong, IsNotEnough, IsTheOne, failing, is_found_at, is_of, is_read, is_there, needed_of, place_of, readable_of, same_identity, same_place}
use Rattle.mdv_survey.specs.declared.choosing.Choice.TheVariants as chosen
use Rattle.mdv_survey.specs.Newest.{HasTable, IsGreatest, IsMarked, IsTableIn}
use Rattle.mdv_survey.specs.Replica.{at_of}
use Rattle.mdv_survey.specs.Survey.{IsSurvey, IsSurveyOf, answers_in}
use Rattle.mdv_survey.specs.declared.replica.Newest.{Newest}
use Rattle.mdv_survey.specs.declared.replica.Survey.{Survey}
use Rattle.mdv_config.proofs.Testing.{same_place-true}
use Rattle.mdv_config.specs.Lists.{first_of, last_of, places_of}
use Rattle.mdv_config.specs.Table.{IsListsOf}
use Rattle.mdv_plan.specs.declared.lists.Lists.{Lists}
use Rattle.mdv_base.specs.DriveSet.{Drives}
use Rattle.mdv_base.specs.declared.drive.SliceName.{SliceName}
use Rattle.mdv_store.specs.declared.seats.Need.TheVariants.{More}
use Rattle.mdv_store.specs.declared.seats.Share.{Share}
use Rattle.mdv_databases.specs.Below.{Core, Database, Geometry, Identity, Image, Key, Log, One, Two, Place, Replica, Seat, Spells, Table, Tale, current_of, log_of, site_of, slice_at}
use Rattle.mdv_databases.specs.Booting.{AllAnswer, AllLive, IsShortOf}
use Rattle.mdv_databases.specs.Meeting.{ListsLieOn, MayBeFound, MostOn, answers_on, is_on}
use Rattle.mdv_databases.specs.Standing.{Stand}
use Rattle.mdv_databases.specs.Going.{IsCurrentOf}
use Rattle.mdv_databases.proofs.Booting.{shown_current}
use Rattle.mdv_databases.proofs.Lists.{current_in, current_key}
use Rattle.mdv_databases.proofs.Meeting.{Meets, all_lie, firm_found, firm_some, meets, opens, some_listed}

-- more than half of each list of a table lies on drives that pass the test
abbrev MostOnEach : Geometry → Key → (ℕ → Bool) → Lists → Type 0
MostOnEach g key up lists = MostOn g key up (first_of lists) × MostOn g key up (last_of lists)

-- it is one of the lists
abbrev pub IsOneOf : Lists → List Place → Type 0
IsOneOf lists list = (list ≡ first_of lists) ⊎ (list ≡ last_of lists)

-- the list that fails is one of them, and not more than half of it was found
pub failing_list : (rs : List Replica) (identity : Identity) (lists : Lists) (list : List Place) → failing rs identity lists ≡ Some list → IsOneOf lists list × (is_read rs identity list ≡ false)
failing_list rs identity lists list fails = by lists fails where
  one : (l : List Place) (b : Bool) → is_read rs identity l ≡ b → cond b None (Some l) ≡ Some list → (list ≡ l) × (is_read rs identity list ≡ false)
  one l true is fails = absurd (cc (fails))
  one l false is fails = (let same : list ≡ l = cc (fails) in (same, ap (is_read rs identity) same ∙ is))

  two : (old new : List Place) (b : Bool) → is_read rs identity old ≡ b → cond b (cond (is_read rs identity new) None (Some new)) (Some old) ≡ Some list → ((list ≡ old) ⊎ (list ≡ new)) × (is_read rs identity list ≡ false)
  two old new true is fails = (let found = one new (is_read rs identity new) refl fails in (inr found.0, found.1))
  two old new false is fails = (let same : list ≡ old = cc (fails) in (inl same, ap (is_read rs identity) same ∙ is))

  by : (of : Lists) → failing rs identity of ≡ Some list → IsOneOf of list × (is_read rs identity list ≡ false)
  by (One l) fails = (let found = one l (is_read rs identity l) refl fails in (inl found.0, found.1))
  by (Two old new) fails = two old new (is_read rs identity old) refl fails

-- where one passes the test, one is found
find_has : {X : Type 0} (p : X → Bool) (xs : List X) (x : X) → Contains xs x → p x ≡ true → (y : X) × (find p xs ≡ Some y)
find_has p [] x has is = absurd (omega (arith, has.1))
find_has p (y ∷ ys) x has is = by (p y) refl (λ behind. find_has p ys x behind is)
  where
    by : (b : Bool) → p y ≡ b → (Contains ys x → (z : _) × (find p ys ≡ Some z)) → (z : _) × (cond b (Some y) (find p ys) ≡ Some z)
    by true test rest = (y, refl)
    by false test rest = elim (first_or_behind y x ys has) [
      | inl here ↦ absurd (false≢true (sym test ∙ ap p here ∙ is))
      | inr behind ↦ rest behind
    ]

-- this replica may take the place
abbrev Takes : List Replica → Identity → ℕ → Place → Type 0
Takes rs identity text p = (r : Replica) × Contains rs r × (is_seated identity p text r ≡ true)

-- where each that passes the one test passes the other
pub count_weaker : {X : Type 0} (p q : X → Bool) (xs : List X) → ((x : X) → Contains xs x → p x ≡ true → q x ≡ true) → count_by p xs ≤ count_by q xs
count_weaker p q [] weaker = omega arith
count_weaker p q (x ∷ xs) weaker =
    let rest = count_weaker p q xs (λ y has. weaker y (contains_behind x y xs has)) in
    let one = by (p x) (q x) (weaker x (contains_first x xs)) in
    omega (arith, count_cons p x xs, count_cons q x xs, rest, one)
  where
    by : (a b : Bool) → (a ≡ true → b ≡ true) → cond {A = ℕ} a 1 0 ≤ cond {A = ℕ} b 1 0
    by true true so = omega arith
    by true false so = absurd (false≢true (so refl))
    by false b so = omega arith

pub live_or_gone : (o : Option Spot) (p : Spot) → o ≡ Some p → o ≡ None → ⊥
live_or_gone o p gone live = cc (gone, live)

module _ (g : Geometry) (all : List Database) (key : Key) (up : Drives) (survey : Survey) (t : Tale) (sound : IsSound g) (stand : Stand g all t) (is : IsSurvey (site_of g key) up survey) (of : IsSurveyOf g (site_of g key) up (last t) survey) where
  abbrev site : Site
  site = site_of g key

  abbrev rs : List Replica
  rs = survey.replicas

  -- the drive answers with the slice of the place
  abbrev answers : ℕ → Bool
  answers = answers_on up survey

  abbrev on : Place → Bool
  on place = is_on answers (slice_at site.lines place.slice)

  -- the newest table, and a replica that shows it
  module _ (newest : Newest) (newest_is : survey.newest ≡ Some newest) (replica : Replica) (the : IsTheOne rs newest replica) where
    abbrev here : Image
    here = last t

    abbrev identity : Identity
    identity = replica.head.master.identity

    same_one : (r : Replica) → slice_get rs newest.replica ≡ Some r → r ≡ replica
    same_one r is_r = cc (is_r, the.one_of)

    among : Contains rs replica
    among = got_contains rs newest.replica replica the.one_of

    own : IsOwn (Spells g) site identity replica.line replica.number here replica.first replica.head
    own = record { found = of.each replica among; of_identity = refl }

    marks : IsGreatest rs newest
    marks = subst (λ (o : Option Newest). IsMarked rs o) newest_is is.marked

    shows : SlotShows (Spells g) (at_of replica) (here replica.line.at.drive.0) replica.head newest.slot newest.mark newest.table
    shows =
        let table : IsTableIn g here rs newest = subst (λ (o : Option Newest). HasTable g here rs o) newest_is of.table in
        let there = subst (λ (r : Replica). SlotShows (Spells g) (at_of r) (here r.line.at.drive.0) r.head newest.slot newest.mark newest.table) (same_one table.replica table.one_of)
        (record { bytes = table.shows.bytes; gate = table.shows.gate; text = table.shows.text }) in
        there

    is_shown : HasShown g site identity t
    is_shown = record { replica = replica; found = own.found; its = same_identity_self identity; shown = opens replica.head newest.slot newest.mark shows.bytes shows.gate }

    its_record : IsRecordOf g (text_of (at_of replica) newest.slot shows.bytes (here replica.line.at.drive.0)) newest.table
    its_record = spelled_of g (text_of (at_of replica) newest.slot shows.bytes (here replica.line.at.drive.0)) newest.table sound shows.text

    abbrev places : List Place
    places = places_of newest.table.plan.lists

    abbrev text : ℕ
    text = blocks_for (record_bytes newest.table)

    abbrev seats : List Seat
    seats = seats_of rs identity text places

    -- it is of the key's current database, which isn't about to be deleted
    module _ (current : IsCurrentOf all key identity) (lives : current.database.log.fate ≡ Lives) where
      abbrev log : Log
      log = current.database.log

      world : (w : Core) × IsWorld (Spells g) site identity log w here
      world =
          let d = current.database in
          let has = (stand.worlds here (last_image t)).worlds d (current_in key all d current.current) in
          (has.0, subst (λ (i : Identity). IsWorld (Spells g) site i log has.0 here) current.as_begun (subst (λ (k : Key). IsWorld (Spells g) (site_of g k) d.identity log has.0 here) (current_key key all d current.current) has.1))

      -- a boot that reads this replica alone finds the table's version
      abbrev s : Seen
      s = seen_of replica

      owns : AreOwn (Spells g) site identity here (s ∷ [])
      owns x has = elim (first_or_behind s x [] has) [
        | inl same ↦ subst (λ (y : Seen). IsOwn (Spells g) site identity y.line y.number here y.first y.head) same own
        | inr none ↦ absurd (omega (arith, none.1))
      ]

      greatest : (o : Seen) (other : Slot) (m : Mark) (n : ℕ) → Contains (s ∷ []) o → gate_of o.head other ≡ Open m n → IsBelow newest.mark m → ⊥
      greatest o other m n has is_open below = elim (first_or_behind s o [] has) [
        | inl same ↦ marks.greatest replica among other m n (subst (λ (y : Seen). gate_of y.head other ≡ Open m n) (sym same) is_open) below
        | inr none ↦ absurd (omega (arith, none.1))
      ]

      chosen_one : IsChosen (s ∷ []) s newest.slot newest.mark
      chosen_one = record {
        one_of = contains_first s [];
        bytes = marks.bytes;
        gate = subst (λ (r : Replica). gate_of r.head newest.slot ≡ Open newest.mark marks.bytes) (same_one marks.replica marks.one_of) marks.gate;
        greatest = greatest;
      }

      look : Turned (Spells g) site identity log world.0 here (IsLook (spots_seen (s ∷ []))) (λ v. HaveRead (Spells g) site identity (tables_of log.family) v here (s ∷ []))
      look = looks (Spells g) site identity log world.0 here world.1 (s ∷ []) owns

      abbrev v : Core
      v = after_all world.0 look.events

      version : IsFoundVersion (Spells g) log here s newest.slot newest.mark
      version = finds (Spells g) site identity log v here look.world (s ∷ []) look.known s newest.slot newest.mark chosen_one

      same_table : version.version.table ≡ newest.table
      same_table = (shows_one (Spells g) (reads_one (read_of g)) (at_of replica) (here replica.line.at.drive.0) replica.head newest.slot newest.mark newest.mark version.version.table newest.table version.shows shows).1

      -- so each place that the log's tables list has its replica, as that one shows a table
      shut : IsShut v → ⊥
      shut (inr gone) = live_or_gone v.deleted gone.0 gone.1 (look.world.matches.there lives)
      shut (inl none) =
          let voted = chosen_voted (Spells g) site identity (tables_of log.family) v here (s ∷ []) look.known s newest.slot newest.mark chosen_one in
          none.none (spot_seen s) voted.number (record { holds = (look.world.shows.each replica.line replica.number replica.first replica.head own).holds; newest = voted.newest })

      listed : HavePlaces (Spells g) site identity log here
      listed = ⊎_elim (λ have. have) (λ none. absurd (shut none)) look.world.listed

      -- the version is one that a boot may find, where it reads more than half of the places of the firm table's first list
      module _ (f : ℕ) (firm : world.0.firm ≡ Some f) (most : MostOn g key answers (first_of (version_at log.family f).table.plan.lists)) where
        met : Meets g site identity log world.0 here world.1 f firm answers
        met = meets g site identity log world.0 here world.1 f firm answers most lives

        -- it shows no greater mark
        not_above : (m : Mark) → m ≡ (table_at world.0.family met.number).mark → IsBelow newest.mark m → ⊥
        not_above m is below = marks.greatest met.replica (of.all met.replica met.found met.on) met.slot (table_at world.0.family met.number).mark met.bytes met.gate (subst (λ (k : Mark). IsBelow newest.mark k) is below)

        not_older : (x : Version) → Contains log.family x → x.is_written ≡ true → IsBelow version.version.mark x.mark → ⊥
        not_older x has written below =
            let k = numbered site log world.0 world.1.reached world.1.matches x has in
            let other = world.1.matches.answered k.0 k.1 (ap (λ (y : Version). y.is_written) k.2 ∙ written) in
            let firms : other.0 ≡ f = some_is world.0.firm other.0 f other.1 firm in
            let over : IsBelow newest.mark (table_at world.0.family k.0).mark = subst (λ (m : Mark). IsBelow newest.mark m) (sym k.3) (subst (λ (m : Mark). IsBelow m x.mark) version.is.marked below) in
            let up_to = met.above in
            let at_most = other.2 in
            elim (cases_lt k.0 met.number) [
              | inl less ↦
                  not_above (table_at world.0.family met.number).mark refl
                  (below_more newest.mark (table_at world.0.family k.0).mark (table_at world.0.family met.number).mark over ((standing site world.0 world.1.reached).family.marks k.0 met.number less met.known))
              | inr more ↦ (let same : k.0 ≡ met.number = omega (arith, more, up_to, at_most, firms) in not_above (table_at world.0.family k.0).mark (ap (λ (n : ℕ). (table_at world.0.family n).mark) same) over)
            ]

        meets_newest : MayBeFound log.family version.version
        meets_newest = (version.is.one_of, all_that (λ x. x.is_written ≡ true → IsBelow version.version.mark x.mark → ⊥) log.family not_older)

      -- so it is where the drives of more than half of each list answered that a boot may find, or where no write was answered
      firm_or_not : (is_firm log ≡ true → (f : ℕ) × (world.0.firm ≡ Some f) × MostOn g key answers (first_of (version_at log.family f).table.plan.lists)) → MayBeFound log.family version.version
      firm_or_not firm = elim (cases_Bool (is_firm log)) [
        | inl is ↦ (let f = firm is in meets_newest f.0 f.1 f.2)
        | inr loose ↦ (
          version.is.one_of,
          all_that (λ x. x.is_written ≡ true → IsBelow version.version.mark x.mark → ⊥) log.family (λ x has written below. false≢true (sym loose ∙ written_firm log.family x has written)),
        )
      ]

      found_by_lists : ListsLieOn g key answers log.family → MayBeFound log.family version.version
      found_by_lists lie = firm_or_not (λ firm.
          let f = firm_some g site identity log world.0 here world.1 firm in
          (f.0, f.1, (lie (version_at log.family f.0) (firm_found g site identity log world.0 here world.1 f.0 f.1)).0))

      found_by_all : AllAnswer g key up survey → MayBeFound log.family version.version
      found_by_all answer = firm_or_not (λ firm.
          let f = firm_some g site identity log world.0 here world.1 firm in
          (f.0, f.1, all_most f.0 f.1))
        where
          all_most : (f : ℕ) (firm : world.0.firm ≡ Some f) → MostOn g key answers (first_of (version_at log.family f).table.plan.lists)
          all_most f firm =
              let list = first_of (version_at log.family f).table.plan.lists in
              let some = some_listed g site identity log world.0 here world.1 f firm in
              let each = count_all on list (λ p has. (
              let lies = all_lie g site identity log world.0 here world.1 f firm p has in
              ap (λ (name : SliceName). is_on answers (slice_at site.lines name)) lies.slice ∙ ap (is_on answers) (line_found g sound key lies.line lies.one_of) ∙ answer lies.line lies.one_of)) in
              omega (arith, each, some)

      -- so each place that it lists has its replica
      module _ (may : MayBeFound log.family version.version) where
        place_found : (p : Place) → Contains (places_of newest.table.plan.lists) p → HasPlace (Spells g) site identity here p
        place_found p has = listed version.version p may.0 may.1 (subst (λ (u : Table). Contains (places_of u.plan.lists) p) (sym same_table) has)

        most_on_newest : ListsLieOn g key answers log.family → MostOnEach g key answers newest.table.plan.lists
        most_on_newest lie = subst (λ (u : Table). MostOnEach g key answers u.plan.lists) same_table (lie version.version may)

      -- each place that it lists has its replica
      module _ (its_place : (p : Place) → Contains (places_of newest.table.plan.lists) p → HasPlace (Spells g) site identity here p) where
        drive_of : (p : Place) (h : HasPlace (Spells g) site identity here p) → on p ≡ answers_in up survey.failed h.line.at.drive
        drive_of p h = ap (λ (q : Place). on q) h.is ∙ ap (is_on answers) (line_found g sound key h.line h.own.found.one_of)

        -- and a boot finds it there, where the drive answers
        record IsThere (p : Place) : Type 0 where
          replica_there : Replica
          found : Contains rs replica_there
          its : is_of identity replica_there ≡ true
          lies : place_of replica_there ≡ p
          long : replica_there.first.blocks ≡ p.blocks

        there : (p : Place) → Contains (places_of newest.table.plan.lists) p → on p ≡ true → IsThere p
        there p has up_there =
            let h = its_place p has in
            let r : Replica = record { line = h.line; number = h.number; first = h.first; head = h.head } in
            let in_rs = of.all r h.own.found (sym (drive_of p h) ∙ up_there) in
            record {
              replica_there = r;
              found = in_rs;
              its = subst (λ (i : Identity). same_identity i identity ≡ true) (sym h.own.of_identity) (same_identity_self identity);
              lies = lies_at site r (is.each r in_rs).seated ∙ sym h.is;
              long = ap (λ (q : Place). q.blocks) (sym h.is);
            }

        found_at : (p : Place) → Contains places p → on p ≡ true → is_found_at rs identity p ≡ true
        found_at p has up_there =
            let x = there p has up_there in
            list_any_at (is_there identity p) rs x.found.0 x.replica_there x.found.1
            (ap (is_there identity p) x.found.2 ∙ and_from (is_of identity x.replica_there) (same_place (place_of x.replica_there) p) x.its ((same_place-true (place_of x.replica_there) p).1 x.lies))

        -- each place has room for the text
        fits : (p : Place) → Contains places p → text ≤ slot_blocks p.blocks
        fits p has =
            let least = room_least seats (seat_for rs identity text p) (mapped (seat_for rs identity text) places p has) in
            let room = ap least_room (seats_places rs identity text places) in
            let in_room = its_record.in_room in
            let bytes = length-record_text newest.table in
            omega (arith, least, room, in_room, bytes)

        seated : (p : Place) → Contains places p → on p ≡ true → Takes rs identity text p
        seated p has up_there =
            let x = there p has up_there in (
              x.replica_there,
              x.found,
              and_from (is_of identity x.replica_there) (same_place (place_of x.replica_there) p && nat_le text (slot_blocks x.replica_there.first.blocks)) x.its
                  (and_from (same_place (place_of x.replica_there) p) (nat_le text (slot_blocks x.replica_there.first.blocks)) ((same_place-true (place_of x.replica_there) p).1 x.lies)
                  (subst (λ (n : ℕ). nat_le text (slot_blocks n) ≡ true) (sym x.long) (le-leb text (slot_blocks p.blocks) (fits p has)))),
            )

        -- so more than half of the places of each list are enough
        read_so : (list : List Place) → ((p : Place) → Contains list p → Contains places p) → MostOn g key answers list → is_read rs identity list ≡ true
        read_so list within most =
            let least = count_weaker on (is_found_at rs identity) list (λ p has. found_at p (within p has)) in
            lt-ltb (length list) (2 * readable_of rs identity list) (omega (arith, least, most))

        none_fails : (lists : Lists) → ((p : Place) → Contains (places_of lists) p → Contains places p) → MostOnEach g key answers lists → failing rs identity lists ≡ None
        none_fails (One list) within most = cond-true (is_read rs identity list) None (Some list) (read_so list within most.0)
        none_fails (Two old new) within most =
            cond-true (is_read rs identity old) (cond (is_read rs identity new) None (Some new)) (Some old) (read_so old (λ p has. within p (in_first (Two old new) p has)) most.0)
            ∙ cond-true (is_read rs identity new) None (Some new) (read_so new (λ p has. within p (in_last (Two old new) p has)) most.1)

        fails_nowhere : MostOnEach g key answers newest.table.plan.lists → (list : List Place) → failing rs identity newest.table.plan.lists ≡ Some list → ⊥
        fails_nowhere most list fails = (let none = none_fails newest.table.plan.lists (λ p has. has) most in cc (fails, none))

        -- and of none too few are active
        active_there : (p : Place) → Contains places p → on p ≡ true → has_active seats p ≡ true
        active_there p has up_there =
            let one = seated p has up_there in
            let found = find_has (is_seated identity p text) rs one.0 one.1 one.2 in
            let seat = mapped (seat_for rs identity text) places p has in
            let active = and_from (same_place p p) (is_some (find (is_seated identity p text) rs)) ((same_place-true p p).1 refl) (ap is_some found.1) in
            list_any_at (is_active_at p) seats seat.0 (seat_for rs identity text p) seat.1 (ap (is_active_at p) seat.2 ∙ active)

        list_has_room : (list : List Place) → ((p : Place) → Contains list p → Contains places p) → MostOn g key answers list → short_in More seats list ≡ None
        list_has_room list within most =
            let least = count_weaker on (has_active seats) list (λ p has. active_there p (within p has)) in
            list_none More seats list (lt-ltb (length list) (2 * count_by (has_active seats) list) (omega (arith, least, most)))

        has_room : MostOnEach g key answers newest.table.plan.lists → (share : Share) → short_of More seats newest.table.plan.lists ≡ Some share → ⊥
        has_room most share short = by newest.table.plan.lists (λ p has. has) most short where
          by : (lists : Lists) → ((p : Place) → Contains (places_of lists) p → Contains places p) → MostOnEach g key answers lists → short_of More seats lists ≡ Some share → ⊥
          by (One list) within most short = (let none = list_has_room list within most.0 in cc (none, short))
          by (Two old new) within most short =
              let first = list_has_room old (λ p has. within p (in_first (Two old new) p has)) most.0 in
              let last = list_has_room new (λ p has. within p (in_last (Two old new) p has)) most.1 in
              let none = lists_none More seats (Two old new) first last in
              cc (none, short)

        list_most : AllAnswer g key up survey → (list : List Place) → ((p : Place) → Contains list p → Contains places p) → 1 ≤ length list → MostOn g key answers list
        list_most all_answer list within some =
            let each = count_all on list (λ p has. (let h = its_place p (within p has) in drive_of p h ∙ all_answer h.line h.own.found.one_of)) in
            omega (arith, each, some)

        in_list : (list : List Place) → IsOneOf newest.table.plan.lists list → (p : Place) → Contains list p → Contains places p
        in_list list (inl is) p has = in_first newest.table.plan.lists p (subst (λ (l : List Place). Contains l p) is has)
        in_list list (inr is) p has = in_last newest.table.plan.lists p (subst (λ (l : List Place). Contains l p) is has)

        some_listed_in : (list : List Place) → IsOneOf newest.table.plan.lists list → 1 ≤ length list
        some_listed_in list one_of = by newest.table.plan.lists its_record.of_geometry.lists one_of where
          by : (lists : Lists) → IsListsOf g lists → IsOneOf lists list → 1 ≤ length list
          by (One l) are (inl is) = omega (arith, are.some, ap length is)
          by (One l) are (inr is) = omega (arith, are.some, ap length is)
          by (Two old new) are (inl is) = omega (arith, are.0.some, ap length is)
          by (Two old new) are (inr is) = omega (arith, are.1.some, ap length is)

        -- so no list of it is short of which more than half lie on drives that answer, nor one at all where all do
        list_answers : AllAnswer g key up survey → (list : List Place) → IsOneOf newest.table.plan.lists list → MostOn g key answers list
        list_answers answer list one_of = list_most answer list (in_list list one_of) (some_listed_in list one_of)

        list_read : (list : List Place) → IsOneOf newest.table.plan.lists list → MostOn g key answers list → is_read rs identity list ≡ true
        list_read list one_of most = read_so list (in_list list one_of) most

        list_roomy : (list : List Place) → IsOneOf newest.table.plan.lists list → MostOn g key answers list → suffices More (share_in seats list) ≡ true
        list_roomy list one_of most = list_suffices More seats list (list_has_room list (in_list list one_of) most)

      -- the boot is short of this list
      module _ (needed : ℕ) (list : List Place) (one_of : IsOneOf newest.table.plan.lists list) (needed_is : needed ≡ needed_of list) (short : MayBeFound log.family version.version → MostOn g key answers list → ⊥) where
        of_list : MostOnEach g key answers newest.table.plan.lists → MostOn g key answers list
        of_list most = elim one_of [ inl is ↦ subst (MostOn g key answers) (sym is) most.0 | inr is ↦ subst (MostOn g key answers) (sym is) most.1 ]

        same_log : log_of all key ≡ log
        same_log = ap log_in current.current

        never_lie : ListsLieOn g key answers log.family → ⊥
        never_lie lie = (let may = found_by_lists lie in short may (of_list (most_on_newest may lie)))

        never_all : AllAnswer g key up survey → ⊥
        never_all answer = (let may = found_by_all answer in short may (list_answers (place_found may) answer list one_of))

        is_short_of : IsShortOf g all key up survey needed
        is_short_of = record {
          newest = newest;
          newest_is = newest_is;
          version = version.version;
          one_of = subst (λ (l : Log). Contains l.family version.version) (sym same_log) version.is.one_of;
          same = same_table;
          list = list;
          list_is = one_of;
          few = subst (λ (l : Log). MayBeFound l.family version.version → MostOn g key answers list → ⊥) (sym same_log) short;
          some = subst (λ (l : Log). ListsLieOn g key answers l.family → ⊥) (sym same_log) never_lie;
          needed_is = needed_is;
          away = never_all;
        }

      failing_short : (readable needed : ℕ) → IsNotEnough rs newest readable needed → IsShortOf g all key up survey needed
      failing_short readable needed is =
          let its : identity ≡ is.replica.head.master.identity = ap (λ (r : Replica). r.head.master.identity) (some_is (slice_get rs newest.replica) replica is.replica the.one_of is.the.one_of) in
          let one = failing_list rs identity newest.table.plan.lists is.list (subst (λ (i : Identity). failing rs i newest.table.plan.lists ≡ Some is.list) (sym its) is.fails) in
          is_short_of needed is.list one.0 is.needed_is (λ may most. false≢true (sym one.1 ∙ list_read (place_found may) is.list one.0 most))

      room_short : (needed : ℕ) (share : Share) → short_of More seats newest.table.plan.lists ≡ Some share → needed ≡ share.listed / 2 + 1 → IsShortOf g all key up survey needed
      room_short needed share short needed_is =
          let one = short_list More seats newest.table.plan.lists share short in
          is_short_of needed one.0 one.1 (needed_is ∙ ap (λ (s : Share). s.listed / 2 + 1) one.2) (λ may most. false≢true (sym one.3 ∙ ap (suffices More) one.2 ∙ list_roomy (place_found may) one.0 one.1 most))

  -- As long as none of the key's databases was about to be deleted the newest table is one of the current one.
  module _ (alive : AllLive all key) where
    module _ (newest : Newest) (newest_is : survey.newest ≡ Some newest) (replica : Replica) (the : IsTheOne rs newest replica) where
      its_current : IsCurrentOf all key (identity newest newest_is replica the)
      its_current = elim (shown_current g all key (identity newest newest_is replica the) t stand (is_shown newest newest_is replica the)) [
        | inl its ↦ its
        | inr was ↦ absurd (lives_there was.database.log.fate (alive was.database was.one_of was.of_key) was.gone)
      ]

      its_lives : its_current.database.log.fate ≡ Lives
      its_lives = alive its_current.database (current_in key all its_current.database its_current.current) (current_key key all its_current.database its_current.current)

      not_enough : (readable needed : ℕ) → IsNotEnough rs newest readable needed → IsShortOf g all key up survey needed
      not_enough = failing_short newest newest_is replica the its_current its_lives

      no_room : (needed : ℕ) (share : Share) → short_of More (seats newest newest_is replica the) newest.table.plan.lists ≡ Some share → needed ≡ share.listed / 2 + 1 → IsShortOf g all key up survey needed
      no_room = room_short newest newest_is replica the its_current its_lives

    not_few : (o : Option Newest) → survey.newest ≡ o → (readable needed : ℕ) → MatchOption o (chosen.NoQuorum readable needed ≡ chosen.Empty) (λ (n : Newest). IsChoiceAmong rs n (chosen.NoQuorum readable needed)) → IsShortOf g all key up survey needed
    not_few None is_newest readable needed never = absurd (cc (never))
    not_few (Some newest) is_newest readable needed few = not_enough newest is_newest few.replica few.the readable needed few

    -- so a boot is short of a list of it
    pub short_by : (readable needed : ℕ) → IsShort survey readable needed → IsShortOf g all key up survey needed
    short_by readable needed (inl choice) = not_few survey.newest refl readable needed choice
    short_by readable needed (inr (was, newest, replica, listed_seats, hand, share, short, readable_is, needed_is)) =
        no_room newest hand.newest_is replica hand.the needed share (subst (λ (l : List Seat). short_of More l newest.table.plan.lists ≡ Some share) hand.seats_are short) needed_is

  -- Nor is it short where more than half of each list answers that a boot may find of the current one, as long as that isn't about to be deleted.
  module _ (lives : (log_of all key).fate ≡ Lives) (firm : is_firm (log_of all key) ≡ true) (most : ListsLieOn g key answers (log_of all key).family) where
    current_one : (d : Database) × (current_of all key ≡ Some d)
    current_one = by (current_of all key) refl firm
      where
        by : (o : Option Database) → current_of all key ≡ o → is_firm (log_in o) ≡ true → (d : Database) × (current_of all key ≡ Some d)
        by None none firm_in = absurd (false≢true firm_in)
        by (Some d) is firm_in = (d, is)

    abbrev d : Database
    d = current_one.0

    same_log_of : log_of all key ≡ d.log
    same_log_of = ap log_in current_one.1

    d_world : (w : Core) × IsWorld (Spells g) site d.identity d.log w (last t)
    d_world =
        let has = (stand.worlds (last t) (last_image t)).worlds d (current_in key all d current_one.1) in
        (has.0, subst (λ (k : Key). IsWorld (Spells g) (site_of g k) d.identity d.log has.0 (last t)) (current_key key all d current_one.1) has.1)

    d_lives : d.log.fate ≡ Lives
    d_lives = subst (λ (l : Log). l.fate ≡ Lives) same_log_of lives

    d_firm : is_firm d.log ≡ true
    d_firm = subst (λ (l : Log). is_firm l ≡ true) same_log_of firm

    d_most : ListsLieOn g key answers d.log.family
    d_most = subst (λ (l : Log). ListsLieOn g key answers l.family) same_log_of most

    its_firm : (f : ℕ) × (d_world.0.firm ≡ Some f)
    its_firm = firm_some g site d.identity d.log d_world.0 (last t) d_world.1 d_firm

    -- a replica of it that shows a table is found, so the newest table is its one
    meeting : Meets g site d.identity d.log d_world.0 (last t) d_world.1 its_firm.0 its_firm.1 answers
    meeting =
        meets g site d.identity d.log d_world.0 (last t) d_world.1 its_firm.0 its_firm.1 answers (d_most (version_at d.log.family its_firm.0) (firm_found g site d.identity d.log d_world.0 (last t) d_world.1 its_firm.0 its_firm.1)).0 d_lives

    module _ (newest : Newest) (newest_is : survey.newest ≡ Some newest) (replica : Replica) (the : IsTheOne rs newest replica) where
      is_current_one : IsCurrentOf all key (identity newest newest_is replica the)
      is_current_one = record {
        database = d;
        current = current_one.1;
        as_begun = sym meeting.its ∙ the.one meeting.replica (of.all meeting.replica meeting.found meeting.on) (opens meeting.replica.head meeting.slot _ meeting.bytes meeting.gate);
      }

      places_there : (p : Place) → Contains (places_of newest.table.plan.lists) p → HasPlace (Spells g) site (identity newest newest_is replica the) (last t) p
      unfolding is_current_one
      places_there = place_found newest newest_is replica the is_current_one d_lives (found_by_lists newest newest_is replica the is_current_one d_lives d_most)

      most_read : MostOnEach g key answers newest.table.plan.lists
      unfolding is_current_one
      most_read = most_on_newest newest newest_is replica the is_current_one d_lives (found_by_lists newest newest_is replica the is_current_one d_lives d_most) d_most

      none_fail : (fails : List Place) → failing rs (identity newest newest_is replica the) newest.table.plan.lists ≡ Some fails → ⊥
      unfolding is_current_one
      none_fail = fails_nowhere newest newest_is replica the is_current_one d_lives places_there most_read

      none_full : (share : Share) → short_of More (seats_of rs (identity newest newest_is replica the) (blocks_for (record_bytes newest.table)) (places_of newest.table.plan.lists)) newest.table.plan.lists ≡ Some share → ⊥
      unfolding is_current_one
      none_full = has_room newest newest_is replica the is_current_one d_lives places_there most_read

    few_never : (o : Option Newest) → survey.newest ≡ o → (readable needed : ℕ) → MatchOption o (chosen.NoQuorum readable needed ≡ chosen.Empty) (λ (n : Newest). IsChoiceAmong rs n (chosen.NoQuorum readable needed)) → ⊥
    few_never None is_newest readable needed never = cc (never)
    few_never (Some newest) is_newest readable needed few = none_fail newest is_newest few.replica few.the few.list few.fails

    pub never_short : (readable needed : ℕ) → IsShort survey readable needed → ⊥
    never_short readable needed (inl choice) = few_never survey.newest refl readable needed choice
    never_short readable needed (inr (was, newest, replica, listed_seats, hand, share, short, readable_is, needed_is)) =
        none_full newest hand.newest_is replica hand.the share (subst (λ (l : List Seat). short_of More l newest.table.plan.lists ≡ Some share) hand.seats_are short)
