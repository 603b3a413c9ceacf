-- Which table a boot may adopt, by what it read: one that a boot may find by the history with which the drives stand.
use Rattle.std.proofs.Common.{◌≡◌, ℕ, ◌+◌, ◌<◌, ◌^◌, Bool, true, List, [], ◌∷◌, length, Option, Some, None, Contains, refl, sym, ◌∙◌, ap, subst, arith, inl, inr, ⊎_elim, false, not, ◌&&◌, ◌≤◌, replicate}
use Rattle.std.specs.List.{find}
use Rattle.std.specs.Prelude.{nat_le}
use Rattle.std.proofs.lemmas.Bool.{and_from, false≢true, le-leb}
use Rattle.std.proofs.lemmas.List.{length-map, length-replicate}
use Rattle.mdv_base.specs.declared.block.TheConstants.{ZERO_BLOCK}
use Rattle.mdv_encoding.specs.Record.{IsRecordOf}
use Rattle.mdv_encoding.proofs.Rooms.{room_most}
use Rattle.mdv_base.specs.DriveSet.{Drives, has_drive}
use Rattle.mdv_base.specs.declared.drive.DriveNo.{DriveNo}
use Rattle.mdv_base.specs.declared.drive.SliceName.{SliceName}
use Rattle.mdv_base.specs.declared.mark.Identity.{Identity}
use Rattle.mdv_base.specs.declared.mark.Mark.{Mark}
use Rattle.mdv_base.specs.declared.name.Key.{Key}
use Rattle.mdv_base.specs.declared.place.Place.{Place}
use Rattle.mdv_databases.specs.Going.{IsCurrentOf}
use Rattle.mdv_databases.specs.Meeting.{is_on}
use Rattle.mdv_databases.specs.Booting.{IsGoneOf, MeetsStale}
use Rattle.mdv_databases.specs.Standing.{Stand}
use Rattle.mdv_databases.proofs.Booting.{shown_current}
use Rattle.mdv_databases.proofs.Lists.{current_in, current_key}
use Rattle.mdv_name.specs.SliceIndex.{slice_at}
use Rattle.mdv_name.specs.Sound.{IsSound}
use Rattle.mdv_name.specs.declared.geometry.Geometry.{Geometry}
use Rattle.mdv_quorum.specs.World.{after_all}
use Rattle.mdv_quorum.specs.declared.machine.Core.{Core}
use Rattle.mdv_replica.specs.Form.{shows}
use Rattle.mdv_replica.specs.Replica.{slot_blocks}
use Rattle.mdv_encoding.proofs.Lengths.{length-record_text}
use Rattle.mdv_shelf.specs.Everywhere.{Image}
use Rattle.mdv_shelf.specs.Settle.{IsSynced}
use Rattle.mdv_shelf.specs.Tale.{MayLeave, Tale, last, values, IsImage}
use Rattle.mdv_shelf.proofs.Everywhere.{last_image}
use Rattle.mdv_shown.specs.Choice.{HaveRead, IsChosen, greatest_seen, spot_seen, spots_seen}
use Rattle.mdv_shown.proofs.Choice.{chosen_voted}
use Rattle.mdv_shown.specs.Site.{place_on}
use Rattle.mdv_shown.specs.declared.site.Site.{Site}
use Rattle.mdv_shown.specs.Sites.{site_of}
use Rattle.mdv_shown.proofs.Sites.{site_is}
use Rattle.mdv_shown.proofs.Slots.{reads_one, shows_one}
use Rattle.mdv_standing.specs.Databases.{Database, log_in, log_of}
use Rattle.mdv_standing.specs.Laws.{FoundHolds}
use Rattle.mdv_standing.specs.Adopting.{IsLook}
use Rattle.mdv_standing.specs.Listed.{HasPlace, HavePlaces}
use Rattle.mdv_standing.specs.Matching.{spots_of, tables_of}
use Rattle.mdv_standing.specs.Worlds.{IsWorld, Turned}
use Rattle.mdv_standing.proofs.Adopting.{finds}
use Rattle.mdv_standing.proofs.Over.{none_here}
use Rattle.mdv_standing.proofs.Lawful.{found_holds}
use Rattle.mdv_standing.specs.Matching.{HasStaleVote}
use Rattle.mdv_databases.proofs.Finding.{live_or_gone}
use Rattle.mdv_standing.proofs.Looking.{looks}
use Rattle.mdv_store.specs.Adopting.{AreJustOn, WasReadOf}
use Rattle.mdv_store.specs.Booting.{WasReadOn}
use Rattle.mdv_store.specs.Boot.{IsDrawn, IsWrittenTo, greatest_number, is_seated, seat_for, seats_of}
use Rattle.mdv_store.specs.Opened.{least_room}
use Rattle.mdv_store.specs.Progress.{Claimed, Progress}
use Rattle.mdv_store.specs.Records.{Spells}
use Rattle.mdv_store.specs.Taking.{IsToAdopt, room_of}
use Rattle.mdv_store.specs.Text.{blocks_for}
use Rattle.mdv_store.proofs.Adoptions.{got_contains, same_identity_self}
use Rattle.mdv_store.specs.Taking.{IsHandOf}
use Rattle.mdv_store.proofs.Passes.{mapped, unmapped}
use Rattle.mdv_store.proofs.Reading.{lies_at, read_on, seated_place, to_adopt}
use Rattle.mdv_store.proofs.Records.{spelled_of}
use Rattle.mdv_store.proofs.Rooms.{room_least}
use Rattle.mdv_store.proofs.Seating.{seats_places}
use Rattle.mdv_standing.proofs.Named.{line_found}
use Rattle.mdv_store_law.specs.Laws.{restarted}
use Rattle.mdv_store_law.specs.Log.{IsNotOlder, Lives, Log, Version}
use Rattle.mdv_survey.specs.Choice.{is_of, place_of, same_identity}
use Rattle.mdv_survey.proofs.Identities.{find_none, find_some}
use Rattle.mdv_survey.specs.Newest.{HasTable, IsGreatest, IsMarked, IsTableIn}
use Rattle.mdv_survey.specs.Replica.{Contents, IsFoundIn}
use Rattle.mdv_survey.specs.Survey.{IsSurvey, IsSurveyOf, answers_in}
use Rattle.mdv_survey.specs.declared.replica.Newest.{Newest}
use Rattle.mdv_survey.specs.declared.replica.Replica.{Replica}
use Rattle.mdv_survey.specs.declared.replica.Survey.{Survey}
use Rattle.mdv_encoding.specs.Text.{record_bytes}
use Rattle.mdv_config.proofs.Testing.{same_place-true}
use Rattle.mdv_config.specs.Lists.{same_place}
use Rattle.mdv_config.specs.Lists.{last_of, places_of}
use Rattle.mdv_store.specs.Settled.{again_of, first_room}
use Rattle.mdv_config.specs.Table.{IsListsOf, IsOfGeometry}
use Rattle.mdv_plan.specs.declared.lists.Lists.{Lists}
use Rattle.mdv_plan.specs.declared.lists.Lists.TheVariants.{One, Two}
use Rattle.mdv_plan.specs.declared.table.Table.{Table}
use Rattle.mdv_store.specs.declared.seats.Seat.{Seat}
use Rattle.mdv_name.specs.declared.slice_lines.SliceLine.{SliceLine}
use Rattle.mdv_votes.specs.Spots.{covers, is_in, is_majority}
use Rattle.mdv_encoding.specs.Parsing.{read_of}
use Rattle.mdv_store.specs.Shares.{short_of}
use Rattle.mdv_store.specs.declared.seats.Need.TheVariants.{More}
use Rattle.mdv_config.proofs.Listed.{listed_few}
use Rattle.mdv_theorem.proofs.Adopted.{open_shows}

answering : (a b : Bool) → a ≡ true → b ≡ false → (a && not b) ≡ true
answering a b one two = λ i. one i && not (two i)

-- where one passes the test, one is found
module _ {X : Type 0} (p : X → Bool) (xs : List X) where
  found_one : (x : X) → Contains xs x → p x ≡ true → (y : X) × (find p xs ≡ Some y) × Contains xs y × (p y ≡ true)
  found_one x has is = by (find p xs) refl where
    by : (o : Option X) → find p xs ≡ o → (y : X) × (find p xs ≡ Some y) × Contains xs y × (p y ≡ true)
    by None none = absurd (false≢true (sym (find_none p xs none x has.0 has.1 has.2) ∙ is))
    by (Some y) some = (let one = find_some p xs y some in (y, some, one.0, one.1))

-- drives that begin with an image read as it, and no crash leaves anything else
begun_last : (image : Image) (told : List ℕ) → last (restarted image told) ≡ image
unfolding last
begun_last image told = refl

begun_synced : (image : Image) (told : List ℕ) (drive : ℕ) → IsSynced drive (restarted image told)
unfolding MayLeave values last
begun_synced image told drive block x (inl is) = is
begun_synced image told drive block x (inr none) = absurd none

-- a slot of the first place has no more blocks than these
first_short : (places : List Place) → first_room places ≤ 4094
first_short [] = omega arith
first_short (p ∷ places) = omega arith

again_few : (g : Geometry) (lists : Lists) → IsListsOf g lists → length (again_of lists) ≤ 50
again_few g (One places) is = omega arith
again_few g (Two old new) is = is.1.few

-- The newest table of a survey may be adopted: it is in hand, with more than half of its places, under a number in its limit.
pub record IsAdoptable (survey : Survey) (newest : Newest) : Type 0 where
  pub replica : Replica
  pub seats : List Seat
  pub number : ℕ
  pub drawn : IsDrawn survey newest replica seats number
  pub written : IsWrittenTo (λ hand of progress. Unit {0}) newest replica seats number (Claimed [])

-- on none of the drives that answered a call failed
abbrev pub HaveNoneFailed : Drives → Survey → Type 0
HaveNoneFailed calm survey = (drive : DriveNo) → has_drive calm drive ≡ true → has_drive survey.failed drive ≡ false

-- what a boot has drawn and written it might adopt
abbrev pub adoptable : (Wrote : _) (survey : Survey) (newest : Newest) (replica : Replica) (seats : List Seat) (number : ℕ) (progress : Progress) → IsDrawn survey newest replica seats number → IsWrittenTo Wrote newest replica seats number progress → IsAdoptable survey newest
adoptable Wrote survey newest replica seats number progress drawn written = record {
  replica = replica;
  seats = seats;
  number = number;
  drawn = drawn;
  written = record { hand = written.hand; identity_is = written.identity_is; number_is = written.number_is; seats_are = written.seats_are; wrote = tt };
}

-- the replica of the newest table shows one
adoptable_shows : (site : Site) (calm : Drives) (survey : Survey) (newest : Newest) → IsSurvey site calm survey → (a : IsAdoptable survey newest) → shows a.replica.head ≡ true
adoptable_shows site calm survey newest is a =
    let marks = subst (IsMarked survey.replicas) a.drawn.hand.newest_is is.marked in
    let both : Some marks.replica ≡ Some a.replica = sym marks.one_of ∙ a.drawn.hand.the.one_of in
    let one : marks.replica ≡ a.replica = cc (both) in
    ap (λ (r : Replica). shows r.head) (sym one) ∙ open_shows marks.replica.head newest.slot newest.mark marks.bytes marks.gate

-- a version of a log has the table, and a boot may find it
pub record IsNewestBy (g : Geometry) (log : Log) (table : Table) : Type 0 where
  pub version : Version
  pub one_of : Contains log.family version
  pub number : ℕ
  pub holds : FoundHolds g log version number
  pub is_table : version.table ≡ table

module _ (g : Geometry) (key : Key) (all : List Database) (t : Tale) (sound : IsSound g) (stand : Stand g all t) (lives : (log_of all key).fate ≡ Lives) (calm : Drives) (fair : MeetsStale calm g all key (last t) → ⊥) (survey : Survey) (survey_is : IsSurvey (site_of g key) calm survey)
    (of : IsSurveyOf g (site_of g key) calm (last t) survey) (none : HaveNoneFailed calm survey) (newest : Newest) (a : IsAdoptable survey newest) where
  abbrev site : Site
  site = site_of g key

  abbrev replicas : List Replica
  replicas = survey.replicas

  abbrev text : ℕ
  text = blocks_for (record_bytes newest.table)

  -- drives that hold just what was read
  abbrev began : Tale
  began = restarted (last t) []

  marks : IsGreatest replicas newest
  marks = subst (IsMarked replicas) a.drawn.hand.newest_is survey_is.marked

  table_in : IsTableIn g (last t) replicas newest
  table_in = subst (HasTable g (last t) replicas) a.drawn.hand.newest_is of.table

  spelled : (bytes : List ℕ) × IsRecordOf g bytes newest.table
  spelled = (_, spelled_of g _ newest.table sound table_in.shows.text)

  of_geometry : IsOfGeometry g newest.table
  of_geometry = spelled.1.of_geometry

  abbrev room : ℕ
  room = room_of newest.table

  short : room < 2 ^ 63
  short = omega (arith, room_most (places_of newest.table.plan.lists), first_short (last_of newest.table.plan.lists), spelled.1.in_room)

  -- what the boot had in hand, with room for the text, is in order
  has_replica : Contains replicas a.replica
  has_replica = got_contains replicas newest.replica a.replica a.drawn.hand.the.one_of

  its : a.written.hand.identity ≡ a.replica.head.master.identity
  its = a.written.identity_is

  is_own : is_of a.written.hand.identity a.replica ≡ true
  is_own = subst (λ (i : Identity). same_identity a.replica.head.master.identity i ≡ true) (sym its) (same_identity_self a.replica.head.master.identity)

  was : WasReadOf g site replicas newest began
  was =
      let same = sym (begun_last (last t) []) in
      record {
        sound = sound;
        site_is = refl;
        each = λ r has. subst (λ (c : Contents). IsFoundIn g site c r) same (of.each r has);
        table = subst (λ (c : Contents). IsTableIn g c replicas newest) same table_in;
        synced = λ r has. begun_synced (last t) [] r.line.at.drive.0;
      }

  enough : short_of More a.written.hand.seats newest.table.plan.lists ≡ None
  enough = subst (λ (seats : List Seat). short_of More seats newest.table.plan.lists ≡ None) (sym a.written.seats_are) a.drawn.enough

  -- what is in hand, with room for the text
  held : IsHandOf replicas newest (record a.written.hand { next = seats_of replicas a.written.hand.identity text (again_of newest.table.plan.lists); room = record a.written.hand.room { len = room; cap = room; items = replicate room ZERO_BLOCK; ok = (sym (length-replicate room ZERO_BLOCK), omega arith); small = short } })
  held =
      let seats_are = a.written.seats_are ∙ a.drawn.hand.seats_are in
      record {
        replica = a.replica;
        one_of = a.drawn.hand.the.one_of;
        identity_is = its;
        number_is = a.written.number_is ∙ a.drawn.number_is ∙ ap (λ (i : Identity). greatest_number i replicas + 1) (sym its);
        seats_are = subst (λ (i : Identity). a.written.hand.seats ≡ seats_of replicas i text (places_of newest.table.plan.lists)) (sym its) seats_are;
        few = (let count = ap length seats_are ∙ length-map (places_of newest.table.plan.lists) (seat_for replicas a.replica.head.master.identity text) in let few = listed_few g newest.table.plan.lists of_geometry.lists in omega (arith, count, few));
        next_are = refl;
        next_few = (let count = length-map (again_of newest.table.plan.lists) (seat_for replicas a.written.hand.identity text) in let few = again_few g newest.table.plan.lists of_geometry.lists in omega (arith, count, few));
        room_is = refl;
      }

  to : IsToAdopt g key (record a.written.hand { next = seats_of replicas a.written.hand.identity text (again_of newest.table.plan.lists); room = record a.written.hand.room { len = room; cap = room; items = replicate room ZERO_BLOCK; ok = (sym (length-replicate room ZERO_BLOCK), omega arith); small = short } }) newest.table began
  to = to_adopt g key replicas newest (record a.written.hand { next = seats_of replicas a.written.hand.identity text (again_of newest.table.plan.lists); room = record a.written.hand.room { len = room; cap = room; items = replicate room ZERO_BLOCK; ok = (sym (length-replicate room ZERO_BLOCK), omega arith); small = short } }) held (λ r has. (survey_is.each r has).seated) enough marks began was a.replica a.drawn.hand.the.one_of has_replica is_own

  -- what was read is all that lies on the drives that answered
  just_on : AreJustOn g site calm replicas began
  just_on = record {
    on = λ r has. (survey_is.each r has).is_up;
    all = λ r found so. of.all r (subst (λ (c : Contents). IsFoundIn g site c r) (begun_last (last t) []) found) (answering (has_drive calm r.line.at.drive) (has_drive survey.failed r.line.at.drive) so (none r.line.at.drive so));
  }

  alone : (r : Replica) → Contains replicas r → shows r.head ≡ true → is_of a.written.hand.identity r ≡ true
  alone r has shown = subst (λ (i : Identity). same_identity r.head.master.identity i ≡ true) (a.drawn.hand.the.one r has shown ∙ sym its) (same_identity_self r.head.master.identity)

  read_there : WasReadOn calm g site a.written.hand.identity newest.table.plan.lists (last began) to.seen to.mark
  unfolding to
  read_there = read_on g key replicas newest (record a.written.hand { next = seats_of replicas a.written.hand.identity text (again_of newest.table.plan.lists); room = record a.written.hand.room { len = room; cap = room; items = replicate room ZERO_BLOCK; ok = (sym (length-replicate room ZERO_BLOCK), omega arith); small = short } }) held (λ r has. (survey_is.each r has).seated) enough marks began was a.replica a.drawn.hand.the.one_of has_replica is_own calm just_on (subst (λ (n : ℕ). n < 2 ^ 63) (sym a.written.number_is) a.drawn.small) alone

  -- where the drives hold this now
  read_now : (identity : Identity) → a.written.hand.identity ≡ identity → WasReadOn calm g site identity newest.table.plan.lists (last t) to.seen to.mark
  read_now identity same =
      subst (λ (c : Image). WasReadOn calm g site identity newest.table.plan.lists c to.seen to.mark) (begun_last (last t) []) (subst (λ (i : Identity). WasReadOn calm g site i newest.table.plan.lists (last began) to.seen to.mark) same read_there)

  never_stale_of : (other : Database) → Contains all other → other.key ≡ key → other.identity ≡ a.written.hand.identity → HasStaleVote site other.log to.seen to.mark → ⊥
  never_stale_of other one_of of_its_key same stale =
      fair (record { database = other; one_of = one_of; of_key = of_its_key; lists = newest.table.plan.lists; seen = to.seen; mark = to.mark; read = read_now other.identity (sym same); stale = stale })

  -- it wasn't deleted
  never_gone : IsGoneOf all key a.written.hand.identity → ⊥
  never_gone gone =
      let other = gone.database in
      let has = (stand.worlds (last t) (last_image t)).worlds other gone.one_of in
      let in_site = subst (λ (k : Key). IsWorld (Spells g) (site_of g k) other.identity other.log has.0 (last t)) gone.of_key has.1 in
      let read = read_now other.identity (sym gone.as_begun) in
      none_here (Spells g) site other.identity other.log g (reads_one (read_of g)) has.0 (last t) to.seen read.s read.slot to.mark read.table (site_is g key sound) (stand.logs other gone.one_of) gone.gone in_site read.own read.chosen read.shown
      (subst (λ (l : Lists). covers (is_majority (is_in (spots_seen to.seen))) (spots_of site l) ≡ true) (sym read.listed) read.quorum) (never_stale_of other gone.one_of gone.of_key gone.as_begun) read.small

  -- so the database is the key's current one
  current : IsCurrentOf all key a.written.hand.identity
  current = elim (shown_current g all key a.written.hand.identity t stand (record { replica = a.replica; found = of.each a.replica has_replica; its = is_own; shown = adoptable_shows site calm survey newest survey_is a })) [
    | inl its_current ↦ its_current
    | inr gone ↦ absurd (never_gone gone)
  ]

  abbrev d : Database
  d = current.database

  has_d : Contains all d
  has_d = current_in key all d current.current

  of_key : d.key ≡ key
  of_key = current_key key all d current.current

  same_log : log_of all key ≡ d.log
  same_log = ap log_in current.current

  d_lives : d.log.fate ≡ Lives
  d_lives = ap (λ (l : Log). l.fate) (sym same_log) ∙ lives

  world : (w : Core) × IsWorld (Spells g) site a.written.hand.identity d.log w (last t)
  world =
      let w = (stand.worlds (last t) (last_image t)).worlds d (current_in key all d current.current) in
      (w.0, subst (λ (i : Identity). IsWorld (Spells g) site i d.log w.0 (last t)) current.as_begun (subst (λ (k : Key). IsWorld (Spells g) (site_of g k) d.identity d.log w.0 (last t)) (current_key key all d current.current) w.1))

  abbrev image : Image
  image = last t

  is_image : IsImage began image
  is_image = subst (λ (i : Image). IsImage began i) (begun_last image []) (last_image began)

  -- what was read of it, where the drives stand with it
  look : Turned (Spells g) site a.written.hand.identity d.log world.0 image (IsLook (spots_seen to.seen)) (λ v. HaveRead (Spells g) site a.written.hand.identity (tables_of d.log.family) v image to.seen)
  look = looks (Spells g) site a.written.hand.identity d.log world.0 image world.1 to.seen (to.read.own image is_image)

  abbrev w : Core
  w = after_all world.0 look.events

  -- and the version of its log that has this mark is found
  pub adopted_found : IsNewestBy g (log_of all key) newest.table
  adopted_found =
      let read = to.read in
      let found = finds (Spells g) site a.written.hand.identity d.log w image look.world to.seen look.known to.s to.slot to.mark read.chosen in
      let v = found.version in
      let same : v.table ≡ newest.table =
      (shows_one (Spells g) (reads_one (read_of g)) (place_on to.s.line to.s.first.blocks to.s.first.count to.s.number) (image to.s.line.at.drive.0) to.s.head to.slot to.mark to.mark v.table newest.table found.shows (read.shows image is_image)).1 in
      let small : greatest_seen to.seen + 1 < 2 ^ 63 = subst (λ (n : ℕ). n < 2 ^ 63) (sym (a.written.number_is) ∙ to.number_is) a.drawn.small in
      let holds = found_holds (Spells g) g site a.written.hand.identity d.log w image to.seen to.s to.slot v (site_is g key sound) (stand.logs d (current_in key all d current.current)) look.world look.known
      (subst (λ (m : Mark). IsChosen to.seen to.s to.slot m) (sym found.is.marked) read.chosen) found.is.one_of
      (subst (λ (u : Table). covers (is_majority (is_in (spots_seen to.seen))) (spots_of site u.plan.lists) ≡ true) (sym same) read.quorum)
      (subst (λ (m : Mark). HasStaleVote site d.log to.seen m → ⊥) (sym found.is.marked) (never_stale_of d has_d of_key current.as_begun)) small in
      subst (λ (lg : Log). IsNewestBy g lg newest.table) (sym same_log) (record { version = v; one_of = found.is.one_of; number = greatest_seen to.seen + 1; holds = holds; is_table = same })

  -- each place that the table lists has its replica
  its_place : (p : Place) → Contains (places_of newest.table.plan.lists) p → HasPlace (Spells g) site a.written.hand.identity image p
  its_place p has =
      let found = adopted_found in
      let own = to.read.own image is_image to.s to.read.chosen.one_of in
      let voted = chosen_voted (Spells g) site a.written.hand.identity (tables_of d.log.family) w image to.seen look.known to.s to.slot to.mark to.read.chosen in
      let have : HavePlaces (Spells g) site a.written.hand.identity d.log image =
      ⊎_elim (λ have. have)
      (λ shut. absurd (⊎_elim (λ none. none.none (spot_seen to.s) voted.number (record { holds = (look.world.shows.each to.s.line to.s.number to.s.first to.s.head own).holds; newest = voted.newest }))
      (λ gone. live_or_gone _ gone.0 gone.1 (look.world.matches.there d_lives)) shut)) look.world.listed in
      have found.version p (subst (λ (lg : Log). Contains lg.family found.version) same_log found.one_of) (subst (λ (lg : Log). IsNotOlder found.version.mark lg.family) same_log found.holds.not_older) (subst (λ (u : Table). Contains (places_of u.plan.lists) p) (sym found.is_table) has)

  -- so each seat lies on a slice of the site
  pub seat_lies : (s : Seat) → Contains a.seats s → (line : SliceLine) × Contains site.lines line × (line.name ≡ s.place.slice)
  seat_lies s has =
      let at = unmapped (seat_for replicas a.replica.head.master.identity text) (places_of newest.table.plan.lists) s (subst (λ (l : List Seat). Contains l s) a.drawn.hand.seats_are has) in
      let h = its_place at.0 at.1 in
      (h.line, h.own.found.one_of, ap (λ (q : Place). q.slice) (sym h.is) ∙ ap (λ (x : Seat). x.place.slice) at.2)

  -- whose slots have room for the text
  fits : (p : Place) → Contains (places_of newest.table.plan.lists) p → text ≤ slot_blocks p.blocks
  fits p has =
      let places = places_of newest.table.plan.lists in
      let identity = a.replica.head.master.identity in
      let least = room_least (seats_of replicas identity text places) (seat_for replicas identity text p) (mapped (seat_for replicas identity text) places p has) in
      let room = ap least_room (seats_places replicas identity text places) in
      let bytes = length-record_text newest.table in
      omega (arith, least, room, spelled.1.in_room, bytes)

  -- So each such place has it in hand, if it lies on a drive that passes a test, and each of a slice's that passes it answers.
  module _ (on : ℕ → Bool) (answer : (line : SliceLine) → Contains site.lines line → on line.at.drive.0 ≡ true → answers_in calm survey.failed line.at.drive ≡ true) where
    abbrev on_place : Place → Bool
    on_place place = is_on on (slice_at site.lines place.slice)

    abbrev seated : Place → Replica → Bool
    seated p r = is_seated a.replica.head.master.identity p text r

    on_line : (line : SliceLine) (p : Place) → Contains site.lines line → line.name ≡ p.slice → on_place p ≡ on line.at.drive.0
    on_line line p has same = ap (λ (n : SliceName). is_on on (slice_at site.lines n)) (sym same) ∙ ap (is_on on) (line_found g sound key line has)

    there : (p : Place) → Contains (places_of newest.table.plan.lists) p → on_place p ≡ true → (r : Replica) × Contains replicas r × (seated p r ≡ true)
    there p has is =
        let h = its_place p has in
        let r : Replica = record { line = h.line; number = h.number; first = h.first; head = h.head } in
        let same : h.line.name ≡ p.slice = ap (λ (q : Place). q.slice) (sym h.is) in
        let found = of.all r h.own.found (answer h.line h.own.found.one_of (sym (on_line h.line p h.own.found.one_of same) ∙ is)) in
        let lies : place_of r ≡ p = lies_at site r (survey_is.each r found).seated ∙ sym h.is in
        let room = subst (λ (n : ℕ). nat_le text (slot_blocks n) ≡ true) (ap (λ (q : Place). q.blocks) h.is) (le-leb text (slot_blocks p.blocks) (fits p has)) in
        let of_it = subst (λ (i : Identity). same_identity i a.replica.head.master.identity ≡ true) (sym its ∙ sym h.own.of_identity) (same_identity_self a.replica.head.master.identity) in (
          r,
          found,
          and_from (is_of a.replica.head.master.identity r) (same_place (place_of r) p && nat_le text (slot_blocks r.first.blocks)) of_it
              (and_from (same_place (place_of r) p) (nat_le text (slot_blocks r.first.blocks)) ((same_place-true (place_of r) p).1 lies) room),
        )

    pub seat_has : (s : Seat) → Contains a.seats s → on_place s.place ≡ true → (r : Replica) × (s.replica ≡ Some r) × (on r.line.at.drive.0 ≡ true)
    seat_has s has is =
        let at = unmapped (seat_for replicas a.replica.head.master.identity text) (places_of newest.table.plan.lists) s (subst (λ (l : List Seat). Contains l s) a.drawn.hand.seats_are has) in
        let one = there at.0 at.1 (ap (λ (x : Seat). on_place x.place) at.2 ∙ is) in
        let found = found_one (seated at.0) replicas one.0 one.1 one.2 in
        let lies = seated_place site a.replica.head.master.identity at.0 text found.0 (survey_is.each found.0 found.2).seated found.3 in
        let drive = on_line found.0.line at.0 (of.each found.0 found.2).one_of (ap (λ (q : Place). q.slice) lies) in
        (found.0, ap (λ (x : Seat). x.replica) (sym at.2) ∙ found.1, sym drive ∙ ap (λ (x : Seat). on_place x.place) at.2 ∙ is)
