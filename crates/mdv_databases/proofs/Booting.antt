-- A boot among all databases.
use Rattle.std.proofs.Common.{◌≡◌, ◌⊎◌, inl, inr, true, false, List, [], Some, refl, sym, ◌∙◌, ap, subst}
use Rattle.std.proofs.lemmas.Bool.{cases_Bool, false≢true}
use Rattle.mdv_shelf.specs.Area.{nowhere}
use Rattle.mdv_shelf.specs.Tale.{last}
use Rattle.mdv_shelf.proofs.Everywhere.{everywhere_kept, last_image}
use Rattle.mdv_encoding.specs.Parsing.{read_of}
use Rattle.mdv_shown.proofs.Sites.{site_is}
use Rattle.mdv_shown.proofs.Slots.{reads_one}
use Rattle.mdv_shown.specs.Choice.{Seen, spots_seen}
use Rattle.mdv_shown.specs.declared.site.Site.{Site}
use Rattle.mdv_standing.specs.Below.{Mark, covers, is_in, is_majority}
use Rattle.mdv_standing.specs.Databases.{log_in}
use Rattle.mdv_standing.specs.Holding.{Holds, IsOneOf}
use Rattle.mdv_standing.specs.Laws.{ShowsNoTable}
use Rattle.mdv_standing.specs.Matching.{HasStaleVote, spots_of as lists_of_spots}
use Rattle.mdv_standing.specs.Others.{Anything}
use Rattle.mdv_standing.specs.Rest.{RestStands}
use Rattle.mdv_standing.specs.Tracing.{GoesTraced}
use Rattle.mdv_standing.specs.Worlds.{IsWorld}
use Rattle.mdv_standing.proofs.Holding.{rest_of}
use Rattle.mdv_standing.proofs.Over.{none_here}
use Rattle.mdv_standing.proofs.Stale.{stale_or_not}
use Rattle.mdv_standing.proofs.Tracing.{covers_anything}
use Rattle.mdv_standing.proofs.Voting.{none_stale}
use Rattle.mdv_store_law.proofs.Anew.{none_again}
use Rattle.mdv_store.specs.Below.{Drives, Replica, Spot}
use Rattle.mdv_store.specs.Blank.{StayBlank}
use Rattle.mdv_store.specs.Booting.{AreOfBoot, BootGoes, BootMomentOn, HasNoStaleVote, HasShown, IsBootedOn, WasReadOn, Writes}
use Rattle.mdv_store.specs.Commit.{AnyLog, AnyWorld, IsLiveWith}
use Rattle.mdv_store.specs.Seats.{seats_area}
use Rattle.mdv_store.specs.declared.booting.BootEnd.{BootEnd}
use Rattle.mdv_store.specs.declared.booting.BootEnd.TheVariants as end
use Rattle.mdv_store.proofs.Reading.{same_identity_is}
use Rattle.mdv_store_law.specs.Log.{ChangesAlone, Event, Over}
use Rattle.mdv_databases.specs.Below.{Core, CoversWith, Database, Geometry, Identity, IsBlank, IsReadyWith, Key, KeptOutside, Lists, Log, Opened, Seat, Spells, Tale, current_of, log_of, site_of, spots_of, Image}
use Rattle.mdv_databases.specs.Booting.{IsBootedIn, IsGoneOf, MeetsStale}
use Rattle.mdv_databases.specs.Going.{GoOn, IsCurrentOf}
use Rattle.mdv_databases.specs.Standing.{AreAnew, Stand}
use Rattle.mdv_store_law.proofs.Fates.{lives_there}
use Rattle.mdv_databases.proofs.Going.{Gone, free_still, go_on, its_worlds, opens}
use Rattle.mdv_databases.proofs.Lists.{some_same}

-- where nothing is written they stand as they did
pub stand_kept : (g : Geometry) (all : List Database) (t m : Tale) → KeptOutside nowhere t m → Stand g all t → Stand g all m
stand_kept g all t m kept stand = record {
  worlds = everywhere_kept (Holds (Spells g) g all) t m kept stand.worlds;
  logs = stand.logs;
  ended = stand.ended;
  current = stand.current;
  over = λ d has is. free_still g d t m (everywhere_kept (ShowsNoTable (Spells g) (site_of g d.key) d.identity) t m kept) (stand.over d has is);
}

-- A replica that was found shows a table: its database isn't over, so it is the key's current one; or it was deleted.
module _ (g : Geometry) (all : List Database) (key : Key) (identity : Identity) (t : Tale) (stand : Stand g all t) (shown : HasShown g (site_of g key) identity t) where
  abbrev r : Replica
  r = shown.replica

  of_identity : r.head.master.identity ≡ identity
  of_identity = same_identity_is r.head.master.identity identity shown.its

  pub one_of_them : IsOneOf all key identity
  one_of_them = subst (IsOneOf all key) of_identity ((stand.worlds (last t) (last_image t)).known key r.line r.number r.first r.head shown.found)

  abbrev d : Database
  d = one_of_them.database

  never_blank : IsBlank g d.key d.identity t → ⊥
  never_blank none =
      let blank : IsBlank g key identity t = subst (λ (i : Identity). IsBlank g key i t) one_of_them.of_identity (subst (λ (k : Key). IsBlank g k d.identity t) one_of_them.of_key none) in
      false≢true (sym (blank (last t) (last_image t) r.line r.number r.first r.head (record { found = shown.found; of_identity = of_identity })) ∙ shown.shown)

  is_current : d.over ≡ false → IsCurrentOf all key identity
  is_current going = record {
    database = d;
    current = subst (λ (k : Key). current_of all k ≡ Some d) one_of_them.of_key (stand.current d one_of_them.one_of going);
    as_begun = one_of_them.of_identity;
  }

  going_or_gone : (d.over ≡ false) ⊎ (d.log.fate ≡ Over)
  going_or_gone = elim (cases_Bool d.over) [
    | inl over ↦ elim (stand.over d one_of_them.one_of over) [ inl free ↦ absurd (never_blank free.1) | inr gone ↦ inr gone ]
    | inr going ↦ inl going
  ]

  pub shown_current : IsCurrentOf all key identity ⊎ IsGoneOf all key identity
  shown_current = elim going_or_gone [
    | inl going ↦ inl (is_current going)
    | inr gone ↦ inr (record { database = d; one_of = one_of_them.one_of; of_key = one_of_them.of_key; as_begun = one_of_them.of_identity; gone = gone })
  ]

-- none was deleted as long as no places come and go
pub anew_current : (g : Geometry) (all : List Database) (key : Key) (identity : Identity) (t : Tale) → Stand g all t → AreAnew all → HasShown g (site_of g key) identity t → IsCurrentOf all key identity
anew_current g all key identity t stand anew shown = elim (shown_current g all key identity t stand shown) [
  | inl its ↦ its
  | inr was ↦ absurd (lives_there was.database.log.fate (anew was.database was.one_of).lives was.gone)
]

-- so there are no two of a key, but such that were deleted
pub one_shown : (g : Geometry) (all : List Database) (key : Key) (a b : Identity) (t : Tale) → Stand g all t → HasShown g (site_of g key) a t → HasShown g (site_of g key) b t → (a ≡ b) ⊎ (IsGoneOf all key a ⊎ IsGoneOf all key b)
one_shown g all key a b t stand first second = elim (shown_current g all key a t stand first) [
  | inl one ↦ elim (shown_current g all key b t stand second) [
    | inl two ↦ inl (sym one.as_begun ∙ ap (λ (x : Database). x.identity) (some_same one.database two.database (sym one.current ∙ two.current)) ∙ two.as_begun)
    | inr gone ↦ inr (inr gone)
  ]
  | inr gone ↦ inr (inl gone)
]

pub anew_one : (g : Geometry) (all : List Database) (key : Key) (a b : Identity) (t : Tale) → Stand g all t → AreAnew all → HasShown g (site_of g key) a t → HasShown g (site_of g key) b t → a ≡ b
anew_one g all key a b t stand anew first second =
    let one = anew_current g all key a t stand anew first in
    let two = anew_current g all key b t stand anew second in
    sym one.as_begun ∙ ap (λ (x : Database). x.identity) (some_same one.database two.database (sym one.current ∙ two.current)) ∙ two.as_begun

-- A boot of a database that showed a table, and of which this was read.
module _ (up : Drives) (g : Geometry) (all : List Database) (key : Key) (identity : Identity) (t m : Tale) (stand : Stand g all t) (rest : RestStands (Spells g) g all identity m) (blank : StayBlank g identity t m)
    (shown : HasShown g (site_of g key) identity t) (own : Lists) (seen : List Seen) (mark : Mark) (read : WasReadOn up g (site_of g key) identity own (last t) seen mark)
    (seated : List Spot) (Then : Core → Type 0) (After : Log → Type 0) (goes : BootGoes g (site_of g key) identity own seen mark seated Then After t m) where
  abbrev site : Site
  site = site_of g key

  abbrev its : IsOneOf all key identity
  its = one_of_them g all key identity t stand shown

  abbrev log : Log
  log = its.database.log

  meets : HasStaleVote site log seen mark → MeetsStale up g all key (last t)
  meets stale = record {
    database = its.database;
    one_of = its.one_of;
    of_key = its.of_key;
    lists = own;
    seen = seen;
    mark = mark;
    read = subst (λ (i : Identity). WasReadOn up g site i own (last t) seen mark) (sym its.of_identity) read;
    stale = stale;
  }

  -- it wasn't deleted, if there is none
  never_gone : HasNoStaleVote site seen mark log → log.fate ≡ Over → ⊥
  never_gone fair over =
      let has = (stand.worlds (last t) (last_image t)).worlds its.database its.one_of in
      let world = subst (λ (i : Identity). IsWorld (Spells g) site i log has.0 (last t)) its.of_identity (subst (λ (k : Key). IsWorld (Spells g) (site_of g k) its.database.identity log has.0 (last t)) its.of_key has.1) in
      none_here (Spells g) site identity log g (reads_one (read_of g)) has.0 (last t) seen read.s read.slot mark read.table (site_is g key read.sound) (stand.logs its.database its.one_of) over world read.own read.chosen read.shown
      (subst (λ (l : Lists). covers (is_majority (is_in (spots_seen seen))) (lists_of_spots site l) ≡ true) (sym read.listed) read.quorum) fair read.small

  -- so the key's current one goes on
  module _ (now : IsCurrentOf all key identity) (fair : HasNoStaleVote site seen mark (log_of all key)) where
    abbrev worlds : CoversWith (Spells g) site identity (λ image w. Anything w) (log_of all key) t
    worlds = covers_anything (Spells g) site identity (log_of all key) t (its_worlds g all key identity t stand now)

    abbrev traced : GoesTraced (Spells g) g site identity [] Anything (AreOfBoot site own (spots_seen seen) seated) Then After t m (log_of all key)
    traced = goes (log_of all key) worlds fair

    gone_on : Gone g all key identity [] traced.es Then After m
    gone_on = go_on ChangesAlone g all key identity [] Anything (AreOfBoot site own (spots_seen seen) seated) Then After t m stand now worlds rest blank traced

  booted : ((es : List Event) × Gone g all key identity [] es Then After m) ⊎ MeetsStale up g all key (last t)
  unfolding is_current one_of_them
  booted = elim (stale_or_not site log mark seen) [
    | inl stale ↦ inr (meets stale)
    | inr fair ↦ elim (going_or_gone g all key identity t stand shown) [
      | inl going ↦
          let now = is_current g all key identity t stand shown going in
          let here : HasNoStaleVote site seen mark (log_of all key) = subst (HasNoStaleVote site seen mark) (sym (ap log_in now.current)) fair in
          inl ((traced now here).es, gone_on now here)
      | inr gone ↦ absurd (never_gone fair gone)
    ]
  ]

-- no replica is written, or the current one goes on, or a stale vote was met
written : (up : Drives) (g : Geometry) (all : List Database) (key : Key) (identity : Identity) (t m : Tale) → Stand g all t → (lists : Lists) → Writes up g (site_of g key) identity lists t m
    → Stand g all m ⊎ (((its : Identity) × GoOn g all key its [] AnyLog m) ⊎ MeetsStale up g all key (last t))
written up g all key identity t m stand lists writes = elim writes.shown [
  | inl none ↦ inl (stand_kept g all t m (subst (λ (seats : List Seat). KeptOutside (seats_area seats) t m) none writes.within.outside) stand)
  | inr shown ↦ elim (booted up g all key identity t m stand (writes.rest all (rest_of (Spells g) g all t identity stand.worlds)) writes.blank shown.0 lists writes.seen writes.mark shown.1 (spots_of writes.seats) AnyWorld AnyLog writes.goes) [
    | inl on ↦ inr (inl (identity, on.1.goes))
    | inr stale ↦ inr (inr stale)
  ]
]

pub boot_moment : (up : Drives) (g : Geometry) (all : List Database) (key : Key) (answer : BootEnd) (t m : Tale) → Stand g all t → BootMomentOn up g (site_of g key) answer t m
    → Stand g all m ⊎ (((identity : Identity) × GoOn g all key identity [] AnyLog m) ⊎ MeetsStale up g all key (last t))
boot_moment up g all key (end.Adopted o) t m stand moment = written up g all key o.identity t m stand moment.writes.0 moment.writes.2
boot_moment up g all key end.Empty t m stand moment = inl (stand_kept g all t m moment.quiet.outside stand)
boot_moment up g all key (end.TwoDatabases a b) t m stand moment = inl (stand_kept g all t m moment.quiet.outside stand)
boot_moment up g all key (end.NoQuorum readable needed) t m stand moment = inl (stand_kept g all t m moment.quiet.outside stand)
boot_moment up g all key (end.Lost active listed) t m stand moment = written up g all key moment.writes.0 t m stand moment.writes.1 moment.writes.2
boot_moment up g all key end.Spent t m stand moment = inl (stand_kept g all t m moment.quiet.outside stand)
boot_moment up g all key end.Memory t m stand moment = inl (stand_kept g all t m moment.quiet.outside stand)

pub boot_end : (read up : Drives) (g : Geometry) (all : List Database) (key : Key) (o : Opened) (t u : Tale) → Stand g all t → BootMomentOn read g (site_of g key) (end.Adopted o) t u → IsBootedOn up g (site_of g key) o t u → o.key ≡ key
    → IsBootedIn g all key o u ⊎ MeetsStale up g all key (last t)
boot_end read up g all key o t u stand moment to keyed =
    let After = λ (log : Log). IsLiveWith log o.mark o.table in
    let writes = moment.writes.2 in
    elim (booted up g all key o.identity t u stand (writes.rest all (rest_of (Spells g) g all t o.identity stand.worlds)) writes.blank to.shown to.lists to.seen to.mark to.read to.seated (IsReadyWith (spots_of o.seats)) After to.goes) [
      | inl on ↦ inl (let went = on.1.goes in record {
        goes = record { its = went.its; es = went.es; course = went.course; come = went.come; stand = went.stand; after = went.after.newest };
        is_open = opens ChangesAlone g all key o.identity [] on.0 After o u on.1 keyed refl (λ log after. after.newest) went.after.lives to.opened;
      })
      | inr stale ↦ inr stale
    ]

-- As long as no places come and go no boot meets one.
pub never_meets : (up : Drives) (g : Geometry) (all : List Database) (key : Key) (content : Image) → AreAnew all → MeetsStale up g all key content → ⊥
never_meets up g all key content anew m = none_stale (site_of g key) m.database.log m.seen m.mark (none_again m.database.log (anew m.database m.one_of)) m.stale
