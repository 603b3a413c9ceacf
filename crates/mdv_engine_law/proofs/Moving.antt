-- What a change of the places of an open database leaves of a host's history.
use Rattle.std.proofs.Common.{◌≡◌, inr, ◌≤◌, ℕ, Bool, List, [], ◌∷◌, map, Option, Some, Ok, Err, Contains, refl, sym, ◌∙◌, ap, subst, arith}
use Rattle.mdv_databases.proofs.Lists.{events_log}
use Rattle.mdv_databases.proofs.Moving.{move_end, move_failed, move_moment}
use Rattle.mdv_databases.specs.Going.{GoOnBy, with_events}
use Rattle.mdv_databases.specs.Moving.{IsMoveIn, IsMovedIn}
use Rattle.mdv_engine_law.specs.Below.{AreWoken, Change, Changed, Created, Database, Deed, Drives, Event, History, IoFault, IsMapOf, IsNamed, IsNewestTellable, IsOpenIn, IsOpenedAt, Key, KeptOutside, Log, Map, Opened, SliceLine, SliceName, Table, Tale, VolId, log_of, nowhere, site_area, site_of}
use Rattle.mdv_places.specs.Asked.{Adds, Asks, Drops, KeepsFirst, change_of, places_added}
use Rattle.mdv_places.specs.Changing.{both_of}
use Rattle.mdv_places.specs.Going.{IsMoving}
use Rattle.mdv_places.specs.Moments.{AreOfSite, IsChangeOf, IsFront, IsLogOf, MoveEnds, MoveMoment, MoveShows}
use Rattle.mdv_places.specs.Outcomes.{IsMoved}
use Rattle.mdv_places.specs.declared.changing.PlacesFault.TheVariants as unmoved
use Rattle.mdv_shelf.specs.Failing.{Outcomes}
use Rattle.mdv_shelf.proofs.Frame.{kept_outside_same}
use Rattle.mdv_store.specs.Commit.{AnyLog, IsCommittedTo, IsNewestWritten}
use Rattle.mdv_store_law.specs.Changes.{KeepsPlaces}
use Rattle.mdv_store_law.specs.Changes as changes
use Rattle.mdv_store_law.specs.Log as log
use Rattle.mdv_store_law.specs.Log.{IsLog, Version}
use Rattle.mdv_store_law.specs.Machine.{AreAll, all_of}
use Rattle.mdv_store_law.specs.Part.{IsPart}
use Rattle.mdv_store_law.proofs.Parts.{part_all, part_itself, part_mapped, part_of_part}
use Rattle.mdv_config.specs.Lists.{last_of}
use Rattle.mdv_config.specs.Table.{IsOfGeometry}
use Rattle.mdv_volumes.specs.Happening.{MayBeFound, begun_at, deed_of}
use Rattle.mdv_volumes.specs.HistoryLaws.{AreLater, IsAsked, IsReady as IsTableReady}
use Rattle.mdv_volumes.specs.Tables.{AreLaid}
use Rattle.mdv_volumes.proofs.Databases.{is_log_of}
use Rattle.mdv_volumes.proofs.Found.{newest_found, only_found}
use Rattle.mdv_volumes.proofs.Lists.{contains_first}
use Rattle.mdv_engine_law.specs.declared.answer.Answer.TheVariants.{Said, Over}
use Rattle.mdv_engine_law.specs.declared.answer.Ended.TheVariants as ended
use Rattle.mdv_engine_law.specs.declared.answer.Outcome.TheVariants as outcome
use Rattle.mdv_engine_law.specs.declared.host.Host.{Host}
use Rattle.mdv_engine_law.specs.Hosts.{IsReady, key_of}
use Rattle.mdv_engine_law.specs.Line.{Ask, Memory, deeds, is_in}
use Rattle.mdv_engine_law.specs.Replies.{AcksAnswer}
use Rattle.mdv_engine_law.specs.Standing.{AddsThese, AreOwn, CanTellAll, CarriedTo, CarryMoment, Goes, IsKnown, IsKnownAfter, Knows, Reached, StandsAt, WritesOnly, is_steady}
use Rattle.mdv_engine_law.proofs.Alike.{MovesPlaces, asked_volumes, map_alike}
use Rattle.mdv_engine_law.proofs.Going.{goes_weaker, not_among, not_other}
use Rattle.mdv_engine_law.proofs.Knowing.{same_steady}
use Rattle.mdv_engine_law.proofs.Lifting.{lift_events}
use Rattle.mdv_engine_law.proofs.Owning.{own_gone}
use Rattle.mdv_engine_law.proofs.Raising.{begun_by, later_by, move_issues, part_one}
use Rattle.mdv_engine_law.proofs.Refusing.{known_open, knows_its, knows_opened, of_opened, opened_has}
use Rattle.mdv_engine_law.proofs.Staying.{stays_on_site}
use Rattle.mdv_engine_law.proofs.Steady.{free_kept}

-- A change of the open database's places that may be: it makes the table with both lists, which is one of the table of drives, and adds these places on slices of the host's site.
pub record IsMoveOf (host : Host) (o : Opened) (asked : Asks) (change : Change) : Type 0 where
  pub made : IsChangeOf host.drives o asked change
  pub moves : KeepsPlaces change → ⊥
  pub adds : AddsThese change (places_added asked)
  pub of_geometry : IsOfGeometry host.drives (both_of o asked).table
  pub sites : AreOfSite host.drives o asked
  pub front : IsFront asked (last_of o.table.plan.lists)

-- as what is asked names it
pub move_of : (host : Host) (o : Opened) (asked : Asks) → IsOfGeometry host.drives (both_of o asked).table → AreOfSite host.drives o asked → IsFront asked (last_of o.table.plan.lists) → IsMoveOf host o asked (change_of asked)
move_of host o (Adds lines count blocks) placed sites front = record { made = refl; moves = λ never. never; adds = refl; of_geometry = placed; sites = sites; front = front }
move_of host o (Drops slices) placed sites front = record { made = refl; moves = λ never. never; adds = refl; of_geometry = placed; sites = sites; front = front }
move_of host o KeepsFirst placed sites front = record { made = refl; moves = λ never. never; adds = refl; of_geometry = placed; sites = sites; front = front }

-- and as a kept entry's number does
pub move_listed : (host : Host) (o : Opened) (lines : List SliceLine) (count blocks number : ℕ) → IsOfGeometry host.drives (both_of o (Adds lines count blocks)).table → AreOfSite host.drives o (Adds lines count blocks) → IsMoveOf host o (Adds lines count blocks) (changes.AddListed number)
move_listed host o lines count blocks number placed sites = record {
  made = record { slices = names; count = count; blocks = blocks; is = refl };
  moves = λ never. never;
  adds = (names, count, blocks, refl);
  of_geometry = placed;
  sites = sites;
  front = tt;
}
  where
    names : List SliceName
    names = map (λ (line : SliceLine). line.name) lines

-- A database is open in a history that the drives stand with, and all are the host's own.
pub record HasOpen (host : Host) (begun : ℕ) (o : Opened) (h : History) (t : Tale) : Type 0 where
  pub stands : StandsAt host h t
  pub its : AreOwn host begun h
  pub keyed : o.key ≡ key_of host
  pub is_open : IsOpenIn host.drives o h.databases t

pub has_open : (host : Host) (memory : Memory) (o : Opened) → memory.opened ≡ Some o → (t : Tale) (h : History) → IsKnown host memory h t → HasOpen host memory.begun o h t
has_open host memory o opened t h known = record { stands = known.stands; its = known.its; keyed = (knows_its host memory o opened t known.knows).0; is_open = known_open host memory o opened t h known }

-- The tables with its volumes may be written.
module _ (host : Host) (begun : ℕ) (o : Opened) (t : Tale) (h : History) (known : HasOpen host begun o h t) where
  abbrev newest : IsNewestWritten (log_of h.databases o.key) o.mark o.table
  newest = known.is_open.newest

  abbrev version : Version
  version = newest.newest.version

  is_log : IsLog host.drives (log_of h.databases o.key)
  is_log = is_log_of host.drives h.databases t known.stands.databases o.key

  rising : log.IsRising (version ∷ newest.newest.older)
  rising = subst log.IsRising newest.newest.family is_log.rising

  found : MayBeFound (log_of h.databases o.key).family version
  found = subst (λ (f : List Version). MayBeFound f version) (sym newest.newest.family) (newest_found version newest.newest.older rising)

  have : (v : Version) → MayBeFound (log_of h.databases o.key).family v → v.table.plan.volumes ≡ o.table.plan.volumes
  have v is =
      ap (λ (w : Version). w.table.plan.volumes) (only_found version newest.newest.older v rising newest.written (subst (λ (f : List Version). MayBeFound f v) newest.newest.family is))
      ∙ ap (λ (x : Table). x.plan.volumes) newest.newest.same

  begun_family : log.IsBegun (log_of h.databases o.key).family
  begun_family = subst log.IsBegun (sym newest.newest.family) tt

  module _ (table : Table) (same : table.plan.volumes ≡ o.table.plan.volumes) where
    was : (volume : VolId) (v : Map) → IsMapOf host.drives table volume v → IsMapOf host.drives version.table volume v
    was = map_alike host.drives table version.table (same ∙ sym (have version found))

    named : (volume : VolId) (v : Map) → IsMapOf host.drives table volume v → IsNamed host.drives h.databases o.key volume v
    named volume v lies = record { version = version; found = found; map = was volume v lies }

    laid : AreLaid host.drives version.table → AreLaid host.drives table
    laid is = record {
      disjoint = λ volume v lies. is.disjoint volume v (was volume v lies);
      apart = λ volume beside v w differ lies other. is.apart volume beside v w differ (was volume v lies) (was beside w other);
      clear = λ volume v lies. is.clear volume v (was volume v lies);
      plain = λ volume v lies. is.plain volume v (was volume v lies);
      one = λ volume v lies. is.one volume v (was volume v lies);
      bounded = λ volume v lies. is.bounded volume v (was volume v lies);
    }

    pub ready_alike : IsTableReady host.drives h o.key t table
    ready_alike = record {
      laid = laid (known.stands.laid o.key version found);
      apart = λ other volume beside v w differ lies there. known.stands.apart o.key other volume beside v w differ (named volume v lies) there;
      follows = λ volume v lies. known.stands.volumes o.key volume v (named volume v lies);
    }

  -- so may each that a change of places makes
  pub ready_moved : (es : List log.Event) → log.IsCourse host.drives (log_of h.databases o.key) es → AreLater es → AreAll MovesPlaces (log.begun_by es) → (table : Table) → IsAsked es table → IsTableReady host.drives h o.key t table
  ready_moved es course later moves table asked = ready_alike table (asked_volumes host.drives o.table.plan.volumes (log_of h.databases o.key) es is_log begun_family have course later moves table asked)

-- At a moment of the change nothing was done outside the slices where the host's replicas may lie.
module _ (host : Host) (sizes : List ℕ) (ready : IsReady host sizes) (o : Opened) (asked : Asks) (change : Change) (is : IsMoveOf host o asked change) (t m : Tale) (kept : KeptOutside (site_area host.site) t m) where
  -- what is asked
  abbrev pub one : List Deed
  one = Changed (key_of host) change ∷ []

  pub move_in : (begun : ℕ) (h : History) → HasOpen host begun o h t → IsMoveIn host.drives h.databases o asked change t
  move_in begun h known = record {
    stand = known.stands.databases;
    is_open = known.is_open;
    others = λ line touched d has differ. absurd (differ (known.its.own d has ∙ sym known.keyed));
    of_geometry = is.of_geometry;
    sites = is.sites;
    front = is.front;
    made = is.made;
  }

  -- what goes on in the database goes on in the history
  pub moving : (begun : ℕ) (asks : List (Option Change)) → IsPart asks (Some change ∷ []) → (After : Log → Type 0) (Then : List Event → History → Type 0) (h : History) (known : HasOpen host begun o h t) (goes : GoOnBy (IsMoving asked) host.drives h.databases o.key o.identity asks After m)
      → ((es : List Event) (g : History) → StandsAt host g m → g.databases ≡ with_events o.key goes.es h.databases → g.woken ≡ h.woken → g.up ≡ h.up → Then es g) → Goes host one [] Then m h
  moving begun asks part After Then h known goes then =
      lift_events host one Then (IsMoving asked) o.key o.identity asks After t m (subst (λ (area : ℕ → ℕ → Bool). KeptOutside area t m) (sym here) kept) h known.stands goes later
      (move_issues host one change (places_added asked) asked_one is.adds (Some change ∷ []) goes.es goes.come.issues begins (asked_one, tt)) begun_one
      (ready_moved host begun o t h known goes.es goes.course later (part_all MovesPlaces (log.begun_by goes.es) (Some change ∷ []) begins (is.moves, tt)))
      (λ es g there databases untold woken up. then es g there databases woken up)
    where
      here : site_area (site_of host.drives o.key) ≡ site_area host.site
      here = ap (λ (k : Key). site_area (site_of host.drives k)) known.keyed ∙ ap site_area (sym ready.site)

      later : AreLater goes.es
      later = later_by (IsMoving asked) (λ identity never. never) goes.es goes.come.issues

      begins : IsPart (log.begun_by goes.es) (Some change ∷ [])
      begins = part_of_part (log.begun_by goes.es) asks (Some change ∷ []) goes.come.begins part

      asked_one : Contains one (Changed (key_of host) change)
      asked_one = contains_first (Changed (key_of host) change) []

      begun_one : IsPart (all_of (begun_at o.key) goes.es) one
      begun_one = subst (λ (l : List Deed). IsPart l one) (sym (begun_by (IsMoving asked) (λ never. never) o.key goes.es goes.come.issues))
          (subst (λ (k : Key). IsPart (map (deed_of o.key) (log.begun_by goes.es)) (Changed k change ∷ [])) known.keyed (part_mapped (deed_of o.key) (log.begun_by goes.es) (Some change ∷ []) begins))

  -- Of what is open and in memory, before and behind.
  module _ (memory : Memory) (opened : memory.opened ≡ Some o) where
    -- It has the same volumes then.
    module _ (new : Opened) (next : Memory) (now : next.opened ≡ Some new) (up : next.up ≡ memory.up) (unsteady : next.unsteady ≡ memory.unsteady) (begun : memory.begun ≤ next.begun) (keyed : new.key ≡ o.key) (alike : new.table.plan.volumes ≡ o.table.plan.volumes)
        (shown : IsOpenedAt host.drives o t → IsOpenedAt host.drives new m) where
      still_on : (drive : ℕ) → is_steady memory drive ≡ is_steady next drive
      still_on drive = sym (same_steady memory next up unsteady drive)

      pub knows_moved : Knows host memory t → Knows host next m
      knows_moved known =
          let was = knows_its host memory o opened t known in
          knows_opened host next new m now (keyed ∙ was.0) (shown was.1) (free_kept host sizes ready memory next t m kept (λ drive on. still_on drive ∙ on) known.steady)

      pub known_moved : (h : History) → IsKnown host memory h t → (es : List log.Event) (g : History) → StandsAt host g m → g.databases ≡ with_events o.key es h.databases → g.woken ≡ h.woken → g.up ≡ h.up
          → IsOpenIn host.drives new (with_events o.key es h.databases) m → IsKnown host next g m
      known_moved h known es g there databases woken drives is_open = record {
        stands = there;
        its = own_gone host memory.begun h known.its o.key es next.begun g begun databases;
        is_open = of_opened next new (λ n. IsOpenIn host.drives n g.databases m) now (subst (λ (ds : List Database). IsOpenIn host.drives new ds m) (sym databases) is_open);
        free = λ none clean. absurd (cc (now, none));
        up = λ drive. ap (λ (of : Key → Drives). is_in (of (key_of host)) drive) drives ∙ known.up drive ∙ still_on drive;
        woken = of_opened next new (λ n. AreWoken host.drives n.table (is_steady next) g (key_of host)) now (λ volume v lies upon.
            ap (λ (f : Key → VolId → ℕ). f (key_of host) volume) woken
            ∙ opened_has memory o (λ n. AreWoken host.drives n.table (is_steady memory) h (key_of host)) opened known.woken volume v (map_alike host.drives new.table o.table alike volume v lies)
            (λ b drive block lt has. still_on drive ∙ upon b drive block lt has));
        knows = knows_moved known.knows;
      }

-- A line asks it.
module _ (host : Host) (sizes : List ℕ) (ready : IsReady host sizes) (memory : Memory) (o : Opened) (opened : memory.opened ≡ Some o) (ask : Ask) (asked : Asks) (change : Change) (is : IsMoveOf host o asked change)
    (one_of : Contains (deeds ask) (Changed (key_of host) change)) (t m : Tale) (kept : KeptOutside (site_area host.site) t m) (moment : MoveMoment host.drives o asked t m) where
  abbrev pub deed : List Deed
  deed = Changed (key_of host) change ∷ []

  may : (h : History) → IsKnown host memory h t → IsMoveIn host.drives h.databases o asked change t
  may h known = move_in host sizes ready o asked change is t m kept memory.begun h (has_open host memory o opened t h known)

  wider : (After Then : List Event → History → Type 0) (h : History) → ((es : List Event) (g : History) → After es g → Then es g) → Goes host deed [] After m h → Goes host (deeds ask) [] Then m h
  wider After Then h less = goes_weaker host deed (deeds ask) [] After Then m m h (part_one (deeds ask) (Changed (key_of host) change) one_of) (kept_outside_same nowhere m) less

  -- each moment of it
  pub moving_moment : WritesOnly host ask memory t m → CarryMoment host ask memory t m
  moving_moment writes = record {
    home = stays_on_site host t m kept;
    within = writes;
    quiet = moment.quiet.quiet;
    goes = λ h known. inr (wider Reached Reached h (λ es g is. is)
        (moving host sizes ready o asked change is t m kept memory.begun (Some change ∷ []) (part_itself (Some change ∷ [])) AnyLog Reached h (has_open host memory o opened t h known)
        (move_moment host.drives h.databases o asked change t (may h known) m moment) (λ es g there databases woken up. tt)));
  }

  -- The places changed.
  module _ (calls : Outcomes) (new : Opened) (clean : Bool) (moved : IsMoved calls host.drives o asked new clean) (ends : MoveEnds host.drives o new asked (Ok clean) t m) (shows : MoveShows host.drives o new asked (Ok clean) t m) (next : Memory) (next_is : next ≡ record memory { opened = Some new }) where
    keyed : new.key ≡ o.key
    keyed = ap (λ (n : Opened). n.key) moved.is

    identified : new.identity ≡ o.identity
    identified = ap (λ (n : Opened). n.identity) moved.is

    alike : new.table.plan.volumes ≡ o.table.plan.volumes
    alike = ap (λ (n : Opened). n.table.plan.volumes) moved.is

    now : next.opened ≡ Some new
    now = ap (λ (n : Memory). n.opened) next_is

    same_up_now : next.up ≡ memory.up
    same_up_now = ap (λ (n : Memory). n.up) next_is

    same_unsteady : next.unsteady ≡ memory.unsteady
    same_unsteady = ap (λ (n : Memory). n.unsteady) next_is

    begun : memory.begun ≤ next.begun
    begun = (let same = ap (λ (n : Memory). n.begun) next_is in omega (arith, same))

    shown : IsOpenedAt host.drives o t → IsOpenedAt host.drives new m
    shown is_open = (shows (record { opened = is_open; of_geometry = is.of_geometry; sites = is.sites; front = is.front })).0

    pub knows_then : Knows host memory t → Knows host next m
    knows_then = knows_moved host sizes ready o asked change is t m kept memory opened new next now same_up_now same_unsteady begun keyed alike shown

    done_in : (h : History) → IsKnown host memory h t → IsMovedIn host.drives h.databases o new asked change m
    done_in h known = move_end host.drives h.databases o asked change t (may h known) new clean m moment ends keyed identified

    tellable : (h g : History) (known : IsKnown host memory h t) → g.databases ≡ with_events o.key (done_in h known).goes.es h.databases → IsNewestTellable (log_of g.databases (key_of host)) (Some change)
    tellable h g known databases =
        let done = done_in h known in
        let its = (knows_its host memory o opened t known.knows).0 in
        let own : log_of (with_events o.key done.goes.es h.databases) o.key ≡ log.log_after_all (log_of h.databases o.key) done.goes.es = events_log o.key done.goes.es h.databases done.goes.its.database done.goes.its.current in
        subst (λ (k : Key). IsNewestTellable (log_of g.databases k) (Some change)) its
        (subst (λ (l : Log). IsNewestTellable l (Some change)) (sym (ap (λ (ds : List Database). log_of ds o.key) databases ∙ own)) (done.goes.after.tellable change refl))

    -- so all is known then, and its `ok` may be told
    pub behind : (h : History) → IsKnown host memory h t → Goes host deed [] (λ es g. IsKnown host next g m × CanTellAll host deed g) m h
    behind h known =
        let done = done_in h known in
        moving host sizes ready o asked change is t m kept memory.begun (Some change ∷ []) (part_itself (Some change ∷ [])) (IsCommittedTo host.drives new (Some change)) (λ es g. IsKnown host next g m × CanTellAll host deed g) h
        (has_open host memory o opened t h known) done.goes (λ es g there databases woken up. (
          known_moved host sizes ready o asked change is t m kept memory opened new next now same_up_now same_unsteady begun keyed alike shown h known done.goes.es g there databases woken up done.is_open,
          record { may = tellable h g known databases },
        ))

    -- it is told
    pub moved_to : AcksAnswer ask (Said outcome.Ok) deed → CarriedTo host ask memory (Said outcome.Ok) next t m
    moved_to acks = record {
      done = deed;
      acks = acks;
      free = λ has. absurd (not_other (Changed (key_of host) change) (Created (key_of host)) (λ same. cc (same)) has);
      goes = λ h known. inr (wider (λ es g. IsKnown host next g m × CanTellAll host deed g) (λ es g. IsKnownAfter host deed (Said outcome.Ok) next g m) h (λ es g is. is) (behind h known));
      knows = knows_then;
    }

    -- a wipe failed where all places go, and it is told that a call did
    pub moved_half : CarriedTo host ask memory (Said (outcome.Refused IoFault)) next t m
    moved_half = record {
      done = [];
      acks = refl;
      free = λ has. absurd (not_among (Created (key_of host)) has);
      goes = λ h known. inr (wider (λ es g. IsKnown host next g m × CanTellAll host deed g) (λ es g. IsKnownAfter host [] (Said (outcome.Refused IoFault)) next g m) h (λ es g is. is.0) (behind h known));
      knows = knows_then;
    }

  -- a place couldn't be formatted, and the database is open as it was
  pub unmoved_to : (new : Opened) → MoveEnds host.drives o new asked (Err unmoved.Failed) t m → MoveShows host.drives o new asked (Err unmoved.Failed) t m → CarriedTo host ask memory (Said (outcome.Refused IoFault)) memory t m
  unmoved_to new ends shows = record {
    done = [];
    acks = refl;
    free = λ has. absurd (not_among (Created (key_of host)) has);
    goes = λ h known.
        (let un = move_failed host.drives h.databases o asked change t (may h known) new m moment ends in
        inr (wider (λ es g. IsKnown host memory g m) (λ es g. IsKnownAfter host [] (Said (outcome.Refused IoFault)) memory g m) h (λ es g is. is)
        (moving host sizes ready o asked change is t m kept memory.begun [] tt (IsLogOf host.drives o) (λ es g. IsKnown host memory g m) h (has_open host memory o opened t h known) un.goes (λ es g there databases woken up.
        known_moved host sizes ready o asked change is t m kept memory opened o memory opened refl refl (omega arith) refl refl shown h known un.goes.es g there databases woken up un.is_open))));
    knows = knows_moved host sizes ready o asked change is t m kept memory opened o memory opened refl refl (omega arith) refl refl shown;
  }
    where
      shown : IsOpenedAt host.drives o t → IsOpenedAt host.drives o m
      shown is_open = shows (record { opened = is_open; of_geometry = is.of_geometry; sites = is.sites; front = is.front })

  -- how far it came isn't known
  pub moved_or_lost : (active listed : ℕ) (next : Memory) → CarriedTo host ask memory (Over (ended.Lost active listed)) next t m
  moved_or_lost active listed next = record {
    done = [];
    acks = refl;
    free = λ has. absurd (not_among (Created (key_of host)) has);
    goes = λ h known. inr (wider Reached (λ es g. IsKnownAfter host [] (Over (ended.Lost active listed)) next g m) h (λ es g is. tt)
        (moving host sizes ready o asked change is t m kept memory.begun (Some change ∷ []) (part_itself (Some change ∷ [])) AnyLog Reached h (has_open host memory o opened t h known)
        (move_moment host.drives h.databases o asked change t (may h known) m moment) (λ es g there databases woken up. tt)));
    knows = λ known. tt;
  }
