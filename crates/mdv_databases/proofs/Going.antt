-- All databases go on as the current one of a key does.
use Rattle.std.proofs.Common.{◌≡◌, inl, inr, true, List, Option, None, Some, Contains, refl, sym, ◌∙◌, ap, subst}
use Rattle.std.proofs.lemmas.Bool.{cases_Bool, false≢true}
use Rattle.mdv_quorum.specs.declared.event.Event.{Event}
use Rattle.mdv_shelf.specs.Tale.{last}
use Rattle.mdv_shelf.proofs.Everywhere.{last_image}
use Rattle.mdv_standing.specs.Databases.{log_in, same_key}
use Rattle.mdv_standing.specs.Holding.{AreOnce}
use Rattle.mdv_standing.specs.Rest.{RestStands}
use Rattle.mdv_standing.specs.Standing.{Covers}
use Rattle.mdv_standing.specs.Tracing.{GoesTracedBy}
use Rattle.mdv_standing.proofs.Holding.{joined}
use Rattle.mdv_standing.proofs.Tracing.{traced}
use Rattle.mdv_standing.proofs.Turning.{covers_known}
use Rattle.mdv_store_law.specs.Anew.{IsAnew}
use Rattle.mdv_store_law.specs.Log.{Event as LogEvent, IsCourse, IsIssue, IsLog, PlacesStay, log_after_all, ChangesAlone, Issue, Lives}
use Rattle.mdv_store_law.specs.Machine.{AreAll}
use Rattle.mdv_store_law.proofs.Anew.{anew_after_all, empty_anew}
use Rattle.mdv_store_law.proofs.Logs.{is_log_after_all}
use Rattle.mdv_store.specs.Blank.{StayBlank}
use Rattle.mdv_store.specs.Commit.{IsNewestWritten}
use Rattle.mdv_databases.specs.Below.{AllStand, Change, Core, CoversWith, Database, Geometry, Identity, IsBlank, IsOpenedAt, IsReadyWith, Key, Log, Opened, Spells, Tale, current_of, log_of, site_of, spots_of}
use Rattle.mdv_databases.specs.Going.{GoOnBy, IsCurrentOf, IsOpenIn, with_events}
use Rattle.mdv_databases.specs.Standing.{AreAnew, AreCurrent, EndsSole, IsFree, Stand}
use Rattle.mdv_databases.proofs.Ended.{ends_sole_all}
use Rattle.mdv_databases.proofs.Lists.{current_goes, current_in, current_key, events_cases, events_elsewhere, events_here, events_its, events_log, events_once, events_one_of, events_there, gone, key_differs, key_is, one_current}

covers_as : (g : Geometry) (key other : Key) (identity its : Identity) (log next : Log) (t : Tale) → key ≡ other → identity ≡ its → log ≡ next → Covers (Spells g) (site_of g key) identity log t → Covers (Spells g) (site_of g other) its next t
covers_as g key other identity its log next t keyed named same covers =
    subst (λ (l : Log). Covers (Spells g) (site_of g other) its l t) same
    (subst (λ (i : Identity). Covers (Spells g) (site_of g other) i log t) named
    (subst (λ (k : Key). Covers (Spells g) (site_of g k) identity log t) keyed covers))

-- a database is free where it shows no table that it didn't show
pub free_still : (g : Geometry) (d : Database) (t u : Tale) → (IsBlank g d.key d.identity t → IsBlank g d.key d.identity u) → IsFree g d t → IsFree g d u
free_still g d t u blank (inl free) = inl (free.0, blank free.1)
free_still g d t u blank (inr gone) = inr gone

-- the log of a key's current one, or that of none
pub log_anew : (all : List Database) (key : Key) → AreAnew all → IsAnew (log_of all key)
log_anew all key anew = by (current_of all key) refl
  where
    by : (o : Option Database) → current_of all key ≡ o → IsAnew (log_in o)
    by None none = empty_anew
    by (Some d) is = anew d (current_in key all d is)

-- The current one of a key, where all stand.
module _ (g : Geometry) (all : List Database) (key : Key) (identity : Identity) (t : Tale) (stand : Stand g all t) (its : IsCurrentOf all key identity) where
  abbrev d : Database
  d = its.database

  has : Contains all d
  has = current_in key all d its.current

  keyed : d.key ≡ key
  keyed = current_key key all d its.current

  same_log : log_of all key ≡ d.log
  same_log = ap log_in its.current

  once : AreOnce all
  once = (stand.worlds (last t) (last_image t)).once

  pub its_log : IsLog g (log_of all key)
  its_log = subst (IsLog g) (sym same_log) (stand.logs d has)

  pub its_worlds : Covers (Spells g) (site_of g key) identity (log_of all key) t
  its_worlds = covers_as g d.key key d.identity identity d.log (log_of all key) t keyed its.as_begun (sym same_log) (λ image is. (stand.worlds image is).worlds d has)

  -- Events happen to its log.
  module _ (es : List LogEvent) where
    abbrev next : List Database
    next = with_events key es all

    rest_behind : (m : Tale) → RestStands (Spells g) g all identity m → RestStands (Spells g) g next identity m
    rest_behind m rest image is =
        let h = rest image is in
        record {
          worlds = λ x other. elim (events_cases key es all d h.once its.current x other.0) [
            | inl here ↦ absurd (other.1 (ap (λ (z : Database). z.identity) (sym here) ∙ its.as_begun))
            | inr was ↦ h.worlds x (was.0, other.1)
          ];
          known = λ ask line k first head found. events_one_of key es all ask head.master.identity (h.known ask line k first head found);
          once = events_once key es all h.once;
        }

    all_behind : (m : Tale) → RestStands (Spells g) g all identity m → Covers (Spells g) (site_of g key) identity (log_after_all (log_of all key) es) m → AllStand (Spells g) g next m
    all_behind m rest covers =
        joined (Spells g) g next m (gone es d) (subst (λ (i : Identity). RestStands (Spells g) g next i m) (sym its.as_begun) (rest_behind m rest)) (events_there key es all d its.current)
        (covers_as g key d.key identity d.identity (log_after_all (log_of all key) es) (log_after_all d.log es) m (sym keyed) (sym its.as_begun) (ap (λ (l : Log). log_after_all l es) same_log) covers)

    logs_behind : IsCourse g (log_of all key) es → (x : Database) → Contains next x → IsLog g x.log
    logs_behind course x in_next = elim (events_cases key es all d once its.current x in_next) [
      | inl here ↦ subst (λ (z : Database). IsLog g z.log) here (is_log_after_all g d.log es (stand.logs d has) (subst (λ (l : Log). IsCourse g l es) same_log course))
      | inr was ↦ stand.logs x was.0
    ]

    ended_behind : IsCourse g (log_of all key) es → (x : Database) → Contains next x → EndsSole x.log
    ended_behind course x in_next = elim (events_cases key es all d once its.current x in_next) [
      | inl here ↦ subst (λ (z : Database). EndsSole z.log) here (ends_sole_all g d.log es (stand.ended d has) (subst (λ (l : Log). IsCourse g l es) same_log course))
      | inr was ↦ stand.ended x was.0
    ]

    -- no places come and go still
    pub anew_behind : AreAnew all → IsCourse g (log_of all key) es → AreAll (IsIssue PlacesStay) es → AreAnew next
    anew_behind anew course issues x in_next = elim (events_cases key es all d once its.current x in_next) [
      | inl here ↦ subst (λ (z : Database). IsAnew z.log) here (anew_after_all g d.log es (anew d has) (subst (λ (l : Log). IsCourse g l es) same_log course) issues)
      | inr was ↦ anew x was.0
    ]

    current_behind : AreCurrent next
    current_behind x in_next going = elim (events_cases key es all d once its.current x in_next) [
      | inl here ↦ subst (λ (z : Database). current_of next z.key ≡ Some z) here (subst (λ (k : Key). current_of next k ≡ Some (gone es d)) (sym keyed) (events_here key es all d its.current))
      | inr was ↦
          let current = stand.current x was.0 going in
          elim (cases_Bool (same_key key x.key)) [
            | inl same ↦
                let one = one_current key all x d (subst (λ (k : Key). current_of all k ≡ Some x) (sym (key_is key x.key same)) current) its.current in
                absurd (was.1 (ap (λ (z : Database). z.identity) one))
            | inr other ↦ events_elsewhere key es all x.key (key_differs key x.key other) ∙ current
          ]
    ]

    over_behind : (m : Tale) → StayBlank g identity t m → (x : Database) → Contains next x → x.over ≡ true → IsFree g x m
    over_behind m blank x in_next over = elim (events_cases key es all d once its.current x in_next) [
      | inl here ↦ absurd (false≢true (sym (current_goes key all d its.current) ∙ ap (λ (z : Database). z.over) here ∙ over))
      | inr was ↦ free_still g x t m (blank x.key x.identity (λ same. was.1 (same ∙ sym its.as_begun))) (stand.over x was.0 over)
    ]

    pub stand_behind : (m : Tale) → IsCourse g (log_of all key) es → RestStands (Spells g) g all identity m → StayBlank g identity t m → Covers (Spells g) (site_of g key) identity (log_after_all (log_of all key) es) m → Stand g next m
    stand_behind m course rest blank covers = record { worlds = all_behind m rest covers; logs = logs_behind course; ended = ended_behind course; current = current_behind; over = over_behind m blank }

-- They went on by these events, to worlds of which this is known.
pub record GoneBy (Which : Issue → Type 0) (g : Geometry) (all : List Database) (key : Key) (identity : Identity) (asks : List (Option Change)) (es : List LogEvent) (Then : Core → Type 0) (After : Log → Type 0) (m : Tale) : Type 0 where
  pub goes : GoOnBy Which g all key identity asks After m
  pub same : goes.es ≡ es
  pub known : CoversWith (Spells g) (site_of g key) identity (λ image w. Then w) (log_of (with_events key es all) key) m

-- the same where changes alone were issued
abbrev pub Gone : Geometry → List Database → Key → Identity → List (Option Change) → List LogEvent → (Core → Type 0) → (Log → Type 0) → Tale → Type 0
Gone = GoneBy ChangesAlone

-- A call traces the worlds of the current one, and the rest stands.
pub go_on : (Which : Issue → Type 0) (g : Geometry) (all : List Database) (key : Key) (identity : Identity) (asks : List (Option Change)) (Know : Core → Type 0) (Are : List Event → Type 0) (Then : Core → Type 0) (After : Log → Type 0) (t m : Tale) → Stand g all t → IsCurrentOf all key identity
    → CoversWith (Spells g) (site_of g key) identity (λ image w. Know w) (log_of all key) t → RestStands (Spells g) g all identity m → StayBlank g identity t m
    → (to : GoesTracedBy Which (Spells g) g (site_of g key) identity asks Know Are Then After t m (log_of all key)) → GoneBy Which g all key identity asks to.es Then After m
go_on Which g all key identity asks Know Are Then After t m stand its covers rest blank to =
    let log = log_of all key in
    let next = log_after_all log to.es in
    let known = traced (Spells g) (site_of g key) identity log next Know Are Then t m covers to.traces in
    record {
      goes = record {
        its = its;
        es = to.es;
        course = to.course;
        come = to.come;
        stand = stand_behind g all key identity t stand its to.es m to.course rest blank (covers_known (Spells g) (site_of g key) identity (λ image w. Then w) next m known);
        after = to.after;
      };
      same = refl;
      known = subst (λ (l : Log). CoversWith (Spells g) (site_of g key) identity (λ image w. Then w) l m) (sym (events_log key to.es all its.database its.current)) known;
    }

-- Where nothing is in work then, the database is open.
pub opens : (Which : Issue → Type 0) (g : Geometry) (all : List Database) (key : Key) (identity : Identity) (asks : List (Option Change)) (es : List LogEvent) (After : Log → Type 0) (o : Opened) (m : Tale) → (is : GoneBy Which g all key identity asks es (IsReadyWith (spots_of o.seats)) After m)
    → o.key ≡ key → o.identity ≡ identity → ((log : Log) → After log → IsNewestWritten log o.mark o.table) → (log_after_all (log_of all key) is.goes.es).fate ≡ Lives → IsOpenedAt g o m → IsOpenIn g o (with_events key is.goes.es all) m
opens Which g all key identity asks es After o m is keyed named newest lives opened =
    let now = with_events key is.goes.es all in
    let its = is.goes.its in
    let Ready = λ (k : Key) (i : Identity) (l : Log). CoversWith (Spells g) (site_of g k) i (λ image w. IsReadyWith (spots_of o.seats) w) l m in
    let ready : Ready key identity (log_of now key) = subst (λ (l : List LogEvent). Ready key identity (log_of (with_events key l all) key)) (sym is.same) is.known in
    let last_log = log_after_all (log_of all key) is.goes.es in
    let same : log_of now key ≡ last_log = events_log key is.goes.es all its.database its.current in
    let written : IsNewestWritten (log_of now key) o.mark o.table = subst (λ (l : Log). IsNewestWritten l o.mark o.table) (sym same) (newest last_log is.goes.after) in
    record {
      its = subst (λ (k : Key). IsCurrentOf now k o.identity) (sym keyed) (subst (IsCurrentOf now key) (sym named) (events_its key is.goes.es all identity its));
      lives = subst (λ (k : Key). (log_of now k).fate ≡ Lives) (sym keyed) (ap (λ (l : Log). l.fate) same ∙ lives);
      newest = subst (λ (k : Key). IsNewestWritten (log_of now k) o.mark o.table) (sym keyed) written;
      ready = subst (λ (k : Key). Ready k o.identity (log_of now k)) (sym keyed) (subst (λ (i : Identity). Ready key i (log_of now key)) (sym named) ready);
      opened = opened;
    }
