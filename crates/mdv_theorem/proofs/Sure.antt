-- What is known at each place between two lines of a run: of a history with which the drives stand there, and that they read as they are kept.
use Rattle.std.proofs.Common.{◌≡◌, ℕ, ◌+◌, List, [], length, Some, refl, sym, ap, subst, IfSome, Option, false, None}
use Rattle.mdv_engine_law.specs.Hosts.{key_of, opened_area}
use Rattle.mdv_engine_law.specs.Line.{IsSame, Kept, Memory, contents}
use Rattle.mdv_engine_law.specs.Standing.{AreOwn, IsKnown, StandsAt}
use Rattle.mdv_engine_law.specs.declared.host.Host.{Host}
use Rattle.mdv_port.specs.Script.{Script}
use Rattle.mdv_run_law.specs.Run.{At, Counts, LineTold, LinesTold, Stretch, behind_boot, no_line, one_more}
use Rattle.mdv_run_law.specs.Told.{RunToldBy}
use Rattle.mdv_run_law.proofs.Since.{since_itself, since_more}
use Rattle.mdv_run_law.specs.Standing.{AreIdle}
use Rattle.mdv_shelf.specs.Moments.{IsSince}
use Rattle.mdv_theorem.proofs.Come.{CameBehind, HasCome, HasMetNothing, come_boot, come_lines}
use Rattle.mdv_shelf.specs.Story.{Moment, Story, marked, tale_of}
use Rattle.mdv_shelf.specs.Tale.{Tale}
use Rattle.mdv_shown.specs.Sites.{site_of}
use Rattle.mdv_volumes.specs.History.{History}
use Rattle.mdv_volumes.proofs.Found.{AreLasting, lasting_at}
use Rattle.mdv_volumes.proofs.Databases.{is_log_of}
use Rattle.mdv_volumes.specs.Databases.{log_of}
use Rattle.mdv_store_law.specs.Log.{Lives}
use Rattle.mdv_store.specs.Commit.{IsNewestWritten}
use Rattle.mdv_databases.specs.Going.{IsOpenIn}
use Rattle.mdv_store.specs.Opened.{IsOpenedAt, Opened}
use Rattle.mdv_config.specs.Table.{IsOfGeometry}
use Rattle.mdv_base.specs.declared.name.Key.{Key}
use Rattle.mdv_run_law.proofs.Extents.{SeesOwn}
use Rattle.mdv_shown.specs.declared.site.Site.{Site}
use Rattle.mdv_shown.specs.Site.{site_area}
use Rattle.mdv_plan.specs.declared.table.Table.{Table}
use Rattle.mdv_engine_law.proofs.Within.{outside_seats}

-- a history is known with what is in memory, at a tale by which the drives read as they are kept
pub record IsSure (host : Host) (kept : Kept) : Type 0 where
  pub tale : Tale
  pub history : History
  pub known : IsKnown host kept.memory history tale
  pub reads : IsSame kept.content (contents tale)

-- So it is at a place of a run's story: the history is the one with which the drives stood as the run began, gone on by the events of its boot and of its lines so far.
module _ (host : Host) (script : Script) (h : History) (t : Tale) where
  pub record IsSureAt (at : At) : Type 0 where
    pub story : Story
    pub is : at.story ≡ Some story
    pub come : HasCome host script h t at.kept.memory at.script (tale_of story)
    pub reads : IsSame at.kept.content (contents (tale_of story))

  -- no boot of the run met a stale vote by that moment
  module _ (m : Tale) (none : HasMetNothing host script h t m) where
    -- so it is behind the next line, to which its events led
    pub record SureOn (now mid : At) (sure : IsSureAt now) : Type 0 where
      pub next : IsSureAt mid
      pub came : CameBehind host script h t now.kept.memory now.script (tale_of sure.story) sure.come mid.kept.memory mid.script (tale_of next.story)
      pub its : next.come ≡ came.behind_it

    pub sure_on : (now mid : At) (piece : List ℕ) → LineTold host now piece mid → (sure : IsSureAt now) → ((v : Story) → mid.story ≡ Some v → IsSince (tale_of v) m) → SureOn now mid sure
    sure_on now mid piece told sure since =
        let to = told.passage.in_time.drives 0 sure.story sure.is in
        let v = marked sure.story to.0 in
        let came = come_lines host script h t now.kept.memory now.script (tale_of sure.story) sure.come mid.kept.memory mid.script (tale_of v) m (told.leads sure.story v sure.is to.1) (since v to.1) none in
        record { next = record { story = v; is = to.1; come = came.behind_it; reads = told.passage.reads v to.1 }; came = came; its = refl }

-- lines, one behind the other, lead from each place on
pub lines_since : (host : Host) (stretch : Stretch) (bytes : ℕ) (now last : At) (front : List ℕ) → LinesTold host stretch bytes now front last → (s : Story) → now.story ≡ Some s → (u : Story) × (last.story ≡ Some u) × IsSince (tale_of s) (tale_of u)
lines_since host stretch bytes now last front (no_line n there) s is = (s, is, since_itself (tale_of s))
lines_since host stretch bytes now last front (one_more n there mid end piece left some told shown lines) s is =
    let to = told.passage.in_time.drives 0 s is in
    let v = marked s to.0 in
    let rest = lines_since host stretch (bytes + length piece) mid last left lines v to.1 in
    (rest.0, rest.1, since_more (tale_of s) (tale_of v) (tale_of rest.0) (told.leads s v is to.1).since rest.2)

-- what is so of the last of them is so of each
pub since_last : (host : Host) (stretch : Stretch) (bytes : ℕ) (now last : At) (front : List ℕ) (m : Tale) → LinesTold host stretch bytes now front last → ((u : Story) → last.story ≡ Some u → IsSince (tale_of u) m) → (s : Story) → now.story ≡ Some s → IsSince (tale_of s) m
since_last host stretch bytes now last front m lines behind s is = (let to = lines_since host stretch bytes now last front lines s is in since_more (tale_of s) (tale_of to.0) m to.2 (behind to.0 to.1))

module _ (host : Host) (stretch : Stretch) (start : Counts) (t : Tale) (script : Script) (told : List ℕ) (m : Moment) (by : RunToldBy host stretch start t script told m) where
  -- as the run began no creation was begun, and no entry was kept
  pub none_begun : by.kept.memory.begun ≡ 0
  none_begun = ap (λ (k : Memory). k.begun) (by.boots.memory refl)

  none_kept : by.kept.memory.entries ≡ []
  none_kept = ap (λ (k : Memory). k.entries) (by.boots.memory refl)

  abbrev pub booted : At
  booted = behind_boot by.booted by.by by.kept script

  -- behind the run's boot
  pub sure_boot : (s : Story) → stretch.old ≡ Some s → (h : History) → StandsAt host h t → AreOwn host 0 h → HasMetNothing host script h t m.tale → (sure : IsSureAt host script h t booted) × AreIdle host sure.come.es
  sure_boot s is h stands own none =
      let to = by.point.in_time.drives 0 s is in
      let v = marked s to.0 in
      let up = by.leads v to.1 in
      let come = come_boot host script h t by.kept.memory (tale_of v) m.tale stands own none_begun none_kept up.booted up.since none in
      (record { story = v; is = to.1; come = come.0; reads = by.point.reads v to.1 }, come.1)

module _ (host : Host) where
  -- what is open where a history is known is of the host's key, and whatever a crash leaves has it
  pub open_is : (memory : Memory) (h : History) (t : Tale) (o : Opened) → IsKnown host memory h t → memory.opened ≡ Some o → (o.key ≡ key_of host) × IsOpenedAt host.drives o t
  open_is memory h t o known opened = subst (λ (x : Option Opened). IfSome x (λ p. (p.key ≡ key_of host) × IsOpenedAt host.drives p t)) opened known.knows.opened

  -- its table is the newest one, whose write was answered
  pub open_newest : (memory : Memory) (h : History) (t : Tale) (o : Opened) → IsKnown host memory h t → memory.opened ≡ Some o → IsNewestWritten (log_of h.databases (key_of host)) o.mark o.table
  open_newest memory h t o known opened =
      let is : IsOpenIn host.drives o h.databases t = subst (λ (x : Option Opened). IfSome x (λ p. IsOpenIn host.drives p h.databases t)) opened known.is_open in
      subst (λ (k : Key). IsNewestWritten (log_of h.databases k) o.mark o.table) (open_is memory h t o known opened).0 is.newest

  -- it isn't about to be deleted
  pub open_lives : (memory : Memory) (h : History) (t : Tale) (o : Opened) → IsKnown host memory h t → memory.opened ≡ Some o → (log_of h.databases (key_of host)).fate ≡ Lives
  open_lives memory h t o known opened =
      let is : IsOpenIn host.drives o h.databases t = subst (λ (x : Option Opened). IfSome x (λ p. IsOpenIn host.drives p h.databases t)) opened known.is_open in
      subst (λ (k : Key). (log_of h.databases k).fate ≡ Lives) (open_is memory h t o known opened).0 is.lives

  -- so each table that a boot may find is so, if it is
  pub open_lasting : (memory : Memory) (h : History) (t : Tale) (o : Opened) → IsKnown host memory h t → memory.opened ≡ Some o → (P : Table → Type 0) → P o.table → AreLasting host.drives P (log_of h.databases (key_of host))
  open_lasting memory h t o known opened P has =
      let is = open_newest memory h t o known opened in
      lasting_at host.drives P (log_of h.databases (key_of host)) is.newest.version is.newest.older (is_log_of host.drives h.databases t known.stands.databases (key_of host)) is.newest.family is.written (open_lives memory h t o known opened) (subst P (sym is.newest.same) has)

  pub sure_table : (kept : Kept) (o : Opened) → IsSure host kept → kept.memory.opened ≡ Some o → IsOfGeometry host.drives o.table
  sure_table kept o sure opened = (open_is kept.memory sure.history sure.tale o sure.known opened).1.of_geometry

  -- its places lie where a boot looks
  pub opened_outside : SeesOwn host → (memory : Memory) (h : History) (t : Tale) → IsKnown host memory h t → (drive block : ℕ) → site_area host.site drive block ≡ false → opened_area memory.opened drive block ≡ false
  opened_outside sees memory h t known drive block out = by memory.opened refl where
    by : (x : Option Opened) → memory.opened ≡ x → opened_area x drive block ≡ false
    by None is = refl
    by (Some o) opened =
        let is = open_is memory h t o known opened in
        let there : site_area (site_of host.drives (key_of host)) drive block ≡ false = subst (λ (s : Site). site_area s drive block ≡ false) sees out in
        outside_seats host.drives o t is.1 drive block (subst (λ (k : Key). site_area (site_of host.drives k) drive block ≡ false) (sym is.0) there)
