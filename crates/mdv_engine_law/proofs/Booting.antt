-- What a boot leaves of a host's history, and what is known then.
use Rattle.std.proofs.Common.{◌≡◌, ◌⊎◌, inl, inr, ◌<◌, ℕ, zero, suc, ◌&&◌, not, Bool, true, false, List, [], ◌∷◌, ◌++◌, Option, Some, None, Contains, replicate, slice_index_or, refl, sym, ◌∙◌, ap, subst, arith}
use Rattle.std.proofs.lemmas.List.Elements.{Contains-append_left, Contains-append_right, Contains-push}
use Rattle.std.proofs.Math.Bool.{and-true}
use Rattle.std.proofs.lemmas.Bool.{cases_lt}
use Rattle.std.proofs.lemmas.List.{get_or-replicate, get_or_past, length-replicate}
use Rattle.mdv_databases.proofs.Freed.{freed_blank}
use Rattle.mdv_databases.proofs.Lists.{key_itself}
use Rattle.mdv_databases.specs.Booting.{IsBootedIn, MeetsStale}
use Rattle.mdv_databases.specs.Going.{GoOn, with_events}
use Rattle.mdv_databases.specs.Lasting.{AreFreed}
use Rattle.mdv_databases.specs.Standing.{Stand}
use Rattle.mdv_engine_law.specs.Below.{AreWoken, Boots, Database, DriveNo, Drives, Event, HasNoTable, History, Identity, IsMapOf, IsOpenIn, IsOpenedAt, Key, KeptOutside, Log, Map, MayLeave, Opened, Site, Table, Tale, VolId, told, last, log_of, has_drive, history_after, history_after_all, site_area, site_of}
use Rattle.mdv_store.specs.Commit.{AnyLog, IsNewestWritten}
use Rattle.mdv_store_law.specs.Log as log
use Rattle.mdv_store_law.specs.Part.{IsPart}
use Rattle.mdv_store_law.proofs.Parts.{part_of_part}
use Rattle.mdv_store_law.specs.Machine.{AreAll}
use Rattle.mdv_config.specs.Table.{IsOfGeometry}
use Rattle.mdv_volumes.specs.Happening.{IsIssue}
use Rattle.mdv_volumes.specs.HistoryLaws.{IsBooted, Waking, wakings}
use Rattle.mdv_volumes.proofs.Tables.{tables_lie}
use Rattle.mdv_volumes.proofs.Waking.{boots_go}
use Rattle.mdv_volumes.proofs.Standing.{frames_stand}
use Rattle.mdv_map.specs.Maps.{area_of_map}
use Rattle.mdv_shelf.proofs.Frame.{kept_outside_same}
use Rattle.mdv_engine_law.specs.Awake.{BootBegins}
use Rattle.mdv_engine_law.specs.declared.host.Host.{Host}
use Rattle.mdv_engine_law.specs.Hosts.{IsReady, key_of}
use Rattle.mdv_engine_law.specs.Line.{Memory, booted_with, is_in}
use Rattle.mdv_engine_law.specs.Standing.{AreOwn, MeetsStaleAt, StandsAt, Goes, IsOfRun, Knows, IsKnown, BootMoment, BootedTo, is_steady}
use Rattle.mdv_engine_law.proofs.Going.{AllAwake, goes_more, goes_none, happened, met_or}
use Rattle.mdv_engine_law.proofs.Lifting.{lift_log, never_asked}
use Rattle.mdv_engine_law.proofs.Ready.{own_drives_lie}
use Rattle.mdv_engine_law.proofs.Refusing.{IsFree}
use Rattle.mdv_engine_law.proofs.Owning.{own_gone, own_still}
use Rattle.mdv_engine_law.proofs.Steady.{not_true, plain_outside}

-- the first numbers, so many
abbrev all_below : ℕ → Drives
all_below zero = []
all_below (suc n) = true ∷ all_below n

is_below : (n drive : ℕ) → drive < n → is_in (all_below n) drive ≡ true
is_below zero drive less = absurd (omega (arith, less))
is_below (suc n) zero less = refl
is_below (suc n) (suc drive) less = is_below n drive (omega (arith, less))

-- of a host that is ready some drives have all its own among them
pub all_own : (host : Host) (sizes : List ℕ) → IsReady host sizes → (up : Drives) × ((drive : DriveNo) → Contains host.site.drives drive → has_drive up drive ≡ true)
all_own host sizes ready = (all_below 256, λ drive one_of. (let own = own_drives_lie host sizes ready in is_below 256 drive.0 (omega (arith, own.few, (own.each drive one_of).known))))

-- a boot's beginning is among events one behind another
pub booted_first : (key : Key) (up : Drives) (es fs : List Event) → BootBegins key up es → BootBegins key up (es ++ fs)
booted_first key up es fs has = Contains-append_left es fs (Boots key up) has

pub booted_second : (key : Key) (up : Drives) (es fs : List Event) → BootBegins key up fs → BootBegins key up (es ++ fs)
booted_second key up es fs has = Contains-append_right es fs (Boots key up) has

-- wakings read and write no volume, and create nothing
wakings_awake : (host : Host) (key : Key) (ws : List Waking) (h : History) → AllAwake host h (wakings key ws)
wakings_awake host key [] h = tt
wakings_awake host key (w ∷ ws) h = (tt, wakings_awake host key ws _)

wakings_issue : (host : Host) (key : Key) (ws : List Waking) → AreAll (IsIssue (IsOfRun host [])) (wakings key ws)
wakings_issue host key [] = tt
wakings_issue host key (w ∷ ws) = (tt, wakings_issue host key ws)

none_in : (count drive : ℕ) → slice_index_or (replicate count false) drive false ≡ false
none_in count drive = elim (cases_lt drive count) [
  | inl below ↦ get_or-replicate count drive false false below
  | inr past ↦ get_or_past (replicate count false) drive false (omega (arith, past, length-replicate count false))
]

-- behind a boot the drives that it brought up are steady
booted_steady : (opened : Option Opened) (up : Drives) (clean : Bool) (begun : ℕ) (drive : ℕ) → is_steady (booted_with opened up clean begun) drive ≡ is_in up drive
booted_steady opened up clean begun drive = ap (λ (b : Bool). is_in up drive && not b) (none_in 256 drive) ∙ and-true (is_in up drive)

-- a boot of the host began that brings these drives up, and none since; and the databases are the host's own that were
abbrev pub HasBegun : Host → Drives → History → List Event → History → Type 0
HasBegun host up before es h = BootBegins (key_of host) up es × (h.up (key_of host) ≡ up) × ((begun : ℕ) → AreOwn host begun before → AreOwn host begun h)

-- a boot of the host that begins there meets a stale vote
abbrev pub MeetsStaleIn : Host → List Database → Tale → Type 0
MeetsStaleIn host all t = (up : Drives) × MeetsStale up host.drives all (key_of host) (last t)

-- how all databases go on while one boots: they stand as they did, or the key's current one goes on with nothing asked, if the boot met no stale vote
abbrev pub BootsOn : Host → Tale → Tale → Type 0
BootsOn host t m = (all : List Database) → Stand host.drives all t → Stand host.drives all m ⊎ (((identity : Identity) × GoOn host.drives all (key_of host) identity [] AnyLog m) ⊎ MeetsStaleIn host all t)

-- and where one is adopted
abbrev pub AdoptsOn : Host → Opened → Tale → Tale → Type 0
AdoptsOn host o t u = (all : List Database) → Stand host.drives all t → IsBootedIn host.drives all (key_of host) o u ⊎ MeetsStaleIn host all t

module _ (host : Host) (sizes : List ℕ) (ready : IsReady host sizes) (t : Tale) (up : Drives) where
  -- a boot begins, by which nothing is done
  begins : (h : History) → StandsAt host h t → StandsAt host (history_after h (Boots (key_of host) up)) t
  begins h stands = record { databases = stands.databases; laid = stands.laid; apart = stands.apart; volumes = stands.volumes }

  has_begun : (h : History) → HasBegun host up h (Boots (key_of host) up ∷ []) (history_after h (Boots (key_of host) up))
  has_begun h = (Contains-push [] (Boots (key_of host) up), own_up, λ number its. own_still host number h its number (history_after h (Boots (key_of host) up)) (omega arith) refl) where
    own_up : (history_after h (Boots (key_of host) up)).up (key_of host) ≡ up
    own_up = let itself = key_itself (key_of host) in rw itself refl

  abbrev behind : History → History
  behind h = history_after h (Boots (key_of host) up)

  -- what goes on from there goes on from before
  boot_then : (Then : List Event → History → Type 0) (m : Tale) (h : History) → Goes host [] [] (λ fs. Then (Boots (key_of host) up ∷ fs)) m (behind h) → Goes host [] [] Then m h
  boot_then Then m h goes = record {
    es = Boots (key_of host) up ∷ goes.es;
    course = ((tt, tt), goes.course);
    come = record { tells = goes.come.tells; issues = (tt, goes.come.issues); begins = goes.come.begins };
    stands = goes.stands;
    after = goes.after;
  }

  its_site : (m : Tale) → KeptOutside (site_area host.site) t m → KeptOutside (site_area (site_of host.drives (key_of host))) t m
  its_site m kept = subst (λ (s : Site). KeptOutside (site_area s) t m) ready.site kept

  -- where all databases stand still, and nothing is done but where replicas of the host's may lie, so does the history
  stands_beside : (h : History) (m : Tale) → KeptOutside (site_area host.site) t m → StandsAt host h t → Stand host.drives h.databases m → StandsAt host h m
  stands_beside h m kept stands databases = record {
    databases = databases;
    laid = stands.laid;
    apart = stands.apart;
    volumes = λ key volume v named.
        let laid = stands.laid key named.version named.found in
        frames_stand.outside v (site_area (site_of host.drives (key_of host))) (h.volumes key volume) t m (laid.disjoint volume v named.map) (λ drive block in_site in_map. laid.clear volume v named.map (key_of host) drive block in_map in_site) (its_site m kept)
        (stands.volumes key volume v named);
  }

  nothing : (fs : List log.Event) → IsPart (log.begun_by fs) [] → IsPart (log.begun_by fs) (None ∷ [])
  nothing fs within = part_of_part (log.begun_by fs) [] (None ∷ []) within tt

  still : (g k : History) → k.up ≡ g.up → g.up (key_of host) ≡ up → k.up (key_of host) ≡ up
  still g k same is = ap (λ (drives : Key → Drives). drives (key_of host)) same ∙ is

  -- events of the log of the key's current one leave that
  gone : (before g k : History) (es fs : List Event) (changes : List log.Event) → HasBegun host up before es g → k.databases ≡ with_events (key_of host) changes g.databases → k.up ≡ g.up → HasBegun host up before (es ++ fs) k
  gone before g k es fs changes has databases drives =
      (booted_first (key_of host) up es fs has.0, still g k drives has.1, λ number its. own_gone host number g (has.2 number its) (key_of host) changes number k (omega arith) databases)

  -- what happens to the key's current one behind its beginning, with nothing asked
  current_then : (After : Log → Type 0) (m : Tale) → KeptOutside (site_area host.site) t m → (h : History) → StandsAt host h t → (Then : List Event → History → Type 0) (identity : Identity) (on : GoOn host.drives h.databases (key_of host) identity [] After m)
      → ((es : List Event) (g : History) → StandsAt host g m → g.databases ≡ with_events (key_of host) on.es h.databases → HasBegun host up h es g → Then es g) → Goes host [] [] Then m h
  current_then After m kept h stands Then identity on then = boot_then Then m h
      (lift_log host [] (λ fs. Then (Boots (key_of host) up ∷ fs)) (key_of host) identity [] After t m (its_site m kept) tt tt (behind h) (begins h stands) on
      (λ table asked. absurd (never_asked on.es table (nothing on.es on.come.begins) asked))
      (λ fs k now databases woken drives. then (Boots (key_of host) up ∷ fs) k now databases (gone h (behind h) k (Boots (key_of host) up ∷ []) fs on.es (has_begun h) databases drives)))

  -- the databases go on by what a boot does there
  pub booting : (m : Tale) → KeptOutside (site_area host.site) t m → BootsOn host t m → (h : History) → StandsAt host h t → (Then : List Event → History → Type 0)
      → ((es : List Event) (g : History) → StandsAt host g m → HasBegun host up h es g → Then es g) → MeetsStaleAt host h t ⊎ Goes host [] [] Then m h
  booting m kept goes h stands Then then = by (goes h.databases stands.databases) where
    by : Stand host.drives h.databases m ⊎ (((identity : Identity) × GoOn host.drives h.databases (key_of host) identity [] AnyLog m) ⊎ MeetsStaleIn host h.databases t) → MeetsStaleAt host h t ⊎ Goes host [] [] Then m h
    by (inl databases) =
        let now = stands_beside (behind h) m kept (begins h stands) databases in
        inr (boot_then Then m h (goes_none host [] (λ fs. Then (Boots (key_of host) up ∷ fs)) m (behind h) now (then (Boots (key_of host) up ∷ []) (behind h) now (has_begun h))))
    by (inr (inl (identity, on))) = inr (current_then AnyLog m kept h stands Then identity on (λ es g now databases has. then es g now has))
    by (inr (inr stale)) = inl stale

  -- the key's current one is adopted
  pub adopting : (o : Opened) (u : Tale) → KeptOutside (site_area host.site) t u → AdoptsOn host o t u → (h : History) → StandsAt host h t
      → (Then : List Event → History → Type 0) → ((es : List Event) (g : History) → StandsAt host g u → HasBegun host up h es g → IsOpenIn host.drives o g.databases u → Then es g) → MeetsStaleAt host h t ⊎ Goes host [] [] Then u h
  adopting o u kept goes h stands Then then = by (goes h.databases stands.databases) where
    by : IsBootedIn host.drives h.databases (key_of host) o u ⊎ MeetsStaleIn host h.databases t → MeetsStaleAt host h t ⊎ Goes host [] [] Then u h
    by (inl is) = inr (current_then (λ lg. IsNewestWritten lg o.mark o.table) u kept h stands Then o.identity is.goes
        (λ es g now databases has. then es g now has (subst (λ (ds : List Database). IsOpenIn host.drives o ds u) (sym databases) is.is_open)))
    by (inr stale) = inl stale

  -- Behind it a crash leaves what a read gives of each block of the drives that it brought up, but for those where replicas may lie.
  module _ (u : Tale) (kept : KeptOutside (site_area host.site) t u) (quiet : told u ≡ told t) (clean : Bool) (number : ℕ) where
    free : ((drive : DriveNo) (block : ℕ) → has_drive up drive ≡ true → site_area host.site drive.0 block ≡ false → (x : List ℕ) → MayLeave u drive.0 block x → x ≡ last u drive.0 block)
        → (opened : Option Opened) → IsFree host (booted_with opened up clean number) u
    free rests opened drive block on plain x left = rests (record { 0 = drive }) block (sym (booted_steady opened up clean number drive) ∙ on) (plain_outside host sizes ready drive block plain) x left

    -- it adopted a database, whose newest table this is: each volume on those drives is woken
    woken : ((drive : DriveNo) (block : ℕ) → has_drive up drive ≡ true → site_area host.site drive.0 block ≡ false → (x : List ℕ) → MayLeave u drive.0 block x → x ≡ last u drive.0 block) → (o : Opened) → o.key ≡ key_of host → IsOfGeometry host.drives o.table
        → (g : History) → StandsAt host g u → IsOpenIn host.drives o g.databases u → g.up (key_of host) ≡ up
        → Goes host [] [] (λ fs k. (k.databases ≡ g.databases) × (k.up (key_of host) ≡ up) × AreWoken host.drives o.table (is_in up) k (key_of host)) u g
    woken rests o its of_geometry g there is_open drives =
        let is : IsNewestWritten (log_of g.databases (key_of host)) o.mark o.table = subst (λ (k : Key). IsNewestWritten (log_of g.databases k) o.mark o.table) its is_open.newest in
        let booted : IsBooted host.drives g (key_of host) is.newest.version (is_in up) u = record {
          lives = subst (λ (k : Key). (log_of g.databases k).fate ≡ log.Lives) its is_open.lives;
          older = is.newest.older;
          family = is.newest.family;
          written = is.written;
          of_geometry = subst (λ (x : Table). IsOfGeometry host.drives x) (sym is.newest.same) of_geometry;
          still = λ volume v drive block lies has on. rests (record { 0 = drive }) block on (out (is.newest.version.table) (subst (λ (x : Table). IsOfGeometry host.drives x) (sym is.newest.same) of_geometry) volume v drive block lies has);
        } in
        let all = boots_go.all host.drives g (key_of host) is.newest.version (is_in up) u booted there in
        happened host [] [] [] u g (wakings (key_of host) all.0) all.1.happens (wakings_issue host (key_of host) all.0)
        (λ fs k. (k.databases ≡ g.databases) × (k.up (key_of host) ≡ up) × AreWoken host.drives o.table (is_in up) k (key_of host)) (wakings_awake host (key_of host) all.0 g) tt (
          all.1.databases,
          ap (λ (of : Key → Drives). of (key_of host)) all.1.up ∙ drives,
          subst (λ (table : Table). AreWoken host.drives table (is_in up) (history_after_all g (wakings (key_of host) all.0)) (key_of host)) is.newest.same all.2,
        )
      where
        -- no slice where replicas may lie has a block of a volume
        out : (table : Table) → IsOfGeometry host.drives table → (volume : VolId) (v : Map) (drive block : ℕ) → IsMapOf host.drives table volume v → area_of_map v drive block ≡ true → site_area host.site drive block ≡ false
        out table listed volume v drive block lies has = not_true (site_area host.site drive block) (λ here.
            (tables_lie.laid host.drives table ready.sound listed).clear volume v lies (key_of host) drive block has (subst (λ (s : Site). site_area s drive block ≡ true) ready.site here))

    pub booted_adopted : ((drive : DriveNo) (block : ℕ) → has_drive up drive ≡ true → site_area host.site drive.0 block ≡ false → (x : List ℕ) → MayLeave u drive.0 block x → x ≡ last u drive.0 block)
        → (o : Opened) → o.key ≡ key_of host → IsOpenedAt host.drives o u → AdoptsOn host o t u → BootedTo host (booted_with (Some o) up clean number) t u
    booted_adopted rests o its opened goes =
        let memory = booted_with (Some o) up clean number in
        let knows : Knows host memory u = record { opened = (its, opened); steady = free rests (Some o) } in
        record {
          kept = kept;
          quiet = quiet;
          knows = knows;
          goes = λ h stands own. met_or
              (λ adopted. goes_more host [] [] [] [] [] (λ es g. HasBegun host up h es g × IsOpenIn host.drives o g.databases u) (λ es g. IsKnown host memory g u × BootBegins (key_of host) up es) u u h tt adopted
              (λ es g there before. (
              let went = woken rests o its opened.of_geometry g there before.1 before.0.1 in
              record {
                es = went.es;
                course = went.course;
                come = went.come;
                stands = went.stands;
                after = (
                  record {
                    stands = went.stands;
                    its = own_still host number g (before.0.2 number own) number (history_after_all g went.es) (omega arith) went.after.0;
                    is_open = subst (λ (ds : List Database). IsOpenIn host.drives o ds u) (sym went.after.0) before.1;
                    free = λ closed calm. absurd (cc (closed));
                    up = λ drive. ap (λ (drives : Drives). is_in drives drive) went.after.1 ∙ sym (booted_steady (Some o) up clean number drive);
                    woken = λ volume v lies upon. went.after.2 volume v lies (λ b drive block lt has. sym (booted_steady (Some o) up clean number drive) ∙ upon b drive block lt has);
                    knows = knows;
                  },
                  booted_first (key_of host) up es went.es before.0.0,
                );
              }
              )))
              (adopting o u kept goes h stands (λ es g. HasBegun host up h es g × IsOpenIn host.drives o g.databases u) (λ es g there has is. (has, is)));
        }

    -- one that was about to be deleted is gone, and another one may be created then
    abbrev EndsThen : History → Type 0
    EndsThen g = (identity : Identity) × (goes : GoOn host.drives g.databases (key_of host) identity [] AnyLog u) × AreFreed host.drives (with_events (key_of host) goes.es g.databases) (key_of host) u

    -- so it is where no call failed, because there is nothing
    free_then : (clean ≡ true → HasNoTable host.drives (key_of host) u) → (g : History) → StandsAt host g u → (clean ≡ true → AreFreed host.drives g.databases (key_of host) u) ⊎ EndsThen g
    free_then none g there = by clean refl where
      by : (c : Bool) → clean ≡ c → (clean ≡ true → AreFreed host.drives g.databases (key_of host) u) ⊎ EndsThen g
      by false is = inl (λ calm. absurd (cc (is, calm)))
      by true is = elim (freed_blank host.drives g.databases (key_of host) u there.databases (none is)) [ inl are ↦ inl (λ calm. are) | inr ends ↦ inr ends ]

    abbrev closed : Memory
    closed = booted_with None up clean number

    -- what is known then, and that the boot began
    abbrev IsClosed : List Event → History → Type 0
    IsClosed es g = IsKnown host closed g u × BootBegins (key_of host) up es

    module _ (knows : Knows host closed u) (h : History) (own : AreOwn host number h) where
      known_closed : (es : List Event) (g : History) → StandsAt host g u → HasBegun host up h es g → (clean ≡ true → AreFreed host.drives g.databases (key_of host) u) → IsClosed es g
      known_closed es g there has are = (record { stands = there; its = has.2 number own; is_open = tt; free = λ none calm. are calm; up = λ drive. ap (λ (drives : Drives). is_in drives drive) has.1 ∙ sym (booted_steady None up clean number drive); woken = tt; knows = knows }, has.0)

      closing : (es : List Event) (g : History) → StandsAt host g u → HasBegun host up h es g → (clean ≡ true → AreFreed host.drives g.databases (key_of host) u) ⊎ EndsThen g → Goes host [] [] (λ fs. IsClosed (es ++ fs)) u g
      closing es g there has (inl are) = goes_none host [] (λ fs. IsClosed (es ++ fs)) u g there (known_closed (es ++ []) g there (booted_first (key_of host) up es [] has.0, has.1, has.2) are)
      closing es g there has (inr (identity, on, are)) =
          lift_log host [] (λ fs. IsClosed (es ++ fs)) (key_of host) identity [] AnyLog u u (kept_outside_same (site_area (site_of host.drives (key_of host))) u) tt tt g there on
          (λ table asked. absurd (never_asked on.es table (nothing on.es on.come.begins) asked))
          (λ fs k now databases woken drives. known_closed (es ++ fs) k now (gone h g k es fs on.es has databases drives) (λ calm. subst (λ (ds : List Database). AreFreed host.drives ds (key_of host) u) (sym databases) are))

    -- it opened none
    pub booted_none : ((drive : DriveNo) (block : ℕ) → has_drive up drive ≡ true → site_area host.site drive.0 block ≡ false → (x : List ℕ) → MayLeave u drive.0 block x → x ≡ last u drive.0 block)
        → (clean ≡ true → HasNoTable host.drives (key_of host) u) → BootsOn host t u → BootedTo host (booted_with None up clean number) t u
    booted_none rests none goes =
        let knows : Knows host closed u = record { opened = tt; steady = free rests None } in
        record {
          kept = kept;
          quiet = quiet;
          knows = knows;
          goes = λ h stands own. met_or
              (λ booted. goes_more host [] [] [] [] [] (λ es g. HasBegun host up h es g) IsClosed u u h tt booted (λ es g there has. closing knows h own es g there has (free_then none g there)))
              (booting u kept goes h stands (λ es g. HasBegun host up h es g) (λ es g there has. has));
        }

-- a moment of a boot
pub boot_moment : (host : Host) (sizes : List ℕ) → IsReady host sizes → (t m : Tale) → KeptOutside (site_area host.site) t m → told m ≡ told t → BootsOn host t m → BootMoment host t m
boot_moment host sizes ready t m kept quiet goes =
    let all = all_own host sizes ready in
    record {
      kept = kept;
      quiet = quiet;
      goes = λ h stands. booting host sizes ready t all.0 m kept goes h stands (λ es g. (up : Drives) × BootBegins (key_of host) up es × ((drive : DriveNo) → Contains host.site.drives drive → has_drive up drive ≡ true)) (λ es g there has. (all.0, has.0, all.1));
    }
