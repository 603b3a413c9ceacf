-- What a creation leaves of a host's history.
use Rattle.std.proofs.Common.{◌≡◌, ◌⊎◌, inr, ◌+◌, ◌*◌, ◌<◌, ◌≤◌, ℕ, true, false, List, [], ◌∷◌, ◌++◌, Contains, Option, Some, None, IfSome, refl, sym, ◌∙◌, ap, subst}
use Rattle.std.proofs.lemmas.Option.{none-some}
use Rattle.mdv_databases.proofs.Creating.{begun_stand}
use Rattle.mdv_databases.proofs.Lists.{events_log}
use Rattle.mdv_databases.specs.Creating.{IsCreation, IsMadeIn, IsUnmadeIn}
use Rattle.mdv_databases.specs.Going.{GoOn, with_events}
use Rattle.mdv_engine_law.specs.Below.{AreWoken, Created, Creation, Deed, Database, Drives, Event, History, Identity, IoFault, IsMapOf, IsNewestTellable, IsOpenIn, IsOpenedAt, Key, KeptOutside, Log, Map, Opened, Site, SliceLine, Tale, VolId, history_after, is_firm, log_of, site_area, told}
use Rattle.mdv_store.specs.Commit.{AnyLog}
use Rattle.mdv_shown.specs.Site.{size_on}
use Rattle.mdv_store.specs.Create.{IsCreatedTo, seats_asked, table_of}
use Rattle.mdv_store_law.specs.Log as log
use Rattle.mdv_store_law.specs.Part.{IsPart}
use Rattle.mdv_store_law.proofs.Parts.{part_front, part_itself, part_of_part}
use Rattle.mdv_databases.specs.Lasting.{AreFreed}
use Rattle.mdv_layout_law.proofs.Telling.{volumes_tell}
use Rattle.mdv_plan.specs.Table.{empty_table}
use Rattle.mdv_config.specs.Table.{IsOfGeometry}
use Rattle.mdv_volumes.specs.Databases.{with_creation}
use Rattle.mdv_volumes.proofs.Lifting.{creations_go}
use Rattle.mdv_volumes.specs.Happening.{IsOver}
use Rattle.mdv_engine_law.proofs.Freed.{freed_current}
use Rattle.mdv_engine_law.specs.declared.answer.Answer.TheVariants.{Said, Over}
use Rattle.mdv_engine_law.specs.declared.answer.Ended.TheVariants as ended
use Rattle.mdv_engine_law.specs.declared.answer.Outcome.TheVariants as outcome
use Rattle.mdv_engine_law.specs.declared.host.Host.{Host}
use Rattle.mdv_engine_law.specs.Hosts.{IsReady, identity_of, key_of, places_area}
use Rattle.mdv_engine_law.specs.Replies.{AcksAnswer}
use Rattle.mdv_engine_law.specs.Line.{Ask, Memory, deeds, is_in}
use Rattle.mdv_engine_law.specs.Standing.{StandsAt, Goes, Reached, Knows, IsKnown, IsKnownAfter, CarryMoment, CarriedTo, WritesOnly, is_steady}
use Rattle.mdv_engine_law.proofs.Going.{not_among, goes_more, happened}
use Rattle.mdv_engine_law.proofs.Knowing.{same_steady}
use Rattle.mdv_engine_law.proofs.Lifting.{lift_log, never_asked}
use Rattle.mdv_engine_law.proofs.Owning.{own_begun, own_fresh}
use Rattle.mdv_engine_law.proofs.Steady.{free_kept}
use Rattle.mdv_engine_law.proofs.Refusing.{IsFree, of_opened, knows_opened}
use Rattle.mdv_engine_law.proofs.Staying.{stays_on_site}
use Rattle.mdv_engine_law.proofs.Within.{places_on_site}

-- A creation of this run, where no database is open and no call failed in the last boot, on slices of the host's site that have room; its first table is one of the table of drives. It is the first deed of what the line asks, which its `ok` may acknowledge.
module _ (host : Host) (sizes : List ℕ) (ready : IsReady host sizes) (memory : Memory) (none : memory.opened ≡ None) (clean : memory.clean ≡ true) (lines : List SliceLine) (count blocks : ℕ)
    (sites : (line : SliceLine) → Contains lines line → Contains host.site.lines line) (room : (line : SliceLine) → Contains lines line → 16 + count * blocks ≤ line.at.blocks)
    (placed : IsOfGeometry host.drives (table_of (seats_asked (key_of host) (identity_of host memory.begun) lines count blocks))) (t m : Tale) (within : KeptOutside (places_area lines count blocks) t m)
    (ask : Ask) (rest : List Deed) (asks : deeds ask ≡ Created (key_of host) ∷ rest) (acks : AcksAnswer ask (Said outcome.Ok) (Created (key_of host) ∷ [])) (writes : WritesOnly host ask memory t m) where
  abbrev identity : Identity
  identity = identity_of host memory.begun

  -- it may begin in each history that is known
  may : (h : History) → IsKnown host memory h t → IsCreation host.drives h.databases (key_of host) identity lines count blocks t
  may h known = record {
    sound = ready.sound;
    stand = known.stands.databases;
    free = known.free none clean;
    fresh = own_fresh host memory.begun h known.its;
    sites = λ line has. subst (λ (s : Site). Contains s.lines line) ready.site (sites line has);
    within = λ line has. subst (λ (s : Site). line.at.start + line.at.blocks ≤ size_on s line) ready.site (ready.on_shelf.within line (sites line has));
    others = λ d line has differ. absurd (differ (known.its.own d has));
    of_geometry = placed;
  }

  -- and the key's database failed, or was deleted
  free : (h : History) → IsKnown host memory h t → (is_firm (log_of h.databases (key_of host)) ≡ false) ⊎ IsOver h.databases (key_of host)
  free h known = freed_current host.drives h.databases (key_of host) t known.stands.databases (known.free none clean)

  abbrev now : List Database → List Database
  now all = with_creation (key_of host) identity all

  kept : KeptOutside (site_area host.site) t m
  kept = places_on_site t m host.site lines count blocks sites room within

  making : (After : Log → Type 0) (Then : List Event → History → Type 0) (h : History) (known : IsKnown host memory h t) (on : GoOn host.drives (now h.databases) (key_of host) identity [] After m)
      → ((es : List Event) (g : History) → StandsAt host g m → ((drive : ℕ) → is_in (g.up (key_of host)) drive ≡ is_steady memory drive) → g.databases ≡ with_events (key_of host) on.es (now h.databases) → Then es g) → Goes host (deeds ask) [] Then m h
  making After Then h known on then =
      let newly = creations_go host.drives h (key_of host) identity t known.stands (record { fresh = (may h known).fresh; free = free h known }) (begun_stand host.drives h.databases (key_of host) identity lines count blocks t (may h known)) in
      goes_more host (Created (key_of host) ∷ []) [] (deeds ask) [] [] (λ es g. (es ≡ first ∷ []) × (g ≡ history_after h first)) Then t m h (subst (λ (l : List Deed). IsPart (Created (key_of host) ∷ []) l) (sym asks) (part_front (Created (key_of host) ∷ []) rest))
      (happened host (Created (key_of host) ∷ []) (Created (key_of host) ∷ []) [] t h (first ∷ []) newly.happens (refl, tt) (λ es g. (es ≡ first ∷ []) × (g ≡ history_after h first)) (tt, tt) (part_itself (Created (key_of host) ∷ [])) (refl, refl))
      (λ es g there is. subst (λ (w : List Event). Goes host [] [] (λ more. Then (w ++ more)) m g) (sym is.0)
      (subst (λ (x : History). Goes host [] [] (λ more. Then (first ∷ more)) m x) (sym is.1) (went (subst (λ (x : History). StandsAt host x t) is.1 there))))
    where
      first : Event
      first = Creation (key_of host) identity

      nothing : (fs : List log.Event) → IsPart (log.begun_by fs) [] → IsPart (log.begun_by fs) (None ∷ [])
      nothing fs part = part_of_part (log.begun_by fs) [] (None ∷ []) part tt

      went : StandsAt host (history_after h first) t → Goes host [] [] (λ more. Then (first ∷ more)) m (history_after h first)
      went there =
          lift_log host [] (λ more. Then (first ∷ more)) (key_of host) identity [] After t m (subst (λ (s : Site). KeptOutside (site_area s) t m) ready.site kept) tt tt (history_after h first) there on
          (λ table asked. absurd (never_asked on.es table (nothing on.es on.come.begins) asked))
          (λ es g stands databases woken up. then (first ∷ es) g stands (λ drive. ap (λ (of : Key → Drives). is_in (of (key_of host)) drive) up ∙ known.up drive) databases)

  -- how all databases go on by then
  pub making_moment : told m ≡ told t → ((all : List Database) → IsCreation host.drives all (key_of host) identity lines count blocks t → GoOn host.drives (now all) (key_of host) identity [] AnyLog m)
      → CarryMoment host ask memory t m
  making_moment quiet goes =
      record { home = stays_on_site host t m kept; within = writes; quiet = quiet; goes = λ h known. inr (making AnyLog Reached h known (goes h.databases (may h known)) (λ es g there up databases. tt)) }

  -- the blocks of steady drives stay so
  freed : (next : Memory) → ((drive : ℕ) → is_steady next drive ≡ is_steady memory drive) → Knows host memory t → IsFree host next m
  freed next same known = free_kept host sizes ready memory next t m kept (λ drive on. sym (same drive) ∙ on) known.steady

  -- it was made, and its `ok` may be told
  pub made : (o : Opened) (next : Memory) → next.up ≡ memory.up → next.unsteady ≡ memory.unsteady → memory.begun < next.begun → o.key ≡ key_of host → o.table.plan.volumes ≡ [] → next.opened ≡ Some o → IsOpenedAt host.drives o m
      → ((all : List Database) → IsCreation host.drives all (key_of host) identity lines count blocks t → IsMadeIn host.drives (now all) (key_of host) identity o m) → CarriedTo host ask memory (Said outcome.Ok) next t m
  made o next same_up same_unsteady begun its empty opened is goes =
      let same : (drive : ℕ) → is_steady next drive ≡ is_steady memory drive = same_steady memory next same_up same_unsteady in
      let knows : Knows host memory t → Knows host next m = λ known. knows_opened host next o m opened its is (freed next same known) in
      record {
        done = Created (key_of host) ∷ [];
        acks = acks;
        free = λ has. (none, clean);
        goes = λ h known. inr
            (let done = goes h.databases (may h known) in
            making (IsCreatedTo o) (λ es g. IsKnownAfter host (Created (key_of host) ∷ []) (Said outcome.Ok) next g m) h known done.goes (λ es g there up databases. (
              record {
                stands = there;
                its = own_begun host memory.begun h known.its done.goes.es next.begun g begun databases;
                is_open = of_opened next o (λ n. IsOpenIn host.drives n g.databases m) opened (subst (λ (ds : List Database). IsOpenIn host.drives o ds m) (sym databases) done.is_open);
                free = λ closed calm. absurd (cc (opened, closed));
                up = λ drive. up drive ∙ sym (same drive);
                woken = of_opened next o (λ n. AreWoken host.drives n.table (is_steady next) g (key_of host)) opened (λ volume v map upon. absurd (no_map volume v map));
                knows = knows known.knows;
              },
              record { may = tellable h g done databases },
            )));
        knows = knows;
      }
    where
      no_map : (volume : VolId) (v : Map) → IsMapOf host.drives o.table volume v → ⊥
      no_map volume v lies = none-some v (sym (volumes_tell host.drives o.table (empty_table []) volume empty) ∙ lies)

      tellable : (h g : History) (done : IsMadeIn host.drives (now h.databases) (key_of host) identity o m) → g.databases ≡ with_events (key_of host) done.goes.es (now h.databases) → IsNewestTellable (log_of g.databases (key_of host)) None
      tellable h g done databases =
          let own = events_log (key_of host) done.goes.es (now h.databases) done.goes.its.database done.goes.its.current in
          subst (λ (l : Log). IsNewestTellable l None) (sym (ap (λ (ds : List Database). log_of ds (key_of host)) databases ∙ own)) done.goes.after.tellable

  -- it failed, and nothing is there
  pub unmade : (next : Memory) → next.up ≡ memory.up → next.unsteady ≡ memory.unsteady → memory.begun < next.begun → next.opened ≡ None
      → ((all : List Database) → IsCreation host.drives all (key_of host) identity lines count blocks t → IsUnmadeIn host.drives (now all) (key_of host) identity t m)
      → CarriedTo host ask memory (Said (outcome.Refused IoFault)) next t m
  unmade next same_up same_unsteady begun closed goes =
      let same : (drive : ℕ) → is_steady next drive ≡ is_steady memory drive = same_steady memory next same_up same_unsteady in
      let empty : (P : Opened → Type 0) → IfSome next.opened P = λ P. subst (λ (x : Option Opened). IfSome x P) (sym closed) tt in
      let knows : Knows host memory t → Knows host next m = λ known. record { opened = empty (λ o. (o.key ≡ key_of host) × IsOpenedAt host.drives o m); steady = freed next same known } in
      record {
        done = [];
        acks = refl;
        free = λ has. absurd (not_among (Created (key_of host)) has);
        goes = λ h known. inr
            (let done = goes h.databases (may h known) in
            making (λ lg. lg.family ≡ []) (λ es g. IsKnown host next g m) h known done.goes (λ es g there up databases. record {
              stands = there;
              its = own_begun host memory.begun h known.its done.goes.es next.begun g begun databases;
              free = λ none_open calm. subst (λ (ds : List Database). AreFreed host.drives ds (key_of host) m) (sym databases) done.free;
              up = λ drive. up drive ∙ sym (same drive);
              is_open = empty (λ o. IsOpenIn host.drives o g.databases m);
              woken = empty (λ o. AreWoken host.drives o.table (is_steady next) g (key_of host));
              knows = knows known.knows;
            }));
        knows = knows;
      }

  -- whether it is there isn't known
  pub made_or_lost : (active listed : ℕ) (next : Memory) → ((all : List Database) → IsCreation host.drives all (key_of host) identity lines count blocks t → GoOn host.drives (now all) (key_of host) identity [] AnyLog m)
      → CarriedTo host ask memory (Over (ended.Lost active listed)) next t m
  made_or_lost active listed next goes = record {
    done = [];
    acks = refl;
    free = λ has. absurd (not_among (Created (key_of host)) has);
    goes = λ h known. inr (making AnyLog (λ es g. IsKnownAfter host [] (Over (ended.Lost active listed)) next g m) h known (goes h.databases (may h known)) (λ es g there up databases. tt));
    knows = λ known. tt;
  }
