-- What a commit of a change leaves of a host's history.
use Rattle.std.proofs.Common.{◌≡◌, inr, ◌≤◌, ℕ, false, List, [], ◌∷◌, ◌++◌, Some, refl, sym, ◌∙◌, ap, subst}
use Rattle.mdv_databases.proofs.Lists.{events_log}
use Rattle.mdv_databases.specs.Committing.{IsCommit, IsCommittedIn}
use Rattle.mdv_databases.specs.Going.{GoOn, IsCurrentOf, with_events}
use Rattle.mdv_databases.specs.Standing.{Stand}
use Rattle.mdv_engine_law.specs.Below.{Created, AreWoken, Change, Changed, Database, Drives, Event, History, IsOpenIn, IsOpenedAt, Key, KeptOutside, Log, OfPlan, Opened, PlanChange, Table, Tale, log_of, seats_area, site_area, site_of, told}
use Rattle.mdv_store.specs.Commit.{AnyLog, IsCommittedTo}
use Rattle.mdv_store_law.specs.Log as log
use Rattle.mdv_store_law.specs.Log.{IsMade, IsNewestTellable}
use Rattle.mdv_store_law.specs.Part.{IsPart}
use Rattle.mdv_volumes.specs.Happening.{deed_of}
use Rattle.mdv_volumes.specs.HistoryLaws.{IsReady as IsTableReady}
use Rattle.mdv_shelf.proofs.Frame.{kept_outside_wider}
use Rattle.mdv_engine_law.specs.declared.answer.Answer.TheVariants.{Said, Over}
use Rattle.mdv_engine_law.specs.declared.answer.Ended.TheVariants as ended
use Rattle.mdv_engine_law.specs.declared.answer.Outcome.TheVariants as outcome
use Rattle.mdv_engine_law.specs.declared.host.Host.{Host}
use Rattle.mdv_engine_law.specs.Hosts.{IsReady, key_of}
use Rattle.mdv_engine_law.specs.Line.{Memory, ToDo, is_in}
use Rattle.mdv_engine_law.specs.Standing.{StandsAt, Goes, Reached, Knows, IsKnown, IsKnownAfter, CarryMoment, CarriedTo, is_steady}
use Rattle.mdv_store_law.proofs.Parts.{part_itself}
use Rattle.mdv_engine_law.proofs.Going.{not_among, not_other, goes_more, happened}
use Rattle.mdv_engine_law.proofs.Growing.{IsGrown, are_woken, grown, grown_stands, only_asked, ready_grown}
use Rattle.mdv_volumes.proofs.Lists.{contains_first}
use Rattle.mdv_engine_law.proofs.Knowing.{same_steady}
use Rattle.mdv_engine_law.proofs.Lifting.{lift_log}
use Rattle.mdv_engine_law.proofs.Owning.{own_gone}
use Rattle.mdv_engine_law.proofs.Refusing.{known_open, knows_its, of_opened, knows_opened}
use Rattle.mdv_engine_law.proofs.Staying.{stays_on_site}
use Rattle.mdv_engine_law.proofs.Steady.{free_kept}
use Rattle.mdv_engine_law.proofs.Within.{opened_kept}

-- A change of the open database, and the table that it makes; of each of its seats the replica lies on a slice of the host's site.
module _ (host : Host) (sizes : List ℕ) (ready : IsReady host sizes) (memory : Memory) (o : Opened) (opened : memory.opened ≡ Some o) (alters : PlanChange) (table : Table)
    (made : IsMade host.drives (Some (OfPlan alters)) o.table table) (seated : (drive block : ℕ) → site_area host.site drive block ≡ false → seats_area o.seats drive block ≡ false)
    (t m : Tale) (within : KeptOutside (seats_area o.seats) t m) where
  abbrev change : Change
  change = OfPlan alters

  kept : KeptOutside (site_area host.site) t m
  kept = kept_outside_wider (seats_area o.seats) (site_area host.site) t m seated within

  is_commit : (h : History) → IsKnown host memory h t → IsCommit host.drives h.databases o (Some change) table t
  is_commit h known = record { stand = known.stands.databases; is_open = known_open host memory o opened t h known; of_geometry = made.1.next_of; made = made }

  changing : (After : Log → Type 0) (Then : List Event → History → Type 0) (h : History) (known : IsKnown host memory h t) (goes : GoOn host.drives h.databases o.key o.identity (Some change ∷ []) After m)
      → ((es : List Event) (g : History) → StandsAt host g m → ((drive : ℕ) → is_in (g.up (key_of host)) drive ≡ is_steady memory drive) → AreWoken host.drives table (is_steady memory) g (key_of host) → g.databases ≡ with_events o.key goes.es h.databases → Then es g)
      → Goes host (Changed (key_of host) change ∷ []) [] Then m h
  changing After Then h known goes then =
      let key = key_of host in
      let grew = grown host sizes ready memory o opened alters table made t h known in
      by grew.0 grew.1 grew.2
    where
      its : o.key ≡ key_of host
      its = (knows_its host memory o opened t known.knows).0

      here : site_area (site_of host.drives o.key) ≡ site_area host.site
      here = ap (λ (k : Key). site_area (site_of host.drives k)) its ∙ ap site_area (sym ready.site)

      asked : IsPart (deed_of o.key (Some change) ∷ []) (Changed (key_of host) change ∷ [])
      asked = subst (λ (k : Key). IsPart (deed_of k (Some change) ∷ []) (Changed (key_of host) change ∷ [])) (sym its) (part_itself (Changed (key_of host) change ∷ []))

      by : (es : List Event) (g : History) → IsGrown host sizes ready memory o opened alters table made t h known es g → Goes host (Changed (key_of host) change ∷ []) [] Then m h
      by es g grows =
          goes_more host [] (Changed (key_of host) change ∷ []) (Changed (key_of host) change ∷ []) [] [] (λ fs k. (fs ≡ es) × (k ≡ g)) Then t m h (part_itself (Changed (key_of host) change ∷ []))
          (happened host [] [] [] t h es grows.happens grows.issues (λ fs k. (fs ≡ es) × (k ≡ g)) grows.awake tt (refl, sym grows.is))
          (λ fs k there is. subst (λ (w : List Event). Goes host (Changed (key_of host) change ∷ []) [] (λ more x. Then (w ++ more) x) m k) (sym is.0) (subst (λ (x : History). Goes host (Changed (key_of host) change ∷ []) [] (λ more y. Then (es ++ more) y) m x) (sym is.1) went))
        where
          on : GoOn host.drives g.databases o.key o.identity (Some change ∷ []) After m
          on = record {
            its = subst (λ (ds : List Database). IsCurrentOf ds o.key o.identity) (sym grows.databases) goes.its;
            es = goes.es;
            course = subst (λ (ds : List Database). log.IsCourse host.drives (log_of ds o.key) goes.es) (sym grows.databases) goes.course;
            come = goes.come;
            stand = subst (λ (ds : List Database). Stand host.drives (with_events o.key goes.es ds) m) (sym grows.databases) goes.stand;
            after = subst (λ (ds : List Database). After (log.log_after_all (log_of ds o.key) goes.es)) (sym grows.databases) goes.after;
          }

          went : Goes host (Changed (key_of host) change ∷ []) [] (λ fs k. Then (es ++ fs) k) m g
          went = lift_log host (Changed (key_of host) change ∷ []) (λ fs k. Then (es ++ fs) k) o.key o.identity (Some change ∷ []) After t m (subst (λ (area : ℕ → ℕ → _). KeptOutside area t m) (sym here) kept) asked (contains_first (Changed (key_of host) change) [], tt) g
              (grown_stands host sizes ready memory o opened alters table made t h known es g grows) on
              (λ other asks. subst (λ (k : Key). IsTableReady host.drives g k t other) (sym its)
              (ready_grown host sizes ready memory o opened alters table made t h known es g grows other
              (only_asked host sizes ready memory o opened alters table made t h known goes.es (subst (λ (k : Key). log.IsCourse host.drives (log_of h.databases k) goes.es) its goes.course) goes.come.begins other asks)))
              (λ fs k there databases woken up. then (es ++ fs) k there (λ drive. ap (λ (of : Key → Drives). is_in (of (key_of host)) drive) (up ∙ grows.up) ∙ known.up drive)
              (are_woken host sizes ready memory o opened alters table made t h known es g grows k woken) (databases ∙ ap (with_events o.key goes.es) grows.databases))

  pub changing_moment : told m ≡ told t → ((all : List Database) → IsCommit host.drives all o (Some change) table t → GoOn host.drives all o.key o.identity (Some change ∷ []) AnyLog m) → CarryMoment host (ToDo (Changed (key_of host) change)) memory t m
  changing_moment quiet goes = record { home = stays_on_site host t m kept; within = opened_kept t m memory.opened o opened within; quiet = quiet; goes = λ h known. inr (changing AnyLog Reached h known (goes h.databases (is_commit h known)) (λ es g there up woken databases. tt)) }

  -- it was committed, and its `ok` may be told
  pub changed : (new : Opened) (next : Memory) → next.up ≡ memory.up → next.unsteady ≡ memory.unsteady → memory.begun ≤ next.begun → next.opened ≡ Some new → new.key ≡ o.key → new.table ≡ table → (IsOpenedAt host.drives o t → IsOpenedAt host.drives new m)
      → ((all : List Database) → IsCommit host.drives all o (Some change) table t → IsCommittedIn host.drives all o new (Some change) m) → CarriedTo host (ToDo (Changed (key_of host) change)) memory (Said outcome.Ok) next t m
  changed new next up unsteady begun is same table_is opens goes =
      let knows : Knows host memory t → Knows host next m = λ known.
      (let its = knows_its host memory o opened t known in
      knows_opened host next new m is (same ∙ its.0) (opens its.1) (free_kept host sizes ready memory next t m kept (λ drive on. still_on drive ∙ on) known.steady)) in
      record {
        done = Changed (key_of host) change ∷ [];
        acks = refl;
        free = λ has. absurd (not_other (Changed (key_of host) change) (Created (key_of host)) (λ same. cc (same)) has);
        goes = λ h known. inr
            (let done = goes h.databases (is_commit h known) in
            let its = (knows_its host memory o opened t known.knows).0 in
            changing (IsCommittedTo host.drives new (Some change)) (λ es g. IsKnownAfter host (Changed (key_of host) change ∷ []) (Said outcome.Ok) next g m) h known done.goes (λ es g there drives woken databases. (
              record {
                stands = there;
                its = own_gone host memory.begun h known.its o.key done.goes.es next.begun g begun databases;
                is_open = of_opened next new (λ n. IsOpenIn host.drives n g.databases m) is (subst (λ (ds : List Database). IsOpenIn host.drives new ds m) (sym databases) done.is_open);
                free = λ none clean. absurd (cc (is, none));
                up = λ drive. drives drive ∙ still_on drive;
                woken = of_opened next new (λ n. AreWoken host.drives n.table (is_steady next) g (key_of host)) is
                    (subst (λ (x : Table). AreWoken host.drives x (is_steady next) g (key_of host)) (sym table_is) (λ number v lies upon. woken number v lies (λ b drive block lt has. still_on drive ∙ upon b drive block lt has)));
                knows = knows known.knows;
              },
              record { may = tellable h g done its databases },
            )));
        knows = knows;
      }
    where
      still_on : (drive : ℕ) → is_steady memory drive ≡ is_steady next drive
      still_on drive = sym (same_steady memory next up unsteady drive)

      tellable : (h g : History) (done : IsCommittedIn host.drives h.databases o new (Some change) m) → o.key ≡ key_of host → g.databases ≡ with_events o.key done.goes.es h.databases → IsNewestTellable (log_of g.databases (key_of host)) (Some change)
      tellable h g done its databases =
          let own : log_of (with_events o.key done.goes.es h.databases) o.key ≡ log.log_after_all (log_of h.databases o.key) done.goes.es = events_log o.key done.goes.es h.databases done.goes.its.database done.goes.its.current in
          subst (λ (k : Key). IsNewestTellable (log_of g.databases k) (Some change)) its
          (subst (λ (l : Log). IsNewestTellable l (Some change)) (sym (ap (λ (ds : List Database). log_of ds o.key) databases ∙ own)) (done.goes.after.tellable change refl))

  -- whether it was committed isn't known
  pub changed_or_lost : (active listed : ℕ) (next : Memory) → ((all : List Database) → IsCommit host.drives all o (Some change) table t → GoOn host.drives all o.key o.identity (Some change ∷ []) AnyLog m)
      → CarriedTo host (ToDo (Changed (key_of host) change)) memory (Over (ended.Lost active listed)) next t m
  changed_or_lost active listed next goes =
      record { done = []; acks = refl; free = λ has. absurd (not_among (Created (key_of host)) has); goes = λ h known. inr (changing AnyLog (λ es g. IsKnownAfter host [] (Over (ended.Lost active listed)) next g m) h known (goes h.databases (is_commit h known)) (λ es g there up woken databases. tt)); knows = λ known. tt }
