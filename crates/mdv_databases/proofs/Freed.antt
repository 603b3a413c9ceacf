-- A key whose databases show no table is free for a creation: what was about to be deleted is gone.
use Rattle.std.proofs.Common.{◌≡◌, ◌⊎◌, inl, inr, List, [], ◌∷◌, Option, None, Some, refl, sym, ◌∙◌, ap, subst}
use Rattle.std.proofs.lemmas.Bool.{cases_Bool}
use Rattle.mdv_standing.specs.Databases.{log_in}
use Rattle.mdv_standing.specs.Matching.{IsDeleted}
use Rattle.mdv_standing.specs.Others.{Anything}
use Rattle.mdv_standing.specs.Tracing.{GoesTraced}
use Rattle.mdv_standing.proofs.Holding.{rest_of}
use Rattle.mdv_standing.proofs.PlacesTracing.{traced_gone}
use Rattle.mdv_standing.proofs.Tracing.{covers_anything}
use Rattle.mdv_store_law.specs.Log.{ChangesAlone, Ends, Fate, Gone, Issue, Lives, Over, log_after_all}
use Rattle.mdv_store_law.proofs.Fates.{never_ends}
use Rattle.mdv_store.specs.Commit.{AnyLog}
use Rattle.mdv_databases.specs.Below.{Database, Geometry, Identity, IsBlank, Key, Log, Spells, Tale, current_of, log_of, site_of}
use Rattle.mdv_databases.specs.Going.{GoOn, GoOnBy, IsCurrentOf, with_events}
use Rattle.mdv_databases.specs.Lasting.{AreFreed, HasNoTable}
use Rattle.mdv_databases.specs.Standing.{IsFree, Stand}
use Rattle.mdv_databases.proofs.Going.{go_on, its_log, its_worlds}
use Rattle.mdv_databases.proofs.Lists.{current_key, events_here, gone, one_current}

-- each of a key's databases is free where its current one is
pub freed_by : (g : Geometry) (all : List Database) (key : Key) (t : Tale) → Stand g all t → ((d : Database) → current_of all key ≡ Some d → IsFree g d t) → AreFreed g all key t
freed_by g all key t stand current x has keyed = elim (cases_Bool x.over) [
  | inl over ↦ stand.over x has over
  | inr going ↦ current x (subst (λ (k : Key). current_of all k ≡ Some x) keyed (stand.current x has going))
]

-- so it is once that one's log is over
pub freed_over : (Which : Issue → Type 0) (g : Geometry) (all : List Database) (key : Key) (identity : Identity) (After : Log → Type 0) (u : Tale) (on : GoOnBy Which g all key identity [] After u) → (log_after_all (log_of all key) on.es).fate ≡ Over
    → AreFreed g (with_events key on.es all) key u
freed_over Which g all key identity After u on over = freed_by g next key u on.stand (λ x found.
    subst (λ (y : Database). IsFree g y u) (one_current key next (gone on.es d) x (events_here key on.es all d on.its.current) found) (inr (subst (λ (l : Log). (log_after_all l on.es).fate ≡ Over) (ap log_in on.its.current) over)))
  where
    d : Database
    d = on.its.database

    next : List Database
    next = with_events key on.es all

module _ (g : Geometry) (all : List Database) (key : Key) (t : Tale) (stand : Stand g all t) (none : HasNoTable g key t) where
  -- once the current one's end is noted each is free
  abbrev Freed : Type 0
  Freed = (identity : Identity) × (goes : GoOn g all key identity [] AnyLog t) × AreFreed g (with_events key goes.es all) key t

  -- the blanking of the current one's last master began: no image has it any more
  module _ (d : Database) (current : current_of all key ≡ Some d) (ends : d.log.fate ≡ Ends) where
    its : IsCurrentOf all key d.identity
    its = record { database = d; current = current; as_begun = refl }

    abbrev log : Log
    log = log_of all key

    log_ends : log.fate ≡ Ends
    log_ends = ap (λ (o : Option Database). (log_in o).fate) current ∙ ends

    to : GoesTraced (Spells g) g (site_of g key) d.identity [] Anything (λ es. es ≡ []) IsDeleted (λ l. l.fate ≡ Over) t t log
    to = record {
      es = Gone ∷ [];
      course = (log_ends, tt);
      come = record { tells = refl; issues = (tt, tt); begins = tt };
      traces = traced_gone (Spells g) (site_of g key) d.identity log t ((its_log g all key d.identity t stand its).was_there (λ lives. never_ends log.fate lives log_ends)) (none d.identity);
      after = refl;
    }

    went : GoOn g all key d.identity [] (λ l. l.fate ≡ Over) t
    went = (go_on ChangesAlone g all key d.identity [] Anything (λ es. es ≡ []) IsDeleted (λ l. l.fate ≡ Over) t t stand its
        (covers_anything (Spells g) (site_of g key) d.identity log t (its_worlds g all key d.identity t stand its)) (rest_of (Spells g) g all t d.identity stand.worlds) (λ k other differs blank. blank) to).goes

    ended : Freed
    ended = (
      d.identity,
      record { its = went.its; es = went.es; course = went.course; come = went.come; stand = went.stand; after = tt },
      freed_over ChangesAlone g all key d.identity (λ l. l.fate ≡ Over) t went went.after,
    )

  -- whatever becomes of its current one
  pub freed_blank : AreFreed g all key t ⊎ Freed
  freed_blank = by (current_of all key) refl where
    itself : (d : Database) → current_of all key ≡ Some d → IsFree g d t → AreFreed g all key t ⊎ Freed
    itself d is free = inl (freed_by g all key t stand (λ x found. subst (λ (y : Database). IsFree g y t) (one_current key all d x is found) free))

    of_one : (d : Database) → current_of all key ≡ Some d → (f : Fate) → d.log.fate ≡ f → AreFreed g all key t ⊎ Freed
    of_one d is Lives lives = itself d is (inl (lives, subst (λ (k : Key). IsBlank g k d.identity t) (sym (current_key key all d is)) (none d.identity)))
    of_one d is Ends ends = inr (ended d is ends)
    of_one d is Over over = itself d is (inr over)

    by : (o : Option Database) → current_of all key ≡ o → AreFreed g all key t ⊎ Freed
    by None nobody = inl (freed_by g all key t stand (λ x found. absurd (let never = sym nobody ∙ found in cc never)))
    by (Some d) is = of_one d is d.log.fate refl
