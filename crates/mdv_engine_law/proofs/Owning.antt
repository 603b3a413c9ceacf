-- The databases of a history stay the host's own, whatever happens to them; and the next creation's identity is none's yet.
use Rattle.std.proofs.Common.{◌≡◌, ◌<◌, ◌≤◌, ℕ, List, Contains, refl, sym, ◌∙◌, ap, subst, arith}
use Rattle.mdv_databases.specs.Going.{with_events}
use Rattle.mdv_standing.specs.Holding.{IsFresh}
use Rattle.mdv_store_law.specs.Log as log
use Rattle.mdv_engine_law.specs.Below.{Database, History, Identity, IsNamed, Key, Map, VolId}
use Rattle.mdv_volumes.specs.Databases.{with_creation}
use Rattle.mdv_volumes.proofs.Owners.{AreEach, creation_keeps, events_keep, none_named}
use Rattle.mdv_engine_law.specs.declared.host.Host.{Host}
use Rattle.mdv_engine_law.specs.Hosts.{identity_of, key_of}
use Rattle.mdv_engine_law.specs.Standing.{AreOwn}

module _ (host : Host) where
  -- what is so of each of them
  abbrev IsIts : ℕ → Key → Identity → Type 0
  IsIts begun key identity = (key ≡ key_of host) × (identity.fresh ≡ host.fresh → identity.number < begun)

  each_of : (begun : ℕ) (h : History) → AreOwn host begun h → AreEach (IsIts begun) h.databases
  each_of begun h its d has = (its.own d has, its.before d has)

  of_each : (begun : ℕ) (h : History) (ds : List Database) → h.databases ≡ ds → AreEach (IsIts begun) ds → AreOwn host begun h
  of_each begun h ds same each = record {
    own = λ d has. (each d (subst (λ (l : List Database). Contains l d) same has)).0;
    before = λ d has. (each d (subst (λ (l : List Database). Contains l d) same has)).1;
  }

  more_begun : (begun more : ℕ) → begun ≤ more → (ds : List Database) → AreEach (IsIts begun) ds → AreEach (IsIts more) ds
  more_begun begun more le ds each d has = ((each d has).0, λ of_run. (let less = (each d has).1 of_run in omega (arith, less, le)))

  module _ (begun : ℕ) (h : History) (its : AreOwn host begun h) where
    -- they are the same, and no fewer were begun
    pub own_still : (more : ℕ) (g : History) → begun ≤ more → g.databases ≡ h.databases → AreOwn host more g
    own_still more g le same = of_each more g h.databases same (more_begun begun more le h.databases (each_of begun h its))

    -- events happened to the log of one
    pub own_gone : (key : Key) (es : List log.Event) (more : ℕ) (g : History) → begun ≤ more → g.databases ≡ with_events key es h.databases → AreOwn host more g
    own_gone key es more g le same = of_each more g (with_events key es h.databases) same (events_keep (IsIts more) key es h.databases (more_begun begun more le h.databases (each_of begun h its)))

    -- the next one was begun, and events happened to its log
    pub own_begun : (es : List log.Event) (more : ℕ) (g : History) → begun < more → g.databases ≡ with_events (key_of host) es (with_creation (key_of host) (identity_of host begun) h.databases) → AreOwn host more g
    own_begun es more g less same =
        of_each more g (with_events (key_of host) es (with_creation (key_of host) (identity_of host begun) h.databases)) same
        (events_keep (IsIts more) (key_of host) es (with_creation (key_of host) (identity_of host begun) h.databases)
        (creation_keeps (IsIts more) (key_of host) (identity_of host begun) h.databases (refl, λ of_run. less) (more_begun begun more (omega (arith, less)) h.databases (each_of begun h its))))

    -- its identity is none's yet
    pub own_fresh : IsFresh h.databases (identity_of host begun)
    own_fresh d has same =
        let less = its.before d has (ap (λ (i : Identity). i.fresh) same) in
        let number : d.identity.number ≡ begun = ap (λ (i : Identity). i.number) same in
        omega (arith, less, number)

    -- no other key has a volume
    pub own_alone : (other : Key) (volume : VolId) (v : Map) → (key_of host ≡ other → ⊥) → IsNamed host.drives h.databases other volume v → ⊥
    own_alone other volume v differ named = none_named host.drives h.databases other (λ d has is. differ (sym (its.own d has) ∙ is)) volume v named
