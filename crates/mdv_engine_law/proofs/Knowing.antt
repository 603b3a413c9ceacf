-- What is known between lines stays where no block changes.
use Rattle.std.proofs.Common.{◌≡◌, ◌&&◌, not, ℕ, List, Option, Some, None, IfSome, refl, sym, ◌∙◌, ap}
use Rattle.mdv_databases.proofs.Lasting.{open_elsewhere, opened_elsewhere, freed_elsewhere}
use Rattle.mdv_engine_law.specs.Below.{AreWoken, Database, Drives, Geometry, History, IsOpenIn, IsOpenedAt, KeptOutside, Opened, Tale, VolId, nowhere}
use Rattle.mdv_databases.specs.Lasting.{AreFreed}
use Rattle.mdv_volumes.specs.HistoryLaws.{IsElsewhere}
use Rattle.mdv_volumes.proofs.Restarts.{restarts_go}
use Rattle.mdv_engine_law.specs.declared.host.Host.{Host}
use Rattle.mdv_engine_law.specs.Hosts.{key_of}
use Rattle.mdv_engine_law.specs.Line.{Memory, is_in}
use Rattle.mdv_engine_law.specs.Standing.{AreOwn, StandsAt, Knows, IsKnown, is_steady}

-- of the value in an option, where it is of the value in any
pub some_more : {A : Type 0} (o : Option A) (P Q : A → Type 0) → ((x : A) → P x → Q x) → IfSome o P → IfSome o Q
some_more None P Q more is = is
some_more (Some x) P Q more is = more x is

-- the same drives are steady, where the same are up and unsteady
pub same_steady : (old next : Memory) → next.up ≡ old.up → next.unsteady ≡ old.unsteady → (drive : ℕ) → is_steady next drive ≡ is_steady old drive
same_steady old next up unsteady drive = ap (λ (drives : Drives). is_in drives drive && not (is_in next.unsteady drive)) up ∙ ap (λ (drives : Drives). is_in old.up drive && not (is_in drives drive)) unsteady

-- an open database stays so
pub opened_kept : (g : Geometry) (o : Opened) (u v : Tale) → KeptOutside nowhere u v → IsOpenedAt g o u → IsOpenedAt g o v
opened_kept g o u v kept is = opened_elsewhere g nowhere (λ key drive block here there. cc here) u v kept o is

module _ (host : Host) (u v : Tale) (kept : KeptOutside nowhere u v) where
  none_there : (databases : List Database) → IsElsewhere host.drives databases nowhere
  none_there databases = record { slices = λ key drive block here there. cc here; volumes = λ key volume v named drive block here there. cc here }

  pub stands_kept : (h : History) → StandsAt host h u → StandsAt host h v
  stands_kept h stands = restarts_go.elsewhere host.drives h nowhere u v (none_there h.databases) kept stands

  -- an open one of all
  pub open_kept : (o : Opened) (all : List Database) → IsOpenIn host.drives o all u → IsOpenIn host.drives o all v
  open_kept o all is = open_elsewhere host.drives nowhere (λ key drive block here there. cc here) u v kept o all is

  module _ (memory : Memory) where
    pub knows_kept : Knows host memory u → Knows host memory v
    knows_kept knows = record {
      opened = some_more memory.opened (λ o. (o.key ≡ key_of host) × IsOpenedAt host.drives o u) (λ o. (o.key ≡ key_of host) × IsOpenedAt host.drives o v) (λ o is. (is.0, opened_kept host.drives o u v kept is.1)) knows.opened;
      steady = λ drive block on plain x left. (let is = kept drive block refl in knows.steady drive block on plain x (is.left x left) ∙ sym is.last);
    }

    pub known_kept : (h : History) → IsKnown host memory h u → IsKnown host memory h v
    known_kept h known = record {
      stands = stands_kept h known.stands;
      its = known.its;
      is_open = some_more memory.opened (λ o. IsOpenIn host.drives o h.databases u) (λ o. IsOpenIn host.drives o h.databases v) (λ o is. open_kept o h.databases is) known.is_open;
      free = λ none clean. freed_elsewhere host.drives nowhere (λ key drive block here there. cc here) u v kept h.databases (key_of host) (known.free none clean);
      up = known.up;
      woken = known.woken;
      knows = knows_kept known.knows;
    }

-- a history that goes on with the same database open, the same drives up, and as many blocks woken, is known as the first was
pub known_on : (host : Host) (memory : Memory) (h after : History) (t : Tale) → StandsAt host after t → AreOwn host memory.begun after → ((o : Opened) → IsOpenIn host.drives o h.databases t → IsOpenIn host.drives o after.databases t)
    → (AreFreed host.drives h.databases (key_of host) t → AreFreed host.drives after.databases (key_of host) t) → after.up (key_of host) ≡ h.up (key_of host) → ((volume : VolId) → after.woken (key_of host) volume ≡ h.woken (key_of host) volume) → IsKnown host memory h t → IsKnown host memory after t
known_on host memory h after t stands its still freed up counts known = record {
  stands = stands;
  its = its;
  is_open = some_more memory.opened (λ o. IsOpenIn host.drives o h.databases t) (λ o. IsOpenIn host.drives o after.databases t) still known.is_open;
  free = λ none clean. freed (known.free none clean);
  up = λ drive. ap (λ (drives : Drives). is_in drives drive) up ∙ known.up drive;
  woken = some_more memory.opened (λ o. AreWoken host.drives o.table (is_steady memory) h (key_of host)) (λ o. AreWoken host.drives o.table (is_steady memory) after (key_of host))
      (λ o are volume v map upon. counts volume ∙ are volume v map upon) known.woken;
  knows = known.knows;
}
