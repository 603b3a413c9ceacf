-- A commit among all databases.
use Rattle.std.proofs.Common.{◌≡◌, List, Option}
use Rattle.mdv_standing.specs.Tracing.{GoesTraced}
use Rattle.mdv_standing.proofs.Holding.{rest_of}
use Rattle.mdv_store_law.specs.Log.{ChangesAlone}
use Rattle.mdv_store.specs.Commit.{AnyLog, AnyWorld, AreOfCommit, CommitDone, CommitGoes, CommitMoment, IsCommittedTo, IsLogOf, MayCommit}
use Rattle.mdv_databases.specs.Below.{Change, Core, Database, Geometry, IsReadyWith, Log, Opened, Spells, Table, Tale, asks_of, log_of, site_of, spots_of}
use Rattle.mdv_databases.specs.Committing.{IsCommit, IsCommittedIn}
use Rattle.mdv_databases.specs.Going.{GoOn}
use Rattle.mdv_databases.proofs.Ended.{lives_after_all}
use Rattle.mdv_databases.proofs.Going.{Gone, go_on, its_log, opens}

module _ (g : Geometry) (all : List Database) (o : Opened) (asked : Option Change) (next : Table) (t : Tale) (is : IsCommit g all o asked next t) where
  may : MayCommit g o asked next t
  may = record { opened = is.is_open.opened; of_geometry = is.of_geometry; made = is.made }

  log_is : IsLogOf g o (log_of all o.key)
  log_is = record { is_log = its_log g all o.key o.identity t is.stand is.is_open.its; newest = is.is_open.newest.newest }

  module _ (Then : Core → Type 0) (After : Log → Type 0) (m : Tale) (moment : CommitMoment o next t m) (goes : CommitGoes g o asked Then After t m) where
    abbrev traced : GoesTraced (Spells g) g (site_of g o.key) o.identity (asks_of asked) (IsReadyWith (spots_of o.seats)) (AreOfCommit g o) Then After t m (log_of all o.key)
    traced = goes (log_of all o.key) is.is_open.ready log_is

    gone_on : Gone g all o.key o.identity (asks_of asked) traced.es Then After m
    gone_on =
        go_on ChangesAlone g all o.key o.identity (asks_of asked) (IsReadyWith (spots_of o.seats)) (AreOfCommit g o) Then After t m is.stand is.is_open.its is.is_open.ready
        (moment.rest g all is.of_geometry is.is_open.opened (rest_of (Spells g) g all t o.identity is.stand.worlds)) (moment.blank g is.of_geometry is.is_open.opened) traced

pub commit_moment : (g : Geometry) (all : List Database) (o : Opened) (asked : Option Change) (next : Table) (t m : Tale) → IsCommit g all o asked next t → CommitMoment o next t m → GoOn g all o.key o.identity (asks_of asked) AnyLog m
commit_moment g all o asked next t m is moment = (gone_on g all o asked next t is AnyWorld AnyLog m moment (moment.goes g asked (may g all o asked next t is))).goes

pub commit_end : (g : Geometry) (all : List Database) (old new : Opened) (asked : Option Change) (next : Table) (t u : Tale) → IsCommit g all old asked next t → CommitMoment old next t u → CommitDone old new next t u → new.key ≡ old.key → new.identity ≡ old.identity
    → IsCommittedIn g all old new asked u
commit_end g all old new asked next t u is moment done keyed named =
    let to = gone_on g all old asked next t is (IsReadyWith (spots_of new.seats)) (IsCommittedTo g new asked) u moment (done.goes g asked (may g all old asked next t is)) in
    record { goes = to.goes; is_open = opens ChangesAlone g all old.key old.identity (asks_of asked) _ (IsCommittedTo g new asked) new u to keyed named (λ log after. after.newest) (lives_after_all ChangesAlone g (log_of all old.key) to.goes.es (λ never. never) is.is_open.lives to.goes.course to.goes.come.issues) (done.opened g is.of_geometry is.is_open.opened) }
