-- The end of a database among all.
use Rattle.std.proofs.Common.{◌≡◌, List, [], ◌∷◌, ◌∙◌}
use Rattle.mdv_places.specs.Ending.{AreWipes, EndEnds, EndGoes, EndMoment, MayEnd, RestMayEnd}
use Rattle.mdv_places.specs.Moments.{IsLogOf, StandsOpen}
use Rattle.mdv_standing.specs.Matching.{IsDeleted}
use Rattle.mdv_standing.specs.Tracing.{GoesTracedBy}
use Rattle.mdv_standing.proofs.Holding.{rest_of}
use Rattle.mdv_store_law.specs.Log.{Clearing, EndAlone, Ends, Event as LogEvent, Gone, Over}
use Rattle.mdv_store.specs.Commit.{AnyWorld}
use Rattle.mdv_databases.specs.Below.{Core, Database, Geometry, IsReadyWith, Log, Opened, Spells, Tale, log_of, site_of, spots_of}
use Rattle.mdv_databases.specs.Ending.{IsEndIn, IsEndedIn}
use Rattle.mdv_databases.specs.Going.{GoOnBy}
use Rattle.mdv_databases.proofs.Bare.{table_none}
use Rattle.mdv_databases.proofs.Freed.{freed_over}
use Rattle.mdv_databases.proofs.Going.{GoneBy, go_on, its_log}
use Rattle.mdv_databases.proofs.Moving.{rest_taken}

module _ (g : Geometry) (all : List Database) (o : Opened) (t : Tale) (is : IsEndIn g all o t) where
  log_is : IsLogOf g o (log_of all o.key)
  log_is = record { is_log = its_log g all o.key o.identity t is.stand is.is_open.its; lives = is.is_open.lives; newest = is.is_open.newest }

  stands : StandsOpen g o t
  stands = record { log = log_of all o.key; covers = is.is_open.ready; is = log_is }

  may : MayEnd g o t
  may = record { opened = is.is_open.opened; front = is.front }

  may_rest : RestMayEnd g all o t
  may_rest = record {
    rest = rest_of (Spells g) g all t o.identity is.stand.worlds;
    taken = λ s. rest_taken g all o.key o.identity t is.stand is.is_open.its s.replica.line (is.others s);
  }

  module _ (es : List LogEvent) (Then : Core → Type 0) (After : Log → Type 0) (m : Tale) (moment : EndMoment o t m) (goes : EndGoes g o es Then After t m) where
    abbrev traced : GoesTracedBy EndAlone (Spells g) g (site_of g o.key) o.identity [] (IsReadyWith (spots_of o.seats)) AreWipes Then After t m (log_of all o.key)
    traced = (goes (log_of all o.key) is.is_open.ready log_is).0

    traced_by : traced.es ≡ es
    traced_by = (goes (log_of all o.key) is.is_open.ready log_is).1

    gone_on : GoneBy EndAlone g all o.key o.identity [] traced.es Then After m
    gone_on =
        go_on EndAlone g all o.key o.identity [] (IsReadyWith (spots_of o.seats)) AreWipes Then After t m is.stand is.is_open.its is.is_open.ready (moment.rest g all may may_rest) (moment.blank g may) traced

  pub end_moment : (m : Tale) → EndMoment o t m → (on : GoOnBy EndAlone g all o.key o.identity [] (λ log. log.fate ≡ Ends) m) × (on.es ≡ Clearing ∷ [])
  end_moment m moment =
      let to = gone_on (Clearing ∷ []) AnyWorld (λ log. log.fate ≡ Ends) m moment (moment.goes g may) in
      (to.goes, to.same ∙ traced_by (Clearing ∷ []) AnyWorld (λ log. log.fate ≡ Ends) m moment (moment.goes g may))

  pub end_end : (u : Tale) → EndMoment o t u → EndEnds o t u → IsEndedIn g all o t u
  end_end u moment ends =
      let to = gone_on (Clearing ∷ Gone ∷ []) IsDeleted (λ log. log.fate ≡ Over) u moment (ends.gone g may) in
      record {
        goes = to.goes;
        events = to.same ∙ traced_by (Clearing ∷ Gone ∷ []) IsDeleted (λ log. log.fate ≡ Over) u moment (ends.gone g may);
        freed = freed_over EndAlone g all o.key o.identity (λ log. log.fate ≡ Over) u to.goes to.goes.after;
        none = λ s. table_none g o t stands is.is_open.opened is.front s u ends;
      }
