-- A log that goes on by changes alone goes on by more kinds of events, and less may be said of it.
use Rattle.std.proofs.Common.{ℕ, List, [], Option}
use Rattle.mdv_standing.proofs.Tracing.{goes_issued, trace_weaker}
use Rattle.mdv_standing.specs.Tracing.{GoesTraced}
use Rattle.mdv_store_law.proofs.Machine.{adds_weaker}
use Rattle.mdv_store_law.proofs.Parts.{part_itself}
use Rattle.mdv_store_law.specs.Log.{ChangesAlone, Issue, IsIssue, begins, log_after_all, tells}
use Rattle.mdv_store_law.specs.Part.{IsPart}
use Rattle.mdv_store.specs.Below.{Site}
use Rattle.mdv_places.specs.Below.{Change, Core, Event, Geometry, Identity, Log, Table, Tale}
use Rattle.mdv_places.specs.Going.{GoesTracedBy}

module _ (Spells : List ℕ → Table → Type 0) (g : Geometry) (site : Site) (identity : Identity) (Which : Issue → Type 0) where
  -- by changes alone
  pub goes_by : (asks : List (Option Change)) (Know : Core → Type 0) (Are : List Event → Type 0) (Then : Core → Type 0) (After : Log → Type 0) (t m : Tale) (log : Log) → ((issue : Issue) → ChangesAlone issue → Which issue)
      → GoesTraced Spells g site identity asks Know Are Then After t m log → GoesTracedBy Which Spells g site identity asks Know Are Then After t m log
  goes_by asks Know Are Then After t m log which = goes_issued Spells site identity ChangesAlone Which g asks asks Know Then Are After t m log which (part_itself asks)

  -- less is said
  pub goes_less : (asks more : List (Option Change)) (Know Then Less : Core → Type 0) (Are Any : List Event → Type 0) (After Later : Log → Type 0) (t m : Tale) (log : Log) → IsPart asks more → ((es : List Event) → Are es → Any es)
      → ((w : Core) → Then w → Less w) → ((next : Log) → After next → Later next) → GoesTracedBy Which Spells g site identity asks Know Are Then After t m log → GoesTracedBy Which Spells g site identity more Know Any Less Later t m log
  goes_less asks more Know Then Less Are Any After Later t m log part any less later goes = record {
    es = goes.es;
    course = goes.course;
    come = adds_weaker tells begins (IsIssue Which) (IsIssue Which) asks more [] goes.es (λ e is. is) part goes.come;
    traces = trace_weaker Spells site identity log (log_after_all log goes.es) Know Know Then Less Are Any t m (λ w known. known) any less goes.traces;
    after = later (log_after_all log goes.es) goes.after;
  }
