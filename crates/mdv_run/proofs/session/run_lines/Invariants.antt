use Rattle.mdv_run.specs.Calls.{CallsLeft, ScriptCalls}
use Rattle.std.proofs.Common.{◌≡◌, ◌≤◌, ◌-◌, ℕ, List, Some}
use Rattle.mdv_run.specs.Below.{asked_before, asked_of, Moments, IsReady, StaysHome, IsWell}
use Rattle.mdv_shelf.specs.Shelves.{AtEachMoment, Kept}
use Rattle.mdv_run.specs.Promise.{between, point_at}
use Rattle.mdv_run.proofs.Fronting.{RunFront}
use Rattle.mdv_run.proofs.Went.{SoFar}
use Rattle.mdv_run.proofs.session.run_lines.Given as goal

abbrev pub invariant-loop-refused : goal.invariant-loop-refused
invariant-loop-refused g l = record {
  host : l.engine.host ≡ l.fn.engine.host;
  ready : IsReady l.engine.host (g.B.Shelf.sizes l.bench);
  well : IsWell l.engine.host l.engine.state;
  begun : l.engine.state.begun ≤ l.reader.reader.lines;
  limit : l.reader.reader.lines ≤ 1048576;
  kept : Kept g.B.Shelf l.fn.bench l.bench;
  source : g.I.Source.faults l.fn.script ≤ g.I.Source.faults l.script;
  calls : (input : List ℕ) → g.I.Source.left l.fn.script ≡ Some input → (n : ℕ) → ScriptCalls l.fn.engine.host (asked_of input) n → CallsLeft l.fn.engine.host (asked_before l.reader.reader (g.I.Source.left l.script)) (g.B.Shelf.calls l.fn.bench) (g.B.Shelf.calls l.bench) n;
  home : Moments (StaysHome l.fn.engine.host) (g.B.Shelf.tale l.fn.bench) (g.B.Shelf.tale l.bench);
  fronts : (input : List ℕ) → g.I.Source.left l.fn.script ≡ Some input → AtEachMoment g.B.Shelf (RunFront l.engine.host (between g.B.Shelf l.fn.bench l.bench) (point_at g.B.Shelf g.I.Source l.fn.bench l.fn.script) l.fn.engine.state (asked_of input)) l.fn.bench l.bench;
  so_far : (input : List ℕ) → g.I.Source.left l.fn.script ≡ Some input → SoFar l.engine.host (between g.B.Shelf l.fn.bench l.bench) (point_at g.B.Shelf g.I.Source l.fn.bench l.fn.script) (point_at g.B.Shelf g.I.Source l.bench l.script) l.fn.engine.state l.engine.state l.any_refused input (asked_before l.reader.reader (g.I.Source.left l.script)) (g.B.Shelf.tale l.fn.bench) (g.B.Shelf.tale l.bench);
}

abbrev pub decreases-loop-refused : goal.decreases-loop-refused
decreases-loop-refused g l = 1048576 - l.reader.reader.lines
