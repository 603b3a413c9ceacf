use Rattle.std.proofs.Common.{◌≡◌, ◌≤◌, ◌-◌, Some}
use Rattle.mdv_port.specs.Lines.{lines_limit}
use Rattle.mdv_port.specs.Script.{Script}
use Rattle.mdv_items.specs.Items.{asked_before}
use Rattle.mdv_items.proofs.asked.next_asked.Given as goal

abbrev pub invariant-loop-reader : goal.invariant-loop-reader
invariant-loop-reader g l = record {
  reads : (script : Script) → asked_before l.fn.reader (g.I.Source.left l.fn.source) ≡ Some script → asked_before l.reader (g.I.Source.left l.source) ≡ Some script;
  lines : l.fn.reader.lines ≤ l.reader.lines;
  source : g.I.Source.faults l.source ≡ g.I.Source.faults l.fn.source;
}

abbrev pub decreases-loop-reader : goal.decreases-loop-reader
decreases-loop-reader g l = lines_limit - l.reader.lines
