use Rattle.std.proofs.Common.{◌≡◌, ◌≤◌, ◌-◌, Some}
use Rattle.mdv_port.specs.Lines.{lines_limit}
use Rattle.mdv_port.specs.Script.{Script}
use Rattle.mdv_items.specs.Items.{block_before}
use Rattle.mdv_items.proofs.Blocks.{Within}
use Rattle.mdv_items.proofs.reader.ItemReader.next_tab.Given as goal

-- the lines so far are gathered, and the rest of the script is before the reader
abbrev pub invariant-loop-self : goal.invariant-loop-self
invariant-loop-self g l = record {
  reads : (script : Script) → block_before l.fn.self.reader (g.I.Source.left l.fn.source) ≡ Some script → Within script l.self (g.I.Source.left l.source);
  lines : l.fn.self.reader.lines ≤ l.self.reader.lines;
  source : g.I.Source.faults l.source ≡ g.I.Source.faults l.fn.source;
}

abbrev pub decreases-loop-self : goal.decreases-loop-self
decreases-loop-self g l = lines_limit - l.self.reader.lines
