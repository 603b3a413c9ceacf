use Rattle.std.proofs.Common.{take}
use Rattle.mdv_tab.specs.Index.{IsIndexOf}
use Rattle.mdv_tab.proofs.index.index_of.Given as goal

abbrev pub invariant-loop-entry : goal.invariant-loop-entry
invariant-loop-entry l = IsIndexOf (take l.entry-index l.entries) l.index
