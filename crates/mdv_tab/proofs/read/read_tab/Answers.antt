use Rattle.std.proofs.Common.{arith}
use Rattle.mdv_tab.proofs.ReadingText.{tab_adds, tab_fault}
use Rattle.mdv_tab.proofs.read.read_tab.Goals as goal

pub loop-rest-preserved : goal.loop-rest-preserved
loop-rest-preserved c = tab_adds _ _ _ _ _ _ _ _ _ c.loop-rest.invariant c.in-Ok.ensures c.in-Ok-add_group.ensures.added

pub returns-in-Err-clause-fault : goal.returns-in-Err-clause-fault
returns-in-Err-clause-fault c =
    tab_fault _ _ _ _ _ _ _ _ _ (omega (arith, c.if-text-gt-MAX_TEXT.false)) c.loop-rest.invariant c.in-Ok.ensures c.in-Err.ensures.fault
