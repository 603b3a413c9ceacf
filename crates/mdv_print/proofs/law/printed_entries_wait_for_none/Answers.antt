use Rattle.mdv_print.proofs.Needs.{none_waits}
use Rattle.mdv_print.proofs.law.printed_entries_wait_for_none.Goals as goal

pub returns : goal.returns
returns c = none_waits
