use Rattle.mdv_shown.specs.Laws.{Reads}
use Rattle.mdv_standing.proofs.Lawful.{found_holds}
use Rattle.mdv_standing.proofs.law.finds_hold.Goals as goal

pub returns : goal.returns
returns c = λ read g site identity log w image seen s slot v site_is is_log world r c has most fair small. found_holds (Reads read) g site identity log w image seen s slot v site_is is_log world r c has most fair small
