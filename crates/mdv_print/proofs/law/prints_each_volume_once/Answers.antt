use Rattle.mdv_print.proofs.Complete.{all_told}
use Rattle.mdv_print.proofs.law.prints_each_volume_once.Goals as goal

pub returns : goal.returns
returns c = all_told
