use Rattle.mdv_databases.proofs.Finding.{never_short}
use Rattle.mdv_databases.proofs.Meeting.{databases_meet}
use Rattle.mdv_databases.proofs.law.databases_meet.Goals as goal

pub returns : goal.returns
returns c = record {
  shown = databases_meet;
  enough = λ g all key up survey readable needed t sound stand lives is of firm most. never_short g all key up survey t sound stand is of lives firm most readable needed;
}
