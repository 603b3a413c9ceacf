use Rattle.mdv_databases.proofs.Telling.{has_all_told, told_open, told_stand}
use Rattle.mdv_databases.proofs.law.tells_go.Goals as goal

pub returns : goal.returns
returns c = record {
  stand = λ g all key identity which before m stand its may. told_stand which before g all key m identity stand its may;
  is_open = λ g all o which before m is. told_open which before g all o m is;
  has = has_all_told;
}
