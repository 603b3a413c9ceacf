use Rattle.mdv_databases.proofs.Lasting.{freed_elsewhere, freed_fewer, open_elsewhere, open_fewer, opened_elsewhere, opened_fewer, stand_crashed, stand_elsewhere, stand_fewer, stand_new, tables_elsewhere}
use Rattle.mdv_databases.proofs.Nothing.{nothing_told}
use Rattle.mdv_databases.proofs.law.databases_last.Goals as goal

pub returns : goal.returns
returns c = record {
  crashes = stand_crashed;
  fewer = stand_fewer;
  open_fewer = open_fewer;
  opened_fewer = opened_fewer;
  blank_fewer = λ g key t u fewer none identity image im. none identity image (fewer image im);
  freed_fewer = freed_fewer;
  new = stand_new;
  stand = λ g all area t m elsewhere kept. stand_elsewhere g area elsewhere t m kept all;
  opened = λ g o area t m elsewhere kept. opened_elsewhere g area elsewhere t m kept o;
  is_open = λ g o all area t m elsewhere kept. open_elsewhere g area elsewhere t m kept o all;
  blank = λ g key area t m elsewhere kept. tables_elsewhere g area elsewhere t m kept key;
  freed = λ g all key area t m elsewhere kept. freed_elsewhere g area elsewhere t m kept all key;
  nothing = λ g all key t stand lives none. nothing_told g all key t stand none lives;
}
