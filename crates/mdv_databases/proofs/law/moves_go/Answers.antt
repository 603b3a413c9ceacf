use Rattle.mdv_databases.proofs.Moving.{move_end, move_failed, move_moment}
use Rattle.mdv_databases.proofs.law.moves_go.Goals as goal

pub returns : goal.returns
returns c = record {
  moments = λ g all o asked change t m is. move_moment g all o asked change t is m;
  ends = λ g all old new asked change clean t u is. move_end g all old asked change t is new clean u;
  failed = λ g all old new asked change t u is. move_failed g all old asked change t is new u;
}
