use Rattle.mdv_shown.specs.Laws.{Reads}
use Rattle.mdv_standing.proofs.Holding.{all_stand, begins_holding, none_found, none_stand}
use Rattle.mdv_standing.proofs.law.databases_stand.Goals as goal

pub returns : goal.returns
returns c = record {
  crashes = λ read g all m image told. all_stand (Reads read) g all m image told;
  new = λ read g image told. none_stand (Reads read) g image told;
  none = λ read g all image key identity. none_found (Reads read) g all image key identity;
  begins = λ read g all image key identity. begins_holding (Reads read) g all image key identity;
}
