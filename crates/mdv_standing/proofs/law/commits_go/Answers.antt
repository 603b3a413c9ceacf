use Rattle.mdv_shown.specs.Laws.{Reads}
use Rattle.mdv_standing.proofs.Committing.{commit_begins, may_commit_it}
use Rattle.mdv_standing.proofs.law.commits_go.Goals as goal

pub returns : goal.returns
returns c = record {
  may = λ read g site identity log w image p v asked table took b made. may_commit_it (Reads read) site identity log w image p v table took b g asked made;
  begins = λ read site identity log w image p v asked table took b. commit_begins (Reads read) site identity log w image p v table took b asked;
}
