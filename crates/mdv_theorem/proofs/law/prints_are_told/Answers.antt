use Rattle.mdv_theorem.proofs.Printing.{prints_of_all, prints_of_names}
use Rattle.mdv_theorem.proofs.Reprinted.{prints_agree}
use Rattle.mdv_theorem.proofs.law.prints_are_told.Goals as goal

pub returns-clause-named : goal.returns-clause-named
returns-clause-named c = prints_of_names

pub returns-clause-all : goal.returns-clause-all
returns-clause-all c = prints_of_all

pub returns-clause-same : goal.returns-clause-same
returns-clause-same c = prints_agree
