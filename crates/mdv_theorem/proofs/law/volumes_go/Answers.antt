use Rattle.mdv_theorem.proofs.Clearing.{clears_of_all, clears_of_names}
use Rattle.mdv_theorem.proofs.Gone.{names_are_free, volumes_go}
use Rattle.mdv_theorem.proofs.law.volumes_go.Goals as goal

pub returns-clause-gone : goal.returns-clause-gone
returns-clause-gone c = volumes_go

pub returns-clause-free : goal.returns-clause-free
returns-clause-free c = names_are_free

pub returns-clause-named : goal.returns-clause-named
returns-clause-named c = clears_of_names

pub returns-clause-all : goal.returns-clause-all
returns-clause-all c = clears_of_all
