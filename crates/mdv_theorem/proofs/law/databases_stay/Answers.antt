use Rattle.mdv_theorem.proofs.Alone.{runs_find_enough, runs_find_one}
use Rattle.mdv_theorem.proofs.Databases.{databases_stay}
use Rattle.mdv_theorem.proofs.Keeping.{runs_keep_enough}
use Rattle.mdv_theorem.proofs.law.databases_stay.Goals as goal

pub returns-clause-stay : goal.returns-clause-stay
returns-clause-stay c = databases_stay

pub returns-clause-one : goal.returns-clause-one
returns-clause-one c = runs_find_one

pub returns-clause-enough : goal.returns-clause-enough
returns-clause-enough c = runs_find_enough

pub returns-clause-keep : goal.returns-clause-keep
returns-clause-keep c = runs_keep_enough
