use Rattle.mdv_run_law.proofs.Fair.{fair_lines_meet_none}
use Rattle.mdv_run_law.proofs.Living.{lives_stand, hosts_see, database_is_found, blocks_hold}
use Rattle.mdv_run_law.proofs.law.lives_stand.Goals as goal

pub returns-clause-stand : goal.returns-clause-stand
returns-clause-stand c = lives_stand

pub returns-clause-see : goal.returns-clause-see
returns-clause-see c = hosts_see

pub returns-clause-found : goal.returns-clause-found
returns-clause-found c = database_is_found

pub returns-clause-blocks : goal.returns-clause-blocks
returns-clause-blocks c = blocks_hold

pub returns-clause-fair : goal.returns-clause-fair
returns-clause-fair c = fair_lines_meet_none
