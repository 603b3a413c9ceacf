use Rattle.mdv_acts.proofs.clearing.+clear_behind.Given as goal

abbrev pub decreases-clear_behind : goal.decreases-clear_behind
decreases-clear_behind g l = l.number
