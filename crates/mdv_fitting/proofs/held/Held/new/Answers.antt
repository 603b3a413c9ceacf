use Rattle.mdv_fitting.proofs.Cells.{held_none}
use Rattle.mdv_fitting.proofs.held.Held.new.Goals as goal

pub returns : goal.returns
returns g c = held_none (record { cells = c.loop.cells; rest = c.new-rest.result }) c.loop.invariant c.new-rest.ensures.empty
