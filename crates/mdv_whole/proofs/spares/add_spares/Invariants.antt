use Rattle.std.proofs.Common.{take}
use Rattle.mdv_whole.specs.Held.{HasSpares}
use Rattle.mdv_whole.proofs.spares.add_spares.Given as goal

abbrev pub invariant-loop-spare : goal.invariant-loop-spare
invariant-loop-spare l = HasSpares l.fn.noted (take l.spare-index l.spares) l.noted
