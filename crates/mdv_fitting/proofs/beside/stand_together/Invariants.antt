use Rattle.std.proofs.Common.{take}
use Rattle.mdv_fitting.specs.Beside.{StandTogether}
use Rattle.mdv_fitting.specs.Firsts.{AreFirsts}
use Rattle.mdv_fitting.proofs.beside.stand_together.Given as goal

abbrev pub invariant-loop-one : goal.invariant-loop-one
invariant-loop-one l = record { firsts : AreFirsts (take l.one-index l.uses) l.firsts; stands : StandTogether l.geometry (take l.one-index l.uses) }
