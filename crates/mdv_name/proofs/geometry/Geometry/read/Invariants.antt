use Rattle.std.proofs.Common.{length}
use Rattle.mdv_name.proofs.Reading.{ReadSoFar}
use Rattle.mdv_name.proofs.geometry.Geometry.read.Given as goal

abbrev pub invariant-loop-rest : goal.invariant-loop-rest
invariant-loop-rest l = ReadSoFar l.text l.rest l.number l.geometry

abbrev pub decreases-loop-rest : goal.decreases-loop-rest
decreases-loop-rest l = length l.rest
