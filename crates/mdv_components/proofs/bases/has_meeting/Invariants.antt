use Rattle.std.proofs.Common.{◌≡◌, length}
use Rattle.mdv_components.specs.Bases.{has_meeting}
use Rattle.mdv_components.proofs.bases.has_meeting.Given as goal

abbrev pub invariant-loop-rest : goal.invariant-loop-rest
invariant-loop-rest l = has_meeting l.geometry l.bases ≡ has_meeting l.geometry l.rest

abbrev pub decreases-loop-rest : goal.decreases-loop-rest
decreases-loop-rest l = length l.rest
