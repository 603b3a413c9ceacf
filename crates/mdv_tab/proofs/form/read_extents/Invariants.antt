use Rattle.std.proofs.Common.{◌≡◌, length}
use Rattle.mdv_tab.specs.Form.{extents}
use Rattle.mdv_tab.proofs.Extents.{put_extents}
use Rattle.mdv_tab.proofs.form.read_extents.Given as goal

abbrev pub invariant-loop-rest : goal.invariant-loop-rest
invariant-loop-rest l = extents l.parts ≡ put_extents l.list (extents l.rest)

abbrev pub decreases-loop-rest : goal.decreases-loop-rest
decreases-loop-rest l = length l.rest
