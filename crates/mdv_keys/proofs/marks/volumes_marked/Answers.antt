use Rattle.std.proofs.Common.{[], sym, subst}
use Rattle.mdv_keys.specs.Marks.{AreMarked, volume_key}
use Rattle.mdv_keys.proofs.Marking.{marks_none}
use Rattle.mdv_keys.proofs.marks.volumes_marked.Goals as goal

pub returns : goal.returns
returns c = c.mark_volumes.ensures [] (subst (λ m. AreMarked m []) (sym c.in_ok-marks.ensures) (marks_none volume_key 8192))
