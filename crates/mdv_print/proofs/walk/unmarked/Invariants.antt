use Rattle.std.proofs.Common.{◌≡◌, take}
use Rattle.mdv_print.specs.Marks.{unmarked_of}
use Rattle.mdv_print.proofs.walk.unmarked.Given as goal

abbrev pub invariant-loop-volume : goal.invariant-loop-volume
invariant-loop-volume l = l.list.items ≡ unmarked_of l.marks (take l.volume-index l.volumes)
