use Rattle.mdv_keys.specs.Marks.{volume_key}
use Rattle.mdv_keys.proofs.Marking.{mark_step, marks_all}
use Rattle.mdv_keys.proofs.marks.mark_volumes.Goals as goal

pub loop-volume-preserved : goal.loop-volume-preserved
loop-volume-preserved c = λ vs are. mark_step volume_key 8192 c.loop-volume.marks c.add.new.self vs c.args.volumes.now c.loop-volume.volume-index (record { 0 = 0 }) c.loop-volume-test.true c.add.ensures (c.loop-volume.invariant vs are)

pub returns : goal.returns
returns c = λ vs are. marks_all volume_key 8192 c.loop-volume.marks vs c.args.volumes.now c.loop-volume.volume-index c.loop-volume-test.false (c.loop-volume.invariant vs are)
