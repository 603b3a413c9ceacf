use Rattle.std.proofs.Common.{sym, ◌∙◌, ap, ◌-◌, List, length}
use Rattle.mdv_quorum.specs.Below.{Spot, is_in, is_written}
use Rattle.mdv_quorum.specs.declared.machine.Core.{Core}
use Rattle.mdv_quorum.specs.declared.machine.Stage.{Stage}
use Rattle.mdv_quorum.specs.declared.machine.Stage.TheVariants.{Writing}
use Rattle.mdv_quorum.specs.World.{settled, places_after, last_table, slotted}
use Rattle.mdv_quorum.proofs.machine.Core.slot.Goals as goal

pub returns-in_ok-took-in-Writing-clause-ok : goal.returns-in_ok-took-in-Writing-clause-ok
returns-in_ok-took-in-Writing-clause-ok c =
    let w = c.args.self.now in
    let after : List Spot → Core = λ took.
    settled (record w { places = places_after w.places (length w.family - 1) c.args.p c.args.end; stage = Writing c.in-Writing.boot took })
    (last_table w) (is_written (last_table w) (is_in took)) in
    c.write.ensures ∙ ap after c.in_ok-took-in-Writing.ensures ∙ sym (ap (λ (s : Stage). slotted w c.args.p c.args.end s) c.in-Writing.is)
