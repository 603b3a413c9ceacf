use Rattle.std.proofs.Common.{sym, ◌∙◌, ap, List, ◌&&◌}
use Rattle.mdv_quorum.specs.Below.{Spot, is_in, is_claimed}
use Rattle.mdv_quorum.specs.May.{may_slot, is_target}
use Rattle.mdv_quorum.proofs.machine.Core.may_slot.Goals as goal

pub returns-in-Claiming : goal.returns-in-Claiming
returns-in-Claiming c =
    let w = c.args.self.now in
    let next = c.in-Claiming.next in
    c.may_begin.ensures ∙ ap (λ (l : List Spot). is_claimed w.set next (is_in l) && is_target w next.lists c.args.p) c.as_slice.ensures
    ∙ sym (ap (may_slot w c.args.p) c.in-Claiming.is)
