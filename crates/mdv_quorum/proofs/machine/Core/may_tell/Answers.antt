use Rattle.std.proofs.Common.{sym, ◌∙◌, ap, List}
use Rattle.mdv_quorum.specs.Below.{Spot, is_in, is_written}
use Rattle.mdv_quorum.specs.World.{last_table}
use Rattle.mdv_quorum.specs.May.{may_tell}
use Rattle.mdv_quorum.proofs.machine.Core.may_tell.Goals as goal

pub returns-in-Writing : goal.returns-in-Writing
returns-in-Writing c =
    let w = c.args.self.now in
    c.is_last_written.ensures ∙ ap (λ (l : List Spot). is_written (last_table w) (is_in l)) c.as_slice.ensures ∙ sym (ap (may_tell w) c.in-Writing.is)
