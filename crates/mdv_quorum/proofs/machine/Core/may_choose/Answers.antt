use Rattle.std.proofs.Common.{sym, ◌∙◌, ap, List, ◌≡◌, None, Some}
use Rattle.mdv_quorum.specs.Below.{Version, SpotState, newest_of}
use Rattle.mdv_quorum.specs.May.{may_choose}
use Rattle.mdv_quorum.proofs.machine.Core.may_choose.Goals as goal

pub returns-in-Some : goal.returns-in-Some
returns-in-Some c =
    let w = c.args.self.now in
    let read = c.args.read.now in
    let chosen : newest_of w.family w.places None read ≡ Some c.in-Some.number =
    sym (ap (λ (l : List Version). newest_of l w.places None read) c.as_slice.ensures)
    ∙ sym (ap (λ (l : List SpotState). newest_of c.as_slice.result.now l None read) c.as_slice-2.ensures)
    ∙ sym c.newest_of.ensures ∙ c.in-Some.is in
    c.may_choose_table.ensures ∙ sym (ap (may_choose w c.args.p read) chosen)
