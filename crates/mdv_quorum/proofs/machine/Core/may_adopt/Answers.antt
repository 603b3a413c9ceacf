use Rattle.std.proofs.Common.{sym, ◌∙◌, ap, List, ◌&&◌, ◌≡◌, ◌+◌, ◌^◌, Bool}
use Rattle.std.specs.Prelude.{nat_lt}
use Rattle.mdv_quorum.specs.Below.{Version, SpotState, is_in, is_read, knows_above, greatest_of}
use Rattle.mdv_quorum.specs.May.{is_target}
use Rattle.mdv_quorum.proofs.machine.Core.may_adopt.Goals as goal
use Rattle.mdv_quorum.proofs.machine.Core.may_adopt.Goals.{After-is_read}

reads : (c : After-is_read) → c.is_read.result ≡ is_read c.args.table.now (is_in c.args.read.now) (knows_above c.args.self.now.family c.args.self.now.places c.args.table.now)
reads c =
    c.is_read.ensures
    ∙ ap (λ (l : List Version). is_read c.args.table.now (is_in c.args.read.now) (knows_above l c.as_slice-2.result.now c.args.table.now)) c.as_slice.ensures
    ∙ ap (λ (l : List SpotState). is_read c.args.table.now (is_in c.args.read.now) (knows_above c.args.self.now.family l c.args.table.now)) c.as_slice-2.ensures

pub returns-then-not-is_read : goal.returns-then-not-is_read
returns-then-not-is_read c =
    let w = c.args.self.now in
    let rest = is_target w c.args.table.now.lists c.args.p && nat_lt (greatest_of w.family w.places 0 c.args.read.now + 1) (2 ^ 63) in
    sym (ap (λ (b : Bool). b && rest) (sym (reads (goal.at.returns-then-not-is_read c).After-is_read) ∙ c.if-not-is_read.true))

pub returns : goal.returns
returns c =
    let w = c.args.self.now in
    let draws = nat_lt (greatest_of w.family w.places 0 c.args.read.now + 1) (2 ^ 63) in
    let rest = is_target w c.args.table.now.lists c.args.p && draws in
    c.may_draw.ensures ∙ sym (ap (λ (b : Bool). b && draws) (sym c.is_target.ensures ∙ c.if-not-is_target.false))
    ∙ sym (ap (λ (b : Bool). b && rest) (sym (reads (goal.at.returns c).After-is_read) ∙ c.if-not-is_read.false))
