use Rattle.std.proofs.Common.{sym, ◌∙◌, ap, List, Bool, ◌&&◌, ◌≡◌}
use Rattle.mdv_quorum.specs.Below.{Version, table_at}
use Rattle.mdv_quorum.specs.May.{may_adopt, is_fair}
use Rattle.mdv_quorum.proofs.machine.Core.may_choose_table.Goals as goal
use Rattle.mdv_quorum.proofs.machine.Core.may_choose_table.Goals.{After-may_adopt}

adopts : (c : After-may_adopt) → c.may_adopt.result ≡ may_adopt c.args.self.now (table_at c.args.self.now.family c.args.number) c.args.read.now c.args.p
adopts c =
    c.may_adopt.ensures
    ∙ ap (λ (t : Version). may_adopt c.args.self.now t c.args.read.now c.args.p) (c.table_at-table.ensures ∙ ap (λ (l : List Version). table_at l c.args.number) c.as_slice.ensures)

pub returns-then-not-may_adopt : goal.returns-then-not-may_adopt
returns-then-not-may_adopt c =
    sym (ap (λ (b : Bool). b && is_fair c.args.self.now c.args.number c.args.read.now) (sym (adopts (goal.at.returns-then-not-may_adopt c).After-may_adopt) ∙ c.if-not-may_adopt.true))

pub returns : goal.returns
returns c =
    c.is_fair.ensures
    ∙ sym (ap (λ (b : Bool). b && is_fair c.args.self.now c.args.number c.args.read.now) (sym (adopts (goal.at.returns c).After-may_adopt) ∙ c.if-not-may_adopt.false))
