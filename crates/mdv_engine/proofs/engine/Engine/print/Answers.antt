use Rattle.std.proofs.Common.{◌≡◌, ◌∙◌, Option, Some, None, ap, rules, subst, sym}
use Rattle.mdv_base.specs.Order.{first_refusal}
use Rattle.mdv_base.specs.declared.refusal.Refusal.{Refusal}
use Rattle.mdv_engine_law.specs.Refusals.{held_of_names}
use Rattle.mdv_engine.specs.Printing.{IsPrint}
use Rattle.mdv_engine.specs.declared.engine.Engine.{Engine}
use Rattle.mdv_engine.proofs.Printing.{printed_open, printed_shut, turned_down_open}
use Rattle.mdv_plan.specs.declared.table.Table.{Table}
use Rattle.mdv_engine.proofs.engine.Engine.print.Goals as goal

pub returns-in_default : goal.returns-in_default
returns-in_default c = printed_shut c.args.self.now.state c.args.names.now (search rules)

pub returns-in-Some-names_refusal : goal.returns-in-Some-names_refusal
returns-in-Some-names_refusal c =
    turned_down_open c.args.self.now.state c.in-Some.store c.args.names.now c.in-Some-names_refusal.refusal (ap (λ (e : Engine). e.state.opened) (sym c.self.view_is) ∙ c.in-Some.is)
    (subst (λ (t : Table). Some c.in-Some-names_refusal.refusal ≡ first_refusal (held_of_names t.plan c.args.names.now)) c.table-table.ensures (sym c.in-Some-names_refusal.is ∙ c.names_refusal.ensures))

pub returns-in-None : goal.returns-in-None
returns-in-None c =
    printed_open c.args.self.now.state c.in-Some.store c.args.names.now c.printed.result (ap (λ (e : Engine). e.state.opened) (sym c.self.view_is) ∙ c.in-Some.is)
    (subst (λ (t : Table). ◌≡◌ {A = Option Refusal} None (first_refusal (held_of_names t.plan c.args.names.now))) c.table-table.ensures (sym c.in-None.is ∙ c.names_refusal.ensures))
    (subst (λ (t : Table). IsPrint t.plan c.args.names.now c.printed.result) c.table-table.ensures c.printed.ensures)
