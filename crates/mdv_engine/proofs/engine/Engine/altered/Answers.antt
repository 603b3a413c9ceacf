use Rattle.std.proofs.Common.{◌≡◌, ◌∙◌, Some, sym, subst, List}
use Rattle.mdv_keeping.specs.Below.{IsMade}
use Rattle.mdv_keeping.specs.Refused.{refusal_in}
use Rattle.mdv_engine_law.specs.Altering.{Alters}
use Rattle.mdv_engine.specs.Below.{DriveNo}
use Rattle.mdv_engine.specs.Engine.{HasChangeCause, IsNextTable}
use Rattle.mdv_engine.specs.declared.engine.Engine.{Engine}
use Rattle.mdv_engine.proofs.Altered.{is_asked, is_built, is_next, is_refused}
use Rattle.mdv_engine.proofs.engine.Engine.altered.Goals as goal

pub next_table-requires-clause-built : goal.next_table-requires-clause-built
next_table-requires-clause-built c =
    let asks : Alters c.args.alteration.now c.in-Ok-Some.change = sym c.in-Ok-Some.ensures ∙ c.in-Ok-Some.field-0-is in
    is_built c.args.alteration.now c.requires.form c.in-Ok-Some.change asks

pub returns-in-Ok-clause-ok : goal.returns-in-Ok-clause-ok
returns-in-Ok-clause-ok c =
    let seen : Engine = record { host = c.self.inside.0.0; state = record { opened = c.self.inside.0.1.0.database; up = c.self.inside.0.1.0.up; unsteady = c.self.inside.0.1.0.unsteady; clean = c.self.inside.0.1.0.clean; begun = c.self.inside.0.1.0.begun; entries = c.self.inside.0.1.0.entries.items } } in
    let alteration = c.args.alteration.now in
    let change = c.in-Ok-Some.change in
    let asks : Alters alteration change = sym c.in-Ok-Some.ensures ∙ c.in-Ok-Some.field-0-is in
    subst (λ (e : Engine). IsNextTable e.host e.state alteration c.in-Ok.next) c.self.view_is
    (is_next seen.host seen.state c.in-Some.store c.in-Some.is c.table-table.result.now c.table-table.ensures alteration change asks (is_asked alteration c.requires.form change asks) c.in-Ok.next
    (subst (λ (drives : List DriveNo). IsMade seen.host.drives drives change c.table-table.result.now c.in-Ok.next) c.as_slice-drives.ensures c.in-Ok.ensures.made) c.in-Ok.ensures.step)

pub returns-in-Err-Refused-clause-err : goal.returns-in-Err-Refused-clause-err
returns-in-Err-Refused-clause-err c =
    let seen : Engine = record { host = c.self.inside.0.0; state = record { opened = c.self.inside.0.1.0.database; up = c.self.inside.0.1.0.up; unsteady = c.self.inside.0.1.0.unsteady; clean = c.self.inside.0.1.0.clean; begun = c.self.inside.0.1.0.begun; entries = c.self.inside.0.1.0.entries.items } } in
    let alteration = c.args.alteration.now in
    let change = c.in-Ok-Some.change in
    let asks : Alters alteration change = sym c.in-Ok-Some.ensures ∙ c.in-Ok-Some.field-0-is in
    subst (λ (e : Engine). HasChangeCause e.host e.state alteration c.in-Err-Refused.refusal) c.self.view_is
    (is_refused seen.host seen.state c.in-Some.store c.in-Some.is c.table-table.result.now c.table-table.ensures alteration change asks c.in-Err-Refused.refusal
    (subst (λ (drives : List DriveNo). refusal_in seen.host.drives drives c.table-table.result.now change ≡ Some c.in-Err-Refused.refusal) c.as_slice-drives.ensures (rw c.in-Err-Refused.field-0-is at c.in-Err-Refused.ensures.cause)))
