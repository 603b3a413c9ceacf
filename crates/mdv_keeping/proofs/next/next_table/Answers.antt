use Rattle.std.proofs.Common.{◌≡◌, Bool, false, IfErr, rules, subst, sym, ◌∙◌}
use Rattle.mdv_change.specs.Apply.{IsApplied}
use Rattle.mdv_keeping.specs.Below.{HasFault, Table, refusal_of}
use Rattle.mdv_keeping.specs.Built.{names_db}
use Rattle.mdv_keeping.specs.Refused.{IsFaultOf, cause_with}
use Rattle.mdv_keeping.proofs.Judged.{applied_made, applied_may, fault_has}
use Rattle.mdv_keeping.proofs.Keeping.{tables_stay}
use Rattle.mdv_keeping.proofs.next.next_table.Goals as goal

pub returns-in_err-judged-clause-cause : goal.returns-in_err-judged-clause-cause
returns-in_err-judged-clause-cause c =
    let args = c.args in
    let g = args.geometry.now in
    let next = c.apply-applied.new.table in
    let told = c.apply-applied.result in
    let result = c.from_residual-in_err-judged.result in
    let applied : IsApplied g args.drives.now args.change.now args.table.now next told =
    subst (λ (t : Table). IsApplied g args.drives.now args.change.now t next told) c.in_ok-next.ensures c.apply-applied.ensures in
    let cause = refusal_of g args.drives.now args.table.now args.change.now in
    let fault : IfErr result (IsFaultOf told c.names_db.result) = search rules in
    subst (λ (b : Bool). IfErr result (HasFault (cause_with cause b))) c.names_db.ensures
    (fault_has told c.names_db.result cause result (applied_may g args.drives.now args.change.now args.table.now next told applied) fault)

pub returns-clause-made : goal.returns-clause-made
returns-clause-made c =
    let args = c.args in
    let g = args.geometry.now in
    let next = c.apply-applied.new.table in
    let told = c.apply-applied.result in
    let applied : IsApplied g args.drives.now args.change.now args.table.now next told =
    subst (λ (t : Table). IsApplied g args.drives.now args.change.now t next told) c.in_ok-next.ensures c.apply-applied.ensures in
    applied_made g args.drives.now args.change.now args.table.now next told applied c.in_ok-judged.ensures.ok.0

pub returns-clause-step : goal.returns-clause-step
returns-clause-step c =
    let args = c.args in
    let g = args.geometry.now in
    let made = returns-clause-made c in
    let plain : names_db g args.change.now ≡ false = sym c.names_db.ensures ∙ c.in_ok-judged.ensures.ok.1 in
    record {
      built = c.requires.built;
      plain = plain;
      drives = args.drives.now;
      made = made;
      old_of = c.requires.of_geometry;
      next_of = tables_stay.kept g args.drives.now args.change.now args.table.now c.apply-applied.new.table c.requires.sound c.requires.of_geometry c.requires.built plain made;
    }
