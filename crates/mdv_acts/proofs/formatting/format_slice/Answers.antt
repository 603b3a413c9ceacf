use Rattle.std.proofs.Common.{◌+◌, ◌-◌, List, [], ◌∷◌, ◌++◌, sym, subst}
use Rattle.mdv_acts.specs.Acts.{Act, HaveGone, HaveStopped, form_on, forms_from}
use Rattle.mdv_acts.proofs.Acting.{forms_front, forms_next, gone_then, on_err, stopped_front, stopped_then}
use Rattle.mdv_acts.proofs.formatting.format_slice.Goals as goal

pub returns-in_err-form-clause-stopped : goal.returns-in_err-form-clause-stopped
returns-in_err-form-clause-stopped g c =
    let a = c.args in
    let n = c.loop-number.number in
    on_err c.from_residual.result _
    (subst (λ (l : List Act). HaveStopped g.S.Shelf a.shelf.now c.form.new.shelf (a.line.at.drive ∷ []) l) (sym (forms_front a.owner.now.key a.owner.now.identity a.owner.now.claim a.line a.count a.blocks n c.loop-number-test.true))
    (stopped_front g.S.Shelf (a.line.at.drive ∷ []) (forms_from a.owner.now.key a.owner.now.identity a.owner.now.claim a.line a.count a.blocks 0 n ++ form_on a.owner.now.key a.owner.now.identity a.owner.now.claim a.line a.count a.blocks n ∷ []) (forms_from a.owner.now.key a.owner.now.identity a.owner.now.claim a.line a.count a.blocks (n + 1) (a.count - (n + 1))) a.shelf.now c.form.new.shelf
    (stopped_then g.S.Shelf (a.line.at.drive ∷ []) (forms_from a.owner.now.key a.owner.now.identity a.owner.now.claim a.line a.count a.blocks 0 n) (form_on a.owner.now.key a.owner.now.identity a.owner.now.claim a.line a.count a.blocks n ∷ []) a.shelf.now c.loop-number.shelf c.form.new.shelf c.loop-number.invariant
    (rw c.place_at.ensures at c.in_err-form.ensures.stopped))))

pub loop-number-preserved : goal.loop-number-preserved
loop-number-preserved g c =
    let a = c.args in
    let n = c.loop-number.number in
    subst (λ (l : List Act). HaveGone g.S.Shelf a.shelf.now c.form.new.shelf (a.line.at.drive ∷ []) l) (sym (forms_next a.owner.now.key a.owner.now.identity a.owner.now.claim a.line a.count a.blocks n))
    (gone_then g.S.Shelf (a.line.at.drive ∷ []) (forms_from a.owner.now.key a.owner.now.identity a.owner.now.claim a.line a.count a.blocks 0 n) (form_on a.owner.now.key a.owner.now.identity a.owner.now.claim a.line a.count a.blocks n ∷ []) a.shelf.now c.loop-number.shelf c.form.new.shelf c.loop-number.invariant
    (rw c.place_at.ensures at c.in_ok-form.ensures.gone))
