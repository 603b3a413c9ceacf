use Rattle.std.proofs.Common.{◌-◌, List, [], ◌∷◌, sym, subst, arith}
use Rattle.mdv_acts.specs.Acts.{Act, Blanks, HaveGone, HaveStopped, blanks_behind}
use Rattle.mdv_acts.specs.Below.{place_on}
use Rattle.mdv_acts.proofs.Acting.{behind_step, gone_then, on_err, stopped_front, stopped_then}
use Rattle.mdv_acts.proofs.clearing.+clear_behind.Goals as goal

pub returns-in_err-blank-clause-stopped : goal.returns-in_err-blank-clause-stopped
returns-in_err-blank-clause-stopped g t c =
    let a = c.args in
    on_err c.from_residual.result _
    (subst (λ (acts : List Act). HaveStopped g.S.Shelf a.shelf.now c.blank.new.shelf (a.line.at.drive ∷ []) acts) (sym (behind_step a.line a.count a.blocks a.number (omega arith)))
    (stopped_front g.S.Shelf (a.line.at.drive ∷ []) (Blanks (place_on a.line a.blocks a.count a.number) ∷ []) (blanks_behind a.line a.count a.blocks (a.number - 1)) a.shelf.now c.blank.new.shelf
    (rw c.place_at.ensures at c.in_err-blank.ensures.stopped)))

pub returns-in_err-clear_behind-clause-stopped : goal.returns-in_err-clear_behind-clause-stopped
returns-in_err-clear_behind-clause-stopped g t c =
    let a = c.args in
    on_err c.from_residual-in_err-clear_behind.result _
    (subst (λ (acts : List Act). HaveStopped g.S.Shelf a.shelf.now c.clear_behind.new.shelf (a.line.at.drive ∷ []) acts) (sym (behind_step a.line a.count a.blocks a.number (omega arith)))
    (stopped_then g.S.Shelf (a.line.at.drive ∷ []) (Blanks (place_on a.line a.blocks a.count a.number) ∷ []) (blanks_behind a.line a.count a.blocks (a.number - 1)) a.shelf.now c.blank.new.shelf c.clear_behind.new.shelf
    (rw c.place_at.ensures at c.in_ok-blank.ensures.gone) c.in_err-clear_behind.ensures.stopped))

pub returns-clause-gone : goal.returns-clause-gone
returns-clause-gone g t c =
    let a = c.args in
    subst (λ (acts : List Act). HaveGone g.S.Shelf a.shelf.now c.clear_behind.new.shelf (a.line.at.drive ∷ []) acts) (sym (behind_step a.line a.count a.blocks a.number (omega arith)))
    (gone_then g.S.Shelf (a.line.at.drive ∷ []) (Blanks (place_on a.line a.blocks a.count a.number) ∷ []) (blanks_behind a.line a.count a.blocks (a.number - 1)) a.shelf.now c.blank.new.shelf c.clear_behind.new.shelf
    (rw c.place_at.ensures at c.in_ok-blank.ensures.gone) c.in_ok-clear_behind.ensures.gone)
