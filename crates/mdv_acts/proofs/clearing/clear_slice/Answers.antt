use Rattle.std.proofs.Common.{◌-◌, [], ◌∷◌}
use Rattle.mdv_acts.specs.Acts.{Blanks, blanks_behind}
use Rattle.mdv_acts.specs.Below.{place_on}
use Rattle.mdv_acts.proofs.Acting.{gone_then, on_err, stopped_front, stopped_then}
use Rattle.mdv_acts.proofs.clearing.clear_slice.Goals as goal

pub returns-in_err-blank-clause-stopped : goal.returns-in_err-blank-clause-stopped
returns-in_err-blank-clause-stopped g c =
    let a = c.args in
    on_err c.from_residual.result _
    (stopped_front g.S.Shelf (a.line.at.drive ∷ []) (Blanks (place_on a.line a.blocks a.count 0) ∷ []) (blanks_behind a.line a.count a.blocks (a.count - 1)) a.shelf.now c.blank.new.shelf (rw c.place_at.ensures at c.in_err-blank.ensures.stopped))

pub returns-in_err-clear_behind-clause-stopped : goal.returns-in_err-clear_behind-clause-stopped
returns-in_err-clear_behind-clause-stopped g c =
    let a = c.args in
    on_err c.from_residual-in_err-clear_behind.result _
    (stopped_then g.S.Shelf (a.line.at.drive ∷ []) (Blanks (place_on a.line a.blocks a.count 0) ∷ []) (blanks_behind a.line a.count a.blocks (a.count - 1)) a.shelf.now c.blank.new.shelf c.clear_behind.new.shelf
    (rw c.place_at.ensures at c.in_ok-blank.ensures.gone) c.in_err-clear_behind.ensures.stopped)

pub returns-clause-gone : goal.returns-clause-gone
returns-clause-gone g c =
    let a = c.args in
    gone_then g.S.Shelf (a.line.at.drive ∷ []) (Blanks (place_on a.line a.blocks a.count 0) ∷ []) (blanks_behind a.line a.count a.blocks (a.count - 1)) a.shelf.now c.blank.new.shelf c.clear_behind.new.shelf
    (rw c.place_at.ensures at c.in_ok-blank.ensures.gone) c.in_ok-clear_behind.ensures.gone
