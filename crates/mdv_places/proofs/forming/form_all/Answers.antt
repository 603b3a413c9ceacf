use Rattle.std.proofs.Common.{List, subst}
use Rattle.mdv_acts.proofs.Acting.{gone_then, on_err, stopped_front, stopped_then}
use Rattle.mdv_acts.specs.Acts.{Act, HaveGone, HaveStopped, blanks_asked, forms_asked}
use Rattle.mdv_acts.specs.Asked.{drives_asked}
use Rattle.mdv_places.proofs.forming.form_all.Goals as goal

pub returns-in_err-clear_all-clause-stopped : goal.returns-in_err-clear_all-clause-stopped
returns-in_err-clear_all-clause-stopped g c =
    let a = c.args in
    on_err c.from_residual.result _
    (stopped_front g.S.Shelf (drives_asked a.lines.now) (blanks_asked a.lines.now a.count a.blocks) (forms_asked a.store.now.key a.store.now.identity a.store.now.mark.boot a.lines.now a.count a.blocks) a.shelf.now c.clear_all.new.shelf c.in_err-clear_all.ensures.stopped)

pub returns-in_err-format_all-clause-stopped : goal.returns-in_err-format_all-clause-stopped
returns-in_err-format_all-clause-stopped g c =
    let a = c.args in
    on_err c.from_residual-in_err-format_all.result _
    (stopped_then g.S.Shelf (drives_asked a.lines.now) (blanks_asked a.lines.now a.count a.blocks) (forms_asked a.store.now.key a.store.now.identity a.store.now.mark.boot a.lines.now a.count a.blocks) a.shelf.now c.clear_all.new.shelf c.format_all.new.shelf c.in_ok-clear_all.ensures.gone
    (subst (λ (l : List Act). HaveStopped g.S.Shelf c.clear_all.new.shelf c.format_all.new.shelf (drives_asked a.lines.now) l)
    (λ i. forms_asked (c.key.ensures i) (c.identity.ensures i) (c.mark.ensures i).boot a.lines.now a.count a.blocks) c.in_err-format_all.ensures.stopped))

pub returns-clause-gone : goal.returns-clause-gone
returns-clause-gone g c =
    let a = c.args in
    gone_then g.S.Shelf (drives_asked a.lines.now) (blanks_asked a.lines.now a.count a.blocks) (forms_asked a.store.now.key a.store.now.identity a.store.now.mark.boot a.lines.now a.count a.blocks) a.shelf.now c.clear_all.new.shelf c.format_all.new.shelf c.in_ok-clear_all.ensures.gone
    (subst (λ (l : List Act). HaveGone g.S.Shelf c.clear_all.new.shelf c.format_all.new.shelf (drives_asked a.lines.now) l)
    (λ i. forms_asked (c.key.ensures i) (c.identity.ensures i) (c.mark.ensures i).boot a.lines.now a.count a.blocks) c.in_ok-format_all.ensures.gone)
