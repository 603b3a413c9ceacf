use Rattle.mdv_replica.specs.Replica.{Formatting, IsFormatted, master_of}
use Rattle.mdv_acts.specs.Acts.{Forms}
use Rattle.mdv_acts.proofs.Acting.{both_ends, on_err, one_gone, one_stopped}
use Rattle.mdv_acts.proofs.formatting.form.Goals as goal

pub returns-in_err-format-clause-stopped : goal.returns-in_err-format-clause-stopped
returns-in_err-format-clause-stopped g c =
    on_err c.from_residual.result _
    (one_stopped g.S.Shelf (Forms c.args.at (master_of c.args.at c.args.owner.now.key c.args.owner.now.identity) c.args.owner.now.claim) c.args.at.drive c.args.shelf.now c.format.new.shelf c.format.ensures.moments c.format.ensures.kept c.in_err-format.ensures.answer.cause.failed c.format.ensures.counted.any)

pub returns-clause-gone : goal.returns-clause-gone
returns-clause-gone g c =
    let master = master_of c.args.at c.args.owner.now.key c.args.owner.now.identity in
    one_gone g.S.Shelf (Forms c.args.at master c.args.owner.now.claim) c.args.at.drive c.args.shelf.now c.format.new.shelf c.format.ensures.moments c.format.ensures.kept
    (both_ends (Formatting c.args.at master c.args.owner.now.claim) (λ _ u. IsFormatted c.args.at master c.args.owner.now.claim u) _ _ c.format.ensures.moments c.in_ok-format.ensures.settled) c.in_ok-format.ensures.answer.cause.calm c.in_ok-format.ensures.counted.done
