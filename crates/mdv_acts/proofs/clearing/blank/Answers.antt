use Rattle.mdv_replica.specs.Replica.{IsWiped, Wiping}
use Rattle.mdv_acts.specs.Acts.{Blanks}
use Rattle.mdv_acts.proofs.Acting.{both_ends, on_err, one_gone, one_stopped}
use Rattle.mdv_acts.proofs.clearing.blank.Goals as goal

pub returns-in_err-wipe-clause-stopped : goal.returns-in_err-wipe-clause-stopped
returns-in_err-wipe-clause-stopped g c =
    on_err c.from_residual.result _ (one_stopped g.S.Shelf (Blanks c.args.at) c.args.at.drive c.args.shelf.now c.wipe.new.shelf c.wipe.ensures.moments c.wipe.ensures.kept c.in_err-wipe.ensures.cause.failed c.wipe.ensures.counted.any)

pub returns-clause-gone : goal.returns-clause-gone
returns-clause-gone g c =
    one_gone g.S.Shelf (Blanks c.args.at) c.args.at.drive c.args.shelf.now c.wipe.new.shelf c.wipe.ensures.moments c.wipe.ensures.kept
    (both_ends (Wiping c.args.at) (λ _ u. IsWiped c.args.at u) _ _ c.wipe.ensures.moments c.in_ok-wipe.ensures.settled) c.in_ok-wipe.ensures.cause.calm c.in_ok-wipe.ensures.counted.done
