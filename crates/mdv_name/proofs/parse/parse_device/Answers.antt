use Rattle.std.proofs.Common.{sym, subst}
use Rattle.mdv_base.specs.Name.{IsName}
use Rattle.mdv_name.specs.Volume.{SpellsInDirectory}
use Rattle.mdv_name.proofs.Paths.{one_set}
use Rattle.mdv_name.proofs.Sets.{refute_set}
use Rattle.mdv_name.proofs.parse.parse_device.Goals as goal

pub returns-in_err-set-clause-none : goal.returns-in_err-set-clause-none
returns-in_err-set-clause-none c =
    rw c.from_residual-in_err-set.ensures (λ v form device.
    refute_set _ device.0 v.set form.set device.2 (λ is. c.in_default.ensures.none v.volume.0 form.volume (subst (SpellsInDirectory v.volume.0) (sym is) device.1)) (λ s begins.
    let never = c.in_err-set.ensures.valid.1 (subst IsName (sym (one_set _ _ _ s device.0 c.in_ok-front.ensures.value begins).0) begins.name) in
    cc))

pub returns-in_err-volume-clause-none : goal.returns-in_err-volume-clause-none
returns-in_err-volume-clause-none c =
    rw c.from_residual-in_err-volume.ensures (λ v form device.
    refute_set _ device.0 v.set form.set device.2 (λ is. c.in_default.ensures.none v.volume.0 form.volume (subst (SpellsInDirectory v.volume.0) (sym is) device.1)) (λ s begins.
    c.in_err-volume.ensures.none v.volume.0 form.volume (subst (SpellsInDirectory v.volume.0) (sym (one_set _ _ _ s device.0 c.in_ok-front.ensures.value begins).1) device.1)))
