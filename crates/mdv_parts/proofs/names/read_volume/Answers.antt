use Rattle.std.proofs.Common.{◌≡◌, Option, List, ℕ, true, false, sym, ◌∙◌, ap}
use Rattle.mdv_name.specs.declared.volume.VolName.{VolName}
use Rattle.mdv_name.proofs.Volumes.{one_volume}
use Rattle.mdv_parts.specs.Names.{fits}
use Rattle.mdv_parts.proofs.names.read_volume.Goals as goal

pub returns-in_err-name-clause-none : goal.returns-in_err-name-clause-none
returns-in_err-name-clause-none c = rw c.from_residual.ensures (λ v names. c.in_err-name.ensures.none (record { set = names.set; volume = v }) names.form names.spelled)

pub returns-else-fits-clause-none : goal.returns-else-fits-clause-none
returns-else-fits-clause-none c = λ v names.
    let same = one_volume c.in_ok-name.name (record { set = names.set; volume = v }) c.args.word.now c.in_ok-name.ensures.form names.form c.in_ok-name.ensures.value names.spelled in
    let set : c.in_ok-name.name.set ≡ names.set = ap (λ (n : VolName). n.set) same in
    let wrong : true ≡ false = sym names.fits ∙ ap (λ (s : Option (List ℕ)). fits c.args.scope.now s) (sym set) ∙ sym c.fits.ensures ∙ c.if-fits.false in
    cc
