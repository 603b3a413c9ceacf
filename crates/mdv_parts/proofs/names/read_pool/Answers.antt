use Rattle.std.proofs.Common.{◌≡◌, Option, List, ℕ, true, false, sym, ◌∙◌, ap}
use Rattle.mdv_name.specs.declared.volume.PoolName.{PoolName}
use Rattle.mdv_name.proofs.Volumes.{one_pool}
use Rattle.mdv_parts.specs.Names.{fits}
use Rattle.mdv_parts.proofs.names.read_pool.Goals as goal

pub returns-in_err-name-clause-none : goal.returns-in_err-name-clause-none
returns-in_err-name-clause-none c = rw c.from_residual.ensures (λ v names. c.in_err-name.ensures.none (record { set = names.set; pool = v }) names.form names.spelled)

pub returns-else-fits-clause-none : goal.returns-else-fits-clause-none
returns-else-fits-clause-none c = λ v names.
    let same = one_pool c.in_ok-name.name (record { set = names.set; pool = v }) c.in_ok-name.ensures.form names.form (sym c.in_ok-name.ensures.value ∙ names.spelled) in
    let set : c.in_ok-name.name.set ≡ names.set = ap (λ (n : PoolName). n.set) same in
    let wrong : true ≡ false = sym names.fits ∙ ap (λ (s : Option (List ℕ)). fits c.args.scope.now s) (sym set) ∙ sym c.fits.ensures ∙ c.if-fits.false in
    cc
