use Rattle.std.proofs.Common.{sym, subst}
use Rattle.mdv_base.specs.Name.{IsName}
use Rattle.mdv_name.specs.Volume.{pool_number_text}
use Rattle.mdv_name.proofs.Paths.{one_set}
use Rattle.mdv_name.proofs.Sets.{refute_set}
use Rattle.mdv_name.proofs.parse.parse_pool.Goals as goal

pub returns-in_err-set-clause-none : goal.returns-in_err-set-clause-none
returns-in_err-set-clause-none c =
    rw c.from_residual-in_err-set.ensures (λ p form is.
    refute_set _ (pool_number_text p.pool.0) p.set form.set is (c.in_default.ensures.none p.pool.0 form.pool) (λ s begins.
    let never = c.in_err-set.ensures.valid.1 (subst IsName (sym (one_set _ _ _ s (pool_number_text p.pool.0) c.in_ok-front.ensures.value begins).0) begins.name) in
    cc))

pub returns-in_err-pool-clause-none : goal.returns-in_err-pool-clause-none
returns-in_err-pool-clause-none c =
    rw c.from_residual-in_err-pool.ensures (λ p form is.
    refute_set _ (pool_number_text p.pool.0) p.set form.set is (c.in_default.ensures.none p.pool.0 form.pool) (λ s begins.
    c.in_err-pool.ensures.none p.pool.0 form.pool (one_set _ _ _ s (pool_number_text p.pool.0) c.in_ok-front.ensures.value begins).1))
