use Rattle.std.proofs.Common.{◌≡◌, ◌||◌, Bool, List, false, get_or, sym, ◌∙◌, ap, subst}
use Rattle.std.specs.List.{list_any}
use Rattle.mdv_change.specs.Below.{OneVolume, PoolId, VolId, pool_key}
use Rattle.mdv_keys.specs.Marks.{AreMarks, AreMarked, below_unmarked, pools_unmarked}
use Rattle.mdv_change.proofs.Using.{left_is}
use Rattle.mdv_change.proofs.clearing.has_user.Goals as goal
use Rattle.mdv_change.proofs.clearing.has_user.Goals.{then-has_marked, else-has_marked}

pub returns : goal.returns
returns c =
    let p = c.args.plan.now in
    let volumes = c.args.volumes.now in
    let pools = c.args.pools.now in
    let named = c.in_ok-named.named in
    let used = c.in_ok-used.used in
    let used_pools = c.in_ok-used_pools.used_pools in
    let by_volumes = list_any (λ (v : VolId). get_or used v.0 false) volumes in
    let by_pools = list_any (λ (q : PoolId). get_or used_pools q.0 false) pools in
    let either : c.if-has_marked.result ≡ (by_volumes || by_pools) = elim c.if-has_marked.branch [
      | then-has_marked w ↦ w.result-is ∙ w.if-has_marked.true ∙ ap (λ (b : Bool). b || by_pools) (sym w.if-has_marked.true ∙ c.has_marked.ensures)
      | else-has_marked w ↦ w.result-is ∙ w.has_marked_pool.ensures ∙ ap (λ (b : Bool). b || by_pools) (sym w.if-has_marked.false ∙ c.has_marked.ensures)
    ] in
    let uses = subst (λ (ws : List OneVolume). AreMarked used (below_unmarked named ws)) c.as_slice-users.ensures.value c.in_ok-used.ensures in
    let uses_pools = subst (λ (ws : List OneVolume). AreMarks pool_key 1000 used_pools (pools_unmarked named ws)) c.as_slice-users.ensures.value c.in_ok-used_pools.ensures in
    either ∙ left_is p volumes pools named used used_pools c.as_slice-users.ensures.keys c.as_slice-pools.ensures.keys c.requires.volumes c.requires.pools c.in_ok-named.ensures uses uses_pools
