use Rattle.std.proofs.Common.{[], sym, ◌∙◌, ◌≡◌, ap, subst, get_or, take, ◌+◌, ◌++◌, false, List, Bool, Option}
use Rattle.mdv_keys.specs.Below.{OneVolume, PoolId}
use Rattle.mdv_keys.specs.Marks.{AreMarks, pool_key, pool_list, pools_of, pools_unmarked}
use Rattle.mdv_keys.proofs.Marking.{marks_none}
use Rattle.mdv_keys.proofs.Users.{unmarked_more, unmarked_same}
use Rattle.mdv_keys.proofs.using.pools_beside.Goals as goal
use Rattle.mdv_keys.proofs.using.pools_beside.Goals.{then-not-has, else-not-has}

pub loop-volume-init : goal.loop-volume-init
loop-volume-init c = subst (λ m. AreMarks pool_key 1000 m []) (sym c.in_ok-used.ensures) (marks_none pool_key 1000)

pub loop-volume-preserved : goal.loop-volume-preserved
loop-volume-preserved c =
    let ws = c.args.volumes.now in
    let marked = c.args.marked.now in
    let i = c.loop-volume.volume-index in
    let w = c.volume-item.result in
    let at : get_or marked (get_or ws i w).number.0 false ≡ c.has.result = ap (λ (x : OneVolume). get_or marked x.number.0 false) (sym c.volume-item.is) ∙ sym c.has.ensures in
    let front = pools_unmarked marked (take i ws) in
    elim c.if-not-has.branch [
      | then-not-has e ↦
          let one = e.mark_pool.ensures front c.loop-volume.invariant in
          let grown = ap (λ (o : Option PoolId). front ++ pool_list o) e.kind_pool.ensures ∙ ap (λ (x : OneVolume). front ++ pools_of x) c.volume-item.is ∙ unmarked_more pools_of marked ws i w c.loop-volume-test.true (at ∙ e.if-not-has.true) in
          subst (λ (m : List Bool). AreMarks pool_key 1000 m (pools_unmarked marked (take (i + 1) ws))) (sym e.used-is) (subst (AreMarks pool_key 1000 e.mark_pool.new.marks) grown one)
      | else-not-has e ↦
          let same = unmarked_same pools_of marked ws i w c.loop-volume-test.true (at ∙ e.if-not-has.false) in
          subst (λ (m : List Bool). AreMarks pool_key 1000 m (pools_unmarked marked (take (i + 1) ws))) (sym e.used-is) (subst (AreMarks pool_key 1000 c.loop-volume.used) same c.loop-volume.invariant)
    ]
