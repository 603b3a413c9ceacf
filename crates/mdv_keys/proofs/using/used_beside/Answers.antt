use Rattle.std.proofs.Common.{[], sym, ◌∙◌, ◌≡◌, ap, subst, get_or, take, ◌+◌, ◌++◌, false, List, Bool}
use Rattle.mdv_keys.specs.Below.{OneVolume}
use Rattle.mdv_keys.specs.Marks.{AreMarked, below_it, below_unmarked, volume_key}
use Rattle.mdv_keys.proofs.Marking.{marks_none}
use Rattle.mdv_keys.proofs.Users.{unmarked_more, unmarked_same}
use Rattle.mdv_keys.proofs.using.used_beside.Goals as goal
use Rattle.mdv_keys.proofs.using.used_beside.Goals.{then-not-has+in_ok-mark_named, else-not-has}

pub loop-volume-init : goal.loop-volume-init
loop-volume-init c = subst (λ m. AreMarked m []) (sym c.in_ok-used.ensures) (marks_none volume_key 8192)

pub loop-volume-preserved : goal.loop-volume-preserved
loop-volume-preserved c =
    let ws = c.args.volumes.now in
    let marked = c.args.marked.now in
    let i = c.loop-volume.volume-index in
    let w = c.volume-item.result in
    let at : get_or marked (get_or ws i w).number.0 false ≡ c.has.result = ap (λ (x : OneVolume). get_or marked x.number.0 false) (sym c.volume-item.is) ∙ sym c.has.ensures in
    let front = below_unmarked marked (take i ws) in
    elim c.if-not-has.branch [
      | then-not-has+in_ok-mark_named e ↦
          let named = e.in_ok-mark_named.ensures front c.loop-volume.invariant in
          let grown = ap (λ (x : OneVolume). front ++ below_it x) c.volume-item.is ∙ unmarked_more below_it marked ws i w c.loop-volume-test.true (at ∙ e.if-not-has.true) in
          subst (λ (m : List Bool). AreMarked m (below_unmarked marked (take (i + 1) ws))) (sym e.used-is) (subst (AreMarked e.mark_named.new.marks) grown named)
      | else-not-has e ↦
          let same = unmarked_same below_it marked ws i w c.loop-volume-test.true (at ∙ e.if-not-has.false) in
          subst (λ (m : List Bool). AreMarked m (below_unmarked marked (take (i + 1) ws))) (sym e.used-is) (subst (AreMarked c.loop-volume.used) same c.loop-volume.invariant)
    ]
