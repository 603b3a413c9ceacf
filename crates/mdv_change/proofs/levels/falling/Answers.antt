use Rattle.std.proofs.Common.{List, ◌∙◌, subst}
use Rattle.mdv_change.specs.Below.{OneVolume}
use Rattle.mdv_keys.specs.Marks.{AreMarked, below_unmarked}
use Rattle.mdv_change.proofs.Using.{falling_is}
use Rattle.mdv_change.proofs.levels.falling.Goals as goal

pub returns : goal.returns
returns c =
    let named = c.in_ok-named.named in
    let used = c.in_ok-used.used in
    let uses = subst (λ (ws : List OneVolume). AreMarked used (below_unmarked named ws)) c.as_slice.ensures.value c.in_ok-used.ensures in
    c.in_ok-fall.ensures ∙ falling_is c.args.plan.now c.args.volumes.now named used c.args.list.now c.as_slice.ensures.keys c.in_ok-named.ensures uses
