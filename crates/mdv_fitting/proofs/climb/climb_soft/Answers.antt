use Rattle.std.proofs.Common.{List, subst}
use Rattle.mdv_extent.specs.declared.run.Run.{Run}
use Rattle.mdv_fitting.specs.Climb.{Climbs}
use Rattle.mdv_fitting.proofs.Climbing.{soft_climbs}
use Rattle.mdv_fitting.proofs.climb.climb_soft.Goals as goal

pub returns : goal.returns
returns c =
    let last = c.last_on-last.result in
    let size = c.in-Some.size in
    let end = c.in-Some-climb.end in
    let climbs = subst (λ (l : List Run). Climbs size last.end end l) c.as_slice.ensures.value c.in-Some-climb.ensures in
    λ _. soft_climbs c.args.geometry.now c.args.plan.now c.args.lasts.now c.put.new.self c.args.soft.now size c.base_key-key.result last end c.in-Some.ensures.counted c.in-Some.ensures.size c.base_key-key.ensures c.last_on-last.ensures c.if-last-start.false climbs c.in_ok-put.ensures
