use Rattle.std.proofs.Common.{◌≡◌, ◌-◌, ◌∙◌, [], length, rules}
use Rattle.mdv_status.specs.Values.{significant}
use Rattle.mdv_status.proofs.Blocks.{without_chunk}
use Rattle.mdv_status.proofs.values.without_blank.Goals as goal

pub loop-front-preserved : goal.loop-front-preserved
loop-front-preserved c =
    let bytes = c.loop-front.bytes.now in
    let halves = c.in-Some.ensures.cases in
    let none : significant c.in-Some.last.now ≡ [] = search rules in
    without_chunk bytes c.in-Some.front.now c.in-Some.last.now (length bytes - 64) halves.0 halves.1 none ∙ c.loop-front.invariant
