use Rattle.std.proofs.Common.{List, [], ◌∷◌, ◌++◌, sym, ◌∙◌, ap}
use Rattle.mdv_components.specs.Below.{PartStatus, Volume}
use Rattle.mdv_components.specs.Room.{okay_part}
use Rattle.mdv_components.proofs.Formed.{map_more}
use Rattle.mdv_components.proofs.room.okay_parts.Goals as goal

pub loop-base-preserved : goal.loop-base-preserved
loop-base-preserved g c =
    let some = Volume (record { 0 = 0 }) in
    let behind : List PartStatus = okay_part some ∷ [] in
    let more = map_more okay_part c.args.bases.now c.loop-base.base-index some c.loop-base-test.true in
    c.in_ok-push.ensures.ok ∙ ap (λ (p : PartStatus). c.loop-base.parts ++ p ∷ []) c.okay_part.ensures ∙ ap (λ (ps : List PartStatus). ps ++ behind) c.loop-base.invariant ∙ sym more
