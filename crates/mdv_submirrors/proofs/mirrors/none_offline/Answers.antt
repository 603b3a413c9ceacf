use Rattle.std.proofs.Common.{Bool, List, [], ◌∷◌, ◌++◌, sym, ◌∙◌, ap}
use Rattle.mdv_components.proofs.Formed.{map_more}
use Rattle.mdv_submirrors.specs.Below.{VolId}
use Rattle.mdv_submirrors.specs.Mirrors.{starts_offline}
use Rattle.mdv_submirrors.proofs.mirrors.none_offline.Goals as goal

pub loop-sub-preserved : goal.loop-sub-preserved
loop-sub-preserved c =
    let some : VolId = record { 0 = 0 } in
    let behind : List Bool = starts_offline some ∷ [] in
    let more = map_more starts_offline c.args.subs.now c.loop-sub.sub-index some c.loop-sub-test.true in
    c.in_ok-push.ensures.ok ∙ ap (λ (b : Bool). c.loop-sub.flags ++ b ∷ []) c.starts_offline.ensures ∙ ap (λ (bs : List Bool). bs ++ behind) c.loop-sub.invariant ∙ sym more
