use Rattle.mdv_keys.proofs.Replaced.{replaced_next}
use Rattle.mdv_keys.proofs.values.replace_all.Goals as goal

pub loop-item-preserved : goal.loop-item-preserved
loop-item-preserved g c =
    replaced_next g.T.Keyed.key _ _ _ _ _ c.in-Some.item c.replace.ensures c.in-Some.ensures.items c.loop-item.invariant
