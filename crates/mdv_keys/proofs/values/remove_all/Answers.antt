use Rattle.std.proofs.Common.{◌≡◌, sym, ◌∙◌, ap, get_or}
use Rattle.mdv_plan.specs.Sorted.{without}
use Rattle.mdv_keys.proofs.Kept.{kept_all, kept_more}
use Rattle.mdv_keys.proofs.values.remove_all.Goals as goal

pub loop-key-init : goal.loop-key-init
loop-key-init g c = sym (kept_all g.T.Keyed.key c.args.values.now)

pub loop-key-preserved : goal.loop-key-preserved
loop-key-preserved g c =
    let more = kept_more g.T.Keyed.key c.args.keys.now c.loop-key.key-index 0 c.loop-key-test.true c.args.values.now in
    let at : c.remove.new.self ≡ without g.T.Keyed.key (get_or c.args.keys.now c.loop-key.key-index 0) c.loop-key.values = c.remove.ensures in
    at ∙ ap (without g.T.Keyed.key (get_or c.args.keys.now c.loop-key.key-index 0)) c.loop-key.invariant ∙ more
