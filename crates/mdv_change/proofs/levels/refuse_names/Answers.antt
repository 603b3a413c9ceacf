use Rattle.std.proofs.Common.{sym, ◌∙◌}
use Rattle.mdv_change.specs.Levels.{with_levels}
use Rattle.mdv_change.proofs.Using.{levels_there, told_pool, told_volume}
use Rattle.mdv_change.proofs.levels.refuse_names.Goals as goal

pub returns-then-has_no_volume : goal.returns-then-has_no_volume
returns-then-has_no_volume c =
    let p = c.args.table.now.plan in
    told_volume c.args.table.now c.args.volumes.now (with_levels p c.args.volumes.now) c.args.pools.now (levels_there p c.args.volumes.now) (sym c.has_no_volume.ensures ∙ c.if-has_no_volume.true)

pub returns-then-has_no_pool : goal.returns-then-has_no_pool
returns-then-has_no_pool c =
    let p = c.args.table.now.plan in
    told_pool c.args.table.now c.args.volumes.now (with_levels p c.args.volumes.now) c.args.pools.now (levels_there p c.args.volumes.now) (sym c.has_no_volume.ensures ∙ c.if-has_no_volume.false) (sym c.has_no_pool.ensures ∙ c.if-has_no_pool.true)
