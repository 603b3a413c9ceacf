use Rattle.std.proofs.Common.{refl, arith}
use Rattle.mdv_config.specs.Table.{quiet_volume}
use Rattle.mdv_config.proofs.Quiet.{mapped}
use Rattle.mdv_config.proofs.status.are_quiet.Goals as goal

pub returns : goal.returns
returns c = (
  λ told. mapped quiet_volume c.args.volumes.now c.args.states.now (omega (arith, c.if-states-volumes.false)) (λ k d e within. c.loop-index.invariant k d e (omega (arith, within, c.loop-index-test.false))),
  λ is. refl,
)
