use Rattle.std.proofs.Common.{◌∙◌}
use Rattle.mdv_engine.proofs.Ending.{from_state}
use Rattle.mdv_engine.proofs.engine.Engine.reboot.Goals as goal

pub returns-in-Ok-clause-moments : goal.returns-in-Ok-clause-moments
returns-in-Ok-clause-moments g c = rw (← c.self.view_is) c.boot_from.ensures.moments

pub returns-in-Ok-clause-end : goal.returns-in-Ok-clause-end
returns-in-Ok-clause-end g c = rw (← c.self.view_is) (λ t start. (let end = c.in-Ok.ensures.end t start in (end.0, end.1, from_state _ _ _ _ _ _ _ _ _ c.state.view_is end.2)))

pub returns-in-Err-clause-end : goal.returns-in-Err-clause-end
returns-in-Err-clause-end g c = rw (← c.self.view_is) (λ t start. (let end = c.in-Err.ensures.end t start in (end.0, end.1, from_state _ _ _ _ _ _ _ _ _ (c.unbooted-2.view_is ∙ c.unbooted.ensures) end.2)))
