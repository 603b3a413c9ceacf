use Rattle.std.proofs.Common.{refl}
use Rattle.mdv_engine.proofs.engine.Engine.boot.Goals as goal

pub returns-in-Ok-clause-answer : goal.returns-in-Ok-clause-answer
returns-in-Ok-clause-answer g c = record { cause = c.in-Ok.ensures.answer.cause; engine = (refl, c.in-Ok.ensures.answer.well.0, c.in-Ok.ensures.answer.well.1, c.in-Ok.ensures.answer.well.2) }
