use Rattle.std.proofs.Common.{inr, refl, ap, ◌∙◌}
use Rattle.mdv_base.specs.declared.refusal.Refusal.TheVariants.{OutOfMemory}
use Rattle.mdv_status.specs.Values.{entries_reply}
use Rattle.mdv_engine_law.specs.declared.answer.Outcome.TheVariants as outcome
use Rattle.mdv_engine.specs.Tab.{all, none}
use Rattle.mdv_engine.proofs.Entering.{refused_kept}
use Rattle.mdv_engine.proofs.engine.Engine.keep.Goals as goal

pub returns-in-Err : goal.returns-in-Err
returns-in-Err c = refused_kept c.args.lines.now c.args.self.now c.in-Err.fault c.refusal_of.result c.in-Err.ensures.fault c.refusal_of.ensures

pub returns-in_default : goal.returns-in_default
returns-in_default c = none OutOfMemory (inr refl) refl refl

pub returns : goal.returns
returns c = rw (← c.self.view_is) (all c.in-Ok.entries.items c.in-Ok.ensures.value (ap outcome.Values (c.in-Ok-of_entries.ensures ∙ ap entries_reply (c.len.ensures ∙ c.in-Ok.entries.ok.0))) refl)
