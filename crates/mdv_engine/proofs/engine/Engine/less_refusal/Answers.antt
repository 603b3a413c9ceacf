use Rattle.std.proofs.Common.{Some, false, refl, sym, true, ◌∙◌}
use Rattle.mdv_base.specs.declared.refusal.Refusal.TheVariants.{NoSuchSlice, WrongKind, WrongState}
use Rattle.mdv_engine.specs.Engine.{case_at}
use Rattle.mdv_engine.proofs.Judging.{drop_of_cause}
use Rattle.mdv_engine.proofs.engine.Engine.less_refusal.Goals as goal

pub returns-then-lack_one : goal.returns-then-lack_one
returns-then-lack_one c = drop_of_cause (case_at c.args.self.now) c.args.store.now c.args.slices.now c.args.force true _ _ _ (sym c.lack_one.ensures ∙ c.if-lack_one.true) refl refl refl NoSuchSlice refl

pub returns-then-have_plain : goal.returns-then-have_plain
returns-then-have_plain c = drop_of_cause (case_at c.args.self.now) c.args.store.now c.args.slices.now c.args.force false true _ _ (sym c.lack_one.ensures ∙ c.if-lack_one.false) (sym c.have_plain.ensures ∙ c.if-have_plain.true) refl refl WrongKind refl

pub returns-in-Some : goal.returns-in-Some
returns-in-Some c = drop_of_cause (case_at c.args.self.now) c.args.store.now c.args.slices.now c.args.force false false _ (Some c.in-Some.word) (sym c.lack_one.ensures ∙ c.if-lack_one.false) (sym c.have_plain.ensures ∙ c.if-have_plain.false) (sym c.state_of_less.ensures ∙ c.in-Some.is) refl (WrongState c.in-Some.word) refl
