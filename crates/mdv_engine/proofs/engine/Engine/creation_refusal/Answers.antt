use Rattle.std.proofs.Common.{true, false, refl, sym, ◌∙◌}
use Rattle.mdv_engine.specs.Engine.{case_at}
use Rattle.mdv_engine.proofs.Judging.{few_enough, told_of_cause, told_of_checks}
use Rattle.mdv_engine.proofs.engine.Engine.creation_refusal.Goals as goal

pub returns-then-lack_one : goal.returns-then-lack_one
returns-then-lack_one c = told_of_cause (case_at c.args.self.now) c.args.slices.now c.args.force c.args.count c.args.blocks true _ _ _ _ _ _ (sym c.lack_one.ensures ∙ c.if-lack_one.true) refl refl refl refl refl refl _ refl

pub returns-then-have_plain : goal.returns-then-have_plain
returns-then-have_plain c = told_of_cause (case_at c.args.self.now) c.args.slices.now c.args.force c.args.count c.args.blocks false true _ _ _ _ _ (sym c.lack_one.ensures ∙ c.if-lack_one.false) (sym c.have_plain.ensures ∙ c.if-have_plain.true) refl refl refl refl refl _ refl

pub returns-then-is_down : goal.returns-then-is_down
returns-then-is_down c = told_of_cause (case_at c.args.self.now) c.args.slices.now c.args.force c.args.count c.args.blocks false false true _ _ _ _ (sym c.lack_one.ensures ∙ c.if-lack_one.false) (sym c.have_plain.ensures ∙ c.if-have_plain.false) (sym c.is_down.ensures ∙ c.if-is_down.true) refl refl refl refl _ refl

pub returns-then-are_too_many : goal.returns-then-are_too_many
returns-then-are_too_many c = told_of_cause (case_at c.args.self.now) c.args.slices.now c.args.force c.args.count c.args.blocks false false false true _ _ _ (sym c.lack_one.ensures ∙ c.if-lack_one.false) (sym c.have_plain.ensures ∙ c.if-have_plain.false) (sym c.is_down.ensures ∙ c.if-is_down.false) (sym c.are_too_many.ensures ∙ c.if-are_too_many.true) refl refl refl _ refl

pub returns-then-needs_force : goal.returns-then-needs_force
returns-then-needs_force c = told_of_cause (case_at c.args.self.now) c.args.slices.now c.args.force c.args.count c.args.blocks false false false false true _ _ (sym c.lack_one.ensures ∙ c.if-lack_one.false) (sym c.have_plain.ensures ∙ c.if-have_plain.false) (sym c.is_down.ensures ∙ c.if-is_down.false) (sym c.are_too_many.ensures ∙ c.if-are_too_many.false) (sym c.needs_force.ensures ∙ c.if-needs_force.true) refl refl _ refl

pub returns-then-are_taken : goal.returns-then-are_taken
returns-then-are_taken c = told_of_cause (case_at c.args.self.now) c.args.slices.now c.args.force c.args.count c.args.blocks false false false false false true _ (sym c.lack_one.ensures ∙ c.if-lack_one.false) (sym c.have_plain.ensures ∙ c.if-have_plain.false) (sym c.is_down.ensures ∙ c.if-is_down.false) (sym c.are_too_many.ensures ∙ c.if-are_too_many.false) (sym c.needs_force.ensures ∙ c.if-needs_force.false) (sym c.are_taken.ensures ∙ c.if-are_taken.true) refl _ refl

pub returns-then-are_short : goal.returns-then-are_short
returns-then-are_short c = told_of_cause (case_at c.args.self.now) c.args.slices.now c.args.force c.args.count c.args.blocks false false false false false false true (sym c.lack_one.ensures ∙ c.if-lack_one.false) (sym c.have_plain.ensures ∙ c.if-have_plain.false) (sym c.is_down.ensures ∙ c.if-is_down.false) (sym c.are_too_many.ensures ∙ c.if-are_too_many.false) (sym c.needs_force.ensures ∙ c.if-needs_force.false) (sym c.are_taken.ensures ∙ c.if-are_taken.false) (sym c.are_short.ensures ∙ c.if-are_short.true) _ refl

pub refusal_beside-requires-clause-few : goal.refusal_beside-requires-clause-few
refusal_beside-requires-clause-few c = few_enough _ (sym c.are_too_many.ensures ∙ c.if-are_too_many.false)

pub returns : goal.returns
returns c =
    c.refusal_beside.ensures
    ∙ told_of_checks (case_at c.args.self.now) c.args.slices.now c.args.force c.args.count c.args.blocks false false false false false false false (sym c.lack_one.ensures ∙ c.if-lack_one.false) (sym c.have_plain.ensures ∙ c.if-have_plain.false) (sym c.is_down.ensures ∙ c.if-is_down.false) (sym c.are_too_many.ensures ∙ c.if-are_too_many.false) (sym c.needs_force.ensures ∙ c.if-needs_force.false) (sym c.are_taken.ensures ∙ c.if-are_taken.false) (sym c.are_short.ensures ∙ c.if-are_short.false)
