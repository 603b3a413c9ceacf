use Rattle.std.proofs.Common.{sym, ◌∙◌}
use Rattle.mdv_engine_law.proofs.Allowed.{allowed_few}
use Rattle.mdv_engine.specs.Engine.{case_at}
use Rattle.mdv_engine.proofs.Listed.{few_listed, is_kept}
use Rattle.mdv_engine.proofs.engine.Engine.creation_listed.Goals as goal

pub creation_refusal-requires-clause-count : goal.creation_refusal-requires-clause-count
creation_refusal-requires-clause-count c = (c.requires.well.entries c.args.number _ (is_kept c.args.self.now _ c.self.view_is _ c.as_slice.ensures.value c.args.number _ c.in-Some.ensures)).1

pub creation_refusal-requires-clause-blocks : goal.creation_refusal-requires-clause-blocks
creation_refusal-requires-clause-blocks c = (c.requires.well.entries c.args.number _ (is_kept c.args.self.now _ c.self.view_is _ c.as_slice.ensures.value c.args.number _ c.in-Some.ensures)).2

pub few_slices-requires : goal.few_slices-requires
few_slices-requires c =
    let formed = c.requires.well.entries c.args.number _ (is_kept c.args.self.now _ c.self.view_is _ c.as_slice.ensures.value c.args.number _ c.in-Some.ensures) in
    few_listed _ _ formed.1.0 (allowed_few (case_at c.args.self.now) c.in-Some.said.slices.now c.args.force c.in-Some.said.count c.in-Some.said.blocks (sym c.creation_refusal.ensures ∙ c.in-None.is))
