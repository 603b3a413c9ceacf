use Rattle.std.proofs.Common.{◌∙◌, ℕ, List, length, subst}
use Rattle.mdv_engine.specs.Writing.{HasWriteCounts}
use Rattle.mdv_engine.proofs.Written.{counts_of}
use Rattle.mdv_engine.proofs.engine.Engine.fill.Goals as goal

pub returns-clause-counted : goal.returns-clause-counted
returns-clause-counted g c =
    subst (λ (blocks : List (List ℕ)). HasWriteCounts g.S.Shelf c.args.shelf.now c.write_blocks.new.shelf c.args.self.now c.args.volume c.args.at (length blocks) c.write_blocks.result) (c.as_mut_slice.ensures.value ∙ c.in_ok-blocks.ensures.ok)
    (counts_of g.S.Shelf _ _ c.args.self.now c.args.volume c.args.at (length c.as_mut_slice.result.now) c.write_blocks.result c.write_blocks.ensures.err c.write_blocks.ensures.counted)
