use Rattle.std.proofs.Common.{length, subst, sym}
use Rattle.mdv_words.specs.declared.written.Written.{Written}
use Rattle.mdv_engine.specs.Below.{blocks_of}
use Rattle.mdv_engine.specs.Writing.{HasWriteCounts}
use Rattle.mdv_engine.proofs.Written.{counts_of}
use Rattle.mdv_engine.proofs.engine.Engine.put.Goals as goal

pub returns-in-One-clause-counted : goal.returns-in-One-clause-counted
returns-in-One-clause-counted g c =
    subst (λ (what : Written). HasWriteCounts g.S.Shelf c.args.shelf.now c.write_blocks.new.shelf c.args.self.now c.args.volume c.args.at (length (blocks_of what)) c.write_blocks.result) (sym c.in-One.is)
    (counts_of g.S.Shelf _ _ c.args.self.now c.args.volume c.args.at 1 c.write_blocks.result c.write_blocks.ensures.err c.write_blocks.ensures.counted)
