use Rattle.std.proofs.Common.{drop, arith}
use Rattle.std.proofs.lemmas.Bool.{both_ways}
use Rattle.mdv_port.specs.Reader.{to_come}
use Rattle.mdv_port.proofs.Cutting.{goes_on, cut_here, over_here, ends_here, refilled}
use Rattle.mdv_port.proofs.Chunks.{still_silent}
use Rattle.mdv_port.proofs.cut.cut_line.Goals as goal

pub returns-in_default-clause-cuts : goal.returns-in_default-clause-cuts
returns-in_default-clause-cuts g c input is =
    let so = refilled _ _ _ _ _ (c.loop-chunk.invariant.told input is) c.fill.ensures.same in
    over_here input c.fill.new.self (g.I.Source.left c.fill.new.source) c.cut_piece.new.chunk c.loop-chunk.line c.loop-chunk.length c.args.room c.loop-chunk.invariant.within so c.in_default.ensures.cuts

pub returns-then-piece-clause-cuts : goal.returns-then-piece-clause-cuts
returns-then-piece-clause-cuts g c input is =
    let so = refilled _ _ _ _ _ (c.loop-chunk.invariant.told input is) c.fill.ensures.same in
    cut_here input c.fill.new.self (g.I.Source.left c.fill.new.source) c.cut_piece.new.chunk c.loop-chunk.line c.loop-chunk.length c.cut_piece.new.line c.in-Some.piece so c.in-Some.ensures.cuts c.if-piece.true

pub loop-chunk-preserved : goal.loop-chunk-preserved
loop-chunk-preserved g c = record {
  told = λ input is.
      let so = refilled _ _ _ _ _ (c.loop-chunk.invariant.told input is) c.fill.ensures.same in
      goes_on input c.fill.new.self (g.I.Source.left c.fill.new.source) c.cut_piece.new.chunk c.loop-chunk.line c.loop-chunk.length c.cut_piece.new.line c.in-Some.piece so c.in-Some.ensures.cuts c.if-piece.false;
  silent = λ none. still_silent c.loop-chunk.chunk c.fill.new.self (g.I.Source.left c.loop-chunk.source) (g.I.Source.left c.fill.new.source) c.fill.ensures.same (c.loop-chunk.invariant.silent none);
  within = omega (arith, c.in-Some.ensures.within, c.loop-chunk.invariant.within);
  calm = omega (arith, c.loop-chunk.invariant.calm, c.in_ok-fill.ensures.cause.calm);
}

pub returns-clause-cuts : goal.returns-clause-cuts
returns-clause-cuts g c input is =
    let so = c.loop-chunk.invariant.told input is in
    ends_here input c.loop-chunk.length c.loop-chunk.line (to_come c.fill.new.self (g.I.Source.left c.fill.new.source)) (refilled _ _ _ _ _ so c.fill.ensures.same)
    (λ some. both_ways c.in_ok-fill.field-0 c.if-branch.false ((c.in_ok-fill.ensures.ended (drop c.loop-chunk.length input) so.rest).1 some))
