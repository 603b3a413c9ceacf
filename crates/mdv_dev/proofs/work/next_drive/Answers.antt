use Rattle.std.proofs.Common.{sym, ◌∙◌, arith}
use Rattle.mdv_dev.proofs.Lying.{seen_all}
use Rattle.mdv_dev.proofs.work.next_drive.Goals as goal

pub loop-place-preserved : goal.loop-place-preserved
loop-place-preserved g c =
    let v = g.D.Placed.map c.args.device.now in
    let place = c.loop-place.place in
    let few = c.piece-piece.ensures.within in
    record {
      behind = omega (arith, c.loop-place.invariant.behind);
      until = omega arith;
      seen = seen_all v c.args.at place c.args.count c.piece-piece.result c.piece-piece.ensures c.args.from c.loop-place.invariant.seen (sym c.is_seen.ensures ∙ c.if-not-is_seen.false);
    }
