use Rattle.std.proofs.Common.{sym, arith}
use Rattle.mdv_plan.proofs.Neighbours.{meets_none}
use Rattle.mdv_plan.proofs.clash.meets_db_beside.Goals as goal

pub returns : goal.returns
returns c = sym (meets_none c.args.geometry.now c.requires.sound c.args.slice c.args.marks.now c.requires.marks (λ n below. c.loop-number.invariant n (omega (arith, below, c.loop-number-test.false))))
