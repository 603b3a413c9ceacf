use Rattle.std.proofs.Common.{[], sym, arith}
use Rattle.std.proofs.lemmas.List.{ext_get_or}
use Rattle.mdv_shelf.proofs.mem_shelf.disk.Disk.crash.Goals as goal

pub returns-clause-latest : goal.returns-clause-latest
returns-clause-latest c =
    let after = c.loop-block.self in
    ext_get_or [] after.latest.items after.start.items (sym after.same_length)
    (λ k lt. c.loop-block.invariant.same k (omega (arith, after.same_length, c.loop-block.invariant.size, c.loop-block-test.false)))
