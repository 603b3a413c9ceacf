use Rattle.std.proofs.Common.{arith}
use Rattle.mdv_command.proofs.Values.{same_number}
use Rattle.mdv_command.proofs.given.read_within.Goals as goal
use Rattle.mdv_command.proofs.given.read_within.Goals.{then-n-least-via-then-n-least, then-n-least-via-else-n-least+then-n-most}

pub returns-then-n-least-clause-none : goal.returns-then-n-least-clause-none
returns-then-n-least-clause-none c = λ n low high is.
    let same = same_number c.args.text.now c.in_ok-n.n n (omega arith) (omega (arith, c.ranges.most)) c.in_ok-n.ensures.value is in
    elim c.then-n-least.branch [
      | then-n-least-via-then-n-least w ↦ omega (arith, same, low, w.if-n-least.true)
      | then-n-least-via-else-n-least+then-n-most w ↦ omega (arith, same, high, w.if-n-most.true)
    ]
