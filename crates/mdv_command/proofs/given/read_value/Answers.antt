use Rattle.std.proofs.Common.{◌≡◌, arith}
use Rattle.mdv_command.proofs.Values.{no_interlace}
use Rattle.mdv_command.proofs.given.read_value.Goals as goal

pub returns-in_err-blocks-in-105-clause-none : goal.returns-in_err-blocks-in-105-clause-none
returns-in_err-blocks-in-105-clause-none c =
    let letter : c.args.letter ≡ 105 = omega arith in
    rw c.from_residual-in_err-blocks-in-105.ensures (no_interlace c.args.letter c.args.text.now letter c.in_err-blocks-in-105.ensures.none)
