use Rattle.std.proofs.Common.{arith, ◌≡◌, ◌++◌, decimal}
use Rattle.mdv_text.specs.Numeral.{BeginsWithNumeral}
use Rattle.mdv_text.proofs.Numerals.{one_numeral}
use Rattle.mdv_name.proofs.numeral.split_part.Goals as goal

pub returns-then-number-gt255-clause-none : goal.returns-then-number-gt255-clause-none
returns-then-number-gt255-clause-none c = λ n rest front.
    let behind : c.in_ok-strip_letter.field-0.now ≡ decimal n ++ rest = cc (c.in_ok-strip_letter.ensures.value, front.spelled) in
    let other : BeginsWithNumeral c.in_ok-strip_letter.field-0.now n rest = record { fits = omega (arith, front.fits); spelled = behind; ended = front.ended } in
    let same = one_numeral _ _ n _ rest c.in_ok-number.ensures.value other in
    omega (arith, same.0, front.fits)
