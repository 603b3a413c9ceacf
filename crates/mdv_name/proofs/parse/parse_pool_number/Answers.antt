use Rattle.std.proofs.Common.{◌≡◌, ◌/◌, ◌%◌, ℕ, List, get_or, ap, arith}
use Rattle.mdv_name.specs.Volume.{three_digits}
use Rattle.mdv_name.proofs.parse.parse_pool_number.Goals as goal

pub returns-in_err-hundreds-clause-none : goal.returns-in_err-hundreds-clause-none
returns-in_err-hundreds-clause-none c =
    rw c.from_residual-in_err-hundreds.ensures (λ n small is.
    let digits : c.in_ok-strip.field-0.now ≡ three_digits n = cc (c.in_ok-strip.ensures, is) in
    c.in_err-hundreds.ensures.none (n / 100) (omega (arith, small)) (ap (λ (l : List ℕ). get_or l 0 0) digits))

pub returns-in_err-tens-clause-none : goal.returns-in_err-tens-clause-none
returns-in_err-tens-clause-none c =
    rw c.from_residual-in_err-tens.ensures (λ n small is.
    let digits : c.in_ok-strip.field-0.now ≡ three_digits n = cc (c.in_ok-strip.ensures, is) in
    c.in_err-tens.ensures.none (n / 10 % 10) (omega arith) (ap (λ (l : List ℕ). get_or l 1 0) digits))

pub returns-in_err-ones-clause-none : goal.returns-in_err-ones-clause-none
returns-in_err-ones-clause-none c =
    rw c.from_residual-in_err-ones.ensures (λ n small is.
    let digits : c.in_ok-strip.field-0.now ≡ three_digits n = cc (c.in_ok-strip.ensures, is) in
    c.in_err-ones.ensures.none (n % 10) (omega arith) (ap (λ (l : List ℕ). get_or l 2 0) digits))
