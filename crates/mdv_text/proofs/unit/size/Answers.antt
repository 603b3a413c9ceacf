use Rattle.std.proofs.Common.{◌≡◌, ◌*◌, ℕ, sym, ◌∙◌, ap, arith}
use Rattle.mdv_text.proofs.Sizes.{one_size}
use Rattle.mdv_text.proofs.unit.size.Goals as goal

pub returns-in_err-unit_blocks-clause-none : goal.returns-in_err-unit_blocks-clause-none
returns-in_err-unit_blocks-clause-none c =
    rw c.from_residual-in_err-unit_blocks.ensures (λ blocks s.
    let one = one_size _ blocks _ _ s c.in_ok-count.ensures.value in
    cc (c.in_err-unit_blocks.ensures, one.0))

pub returns-in_err-blocks-clause-none : goal.returns-in_err-blocks-clause-none
returns-in_err-blocks-clause-none c =
    rw c.from_residual-in_err-blocks.ensures (λ blocks s.
    let one = one_size _ blocks _ _ s c.in_ok-count.ensures.value in
    let per : c.in_ok-unit_blocks.field-0 ≡ s.per = cc (c.in_ok-unit_blocks.ensures, one.0) in
    let value : blocks ≡ c.in_ok-count.count * c.in_ok-unit_blocks.field-0 = one.1 ∙ ap (λ (k : ℕ). c.in_ok-count.count * k) (sym per) in
    c.in_err-blocks.ensures (omega (arith, value, s.small)))

pub returns-then-blocks-gt-MAX_BLOCKS-clause-none : goal.returns-then-blocks-gt-MAX_BLOCKS-clause-none
returns-then-blocks-gt-MAX_BLOCKS-clause-none c = λ blocks s.
    let one = one_size _ blocks _ _ s c.in_ok-count.ensures.value in
    let per : c.in_ok-unit_blocks.field-0 ≡ s.per = cc (c.in_ok-unit_blocks.ensures, one.0) in
    let value : blocks ≡ c.in_ok-count.count * c.in_ok-unit_blocks.field-0 = one.1 ∙ ap (λ (k : ℕ). c.in_ok-count.count * k) (sym per) in
    omega (arith, value, s.small, c.in_ok-blocks.ensures.1, c.if-blocks-gt-MAX_BLOCKS.true)
