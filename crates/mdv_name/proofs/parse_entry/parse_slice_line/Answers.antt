use Rattle.std.proofs.Common.{◌≡◌, ◌<◌, ◌^◌, decimal, arith, rules}
use Rattle.std.proofs.lemmas.Fmt.{decimal_injective}
use Rattle.mdv_name.proofs.parse_entry.parse_slice_line.Goals as goal

pub returns-then-blocks-eq0-clause-none : goal.returns-then-blocks-eq0-clause-none
returns-then-blocks-eq0-clause-none c = λ s form is.
    let spelled : decimal c.in_ok-blocks.blocks ≡ decimal s.blocks = cc (c.in_ok-blocks.ensures.value, c.in_ok-name.ensures.value) in
    let fits : c.in_ok-blocks.blocks < 2 ^ 64 = search rules in
    let same = decimal_injective c.in_ok-blocks.blocks s.blocks fits form.blocks spelled in
    omega (arith, same, form.least)
