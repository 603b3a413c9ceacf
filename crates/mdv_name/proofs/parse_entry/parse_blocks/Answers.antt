use Rattle.std.proofs.Common.{◌<◌, ◌^◌, sym, ◌∙◌, arith, rules}
use Rattle.std.proofs.lemmas.Fmt.{decimal_injective}
use Rattle.mdv_name.proofs.parse_entry.parse_blocks.Goals as goal
use Rattle.mdv_name.proofs.parse_entry.parse_blocks.Goals.{then-blocks-least-via-then-blocks-least, then-blocks-least-via-else-blocks-least+then-blocks-gt-MAX_BLOCKS}

pub returns-then-blocks-least-clause-none : goal.returns-then-blocks-least-clause-none
returns-then-blocks-least-clause-none c = λ n least most is.
    let fits : c.in_ok-blocks.blocks < 2 ^ 64 = search rules in
    let same = decimal_injective c.in_ok-blocks.blocks n fits (omega (arith, most)) (sym c.in_ok-blocks.ensures.value ∙ is) in
    elim c.then-blocks-least.branch [
      | then-blocks-least-via-then-blocks-least w ↦ omega (arith, same, least, w.if-blocks-least.true)
      | then-blocks-least-via-else-blocks-least+then-blocks-gt-MAX_BLOCKS w ↦ omega (arith, same, most, w.if-blocks-gt-MAX_BLOCKS.true)
    ]
