use Rattle.std.proofs.Common.{◌≡◌, ◌<◌, length, [], refl, arith}
use Rattle.std.proofs.lemmas.Bool.Decides.{nat_tests}
use Rattle.mdv_text.proofs.Pairs.{read_more, read_all, no_pair, far-length, block-length}
use Rattle.mdv_text.proofs.hex.read_block.Goals as goal
use Rattle.mdv_text.proofs.hex.read_block.Goals.{then-is_empty-via-then-is_empty, then-is_empty-via-else-is_empty+then-hex}

pub returns-then-is_empty-clause-none : goal.returns-then-is_empty-clause-none
returns-then-is_empty-clause-none c = λ block spells.
    let size = block-length spells in
    elim c.then-is_empty.branch [
      | then-is_empty-via-then-is_empty w ↦ let none : length c.args.hex.now ≡ 0 = grind (arith, nat_tests) in omega (arith, size, none, spells.some)
      | then-is_empty-via-else-is_empty+then-hex w ↦ omega (arith, size, spells.most, w.if-hex.true)
    ]

pub loop-rest-init : goal.loop-rest-init
loop-rest-init c = record { front = []; bytes = []; place = refl; spelled = tt; count = refl; padded = refl }

pub returns-in_err-block-clause-none : goal.returns-in_err-block-clause-none
returns-in_err-block-clause-none c =
    rw c.from_residual.ensures (λ block spells.
    let pair = no_pair _ _ _ block _ c.loop-rest.invariant c.in-len2-up.len_at_least spells in
    c.in_err-block.ensures.none pair.0 pair.1)

pub bounds-block-len : goal.bounds-block-len
bounds-block-len c = omega (arith, far-length c.loop-rest.invariant, c.in-len2-up.len_at_least, c.if-hex.false)

pub overflow_add-len : goal.overflow_add-len
overflow_add-len c = let small : c.loop-rest.len < 512 = omega (arith, far-length c.loop-rest.invariant, c.in-len2-up.len_at_least, c.if-hex.false) in omega arith

pub loop-rest-preserved : goal.loop-rest-preserved
loop-rest-preserved c = read_more _ _ _ _ _ c.loop-rest.invariant c.in-len2-up.len_at_least c.in_ok-block.ensures.value c.if-hex.false

pub returns-then-is_empty-2-clause-value : goal.returns-then-is_empty-2-clause-value
returns-then-is_empty-2-clause-value c =
    let none : length c.loop-rest.rest.now ≡ 0 = grind (arith, nat_tests) in
    let some : 0 < length c.args.hex.now = grind (arith, nat_tests) in
    read_all _ _ _ _ c.loop-rest.invariant none some c.if-hex.false

pub returns-else-is_empty-2-clause-none : goal.returns-else-is_empty-2-clause-none
returns-else-is_empty-2-clause-none c = λ block spells.
    let some : 0 < length c.loop-rest.rest.now = grind (arith, nat_tests) in
    omega (arith, far-length c.loop-rest.invariant, block-length spells, some, c.in_default.len_below)
