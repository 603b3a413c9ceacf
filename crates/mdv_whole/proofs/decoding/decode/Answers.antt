use Rattle.mdv_whole.proofs.Table.{not_settled, is_table}
use Rattle.mdv_whole.proofs.decoding.decode.Goals as goal

pub returns-then-not-are_settled : goal.returns-then-not-are_settled
returns-then-not-are_settled c =
    let told = rw (c.in_ok-spares.ensures, c.as_slice.ensures.value, c.as_slice-2.ensures.value) at c.are_settled.ensures in
    not_settled c.in_ok-recorded.ensures (λ yes. cc (yes, told, c.if-not-are_settled.true))

pub returns : goal.returns
returns c =
    let told = rw (c.in_ok-spares.ensures, c.as_slice.ensures.value, c.as_slice-2.ensures.value) at c.are_settled.ensures in
    rw c.in_ok-table_of.ensures (is_table c.in_ok-recorded.ensures (cc (told, c.if-not-are_settled.false)))
