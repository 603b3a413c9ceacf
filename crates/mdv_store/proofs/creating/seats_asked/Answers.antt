use Rattle.std.proofs.Common.{List, ◌++◌, sym, ◌∙◌, ap, slice_index_or}
use Rattle.mdv_store.specs.Below.{SliceLine}
use Rattle.mdv_store.specs.Create.{seats_on}
use Rattle.mdv_store.specs.declared.seats.Seat.{Seat}
use Rattle.mdv_acts.proofs.Acting.{flat_more, no_line}
use Rattle.mdv_store.proofs.creating.seats_asked.Goals as goal

pub loop-line-preserved : goal.loop-line-preserved
loop-line-preserved c =
    let a = c.args in
    let i = c.loop-line.line-index in
    let on = λ (line : SliceLine). seats_on a.key.now a.identity line a.count a.blocks 0 a.count in
    c.in_ok-add_seats.ensures ∙ ap (λ (l : List Seat). l ++ on (slice_index_or a.lines.now i no_line)) c.loop-line.invariant ∙ sym (flat_more on a.lines.now i no_line c.loop-line-test.true)
