use Rattle.std.proofs.Common.{List, [], ◌∷◌, ◌++◌, Some, sym, ◌∙◌, ap, append_assoc}
use Rattle.mdv_store.specs.Create.{seats_on}
use Rattle.mdv_store.specs.declared.seats.Seat.{Seat}
use Rattle.mdv_store.proofs.Asked.{seats_next}
use Rattle.mdv_store.proofs.creating.add_seats.Goals as goal

pub loop-number-preserved : goal.loop-number-preserved
loop-number-preserved c =
    let a = c.args in
    let n = c.loop-number.number in
    let on = seats_on a.key.now a.identity a.line a.count a.blocks 0 n in
    let seat : Seat = record { place = c.place_on-place.result; replica = Some c.replica_on-replica.result } in
    c.in_ok-add_seat.ensures ∙ ap (λ (l : List Seat). l ++ seat ∷ []) c.loop-number.invariant ∙ append_assoc a.seats.now on (seat ∷ [])
    ∙ ap (λ (l : List Seat). a.seats.now ++ l)
    ((λ i. on ++ (record { place = c.place_on-place.ensures i; replica = Some (c.replica_on-replica.ensures i) }) ∷ []) ∙ sym (seats_next a.key.now a.identity a.line a.count a.blocks n))
