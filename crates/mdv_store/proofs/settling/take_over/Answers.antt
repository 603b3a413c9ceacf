use Rattle.std.proofs.Common.{◌≡◌, ◌<◌, ◌++◌, ◌∙◌, List, ap, take, drop, map, length, slice_index_or, slice_set, arith}
use Rattle.mdv_store.specs.Settled.{seat_now}
use Rattle.mdv_store.specs.declared.seats.Seat.{Seat}
use Rattle.mdv_store.proofs.Rows.{changed_at, changed_one}
use Rattle.mdv_store.proofs.settling.take_over.Goals as goal

pub loop-index-preserved : goal.loop-index-preserved
loop-index-preserved c =
    let xs = c.args.now.now in
    let i = c.loop-index.index in
    let f = λ (s : Seat). seat_now c.args.seats.now s.place in
    let s = c.index-as_slice-index.result in
    let within : i < length xs = omega (arith, c.loop-index-test.true, c.loop-index.invariant.1) in
    let is : s ≡ slice_index_or xs i s = c.index-as_slice-index.is ∙ ap (λ (l : List Seat). slice_index_or l i s) (c.as_slice.ensures ∙ c.loop-index.invariant.0) ∙ changed_at f xs i s within in (
      c.set.ensures ∙ ap (λ (l : List Seat). slice_set l i c.seat_now.result) c.loop-index.invariant.0
          ∙ ap (λ (x : Seat). slice_set (map f (take i xs) ++ drop i xs) i x) (c.seat_now.ensures ∙ ap f is) ∙ changed_one f xs i s within,
      c.loop-index.invariant.1,
    )
