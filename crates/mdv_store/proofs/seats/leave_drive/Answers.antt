use Rattle.std.proofs.Common.{◌≡◌, ◌<◌, ◌++◌, ◌∙◌, List, ap, take, drop, map, length, slice_index_or, slice_set, arith}
use Rattle.mdv_store.specs.Passing.{left_on}
use Rattle.mdv_store.specs.declared.seats.Seat.{Seat}
use Rattle.mdv_store.proofs.Rows.{changed_at, changed_one}
use Rattle.mdv_store.proofs.seats.leave_drive.Goals as goal

pub loop-index-preserved : goal.loop-index-preserved
loop-index-preserved c =
    let xs = c.args.seats.now in
    let i = c.loop-index.index in
    let f = left_on c.args.drive in
    let s = c.index-as_slice-index.result in
    let within : i < length xs = omega (arith, c.loop-index-test.true, c.loop-index.invariant.1) in
    let is : s ≡ slice_index_or xs i s = c.index-as_slice-index.is ∙ ap (λ (l : List Seat). slice_index_or l i s) (c.as_slice.ensures ∙ c.loop-index.invariant.0) ∙ changed_at f xs i s within in (
      c.set.ensures ∙ ap (λ (l : List Seat). slice_set l i c.left_on.result) c.loop-index.invariant.0
          ∙ ap (λ (x : Seat). slice_set (map f (take i xs) ++ drop i xs) i x) (c.left_on.ensures ∙ ap f is) ∙ changed_one f xs i s within,
      c.loop-index.invariant.1,
    )
