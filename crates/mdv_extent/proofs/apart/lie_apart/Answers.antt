use Rattle.std.proofs.Common.{sym, subst, rules}
use Rattle.std.specs.List.Sorted.{IsNonDecreasingBy}
use Rattle.std.proofs.lemmas.List.Sorted.{IsNonDecreasingBy-from_sort_by_key}
use Rattle.mdv_extent.specs.declared.run.Run.{Run}
use Rattle.mdv_extent.proofs.Sweeping.{copied_in_order}
use Rattle.mdv_extent.proofs.Standing.{apart_in_any_order}
use Rattle.mdv_extent.proofs.Testing.{same_as_test}
use Rattle.mdv_extent.proofs.apart.lie_apart.Goals as goal

pub stand_apart-requires : goal.stand_apart-requires
stand_apart-requires c =
    subst (IsNonDecreasingBy (λ (r : Run). r.at)) (sym c.as_slice.ensures.value)
    (IsNonDecreasingBy-from_sort_by_key (λ (r : Run). r.at) c.sort_unstable_by_key.new.self.items c.sort_unstable_by_key.ensures.sorted (λ a r q k. search rules))

pub returns : goal.returns
returns c =
    let sorted = copied_in_order c.args.extents.now c.in_ok-extents.extents.items c.sort_unstable_by_key.new.self.items c.as_slice.result.now c.in_ok-extents.ensures.items c.sort_unstable_by_key.ensures.permutation c.as_slice.ensures.value in
    let apart = apart_in_any_order c.args.blocks c.stand_apart.result c.args.extents.now c.as_slice.result.now sorted c.stand_apart.ensures in
    record { apart = apart; value = same_as_test c.args.blocks c.stand_apart.result c.args.extents.now apart }
