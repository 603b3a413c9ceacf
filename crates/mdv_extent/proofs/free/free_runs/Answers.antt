use Rattle.std.proofs.Common.{◌≤◌, sym, subst, rules, ℕ, Vec, Global}
use Rattle.std.specs.List.Sorted.{IsNonDecreasingBy, IsPermutation}
use Rattle.std.proofs.lemmas.List.Sorted.{IsNonDecreasingBy-from_sort_by_key, All-permutation}
use Rattle.std.proofs.lemmas.Result.{IfOk-weaker}
use Rattle.mdv_extent.specs.declared.run.Run.{Run}
use Rattle.mdv_extent.specs.Free.{IsUsed, IsFree}
use Rattle.mdv_extent.proofs.Spreading.{order_of_free}
use Rattle.mdv_extent.proofs.Sweeping.{copied_in_order, is_what_is_left, free_in_any_order}
use Rattle.mdv_extent.proofs.free.free_runs.Goals as goal

pub gaps-requires-clause-used : goal.gaps-requires-clause-used
gaps-requires-clause-used c =
    All-permutation (IsUsed c.args.blocks) c.args.used.now c.as_slice.result.now
    (copied_in_order c.args.used.now c.in_ok-used.used.items c.sort_unstable_by_key.new.self.items c.as_slice.result.now c.in_ok-used.ensures.items c.sort_unstable_by_key.ensures.permutation c.as_slice.ensures.value) c.requires

pub gaps-requires-clause-order : goal.gaps-requires-clause-order
gaps-requires-clause-order c =
    subst (IsNonDecreasingBy (λ (r : Run). r.at)) (sym c.as_slice.ensures.value)
    (IsNonDecreasingBy-from_sort_by_key (λ (r : Run). r.at) c.sort_unstable_by_key.new.self.items c.sort_unstable_by_key.ensures.sorted (λ a r q k. search rules))

pub returns-clause-value : goal.returns-clause-value
returns-clause-value c =
    let moved : IsPermutation c.args.used.now c.as_slice.result.now =
    copied_in_order c.args.used.now c.in_ok-used.used.items c.sort_unstable_by_key.new.self.items c.as_slice.result.now c.in_ok-used.ensures.items c.sort_unstable_by_key.ensures.permutation c.as_slice.ensures.value in
    IfOk-weaker c.gaps.result _ _ (λ (v : Vec Run Global) (is : IsFree c.args.blocks c.as_slice.result.now v.items). is_what_is_left c.args.blocks c.args.used.now c.as_slice.result.now v.items moved is) c.gaps.ensures

pub returns-clause-free : goal.returns-clause-free
returns-clause-free c =
    let moved : IsPermutation c.args.used.now c.as_slice.result.now =
    copied_in_order c.args.used.now c.in_ok-used.used.items c.sort_unstable_by_key.new.self.items c.as_slice.result.now c.in_ok-used.ensures.items c.sort_unstable_by_key.ensures.permutation c.as_slice.ensures.value in
    IfOk-weaker c.gaps.result _ _ (λ (v : Vec Run Global) (is : IsFree c.args.blocks c.as_slice.result.now v.items). free_in_any_order c.args.blocks c.args.used.now c.as_slice.result.now v.items moved is) c.gaps.ensures

pub returns-clause-order : goal.returns-clause-order
returns-clause-order c =
    IfOk-weaker c.gaps.result _ _ (λ (v : Vec Run Global) (is : IsFree c.args.blocks c.as_slice.result.now v.items) (high : ℕ) (le : c.args.blocks ≤ high). order_of_free c.args.blocks high c.as_slice.result.now v.items is le) c.gaps.ensures
