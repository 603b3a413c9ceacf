use Rattle.std.proofs.Common.{◌≡◌, ◌≤◌, ◌⊎◌, ◌^◌, ◌∙◌, sym, ap, subst, List, Result, Ok, Err, IfOk, IfErr, Vec, Global, arith}
use Rattle.mdv_extent.specs.declared.run.Run.{Run}
use Rattle.mdv_extent.specs.declared.share.SpaceFault.{SpaceFault}
use Rattle.mdv_extent.specs.declared.share.SpaceFault.TheVariants.{Memory}
use Rattle.mdv_extent.proofs.Sharing.{each_below, found_one, allotted_one, allotted_several}
use Rattle.mdv_extent.proofs.share.allocate.Goals as goal

pub overflow_add-at : goal.overflow_add-at
overflow_add-at c =
    let below : c.in-Some.run'.at ≤ 2 ^ 63 = (found_one (λ (r : Run). r.at ≤ 2 ^ 63) _ c.args.free.now c.in-Some.run' (each_below 0 (2 ^ 63) c.args.free.now c.requires.order) (sym c.in-Some.ensures)).0 in
    omega (arith, below)

pub returns-in_ok-vec-in-Some-clause-ok : goal.returns-in_ok-vec-in-Some-clause-ok
returns-in_ok-vec-in-Some-clause-ok c =
    allotted_one c.args.free.now c.args.need c.in-Some.run' (sym c.in-Some.ensures) ∙ ap (λ (l : List Run). Ok l) (sym c.in_ok-vec-in-Some.ensures.items)

pub returns-in-None-clause-ok : goal.returns-in-None-clause-ok
returns-in-None-clause-ok c =
    subst (λ (a : Result (List Run) SpaceFault). IfOk c.gather.result (λ (extents : Vec Run Global). a ≡ Ok extents.items)) (sym (allotted_several c.args.free.now c.args.need (sym c.in-None.ensures))) c.gather.ensures.ok

pub returns-in-None-clause-err : goal.returns-in-None-clause-err
returns-in-None-clause-err c =
    subst (λ (a : Result (List Run) SpaceFault). IfErr c.gather.result (λ (fault : SpaceFault). (fault ≡ Memory) ⊎ (a ≡ Err fault))) (sym (allotted_several c.args.free.now c.args.need (sym c.in-None.ensures))) c.gather.ensures.err
