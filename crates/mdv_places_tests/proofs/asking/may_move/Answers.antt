use Rattle.std.proofs.Common.{◌≡◌, ◌≤◌, length, sym, ◌∙◌, ap, arith}
use Rattle.std.proofs.lemmas.Bool.Decides.{nat_tests}
use Rattle.mdv_shelf.specs.MemShelf.{shelf_sizes}
use Rattle.mdv_plan.specs.declared.lists.Lists.TheVariants.{One}
use Rattle.mdv_plan.specs.declared.table.Table.{Table}
use Rattle.mdv_places.specs.Asked.{asked_of}
use Rattle.mdv_places_tests.proofs.Few.{may_be_moved}
use Rattle.mdv_places_tests.proofs.asking.may_move.Goals as goal

pub returns : goal.returns
returns c is =
    let sizes = shelf_sizes c.args.shelf.now in
    let drives : length sizes ≤ 256 = (let more = c.if-drives-gt256.false in let all = c.drives.ensures in grind (arith, nat_tests)) in
    let one : c.args.store.now.table.plan.lists ≡ One c.as_slice-places.result.now = ap (λ (t : Table). t.plan.lists) (sym c.table.ensures) ∙ c.in-One.is ∙ ap One (sym c.as_slice-places.ensures) in
    may_be_moved sizes c.args.geometry.now c.args.store.now (asked_of c.args.asked.now) c.as_slice-places.result.now c.requires drives one (c.are_once.ensures c.if-not-are_once.false) (c.are_laid_on.ensures c.if-not-are_laid_on.false) (c.is_within.ensures c.if-not-is_within.false) (c.is_free.ensures c.if-not-is_free.false)
    (c.is_few.ensures is) (c.is_enough.ensures c.if-not-is_enough.false)
