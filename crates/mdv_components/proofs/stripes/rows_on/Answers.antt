use Rattle.std.proofs.Common.{◌≤◌, length, sym, ◌∙◌, ap, subst, arith}
use Rattle.mdv_components.specs.declared.asked.RowAsked.{RowAsked}
use Rattle.mdv_components.specs.Stripes.{is_bad_row, row_on}
use Rattle.mdv_components.proofs.Formed.{formed_few, formed_row, formed_interlace, made_few}
use Rattle.mdv_components.proofs.stripes.rows_on.Goals as goal

pub row_on-requires-clause-few : goal.row_on-requires-clause-few
row_on-requires-clause-few c =
    let few = formed_row c.args.rows.now c.loop-row.row-index c.row-item.result c.requires.formed c.loop-row-test.true in
    subst (λ (r : RowAsked). length r.components ≤ 100) (sym c.row-item.is) few

pub row_on-requires-clause-interlace : goal.row_on-requires-clause-interlace
row_on-requires-clause-interlace c =
    let good = formed_interlace c.args.rows.now c.loop-row.row-index c.row-item.result c.requires.formed c.loop-row-test.true in
    ap is_bad_row c.row-item.is ∙ good

pub push-requires : goal.push-requires
push-requires c =
    let made = made_few (row_on c.args.geometry.now c.args.plan.now) c.args.rows.now c.loop-row.row-index c.loop-row.made c.loop-row.invariant c.loop-row-test.true in
    let few = formed_few c.args.rows.now c.requires.formed in
    (omega arith, omega (arith, made, few, c.loop-row-test.true))
