use Rattle.std.proofs.Common.{◌≡◌, ◌-◌, List, sym, subst, arith}
use Rattle.mdv_tab.specs.declared.entry.Row.{Row}
use Rattle.mdv_tab.specs.Stripe.{split_rows}
use Rattle.mdv_tab.proofs.Rows.{put_rows, rows_more}
use Rattle.mdv_tab.proofs.stripe.split_rows.Goals as goal

pub loop-left-preserved : goal.loop-left-preserved
loop-left-preserved c =
    subst (λ (rows : List Row). split_rows c.args.count c.args.parts.now ≡ put_rows rows (split_rows (c.loop-left.left - 1) c.in-Some.behind.now)) (sym c.in_ok-push.ensures.ok) (
    rows_more _ c.loop-left.left (c.loop-left.left - 1) c.loop-left.rest.now c.in-Some.behind.now c.loop-left.rows c.in-Some.row c.loop-left.invariant (omega (arith, c.loop-left-test.true)) (rw c.in-Some.is at c.in_ok-row.ensures)
    )
