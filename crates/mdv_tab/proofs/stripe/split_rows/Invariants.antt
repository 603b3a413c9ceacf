use Rattle.std.proofs.Common.{◌≡◌}
use Rattle.mdv_tab.specs.Stripe.{split_rows}
use Rattle.mdv_tab.proofs.Rows.{put_rows}
use Rattle.mdv_tab.proofs.stripe.split_rows.Given as goal

abbrev pub invariant-loop-left : goal.invariant-loop-left
invariant-loop-left l = split_rows l.count l.parts ≡ put_rows l.rows (split_rows l.left l.rest)

abbrev pub decreases-loop-left : goal.decreases-loop-left
decreases-loop-left l = l.left
