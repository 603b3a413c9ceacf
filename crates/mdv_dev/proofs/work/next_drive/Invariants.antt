use Rattle.std.proofs.Common.{◌-◌, ◌≡◌, ◌≤◌, ◌<◌, ℕ, false}
use Rattle.mdv_dev.specs.Pieces.{is_new}
use Rattle.mdv_dev.proofs.work.next_drive.Given as goal

abbrev pub invariant-loop-place : goal.invariant-loop-place
invariant-loop-place g l = record {
  behind : l.from ≤ l.place;
  until : l.place ≤ l.count;
  seen : (k : ℕ) → l.from ≤ k → k < l.place → is_new (g.D.Placed.map l.device) l.at k ≡ false;
}

abbrev pub decreases-loop-place : goal.decreases-loop-place
decreases-loop-place g l = l.count - l.place
