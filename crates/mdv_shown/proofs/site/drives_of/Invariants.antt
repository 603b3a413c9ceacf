use Rattle.std.proofs.Common.{◌≡◌, ◌++◌, ◌≤◌, drop, length}
use Rattle.mdv_shown.specs.Sites.{drives_from}
use Rattle.mdv_shown.proofs.site.drives_of.Given as goal

abbrev pub invariant-loop-number : goal.invariant-loop-number
invariant-loop-number l = (l.drives ++ drives_from l.key l.number (drop l.number l.geometry.drives) ≡ drives_from l.key 0 l.geometry.drives) × (length l.geometry.drives ≤ 256)
