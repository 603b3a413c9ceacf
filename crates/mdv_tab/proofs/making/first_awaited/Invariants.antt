use Rattle.std.proofs.Common.{ℕ, ◌<◌, ◌≤◌, get_or}
use Rattle.mdv_tab.specs.Making.{count_name}
use Rattle.mdv_tab.proofs.making.first_awaited.Given as goal

abbrev pub invariant-loop-k : goal.invariant-loop-k
invariant-loop-k l = (k : ℕ) → l.from ≤ k → k < l.k → get_or l.left (get_or l.place.stands.items k 0) 0 ≤ count_name l.place.makes (get_or l.place.stands.items k 0)
