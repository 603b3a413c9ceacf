use Rattle.std.proofs.Common.{map, take}
use Rattle.mdv_tab.specs.Graph.{AreUsers}
use Rattle.mdv_tab.proofs.graph.users_of.Given as goal

abbrev pub invariant-loop-place : goal.invariant-loop-place
invariant-loop-place l = AreUsers l.names (take l.place (map (λ p. p.stands.items) l.places)) (map (λ u. u.items) l.users.items)
