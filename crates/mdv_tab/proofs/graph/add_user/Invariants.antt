use Rattle.std.proofs.Common.{map, take}
use Rattle.mdv_tab.specs.Graph.{AddsUser}
use Rattle.mdv_tab.proofs.graph.add_user.Given as goal

abbrev pub invariant-loop-name : goal.invariant-loop-name
invariant-loop-name l = AddsUser (map (λ u. u.items) l.initial.users.items) (map (λ u. u.items) l.users.items) l.place (take l.name-index l.stands)
