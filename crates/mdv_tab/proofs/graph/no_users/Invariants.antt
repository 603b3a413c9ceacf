use Rattle.std.proofs.Common.{◌≡◌, [], map, replicate}
use Rattle.mdv_tab.proofs.graph.no_users.Given as goal

abbrev pub invariant-loop : goal.invariant-loop
invariant-loop l = map (λ u. u.items) l.users.items ≡ replicate l.counter []
