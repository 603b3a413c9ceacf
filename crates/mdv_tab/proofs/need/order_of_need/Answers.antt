use Rattle.std.proofs.Common.{◌<◌, ℕ, List, [], map, length, get_or, sym, subst}
use Rattle.std.specs.Prelude.{Contains}
use Rattle.std.proofs.lemmas.Result.{IfOk-weaker}
use Rattle.mdv_tab.specs.Graph.{AreUsers}
use Rattle.mdv_tab.specs.declared.graph.Graph.{Graph}
use Rattle.mdv_tab.specs.declared.graph.Place.{Place}
use Rattle.mdv_tab.specs.Making.{NeedsIn, count_of}
use Rattle.mdv_tab.specs.Order.{Needs}
use Rattle.mdv_tab.proofs.Needs.{needs_entry, needs_place, order_by, stands_within, is_graph}
use Rattle.mdv_tab.proofs.need.order_of_need.Goals as goal

pub users_of-requires-clause-within : goal.users_of-requires-clause-within
users_of-requires-clause-within c =
    let F : List Place → Type 0 = λ l. (i x : ℕ) → Contains (get_or (map (λ p. p.stands.items) l) i []) x → x < c.len.result in
    subst F (sym c.as_slice.ensures.value) (stands_within c.args.entries.now c.in_ok-places.places.items c.in_ok-index.index c.in_ok-index.ensures c.in_ok-places.ensures c.len.result c.len.ensures)

pub order_of-requires-clause-graph : goal.order_of-requires-clause-graph
order_of-requires-clause-graph c =
    let g : Graph = record { places = c.in_ok-places.places; users = c.in_ok-users.users } in
    let F : List Place → Type 0 = λ l. AreUsers c.len.result (map (λ p. p.stands.items) l) (map (λ u. u.items) g.users.items) in
    is_graph c.args.entries.now g c.in_ok-index.index c.in_ok-index.ensures c.in_ok-places.ensures c.len.result c.len.ensures (subst F c.as_slice.ensures.value c.in_ok-users.ensures)

pub returns : goal.returns
returns c =
    let es = c.args.entries.now in
    let g : Graph = record { places = c.in_ok-places.places; users = c.in_ok-users.users } in
    let to = needs_entry es g c.in_ok-index.index c.in_ok-index.ensures c.in_ok-places.ensures in
    let from = needs_place es g c.in_ok-index.index c.in_ok-index.ensures c.in_ok-places.ensures in
    IfOk-weaker c.order_of.result _ _ (λ v is. order_by (NeedsIn g) (Needs es) (count_of g) (length es) v.items c.in_ok-places.ensures.same to from is) c.order_of.ensures
