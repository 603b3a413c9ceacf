use Rattle.std.proofs.Common.{◌≡◌, ◌∙◌, [], ℕ, List, map, sym, subst, arith}
use Rattle.std.proofs.lemmas.List.{length-map}
use Rattle.std.specs.Prelude.{Contains}
use Rattle.mdv_tab.specs.Graph.{list_at}
use Rattle.mdv_tab.specs.declared.graph.Place.{Place}
use Rattle.mdv_tab.proofs.Graphs.{users_more}
use Rattle.mdv_tab.proofs.Makings.{part_at}
use Rattle.mdv_tab.proofs.graph.users_of.Goals as goal

pub add_user-requires : goal.add_user-requires
add_user-requires c = λ x has.
    let names : Place → List ℕ = λ p. p.stands.items in
    let at : list_at (map names c.args.places.now) c.loop-place.place ≡ c.index-places-place.result.stands.items = part_at names c.args.places.now c.loop-place.place c.index-places-place.result [] c.loop-place-test.true c.index-places-place.is in
    let F : List ℕ → Type 0 = λ l. Contains l x in
    let lt = c.requires.within c.loop-place.place x (subst F (c.as_slice.ensures.value ∙ sym at) has) in
    omega (arith, lt, c.loop-place.invariant.same, length-map c.loop-place.users.items (λ u. u.items))

pub loop-place-preserved : goal.loop-place-preserved
loop-place-preserved c =
    let names : Place → List ℕ = λ p. p.stands.items in
    let at : list_at (map names c.args.places.now) c.loop-place.place ≡ c.index-places-place.result.stands.items = part_at names c.args.places.now c.loop-place.place c.index-places-place.result [] c.loop-place-test.true c.index-places-place.is in
    users_more c.args.names _ _ _ c.loop-place.place c.as_slice.result.now (omega (arith, c.loop-place-test.true, length-map c.args.places.now names)) (c.as_slice.ensures.value ∙ sym at) c.loop-place.invariant c.in_ok-add_user.ensures
