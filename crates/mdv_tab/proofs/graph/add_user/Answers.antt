use Rattle.std.proofs.Common.{Vec, Global, ◌≡◌, ◌∙◌, ◌+◌, ◌<◌, refl, ◌∷◌, ◌++◌, [], ℕ, List, length, map, take, get_or, ap, sym, subst, arith}
use Rattle.std.proofs.Math.ListN.{set}
use Rattle.std.proofs.lemmas.List.{length-map, map-set}
use Rattle.std.proofs.lemmas.List.Elements.{Contains-get_or}
use Rattle.mdv_tab.specs.Graph.{AddsUser, list_at}
use Rattle.mdv_tab.proofs.Graphs.{adds_more}
use Rattle.mdv_tab.proofs.Makings.{part_at}
use Rattle.mdv_tab.proofs.graph.add_user.Goals as goal

pub index_mut-requires : goal.index_mut-requires
index_mut-requires c =
    let within = c.requires _ (Contains-get_or c.args.stands.now c.loop-name.name-index 0 c.loop-name-test.true) in
    let before = length-map c.args.users.now.items (λ u. u.items) in
    let now = length-map c.loop-name.users.items (λ u. u.items) in
    omega (arith, within, c.loop-name.invariant.same, before, now, c.loop-name.users.ok.0)

pub loop-name-preserved : goal.loop-name-preserved
loop-name-preserved c =
    let items : Vec ℕ Global → List ℕ = λ u. u.items in
    let old = map items c.args.users.now.items in
    let mid = map items c.loop-name.users.items in
    let names = c.args.stands.now in
    let k = c.loop-name.name-index in
    let x = get_or names k 0 in
    let within = c.requires _ (Contains-get_or names k 0 c.loop-name-test.true) in
    let before = length-map c.args.users.now.items items in
    let now = length-map c.loop-name.users.items items in
    let inside : x < length c.loop-name.users.items = omega (arith, within, c.loop-name.invariant.same, before, now) in
    let at : list_at mid x ≡ c.index_mut.result.now.items = part_at items c.loop-name.users.items x c.index_mut.result.now [] inside c.index_mut.ensures.value in
    let pushed : c.push.new.self.items ≡ list_at mid x ++ c.args.place ∷ [] = c.in_ok-push.ensures.items ∙ ap (λ (l : List ℕ). l ++ c.args.place ∷ []) (sym at) in
    let is : map items (set c.loop-name.users.items x c.push.new.self) ≡ set mid x (list_at mid x ++ c.args.place ∷ []) = map-set items c.loop-name.users.items x c.push.new.self ∙ ap (λ (l : List ℕ). set mid x l) pushed in
    let F : List (List ℕ) → Type 0 = λ l. AddsUser old l c.args.place (take (k + 1) names) in
    subst F (sym is) (adds_more old mid c.args.place x names k c.loop-name-test.true refl (omega (arith, inside, now)) c.loop-name.invariant)
