use Rattle.std.proofs.Common.{◌≡◌, Bool, List, ℕ, false, true, subst, ◌∙◌}
use Rattle.std.specs.Prelude.{IfSome}
use Rattle.mdv_engine_law.specs.Places.{are_all}
use Rattle.mdv_engine.specs.Below.{AreLaid}
use Rattle.mdv_engine.proofs.Drops as drops
use Rattle.mdv_engine.proofs.May as may
use Rattle.mdv_engine.proofs.engine.Engine.drop_places.Goals as goal

pub returns-in-Some : goal.returns-in-Some
returns-in-Some g c = drops.refused_out g.S.Shelf c.args.shelf.now c.args.self.now c.requires.well c.args.slices.now c.args.force c.in-Some.refusal (c.drop_refusal.ensures ∙ c.in-Some.is)

pub drop_all-requires-clause-all : goal.drop_all-requires-clause-all
drop_all-requires-clause-all g c =
    let v = c.args.self.now in
    drops.to_go v c.args.slices.now c.args.force (c.drop_refusal.ensures ∙ c.in_default.is) true
    (subst (λ (all : Bool). IfSome v.state.opened (λ o. all ≡ are_all o c.args.slices.now)) c.if-are_to_go.true c.are_to_go.ensures)

pub change_places-requires : goal.change_places-requires
change_places-requires g c =
    let v = c.args.self.now in
    let sizes = g.S.Shelf.sizes c.args.shelf.now in
    let free = c.drop_refusal.ensures ∙ c.in_default.is in
    let some = drops.to_go v c.args.slices.now c.args.force free false (subst (λ (all : Bool). IfSome v.state.opened (λ o. all ≡ are_all o c.args.slices.now)) c.if-are_to_go.false c.are_to_go.ensures) in (
      some.0,
      some.1,
      (
        may.may_drop v.host sizes c.requires.ready v.state c.requires.well some.0 some.1 c.args.slices.now c.args.force free some.2,
        subst (λ (s : List ℕ). AreLaid s some.0.seats) c.requires.ready.on_shelf.sizes_are (may.held v.host sizes c.requires.ready v.state c.requires.well some.0 some.1).laid,
      ),
    )

pub returns-else-are_to_go : goal.returns-else-are_to_go
returns-else-are_to_go g c =
    let v = c.args.self.now in
    let free = c.drop_refusal.ensures ∙ c.in_default.is in
    let some = drops.to_go v c.args.slices.now c.args.force free false (subst (λ (all : Bool). IfSome v.state.opened (λ o. all ≡ are_all o c.args.slices.now)) c.if-are_to_go.false c.are_to_go.ensures) in
    drops.dropped_out g.S.Shelf c.args.shelf.now c.change_places.new.shelf v c.requires.ready c.requires.well some.0 some.1 c.args.slices.now c.args.force free some.2 c.change_places.result c.change_places.new.self
    (c.change_places.ensures some.0 some.1) c.moved.result c.moved.ensures
