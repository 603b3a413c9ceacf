use Rattle.std.proofs.Common.{◌≡◌, Bool, true, false, List, ℕ, Result, Ok, ap, refl, subst, ◌∙◌}
use Rattle.mdv_places.specs.Asked.{KeepsFirst}
use Rattle.mdv_places.specs.declared.changing.PlacesFault.{PlacesFault}
use Rattle.mdv_engine.specs.Below.{AreLaid}
use Rattle.mdv_engine.specs.Moving.{HasChanged}
use Rattle.mdv_engine.specs.declared.engine.Engine.{Engine}
use Rattle.mdv_engine.proofs.Drops as drops
use Rattle.mdv_engine.proofs.May as may
use Rattle.mdv_engine.proofs.Removed as removed
use Rattle.mdv_engine.proofs.engine.Engine.drop_all.Goals as goal

ok_is : (came : Result Bool PlacesFault) (said clean : Bool) → came ≡ Ok said → said ≡ clean → came ≡ Ok clean
ok_is came said clean is same = is ∙ ap (λ (b : Bool). Ok b) same

pub change_places-requires : goal.change_places-requires
change_places-requires g c =
    let v = c.args.self.now in
    let o = c.requires.all.0 in
    let sizes = g.S.Shelf.sizes c.args.shelf.now in (
      o,
      c.requires.all.1,
      (
        may.may_keep v.host sizes c.requires.ready v.state c.requires.well o c.requires.all.1 c.args.slices.now c.requires.allowed.0 c.requires.allowed.1 c.requires.all.2,
        subst (λ (s : List ℕ). AreLaid s o.seats) c.requires.ready.on_shelf.sizes_are (may.held v.host sizes c.requires.ready v.state c.requires.well o c.requires.all.1).laid,
      ),
    )

pub end_database-requires : goal.end_database-requires
end_database-requires g c =
    let o = c.requires.all.0 in
    let has = subst (λ (r : Result Bool PlacesFault). HasChanged g.S.Shelf c.args.shelf.now c.change_places.new.shelf c.args.self.now o KeepsFirst r c.change_places.new.self) (ok_is c.change_places.result c.in-Ok-true.field-0 true c.in-Ok-true.is c.in-Ok-true.field-0-test)
    (c.change_places.ensures o c.requires.all.1) in
    (has.now, ap (λ (e : Engine). e.state.opened) has.is, (has.answer.sole refl, has.answer.laid))

pub returns-in-Ok-true : goal.returns-in-Ok-true
returns-in-Ok-true g c = λ force free.
    let v = c.args.self.now in
    let o = c.requires.all.0 in
    let has = subst (λ (r : Result Bool PlacesFault). HasChanged g.S.Shelf c.args.shelf.now c.change_places.new.shelf v o KeepsFirst r c.change_places.new.self) (ok_is c.change_places.result c.in-Ok-true.field-0 true c.in-Ok-true.is c.in-Ok-true.field-0-test)
    (c.change_places.ensures o c.requires.all.1) in
    removed.deleted_out g.S.Shelf c.args.shelf.now c.change_places.new.shelf c.end_database.new.shelf v c.requires.ready c.requires.well o c.requires.all.1 c.args.slices.now force free c.requires.all.2 c.change_places.new.self has c.end_database.result c.end_database.new.self
    (c.end_database.ensures has.now (ap (λ (e : Engine). e.state.opened) has.is))

pub returns-in-Ok-false : goal.returns-in-Ok-false
returns-in-Ok-false g c = λ force free.
    let v = c.args.self.now in
    let o = c.requires.all.0 in
    drops.half_out g.S.Shelf c.args.shelf.now c.change_places.new.shelf v c.requires.ready c.requires.well o c.requires.all.1 c.args.slices.now force free c.requires.all.2 c.change_places.new.self
    (subst (λ (r : Result Bool PlacesFault). HasChanged g.S.Shelf c.args.shelf.now c.change_places.new.shelf v o KeepsFirst r c.change_places.new.self) (ok_is c.change_places.result c.in-Ok-false.field-0 false c.in-Ok-false.is c.in-Ok-false.field-0-test)
    (c.change_places.ensures o c.requires.all.1))

pub returns-in-Err : goal.returns-in-Err
returns-in-Err g c = λ force free.
    let v = c.args.self.now in
    let o = c.requires.all.0 in
    drops.faulted_out g.S.Shelf c.args.shelf.now c.change_places.new.shelf v c.requires.ready c.requires.well o c.requires.all.1 c.args.slices.now force free c.requires.all.2 c.in-Err.fault c.change_places.new.self
    (subst (λ (r : Result Bool PlacesFault). HasChanged g.S.Shelf c.args.shelf.now c.change_places.new.shelf v o KeepsFirst r c.change_places.new.self) c.in-Err.is (c.change_places.ensures o c.requires.all.1))
    c.unmoved.result c.unmoved.ensures
