use Rattle.std.proofs.Common.{List, Ok, Err, refl, subst, sym, ◌∙◌}
use Rattle.mdv_acts.specs.Asked.{drives_asked}
use Rattle.mdv_store.specs.Create.{CreateEnds, CreateMoment, IsCreated, IsCreationCounted}
use Rattle.mdv_shelf.specs.Drives.{KeptAmong}
use Rattle.mdv_shelf.specs.Shelves.{AtEachTale, AtEnd}
use Rattle.mdv_engine_law.specs.Answers.{accepted, refusing}
use Rattle.mdv_engine.specs.Below.{AddPlaces, Identity, Key, OutOfMemory, SliceLine}
use Rattle.mdv_engine.specs.Ends.{WasCarriedOut}
use Rattle.mdv_engine.specs.declared.engine.Engine.{Engine}
use Rattle.mdv_engine.proofs.Creating as creating
use Rattle.mdv_engine.proofs.Creating.{begun, with_new}
use Rattle.mdv_engine.proofs.Makes as makes
use Rattle.mdv_engine.proofs.engine.Engine.make_database.Goals as goal

pub create-requires : goal.create-requires
create-requires g c =
    let v = c.args.self.now in
    record {
      asked = makes.asked_now v _ c.self.view_is c.as_slice.result.now c.args.slices.now (c.as_slice.ensures.value ∙ c.in-Ok.ensures) (g.S.Shelf.sizes c.args.shelf.now) c.args.count c.args.blocks
          (creating.are_asked v.host (g.S.Shelf.sizes c.args.shelf.now) c.requires.ready v.state c.args.slices.now c.requires.allowed.0 c.args.count c.args.blocks c.requires.allowed.1 c.requires.form.0 c.requires.form.1 c.requires.form.2 c.requires.none);
    }

pub returns-in_default : goal.returns-in_default
returns-in_default g c = λ force ask free of.
    let v = c.args.self.now in
    subst (λ (e : Engine). WasCarriedOut g.S.Shelf c.args.shelf.now c.args.shelf.now ask (AddPlaces c.args.slices.now force c.args.count c.args.blocks) v (refusing OutOfMemory) (record { host = e.host; state = begun e.state })) (sym c.self.view_is)
    (makes.wanting_out g.S.Shelf c.args.shelf.now c.args.shelf.now v c.requires.ready c.args.slices.now c.args.count c.args.blocks c.requires.form c.requires.begun c.requires.entries c.requires.none ask of force free refl)

pub returns-in-Ok-create : goal.returns-in-Ok-create
returns-in-Ok-create g c = λ force ask free of.
    let v = c.args.self.now in
    let told = λ (P : Key → Identity → List SliceLine → Type 0). makes.to_old v _ c.self.view_is c.as_slice.result.now c.args.slices.now (c.as_slice.ensures.value ∙ c.in-Ok.ensures) P in
    subst (λ (e : Engine). WasCarriedOut g.S.Shelf c.args.shelf.now c.create.new.shelf ask (AddPlaces c.args.slices.now force c.args.count c.args.blocks) v accepted (record { host = e.host; state = with_new e.state c.in-Ok-create.store })) (sym c.self.view_is)
    (makes.made_out g.S.Shelf c.args.shelf.now c.create.new.shelf v c.requires.ready c.args.slices.now c.args.count c.args.blocks c.requires.form c.requires.begun c.requires.entries c.requires.none ask of force free
    (told (λ key identity lines. KeptAmong g.S.Shelf c.args.shelf.now c.create.new.shelf (drives_asked lines)) c.create.ensures.kept)
    (told (λ key identity lines. AtEachTale g.S.Shelf (CreateMoment key identity lines c.args.count c.args.blocks) c.args.shelf.now c.create.new.shelf) c.create.ensures.moments)
    c.in-Ok-create.store
    (told (λ key identity lines. IsCreated g.S.Shelf c.args.shelf.now c.create.new.shelf key identity lines c.args.count c.args.blocks (Ok c.in-Ok-create.store)) c.in-Ok-create.ensures.answer)
    (told (λ key identity lines. AtEnd g.S.Shelf (CreateEnds key identity lines c.args.count c.args.blocks (Ok c.in-Ok-create.store)) c.args.shelf.now c.create.new.shelf) c.in-Ok-create.ensures.end)
    (told (λ key identity lines. IsCreationCounted g.S.Shelf c.args.shelf.now c.create.new.shelf lines c.args.count c.args.blocks (Ok c.in-Ok-create.store)) c.in-Ok-create.ensures.counted))

pub returns : goal.returns
returns g c = λ force ask free of.
    let v = c.args.self.now in
    let told = λ (P : Key → Identity → List SliceLine → Type 0). makes.to_old v _ c.self.view_is c.as_slice.result.now c.args.slices.now (c.as_slice.ensures.value ∙ c.in-Ok.ensures) P in
    subst (λ (e : Engine). WasCarriedOut g.S.Shelf c.args.shelf.now c.create.new.shelf ask (AddPlaces c.args.slices.now force c.args.count c.args.blocks) v c.unmade.result (record { host = e.host; state = begun e.state })) (sym c.self.view_is)
    (makes.unmade_out g.S.Shelf c.args.shelf.now c.create.new.shelf v c.requires.ready c.args.slices.now c.args.count c.args.blocks c.requires.form c.requires.begun c.requires.entries c.requires.none ask of force free
    (told (λ key identity lines. KeptAmong g.S.Shelf c.args.shelf.now c.create.new.shelf (drives_asked lines)) c.create.ensures.kept)
    (told (λ key identity lines. AtEachTale g.S.Shelf (CreateMoment key identity lines c.args.count c.args.blocks) c.args.shelf.now c.create.new.shelf) c.create.ensures.moments)
    c.in-Err.fault c.unmade.result c.unmade.ensures
    (told (λ key identity lines. IsCreated g.S.Shelf c.args.shelf.now c.create.new.shelf key identity lines c.args.count c.args.blocks (Err c.in-Err.fault)) c.in-Err.ensures.answer)
    (told (λ key identity lines. AtEnd g.S.Shelf (CreateEnds key identity lines c.args.count c.args.blocks (Err c.in-Err.fault)) c.args.shelf.now c.create.new.shelf) c.in-Err.ensures.end)
    (told (λ key identity lines. IsCreationCounted g.S.Shelf c.args.shelf.now c.create.new.shelf lines c.args.count c.args.blocks (Err c.in-Err.fault)) c.in-Err.ensures.counted))
