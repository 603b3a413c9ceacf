use Rattle.std.proofs.Common.{List, ℕ, refl, subst, sym, ◌∙◌}
use Rattle.mdv_places.specs.Asked.{Adds}
use Rattle.mdv_places.specs.Changing.{MayMove}
use Rattle.mdv_engine.specs.Below.{AreLaid, SliceLine}
use Rattle.mdv_engine.specs.Moving.{HasChanged}
use Rattle.mdv_engine.proofs.May as may
use Rattle.mdv_engine.proofs.Moves as moves
use Rattle.mdv_engine.proofs.engine.Engine.add_places.Goals as goal

pub returns-in_default : goal.returns-in_default
returns-in_default g c = λ force ask free of.
    moves.still_wanting g.S.Shelf c.args.shelf.now c.args.shelf.now c.args.self.now c.requires.ready c.requires.well c.requires.opened.0 c.requires.opened.1 c.args.slices.now c.args.count c.args.blocks c.requires.form force free ask of refl

pub change_places-requires : goal.change_places-requires
change_places-requires g c =
    let v = c.args.self.now in
    let o = c.requires.opened.0 in
    let sizes = g.S.Shelf.sizes c.args.shelf.now in (
      o,
      c.requires.opened.1,
      (
        subst (λ (lines : List SliceLine). MayMove sizes v.host.drives o (Adds lines c.args.count c.args.blocks)) (sym (c.as_slice.ensures.value ∙ c.in-Ok.ensures))
            (may.may_add v.host sizes c.requires.ready v.state c.requires.well o c.requires.opened.1 c.args.slices.now c.requires.allowed.0 c.args.count c.args.blocks c.requires.allowed.1 c.requires.form.0 c.requires.form.1 c.requires.form.2),
        subst (λ (s : List ℕ). AreLaid s o.seats) c.requires.ready.on_shelf.sizes_are (may.held v.host sizes c.requires.ready v.state c.requires.well o c.requires.opened.1).laid,
      ),
    )

pub returns : goal.returns
returns g c = λ force ask free of.
    let v = c.args.self.now in
    let o = c.requires.opened.0 in
    moves.added_out g.S.Shelf c.args.shelf.now c.change_places.new.shelf v c.requires.ready c.requires.well o c.requires.opened.1 c.args.slices.now c.args.count c.args.blocks c.requires.form force free ask of c.change_places.result c.change_places.new.self
    (subst (λ (lines : List SliceLine). HasChanged g.S.Shelf c.args.shelf.now c.change_places.new.shelf v o (Adds lines c.args.count c.args.blocks) c.change_places.result c.change_places.new.self) (c.as_slice.ensures.value ∙ c.in-Ok.ensures) (c.change_places.ensures o c.requires.opened.1))
    c.moved.result c.moved.ensures
