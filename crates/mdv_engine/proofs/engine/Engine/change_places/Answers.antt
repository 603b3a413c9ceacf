use Rattle.std.proofs.Common.{Some, ap, refl, subst, sym, ◌∙◌}
use Rattle.mdv_places.specs.Asked.{asked_of}
use Rattle.mdv_engine.specs.Below.{AreLaid, Opened}
use Rattle.mdv_engine.specs.Moving.{HasChanged}
use Rattle.mdv_engine.specs.declared.engine.Engine.{Engine}
use Rattle.mdv_engine.proofs.Ending.{one_open}
use Rattle.mdv_engine.proofs.engine.Engine.change_places.Goals as goal

pub change_places-requires-clause-laid : goal.change_places-requires-clause-laid
change_places-requires-clause-laid g c =
    let v = c.args.self.now in
    subst (λ (o : Opened). AreLaid (g.S.Shelf.sizes c.args.shelf.now) o.seats) (one_open v.state c.requires.0 c.in-Some.store c.requires.1 (ap (λ (e : Engine). e.state.opened) (sym c.self.view_is) ∙ c.in-Some.is)) c.requires.2.1

pub returns : goal.returns
returns g c = λ o is.
    let v = c.args.self.now in
    let came = c.change_places.result in
    let same = one_open v.state c.in-Some.store o (ap (λ (e : Engine). e.state.opened) (sym c.self.view_is) ∙ c.in-Some.is) is in
    subst (λ (x : Opened). HasChanged g.S.Shelf c.args.shelf.now c.change_places.new.shelf v x (asked_of c.args.asked.now) came (record { host = c.self.inside.0.0; state = record { opened = Some c.change_places.new.store; up = c.self.inside.0.1.0.up; unsteady = c.self.inside.0.1.0.unsteady; clean = c.self.inside.0.1.0.clean; begun = c.self.inside.0.1.0.begun; entries = c.self.inside.0.1.0.entries.items } })) same
    (subst (λ (e : Engine). HasChanged g.S.Shelf c.args.shelf.now c.change_places.new.shelf e c.in-Some.store (asked_of c.args.asked.now) came (record { host = c.self.inside.0.0; state = record { opened = Some c.change_places.new.store; up = c.self.inside.0.1.0.up; unsteady = c.self.inside.0.1.0.unsteady; clean = c.self.inside.0.1.0.clean; begun = c.self.inside.0.1.0.begun; entries = c.self.inside.0.1.0.entries.items } })) c.self.view_is
    (record {
      now = c.change_places.new.store;
      is = refl;
      answer = c.change_places.ensures.answer;
      moments = c.change_places.ensures.moments;
      end = c.change_places.ensures.end;
      counted = c.change_places.ensures.counted;
      kept = c.change_places.ensures.kept;
    }))
