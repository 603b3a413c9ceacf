use Rattle.std.proofs.Common.{◌≡◌, None, false, ap, refl, subst, sym, ◌∙◌}
use Rattle.mdv_engine_law.specs.Answers.{accepted, refusing}
use Rattle.mdv_engine.specs.Below.{AreLaid, IoFault, Opened}
use Rattle.mdv_engine.specs.Moving.{HasClosed, gone, torn}
use Rattle.mdv_engine.specs.declared.engine.Engine.{Engine}
use Rattle.mdv_engine.proofs.Ending.{one_open}
use Rattle.mdv_engine.proofs.engine.Engine.end_database.Goals as goal

pub end-requires-clause-laid : goal.end-requires-clause-laid
end-requires-clause-laid g c =
    let v = c.args.self.now in
    subst (λ (o : Opened). AreLaid (g.S.Shelf.sizes c.args.shelf.now) o.seats) (one_open v.state c.requires.0 c.in-Some.store c.requires.1 (ap (λ (e : Engine). e.state.opened) (sym c.self.view_is) ∙ sym c.take.ensures.value ∙ c.in-Some.is)) c.requires.2.1

pub returns-in-Ok : goal.returns-in-Ok
returns-in-Ok g c = λ o is.
    let v = c.args.self.now in
    let same = one_open v.state c.in-Some.store o (ap (λ (e : Engine). e.state.opened) (sym c.self.view_is) ∙ sym c.take.ensures.value ∙ c.in-Some.is) is in
    subst (λ (x : Opened). HasClosed g.S.Shelf c.args.shelf.now c.end.new.shelf v x accepted (record { host = c.self.inside.0.0; state = record { opened = c.take.new.self; up = c.self.inside.0.1.0.up; unsteady = c.self.inside.0.1.0.unsteady; clean = c.self.inside.0.1.0.clean; begun = c.self.inside.0.1.0.begun; entries = c.self.inside.0.1.0.entries.items } })) same
    (gone c.end.ensures.moments refl (subst (λ (e : Engine). record { host = c.self.inside.0.0; state = record { opened = c.take.new.self; up = c.self.inside.0.1.0.up; unsteady = c.self.inside.0.1.0.unsteady; clean = c.self.inside.0.1.0.clean; begun = c.self.inside.0.1.0.begun; entries = c.self.inside.0.1.0.entries.items } } ≡ record e { state = record e.state { opened = None } }) c.self.view_is
    (λ i. record { host = c.self.inside.0.0; state = record { opened = c.take.ensures.after i; up = c.self.inside.0.1.0.up; unsteady = c.self.inside.0.1.0.unsteady; clean = c.self.inside.0.1.0.clean; begun = c.self.inside.0.1.0.begun; entries = c.self.inside.0.1.0.entries.items } })) c.in-Ok.ensures.answer c.in-Ok.ensures.end)

pub returns-in-Err : goal.returns-in-Err
returns-in-Err g c = λ o is.
    let v = c.args.self.now in
    let same = one_open v.state c.in-Some.store o (ap (λ (e : Engine). e.state.opened) (sym c.self.view_is) ∙ sym c.take.ensures.value ∙ c.in-Some.is) is in
    subst (λ (x : Opened). HasClosed g.S.Shelf c.args.shelf.now c.end.new.shelf v x (refusing IoFault) (record { host = c.self.inside.0.0; state = record { opened = c.take.new.self; up = c.self.inside.0.1.0.up; unsteady = c.self.inside.0.1.0.unsteady; clean = false; begun = c.self.inside.0.1.0.begun; entries = c.self.inside.0.1.0.entries.items } })) same
    (torn c.end.ensures.moments refl (subst (λ (e : Engine). record { host = c.self.inside.0.0; state = record { opened = c.take.new.self; up = c.self.inside.0.1.0.up; unsteady = c.self.inside.0.1.0.unsteady; clean = false; begun = c.self.inside.0.1.0.begun; entries = c.self.inside.0.1.0.entries.items } } ≡ record e { state = record e.state { opened = None; clean = false } }) c.self.view_is
    (λ i. record { host = c.self.inside.0.0; state = record { opened = c.take.ensures.after i; up = c.self.inside.0.1.0.up; unsteady = c.self.inside.0.1.0.unsteady; clean = false; begun = c.self.inside.0.1.0.begun; entries = c.self.inside.0.1.0.entries.items } })) c.in-Err.field-0 c.in-Err.ensures.answer)
