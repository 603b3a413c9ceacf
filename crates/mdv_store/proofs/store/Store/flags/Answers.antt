use Rattle.std.proofs.Common.{◌∙◌, ◌↔◌, List, Option, Contains, map, sym, ap, subst}
use Rattle.std.specs.Prelude.{IsSome}
use Rattle.mdv_base.specs.declared.flags.Flags.{Flags}
use Rattle.mdv_store.specs.Below.{places_of}
use Rattle.mdv_store.specs.Letters.{flags_at, places_seen}
use Rattle.mdv_store.specs.Opened.{Opened}
use Rattle.mdv_store.specs.declared.letters.Lettered.{Lettered}
use Rattle.mdv_store.specs.declared.seats.Seat.{Seat}
use Rattle.mdv_store.proofs.Lettering.{told_just_where}
use Rattle.mdv_store.proofs.store.Store.flags.Goals as goal

pub returns-clause-is : goal.returns-clause-is
returns-clause-is c =
    let place = c.args.place.now in
    c.flags_at.ensures ∙ ap (λ (ss : List Seat). flags_at ss c.as_slice-2.result.now place) c.as_slice.ensures ∙ ap (λ (ls : List Lettered). flags_at c.self.inside.seats ls place) c.as_slice-2.ensures
    ∙ ap (λ (o : Opened). flags_at o.seats c.args.letters.now place) c.self.view_is

pub returns-clause-listed : goal.returns-clause-listed
returns-clause-listed c =
    let place = c.args.place.now in
    let of = ap places_seen c.as_slice-2.ensures ∙ c.requires.of ∙ ap (λ (o : Opened). places_of o.table.plan.lists) (sym c.self.view_is) in
    let told = told_just_where place c.as_slice.result.now c.as_slice-2.result.now (places_of c.self.inside.table.plan.lists) (ap (map (λ (s : Seat). s.place)) c.as_slice.ensures ∙ c.self.invariant.seats.places) of in
    subst (λ (o : Opened). IsSome c.flags_at.result ↔ Contains (places_of o.table.plan.lists) place) c.self.view_is
    (subst (λ (f : Option Flags). IsSome f ↔ Contains (places_of c.self.inside.table.plan.lists) place) (sym c.flags_at.ensures) told)
