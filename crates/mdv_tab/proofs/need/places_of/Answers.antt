use Rattle.std.proofs.Common.{◌+◌, List, take, sym, subst}
use Rattle.mdv_tab.specs.declared.graph.Place.{Place}
use Rattle.mdv_tab.specs.Need.{ArePlacesOf}
use Rattle.mdv_tab.proofs.Needs.{places_more}
use Rattle.mdv_tab.proofs.need.places_of.Goals as goal

pub loop-entry-preserved : goal.loop-entry-preserved
loop-entry-preserved c =
    let k = c.loop-entry.entry-index in
    let F : List Place → Type 0 = λ l. ArePlacesOf c.args.index.now (take (k + 1) c.args.entries.now) l in
    subst F (sym {A = List Place} c.in_ok-push.ensures.items) (places_more c.args.index.now c.args.entries.now c.loop-entry.places.items k c.entry-item.result c.in_ok-place_of.field-0 c.loop-entry-test.true c.entry-item.is c.loop-entry.invariant c.in_ok-place_of.ensures)
