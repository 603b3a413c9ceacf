use Rattle.std.proofs.Common.{sym, subst, arith}
use Rattle.mdv_acts.specs.Below.{IsPlaced, PlaceAt}
use Rattle.mdv_acts.proofs.wiping.wipe_place.Goals as goal
use Rattle.mdv_acts.proofs.wiping.wipe_place.Goals.{After-place_in-at}

pub place_in-at-requires-clause-short : goal.place_in-at-requires-clause-short
place_in-at-requires-clause-short g c at has = (let placed = c.requires.laid.placed at has in let within = placed.within in let size = placed.size in omega (arith, within, size))

lies : (g : _) (c : After-place_in-at g) → IsPlaced (g.S.Shelf.sizes c.args.shelf.now) c.place_in-at.result
lies g c =
    let found = c.place_in-at.ensures in
    subst (λ (a : PlaceAt). IsPlaced (g.S.Shelf.sizes c.args.shelf.now) a) (sym found.2) (c.requires.laid.placed found.0 found.1)

pub blank-requires : goal.blank-requires
blank-requires g c = lies g (goal.at.blank-requires g c).After-place_in-at

pub insert-requires : goal.insert-requires
insert-requires g c = (let drive = (lies g (goal.at.insert-requires g c).After-place_in-at).drive in let few = c.requires.few in omega (arith, drive, few))
