use Rattle.std.proofs.Common.{refl}
use Rattle.mdv_look.proofs.Looks.{drives_few}
use Rattle.mdv_look.proofs.Peeks.{peeked, unpeeked}
use Rattle.mdv_look.proofs.peeking.peek.Goals as goal

pub set_of-all-requires : goal.set_of-all-requires
set_of-all-requires g c = rw c.as_slice.ensures (drives_few (g.S.Shelf.sizes c.args.shelf.now) c.args.site.now.drives c.requires.on_shelf.drives)

pub returns-in-Ok-clause-answer : goal.returns-in-Ok-clause-answer
returns-in-Ok-clause-answer g c =
    let are = rw c.as_slice.ensures at c.set_of-all.ensures in
    peeked g.S.Shelf c.args.shelf.now c.look.new.shelf c.args.geometry.now c.args.site.now c.set_of-all.result are c.in-Ok.looked c.told.result c.in-Ok.ensures.looked.found c.in-Ok.ensures.counted c.told.ensures.answer c.told.ensures.calm

pub returns-in-Err-clause-answer : goal.returns-in-Err-clause-answer
returns-in-Err-clause-answer g c =
    let are = rw c.as_slice.ensures at c.set_of-all.ensures in
    unpeeked g.S.Shelf c.args.shelf.now c.look.new.shelf c.args.geometry.now c.args.site.now c.set_of-all.result are c.in-Err.field-0 _ c.in-Err.ensures.counted (record { answer_is = refl; none = c.new.ensures.none })
