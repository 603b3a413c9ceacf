use Rattle.std.proofs.Common.{◌≡◌, ◌<◌, ◌≤◌, ◌+◌, ◌^◌, length, slice_index_or, arith}
use Rattle.std.proofs.lemmas.Bool.Decides.{nat_tests}
use Rattle.mdv_shelf.specs.MemShelf.{shelf_sizes}
use Rattle.mdv_places_tests.proofs.Few.{laid_at}
use Rattle.mdv_places_tests.proofs.asking.is_laid_on.Goals as goal

pub returns : goal.returns
returns c is =
    let sizes = shelf_sizes c.args.shelf.now in
    let at = c.in-Some.at in
    let drive : at.drive.0 < length sizes = (let over = c.if-at-drives.false in let all = c.drives.ensures in grind (arith, nat_tests)) in
    let least : 16 ≤ c.args.place.blocks = (let less = c.if-place-lt16.false in grind (arith, nat_tests)) in
    let within : at.start + c.args.place.start + c.args.place.blocks ≤ slice_index_or sizes at.drive.0 0 = (let start = c.from.ensures in let blocks = c.from-2.ensures in let all = c.blocks-2.ensures in grind (arith, nat_tests)) in
    let size : slice_index_or sizes at.drive.0 0 < 2 ^ 64 = (let all = c.blocks-2.ensures in let small = c.blocks-2.type_inv in omega (arith, all, small)) in
    laid_at sizes c.args.geometry.now c.args.place at c.requires c.in-Some.ensures.value drive least within size
