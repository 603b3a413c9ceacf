-- The slices of a table that was read lie within their drives.
use Rattle.std.proofs.Common.{arith}
use Rattle.std.proofs.lemmas.List.Elements.{All-contains}
use Rattle.std.proofs.lemmas.Option.{get_or_from_slice_get, slice_get_within}
use Rattle.mdv_home.specs.Drives.{SlicesWithin, sizes_of}
use Rattle.mdv_home.proofs.Owning.{size_at}
use Rattle.mdv_home.proofs.Read.{LiesOn, read_table}

pub slices_within : SlicesWithin
slices_within text table name at is has =
    let lies = All-contains (LiesOn table.drives) table.slices (record { name = name; at = at }) (read_table text table is).slices has in
    let size = size_at table at.drive.0 lies.drive lies.place in
    let blocks = get_or_from_slice_get (sizes_of table) at.drive.0 lies.drive.blocks 0 size in
    record { known = slice_get_within (sizes_of table) at.drive.0 lies.drive.blocks size; some = lies.some; within = omega (arith, lies.within, blocks) }
