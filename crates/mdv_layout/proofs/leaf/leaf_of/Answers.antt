use Rattle.std.proofs.Common.{◌≡◌, Some, sym, ◌∙◌}
use Rattle.std.proofs.lemmas.Option.{none-some}
use Rattle.mdv_name.proofs.Finding.{slice_at-some}
use Rattle.mdv_layout.specs.Below.{slice_at}
use Rattle.mdv_layout.proofs.leaf.leaf_of.Goals as goal

pub unreachable-requires : goal.unreachable-requires
unreachable-requires c =
    let slice = c.in-Slice.slice in
    let part = rw c.in-Slice.is at c.requires.part in
    let found : slice_at c.args.geometry.now.slices slice ≡ Some part.at = (slice_at-some c.args.geometry.now slice part.at c.requires.sound).1 part.has in
    none-some part.at (sym c.in-None.is ∙ c.slice_at.ensures.value ∙ found)
