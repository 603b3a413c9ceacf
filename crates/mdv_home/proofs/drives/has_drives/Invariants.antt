use Rattle.std.proofs.Common.{◌≡◌, ◌<◌, ℕ, slice_index_or}
use Rattle.mdv_home.specs.Drives.{sizes_of}
use Rattle.mdv_home.proofs.drives.has_drives.Given as goal

abbrev pub invariant-loop-number : goal.invariant-loop-number
invariant-loop-number g l = (k : ℕ) → k < l.number → slice_index_or (g.S.Shelf.sizes l.shelf) k 0 ≡ slice_index_or (sizes_of l.table) k 0
