use Rattle.std.proofs.Common.{◌≡◌, take}
use Rattle.mdv_name.specs.SliceIndex.{slices_on}
use Rattle.mdv_name.proofs.slice_list.SliceList.on_drives.Given as goal

abbrev pub invariant-loop-place : goal.invariant-loop-place
invariant-loop-place l = l.found ≡ slices_on l.drives (take l.place l.self)
