use Rattle.std.proofs.Common.{◌++◌, take, IsPermutation}
use Rattle.mdv_tab.proofs.making.add_all.Given as goal

abbrev pub invariant-loop-place : goal.invariant-loop-place
invariant-loop-place l = IsPermutation (l.initial.queue ++ take l.place-index l.places) l.queue
