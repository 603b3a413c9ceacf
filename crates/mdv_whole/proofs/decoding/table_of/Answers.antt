use Rattle.std.proofs.Common.{lit<}
use Rattle.mdv_whole.proofs.Table.{volumes_sorted, notes_sorted, pools_sorted}
use Rattle.mdv_whole.proofs.decoding.table_of.Goals as goal

pub from_ascending-requires : goal.from_ascending-requires
from_ascending-requires c = (lit< tt, rw (c.in_ok-planned.ensures.noted, c.as_mut_slice.ensures.value) (notes_sorted c.requires.fits))

pub sorted_halves-requires : goal.sorted_halves-requires
sorted_halves-requires c = (lit< tt, rw c.as_slice.ensures.value (pools_sorted c.requires.fits))

pub from_ascending-requires-2 : goal.from_ascending-requires-2
from_ascending-requires-2 c = (lit< tt, rw (c.in_ok-planned.ensures.planned, c.as_mut_slice.ensures.value) (volumes_sorted c.requires.fits))
