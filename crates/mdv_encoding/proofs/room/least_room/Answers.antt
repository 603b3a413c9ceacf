use Rattle.std.proofs.Common.{min, sym, ◌∙◌, ap}
use Rattle.mdv_encoding.specs.Room.{least_room}
use Rattle.mdv_encoding.proofs.Rooms.{room_each}
use Rattle.mdv_encoding.proofs.room.least_room.Goals as goal

pub returns-in-Two-clause-value : goal.returns-in-Two-clause-value
returns-in-Two-clause-value c =
    let old = c.least_of-in-Two.ensures.value ∙ ap least_room c.as_slice-in-Two.ensures in
    let new = c.least_of-in-Two-2.ensures.value ∙ ap least_room c.as_slice-in-Two-2.ensures in
    rw c.in-Two.is (c.min.ensures ∙ (λ i. min (old i) (new i)) ∙ sym (room_each c.in-Two.old c.in-Two.new))
