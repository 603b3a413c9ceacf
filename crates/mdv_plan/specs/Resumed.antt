-- What is copied to the components of a submirror that comes back.
use Rattle.std.specs.Prelude.{ℕ, Bool, not, ◌==◌, List, if◌then◌else◌}
use Rattle.std.specs.List.{list_any}
use Rattle.mdv_plan.specs.declared.status.PartStatus.{PartStatus}
use Rattle.mdv_plan.specs.declared.status.Resync.TheVariants.{Regions, Whole}
use Rattle.mdv_plan.specs.declared.status.State.{State}
use Rattle.mdv_plan.specs.declared.status.State.TheVariants.{Okay, Resyncing}

abbrev pub okay_resumed : Bool → State
okay_resumed dirty = if dirty then Resyncing Regions else Okay

-- dirty regions are copied to what is Okay, and what is Resyncing is copied whole
abbrev pub resumed : Bool → State → State
resumed dirty Okay = okay_resumed dirty
resumed dirty (Resyncing r) = Resyncing Whole
resumed dirty state = state

-- where it lies stays
abbrev pub part_resumed : Bool → PartStatus → PartStatus
part_resumed dirty part = record part { state = resumed dirty part.state }

abbrev pub is_marked : ℕ → Bool
is_marked byte = not (byte == 0)

-- whether any region of these is dirty
abbrev pub has_dirty : List ℕ → Bool
has_dirty bytes = list_any is_marked bytes
