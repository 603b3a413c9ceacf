-- The databases that were ever begun on these drives, and which volume of one is meant.
use Rattle.std.specs.Prelude.{Bool, ◌&&◌, ◌==◌}
use Rattle.mdv_standing.specs.Databases.{same_key}
use Rattle.mdv_volumes.specs.Below.{Key, VolId}
pub use Rattle.mdv_standing.specs.Databases.{Database, current_of, is_current, log_in, log_of, same_key, same_text, with_creation, with_event, with_over}

-- the one volume is the other
abbrev pub is_volume : Key → VolId → Key → VolId → Bool
is_volume key volume other beside = same_key key other && volume.0 == beside.0
