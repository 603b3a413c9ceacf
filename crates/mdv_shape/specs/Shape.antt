-- Tables that hold together, whatever drives there are.
use Rattle.std.specs.Prelude.{◌≡◌, true}
use Rattle.mdv_shape.specs.Below.{Table}
use Rattle.mdv_shape.specs.Covered.{are_covered}
use Rattle.mdv_shape.specs.Kinds.{are_below}
use Rattle.mdv_shape.specs.Owners.{HaveOwners}
use Rattle.mdv_shape.specs.Seats.{AreSeats, are_spares}
use Rattle.mdv_shape.specs.Sizes.{are_sized}

pub record IsShaped (t : Table) : Type 0 where
  -- all that is named is there, and of a kind that may lie there
  pub below : are_below t.plan ≡ true
  -- each volume is used once, or by soft partitions
  pub owners : HaveOwners t.plan
  -- lengths and sizes fit each other
  pub sizes : are_sized t.plan ≡ true
  -- a spare has one start and one length in all pools
  pub spares : are_spares t.plan ≡ true
  -- components lie on spares of pools, each on its own
  pub seats : AreSeats t
  -- each block of a mirror has a copy that may be read
  pub copies : are_covered t ≡ true
