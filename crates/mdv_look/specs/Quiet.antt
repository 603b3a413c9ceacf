-- What a stretch of calls leaves alone.
use Rattle.std.specs.Prelude.{◌≡◌}
use Rattle.mdv_look.specs.Below.{Area, KeptOutside, Tale, nowhere, told}

-- nothing is told, and no block changes outside the area
pub record IsQuiet (area : Area) (t m : Tale) : Type 0 where
  pub outside : KeptOutside area t m
  pub quiet : told m ≡ told t

-- nothing is told, and no block is written
abbrev pub WritesNothing : Tale → Tale → Type 0
WritesNothing = IsQuiet nowhere
