-- What an entry of replicas asks for.
use Rattle.std.specs.Prelude.{◌≡◌, ℕ, Bool, List, Some}
use Rattle.mdv_engine.specs.Below.{AddPlaces, IsAllowed, SliceName, listed_by}
use Rattle.mdv_engine.specs.Engine.{case_at}
use Rattle.mdv_engine.specs.declared.engine.Engine.{Engine}

-- the entry of that number that is kept says these, and nothing speaks against them
pub record IsToMake (engine : Engine) (number : ℕ) (force : Bool) (slices : List SliceName) (count blocks : ℕ) : Type 0 where
  pub said : listed_by engine.state.entries number ≡ Some (record { slices = slices; count = count; blocks = blocks })
  pub allowed : IsAllowed (case_at engine) (AddPlaces slices force count blocks)
