-- The words and the table of drives that a run is given.
use Rattle.std.specs.Prelude.{◌≡◌, ℕ, List, [], ◌∷◌, Contains}
use Rattle.mdv_home.specs.Drives.{sizes_of}
use Rattle.mdv_run_law.specs.Below.{Geometry, IsGeometry as IsTable}

-- the words are the name of a host alone, the text is a table of drives that has the host, and the shelf has its drives
pub record IsUsed (words : List (List ℕ)) (text : List ℕ) (sizes : List ℕ) (drives : Geometry) (name : List ℕ) : Type 0 where
  pub host : words ≡ name ∷ []
  pub table : IsTable text drives
  pub one_of : Contains drives.hosts name
  pub shelf : sizes ≡ sizes_of drives
