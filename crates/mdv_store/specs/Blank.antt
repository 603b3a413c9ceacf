-- Databases that show no table.
use Rattle.std.specs.Prelude.{◌≡◌}
use Rattle.mdv_standing.specs.Laws.{ShowsNoTable}
use Rattle.mdv_store.specs.Below.{Everywhere, Geometry, Identity, Key, Tale, site_of}
use Rattle.mdv_store.specs.Records.{Spells}

-- whatever a crash leaves, no replica of the database with this identity shows a table
abbrev pub IsBlank : Geometry → Key → Identity → Tale → Type 0
IsBlank g key identity = Everywhere (ShowsNoTable (Spells g) (site_of g key) identity)

-- each database, of whatever key, that showed no table beside the one with this identity shows none
abbrev pub StayBlank : Geometry → Identity → Tale → Tale → Type 0
StayBlank g identity t m = (key : Key) (other : Identity) → (other ≡ identity → ⊥) → IsBlank g key other t → IsBlank g key other m
