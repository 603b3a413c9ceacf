-- A boot of a key of which no replica shows a table.
use Rattle.std.specs.Prelude.{List}
use Rattle.mdv_base.specs.DriveSet.{Drives}
use Rattle.mdv_look.specs.Quiet.{WritesNothing}
use Rattle.mdv_store.specs.Booting.{BootMomentOn, IsBootedOn}
use Rattle.mdv_store.specs.declared.booting.BootEnd.{BootEnd}
use Rattle.mdv_databases.specs.Below.{Database, Geometry, Key, Opened, Tale, last, site_of}
use Rattle.mdv_databases.specs.Booting.{MeetsStale}
use Rattle.mdv_databases.specs.Lasting.{HasNoTable}

pub record BlankBootsGo : Type 0 where
  -- by each moment it has written nothing, so still none shows one
  pub unwritten : (up : Drives) (g : Geometry) (key : Key) (answer : BootEnd) (t m : Tale) → HasNoTable g key t → BootMomentOn up g (site_of g key) answer t m → WritesNothing t m
  pub blank : (up : Drives) (g : Geometry) (key : Key) (answer : BootEnd) (t m : Tale) → HasNoTable g key t → BootMomentOn up g (site_of g key) answer t m → HasNoTable g key m
  -- it adopts none
  pub closed : (up : Drives) (g : Geometry) (key : Key) (o : Opened) (t u : Tale) → HasNoTable g key t → IsBootedOn up g (site_of g key) o t u → ⊥
  -- and meets no stale vote, whatever drives it reads
  pub stale : (up : Drives) (g : Geometry) (all : List Database) (key : Key) (t : Tale) → HasNoTable g key t → MeetsStale up g all key (last t) → ⊥
