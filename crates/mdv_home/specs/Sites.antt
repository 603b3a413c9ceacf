-- Where a host's own database may have its replicas: on slices of the host's own drives.
use Rattle.std.specs.Prelude.{◌≡◌, ℕ, List}
use Rattle.mdv_base.specs.declared.name.Key.TheVariants.{Local}
use Rattle.mdv_name.specs.declared.geometry.Geometry.{Geometry}
use Rattle.mdv_name.specs.Geometry.{IsGeometry as IsTable}
use Rattle.mdv_name.specs.Sound.{IsSound}
use Rattle.mdv_shown.specs.Sites.{site_of}
use Rattle.mdv_survey.specs.Replica.{IsOnShelf}
use Rattle.mdv_home.specs.Drives.{own_drives, sizes_of}
use Rattle.mdv_home.specs.View.{own_view}

-- A boot brings up the host's own drives. Of a sound table the host's view says where the replicas may lie; and of one that was read, they lie there within their drives.
pub record SitesAreOwn : Type 0 where
  pub drives : (table : Geometry) (host : List ℕ) → (site_of table (Local host)).drives ≡ own_drives table host
  pub seen : (table : Geometry) (host : List ℕ) → IsSound table → site_of (own_view table host) (Local host) ≡ site_of table (Local host)
  pub on_shelf : (text : List ℕ) (table : Geometry) (host : List ℕ) → IsTable text table → IsOnShelf (sizes_of table) (site_of table (Local host))
