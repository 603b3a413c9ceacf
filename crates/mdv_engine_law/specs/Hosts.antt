-- A host: what it sees of the table of drives, where its database's replicas may lie, and the blocks that its run may touch.
use Rattle.std.specs.Prelude.{◌≡◌, ◌<◌, ◌+◌, ◌*◌, ◌^◌, ℕ, List, [], ◌∷◌, filter, filter_map, Option, Some, None, Contains}
use Rattle.std.specs.List.{flat_map, list_any}
use Rattle.mdv_home.specs.View.{own_view}
use Rattle.mdv_layout_law.specs.Laid.{plain_area}
use Rattle.mdv_places.specs.Moments.{found_at, master_area}
use Rattle.mdv_store_law.specs.Changes.{is_on}
use Rattle.mdv_config.specs.Lists.{last_of}
use Rattle.mdv_name.specs.SliceIndex.{slice_at}
use Rattle.mdv_engine_law.specs.Below.{Area, Geometry, Identity, IsGeometry, IsOnShelf, IsSound, Key, KeptOutside, Local, Opened, Place, PlaceAt, Replicas, SliceAt, SliceLine, SliceName, Tale, joined, nowhere, range, seats_area, site_area, site_of, sizes_of}
use Rattle.mdv_engine_law.specs.declared.host.Host.{Host}

-- the key of the host's own database
abbrev pub key_of : Host → Key
key_of host = host.site.key

-- the line of that slice, where there is one
abbrev pub line_at : SliceName → Option SliceAt → List SliceLine
line_at slice None = []
line_at slice (Some at) = record { name = slice; at = at } ∷ []

abbrev pub lines_asked : Host → List SliceName → List SliceLine
lines_asked host slices = flat_map (λ slice. line_at slice (slice_at host.drives.slices slice)) slices

-- the blocks of so many replicas of so many blocks each, on each of these slices
abbrev pub places_area : List SliceLine → ℕ → ℕ → Area
places_area lines count blocks drive block = list_any (λ (line : SliceLine). range line.at.drive.0 (line.at.start + 16) (count * blocks) drive block) lines

-- those that an entry says
abbrev pub listed_area : Host → Option Replicas → Area
listed_area host None = nowhere
listed_area host (Some r) = places_area (lines_asked host r.slices) r.count r.blocks

-- those of the active places of the open database, and none where no database is
abbrev pub opened_area : Option Opened → Area
opened_area (Some o) = seats_area o.seats
opened_area None = nowhere

-- the masters of these places, as their slices lie by the table of drives
abbrev pub masters_area : Geometry → List Place → Area
masters_area g places drive block = list_any (λ (at : PlaceAt). master_area at drive block) (filter_map (λ (p : Place). found_at p (slice_at g.slices p.slice)) places)

-- those of the open database's places on these slices
abbrev pub dropped_area : Geometry → Option Opened → List SliceName → Area
dropped_area g (Some o) slices = masters_area g (filter (is_on slices) (last_of o.table.plan.lists))
dropped_area g None slices = nowhere

-- the blocks that a run of the host may touch: those where its replicas may lie, and those of the slices that it sees on which volumes may lie
abbrev pub host_area : Host → Area
host_area host = joined (site_area host.site) (plain_area host.drives)

-- each block elsewhere is kept: it reads as it did, no crash leaves there what it might not have left before, and no write took it
abbrev pub StaysHome : Host → Tale → Tale → Type 0
StaysHome host t m = KeptOutside (host_area host) t m

-- the identity of the database that the run's creation of this number made
abbrev pub identity_of : Host → ℕ → Identity
identity_of host number = record { fresh = host.fresh; number = number }

-- A table of drives was read, of whose hosts this is one; it sees of it the slices on its own drives, and knows these, and where its replicas may lie; the drives are
-- the table's, and the word of the identities fits its type.
pub record IsReady (host : Host) (sizes : List ℕ) : Type 0 where
  pub table : Geometry
  pub text : List ℕ
  pub read : IsGeometry text table
  pub name : List ℕ
  pub one_of : Contains table.hosts name
  pub key : key_of host ≡ Local name
  pub view : host.drives ≡ own_view table name
  pub site : host.site ≡ site_of host.drives (key_of host)
  pub sound : IsSound host.drives
  pub on_shelf : IsOnShelf sizes host.site
  pub fresh : host.fresh < 2 ^ 64
  pub drives : sizes ≡ sizes_of table
