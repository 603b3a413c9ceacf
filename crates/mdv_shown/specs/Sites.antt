-- The site of a database, by the table of drives: which of its slices take replicas, and which drives a boot brings up.
use Rattle.std.specs.Prelude.{◌+◌, ◌==◌, ◌&&◌, ℕ, Bool, true, false, not, nat_le, if◌then◌else◌, List, [], ◌∷◌, map, filter, slice_get, Option, None, Some, Contains}
use Rattle.std.specs.Str.{bytes_eq}
use Rattle.mdv_base.specs.declared.drive.SliceName.{SliceName}
use Rattle.mdv_base.specs.declared.name.Key.TheVariants.{Local, Set}
use Rattle.mdv_name.specs.Sound.{IsSound}
use Rattle.mdv_name.specs.declared.drive_line.DriveKind.{DriveKind}
use Rattle.mdv_name.specs.declared.drive_line.DriveKind.TheVariants.{Own, Shared, Mediator}
use Rattle.mdv_name.specs.declared.drive_line.DriveLine.{DriveLine}
use Rattle.mdv_name.specs.declared.geometry.Geometry.{Geometry}
use Rattle.mdv_plan.specs.Slices.{meets_db}
use Rattle.mdv_shown.specs.Below.{DriveNo, Key, SliceLine}
use Rattle.mdv_shown.specs.Site.{Site, IsSite}

-- a drive on which replicas of the database may lie: of a host's own database one of the host's, of a set one that all hosts reach
abbrev pub is_reached : Key → DriveKind → Bool
is_reached (Local host) (Own drive owner) = bytes_eq owner host
is_reached (Local host) (Shared drive) = false
is_reached (Local host) (Mediator other) = false
is_reached (Set name) (Own drive owner) = false
is_reached (Set name) (Shared drive) = true
is_reached (Set name) (Mediator other) = false

abbrev pub is_reached_line : Key → Option DriveLine → Bool
is_reached_line key None = false
is_reached_line key (Some line) = is_reached key line.kind

-- the drive of this number is such a one
abbrev pub is_reached_at : Geometry → Key → ℕ → Bool
is_reached_at g key drive = is_reached_line key (slice_get g.drives drive)

-- of a set the slices 7 alone
abbrev pub is_slice_of : Key → SliceName → Bool
is_slice_of (Local host) name = true
is_slice_of (Set other) name = name.slice == 7

-- It is set aside for replicas, has the blocks of a least one, and shares none with another slice that is set aside.
abbrev pub takes_replicas : Geometry → SliceLine → Bool
takes_replicas g line = (line.at.db && nat_le 32 line.at.blocks) && not (meets_db g line.name)

abbrev pub is_line_of : Geometry → Key → SliceLine → Bool
is_line_of g key line = (is_slice_of key line.name && is_reached_at g key line.at.drive.0) && takes_replicas g line

abbrev pub lines_of : Geometry → Key → List SliceLine
lines_of g key = filter (is_line_of g key) g.slices

-- the numbers of these drives, where the first one has this number
abbrev pub drives_from : Key → ℕ → List DriveLine → List DriveNo
drives_from key n [] = []
drives_from key n (line ∷ lines) = if is_reached key line.kind then record { 0 = n } ∷ drives_from key (n + 1) lines else drives_from key (n + 1) lines

abbrev pub site_of : Geometry → Key → Site
site_of g key = record {
  key = key;
  lines = lines_of g key;
  drives = drives_from key 0 g.drives;
  sizes = map (λ (line : DriveLine). line.blocks) g.drives;
}

-- The site of each database of a sound table is one, and each of its slices lies on a drive that is brought up.
pub record SitesAre : Type 0 where
  pub sites : (g : Geometry) (key : Key) → IsSound g → IsSite (site_of g key)
  pub brought : (g : Geometry) (key : Key) (line : SliceLine) → Contains (site_of g key).lines line → Contains (site_of g key).drives line.at.drive
