-- What a host's drives, its view and its site are of the table of drives that was read.
use Rattle.std.proofs.Common.{◌≡◌, ◌+◌, ℕ, Bool, if◌then◌else◌, List, [], ◌∷◌, Contains, refl, sym, ◌∙◌, ap, subst}
use Rattle.mdv_shelf.specs.Calls.{InDrive}
use Rattle.mdv_shelf.specs.Drives.{AreDrives}
use Rattle.mdv_home.proofs.Owning.{own_lie}
use Rattle.mdv_home.proofs.Places.{slices_within}
use Rattle.mdv_home.proofs.Viewing.{view_is_own}
use Rattle.mdv_home.specs.Drives.{is_own, own_from}
use Rattle.mdv_name.specs.declared.drive_line.DriveKind.{DriveKind}
use Rattle.mdv_name.specs.declared.drive_line.DriveKind.TheVariants.{Mediator, Own, Shared}
use Rattle.mdv_name.specs.declared.drive_line.DriveLine.{DriveLine}
use Rattle.mdv_shown.specs.Sites.{drives_from, is_reached}
use Rattle.mdv_engine_law.specs.Below.{DriveNo, Geometry, HasSlice, Key, Local, Site, SliceAt, SliceName, own_drives, own_view}
use Rattle.mdv_engine_law.specs.declared.host.Host.{Host}
use Rattle.mdv_engine_law.specs.Hosts.{IsReady}

-- the drives that a host's own database reaches are the host's own
reached_own : (name : List ℕ) (kind : DriveKind) → is_reached (Local name) kind ≡ is_own name kind
reached_own name (Own drive owner) = refl
reached_own name (Shared drive) = refl
reached_own name (Mediator other) = refl

reached_from : (name : List ℕ) (n : ℕ) (lines : List DriveLine) → drives_from (Local name) n lines ≡ own_from n name lines
reached_from name n [] = refl
reached_from name n (line ∷ lines) =
    ap (λ (l : List DriveNo). if is_reached (Local name) line.kind then record { 0 = n } ∷ l else l) (reached_from name (n + 1) lines)
    ∙ ap (λ (b : Bool). if b then record { 0 = n } ∷ own_from (n + 1) name lines else own_from (n + 1) name lines) (reached_own name line.kind)

module _ (host : Host) (sizes : List ℕ) (ready : IsReady host sizes) where
  -- so the drives of its site are its own
  pub site_drives : host.site.drives ≡ own_drives ready.table ready.name
  site_drives =
      ap (λ (s : Site). s.drives) ready.site ∙ ap (λ (k : Key). drives_from k 0 host.drives.drives) ready.key ∙ ap (λ (g : Geometry). drives_from (Local ready.name) 0 g.drives) ready.view ∙ reached_from ready.name 0 ready.table.drives

  seen : (name : SliceName) (at : SliceAt) → HasSlice host.drives.slices name at → HasSlice (own_view ready.table ready.name).slices name at
  seen name at is = subst (λ (g : Geometry). HasSlice g.slices name at) ready.view is

  -- a slice that the host sees is one of the table's, on one of its own drives
  pub has_slice : (name : SliceName) (at : SliceAt) → HasSlice host.drives.slices name at → HasSlice ready.table.slices name at
  has_slice name at has = ((view_is_own.seen ready.table ready.name name at).0 (seen name at has)).0

  pub on_own : (name : SliceName) (at : SliceAt) → HasSlice host.drives.slices name at → Contains host.site.drives at.drive
  on_own name at has = subst (λ (drives : List DriveNo). Contains drives at.drive) (sym site_drives) ((view_is_own.seen ready.table ready.name name at).0 (seen name at has)).1

  -- it lies within its drive
  pub in_drive : (name : SliceName) (at : SliceAt) → HasSlice host.drives.slices name at → InDrive sizes at.drive.0 at.start at.blocks
  in_drive name at has = subst (λ (s : List ℕ). InDrive s at.drive.0 at.start at.blocks) (sym ready.drives) (slices_within ready.text ready.table name at ready.read (has_slice name at has))

  -- so are its own drives
  pub own_drives_lie : AreDrives sizes host.site.drives
  own_drives_lie = subst (λ (drives : List DriveNo). AreDrives sizes drives) (sym site_drives)
      (subst (λ (s : List ℕ). AreDrives s (own_drives ready.table ready.name)) (sym ready.drives) (own_lie ready.text ready.table ready.name ready.read))
