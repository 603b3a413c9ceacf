-- Where a volume lies whose blocks are read and written: within the drives.
use Rattle.std.specs.Prelude.{ℕ, ◌+◌, ◌≤◌, List}
use Rattle.mdv_layout.specs.Layouts.{IsLayout, layout_map}
use Rattle.mdv_layout.specs.declared.layout.Layout.{Layout}
use Rattle.mdv_map.specs.Maps.{IsDisjoint}
use Rattle.mdv_engine.specs.Below.{Host, IsOn, IsReady}

-- so many blocks of it, from that one on, are its own; no two share a block of a drive, and each lies on the drives of a host that is ready
pub record IsPlacedIn (host : Host) (at count : ℕ) (layout : Layout) : Type 0 where
  pub well : IsLayout layout
  pub room : at + count ≤ (layout_map layout).blocks
  pub apart : IsDisjoint (layout_map layout)
  pub lies : (sizes : List ℕ) → IsReady host sizes → IsOn sizes (layout_map layout)
