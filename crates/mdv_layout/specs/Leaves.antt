-- Leaves: the components of a volume as runs of drives.
use Rattle.std.specs.Prelude.{◌+◌, ◌≤◌, ◌^◌, Option, None, Some}
use Rattle.mdv_layout.specs.Below.{Base, Component, Geometry, Map, Slice, SliceAt, Volume, run_map, slice_at}
use Rattle.mdv_layout.specs.declared.leaf.Leaf.{Leaf}

-- where its blocks lie
abbrev pub leaf_map : Leaf → Map
leaf_map leaf = run_map leaf.run.drive.0 leaf.run.first leaf.run.count

-- it ends within 2 ^ 40 blocks of its drive, as slices do
abbrev pub IsLeaf : Leaf → Type 0
IsLeaf leaf = leaf.run.first + leaf.run.count ≤ 2 ^ 40

-- a leaf without a block: it stands for a component whose slice isn't there, as no row of a table of a geometry has one
abbrev pub no_leaf : Leaf
no_leaf = record { run = record { drive = record { 0 = 0 }; first = 0; count = 0 } }

-- a component of the slice that lies there
abbrev pub leaf_in : Option SliceAt → Component → Leaf
leaf_in None c = no_leaf
leaf_in (Some at) c = record { run = record { drive = at.drive; first = at.start + c.start; count = c.blocks } }

abbrev pub leaf_on : Geometry → Component → Base → Leaf
leaf_on g c (Slice slice) = leaf_in (slice_at g.slices slice) c
leaf_on g c (Volume volume) = no_leaf

-- the component as a leaf
abbrev pub leaf_of : Geometry → Component → Leaf
leaf_of g c = leaf_on g c c.on
