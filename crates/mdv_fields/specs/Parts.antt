-- The texts of the parts of volumes and pools. Numbers are big-endian.
use Rattle.std.specs.Prelude.{◌≡◌, ◌<◌, ◌^◌, ℕ, List, [], ◌∷◌, ◌++◌, length, Option, None, Some, IfSome}
use Rattle.mdv_fields.specs.Numbers.{u32_text, u64_text}
use Rattle.mdv_fields.specs.Below.{SliceName, Place, Run, Base, Slice, Volume, Component, Spare, SpareUse, PartStatus, State}
use Rattle.mdv_fields.specs.Names.{slice_text, SliceFits, VolumeIdFits}
use Rattle.mdv_plan.specs.declared.status.RaidState.{RaidState}
use Rattle.mdv_plan.specs.declared.status.RaidState.TheVariants.{Okay as Made, Initializing, Keeping}
use Rattle.mdv_plan.specs.declared.status.Resync.TheVariants.{Whole, Regions}
use Rattle.mdv_plan.specs.declared.status.SpareState.{SpareState}
use Rattle.mdv_plan.specs.declared.status.SpareState.TheVariants.{Available, InUse, Broken}
use Rattle.mdv_plan.specs.declared.status.State.TheVariants.{Okay, Resyncing, Maintenance, LastErred}
use Rattle.mdv_plan.specs.declared.volume.ReadOption.{ReadOption}
use Rattle.mdv_plan.specs.declared.volume.ReadOption.TheVariants.{InTurn, Geometric, First}
use Rattle.mdv_plan.specs.declared.volume.WriteOption.{WriteOption}
use Rattle.mdv_plan.specs.declared.volume.WriteOption.TheVariants.{Parallel, Serial}

-- slice, start and blocks
abbrev pub place_text : Place → List ℕ
place_text p = slice_text p.slice ++ (u32_text p.start ++ u32_text p.blocks)

abbrev pub PlaceFits : Place → Type 0
PlaceFits p = SliceFits p.slice × ((p.start < 256 ^ 4) × (p.blocks < 256 ^ 4))

-- first block and blocks
abbrev pub run_text : Run → List ℕ
run_text r = u64_text r.at ++ u64_text r.blocks

abbrev pub RunFits : Run → Type 0
RunFits r = (r.at < 256 ^ 8) × (r.blocks < 256 ^ 8)

-- a slice, or a volume as a number of four bytes
abbrev pub base_text : Base → List ℕ
base_text (Slice s) = 0 ∷ slice_text s
base_text (Volume v) = 1 ∷ u32_text v.0

abbrev pub BaseFits : Base → Type 0
BaseFits (Slice s) = SliceFits s
BaseFits (Volume v) = VolumeIdFits v

-- base, start and blocks
abbrev pub component_text : Component → List ℕ
component_text c = base_text c.on ++ (u64_text c.start ++ u64_text c.blocks)

abbrev pub ComponentFits : Component → Type 0
ComponentFits c = BaseFits c.on × ((c.start < 256 ^ 8) × (c.blocks < 256 ^ 8))

-- a state, and what is copied while it resyncs
abbrev pub state_text : State → List ℕ
state_text Okay = 0 ∷ 0 ∷ []
state_text (Resyncing Whole) = 1 ∷ 1 ∷ []
state_text (Resyncing Regions) = 1 ∷ 2 ∷ []
state_text Maintenance = 2 ∷ 0 ∷ []
state_text LastErred = 3 ∷ 0 ∷ []

-- a flag, a slice and a start, all zero without a spare
abbrev pub spare_flag : Option SpareUse → ℕ
spare_flag None = 0
spare_flag (Some s) = 1

abbrev pub no_slice : SliceName
no_slice = record { drive = record { controller = 0; target = 0; disk = 0 }; slice = 0 }

abbrev pub spare_slice : Option SpareUse → SliceName
spare_slice None = no_slice
spare_slice (Some s) = s.slice

abbrev pub spare_start : Option SpareUse → ℕ
spare_start None = 0
spare_start (Some s) = s.start

abbrev pub spare_use_text : Option SpareUse → List ℕ
spare_use_text o = spare_flag o ∷ (slice_text (spare_slice o) ++ u64_text (spare_start o))

abbrev pub SpareUseFits : Option SpareUse → Type 0
SpareUseFits o = IfSome o (λ s. SliceFits s.slice × (s.start < 256 ^ 8))

abbrev pub part_status_text : PartStatus → List ℕ
part_status_text p = state_text p.state ++ spare_use_text p.spare

abbrev pub PartStatusFits : PartStatus → Type 0
PartStatusFits p = SpareUseFits p.spare

-- slice, start and blocks
abbrev pub spare_text : Spare → List ℕ
spare_text s = slice_text s.slice ++ (u64_text s.start ++ u64_text s.blocks)

abbrev pub SpareFits : Spare → Type 0
SpareFits s = SliceFits s.slice × ((s.start < 256 ^ 8) × (s.blocks < 256 ^ 8))

abbrev pub spare_state_text : SpareState → List ℕ
spare_state_text Available = 0 ∷ []
spare_state_text InUse = 1 ∷ []
spare_state_text Broken = 2 ∷ []

abbrev pub raid_state_text : RaidState → List ℕ
raid_state_text Made = 0 ∷ []
raid_state_text Initializing = 1 ∷ []
raid_state_text Keeping = 2 ∷ []

abbrev pub read_text : ReadOption → List ℕ
read_text InTurn = 0 ∷ []
read_text Geometric = 1 ∷ []
read_text First = 2 ∷ []

abbrev pub write_text : WriteOption → List ℕ
write_text Parallel = 0 ∷ []
write_text Serial = 1 ∷ []

-- a bit of each of 1024 regions
abbrev pub AreRegions : List ℕ → Type 0
AreRegions bytes = length bytes ≡ 128
