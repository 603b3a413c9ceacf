-- Why a change isn't made, and which changes there are.
use Rattle.std.specs.Prelude.{ℕ, ◌≡◌, ◌<◌, List, Option, None, Some, Result, Ok, Err, Bool}
use Rattle.mdv_change.specs.Below.{Refusal, DriveNo, Geometry, Table, VolId, PoolId, RaidAsked, RowAsked, MirrorAsked, SoftAsked, SliceName, Meant, Base}
use Rattle.mdv_change.specs.declared.making.ApplyFault.{ApplyFault}
use Rattle.mdv_change.specs.declared.making.ApplyFault.TheVariants.{Refused, Memory}
use Rattle.mdv_change.specs.Change.{refusal_of, table_after}
use Rattle.mdv_change.specs.declared.change.Change.{Change}
use Rattle.mdv_change.specs.declared.change.Change.TheVariants.{MakeStripe, MakeRaid, MakeMirror, MakeSoft, Attach, Detach, Offline, Online, EnablePart, ReplacePart, AddRow, Grow, AddSpares, AddSparesToAll, DeleteSpares, ReplaceSpare, EnableSpares, Clear, ClearBelow}

-- what refuses the change, or want of memory, which has no cause
abbrev pub HasFault : Option Refusal → ApplyFault → Type 0
HasFault refusal (Refused r) = refusal ≡ Some r
HasFault refusal Memory = Unit {0}

-- the numbers of new volumes and pools are below the limits
abbrev pub IsNumbered : Change → Type 0
IsNumbered (MakeStripe v rows pool) = v.0 < 8192
IsNumbered (MakeRaid v raid) = v.0 < 8192
IsNumbered (MakeMirror v mirror) = v.0 < 8192
IsNumbered (MakeSoft v asked) = v.0 < 8192
IsNumbered (AddSpares q new slices) = q.0 < 1000
IsNumbered _ = Unit {0}

abbrev pub stripe_change : VolId → List RowAsked → Option PoolId → Change
stripe_change v rows pool = MakeStripe v rows pool

abbrev pub raid_change : VolId → RaidAsked → Change
raid_change v raid = MakeRaid v raid

abbrev pub mirror_change : VolId → MirrorAsked → Change
mirror_change v mirror = MakeMirror v mirror

abbrev pub soft_change : VolId → SoftAsked → Change
soft_change v asked = MakeSoft v asked

abbrev pub attach_change : VolId → VolId → Change
attach_change mirror sub = Attach mirror sub

abbrev pub detach_change : VolId → VolId → Bool → Change
detach_change mirror sub force = Detach mirror sub force

abbrev pub offline_change : VolId → VolId → Change
offline_change mirror sub = Offline mirror sub

abbrev pub online_change : VolId → VolId → Change
online_change mirror sub = Online mirror sub

abbrev pub enable_part_change : VolId → Base → Change
enable_part_change v part = EnablePart v part

abbrev pub replace_part_change : VolId → Base → Base → Change
replace_part_change v old new = ReplacePart v old new

abbrev pub row_change : VolId → RowAsked → Change
row_change v row = AddRow v row

abbrev pub grow_change : VolId → ℕ → Change
grow_change v blocks = Grow v blocks

abbrev pub spares_change : PoolId → Bool → List SliceName → Change
spares_change q new slices = AddSpares q new slices

abbrev pub delete_change : Meant → List SliceName → Change
delete_change pools slices = DeleteSpares pools slices

abbrev pub all_change : List SliceName → Change
all_change slices = AddSparesToAll slices

abbrev pub replace_change : Meant → SliceName → SliceName → Change
replace_change pools old new = ReplaceSpare pools old new

abbrev pub enable_change : List SliceName → Change
enable_change slices = EnableSpares slices

abbrev pub below_change : List VolId → List PoolId → Change
below_change volumes pools = ClearBelow volumes pools

abbrev pub clear_change : List VolId → List PoolId → Change
clear_change volumes pools = Clear volumes pools

-- nothing refuses the change, and the table is the one after it
pub record IsMade (g : Geometry) (drives : List DriveNo) (change : Change) (old new : Table) : Type 0 where
  pub allowed : refusal_of g drives old change ≡ None
  pub after : new ≡ table_after g old change

-- the fault has its cause, and the table is as it was
pub record IsUnmade (g : Geometry) (drives : List DriveNo) (change : Change) (old new : Table) (fault : ApplyFault) : Type 0 where
  pub cause : HasFault (refusal_of g drives old change) fault
  pub same : new ≡ old

abbrev pub IsApplied : {T : Type 0} → Geometry → List DriveNo → Change → Table → Table → Result T ApplyFault → Type 0
IsApplied g drives change old new (Ok done) = IsMade g drives change old new
IsApplied g drives change old new (Err fault) = IsUnmade g drives change old new fault
