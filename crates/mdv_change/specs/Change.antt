-- Which causes refuse a change, and the table after it.
use Rattle.std.specs.Prelude.{Bool, false, true, List, Option, None, Some}
use Rattle.std.specs.Option.{option_map}
use Rattle.mdv_change.specs.Below.{Refusal, DriveNo, Geometry, Table, OneVolume, VolumeStatus, with_item, with_put}
use Rattle.mdv_change.specs.Below.{Cause, Carried, order, first_of, nothing, told, stripe_condition, stripe_on, stripe_status, raid_condition, raid_on, raid_status}
use Rattle.mdv_change.specs.declared.change.Change.{Change}
use Rattle.mdv_change.specs.declared.change.Change.TheVariants.{MakeStripe, MakeRaid, MakeMirror, MakeSoft, Attach, Detach, Offline, Online, EnablePart, ReplacePart, AddRow, Grow, AddSpares, AddSparesToAll, DeleteSpares, ReplaceSpare, EnableSpares, Clear, ClearBelow, ClearAll}
use Rattle.mdv_change.specs.Below.{carried_of, soft_condition, soft_on, soft_room, soft_status, grow_condition, grown, grown_room}
use Rattle.mdv_change.specs.Below.{VolId, Plan, RowAsked, row_on, add_condition, added_states, filled, rows_of, with_row}
use Rattle.mdv_change.specs.Below.{SliceName, Pool, spares_condition, pool_with, spare_states}
use Rattle.mdv_change.specs.Below.{mirror_condition, mirror_on, mirror_status, all_joined, noted, attach_condition, with_sub, attach_states, volume_of, changed}
use Rattle.mdv_change.specs.Below.{all_condition, spares_added, replace_condition, spare_replaced}
use Rattle.mdv_change.specs.Below.{StateWord, Absent, delete_condition, spares_deleted, enable_condition, unbroken_word}
use Rattle.mdv_change.specs.Below.{detach_condition, offline_condition, online_condition, without_sub, detach_states, online_states, online_word, sub_word, switched}
use Rattle.mdv_change.specs.Below.{Base, enable_part_condition, replace_part_condition, told_word, freed_spares, part_states, renewed_volume}
use Rattle.mdv_change.specs.Clear.{clear_condition, cleared, emptied, given_back}
use Rattle.mdv_change.specs.Levels.{with_levels}

-- a stripe behind those of the volume, with its interlace
abbrev pub row_behind : Plan → VolId → RowAsked → RowAsked
row_behind p v r = filled (rows_of p v) r

-- whether a cause refuses the change
abbrev pub condition : Geometry → List DriveNo → Table → Change → Cause → Bool
condition g drives t (MakeStripe v rows pool) = stripe_condition g drives t.plan v rows pool
condition g drives t (MakeRaid v raid) = raid_condition g drives t.plan v raid
condition g drives t (MakeMirror v mirror) = mirror_condition t.plan v mirror.submirrors
condition g drives t (MakeSoft v asked) = soft_condition g drives t v asked
condition g drives t (Attach mirror sub) = attach_condition t.plan mirror sub
condition g drives t (Detach mirror sub force) = detach_condition t mirror sub force
condition g drives t (Offline mirror sub) = offline_condition t mirror sub
condition g drives t (Online mirror sub) = online_condition t mirror sub
condition g drives t (EnablePart v part) = enable_part_condition g drives t v part
condition g drives t (ReplacePart v old new) = replace_part_condition g drives t v old new
condition g drives t (AddRow v r) = add_condition g drives t.plan v (row_behind t.plan v r)
condition g drives t (Grow v blocks) = grow_condition g t v blocks
condition g drives t (AddSpares q new slices) = spares_condition g drives t.plan new q slices
condition g drives t (AddSparesToAll slices) = all_condition g drives t.plan slices
condition g drives t (DeleteSpares pools slices) = delete_condition g drives t pools slices
condition g drives t (ReplaceSpare pools old new) = replace_condition g drives t pools old new
condition g drives t (EnableSpares slices) = enable_condition g drives t.status.spares slices
condition g drives t (Clear volumes pools) = clear_condition t volumes pools
condition g drives t (ClearBelow volumes pools) = clear_condition t (with_levels t.plan volumes) pools
condition g drives t ClearAll = λ cause. false

-- a state that is told
abbrev pub of_state : StateWord → Carried
of_state state = record { state = state; blocks = 0 }

-- what its refusal tells beside the name
abbrev pub carried : Geometry → Table → Change → Carried
carried g t (MakeSoft v asked) = carried_of (soft_room g t.plan asked)
carried g t (Grow v blocks) = carried_of (grown_room g t.plan v blocks)
carried g t (Detach mirror sub force) = of_state (sub_word t mirror sub)
carried g t (Offline mirror sub) = of_state (sub_word t mirror sub)
carried g t (Online mirror sub) = of_state (online_word t mirror sub)
carried g t (EnablePart v part) = of_state (told_word t v part true)
carried g t (ReplacePart v old new) = of_state (told_word t v old false)
carried g t (DeleteSpares pools slices) = of_state Absent
carried g t (ReplaceSpare pools old new) = of_state Absent
carried g t (EnableSpares slices) = of_state (unbroken_word t.status.spares slices)
carried g t _ = nothing

-- why the change is refused, if it is
abbrev pub refusal_of : Geometry → List DriveNo → Table → Change → Option Refusal
refusal_of g drives t change = option_map (told (carried g t change)) (first_of (condition g drives t change) order)

-- one volume more, with its states
abbrev pub with_volume : OneVolume → VolumeStatus → Table → Table
with_volume v s t =
    record {
      plan = record t.plan { volumes = with_item (λ w. w.number.0) v t.plan.volumes };
      status = record t.status { volumes = with_put (λ w. w.number.0) s t.status.volumes };
    }

-- one volume in the place of that of its number
abbrev pub with_changed : Option OneVolume → Table → Table
with_changed None t = t
with_changed (Some v) t = record t { plan = record t.plan { volumes = changed (λ w. w.number.0) v t.plan.volumes } }

-- these states, each in the place of that of its volume
abbrev pub with_states : List VolumeStatus → Table → Table
with_states states t = record t { status = record t.status { volumes = noted t.status.volumes states } }

-- the pool in the place of that of its number, or one more, and a state for each of the slices
abbrev pub with_pool : Pool → List SliceName → Table → Table
with_pool q slices t =
    record {
      plan = record t.plan { pools = with_put (λ r. r.number.0) q t.plan.pools };
      status = record t.status { spares = spare_states t.status.spares slices };
    }

-- the volume has one stripe more, and states for its components
abbrev pub row_added : Geometry → Table → VolId → RowAsked → Table
row_added g t v r = with_states (added_states t.status v r) (with_changed (option_map (with_row (row_on g t.plan r)) (volume_of t.plan v)) t)

-- these spares are Available
abbrev pub spares_enabled : List SliceName → Table → Table
spares_enabled slices t = record t { status = record t.status { spares = given_back t.status.spares slices } }

-- the component is copied whole, and the spare on which it lay is Available
abbrev pub part_enabled : Table → VolId → Base → Table
part_enabled t v part = spares_enabled (freed_spares t v part) (with_states (part_states t v part) t)

-- the same, with the new component in the place of the old one
abbrev pub part_replaced : Geometry → Table → VolId → Base → Base → Table
part_replaced g t v old new = spares_enabled (freed_spares t v old) (with_states (part_states t v old) (with_changed (renewed_volume g t.plan v old new) t))

abbrev pub table_after : Geometry → Table → Change → Table
table_after g t (MakeStripe v rows pool) = with_volume (stripe_on g t.plan v rows pool) (stripe_status v rows) t
table_after g t (MakeRaid v raid) = with_volume (raid_on g t.plan v raid) (raid_status v raid) t
table_after g t (MakeMirror v mirror) = with_states (all_joined t.status mirror.submirrors) (with_volume (mirror_on t.plan v mirror) (mirror_status v mirror.submirrors) t)
table_after g t (MakeSoft v asked) = with_volume (soft_on g t.plan v asked.base (soft_room g t.plan asked)) (soft_status v) t
table_after g t (Attach mirror sub) = with_states (attach_states t.status mirror sub) (with_changed (option_map (with_sub sub) (volume_of t.plan mirror)) t)
table_after g t (Detach mirror sub force) = with_states (detach_states t mirror sub) (with_changed (option_map (without_sub sub) (volume_of t.plan mirror)) t)
table_after g t (Offline mirror sub) = with_states (switched t mirror sub true) t
table_after g t (Online mirror sub) = with_states (online_states t mirror sub) t
table_after g t (EnablePart v part) = part_enabled t v part
table_after g t (ReplacePart v old new) = part_replaced g t v old new
table_after g t (AddRow v r) = row_added g t v (row_behind t.plan v r)
table_after g t (Grow v blocks) = with_changed (option_map (grown (grown_room g t.plan v blocks)) (volume_of t.plan v)) t
table_after g t (AddSpares q new slices) = with_pool (pool_with g t.plan q slices) slices t
table_after g t (AddSparesToAll slices) = spares_added g slices t
table_after g t (DeleteSpares pools slices) = spares_deleted pools slices t
table_after g t (ReplaceSpare pools old new) = spare_replaced g pools old new t
table_after g t (EnableSpares slices) = spares_enabled slices t
table_after g t (Clear volumes pools) = cleared volumes pools t
table_after g t (ClearBelow volumes pools) = cleared (with_levels t.plan volumes) pools t
table_after g t ClearAll = emptied t
