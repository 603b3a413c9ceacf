-- The making of a RAID-5 volume: what refuses it, and what the volume is.
use Rattle.std.specs.Prelude.{ℕ, ◌+◌, ◌-◌, ◌*◌, ◌/◌, ◌==◌, Bool, false, nat_lt, List, length, map, if◌then◌else◌}
use Rattle.mdv_components.specs.Below.{DriveNo, VolId, Geometry, Plan, OneVolume, Raid, VolumeStatus}
use Rattle.mdv_plan.specs.declared.status.KindStatus.TheVariants.{Raid as RaidStatus}
use Rattle.mdv_plan.specs.declared.status.RaidState.TheVariants.{Initializing, Keeping}
use Rattle.mdv_components.specs.declared.cause.Cause.{Cause}
use Rattle.mdv_components.specs.declared.cause.Cause.TheVariants.{TooFew, TooMany, BadInterlace, TooSmall}
use Rattle.mdv_components.specs.declared.asked.RaidAsked.{RaidAsked}
use Rattle.mdv_components.specs.Bases.{base_condition}
use Rattle.mdv_components.specs.Room.{interlace_of, is_bad_interlace, least_room, component_on, okay_part}

abbrev pub raid_interlace : RaidAsked → ℕ
raid_interlace r = interlace_of r.interlace

-- how many interlaces each column holds behind the 136 blocks for prewrites
abbrev pub units_of : Geometry → Plan → RaidAsked → ℕ
units_of g p r = (least_room g p r.columns - 136) / raid_interlace r

abbrev pub column_blocks : Geometry → Plan → RaidAsked → ℕ
column_blocks g p r = 136 + units_of g p r * raid_interlace r

-- what the form of the columns gives against them
abbrev pub form_cause : RaidAsked → Cause → Bool
form_cause r TooFew = nat_lt (length r.columns) 3
form_cause r TooMany = nat_lt 32 (length r.columns)
form_cause r BadInterlace = is_bad_interlace (raid_interlace r)
form_cause r _ = false

-- what refuses the volume
abbrev pub raid_condition : Geometry → List DriveNo → Plan → VolId → RaidAsked → Cause → Bool
raid_condition g drives p v r TooFew = form_cause r TooFew
raid_condition g drives p v r TooMany = form_cause r TooMany
raid_condition g drives p v r BadInterlace = form_cause r BadInterlace
raid_condition g drives p v r TooSmall = units_of g p r == 0
raid_condition g drives p v r cause = base_condition g drives p v r.columns r.spares cause

-- a RAID-5 volume of these columns, each on as many blocks as the least one can have
abbrev pub raid_on : Geometry → Plan → VolId → RaidAsked → OneVolume
raid_on g p v r =
    record {
      number = v;
      kind = Raid (record {
        columns = map (component_on g p (column_blocks g p r)) r.columns;
        interlace = raid_interlace r;
        units = units_of g p r;
        spares = r.spares;
      });
    }

-- it is still to be initialized, with its data where they are kept
abbrev pub raid_status : VolId → RaidAsked → VolumeStatus
raid_status v r = record { number = v; kind = RaidStatus (record { state = if r.keep then Keeping else Initializing; columns = map okay_part r.columns }) }
