-- The making of a stripe or concatenation: what refuses it, and what the volume is.
use Rattle.std.specs.Prelude.{ℕ, ◌≡◌, ◌≤◌, ◌*◌, ◌/◌, ◌==◌, ◌||◌, Bool, false, nat_lt, List, length, map, Option, if◌then◌else◌}
use Rattle.std.specs.List.{list_any, flat_map}
use Rattle.mdv_components.specs.Below.{DriveNo, VolId, PoolId, Geometry, Plan, Base, Row, OneVolume, Stripe, VolumeStatus}
use Rattle.mdv_plan.specs.declared.status.KindStatus.TheVariants.{Stripe as StripeStatus}
use Rattle.mdv_components.specs.declared.asked.RowAsked.{RowAsked}
use Rattle.mdv_components.specs.declared.cause.Cause.{Cause}
use Rattle.mdv_components.specs.declared.cause.Cause.TheVariants.{TooFew, TooMany, BadInterlace, TooSmall}
use Rattle.mdv_components.specs.Bases.{base_condition}
use Rattle.mdv_components.specs.Room.{interlace_of, is_bad_interlace, least_room, component_on, okay_part}

abbrev pub bases_of : RowAsked → List Base
bases_of r = r.components

abbrev pub all_bases : List RowAsked → List Base
all_bases rows = flat_map bases_of rows

abbrev pub row_interlace : RowAsked → ℕ
row_interlace r = interlace_of r.interlace

abbrev pub is_bad_row : RowAsked → Bool
is_bad_row r = is_bad_interlace (row_interlace r)

abbrev pub is_empty_row : RowAsked → Bool
is_empty_row r = length r.components == 0

-- how many it gets: all of them where it is alone, else whole interlaces
abbrev pub used_blocks : ℕ → ℕ → ℕ → ℕ
used_blocks width interlace least = if width == 1 then least else (least / interlace) * interlace

abbrev pub row_blocks : Geometry → Plan → RowAsked → ℕ
row_blocks g p r = used_blocks (length r.components) (row_interlace r) (least_room g p r.components)

abbrev pub is_too_small : Geometry → Plan → RowAsked → Bool
is_too_small g p r = row_blocks g p r == 0

-- rows that a volume can have: each has a component, all together at most 100, and each interlace is allowed
pub record AreFormed (rows : List RowAsked) : Type 0 where
  pub total : length (all_bases rows) ≤ 100
  pub whole : list_any is_empty_row rows ≡ false
  pub interlaces : list_any is_bad_row rows ≡ false

-- what the form of the rows gives against them
abbrev pub form_cause : List RowAsked → Cause → Bool
form_cause rows TooFew = (length rows == 0) || list_any is_empty_row rows
form_cause rows TooMany = nat_lt 100 (length (all_bases rows))
form_cause rows BadInterlace = list_any is_bad_row rows
form_cause rows _ = false

-- what refuses the stripe
abbrev pub stripe_condition : Geometry → List DriveNo → Plan → VolId → List RowAsked → Option PoolId → Cause → Bool
stripe_condition g drives p v rows pool TooFew = form_cause rows TooFew
stripe_condition g drives p v rows pool TooMany = form_cause rows TooMany
stripe_condition g drives p v rows pool BadInterlace = form_cause rows BadInterlace
stripe_condition g drives p v rows pool TooSmall = list_any (is_too_small g p) rows
stripe_condition g drives p v rows pool cause = base_condition g drives p v (all_bases rows) pool cause

abbrev pub row_on : Geometry → Plan → RowAsked → Row
row_on g p r = record { interlace = row_interlace r; components = map (component_on g p (row_blocks g p r)) r.components }

-- a stripe of these rows, each component on the blocks that it gets
abbrev pub stripe_on : Geometry → Plan → VolId → List RowAsked → Option PoolId → OneVolume
stripe_on g p v rows pool = record { number = v; kind = Stripe (record { rows = map (row_on g p) rows; spares = pool }) }

-- each component is Okay and lies on its own base
abbrev pub stripe_status : VolId → List RowAsked → VolumeStatus
stripe_status v rows = record { number = v; kind = StripeStatus (map okay_part (all_bases rows)) }
