-- One stripe more behind those of a volume: what refuses it, and what changes.
use Rattle.std.specs.Prelude.{ℕ, Bool, false, not, ◌+◌, ◌&&◌, ◌||◌, nat_lt, unwrap_or, List, [], ◌∷◌, ◌++◌, length, map, Option, None, Some, if◌then◌else◌}
use Rattle.std.specs.List.{fold, flat_map, list_any}
use Rattle.mdv_rows.specs.Below.{DriveNo, VolId, Geometry, Plan, Base, Row, RowAsked, Component, OneVolume, VolumeKind, Stripe, SliceUse, Status, VolumeStatus, KindStatus, StripeKind, PartStatus, Cause}
use Rattle.mdv_rows.specs.Below.{NoSuchVolume, NoSuchSlice, WrongKind, TooFew, TooMany, BadInterlace, SliceInUse, HasParent, Nested, TooSmall}
use Rattle.mdv_rows.specs.Below.{has_meeting, has_twice, is_foreign, is_missing, is_no_leaf, is_slice, is_slice_in_use, is_volume_in_use, volume_of, okay_part, is_bad_row, is_empty_row, is_too_small}
use Rattle.mdv_rows.specs.Below.{has_parent, is_taken, uses_of, status_at, is_no_stripe, is_no_volume}

abbrev pub kind_rows : VolumeKind → List Row
kind_rows (Stripe s) = s.rows
kind_rows _ = []

abbrev pub rows_at : Option OneVolume → List Row
rows_at None = []
rows_at (Some v) = kind_rows v.kind

-- the stripes that the volume has
abbrev pub rows_of : Plan → VolId → List Row
rows_of p v = rows_at (volume_of p v)

-- that of the last stripe
abbrev pub last_interlace : List Row → ℕ
last_interlace rows = fold (λ interlace r. r.interlace) 32 rows

-- with the interlace of the last stripe, where none is asked for
abbrev pub filled : List Row → RowAsked → RowAsked
filled rows r = record r { interlace = Some (unwrap_or r.interlace (last_interlace rows)) }

abbrev pub parts_of : Row → List Component
parts_of r = r.components

-- a volume has at most 100 components, and so no more stripes
abbrev pub is_full : List Row → ℕ → Bool
is_full rows new = nat_lt 99 (length rows) || nat_lt 100 (length (flat_map parts_of rows) + new)

abbrev pub is_soft : Base → Bool
is_soft b = not (is_slice b)

-- the volume or one of the components isn't there
abbrev pub lacks_one : Plan → VolId → List Base → Bool
lacks_one p v bases = is_no_volume p v || list_any (is_missing p) bases

-- it is no volume of stripes, or one of them can't be a component
abbrev pub is_wrong_kind : Plan → VolId → List Base → Bool
is_wrong_kind p v bases = is_no_stripe p v || list_any (is_no_leaf p) bases

abbrev pub are_slices_in_use : Geometry → List SliceUse → List Base → Bool
are_slices_in_use g uses bases = list_any (is_slice_in_use g uses) bases || has_meeting g bases

-- a volume in a mirror doesn't grow, and a soft partition is a component once
abbrev pub are_volumes_in_use : Plan → VolId → List Base → Bool
are_volumes_in_use p v bases = is_taken p v || (list_any (is_volume_in_use p) bases || has_twice bases)

-- soft partitions lie on the volume, and one would be its component
abbrev pub is_nesting : Plan → VolId → List Base → Bool
is_nesting p v bases = has_parent p v && list_any is_soft bases

-- what refuses the stripe
abbrev pub add_condition : Geometry → List DriveNo → Plan → VolId → RowAsked → Cause → Bool
add_condition g drives p v r NoSuchVolume = lacks_one p v r.components
add_condition g drives p v r NoSuchSlice = list_any (is_foreign g drives) r.components
add_condition g drives p v r WrongKind = is_wrong_kind p v r.components
add_condition g drives p v r TooFew = is_empty_row r
add_condition g drives p v r TooMany = is_full (rows_of p v) (length r.components)
add_condition g drives p v r BadInterlace = is_bad_row r
add_condition g drives p v r SliceInUse = are_slices_in_use g (uses_of p) r.components
add_condition g drives p v r HasParent = are_volumes_in_use p v r.components
add_condition g drives p v r Nested = is_nesting p v r.components
add_condition g drives p v r TooSmall = is_too_small g p r
add_condition g drives p v r _ = false

abbrev pub kind_with : Row → VolumeKind → VolumeKind
kind_with row (Stripe s) = Stripe (record s { rows = s.rows ++ row ∷ [] })
kind_with row kind = kind

-- a volume with this stripe behind the others
abbrev pub with_row : Row → OneVolume → OneVolume
with_row row v = record v { kind = kind_with row v.kind }

abbrev pub with_parts : List PartStatus → List PartStatus → List PartStatus
with_parts had new = if nat_lt 100 (length had + length new) then had else had ++ new

abbrev pub kind_with_parts : List PartStatus → KindStatus → KindStatus
kind_with_parts new (StripeKind parts) = StripeKind (with_parts parts new)
kind_with_parts new kind = kind

abbrev pub status_with : List PartStatus → VolumeStatus → VolumeStatus
status_with new s = record s { kind = kind_with_parts new s.kind }

abbrev pub states_at : List PartStatus → Option VolumeStatus → List VolumeStatus
states_at new None = []
states_at new (Some s) = status_with new s ∷ []

-- the new components are Okay, and the others as they were
abbrev pub added_states : Status → VolId → RowAsked → List VolumeStatus
added_states s v r = states_at (map okay_part r.components) (status_at s v)
