-- A component that is enabled, or in whose place another one comes: what refuses it.
use Rattle.std.specs.Prelude.{ℕ, Bool, true, false, not, ◌&&◌, ◌||◌, nat_lt, is_some, unwrap_or, List, [], ◌∷◌, Option, None, Some, if◌then◌else◌}
use Rattle.std.specs.List.{list_all, list_any}
use Rattle.std.specs.Option.{option_map, option_or}
use Rattle.mdv_base.specs.declared.state_word.StateWord.TheVariants as word
use Rattle.mdv_replacing.specs.Below.{DriveNo, VolId, Geometry, Plan, Table, Base, Volume, PartStatus, State, Okay, Resyncing, Refusal, StateWord, Cause, NoSuchVolume, NoSuchSlice, WrongKind, WrongState, LastCopy, SliceInUse, HasParent, Nested, TooSmall}
use Rattle.mdv_replacing.specs.Below.{first_of, is_foreign, is_initializing, is_last_on, is_nesting, is_no_leaf, is_okay, is_slice_in_use, is_volume_in_use, lacks_one, order, room_of, told, uses_of, with_word, worst}
use Rattle.mdv_replacing.specs.Holding.{holder_of, is_other_kind}
use Rattle.mdv_replacing.specs.Members.{member_of, others}
use Rattle.mdv_replacing.specs.declared.members.Member.{Member}

-- what is being copied is left alone, and what is Okay on its own base isn't enabled
abbrev pub state_word : Bool → Bool → State → Option StateWord
state_word enable spared Okay = if enable && not spared then Some word.Okay else None
state_word enable spared (Resyncing r) = Some word.Resyncing
state_word enable spared _ = None

abbrev pub part_word : Bool → PartStatus → Option StateWord
part_word enable part = state_word enable (is_some part.spare) part.state

abbrev pub member_word : Bool → Option Member → Option StateWord
member_word enable None = Some word.Absent
member_word enable (Some m) = part_word enable m.part

abbrev pub others_word : List PartStatus → Option StateWord
others_word parts = if list_all is_okay parts then None else Some (worst parts)

abbrev pub parts_word : Bool → Option Member → List PartStatus → Option StateWord
parts_word enable m parts = option_or (member_word enable m) (others_word parts)

-- the state that stands in the way: the volume is Initializing, the component isn't in it, its own state, or the worst of the other columns
abbrev pub held_word : Table → VolId → Base → Bool → Option StateWord
held_word t v b enable = if is_initializing t.status (Volume v) then Some word.Initializing else parts_word enable (member_of t v b) (others t v b)

-- the state that a refusal tells
abbrev pub told_word : Table → VolId → Base → Bool → StateWord
told_word t v b enable = unwrap_or (held_word t v b enable) word.Okay

abbrev pub is_last_in : Table → VolId → Base → Option VolId → Bool
is_last_in t v b None = false
is_last_in t v b (Some h) = is_last_on t v h b

-- some block of the mirror that lies on the component has no usable copy in another submirror
abbrev pub is_last_part : Table → VolId → Base → Bool
is_last_part t v b = is_last_in t v b (holder_of t.plan v b)

-- the volume is neither a mirror nor a RAID-5 volume, or one of these can't be a component
abbrev pub is_wrong_kind : Plan → VolId → List Base → Bool
is_wrong_kind p v bases = is_other_kind p v || list_any (is_no_leaf p) bases

-- what refuses that the component is enabled, or goes, where these bases are named
abbrev pub part_condition : Geometry → List DriveNo → Table → VolId → Base → List Base → Bool → Cause → Bool
part_condition g drives t v b bases enable NoSuchVolume = lacks_one t.plan v bases
part_condition g drives t v b bases enable NoSuchSlice = list_any (is_foreign g drives) bases
part_condition g drives t v b bases enable WrongKind = is_wrong_kind t.plan v bases
part_condition g drives t v b bases enable WrongState = is_some (held_word t v b enable)
part_condition g drives t v b bases enable LastCopy = is_last_part t v b
part_condition g drives t v b bases enable _ = false

abbrev pub enable_part_condition : Geometry → List DriveNo → Table → VolId → Base → Cause → Bool
enable_part_condition g drives t v b cause = part_condition g drives t v b (b ∷ []) true cause

abbrev pub blocks_at : Option Member → ℕ
blocks_at None = 0
blocks_at (Some m) = m.component.blocks

-- the new base has fewer blocks than the component
abbrev pub is_smaller : Geometry → Table → VolId → Base → Base → Bool
is_smaller g t v b new = nat_lt (room_of g t.plan new) (blocks_at (member_of t v b))

-- that another one comes in its place
abbrev pub replace_part_condition : Geometry → List DriveNo → Table → VolId → Base → Base → Cause → Bool
replace_part_condition g drives t v b new SliceInUse = is_slice_in_use g (uses_of t.plan) new
replace_part_condition g drives t v b new HasParent = is_volume_in_use t.plan new
replace_part_condition g drives t v b new Nested = is_nesting t.plan v (new ∷ [])
replace_part_condition g drives t v b new TooSmall = is_smaller g t v b new
replace_part_condition g drives t v b new cause = part_condition g drives t v b (b ∷ new ∷ []) false cause

-- why it isn't enabled, or replaced
abbrev pub enable_part_refusal : Geometry → List DriveNo → Table → VolId → Base → Option Refusal
enable_part_refusal g drives t v b = option_map (told (with_word (told_word t v b true))) (first_of (enable_part_condition g drives t v b) order)

abbrev pub replace_part_refusal : Geometry → List DriveNo → Table → VolId → Base → Base → Option Refusal
replace_part_refusal g drives t v b new = option_map (told (with_word (told_word t v b false))) (first_of (replace_part_condition g drives t v b new) order)
