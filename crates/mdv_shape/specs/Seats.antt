-- The spares of all pools, and the components that lie on spares.
use Rattle.std.specs.Prelude.{◌≡◌, ℕ, Bool, true, false, ◌==◌, ◌&&◌, nat_eq, nat_le, List, [], ◌∷◌, ◌++◌, map, Option, None, Some}
use Rattle.std.specs.List.{IsDistinct, find, flat_map, list_all}
use Rattle.mdv_shape.specs.Below.{SliceName, Plan, Pool, Spare, PartStatus, SpareState, InUse, SpareUse, Table, Component, OneVolume, VolumeKind, VolumeStatus, Stripe, Raid, part_states, parts_of, slice_code, state_in}

abbrev pub spares_in : Pool → List Spare
spares_in q = q.spares

abbrev pub all_spares : Plan → List Spare
all_spares p = flat_map spares_in p.pools

abbrev pub spare_key : Spare → ℕ
spare_key s = slice_code s.slice

-- the first spare on the slice, in the order of the pools
abbrev pub spare_on : Plan → SliceName → Option Spare
spare_on p s = find (λ t. spare_key t == slice_code s) (all_spares p)

abbrev pub same_seat : Spare → Option Spare → Bool
same_seat s None = false
same_seat s (Some t) = (t.start == s.start) && (t.blocks == s.blocks)

-- it begins where the first one on its slice does, and has as many blocks
abbrev pub is_as_first : Plan → Spare → Bool
is_as_first p s = same_seat s (spare_on p s.slice)

abbrev pub are_spares : Plan → Bool
are_spares p = list_all (is_as_first p) (all_spares p)

-- what a component takes of the spare on which it lies: as many blocks as it has
abbrev pub taken_at : ℕ → Option SpareUse → List Spare
taken_at blocks None = []
taken_at blocks (Some u) = record { slice = u.slice; start = u.start; blocks = blocks } ∷ []

abbrev pub part_taken : Component → PartStatus → List Spare
part_taken c s = taken_at c.blocks s.spare

-- of what stands side by side, as far as both lists go
abbrev pub side_by_side : {A B C : Type 0} → (A → B → List C) → List A → List B → List C
side_by_side f [] ys = []
side_by_side f (x ∷ xs) [] = []
side_by_side f (x ∷ xs) (y ∷ ys) = f x y ++ side_by_side f xs ys

-- in the order of their states
abbrev pub components_of : VolumeKind → List Component
components_of (Stripe s) = flat_map parts_of s.rows
components_of (Raid r) = r.columns
components_of _ = []

abbrev pub volume_taken : OneVolume → VolumeStatus → List Spare
volume_taken w s = side_by_side part_taken (components_of w.kind) (part_states s.kind)

-- the spares on which components lie, each as often as one does
abbrev pub seats_taken : Table → List Spare
seats_taken t = side_by_side volume_taken t.plan.volumes t.status.volumes

-- it is taken from its first block on, and is long enough
abbrev pub is_room_for : Spare → Option Spare → Bool
is_room_for s None = false
is_room_for s (Some t) = (t.start == s.start) && nat_le s.blocks t.blocks

abbrev pub is_in_use : SpareState → Bool
is_in_use InUse = true
is_in_use _ = false

-- a pool has it, with room for the component, and it is In use
abbrev pub is_seat : Table → Spare → Bool
is_seat t s = is_room_for s (spare_on t.plan s.slice) && is_in_use (state_in t.status.spares s.slice)

-- each is a spare of a pool, and no two components lie on one
pub record AreSeats (t : Table) : Type 0 where
  pub each : list_all (is_seat t) (seats_taken t) ≡ true
  pub once : IsDistinct nat_eq (map spare_key (seats_taken t))
