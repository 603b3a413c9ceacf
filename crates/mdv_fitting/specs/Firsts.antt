-- By what each slice is used first, by the slice's number.
use Rattle.std.specs.Prelude.{◌≡◌, ◌<◌, ◌↔◌, ℕ, Bool, true, false, not, ◌==◌, ◌&&◌, ◌||◌, is_some, IsTrue, List, Option, None, Some, MatchOption, if◌then◌else◌}
use Rattle.std.specs.List.{find}
use Rattle.std.specs.Option.{option_map, option_or}
use Rattle.mdv_fitting.specs.Held.{held}
use Rattle.mdv_fitting.specs.declared.held.Held.{Held}
use Rattle.mdv_fitting.specs.Below.{SliceName, Geometry, SliceAt, SliceUse, User, Extent, Spare, beside, overlap, slice_at, slice_code}

abbrev pub use_key : SliceUse → ℕ
use_key u = slice_code u.slice

abbrev pub user_of : SliceUse → User
user_of u = u.by

abbrev pub first_user : List SliceUse → ℕ → Option User
first_user uses k = option_map user_of (find (λ u. use_key u == k) uses)

abbrev pub AreFirsts : List SliceUse → Held User → Type 0
AreFirsts uses m = (k : ℕ) → held m k ≡ first_user uses k

abbrev pub user_at : SliceUse → ℕ → Option User
user_at u k = if use_key u == k then Some u.by else None

-- with one use more
abbrev pub HasFirst : Held User → SliceUse → Held User → Type 0
HasFirst m u n = (k : ℕ) → held n k ≡ option_or (held m k) (user_at u k)

-- they are extents of soft partitions, or spares
abbrev pub can_share_slice : User → User → Bool
can_share_slice (Extent v) (Extent w) = true
can_share_slice (Spare p) (Spare q) = true
can_share_slice _ _ = false

abbrev pub is_db_at : Option SliceAt → Bool
is_db_at None = false
is_db_at (Some at) = at.db

-- in use, or set aside for replicas
abbrev pub is_taken : Geometry → Held User → SliceName → Bool
is_taken g m s = is_some (held m (slice_code s)) || is_db_at (slice_at g.slices s)

-- the slice of this number on its drive is another one that overlaps it, and is taken
abbrev pub is_hindered_by : Geometry → Held User → SliceName → ℕ → Bool
is_hindered_by g m s i = not (i == s.slice) && (overlap g (beside s i) s && is_taken g m (beside s i))

abbrev pub IsHindered : Geometry → Held User → SliceName → Type 0
IsHindered g m s = (i : ℕ) × (i < 8) × (is_hindered_by g m s i ≡ true)

-- whether it can share its slice, or is the first there and no other slice hinders it
abbrev pub FitsBeside : Geometry → Held User → SliceUse → Bool → Type 0
FitsBeside g m u b = MatchOption (held m (use_key u)) (IsTrue b ↔ (IsHindered g m u.slice → ⊥)) (λ first. b ≡ can_share_slice first u.by)
