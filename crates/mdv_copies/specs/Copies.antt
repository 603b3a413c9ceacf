-- Which blocks of a mirror have a copy that may be read, and whether a submirror has the last one.
use Rattle.std.specs.Prelude.{◌≡◌, ◌<◌, ℕ, zero, suc, Bool, true, false, not, max, ◌+◌, ◌-◌, ◌/◌, ◌%◌, ◌&&◌, ◌||◌, nat_lt, List, [], ◌∷◌, length, drop, Option, None, Some, if◌then◌else◌}
use Rattle.std.specs.List.{list_any, slice_get}
use Rattle.mdv_copies.specs.Below.{VolId, Base, Component, Table, Row, PartStatus, State, Okay, LastErred, parts_at, row_blocks, rows_of, same_base, size_of, status_at}
use Rattle.mdv_copies.specs.Legs.{legs_of, others}

abbrev pub is_usable : State → Bool
is_usable Okay = true
is_usable LastErred = true
is_usable _ = false

abbrev pub is_usable_part : Option PartStatus → Bool
is_usable_part None = false
is_usable_part (Some part) = is_usable part.state

-- a stripe without an interlace, which no command makes, has units of one block
abbrev pub unit_blocks : Row → ℕ
unit_blocks r = max r.interlace 1

abbrev pub width : Row → ℕ
width r = max (length r.components) 1

-- the place of the component on which a block of the stripe lies
abbrev pub place_in : Row → ℕ → ℕ
place_in r b = b / unit_blocks r % width r

-- whether that component is usable
abbrev pub is_usable_in_row : Row → List PartStatus → ℕ → Bool
is_usable_in_row r parts b = is_usable_part (slice_get parts (place_in r b))

-- the same of a block of stripes that follow one another; none has the blocks behind them
abbrev pub is_usable_in : List Row → List PartStatus → ℕ → Bool
is_usable_in [] parts b = false
is_usable_in (r ∷ rs) parts b = if nat_lt b (row_blocks r) then is_usable_in_row r parts b else is_usable_in rs (drop (length r.components) parts) (b - row_blocks r)

-- whether the submirror, where it isn't offline, has a usable copy of the block
abbrev pub has_copy : Table → ℕ → VolId → Bool
has_copy t b v = is_usable_in (rows_of t.plan v) (parts_at (status_at t.status v)) b

-- no one of these has
abbrev pub is_bare : Table → List VolId → ℕ → Bool
is_bare t vs b = not (list_any (has_copy t b) vs)

-- some number below this one passes the test
abbrev pub any_below : (ℕ → Bool) → ℕ → Bool
any_below test zero = false
any_below test (suc n) = test n || any_below test n

-- some block of the mirror has no usable copy in another submirror
abbrev pub is_last : Table → VolId → VolId → Bool
is_last t m v = any_below (is_bare t (others (legs_of t m) v)) (size_of t.plan m)

abbrev pub is_part_on : Base → Component → Bool
is_part_on on c = same_base c.on on

abbrev pub has_part_on : Base → Row → Bool
has_part_on on r = list_any (is_part_on on) r.components

abbrev pub is_on : Base → Option Component → Bool
is_on on None = false
is_on on (Some c) = is_part_on on c

-- whether a block of the stripe lies on the component that has this base
abbrev pub lies_in_row : Row → Base → ℕ → Bool
lies_in_row r on b = is_on on (slice_get r.components (place_in r b))

-- the same of a block of stripes that follow one another
abbrev pub lies_in : List Row → Base → ℕ → Bool
lies_in [] on b = false
lies_in (r ∷ rs) on b = if nat_lt b (row_blocks r) then lies_in_row r on b else lies_in rs on (b - row_blocks r)

-- the block lies on that component of the submirror, and no one of these has a usable copy
abbrev pub is_bare_on : Table → List VolId → VolId → Base → ℕ → Bool
is_bare_on t vs v on b = lies_in (rows_of t.plan v) on b && is_bare t vs b

-- some block of the mirror that lies on that component of the submirror has no usable copy in another submirror
abbrev pub is_last_on : Table → VolId → VolId → Base → Bool
is_last_on t m v on = any_below (is_bare_on t (others (legs_of t m) v) v on) (size_of t.plan m)

-- so many numbers from this one on pass the test, and none only where that one doesn't
pub record IsRun (test : ℕ → Bool) (from n : ℕ) : Type 0 where
  pub all : (k : ℕ) → k < n → test (from + k) ≡ true
  pub none : n ≡ 0 → test from ≡ false
