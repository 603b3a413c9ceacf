-- The dirty regions of a mirror, eight a byte, the first of them the highest bit.
use Rattle.std.specs.Prelude.{ℕ, Bool, false, ◌+◌, ◌-◌, ◌/◌, ◌%◌, ◌^◌, ◌==◌, ◌&&◌, nat_le, nat_lt, List, [], ◌∷◌, if◌then◌else◌}
pub use Rattle.mdv_plan.specs.Resumed.{has_dirty}
use Rattle.mdv_notes.specs.declared.note.RegionRange.{RegionRange}

-- whether the bit of this weight is set
abbrev pub has_bit : ℕ → ℕ → Bool
has_bit weight byte = byte / weight % 2 == 1

-- whether a region is dirty
abbrev pub is_region_dirty : List ℕ → ℕ → Bool
is_region_dirty [] r = false
is_region_dirty (b ∷ bs) r = if nat_lt r 8 then has_bit (2 ^ (7 - r)) b else is_region_dirty bs (r - 8)

abbrev pub in_range : RegionRange → ℕ → Bool
in_range range r = nat_le range.first r && nat_lt r (range.first + range.count)

-- a region of the range is dirty, or clean, and any other is as it was
abbrev pub region_noted : RegionRange → Bool → ℕ → Bool → Bool
region_noted range dirty r was = if in_range range r then dirty else was

abbrev pub weighed : ℕ → Bool → ℕ
weighed weight is = if is then weight else 0

abbrev pub bit_noted : RegionRange → Bool → ℕ → ℕ → ℕ → ℕ
bit_noted range dirty r weight byte = weighed weight (region_noted range dirty r (has_bit weight byte))

-- eight regions from this one on
abbrev pub byte_noted : RegionRange → Bool → ℕ → ℕ → ℕ
byte_noted range dirty at byte =
    bit_noted range dirty at 128 byte + bit_noted range dirty (at + 1) 64 byte + bit_noted range dirty (at + 2) 32 byte + bit_noted range dirty (at + 3) 16 byte
    + bit_noted range dirty (at + 4) 8 byte
    + bit_noted range dirty (at + 5) 4 byte
    + bit_noted range dirty (at + 6) 2 byte
    + bit_noted range dirty (at + 7) 1 byte

-- each region by itself
abbrev pub regions_noted : RegionRange → Bool → ℕ → List ℕ → List ℕ
regions_noted range dirty at [] = []
regions_noted range dirty at (b ∷ bs) = byte_noted range dirty at b ∷ regions_noted range dirty (at + 8) bs
