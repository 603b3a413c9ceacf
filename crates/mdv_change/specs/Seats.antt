-- Which components lie on spares whose numbers are in a set, of volumes that aren't marked.
use Rattle.std.specs.Prelude.{◌≡◌, ◌&&◌, ℕ, Bool, false, nat_eq, not, List, slice_index_or}
use Rattle.std.specs.BTreeSet.{BTreeSet, contains}
use Rattle.std.specs.List.{list_any}
use Rattle.std.specs.Ordering.{nat_cmp}
use Rattle.mdv_change.specs.Below.{SliceName, PartStatus, VolumeStatus, slice_code}
use Rattle.mdv_change.specs.Clear.{part_spare, parts_of}

-- exactly these numbers are in the set
abbrev pub AreKeys : BTreeSet ℕ → List ℕ → Type 0
AreKeys set keys = (n : ℕ) → contains nat_cmp set n ≡ list_any (nat_eq n) keys

abbrev pub is_in : BTreeSet ℕ → SliceName → Bool
is_in set s = contains nat_cmp set (slice_code s)

abbrev pub lies_by : BTreeSet ℕ → PartStatus → Bool
lies_by set part = list_any (is_in set) (part_spare part)

abbrev pub is_left_by : List Bool → BTreeSet ℕ → VolumeStatus → Bool
is_left_by named set s = not (slice_index_or named s.number.0 false) && list_any (lies_by set) (parts_of s.kind)
