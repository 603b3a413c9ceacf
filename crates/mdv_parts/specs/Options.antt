-- Options with a value, each of which may stand at a list's front.
use Rattle.std.specs.Prelude.{◌==◌, ◌&&◌, ◌^◌, nat_le, ℕ, Bool, true, false, if◌then◌else◌, Option, None, Some, List, [], ◌∷◌}
use Rattle.mdv_parts.specs.declared.part.Part.{Part}
use Rattle.mdv_parts.specs.declared.part.Part.TheVariants.{Number, Size, Letter}
use Rattle.mdv_parts.specs.declared.options.ReplicaOptions.{ReplicaOptions}

abbrev pub where_true : {A : Type 0} → Bool → A → Option A
where_true true a = Some a
where_true false a = None

abbrev pub has_letter : ℕ → Part → Bool
has_letter b (Letter c) = c == b
has_letter b _ = false

abbrev pub number_of : Part → Option ℕ
number_of (Number n) = Some n
number_of _ = None

-- at most 2^40 blocks; a number alone counts blocks
abbrev pub size_of : Part → Option ℕ
size_of (Number n) = where_true (nat_le n (2 ^ 40)) n
size_of (Size blocks) = Some blocks
size_of _ = None

-- a number from the least to the most
abbrev pub number_within : ℕ → ℕ → Part → Option ℕ
number_within least most (Number n) = where_true (nat_le least n && nat_le n most) n
number_within least most _ = None

abbrev pub given : {A : Type 0} → Option A → List Part → Option (Option A × List Part)
given None ps = None
given (Some x) ps = Some (Some x, ps)

abbrev pub first_as : {A : Type 0} → (Part → Option A) → List Part → Option (Option A × List Part)
first_as read [] = None
first_as read (p ∷ ps) = given (read p) ps

-- the letter and its value behind it, where that letter stands in front; the value must be of its form
abbrev pub at_letter : {A : Type 0} → ℕ → (Part → Option A) → List Part → Option (Option A × List Part)
at_letter b read [] = Some (None, [])
at_letter b read (p ∷ ps) = if has_letter b p then first_as read ps else Some (None, p ∷ ps)

-- `-i SIZE`
abbrev pub split_interlace : List Part → Option (Option ℕ × List Part)
split_interlace ps = at_letter 105 size_of ps

-- `-c N`, 1 to 50 replicas a slice
abbrev pub split_count : List Part → Option (Option ℕ × List Part)
split_count ps = at_letter 99 (number_within 1 50) ps

-- `-l BLOCKS`, 16 to 8192 blocks a replica
abbrev pub split_length : List Part → Option (Option ℕ × List Part)
split_length ps = at_letter 108 (number_within 16 8192) ps

abbrev pub with_options : Option ℕ → Option (Option ℕ × List Part) → Option (ReplicaOptions × List Part)
with_options count None = None
with_options count (Some (blocks, ps)) = Some (record { count = count; blocks = blocks }, ps)

abbrev pub with_count : Option ℕ → Option (Option ℕ × List Part) → Option (ReplicaOptions × List Part)
with_count blocks None = None
with_count blocks (Some (count, ps)) = Some (record { count = count; blocks = blocks }, ps)

abbrev pub late_count : Option (Option ℕ × List Part) → Option (ReplicaOptions × List Part)
late_count None = None
late_count (Some (blocks, ps)) = with_count blocks (split_count ps)

abbrev pub behind_count : Option (Option ℕ × List Part) → Option (ReplicaOptions × List Part)
behind_count None = None
behind_count (Some (None, ps)) = late_count (split_length ps)
behind_count (Some (Some count, ps)) = with_options (Some count) (split_length ps)

-- `-c N` and `-l BLOCKS` in either order, each at most once
abbrev pub split_replica_options : List Part → Option (ReplicaOptions × List Part)
split_replica_options ps = behind_count (split_count ps)
