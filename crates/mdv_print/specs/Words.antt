-- How the parts of a line are spelled.
use Rattle.std.specs.Prelude.{ℕ, nat_lt, if◌then◌else◌, Option, List, [], ◌∷◌, ◌++◌, codes, decimal}
use Rattle.std.specs.List.{flat_map}
use Rattle.mdv_print.specs.Below.{Part, letter_text, replicas_text, set_text, slice_text, three_digits, volume_text}
use Rattle.mdv_parts.specs.declared.part.Part.TheVariants.{Number, Size, Slice, Volume, Pool, Replicas, Letter}

-- three digits at least
abbrev pub pool_digits : ℕ → List ℕ
pool_digits n = if nat_lt n 1000 then three_digits n else decimal n

-- sizes in blocks, and names of volumes and pools with their set, where there is one
abbrev pub part_word : Option (List ℕ) → Part → List ℕ
part_word set (Number n) = decimal n
part_word set (Size blocks) = decimal blocks ++ codes "b"
part_word set (Slice s) = slice_text s
part_word set (Volume v) = volume_text (record { set = set; volume = v })
part_word set (Pool p) = set_text set ++ (codes "hsp" ++ pool_digits p.0)
part_word set (Replicas n) = replicas_text n
part_word set (Letter b) = letter_text b

abbrev pub next_word : Option (List ℕ) → Part → List ℕ
next_word set p = 32 ∷ part_word set p

-- each with a blank in front
abbrev pub next_words : Option (List ℕ) → List Part → List ℕ
next_words set ps = flat_map (next_word set) ps

-- a line with its newline
abbrev pub line_of : Option (List ℕ) → Part → List Part → List ℕ
line_of set p ps = part_word set p ++ (next_words set ps ++ 10 ∷ [])
