-- What holds of each slot, whatever its tables are. A function says which table a text is a record of, if it is one: so a text
-- is a record of one table at most, and a table may have several texts.
use Rattle.std.specs.Prelude.{◌≡◌, ℕ, ◌+◌, ◌<◌, ◌≤◌, List, Option, Some, length, take}
use Rattle.std.specs.List.{concat}
use Rattle.mdv_shown.specs.Below.{Mark, IsReadable, gate_of, body_at, slot_blocks, with_blocks, Fills, Open, Head, PlaceAt, Slot, Image}
use Rattle.mdv_shown.specs.Found.{Counts}
use Rattle.mdv_shown.specs.Shown.{SlotShows, IsNewestOf}

abbrev pub Reads : {T : Type 0} → (List ℕ → Option T) → List ℕ → T → Type 0
Reads read text table = read text ≡ Some table

-- A slot shows one table, under one mark.
abbrev pub ShowsOne : Type 0 → Type 0
ShowsOne T =
    (read : List ℕ → Option T) (at : PlaceAt) (content : ℕ → List ℕ) (head : Head) (slot : Slot) (m n : Mark) (s t : T)
    → SlotShows (Reads read) at content head slot m s → SlotShows (Reads read) at content head slot n t → (m ≡ n) × (s ≡ t)

-- So does a replica, as its newest one: in one slot.
abbrev pub NewestIsOne : Type 0 → Type 0
NewestIsOne T =
    (read : List ℕ → Option T) (at : PlaceAt) (content : ℕ → List ℕ) (head : Head) (a b : Slot) (m n : Mark) (s t : T)
    → IsNewestOf (Reads read) at content head a m s → IsNewestOf (Reads read) at content head b n t → (a ≡ b) × (m ≡ n) × (s ≡ t)

-- What a slot shows rests on its gate and its body's blocks.
abbrev pub ShowsKept : Type 0 → Type 0
ShowsKept T =
    (read : List ℕ → Option T) (at : PlaceAt) (old new : ℕ → List ℕ) (head next : Head) (slot : Slot) (mark : Mark) (table : T) → gate_of next slot ≡ gate_of head slot
    → ((block : ℕ) → body_at at slot ≤ block → block < body_at at slot + slot_blocks at.place.blocks → new block ≡ old block)
    → SlotShows (Reads read) at old head slot mark table → SlotShows (Reads read) at new next slot mark table

-- A slot that was filled with a record of a table shows it.
abbrev pub ShowsFilled : Type 0 → Type 0
ShowsFilled T =
    (read : List ℕ → Option T) (at : PlaceAt) (old new : Image) (next : Head) (slot : Slot) (mark : Mark) (bytes : ℕ) (body : List (List ℕ)) (table : T)
    → Fills at slot mark bytes body old new → length body ≤ slot_blocks at.place.blocks → bytes ≤ length (concat body) → read (take bytes (concat body)) ≡ Some table
    → gate_of next slot ≡ Open mark bytes → SlotShows (Reads read) at (new at.drive.0) next slot mark table

-- An open slot of a readable replica shows a table.
abbrev pub ShowsSome : Type 0 → Type 0
ShowsSome T =
    (read : List ℕ → Option T) (at : PlaceAt) (size : ℕ) (content : ℕ → List ℕ) (head : Head) (slot : Slot) (mark : Mark) (bytes : ℕ)
    → IsReadable (Counts (Reads read)) at size content head → gate_of head slot ≡ Open mark bytes
    → (table : T) × SlotShows (Reads read) (with_blocks at head.master.blocks) content head slot mark table
