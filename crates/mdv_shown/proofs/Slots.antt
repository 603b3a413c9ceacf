-- What a slot shows.
use Rattle.std.proofs.Common.{◌≡◌, ◌⊎◌, inl, inr, ℕ, ◌+◌, ◌<◌, ◌≤◌, refl, sym, ◌∙◌, ap, subst, List, length, take, Option, arith}
use Rattle.std.specs.List.{concat}
use Rattle.mdv_shown.specs.Below.{IsBelow, Mark, IsReadable, SlotFits, gate_of, other_slot, body_at, slot_blocks, text_of, with_blocks, Fills, Gate, Open, Head, PlaceAt, Slot, First, Second, Image}
use Rattle.mdv_replica.proofs.Bodies.{bytes_of_same, take-bytes_of_written}
use Rattle.mdv_shown.specs.Found.{Counts}
use Rattle.mdv_shown.specs.Shown.{SlotShows, IsNewestOf}
use Rattle.mdv_shown.specs.Laws.{Reads, ShowsOne, NewestIsOne, ShowsKept, ShowsFilled, ShowsSome}

pub open_same : (m n : Mark) (a b : ℕ) → Open m a ≡ Open n b → (m ≡ n) × (a ≡ b)
open_same m n a b e = (cc (e), cc (e))

pub never_below : (a b : Mark) → IsBelow a b → IsBelow b a → ⊥
never_below a b h k = grind arith

-- a slot is one or the other
pub slot_cases : (a b : Slot) → (a ≡ b) ⊎ (b ≡ other_slot a)
slot_cases First First = inl refl
slot_cases First Second = inr refl
slot_cases Second First = inr refl
slot_cases Second Second = inl refl

pub other_back : (a b : Slot) → b ≡ other_slot a → a ≡ other_slot b
other_back First First e = cc
other_back First Second e = refl
other_back Second First e = refl
other_back Second Second e = cc

module _ {Table : Type 0} (Spells : List ℕ → Table → Type 0) where
  -- a text is a record of one table at most
  abbrev pub OneTable : Type 0
  OneTable = (text : List ℕ) (s t : Table) → Spells text s → Spells text t → s ≡ t

  pub shows_one : OneTable → (at : PlaceAt) (content : ℕ → List ℕ) (head : Head) (slot : Slot) (m n : Mark) (s t : Table)
      → SlotShows Spells at content head slot m s → SlotShows Spells at content head slot n t → (m ≡ n) × (s ≡ t)
  shows_one one at content head slot m n s t a b =
      let same = open_same m n a.bytes b.bytes (sym a.gate ∙ b.gate) in
      (same.0, one (text_of at slot b.bytes content) s t (subst (λ (k : ℕ). Spells (text_of at slot k content) s) same.1 a.text) b.text)

  pub shows_kept : (at : PlaceAt) (old new : ℕ → List ℕ) (head next : Head) (slot : Slot) (mark : Mark) (table : Table) → gate_of next slot ≡ gate_of head slot
      → ((block : ℕ) → body_at at slot ≤ block → block < body_at at slot + slot_blocks at.place.blocks → new block ≡ old block)
      → SlotShows Spells at old head slot mark table → SlotShows Spells at new next slot mark table
  shows_kept at old new head next slot mark table gate same is = record {
    bytes = is.bytes;
    gate = gate ∙ is.gate;
    text = subst (λ (l : List ℕ). Spells l table) (sym (ap (take is.bytes) (bytes_of_same old new (body_at at slot) (slot_blocks at.place.blocks) same))) is.text;
  }

  pub shows_filled : (at : PlaceAt) (old new : Image) (next : Head) (slot : Slot) (mark : Mark) (bytes : ℕ) (body : List (List ℕ)) (table : Table)
      → Fills at slot mark bytes body old new → length body ≤ slot_blocks at.place.blocks → bytes ≤ length (concat body) → Spells (take bytes (concat body)) table
      → gate_of next slot ≡ Open mark bytes → SlotShows Spells at (new at.drive.0) next slot mark table
  shows_filled at old new next slot mark bytes body table fills fits within spelled gate = record {
    bytes = bytes;
    gate = gate;
    text = subst (λ (l : List ℕ). Spells l table)
        (sym (take-bytes_of_written (new at.drive.0) (body_at at slot) (slot_blocks at.place.blocks) bytes body fits within fills.here)) spelled;
  }

  fits_some : (at : PlaceAt) (slot : Slot) (gate : Gate) (content : ℕ → List ℕ) (mark : Mark) (bytes : ℕ) → SlotFits (Counts Spells) at slot gate content → gate ≡ Open mark bytes
      → (table : Table) × Spells (text_of at slot bytes content) table
  fits_some at slot gate content mark bytes fits e = (subst (λ (g : Gate). SlotFits (Counts Spells) at slot g content) e fits).1

  pub shows_some : (at : PlaceAt) (size : ℕ) (content : ℕ → List ℕ) (head : Head) (slot : Slot) (mark : Mark) (bytes : ℕ)
      → IsReadable (Counts Spells) at size content head → gate_of head slot ≡ Open mark bytes
      → (table : Table) × SlotShows Spells (with_blocks at head.master.blocks) content head slot mark table
  shows_some at size content head First mark bytes is e =
      let some = fits_some (with_blocks at head.master.blocks) First head.first content mark bytes is.of_first e in
      (some.0, record { bytes = bytes; gate = e; text = some.1 })
  shows_some at size content head Second mark bytes is e =
      let some = fits_some (with_blocks at head.master.blocks) Second head.second content mark bytes is.of_second e in
      (some.0, record { bytes = bytes; gate = e; text = some.1 })

  pub newest_one : OneTable → (at : PlaceAt) (content : ℕ → List ℕ) (head : Head) (a b : Slot) (m n : Mark) (s t : Table)
      → IsNewestOf Spells at content head a m s → IsNewestOf Spells at content head b n t → (a ≡ b) × (m ≡ n) × (s ≡ t)
  newest_one one at content head a b m n s t x y =
      elim (slot_cases a b) [
        | inl same ↦
            let both = shows_one one at content head a m n s t x.shows (subst (λ (k : Slot). SlotShows Spells at content head k n t) (sym same) y.shows) in
            (same, both.0, both.1)
        | inr other ↦
            let up = x.last n t (subst (λ (k : Slot). SlotShows Spells at content head k n t) other y.shows) in
            let down = y.last m s (subst (λ (k : Slot). SlotShows Spells at content head k m s) (other_back a b other) x.shows) in
            absurd (never_below n m up down)
      ]

-- for texts that a function reads
pub reads_one : {T : Type 0} (read : List ℕ → Option T) (text : List ℕ) (s t : T) → Reads read text s → Reads read text t → s ≡ t
reads_one read text s t a b = cc (sym a ∙ b)

pub law_one : (T : Type 0) → ShowsOne T
law_one T read = shows_one (Reads read) (reads_one read)

pub law_newest : (T : Type 0) → NewestIsOne T
law_newest T read = newest_one (Reads read) (reads_one read)

pub law_kept : (T : Type 0) → ShowsKept T
law_kept T read = shows_kept (Reads read)

pub law_filled : (T : Type 0) → ShowsFilled T
law_filled T read = shows_filled (Reads read)

pub law_some : (T : Type 0) → ShowsSome T
law_some T read = shows_some (Reads read)
