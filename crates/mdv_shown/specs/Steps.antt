-- What is written to a replica that an image has.
use Rattle.std.specs.Prelude.{◌≡◌, ℕ, ◌+◌, ◌-◌, ◌*◌, List, Option, Some, None, length, take}
use Rattle.std.specs.List.{concat}
use Rattle.mdv_shown.specs.Below.{IsBelow, Identity, Mark, SliceLine, IsReadable, IsTable, Master, Head, PlaceAt, Slot, Open, gate_of, Image, SameOutside, range, Core, Stage, Reading, Creating, Claiming, Writing, Ready, greatest_of, last_table}
use Rattle.mdv_shown.specs.Site.{Site, size_on, place_on}
use Rattle.mdv_shown.specs.Found.{Counts, IsOwn}

-- a body that begins with a record of this table, of which so many bytes count
pub record IsBodyOf {Table : Type 0} (Spells : List ℕ → Table → Type 0) (at : PlaceAt) (mark : Mark) (bytes : ℕ) (body : List (List ℕ)) (table : Table) : Type 0 where
  pub is : IsTable (Counts Spells) at mark bytes body
  pub spelled : Spells (take bytes (concat body)) table

-- the mark is above each one that the replica has
abbrev pub IsAbove : Mark → Head → Type 0
IsAbove mark head = (slot : Slot) (other : Mark) (bytes : ℕ) → gate_of head slot ≡ Open other bytes → IsBelow other mark

-- the number that a claim has in this world: one that the boot drew, or draws by its first claim
abbrev pub claim_at : Core → Stage → Option ℕ
claim_at w (Reading read) = Some (greatest_of w.family w.places 0 read + 1)
claim_at w (Creating next) = None
claim_at w (Claiming adopted next claimed) = Some next.mark.boot
claim_at w (Writing boot took) = Some (last_table w).mark.boot
claim_at w (Ready next) = None

-- the number of the family's last table
abbrev pub last_number : Core → ℕ
last_number w = length w.family - 1

-- The blocks of a replica behind its master changed, and no other block. It is readable in both images, under one master.
pub record IsRewrittenAt {Table : Type 0} (Spells : List ℕ → Table → Type 0) (site : Site) (identity : Identity) (line : SliceLine) (k : ℕ) (first : Master) (head next : Head) (old new : Image) : Type 0 where
  pub own : IsOwn Spells site identity line k old first head
  pub elsewhere : SameOutside (range line.at.drive.0 (line.at.start + (16 + k * first.blocks) + 1) (first.blocks - 1)) old new
  pub now : IsReadable (Counts Spells) (place_on line first.blocks first.count k) (size_on site line) (new line.at.drive.0) next
  pub master : next.master ≡ head.master
