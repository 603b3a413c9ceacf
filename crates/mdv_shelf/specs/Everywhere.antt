-- What every crash leaves: statements on its images.
use Rattle.std.specs.Prelude.{◌≡◌, ℕ, true, List}
use Rattle.mdv_shelf.specs.Tale.{Tale, IsImage}
use Rattle.mdv_shelf.specs.Area.{Area}

-- the blocks of all drives, as a crash may leave them
abbrev pub Image : Type 0
Image = ℕ → ℕ → List ℕ

-- whatever a crash leaves is so
abbrev pub Everywhere : (Image → Type 0) → Tale → Type 0
Everywhere P m = (image : Image) → IsImage m image → P image

-- whatever a crash leaves comes by this change from what one might have left at the start
abbrev pub Leaves : (Image → Image → Type 0) → Tale → Tale → Type 0
Leaves Change t m = Everywhere (λ new. (old : Image) × IsImage t old × Change old new) m

-- it says nothing of blocks outside the area
abbrev pub RestsOn : Area → (Image → Type 0) → Type 0
RestsOn area P = (old new : Image) → ((drive block : ℕ) → area drive block ≡ true → new drive block ≡ old drive block) → P old → P new
