-- What is found stays what it was, whosever it is, while a replica is written, blanked or formatted.
use Rattle.std.specs.Prelude.{◌≡◌, ◌⊎◌, ℕ, ◌+◌, ◌*◌, ◌<◌, ◌≤◌, ◌^◌, List, Option}
use Rattle.mdv_shown.specs.Below.{Identity, Key, Mark, SliceLine, Master, Head, Slot, Image, IsTable, MayClaim, MayFill, MayFormat, MayWipe}
use Rattle.mdv_shown.specs.Site.{Site, IsSite, place_on}
use Rattle.mdv_shown.specs.Found.{Counts, IsFound}
use Rattle.mdv_shown.specs.Formats.{IsFormat, master_on}
use Rattle.mdv_shown.specs.Laws.{Reads}
use Rattle.mdv_shown.specs.Wipes.{FirstIs, HasFirst}

-- Each replica that the new image has the old one had, under the same master.
abbrev pub AreFoundBefore : {Table : Type 0} → (List ℕ → Table → Type 0) → Site → Image → Image → Type 0
AreFoundBefore Spells site old new =
    (line : SliceLine) (k : ℕ) (first : Master) (head : Head) → IsFound Spells site line k (new line.at.drive.0) first head
    → (was : Head) × IsFound Spells site line k (old line.at.drive.0) first was × (was.master ≡ head.master)

-- A claim, or a table, is written to a replica that a boot of its own key finds on one of the slices.
pub record FoundsStay (T : Type 0) : Type 0 where
  pub claims : (read : List ℕ → Option T) (site : Site) (old new : Image) (line : SliceLine) (k : ℕ) (first : Master) (head : Head) (number : ℕ) → IsSite site
      → IsFound (Reads read) (record site { key = head.master.key }) line k (old line.at.drive.0) first head → number < 2 ^ 63 → MayClaim (place_on line first.blocks first.count k) number old new
      → AreFoundBefore (Reads read) site old new
  pub slots : (read : List ℕ → Option T) (site : Site) (old new : Image) (line : SliceLine) (k : ℕ) (first : Master) (head : Head) (slot : Slot) (mark : Mark) (bytes : ℕ) (body : List (List ℕ)) → IsSite site
      → IsFound (Reads read) (record site { key = head.master.key }) line k (old line.at.drive.0) first head → IsTable (Counts (Reads read)) (place_on line first.blocks first.count k) mark bytes body
      → MayFill (place_on line first.blocks first.count k) slot mark bytes body old new → AreFoundBefore (Reads read) site old new

-- It is found under the same head, and no block of it changed.
pub record IsStill {Table : Type 0} (Spells : List ℕ → Table → Type 0) (site : Site) (old new : Image) (line : SliceLine) (k : ℕ) (first : Master) (head : Head) : Type 0 where
  pub found : IsFound Spells site line k (new line.at.drive.0) first head
  pub same : (block : ℕ) → line.at.start + (16 + k * first.blocks) ≤ block → block < line.at.start + (16 + k * first.blocks) + first.blocks → new line.at.drive.0 block ≡ old line.at.drive.0 block

-- So it is with each replica that the old image has, but the one with this number on this slice.
abbrev pub AreFoundStill : {Table : Type 0} → (List ℕ → Table → Type 0) → Site → SliceLine → ℕ → Image → Image → Type 0
AreFoundStill Spells site at number old new =
    (line : SliceLine) (k : ℕ) (first : Master) (head : Head) → IsFound Spells site line k (old line.at.drive.0) first head → ((line ≡ at) × (k ≡ number)) ⊎ IsStill Spells site old new line k first head

-- The same writes leave all but that one.
pub record FoundsLast (T : Type 0) : Type 0 where
  pub claims : (read : List ℕ → Option T) (site : Site) (old new : Image) (line : SliceLine) (k : ℕ) (first : Master) (head : Head) (number : ℕ) → IsSite site
      → IsFound (Reads read) (record site { key = head.master.key }) line k (old line.at.drive.0) first head → number < 2 ^ 63 → MayClaim (place_on line first.blocks first.count k) number old new
      → AreFoundStill (Reads read) site line k old new
  pub slots : (read : List ℕ → Option T) (site : Site) (old new : Image) (line : SliceLine) (k : ℕ) (first : Master) (head : Head) (slot : Slot) (mark : Mark) (bytes : ℕ) (body : List (List ℕ)) → IsSite site
      → IsFound (Reads read) (record site { key = head.master.key }) line k (old line.at.drive.0) first head → IsTable (Counts (Reads read)) (place_on line first.blocks first.count k) mark bytes body
      → MayFill (place_on line first.blocks first.count k) slot mark bytes body old new → AreFoundStill (Reads read) site line k old new

-- Each was there before, or is one of the database for which a place is formatted.
abbrev pub AreFoundOrMade : {Table : Type 0} → (List ℕ → Table → Type 0) → Site → Key → Identity → Image → Image → Type 0
AreFoundOrMade Spells site key identity old new =
    (line : SliceLine) (k : ℕ) (first : Master) (head : Head) → IsFound Spells site line k (new line.at.drive.0) first head
    → IsFound Spells site line k (old line.at.drive.0) first head ⊎ ((head.master.key ≡ key) × (head.master.identity ≡ identity))

-- A master is blanked, or a place is formatted, on one of the slices.
pub record FormatsStay (T : Type 0) : Type 0 where
  pub wipes : (read : List ℕ → Option T) (site : Site) (old new : Image) (line : SliceLine) (k : ℕ) (first : Master) → HasFirst site old line first → 16 + k * first.blocks < line.at.blocks
      → MayWipe (place_on line first.blocks first.count k) old new → AreFoundBefore (Reads read) site old new
  pub first : (read : List ℕ → Option T) (site : Site) (old new : Image) (line : SliceLine) (blocks count number : ℕ) (before : Option Master) (key : Key) (identity : Identity)
      → IsFormat (record site { key = key }) identity old line blocks count 0 number → FirstIs site old line before → MayFormat (place_on line blocks count 0) (master_on (record site { key = key }) identity line blocks count 0) number old new
      → AreFoundOrMade (Reads read) site key identity old new
  pub later : (read : List ℕ → Option T) (site : Site) (old new : Image) (line : SliceLine) (k number : ℕ) (first : Master) (key : Key) (identity : Identity)
      → 0 < k → IsFormat (record site { key = key }) identity old line first.blocks first.count k number → HasFirst site old line first
      → MayFormat (place_on line first.blocks first.count k) (master_on (record site { key = key }) identity line first.blocks first.count k) number old new → AreFoundOrMade (Reads read) site key identity old new
