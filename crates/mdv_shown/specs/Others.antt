-- What is written to another database's replica is nothing to this one's world.
use Rattle.std.specs.Prelude.{◌≡◌, ℕ, ◌<◌, ◌^◌, List, Option}
use Rattle.mdv_shown.specs.Below.{Identity, Mark, SliceLine, Master, Head, Slot, Image, IsTable, MayClaim, MayFill, Core}
use Rattle.mdv_shown.specs.Site.{Site, IsSite, place_on}
use Rattle.mdv_shown.specs.Found.{Counts, IsFound}
use Rattle.mdv_shown.specs.Shown.{Shows}
use Rattle.mdv_shown.specs.Laws.{Reads}

-- a boot of its own key finds this replica on one of the site's slices, and it isn't of this database: it has another key, as two sets
-- on one slice have, or another identity, as an earlier database has
pub record IsOther {Table : Type 0} (Spells : List ℕ → Table → Type 0) (site : Site) (identity : Identity) (image : Image) (line : SliceLine) (k : ℕ) (first : Master) (head : Head) : Type 0 where
  pub site_is : IsSite site
  pub found : IsFound Spells (record site { key = head.master.key }) line k (image line.at.drive.0) first head
  pub other : head.master.key ≡ site.key → head.master.identity ≡ identity → ⊥

-- At each moment of another's claim or table the image goes on showing the world.
pub record OthersGo (T : Type 0) : Type 0 where
  pub claims : (read : List ℕ → Option T) (site : Site) (identity : Identity) (tables : ℕ → T) (w : Core) (old new : Image) (line : SliceLine) (k : ℕ) (first : Master) (head : Head) (number : ℕ)
      → IsOther (Reads read) site identity old line k first head → number < 2 ^ 63 → Shows (Reads read) site identity tables w old
      → MayClaim (place_on line first.blocks first.count k) number old new → Shows (Reads read) site identity tables w new
  pub slots : (read : List ℕ → Option T) (site : Site) (identity : Identity) (tables : ℕ → T) (w : Core) (old new : Image) (line : SliceLine) (k : ℕ) (first : Master) (head : Head) (slot : Slot) (mark : Mark) (bytes : ℕ)
      (body : List (List ℕ)) → IsOther (Reads read) site identity old line k first head → IsTable (Counts (Reads read)) (place_on line first.blocks first.count k) mark bytes body
      → Shows (Reads read) site identity tables w old → MayFill (place_on line first.blocks first.count k) slot mark bytes body old new → Shows (Reads read) site identity tables w new
