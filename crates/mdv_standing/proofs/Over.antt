-- No boot adopts a database that is gone.
use Rattle.std.proofs.Common.{◌≡◌, ℕ, ◌+◌, ◌<◌, ◌^◌, true, List, sym, subst}
use Rattle.mdv_shown.proofs.Slots.{OneTable, shows_one}
use Rattle.mdv_shown.specs.Shown.{SlotShows}
use Rattle.mdv_store_law.specs.Log.{IsLog}
use Rattle.mdv_standing.specs.Adopting.{AreOwn}
use Rattle.mdv_standing.specs.Below.{Core, Geometry, Identity, Image, IsChosen, IsSite, Log, Mark, Over, Seen, Site, Slot, Table, after_all, covers, greatest_seen, is_in, is_majority, place_on, spots_seen}
use Rattle.mdv_standing.specs.Matching.{HasStaleVote, spots_of}
use Rattle.mdv_standing.specs.Worlds.{IsWorld}
use Rattle.mdv_standing.proofs.Adopting.{finds}
use Rattle.mdv_standing.proofs.Lawful.{is_there}
use Rattle.mdv_standing.proofs.Looking.{looks}

module _ (Spells : List ℕ → Table → Type 0) (site : Site) (identity : Identity) (log : Log) where
  -- no boot of an image goes past reading once the log is over
  pub none_here : (g : Geometry) (one : OneTable Spells) (w : Core) (image : Image) (seen : List Seen) (s : Seen) (slot : Slot) (mark : Mark) (table : Table) → IsSite site → IsLog g log → log.fate ≡ Over → IsWorld Spells site identity log w image
      → AreOwn Spells site identity image seen → IsChosen seen s slot mark → SlotShows Spells (place_on s.line s.first.blocks s.first.count s.number) (image s.line.at.drive.0) s.head slot mark table
      → covers (is_majority (is_in (spots_seen seen))) (spots_of site table.plan.lists) ≡ true → (HasStaleVote site log seen mark → ⊥) → greatest_seen seen + 1 < 2 ^ 63 → ⊥
  none_here g one w image seen s slot mark table site_is is_log over world own chosen shown quorum fair small =
      let look = looks Spells site identity log w image world seen own in
      let found = finds Spells site identity log (after_all w look.events) image look.world seen look.known s slot mark chosen in
      let v = found.version in
      let same : v.table ≡ table =
      (shows_one Spells one (place_on s.line s.first.blocks s.first.count s.number) (image s.line.at.drive.0) s.head slot mark mark v.table table found.shows shown).1 in
      let live = is_there Spells g site identity log (after_all w look.events) image seen s slot v site_is is_log look.world look.known (subst (λ (k : Mark). IsChosen seen s slot k) (sym found.is.marked) chosen) found.is.one_of
      (subst (λ (u : Table). covers (is_majority (is_in (spots_seen seen))) (spots_of site u.plan.lists) ≡ true) (sym same) quorum)
      (subst (λ (k : Mark). HasStaleVote site log seen k → ⊥) (sym found.is.marked) fair) small in
      let gone = (look.world.matches.gone over).1 in
      cc (live, gone)
