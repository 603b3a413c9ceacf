-- What lasts over crashes, and over what is done elsewhere.
use Rattle.std.proofs.Common.{◌≡◌, inl, inr, ℕ, ◌+◌, ◌-◌, ◌<◌, ◌≤◌, true, not, List, [], Contains, refl, sym, ◌∙◌, ap, arith}
use Rattle.std.proofs.lemmas.Bool.{cases_Bool, false≢true, not_from_false}
use Rattle.std.proofs.lemmas.List.Folds.{list_any-from_Any}
use Rattle.mdv_base.specs.declared.mark.Mark.{Mark}
use Rattle.mdv_name.specs.declared.slice_lines.SliceLine.{SliceLine}
use Rattle.mdv_replica.specs.Form.{other_slot}
use Rattle.mdv_replica.specs.Replica.{body_at, slot_blocks}
use Rattle.mdv_replica.specs.declared.forms.Master.{Master}
use Rattle.mdv_replica.specs.declared.replica.Head.{Head}
use Rattle.mdv_replica.specs.declared.replica.PlaceAt.{PlaceAt}
use Rattle.mdv_replica.specs.declared.replica.Slot.{Slot}
use Rattle.mdv_shelf.specs.Area.{range}
use Rattle.mdv_shelf.specs.Tale.{last}
use Rattle.mdv_shelf.proofs.Everywhere.{everywhere_apart, everywhere_begun, last_image}
use Rattle.mdv_shown.specs.Found.{IsFound, IsOwn}
use Rattle.mdv_shown.specs.Shown.{IsNewestOf}
use Rattle.mdv_shown.proofs.Elsewhere.{found_kept, range_has}
use Rattle.mdv_shown.proofs.Framed.{shows_rest}
use Rattle.mdv_shown.proofs.Rewritten.{body_within}
use Rattle.mdv_shown.proofs.Slots.{shows_kept}
use Rattle.mdv_standing.specs.Holding.{Holds}
use Rattle.mdv_standing.specs.Laws.{ShowsNoTable}
use Rattle.mdv_standing.specs.Matching.{tables_of}
use Rattle.mdv_standing.specs.Worlds.{IsWorld}
use Rattle.mdv_standing.proofs.Holding.{all_stand, none_stand}
use Rattle.mdv_standing.proofs.Listed.{frame_still, listed_still}
use Rattle.mdv_survey.specs.Replica.{at_of}
use Rattle.mdv_store.specs.Seats.{drive_of}
use Rattle.mdv_databases.specs.Below.{Area, AreApart, Core, Database, Everywhere, Geometry, HasNoReplica, Identity, Image, IsBlank, IsImage, IsOpenedAt, IsReadyWith, Key, KeptOutside, Log, Opened, Spells, Table, Tale, log_of, restarted, site_area, site_of, spots_of}
use Rattle.mdv_databases.specs.Going.{IsOpenIn}
use Rattle.mdv_databases.specs.Lasting.{AreFreed, HasNoTable, IsElsewhere, LeavesNoMore}
use Rattle.mdv_databases.specs.Standing.{Stand}
use Rattle.mdv_databases.proofs.Going.{free_still}

pub stand_crashed : (g : Geometry) (all : List Database) (m : Tale) (image : Image) (told : List ℕ) → Stand g all m → IsImage m image → Stand g all (restarted image told)
stand_crashed g all m image told s is = record {
  worlds = all_stand (Spells g) g all m image told s.worlds is;
  logs = s.logs;
  ended = s.ended;
  current = s.current;
  over = λ d has over. free_still g d m (restarted image told) (λ blank. everywhere_begun (ShowsNoTable (Spells g) (site_of g d.key) d.identity) (record { block = image; told = told }) (blank image is)) (s.over d has over);
}

pub stand_fewer : (g : Geometry) (all : List Database) (t u : Tale) → LeavesNoMore t u → Stand g all t → Stand g all u
stand_fewer g all t u fewer s = record {
  worlds = λ image is. s.worlds image (fewer image is);
  logs = s.logs;
  ended = s.ended;
  current = s.current;
  over = λ d has over. free_still g d t u (λ blank image is. blank image (fewer image is)) (s.over d has over);
}

pub freed_fewer : (g : Geometry) (all : List Database) (key : Key) (t u : Tale) → LeavesNoMore t u → AreFreed g all key t → AreFreed g all key u
freed_fewer g all key t u fewer free d has keyed = free_still g d t u (λ blank image is. blank image (fewer image is)) (free d has keyed)

pub opened_fewer : (g : Geometry) (o : Opened) (t u : Tale) → LeavesNoMore t u → IsOpenedAt g o t → IsOpenedAt g o u
opened_fewer g o t u fewer is = record {
  sound = is.sound;
  of_geometry = is.of_geometry;
  held = record { each = λ r has image im. is.held.each r has image (fewer image im); once = is.held.once };
  named = is.named;
  shown = λ r has. record { slot = (is.shown r has).slot; each = λ image im. (is.shown r has).each image (fewer image im) };
}

pub open_fewer : (g : Geometry) (o : Opened) (all : List Database) (t u : Tale) → LeavesNoMore t u → IsOpenIn g o all t → IsOpenIn g o all u
open_fewer g o all t u fewer is = record { its = is.its; lives = is.lives; newest = is.newest; ready = λ image im. is.ready image (fewer image im); opened = opened_fewer g o t u fewer is.opened }

pub stand_new : (g : Geometry) (image : Image) (told : List ℕ) → HasNoReplica (Spells g) g image → Stand g [] (restarted image told)
stand_new g image told none = record {
  worlds = none_stand (Spells g) g image told none;
  logs = λ d has. absurd (omega (arith, has.1));
  ended = λ d has. absurd (omega (arith, has.1));
  current = λ d has. absurd (omega (arith, has.1));
  over = λ d has. absurd (omega (arith, has.1));
}

-- what a replica shows rests on the blocks of its place
newest_kept : (g : Geometry) (at : PlaceAt) (old new : ℕ → List ℕ) (head : Head) (slot : Slot) (mark : Mark) (table : Table) → 16 ≤ at.place.blocks → ((block : ℕ) → at.first ≤ block → block < at.first + at.place.blocks → new block ≡ old block)
    → IsNewestOf (Spells g) at old head slot mark table → IsNewestOf (Spells g) at new head slot mark table
newest_kept g at old new head slot mark table least same is = record {
  shows = shows_kept (Spells g) at old new head head slot mark table refl (body slot) is.shows;
  last = λ other t it. is.last other t (shows_kept (Spells g) at new old head head (other_slot slot) other t refl (λ block from to. sym (body (other_slot slot) block from to)) it);
} where
  body : (s : Slot) (block : ℕ) → body_at at s ≤ block → block < body_at at s + slot_blocks at.place.blocks → new block ≡ old block
  body s block from to = (let w = body_within at s block least from to in same block (omega (arith, w.0)) w.1)

-- all blocks but those of an area
abbrev outside : Area → Area
outside area drive block = not (area drive block)

-- the one image has those as the other one does
abbrev IsSameOutside : Area → Image → Image → Type 0
IsSameOutside area old new = (drive block : ℕ) → outside area drive block ≡ true → new drive block ≡ old drive block

module _ (g : Geometry) (area : Area) (elsewhere : IsElsewhere g area) where
  -- the slices of a key have none of the area's
  module _ (key : Key) (old new : Image) (same : IsSameOutside area old new) where
    site_same : (drive block : ℕ) → site_area (site_of g key) drive block ≡ true → new drive block ≡ old drive block
    site_same drive block has = elim (cases_Bool (area drive block)) [
      | inl within ↦ absurd (elsewhere key drive block within has)
      | inr out ↦ same drive block (not_from_false (area drive block) out)
    ]

    line_same : (line : SliceLine) → Contains (site_of g key).lines line → (block : ℕ) → line.at.start + 16 ≤ block → block < line.at.start + line.at.blocks → new line.at.drive.0 block ≡ old line.at.drive.0 block
    line_same line one_of block from to =
        site_same line.at.drive.0 block (list_any-from_Any (λ (l : SliceLine). range l.at.drive.0 (l.at.start + 16) (l.at.blocks - 16) line.at.drive.0 block) (site_of g key).lines
        (one_of.0, line, one_of.1, one_of.2, range_has line.at.drive.0 (line.at.start + 16) (line.at.blocks - 16) block from (omega (arith, from, to))))

    found_still : (line : SliceLine) (k : ℕ) (first : Master) (head : Head) → IsFound (Spells g) (site_of g key) line k (old line.at.drive.0) first head → IsFound (Spells g) (site_of g key) line k (new line.at.drive.0) first head
    found_still line k first head is =
        let within = is.within in
        found_kept (Spells g) (site_of g key) line (old line.at.drive.0) (new line.at.drive.0) first k head (λ block from to. line_same line is.one_of block from (omega (arith, to, within))) is

    own_still : (identity : Identity) (line : SliceLine) (k : ℕ) (first : Master) (head : Head) → IsOwn (Spells g) (site_of g key) identity line k old first head → IsOwn (Spells g) (site_of g key) identity line k new first head
    own_still identity line k first head own = record { found = found_still line k first head own.found; of_identity = own.of_identity }

    world_still : (identity : Identity) (log : Log) (w : Core) → IsWorld (Spells g) (site_of g key) identity log w old → IsWorld (Spells g) (site_of g key) identity log w new
    world_still identity log w world = record {
      reached = world.reached;
      matches = world.matches;
      shows = shows_rest (Spells g) (site_of g key) identity (tables_of log.family) w.family w.places old new site_same world.shows;
      listed = listed_still (Spells g) (site_of g key) identity log w old new (frame_still (Spells g) (site_of g key) identity old new site_same) world.listed;
    }

  back : (old new : Image) → IsSameOutside area old new → IsSameOutside area new old
  back old new same drive block out = sym (same drive block out)

  holds_still : (all : List Database) (old new : Image) → IsSameOutside area old new → Holds (Spells g) g all old → Holds (Spells g) g all new
  holds_still all old new same h = record {
    worlds = λ d has. (let w = h.worlds d has in (w.0, world_still d.key old new same d.identity d.log w.0 w.1));
    known = λ key line k first head found. h.known key line k first head (found_still key new old (back old new same) line k first head found);
    once = h.once;
  }

  blank_still : (key : Key) (identity : Identity) (old new : Image) → IsSameOutside area old new → ShowsNoTable (Spells g) (site_of g key) identity old → ShowsNoTable (Spells g) (site_of g key) identity new
  blank_still key identity old new same blank line k first head own = blank line k first head (own_still key new old (back old new same) identity line k first head own)

  module _ (t m : Tale) (kept : KeptOutside area t m) where
    -- what rests on the blocks outside of the area
    still : (P : Image → Type 0) → ((old new : Image) → IsSameOutside area old new → P old → P new) → Everywhere P t → Everywhere P m
    still P rests each = everywhere_apart P (outside area) area t m rests apart kept each where
      apart : AreApart area (outside area)
      apart drive block has out = false≢true (sym (ap not has) ∙ out)

    blank_elsewhere : (key : Key) (identity : Identity) → IsBlank g key identity t → IsBlank g key identity m
    blank_elsewhere key identity blank = still (ShowsNoTable (Spells g) (site_of g key) identity) (blank_still key identity) blank

    pub tables_elsewhere : (key : Key) → HasNoTable g key t → HasNoTable g key m
    tables_elsewhere key none identity = blank_elsewhere key identity (none identity)

    pub freed_elsewhere : (all : List Database) (key : Key) → AreFreed g all key t → AreFreed g all key m
    freed_elsewhere all key free d has keyed = free_still g d t m (blank_elsewhere d.key d.identity) (free d has keyed)

    pub stand_elsewhere : (all : List Database) → Stand g all t → Stand g all m
    stand_elsewhere all s = record {
      worlds = still (Holds (Spells g) g all) (holds_still all) s.worlds;
      logs = s.logs;
      ended = s.ended;
      current = s.current;
      over = λ d has over. free_still g d t m (blank_elsewhere d.key d.identity) (s.over d has over);
    }

    pub opened_elsewhere : (o : Opened) → IsOpenedAt g o t → IsOpenedAt g o m
    opened_elsewhere o is = record {
      sound = is.sound;
      of_geometry = is.of_geometry;
      held = record {
        each = λ r has. still (λ image. IsOwn (Spells g) (site_of g o.key) o.identity r.line r.number image r.first r.head) (λ old new same own. own_still o.key old new same o.identity r.line r.number r.first r.head own) (is.held.each r has);
        once = is.held.once;
      };
      named = is.named;
      shown = λ r has.
          let found = (is.held.each r has (last t) (last_image t)).found in
          let within = found.within in
          let shown = is.shown r has in
          record {
            slot = shown.slot;
            each = still (λ image. IsNewestOf (Spells g) (at_of r) (image (drive_of r)) r.head shown.slot o.mark o.table)
                (λ old new same was. newest_kept g (at_of r) (old (drive_of r)) (new (drive_of r)) r.head shown.slot o.mark o.table found.located.lies.least
                (λ block from to. line_same o.key old new same r.line found.one_of block (omega (arith, from)) (omega (arith, to, within))) was)
                shown.each;
          };
    }

    pub open_elsewhere : (o : Opened) (all : List Database) → IsOpenIn g o all t → IsOpenIn g o all m
    open_elsewhere o all is = record {
      its = is.its;
      lives = is.lives;
      newest = is.newest;
      ready = still (λ image. (w : Core) × IsWorld (Spells g) (site_of g o.key) o.identity (log_of all o.key) w image × IsReadyWith (spots_of o.seats) w) (λ old new same has. (has.0, world_still o.key old new same o.identity (log_of all o.key) has.0 has.1, has.2)) is.ready;
      opened = opened_elsewhere o is.opened;
    }
