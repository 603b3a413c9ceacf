-- An open database stays open while something is done on other slices, or behind its replicas.
use Rattle.std.proofs.Common.{◌≡◌, ℕ, ◌+◌, ◌*◌, ◌<◌, ◌≤◌, true, Contains, refl, sym, subst, arith}
use Rattle.mdv_replica.specs.Form.{other_slot}
use Rattle.mdv_replica.specs.Replica.{body_at, slot_blocks}
use Rattle.mdv_shelf.proofs.Everywhere.{everywhere_apart, last_image}
use Rattle.mdv_shelf.specs.Area.{AreApart, KeptOutside, range}
use Rattle.mdv_shelf.specs.Tale.{last}
use Rattle.mdv_shelf.specs.Everywhere.{Everywhere, Image}
use Rattle.mdv_shown.proofs.Elsewhere.{found_kept, in_range, range_has}
use Rattle.mdv_shown.proofs.Rewritten.{body_within}
use Rattle.mdv_shown.proofs.Slots.{shows_kept}
use Rattle.mdv_shown.specs.Found.{IsOwn}
use Rattle.mdv_shown.specs.Shown.{IsNewestOf}
use Rattle.mdv_shown.specs.Site.{line_area}
use Rattle.mdv_shown.specs.declared.site.Site.{Site}
use Rattle.mdv_replica.specs.declared.replica.Slot.{Slot}
use Rattle.mdv_store.specs.Records.{Spells}
use Rattle.mdv_places.specs.Below.{Area, Geometry, IsOpenedAt, Mark, Opened, Replica, Table, Tale, at_of, replicas_of, site_of}

-- the blocks of a slice from the first master on, up to the end of this replica
abbrev pub chain_area : Replica → Area
chain_area r = range r.line.at.drive.0 (r.line.at.start + 16) (r.number * r.first.blocks + r.first.blocks)

module _ (g : Geometry) (o : Opened) where
  abbrev site : Site
  site = site_of g o.key

  abbrev Own : Replica → Image → Type 0
  Own r image = IsOwn (Spells g) site o.identity r.line r.number image r.first r.head

  -- What is known of a replica rests on its slice, from the first master on up to its own end.
  module _ (r : Replica) (old new : Image) (same : (drive block : ℕ) → chain_area r drive block ≡ true → new drive block ≡ old drive block) (own : Own r old) where
    here : (block : ℕ) → r.line.at.start + 16 ≤ block → block < r.line.at.start + 16 + (r.number * r.first.blocks + r.first.blocks) → new r.line.at.drive.0 block ≡ old r.line.at.drive.0 block
    here block from to = same r.line.at.drive.0 block (range_has r.line.at.drive.0 (r.line.at.start + 16) (r.number * r.first.blocks + r.first.blocks) block from to)

    own_same : Own r new
    own_same = record {
      found = found_kept (Spells g) site r.line (old r.line.at.drive.0) (new r.line.at.drive.0) r.first r.number r.head (λ block from to. here block (omega (arith, from)) (omega (arith, to))) own.found;
      of_identity = own.of_identity;
    }

    in_body : (slot : Slot) (block : ℕ) → body_at (at_of r) slot ≤ block → block < body_at (at_of r) slot + slot_blocks r.first.blocks → new r.line.at.drive.0 block ≡ old r.line.at.drive.0 block
    in_body slot block from to =
        let w = body_within (at_of r) slot block own.found.located.lies.least from to in
        let low = w.0 in
        let high = w.1 in
        here block (omega (arith, low)) (omega (arith, high))

    newest_same : (slot : Slot) (mark : Mark) (table : Table) → IsNewestOf (Spells g) (at_of r) (old r.line.at.drive.0) r.head slot mark table → IsNewestOf (Spells g) (at_of r) (new r.line.at.drive.0) r.head slot mark table
    newest_same slot mark table is = record {
      shows = shows_kept (Spells g) (at_of r) (old r.line.at.drive.0) (new r.line.at.drive.0) r.head r.head slot mark table refl (in_body slot) is.shows;
      last = λ other t it. is.last other t (shows_kept (Spells g) (at_of r) (new r.line.at.drive.0) (old r.line.at.drive.0) r.head r.head (other_slot slot) other t refl (λ block from to. sym (in_body (other_slot slot) block from to)) it);
    }

  -- All that is done lies apart from them.
  module _ (area : Area) (t m : Tale) (kept : KeptOutside area t m) (apart : (r : Replica) → Contains (replicas_of o.seats) r → AreApart area (chain_area r)) where
    own_stays : (r : Replica) → Contains (replicas_of o.seats) r → Everywhere (Own r) t → Everywhere (Own r) m
    own_stays r has = everywhere_apart (Own r) (chain_area r) area t m (λ old new same own. own_same r old new same own) (apart r has) kept

    abbrev Shows : Replica → Slot → Image → Type 0
    Shows r slot image = Own r image × IsNewestOf (Spells g) (at_of r) (image r.line.at.drive.0) r.head slot o.mark o.table

    shows_stays : (r : Replica) (slot : Slot) → Contains (replicas_of o.seats) r → Everywhere (Shows r slot) t → Everywhere (Shows r slot) m
    shows_stays r slot has = everywhere_apart (Shows r slot) (chain_area r) area t m (λ old new same is. (own_same r old new same is.0, newest_same r old new same is.0 slot o.mark o.table is.1)) (apart r has) kept

    pub opened_aside : IsOpenedAt g o t → IsOpenedAt g o m
    opened_aside opened = record {
      sound = opened.sound;
      of_geometry = opened.of_geometry;
      held = record { each = λ r has. own_stays r has (opened.held.each r has); once = opened.held.once };
      named = opened.named;
      shown = λ r has. (let shown = opened.shown r has in record {
        slot = shown.slot;
        each = λ image is. (shows_stays r shown.slot has (λ before at. (opened.held.each r has before at, shown.each before at)) image is).1;
      });
    }

  -- or from their slices
  pub opened_beside : (area : Area) (t m : Tale) → KeptOutside area t m → ((r : Replica) → Contains (replicas_of o.seats) r → AreApart area (line_area r.line)) → IsOpenedAt g o t → IsOpenedAt g o m
  opened_beside area t m kept apart opened = opened_aside area t m kept (λ r has drive block in_it chain.
      let own = opened.held.each r has (last t) (last_image t) in
      let fits = own.found.within in
      let is = in_range r.line.at.drive.0 (r.line.at.start + 16) (r.number * r.first.blocks + r.first.blocks) drive block chain in
      let from = is.1 in
      let to = is.2 in
      apart r has drive block in_it (subst (λ (d : ℕ). line_area r.line d block ≡ true) is.0 (range_has r.line.at.drive.0 r.line.at.start r.line.at.blocks block (omega (arith, from)) (omega (arith, to, fits))))) opened
