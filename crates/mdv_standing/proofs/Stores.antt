-- A log and the worlds of all images go on together while a store boots and commits.
use Rattle.std.proofs.Common.{◌≡◌, inl, inr, ℕ, ◌+◌, ◌<◌, ◌^◌, Bool, true, false, List, [], ◌∷◌, refl, sym, ap, subst, Option, None}
use Rattle.mdv_shelf.proofs.Everywhere.{last_image}
use Rattle.mdv_shelf.specs.Tale.{last}
use Rattle.mdv_shown.proofs.Slots.{OneTable, shows_one}
use Rattle.mdv_store_law.specs.Log.{IsMade, answered}
use Rattle.mdv_standing.specs.Below.{Change, Claims, Core, Fills, Geometry, Head, Identity, Image, IsAbove, IsBodyOf, IsChosen, IsImage, IsSpareSlot, Leaves, Log, Mark, Master, MayClaim, MayFill, MayHappen, Seen, Site, SliceLine, Slot, Spot, Table, Tale, WritesLog, Written, after_all, covers, greatest_seen, is_claimed, is_in, is_majority, is_named, is_written, log_after, place_on, spot_on, spots_seen}
use Rattle.mdv_standing.specs.Adopting.{IsBeginning, IsClaim, IsSlotWrite, drawn}
use Rattle.mdv_standing.specs.Committing.{IsCommit, MayFollow}
use Rattle.mdv_standing.specs.Matching.{HasStaleVote, by_majority_on, is_set, spots_of, voted_table}
use Rattle.mdv_standing.specs.Standing.{Covers, CoversWith}
use Rattle.mdv_standing.specs.Turning.{Begins, IsBootRead, IsBooting, IsNewest, IsOpen, IsPlaceAt, IsWriting}
use Rattle.mdv_standing.specs.Worlds.{IsReadyWith, IsTaking, IsWorld, MayBeClaimed}
use Rattle.mdv_standing.proofs.Looking.{looks}
use Rattle.mdv_standing.proofs.Adopting.{begins, claim_answered, claiming, draws, finds, may_write}
use Rattle.mdv_standing.proofs.Committing.{commit_begins, may_commit_it}
use Rattle.mdv_standing.proofs.Taking.{answers, slot_taken, slotting}

module _ (Spells : List ℕ → Table → Type 0) (site : Site) (identity : Identity) (log : Log) (t : Tale) where
  -- a boot read: the version is the same whatever a crash leaves
  module _ (one : OneTable Spells) (seen : List Seen) (s : Seen) (slot : Slot) (mark : Mark) (table : Table) (r : IsBootRead Spells site identity t seen s slot mark table) (covered : Covers Spells site identity log t)
      (fair : HasStaleVote site log seen mark → ⊥) where
    pub all_read : IsBooting Spells site identity log t mark table (greatest_seen seen + 1) []
    all_read =
        let here = last t in
        let is = last_image t in
        let w = covered here is in
        let look = looks Spells site identity log w.0 here w.1 seen (r.own here is) in
        let found = finds Spells site identity log (after_all w.0 look.events) here look.world seen look.known s slot mark r.chosen in
        let v = found.version in
        let same : v.table ≡ table =
        (shows_one Spells one (place_on s.line s.first.blocks s.first.count s.number) (here s.line.at.drive.0) s.head slot mark mark v.table table found.shows (r.shows here is)).1 in
        record {
          version = v;
          is = found.is;
          same = same;
          each = λ image at.
              let x = covered image at in
              let to = looks Spells site identity log x.0 image x.1 seen (r.own image at) in (
                after_all x.0 to.events,
                to.world,
                subst (λ (k : Mark). MayBeClaimed k (greatest_seen seen + 1) [] (after_all x.0 to.events)) found.is.marked
                    (draws Spells site identity log (after_all x.0 to.events) image to.world seen to.known s slot v (subst (λ (k : Mark). IsChosen seen s slot k) (sym found.is.marked) r.chosen) found.is.one_of
                    (subst (λ (u : Table). covers (is_majority (is_in (spots_seen seen))) (spots_of site u.plan.lists) ≡ true) (sym same) r.quorum)
                    (subst (λ (k : Mark). HasStaleVote site log seen k → ⊥) (sym found.is.marked) fair)),
              );
        }

  module _ (line : SliceLine) (k : ℕ) (first : Master) (head : Head) (mark : Mark) (table : Table) where
    abbrev p : Spot
    p = spot_on line first.blocks k

    -- a claim, of the version with that mark
    claim_of : (number : ℕ) (ok : List Spot) → IsPlaceAt Spells site identity t table line k first head → number < 2 ^ 63 → (b : IsBooting Spells site identity log t mark table number ok)
        → (w : Core) (old : Image) → IsImage t old → IsWorld Spells site identity log w old → MayBeClaimed mark number ok w → IsClaim Spells site identity log w old line k first head b.version number ok
    claim_of number ok at small b w old is world known = record {
      site_is = at.site_is;
      world = world;
      own = at.each old is;
      one_of = b.is.one_of;
      named = subst (λ (u : Table). is_named (spots_of site u.plan.lists) p ≡ true) (sym b.same) at.named;
      small = small;
      known = subst (λ (m : Mark). MayBeClaimed m number ok w) (sym b.is.marked) known;
    }

    module _ (m : Tale) (number : ℕ) (ok : List Spot) (at : IsPlaceAt Spells site identity t table line k first head) (small : number < 2 ^ 63) (b : IsBooting Spells site identity log t mark table number ok) where
      still : (more : List Spot) → CoversWith Spells site identity (λ image w. MayBeClaimed b.version.mark number more w) log m → IsBooting Spells site identity log m mark table number more
      still more each = record {
        version = b.version;
        is = b.is;
        same = b.same;
        each = subst (λ (n : Mark). CoversWith Spells site identity (λ image w. MayBeClaimed n number more w) log m) b.is.marked each;
      }

      pub all_claiming : Leaves (MayClaim (place_on line first.blocks first.count k) number) t m → IsBooting Spells site identity log m mark table number ok
      all_claiming leaves = still ok (λ image is.
          let from = leaves image is in
          let w = b.each from.0 from.1 in
          let to = claiming Spells site identity log w.0 from.0 line k first head b.version number ok (claim_of number ok at small b w.0 from.0 from.1 w.1 w.2) image from.2 in
          (after_all w.0 to.events, to.world, to.known))

      pub all_claimed : Leaves (Claims (place_on line first.blocks first.count k) number) t m → IsBooting Spells site identity log m mark table number (p ∷ ok)
      all_claimed leaves = still (p ∷ ok) (λ image is.
          let from = leaves image is in
          let w = b.each from.0 from.1 in
          let to = claim_answered Spells site identity log w.0 from.0 line k first head b.version number ok (claim_of number ok at small b w.0 from.0 from.1 w.1 w.2) image from.2 in
          (after_all w.0 to.events, to.world, to.known))

    module _ (g : Geometry) (number : ℕ) (ok : List Spot) (at : IsPlaceAt Spells site identity t table line k first head) (answered_here : is_in ok p ≡ true)
        (enough : is_claimed (is_set site.key) (voted_table site table) (is_in ok) ≡ true) (b : IsBooting Spells site identity log t mark table number ok) where
      beginning : (w : Core) (image : Image) → IsImage t image → IsWorld Spells site identity log w image → MayBeClaimed mark number ok w → IsBeginning Spells site identity log w image p b.version number ok
      beginning w image is world known = record {
        world = world;
        own = record { line = line; number = k; first = first; head = head; own = at.each image is; spot = refl };
        one_of = b.is.one_of;
        named = subst (λ (u : Table). is_named (spots_of site u.plan.lists) p ≡ true) (sym b.same) at.named;
        answered = answered_here;
        enough = subst (λ (u : Table). is_claimed (is_set site.key) (voted_table site u) (is_in ok) ≡ true) (sym b.same) enough;
        known = subst (λ (n : Mark). MayBeClaimed n number ok w) (sym b.is.marked) known;
      }

      abbrev write : Table → Log
      write u = log_after log (WritesLog (drawn number) None b.version.changes u)

      pub all_begin : Begins Spells g site identity (by_majority_on site table) log t (drawn number) None table
      all_begin =
          let image = last t in
          let w = b.each image (last_image t) in
          record {
            before = b.version.changes;
            may = subst (λ (u : Table). MayHappen g log (WritesLog (drawn number) None b.version.changes u)) b.same
                (may_write Spells site identity log w.0 image p b.version number ok (beginning w.0 image (last_image t) w.1 w.2) g);
            writing = record {
              newest = record { version = _; older = log.family; family = refl; marked = refl; same = refl };
              each = subst (λ (u : Table). CoversWith Spells site identity (λ image w. IsTaking (by_majority_on site u) (drawn number) [] w) (write u) t) b.same
                  (λ new is.
                  let x = b.each new is in
                  let to = begins Spells site identity log x.0 new p b.version number ok (beginning x.0 new is x.1 x.2) in
                  (after_all x.0 to.events, to.world, to.known));
            };
          }

    -- a slot of the newest version
    slot_of : (bytes : ℕ) (body : List (List ℕ)) (by_majority : Bool) (took : List Spot) → IsPlaceAt Spells site identity t table line k first head → IsBodyOf Spells (place_on line first.blocks first.count k) mark bytes body table → IsAbove mark head
        → (n : IsNewest log mark table) → (w : Core) (old : Image) → IsImage t old → IsWorld Spells site identity log w old → IsTaking by_majority mark took w
        → IsSlotWrite Spells site identity log w old line k first head n.version bytes body by_majority took
    slot_of bytes body by_majority took at is_body above n w old is world known = record {
      site_is = at.site_is;
      world = world;
      own = at.each old is;
      older = n.older;
      newest = n.family;
      named = subst (λ (u : Table). is_named (spots_of site u.plan.lists) p ≡ true) (sym n.same) at.named;
      body_is = subst (λ (x : Mark). IsBodyOf Spells (place_on line first.blocks first.count k) x bytes body n.version.table) (sym n.marked)
          (subst (λ (u : Table). IsBodyOf Spells (place_on line first.blocks first.count k) mark bytes body u) (sym n.same) is_body);
      above = subst (λ (x : Mark). IsAbove x head) (sym n.marked) above;
      known = subst (λ (x : Mark). IsTaking by_majority x took w) (sym n.marked) known;
    }

    module _ (m : Tale) (slot : Slot) (bytes : ℕ) (body : List (List ℕ)) (by_majority : Bool) (took : List Spot) (at : IsPlaceAt Spells site identity t table line k first head)
        (is_body : IsBodyOf Spells (place_on line first.blocks first.count k) mark bytes body table) (above : IsAbove mark head) where
      pub all_slotting : IsSpareSlot head slot → IsWriting Spells site identity by_majority log t mark table took → Leaves (MayFill (place_on line first.blocks first.count k) slot mark bytes body) t m
          → IsWriting Spells site identity by_majority log m mark table took
      all_slotting spare b leaves = record {
        newest = b.newest;
        each = λ image is.
            let from = leaves image is in
            let w = b.each from.0 from.1 in
            let n = b.newest in
            let to = slotting Spells site identity log w.0 from.0 line k first head n.version bytes body by_majority took (slot_of bytes body by_majority took at is_body above n w.0 from.0 from.1 w.1 w.2) image slot spare
            (subst (λ (x : Mark). MayFill (place_on line first.blocks first.count k) slot x bytes body from.0 image) (sym n.marked) from.2) in
            (after_all w.0 to.events, to.world, subst (λ (x : Mark). IsTaking by_majority x took (after_all w.0 to.events)) n.marked to.known);
      }

      pub all_slotted : IsWriting Spells site identity by_majority log t mark table took → Leaves (Fills (place_on line first.blocks first.count k) slot mark bytes body) t m
          → IsWriting Spells site identity by_majority log m mark table (p ∷ took)
      all_slotted b leaves = record {
        newest = b.newest;
        each = λ image is.
            let from = leaves image is in
            let w = b.each from.0 from.1 in
            let n = b.newest in
            let to = slot_taken Spells site identity log w.0 from.0 line k first head n.version bytes body by_majority took (slot_of bytes body by_majority took at is_body above n w.0 from.0 from.1 w.1 w.2) image slot
            (subst (λ (x : Mark). Fills (place_on line first.blocks first.count k) slot x bytes body from.0 image) (sym n.marked) from.2) in
            (after_all w.0 to.events, to.world, subst (λ (x : Mark). IsTaking by_majority x (p ∷ took) (after_all w.0 to.events)) n.marked to.known);
      }

    module _ (g : Geometry) (next : Table) (asked : Option Change) (took : List Spot) (at : IsPlaceAt Spells site identity t next line k first head) (made : IsMade g asked table next) (lists : MayFollow table.plan.lists next.plan.lists)
        (small : mark.count + 1 < 2 ^ 63) (b : IsOpen Spells site identity log t mark table took) where
      abbrev n : IsNewest log mark table
      n = b.newest

      commit : (w : Core) (image : Image) → IsImage t image → IsWorld Spells site identity log w image → IsReadyWith took w → IsCommit Spells site identity log w image p n.version next took
      commit w image is world known = record {
        world = world;
        own = record { line = line; number = k; first = first; head = head; own = at.each image is; spot = refl };
        older = n.older;
        newest = n.family;
        named = at.named;
        small = subst (λ (x : Mark). x.count + 1 < 2 ^ 63) (sym n.marked) small;
        follows = inl (subst (λ (u : Table). MayFollow u.plan.lists next.plan.lists) (sym n.same) lists);
        known = known;
      }

      abbrev after : Mark → Log
      after x = log_after log (WritesLog (record x { count = x.count + 1 }) asked n.version.changes next)

      pub all_change : Begins Spells g site identity false log t (record mark { count = mark.count + 1 }) asked next
      all_change =
          let image = last t in
          let w = b.each image (last_image t) in
          record {
            before = n.version.changes;
            may = subst (λ (x : Mark). MayHappen g log (WritesLog (record x { count = x.count + 1 }) asked n.version.changes next)) n.marked
                (may_commit_it Spells site identity log w.0 image p n.version next took (commit w.0 image (last_image t) w.1 w.2) g asked (subst (λ (u : Table). IsMade g asked u next) (sym n.same) made) (inr b.written));
            writing = record {
              newest = record { version = _; older = log.family; family = refl; marked = refl; same = refl };
              each = subst (λ (x : Mark). CoversWith Spells site identity (λ image w. IsTaking false (record x { count = x.count + 1 }) [] w) (after x) t) n.marked
                  (λ new is.
                  let y = b.each new is in
                  let to = commit_begins Spells site identity log y.0 new p n.version next took (commit y.0 new is y.1 y.2) asked in
                  (after_all y.0 to.events, to.world, to.known));
            };
          }

  -- enough places took the newest version
  pub all_answered : (mark : Mark) (table : Table) (by_majority : Bool) (took : List Spot) → is_written (record (voted_table site table) { by_majority = by_majority }) (is_in took) ≡ true
      → IsWriting Spells site identity by_majority log t mark table took → IsOpen Spells site identity (log_after log Written) t mark table took
  all_answered mark table by_majority took enough b =
      let n = b.newest in
      record {
        newest = record { version = record n.version { is_written = true }; older = n.older; family = ap answered n.family; marked = n.marked; same = n.same };
        written = refl;
        each = λ image is.
            let w = b.each image is in
            let to = answers Spells site identity log w.0 image n.version by_majority took (record {
              world = w.1;
              older = n.older;
              newest = n.family;
              enough = subst (λ (u : Table). is_written (record (voted_table site u) { by_majority = by_majority }) (is_in took) ≡ true) (sym n.same) enough;
              known = subst (λ (x : Mark). IsTaking by_majority x took w.0) (sym n.marked) w.2;
            }) in
            (after_all w.0 to.events, to.world, to.known);
      }
