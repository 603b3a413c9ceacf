-- The stretches of a boot, of a commit and of a creation, with the events of each.
use Rattle.std.proofs.Common.{◌≡◌, ℕ, ◌+◌, ◌<◌, ◌^◌, Bool, true, false, List, [], ◌∷◌, refl, sym, subst, Option, None}
use Rattle.mdv_shelf.proofs.Everywhere.{last_image}
use Rattle.mdv_shelf.specs.Tale.{last}
use Rattle.mdv_store_law.specs.Log.{IsMade}
use Rattle.mdv_standing.specs.Below.{Change, Claimed, Claims, Core, Everywhere, Filled, Fills, FirstIs, Formatted, Formats, Geometry, Head, Identity, Image, IsAbove, IsBodyOf, IsChosen, IsImage, IsSpareSlot, LeftClosed, Leaves, Lists, Lives, Log, Mark, Master, MayClaim, MayFill, MayFormat, MayHappen, Seen, Site, SliceLine, Slot, Slotted, Spot, Table, Tale, Told, Version, WritesLog, Written, after_all, covers, greatest_seen, is_claimed, is_in, is_majority, is_named, is_none, is_written, log_after, master_on, place_on, spot_on, spots_seen}
use Rattle.mdv_standing.specs.Adopting.{IsBeginning, IsClaim, IsLook, IsSlotWrite, drawn}
use Rattle.mdv_standing.specs.Committing.{IsCommit, MayChangeLists, MayListNext}
use Rattle.mdv_standing.specs.Creating.{AreAllPlaced, IsCreating, IsFormatting, MayBeFormatted, first_mark, issued_log}
use Rattle.mdv_standing.specs.Forming.{IsBehind, IsToFormat}
use Rattle.mdv_standing.specs.Laws.{HasNone}
use Rattle.mdv_standing.specs.Matching.{HasStaleVote, by_majority_on, is_set, spots_of, voted_table}
use Rattle.mdv_standing.specs.Others.{Anything}
use Rattle.mdv_standing.specs.Standing.{CoversWith}
use Rattle.mdv_standing.specs.Tracing.{IsCommitBegin, IsCreationBegin, IsStart, IsVersionWith, Traces}
use Rattle.mdv_standing.specs.Turning.{IsBootRead, IsNewest, IsPlaceAt}
use Rattle.mdv_standing.specs.Worlds.{IsNoneOr, IsReadyWith, IsTaking, IsWorld, MayBeClaimed, Turned}
use Rattle.mdv_standing.proofs.Looking.{looks}
use Rattle.mdv_standing.proofs.Adopting.{begins, claim_answered, claiming, draws, may_write}
use Rattle.mdv_standing.proofs.Committing.{commit_begins, may_commit_it}
use Rattle.mdv_standing.proofs.Creating.{first_formatted, first_formatting, later_formatted, later_formatting, writes_first}
use Rattle.mdv_standing.proofs.Creating as creating
use Rattle.mdv_standing.proofs.Lawful.{world_none}
use Rattle.mdv_standing.proofs.Taking.{answers, slot_taken, slotting}
use Rattle.mdv_standing.proofs.Tracing.{trace_by, trace_here}

module _ (Spells : List ℕ → Table → Type 0) (site : Site) (identity : Identity) (log : Log) (t : Tale) where
  -- a boot read
  pub traced_look : (seen : List Seen) (s : Seen) (slot : Slot) (mark : Mark) (table : Table) (v : Version) → IsBootRead Spells site identity t seen s slot mark table → IsVersionWith log mark table v → (HasStaleVote site log seen mark → ⊥)
      → Traces Spells site identity log log Anything (IsLook (spots_seen seen)) (MayBeClaimed mark (greatest_seen seen + 1) []) t t
  traced_look seen s slot mark table v r a fair =
      trace_here Spells site identity log log Anything (IsLook (spots_seen seen)) (MayBeClaimed mark (greatest_seen seen + 1) []) t (λ w image is world known.
      let to = looks Spells site identity log w image world seen (r.own image is) in
      record {
        events = to.events;
        are = to.are;
        may = to.may;
        world = to.world;
        known = subst (λ (n : Mark). MayBeClaimed n (greatest_seen seen + 1) [] (after_all w to.events)) a.is.marked
            (draws Spells site identity log (after_all w to.events) image to.world seen to.known s slot v (subst (λ (n : Mark). IsChosen seen s slot n) (sym a.is.marked) r.chosen) a.is.one_of
            (subst (λ (u : Table). covers (is_majority (is_in (spots_seen seen))) (spots_of site u.plan.lists) ≡ true) (sym a.same) r.quorum)
            (subst (λ (n : Mark). HasStaleVote site log seen n → ⊥) (sym a.is.marked) fair));
      })

  module _ (line : SliceLine) (k : ℕ) (first : Master) (head : Head) (mark : Mark) (table : Table) where
    abbrev p : Spot
    p = spot_on line first.blocks k

    -- claims, of the version with that mark
    module _ (v : Version) (a : IsVersionWith log mark table v) (number : ℕ) (ok : List Spot) (at : IsPlaceAt Spells site identity t table line k first head) where
      named : is_named (spots_of site v.table.plan.lists) p ≡ true
      named = subst (λ (u : Table). is_named (spots_of site u.plan.lists) p ≡ true) (sym a.same) at.named

      claim_of : number < 2 ^ 63 → (w : Core) (old : Image) → IsImage t old → IsWorld Spells site identity log w old → MayBeClaimed v.mark number ok w → IsClaim Spells site identity log w old line k first head v number ok
      claim_of small w old is world known = record { site_is = at.site_is; world = world; own = at.each old is; one_of = a.is.one_of; named = named; small = small; known = known }

      pub traced_claiming : (m : Tale) → number < 2 ^ 63 → Leaves (MayClaim (place_on line first.blocks first.count k) number) t m
          → Traces Spells site identity log log (MayBeClaimed mark number ok) (IsNoneOr (Claimed p)) (MayBeClaimed mark number ok) t m
      traced_claiming m small leaves = subst (λ (n : Mark). Traces Spells site identity log log (MayBeClaimed n number ok) (IsNoneOr (Claimed p)) (MayBeClaimed n number ok) t m) a.is.marked
          (trace_by Spells site identity (MayClaim (place_on line first.blocks first.count k) number) log log (MayBeClaimed v.mark number ok) (IsNoneOr (Claimed p)) (MayBeClaimed v.mark number ok) t m leaves
          (λ w old new is world known change. claiming Spells site identity log w old line k first head v number ok (claim_of small w old is world known) new change))

      pub traced_claimed : (m : Tale) → number < 2 ^ 63 → Leaves (Claims (place_on line first.blocks first.count k) number) t m
          → Traces Spells site identity log log (MayBeClaimed mark number ok) (λ es. es ≡ Claimed p ∷ []) (MayBeClaimed mark number (p ∷ ok)) t m
      traced_claimed m small leaves = subst (λ (n : Mark). Traces Spells site identity log log (MayBeClaimed n number ok) (λ es. es ≡ Claimed p ∷ []) (MayBeClaimed n number (p ∷ ok)) t m) a.is.marked
          (trace_by Spells site identity (Claims (place_on line first.blocks first.count k) number) log log (MayBeClaimed v.mark number ok) (λ es. es ≡ Claimed p ∷ []) (MayBeClaimed v.mark number (p ∷ ok)) t m leaves
          (λ w old new is world known claims. claim_answered Spells site identity log w old line k first head v number ok (claim_of small w old is world known) new claims))

      module _ (here : is_in ok p ≡ true) (enough : is_claimed (is_set site.key) (voted_table site table) (is_in ok) ≡ true) where
        beginning : (w : Core) (image : Image) → IsImage t image → IsWorld Spells site identity log w image → MayBeClaimed v.mark number ok w → IsBeginning Spells site identity log w image p v number ok
        beginning w image is world known = record {
          world = world;
          own = record { line = line; number = k; first = first; head = head; own = at.each image is; spot = refl };
          one_of = a.is.one_of;
          named = named;
          answered = here;
          enough = subst (λ (u : Table). is_claimed (is_set site.key) (voted_table site u) (is_in ok) ≡ true) (sym a.same) enough;
          known = known;
        }

        pub may_begin : (g : Geometry) → CoversWith Spells site identity (λ image w. MayBeClaimed mark number ok w) log t → MayHappen g log (WritesLog (drawn number) None v.changes table)
        may_begin g covers =
            let image = last t in
            let w = covers image (last_image t) in
            subst (λ (u : Table). MayHappen g log (WritesLog (drawn number) None v.changes u)) a.same
            (may_write Spells site identity log w.0 image p v number ok (beginning w.0 image (last_image t) w.1 (subst (λ (n : Mark). MayBeClaimed n number ok w.0) (sym a.is.marked) w.2)) g)

        abbrev write : Table → Log
        write u = log_after log (WritesLog (drawn number) None v.changes u)

        pub traced_begin : Traces Spells site identity log (log_after log (WritesLog (drawn number) None v.changes table)) (MayBeClaimed mark number ok) (λ es. es ≡ Slotted p LeftClosed ∷ []) (IsTaking (by_majority_on site table) (drawn number) []) t t
        traced_begin =
            subst (λ (n : Mark). Traces Spells site identity log (write table) (MayBeClaimed n number ok) (λ es. es ≡ Slotted p LeftClosed ∷ []) (IsTaking (by_majority_on site table) (drawn number) []) t t) a.is.marked
            (subst (λ (u : Table). Traces Spells site identity log (write u) (MayBeClaimed v.mark number ok) (λ es. es ≡ Slotted p LeftClosed ∷ []) (IsTaking (by_majority_on site u) (drawn number) []) t t) a.same
            (trace_here Spells site identity log (write v.table) (MayBeClaimed v.mark number ok) (λ es. es ≡ Slotted p LeftClosed ∷ []) (IsTaking (by_majority_on site v.table) (drawn number) []) t
            (λ w image is world known. begins Spells site identity log w image p v number ok (beginning w image is world known))))

    -- slots of the newest version
    module _ (bytes : ℕ) (body : List (List ℕ)) (by_majority : Bool) (took : List Spot) (at : IsPlaceAt Spells site identity t table line k first head)
        (is_body : IsBodyOf Spells (place_on line first.blocks first.count k) mark bytes body table) (above : IsAbove mark head) (n : IsNewest log mark table) (m : Tale) (slot : Slot) where
      slot_of : (w : Core) (old : Image) → IsImage t old → IsWorld Spells site identity log w old → IsTaking by_majority n.version.mark took w → IsSlotWrite Spells site identity log w old line k first head n.version bytes body by_majority took
      slot_of w old is world known = record {
        site_is = at.site_is;
        world = world;
        own = at.each old is;
        older = n.older;
        newest = n.family;
        named = subst (λ (u : Table). is_named (spots_of site u.plan.lists) p ≡ true) (sym n.same) at.named;
        body_is = subst (λ (x : Mark). IsBodyOf Spells (place_on line first.blocks first.count k) x bytes body n.version.table) (sym n.marked)
            (subst (λ (u : Table). IsBodyOf Spells (place_on line first.blocks first.count k) mark bytes body u) (sym n.same) is_body);
        above = subst (λ (x : Mark). IsAbove x head) (sym n.marked) above;
        known = known;
      }

      pub traced_slotting : IsSpareSlot head slot → Leaves (MayFill (place_on line first.blocks first.count k) slot mark bytes body) t m
          → Traces Spells site identity log log (IsTaking by_majority mark took) (IsNoneOr (Slotted p Filled)) (IsTaking by_majority mark took) t m
      traced_slotting spare leaves = subst (λ (x : Mark). Traces Spells site identity log log (IsTaking by_majority x took) (IsNoneOr (Slotted p Filled)) (IsTaking by_majority x took) t m) n.marked
          (trace_by Spells site identity (MayFill (place_on line first.blocks first.count k) slot mark bytes body) log log (IsTaking by_majority n.version.mark took) (IsNoneOr (Slotted p Filled)) (IsTaking by_majority n.version.mark took) t m leaves
          (λ w old new is world known change.
          slotting Spells site identity log w old line k first head n.version bytes body by_majority took (slot_of w old is world known) new slot spare
          (subst (λ (x : Mark). MayFill (place_on line first.blocks first.count k) slot x bytes body old new) (sym n.marked) change)))

      pub traced_slotted : Leaves (Fills (place_on line first.blocks first.count k) slot mark bytes body) t m
          → Traces Spells site identity log log (IsTaking by_majority mark took) (λ es. es ≡ Slotted p Filled ∷ []) (IsTaking by_majority mark (p ∷ took)) t m
      traced_slotted leaves = subst (λ (x : Mark). Traces Spells site identity log log (IsTaking by_majority x took) (λ es. es ≡ Slotted p Filled ∷ []) (IsTaking by_majority x (p ∷ took)) t m) n.marked
          (trace_by Spells site identity (Fills (place_on line first.blocks first.count k) slot mark bytes body) log log (IsTaking by_majority n.version.mark took) (λ es. es ≡ Slotted p Filled ∷ []) (IsTaking by_majority n.version.mark (p ∷ took)) t m leaves
          (λ w old new is world known fills.
          slot_taken Spells site identity log w old line k first head n.version bytes body by_majority took (slot_of w old is world known) new slot
          (subst (λ (x : Mark). Fills (place_on line first.blocks first.count k) slot x bytes body old new) (sym n.marked) fills)))

    -- a change's table begins to be written
    module _ (next : Table) (asked : Option Change) (took : List Spot) (at : IsPlaceAt Spells site identity t next line k first head) (n : IsNewest log mark table)
        (lists : Everywhere (MayListNext Spells site identity n.version next) t) (small : mark.count + 1 < 2 ^ 63) where
      commit : (w : Core) (image : Image) → IsImage t image → IsWorld Spells site identity log w image → IsReadyWith took w → IsCommit Spells site identity log w image p n.version next took
      commit w image is world known = record {
        world = world;
        own = record { line = line; number = k; first = first; head = head; own = at.each image is; spot = refl };
        older = n.older;
        newest = n.family;
        named = at.named;
        small = subst (λ (x : Mark). x.count + 1 < 2 ^ 63) (sym n.marked) small;
        follows = lists image is;
        known = known;
      }

      abbrev later : Mark → Mark
      later x = record x { count = x.count + 1 }

      abbrev after : Mark → Log
      after x = log_after log (WritesLog (later x) asked n.version.changes next)

      pub may_change : (g : Geometry) → IsMade g asked table next → MayChangeLists n.version next → CoversWith Spells site identity (λ image w. IsReadyWith took w) log t → MayHappen g log (WritesLog (record mark { count = mark.count + 1 }) asked n.version.changes next)
      may_change g made change covers =
          let image = last t in
          let w = covers image (last_image t) in
          subst (λ (x : Mark). MayHappen g log (WritesLog (later x) asked n.version.changes next)) n.marked
          (may_commit_it Spells site identity log w.0 image p n.version next took (commit w.0 image (last_image t) w.1 w.2) g asked (subst (λ (u : Table). IsMade g asked u next) (sym n.same) made) change)

      pub traced_change : Traces Spells site identity log (log_after log (WritesLog (record mark { count = mark.count + 1 }) asked n.version.changes next)) (IsReadyWith took) (IsCommitBegin (spots_of site next.plan.lists) p)
          (IsTaking false (record mark { count = mark.count + 1 }) []) t t
      traced_change =
          subst (λ (x : Mark). Traces Spells site identity log (after x) (IsReadyWith took) (IsCommitBegin (spots_of site next.plan.lists) p) (IsTaking false (later x) []) t t) n.marked
          (trace_here Spells site identity log (after n.version.mark) (IsReadyWith took) (IsCommitBegin (spots_of site next.plan.lists) p) (IsTaking false (later n.version.mark) []) t
          (λ w image is world known. commit_begins Spells site identity log w image p n.version next took (commit w image is world known) asked))

  -- enough places took the newest version
  pub traced_answer : (mark : Mark) (table : Table) (by_majority : Bool) (took : List Spot) → is_written (record (voted_table site table) { by_majority = by_majority }) (is_in took) ≡ true → IsNewest log mark table
      → Traces Spells site identity log (log_after log Written) (IsTaking by_majority mark took) (λ es. es ≡ Told ∷ []) (IsReadyWith took) t t
  traced_answer mark table by_majority took enough n =
      trace_here Spells site identity log (log_after log Written) (IsTaking by_majority mark took) (λ es. es ≡ Told ∷ []) (IsReadyWith took) t (λ w image is world known.
      answers Spells site identity log w image n.version by_majority took (record {
        world = world;
        older = n.older;
        newest = n.family;
        enough = subst (λ (u : Table). is_written (record (voted_table site u) { by_majority = by_majority }) (is_in took) ≡ true) (sym n.same) enough;
        known = subst (λ (x : Mark). IsTaking by_majority x took w) (sym n.marked) known;
      }))

  -- A creation.
  module _ (none : Everywhere (λ image. HasNone Spells site identity image) t) where
    pub none_started : log.family ≡ [] → log.fate ≡ Lives → CoversWith Spells site identity (λ image w. IsStart site w) log t
    none_started empty lives image is = (_, world_none Spells site identity log empty lives image (none image is), refl)

    pub traced_creation : (lists : Lists) → Traces Spells site identity log (issued_log identity) (IsStart site) (IsCreationBegin (spots_of site lists)) (IsCreating (spots_of site lists) []) t t
    traced_creation lists =
        trace_here Spells site identity log (issued_log identity) (IsStart site) (IsCreationBegin (spots_of site lists)) (IsCreating (spots_of site lists) []) t (λ w image is world known.
        subst (λ (v : Core). Turned Spells site identity (issued_log identity) v image (IsCreationBegin (spots_of site lists)) (IsCreating (spots_of site lists) [])) (sym known)
        (creating.begins Spells site identity image (none image is) lists))

  -- something is done, and none is found still
  pub traced_clearing : (Change : Image → Image → Type 0) (m : Tale) → log.family ≡ [] → log.fate ≡ Lives → Everywhere (λ image. HasNone Spells site identity image) m → Leaves Change t m → Traces Spells site identity log log (IsStart site) (λ es. es ≡ []) (IsStart site) t m
  traced_clearing Change m empty lives none leaves new is =
      let from = leaves new is in (
        from.0,
        from.1,
        λ w world known. record {
          events = [];
          are = refl;
          may = tt;
          world = subst (λ (v : Core). IsWorld Spells site identity log v new) (sym known) (world_none Spells site identity log empty lives new (none new is));
          known = known;
        },
      )

  module _ (m : Tale) (line : SliceLine) (lists : Lists) (done : List Spot) (empty : log.family ≡ []) where
    abbrev InHand : List Spot → Core → Type 0
    InHand more = IsCreating (spots_of site lists) more

    formatting : (blocks count k : ℕ) → IsToFormat site identity t line blocks count k lists done → (w : Core) (old : Image) → IsImage t old → IsWorld Spells site identity log w old → IsCreating (spots_of site lists) done w
        → IsFormatting Spells site identity log w old line blocks count k lists done
    formatting blocks count k place w old is world known = record { creation = record { world = world; empty = empty; known = known }; format = place.format old is; named = place.named; before = place.before }

    module _ (blocks count : ℕ) (before : Option Master) (place : IsToFormat site identity t line blocks count 0 lists done) (located : Everywhere (λ image. FirstIs site image line before) t) where
      pub traced_first : Leaves (MayFormat (place_on line blocks count 0) (master_on site identity line blocks count 0) 1) t m
          → Traces Spells site identity log log (IsCreating (spots_of site lists) done) (IsNoneOr (Formatted (spot_on line blocks 0))) (MayBeFormatted (spots_of site lists) (spot_on line blocks 0) done) t m
      traced_first leaves =
          trace_by Spells site identity (MayFormat (place_on line blocks count 0) (master_on site identity line blocks count 0) 1) log log (InHand done) (IsNoneOr (Formatted (spot_on line blocks 0))) (MayBeFormatted (spots_of site lists) (spot_on line blocks 0) done) t m leaves
          (λ w old new is world known change. first_formatting Spells site identity log w old line blocks count lists done before (formatting blocks count 0 place w old is world known) (located old is) new change)

      pub traced_first_done : Leaves (Formats (place_on line blocks count 0) (master_on site identity line blocks count 0) 1) t m
          → Traces Spells site identity log log (IsCreating (spots_of site lists) done) (λ es. es ≡ Formatted (spot_on line blocks 0) ∷ []) (IsCreating (spots_of site lists) (spot_on line blocks 0 ∷ done)) t m
      traced_first_done leaves =
          trace_by Spells site identity (Formats (place_on line blocks count 0) (master_on site identity line blocks count 0) 1) log log (InHand done) (λ es. es ≡ Formatted (spot_on line blocks 0) ∷ []) (InHand (spot_on line blocks 0 ∷ done)) t m leaves
          (λ w old new is world known change. first_formatted Spells site identity log w old line blocks count lists done before (formatting blocks count 0 place w old is world known) (located old is) new change)

    module _ (k : ℕ) (first : Master) (place : IsToFormat site identity t line first.blocks first.count k lists done) (behind : IsBehind Spells site t line k first) where
      abbrev q : Spot
      q = spot_on line first.blocks k

      pub traced_later : Leaves (MayFormat (place_on line first.blocks first.count k) (master_on site identity line first.blocks first.count k) 1) t m
          → Traces Spells site identity log log (IsCreating (spots_of site lists) done) (IsNoneOr (Formatted (spot_on line first.blocks k))) (MayBeFormatted (spots_of site lists) (spot_on line first.blocks k) done) t m
      traced_later leaves =
          trace_by Spells site identity (MayFormat (place_on line first.blocks first.count k) (master_on site identity line first.blocks first.count k) 1) log log (InHand done) (IsNoneOr (Formatted q)) (MayBeFormatted (spots_of site lists) q done) t m leaves
          (λ w old new is world known change.
          later_formatting Spells site identity log w old line k first lists done behind.later (formatting first.blocks first.count k place w old is world known) (behind.has old is) (behind.chain old is) new change)

      pub traced_later_done : Leaves (Formats (place_on line first.blocks first.count k) (master_on site identity line first.blocks first.count k) 1) t m
          → Traces Spells site identity log log (IsCreating (spots_of site lists) done) (λ es. es ≡ Formatted (spot_on line first.blocks k) ∷ []) (IsCreating (spots_of site lists) (spot_on line first.blocks k ∷ done)) t m
      traced_later_done leaves =
          trace_by Spells site identity (Formats (place_on line first.blocks first.count k) (master_on site identity line first.blocks first.count k) 1) log log (InHand done) (λ es. es ≡ Formatted q ∷ []) (InHand (q ∷ done)) t m leaves
          (λ w old new is world known change.
          later_formatted Spells site identity log w old line k first lists done behind.later (formatting first.blocks first.count k place w old is world known) (behind.has old is) (behind.chain old is) new change)

  pub traced_first_write : (p : Spot) (table : Table) (done : List Spot) → log.family ≡ [] → is_none (spots_of site table.plan.lists).first ≡ false → is_in done p ≡ true → is_named (spots_of site table.plan.lists) p ≡ true
      → Everywhere (AreAllPlaced Spells site identity table.plan.lists) t → Traces Spells site identity log (log_after log (WritesLog first_mark None [] table)) (IsCreating (spots_of site table.plan.lists) done) (λ es. es ≡ Slotted p LeftClosed ∷ []) (IsTaking false first_mark []) t t
  traced_first_write p table done empty some has named formed =
      trace_here Spells site identity log (log_after log (WritesLog first_mark None [] table)) (IsCreating (spots_of site table.plan.lists) done) (λ es. es ≡ Slotted p LeftClosed ∷ []) (IsTaking false first_mark []) t
      (λ w image is world known. writes_first Spells site identity log w image p table done (record { world = world; empty = empty; known = known }) some has named (formed image is))
