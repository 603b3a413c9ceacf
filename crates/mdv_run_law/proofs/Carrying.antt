-- Where nothing failed and memory wasn't wanting, a line comes to one answer.
use Rattle.std.proofs.Common.{◌≡◌, inl, inr, ℕ, ◌+◌, ◌^◌, ◌≤◌, ◌<◌, Bool, true, false, cond, ◌&&◌, ◌||◌, not, if◌then◌else◌, List, [], ◌∷◌, ◌++◌, length, slice_index_or, map, flat_map, MatchOption, Option, Some, Contains, refl, sym, ◌∙◌, ap, subst, arith, None}
use Rattle.std.specs.List.{list_any}
use Rattle.std.specs.Prelude.{is_some}
use Rattle.mdv_base.specs.Order.{first_refusal, where_so}
use Rattle.mdv_base.specs.declared.drive.DriveNo.{DriveNo}
use Rattle.mdv_base.specs.declared.drive.SliceName.{SliceName}
use Rattle.mdv_name.specs.SliceIndex.{slice_at}
use Rattle.mdv_engine_law.specs.Below.{Absent, Down, Inactive, NeedForce, NoSuchSlice, Place, SliceAt, WrongKind}
use Rattle.mdv_engine_law.specs.Places.{are_all, is_empty, list_of}
use Rattle.mdv_base.specs.DriveSet.{Drives, has_drive}
use Rattle.mdv_dev.specs.Pieces.{LiesAt}
use Rattle.mdv_dev.proofs.Copies.{has_place, one_reading}
use Rattle.mdv_map.specs.Maps.{HasDriveBlock}
use Rattle.mdv_words.proofs.Tabs.{entries_are_in_form}
use Rattle.mdv_run_law.proofs.Meaning.{formed_as, meant_in_form}
use Rattle.mdv_run_law.specs.Below.{ArePut, AreSeen, Answer, BadLine, CameTo, Command, ComesTo, AddListed, AddPlaces, DropPlaces, Entry, HasBlocks, Host, Image, IsCommitted, IsCreated, IsSame, IsSameBeside, IsTab, IsTurnedDown, Kept, Line, Map, Memory, Opened, Print, Read, Refusal, SliceLine, Spells, Table, TooMany, VolId, Write, blocks_of, covers, meant, entries_reply, identity_of, key_of, listing_of, printed_reply, record_bytes, site_area, site_of, table_by, values_reply}
use Rattle.std.specs.Bool.{MatchBool}
use Rattle.std.proofs.lemmas.Bool.Decides.{nat_tests}
use Rattle.std.proofs.lemmas.Bool.{cases_Bool, false_from_ne_true, false≢true}
use Rattle.std.proofs.lemmas.List.{ext_get_or, length-append}
use Rattle.std.proofs.lemmas.List.Elements.{Contains-append_cases, filter_map-append}
use Rattle.mdv_places.specs.Asked.{Adds, Asks, Drops, KeepsFirst, list_after, list_less, names_of, places_on, seats_added}
use Rattle.mdv_places.specs.Changing.{both_of}
use Rattle.mdv_places.specs.Moments.{area_moved, master_area, places_dropped}
use Rattle.mdv_replica.specs.Forms.{block_of}
use Rattle.mdv_replica.specs.declared.replica.PlaceAt.{PlaceAt}
use Rattle.mdv_shown.specs.Found.{IsFound}
use Rattle.mdv_name.specs.declared.geometry.Geometry.{Geometry}
use Rattle.mdv_shown.specs.declared.site.Site.{Site}
use Rattle.mdv_store.proofs.Sitting.{contains_first, first_or_behind}
use Rattle.mdv_store.specs.Opened.{shortage}
use Rattle.mdv_config.specs.Lists.{last_of}
use Rattle.mdv_config.specs.Table.{IsListsOf}
use Rattle.mdv_plan.specs.declared.lists.Lists.{Lists}
use Rattle.mdv_plan.specs.declared.lists.Lists.TheVariants.{One as OneList, Two}
use Rattle.mdv_words.specs.declared.command.Command.TheVariants as command
use Rattle.mdv_words.specs.Line as words
use Rattle.mdv_words.specs.Line.{IsInForm}
use Rattle.mdv_words.proofs.Form.{commands_are_in_form}
use Rattle.mdv_words.proofs.Lines.{one_line}
use Rattle.mdv_engine_law.specs.declared.answer.Answer.TheVariants.{Over}
use Rattle.mdv_engine_law.specs.declared.answer.Ended.{Ended}
use Rattle.mdv_engine_law.specs.declared.answer.Ended.TheVariants as ended
use Rattle.mdv_engine_law.specs.Answers.{refusing, telling}
use Rattle.mdv_engine_law.specs.Commands as came
use Rattle.mdv_engine_law.specs.Commands.{Effect, Fault, GivesUp, IsAllowed, IsLostCommit, IsTabRefusal, KeepsTab, LeavesPlaces, case_of}
use Rattle.mdv_engine_law.specs.Hosts.{lines_asked}
use Rattle.mdv_engine_law.specs.Line.{IsOpenOn, IsUncreated}
use Rattle.mdv_engine_law.specs.Moves.{AreTheirsOn, HasMovedOn, IsBlankOn, IsDeletedOn, IsSpentChange, IsUndeletedOn, IsUnmovedOn, LeavesLists, drop_of}
use Rattle.mdv_base.specs.declared.mark.Identity.{Identity}
use Rattle.mdv_base.specs.declared.mark.Mark.{Mark}
use Rattle.mdv_engine_law.proofs.Allowed.{allowed_slice}
use Rattle.mdv_engine_law.proofs.Places.{asked_length}
use Rattle.mdv_shelf.specs.Failing.{Outcomes}
use Rattle.mdv_engine_law.specs.Refusals.{Case, held_of_drop, held_of_lists, in_state, is_behind, is_down, is_missing, is_plain, is_up_at, is_without, refusal_of, rest_of}
use Rattle.mdv_replica.specs.declared.replica.Head.{Head}
use Rattle.mdv_standing.specs.Creating.{first_mark}
use Rattle.mdv_store.proofs.Spotting.{asked_active, asked_length as seats_length}
use Rattle.mdv_store.specs.Commit.{next_mark}
use Rattle.mdv_store.specs.Commit as commit
use Rattle.mdv_store.specs.Create as create
use Rattle.mdv_store.specs.Create.{seats_asked, table_of}
use Rattle.mdv_store.specs.Seats.{TakesSlot, active_of, replica_area, replicas_of, seats_area}
use Rattle.mdv_store.specs.declared.seats.Seat.{Seat}
use Rattle.mdv_survey.specs.declared.replica.Replica.{Replica}
use Rattle.mdv_volumes.specs.Tables.{AreLaid}
use Rattle.mdv_volumes.proofs.Tables.{tables_lie}
use Rattle.mdv_run_law.specs.Run.{AreOnce, ChangesPlaces, IsAnswered, IsOfTable, IsSaid, IsSameMemory}
use Rattle.mdv_tab.proofs.OneTab.{one_tab, never_bad, never_either, never_many}
use Rattle.mdv_run_law.proofs.Keeping.{IsHeld, IsSatisfied, One, Same, Settled, boot_same, its_site, ok, plan_of, put_same, same_through, same_weaker, stays_same, there_each, there_settled}
use Rattle.mdv_run_law.proofs.Moving.{IsAway, IsClear, IsThere, alike_beside, any_has, any_of, area_at, areas_in_site, here_of, one_text}
use Rattle.mdv_run_law.proofs.Shifting.{IsOver, dropped_under, lost_over, moved_clean, moved_is, moved_open, never_over, one_over, some_half}
use Rattle.mdv_run_law.proofs.Passing.{NoneFailed, left_active, left_is, never_short, seats_with, slotted, slotted_is}
use Rattle.mdv_run_law.proofs.Placing.{at_beside, one_copy_each, one_map, opened_twice}
use Rattle.mdv_run_law.proofs.Written.{alike_behind, have, made, made_beside, written}
use Rattle.mdv_store.specs.Shares.{short_in, short_of}
use Rattle.mdv_store.specs.declared.seats.Need.TheVariants.{Half}
use Rattle.mdv_store.proofs.Shares.{half_none}

-- what is read of blocks that lie at one place each, and hold the same in both
same_blocks : (v : Map) (at count : ℕ) (c d : Image) → ((k : ℕ) → k < count → (drive : ℕ) × (block : ℕ) × LiesAt v (at + k) drive block) → ((k drive block : ℕ) → k < count → HasDriveBlock (v.places (at + k)) drive block → c drive block ≡ d drive block)
    → (blocks others : List (List ℕ)) → length blocks ≡ count → length others ≡ count → AreSeen v at blocks c → AreSeen v at others d → blocks ≡ others
same_blocks v at count c d one_each same blocks others size size_too seen seen_too = ext_get_or [] blocks others (size ∙ sym size_too) (λ k below.
    let within : k < count = omega (arith, size, below) in
    let lies = one_each k within in
    one_reading v (at + k) lies.0 lies.1 lies.2 c (slice_index_or blocks k []) (seen.each k below) ∙ same k lies.0 lies.1 within (has_place v (at + k) lies.0 lies.1 lies.2)
    ∙ sym (one_reading v (at + k) lies.0 lies.1 lies.2 d (slice_index_or others k []) (seen_too.each k (omega (arith, size_too, within)))))

-- one block from some on is that one
put_at : (on first drive b : ℕ) → covers on first 1 drive b ≡ true → (drive ≡ on) × (b ≡ first + 0)
put_at on first drive b is = (grind (arith, nat_tests), grind (arith, nat_tests))

-- a list that comes isn't empty
places_some : (g : Geometry) (lists : Lists) → IsListsOf g lists → 1 ≤ length (last_of lists)
places_some g (OneList places) is = is.some
places_some g (Two old new) is = is.1.some

longer : (list more : List Place) → 1 ≤ length list → 1 ≤ length (list ++ more)
longer list more some = let both = length-append list more in omega (arith, some, both)

some_left : (list : List Place) → is_empty list ≡ false → 1 ≤ length list
some_left [] none = absurd (false≢true (sym none))
some_left (p ∷ ps) some = omega arith

line_of : (slices : List SliceLine) → 1 ≤ length slices → (line : SliceLine) × Contains slices line
line_of [] some = absurd (omega (arith, some))
line_of (line ∷ lines) some = (line, (0, omega arith, refl))

-- What is kept of two is the same, but for the lists of the drives that are up, and of those that are unsteady, by which nothing is judged but the drives of places that go.
module _ (host : Host) (memory : Memory) (up unsteady : Drives) where
  abbrev one_case : Case
  one_case = record { host = host; memory = memory }

  abbrev other_case : Case
  other_case = record { host = host; memory = record memory { up = up; unsteady = unsteady } }

  module _ (ups : (drive : DriveNo) → has_drive memory.up drive ≡ has_drive up drive) where
    one_up : (at : Option SliceAt) → is_up_at up at ≡ is_up_at memory.up at
    one_up None = refl
    one_up (Some at) = sym (ups at.drive)

    one_down : (places : List Place) → list_any (is_down host up) places ≡ list_any (is_down host memory.up) places
    one_down [] = refl
    one_down (p ∷ places) = (λ i. not (one_up (slice_at host.drives.slices p.slice) i) || one_down places i)

    one_drop : (opened : Option Opened) (slices : List SliceName) (force : Bool) → first_refusal (held_of_drop other_case opened slices force) ≡ first_refusal (held_of_drop one_case opened slices force)
    one_drop None slices force = refl
    one_drop (Some o) slices force =
        let down : list_any (is_down host up) (list_of o) ≡ list_any (is_down host memory.up) (list_of o) = one_down (list_of o) in
        let missing = where_so (list_any (is_missing host) slices) NoSuchSlice in
        let plain = where_so (list_any (λ slice. is_plain (slice_at host.drives.slices slice)) slices) WrongKind in
        let unforced = where_so (are_all o slices && not force) NeedForce in
        let hidden = if are_all o slices && is_behind (list_of o) then Some Inactive else None in
        let inactive = if is_some (short_in Half o.seats (rest_of o slices)) then Some Inactive else hidden in
        λ i. first_refusal ((missing ++ (plain ++ (in_state (if list_any (is_without o) slices then Some Absent else if are_all o slices && down i then Some Down else inactive) ++ unforced))) ++ held_of_lists o (rest_of o slices))

    pub one_refusal_of : (cmd : Command) → refusal_of other_case cmd ≡ refusal_of one_case cmd
    one_refusal_of (AddPlaces slices force count blocks) = refl
    one_refusal_of (AddListed number force) = refl
    one_refusal_of (DropPlaces slices force) = one_drop memory.opened slices force
    one_refusal_of (command.Alter alteration) = refl
    one_refusal_of (Read volume at count) = refl
    one_refusal_of (Write volume at what) = refl
    one_refusal_of (Print names) = refl

-- the same in memory, each command is refused for the same cause
pub same_refusal_of : (host : Host) (k j : Memory) → IsSameMemory k j → (cmd : Command) → refusal_of (record { host = host; memory = j }) cmd ≡ refusal_of (record { host = host; memory = k }) cmd
same_refusal_of host k j same cmd =
    let is : j ≡ record k { up = j.up; unsteady = j.unsteady } = λ i. record { opened = sym same.opened i; up = j.up; unsteady = j.unsteady; clean = sym same.clean i; begun = sym same.begun i; entries = sym same.entries i } in
    ap (λ (x : Memory). refusal_of (record { host = host; memory = x }) cmd) is ∙ one_refusal_of host k j.up j.unsteady same.up cmd

module _ (calls also : Outcomes) (calm : NoneFailed calls) (calm_too : NoneFailed also) (host : Host) (has : IsOfTable host) (once : AreOnce host.drives.slices) where
  abbrev There : Kept → Type 0
  There kept = Settled host has once kept

  abbrev Both : Type 0 → Kept → Kept → Type 0
  Both may k j = Same host has once may k j

  -- a database that is open, with other entries
  settled_with : (kept next : Kept) (entries : List Entry) → next.memory ≡ record kept.memory { entries = entries } → IsSame kept.content next.content → There kept → There next
  settled_with kept next entries is same settled = there_settled host has once kept next settled (ap (λ (m : Memory). m.opened) is) (λ drive block within. same drive block)

  -- what is kept of the two is the same, but for the lists of the drives that are up and of those that are unsteady
  module _ (memory : Memory) (up unsteady : Drives) (c d : Image) (n m : Kept) (a b : Answer) where
    abbrev memory_too : Memory
    memory_too = record memory { up = up; unsteady = unsteady }

    abbrev k : Kept
    k = record { memory = memory; content = c }

    abbrev j : Kept
    j = record { memory = memory_too; content = d }

    as_there : (volume : VolId) (at count : ℕ) (v : Map) → HasBlocks host memory_too volume at count v → HasBlocks host memory volume at count v
    as_there volume at count v is = record { o = is.o; opened = is.opened; lies = is.lies; within = is.within }

    module _ (may : Type 0) (same : Both may k j) (sated : IsSatisfied a) (sated_too : IsSatisfied b) where
      -- both refused
      refused : (r q : Refusal) → r ≡ q → IsTurnedDown r k a n → IsTurnedDown q j b m → One host has once may n m a b
      refused r q one first second = (first.0 ∙ ap refusing one ∙ sym second.0, λ said. stays_same host has once may k j n m same first.1 second.1)

      -- a database that was just made is one
      module _ (lines : List SliceLine) (count blocks : ℕ) (some : 1 ≤ length lines) (more : 1 ≤ count) where
        abbrev asked : List Seat
        asked = seats_asked (key_of host) (identity_of host memory.begun) lines count blocks

        abbrev bytes : ℕ
        bytes = record_bytes (table_of asked)

        abbrev new : Opened
        new = record { key = key_of host; identity = identity_of host memory.begun; mark = first_mark; table = table_of asked; seats = seats_with (slotted first_mark bytes) asked }

        made_is : (failed : Outcomes) → NoneFailed failed → (o : Opened) → create.IsMade failed (key_of host) (identity_of host memory.begun) lines count blocks o → o ≡ new
        made_is failed never o is =
            is.is ∙ ap (λ (l : List Seat). record { key = key_of host; identity = identity_of host memory.begun; mark = first_mark; table = table_of asked; seats = l })
            (left_is failed never (TakesSlot first_mark bytes) (slotted first_mark bytes) (slotted_is first_mark bytes) asked o.seats is.tried)

        abbrev head : Replica → Head
        head r = (slotted first_mark bytes r).head

        new_site : host.site ≡ site_of host.drives new.key
        new_site = its_site host has once new refl

        some_active : 0 < active_of new.seats
        some_active =
            let line = line_of lines some in
            let one = have host.drives host.site (ok host has once) new new_site head (key_of host) (identity_of host memory.begun) lines count blocks refl line.0 0 line.1 (omega (arith, more)) in
            omega (arith, one.1)

        -- it is open in memory, and on the drives
        new_settled : (next : Kept) (o : Opened) → o ≡ new → IsOpenOn host.drives new next.content → next.memory.opened ≡ Some o → There next
        new_settled next o is opens opened p also =
            subst (λ (x : Opened). IsHeld host has once x next.content) (sym is ∙ sym (opened_twice next.memory.opened o p opened also))
            (record { key = refl; some = some_active; on = opens })

        created : IsCreated calls host lines count blocks k n → IsCreated also host lines count blocks j m → Both may n m
        created one other =
            let is = made_is calls calm one.opened one.made in
            let is_too = made_is also calm_too other.opened other.made in
            let opens = subst (λ (x : Opened). IsOpenOn host.drives x n.content) is one.content in
            let opens_too = subst (λ (x : Opened). IsOpenOn host.drives x m.content) is_too other.content in
            record {
              memory = same_through n.memory (record memory { opened = Some one.opened; begun = memory.begun + 1 }) (record memory_too { opened = Some other.opened; begun = memory.begun + 1 }) m.memory one.memory other.memory
                  (record { opened = ap (λ (x : Opened). Some x) (is ∙ sym is_too); up = same.memory.up; unsteady = same.memory.unsteady; clean = refl; begun = refl; entries = refl });
              beside = λ drive block out.
                  made_beside host.drives host.site (ok host has once) new new_site head (key_of host) (identity_of host memory.begun) lines count blocks refl c n.content one.beside opens drive block out
                  ∙ same.beside drive block out
                  ∙ sym (made_beside host.drives host.site (ok host has once) new new_site head (key_of host) (identity_of host memory.begun) lines count blocks refl d m.content other.beside opens_too drive block out);
              alike = λ wanted. alike_behind host.drives host.site (ok host has once) new new_site (IsClear (Spells host.drives) (one_text host.drives) host.site (ok host has once) (replicas_of new.seats)) c d n.content m.content (same.alike wanted)
                  (made host.drives host.site (ok host has once) new new_site head (key_of host) (identity_of host memory.begun) lines count blocks refl c n.content one.beside opens)
                  (made host.drives host.site (ok host has once) new new_site head (key_of host) (identity_of host memory.begun) lines count blocks refl d m.content other.beside opens_too) opens opens_too;
              formed = formed_as n.memory memory (ap (λ (x : Memory). x.entries) one.memory) same.formed;
              one = new_settled n one.opened is opens (ap (λ (x : Memory). x.opened) one.memory);
              other = new_settled m other.opened is_too opens_too (ap (λ (x : Memory). x.opened) other.memory);
            }

      -- a table that was committed is one
      module _ (o : Opened) (table : Table) (held : IsHeld host has once o c) (held_too : IsHeld host has once o d) where
        abbrev mark : Mark
        mark = next_mark o.mark

        abbrev size : ℕ
        size = record_bytes table

        abbrev next_open : Opened
        next_open = record o { mark = mark; table = table; seats = seats_with (slotted mark size) o.seats }

        committed_is : (failed : Outcomes) → NoneFailed failed → (p : Opened) → commit.IsCommitted failed o p table → p ≡ next_open
        committed_is failed never p is =
            is.is ∙ ap (λ (l : List Seat). record o { mark = mark; table = table; seats = l }) (left_is failed never (TakesSlot mark size) (slotted mark size) (slotted_is mark size) o.seats p.seats is.tried.left)

        next_site : host.site ≡ site_of host.drives o.key
        next_site = its_site host has once o held.key

        abbrev next_head : Replica → Head
        next_head r = (slotted mark size r).head

        next_settled : (failed : Outcomes) → NoneFailed failed → (next : Kept) (p : Opened) → commit.IsCommitted failed o p table → p ≡ next_open → IsOpenOn host.drives next_open next.content → next.memory.opened ≡ Some p → There next
        next_settled failed never next p is same_open opens opened q and_q =
            let active = left_active failed never (TakesSlot mark size) o.seats p.seats is.tried.left in
            let before = held.some in
            subst (λ (x : Opened). IsHeld host has once x next.content) (sym same_open ∙ sym (opened_twice next.memory.opened p q opened and_q)) (record {
              key = held.key;
              some = subst (λ (x : Opened). 0 < active_of x.seats) same_open (omega (arith, active, before));
              on = opens;
            })

        out_of : (image : Image) → IsHeld host has once o image → (next : Image) → IsSameBeside (seats_area o.seats) image next → IsSameBeside (site_area host.site) image next
        out_of image is next wrote drive block out =
            wrote drive block (areas_in_site (Spells host.drives) (one_text host.drives) host.site (ok host has once) image (replicas_of o.seats) (there_each host has once o image is) drive block out)

        committed : IsCommitted calls host o table k n → IsCommitted also host o table j m → Both may n m
        committed one other =
            let is = committed_is calls calm one.opened one.committed in
            let is_too = committed_is also calm_too other.opened other.committed in
            let opens = subst (λ (x : Opened). IsOpenOn host.drives x n.content) is one.content in
            let opens_too = subst (λ (x : Opened). IsOpenOn host.drives x m.content) is_too other.content in
            record {
              memory = same_through n.memory (record memory { opened = Some one.opened }) (record memory_too { opened = Some other.opened }) m.memory one.memory other.memory
                  (record { opened = ap (λ (x : Opened). Some x) (is ∙ sym is_too); up = same.memory.up; unsteady = same.memory.unsteady; clean = refl; begun = refl; entries = refl });
              beside = λ drive block out. out_of c held n.content one.beside drive block out ∙ same.beside drive block out ∙ sym (out_of d held_too m.content other.beside drive block out);
              alike = λ wanted. alike_behind host.drives host.site (ok host has once) next_open next_site (IsAway (Spells host.drives) (one_text host.drives) host.site (ok host has once) (replicas_of next_open.seats)) c d n.content m.content (same.alike wanted)
                  (written host.drives host.site (ok host has once) next_open next_site next_head o.seats refl c n.content (there_each host has once o c held) one.beside opens)
                  (written host.drives host.site (ok host has once) next_open next_site next_head o.seats refl d m.content (there_each host has once o d held_too) other.beside opens_too) opens opens_too;
              formed = formed_as n.memory memory (ap (λ (x : Memory). x.entries) one.memory) same.formed;
              one = next_settled calls calm n one.opened one.committed is opens (ap (λ (x : Memory). x.opened) one.memory);
              other = next_settled also calm_too m other.opened other.committed is_too opens_too (ap (λ (x : Memory). x.opened) other.memory);
            }

      -- the volumes of the table that is open lie apart
      laid_open : (o : Opened) → memory.opened ≡ Some o → AreLaid host.drives o.table
      laid_open o opened = tables_lie.laid host.drives o.table has.sound (plan_of host has once o c (same.one o opened))

      -- The places of an open database changed: what is outside the site is as it was, or blank.
      module _ (o : Opened) (opened : memory.opened ≡ Some o) (asked : Asks) where
        abbrev masters : ℕ → ℕ → Bool
        masters drive block = list_any (λ (x : PlaceAt). master_area x drive block) (places_dropped host.drives o asked)

        -- no replica of it lies there, nor one of a place that was added
        seats_inside : (old new : Image) → IsHeld host has once o old → AreTheirsOn host.drives o.key o.identity (seats_added o asked) new → (drive block : ℕ) → site_area host.site drive block ≡ false → seats_area (both_of o asked).seats drive block ≡ false
        seats_inside old new held formed drive block out = false_from_ne_true (seats_area (both_of o asked).seats drive block) (λ hit.
            let found = any_of (λ (r : Replica). replica_area r drive block) (replicas_of (both_of o asked).seats) hit in
            elim (Contains-append_cases (replicas_of o.seats) (replicas_of (seats_added o asked)) found.0 (subst (λ (l : List Replica). Contains l found.0) (filter_map-append (λ (s : Seat). s.replica) o.seats (seats_added o asked)) found.1)) [
              | inl was ↦
                  let inside = areas_in_site (Spells host.drives) (one_text host.drives) host.site (ok host has once) old (replicas_of o.seats) (there_each host has once o old held) drive block out in
                  false≢true (sym inside ∙ any_has (λ (r : Replica). area_at r drive block) (replicas_of o.seats) found.0 was found.2)
              | inr added ↦
                  let own = formed found.0 added in
                  let its : Replica = record { line = found.0.line; number = found.0.number; first = found.0.first; head = own.0 } in
                  let here = here_of (Spells host.drives) (one_text host.drives) host.site (ok host has once) new its (subst (λ (s : Site). IsFound (Spells host.drives) s its.line its.number (new its.line.at.drive.0) its.first its.head) (sym (its_site host has once o held.key)) own.1.found) in
                  let inside = areas_in_site (Spells host.drives) (one_text host.drives) host.site (ok host has once) new (its ∷ []) (λ r one_of. subst (λ (x : Replica). IsThere host.drives host.site (ok host has once) new x) (only_there its r one_of) here) drive block out in
                  false≢true (sym inside ∙ any_has (λ (r : Replica). area_at r drive block) (its ∷ []) its (contains_first its []) found.2)
            ])
          where
            only_there : (one r : Replica) → Contains (one ∷ []) r → one ≡ r
            only_there one r has = elim (first_or_behind one r [] has) [ inl same ↦ same | inr none ↦ absurd (omega (arith, none.1)) ]

        kept_outside : (old new : Image) → IsHeld host has once o old → AreTheirsOn host.drives o.key o.identity (seats_added o asked) new → IsSameBeside (area_moved host.drives o asked) old new → (drive block : ℕ) → site_area host.site drive block ≡ false → masters drive block ≡ false
            → new drive block ≡ old drive block
        kept_outside old new held formed beside drive block out none = beside drive block ((λ i. seats_inside old new held formed drive block out i || masters drive block) ∙ none)

        -- the block of a master that was wiped
        blank_there : (new : Image) → ((x : PlaceAt) → Contains (places_dropped host.drives o asked) x → IsBlankOn x new) → (drive block : ℕ) → masters drive block ≡ true → new drive block ≡ block_of []
        blank_there new wiped drive block hit =
            let found = any_of (λ (x : PlaceAt). master_area x drive block) (places_dropped host.drives o asked) hit in
            let at = put_at found.0.drive.0 found.0.first drive block found.2 in
            let first : block ≡ found.0.first = omega (arith, at.1) in
            ap (λ (n : ℕ). new n block) at.0 ∙ ap (new found.0.drive.0) first ∙ wiped found.0 found.1

        both_outside : (one other : Image) → AreTheirsOn host.drives o.key o.identity (seats_added o asked) one → AreTheirsOn host.drives o.key o.identity (seats_added o asked) other → ((x : PlaceAt) → Contains (places_dropped host.drives o asked) x → IsBlankOn x one) → ((x : PlaceAt) → Contains (places_dropped host.drives o asked) x → IsBlankOn x other)
            → IsSameBeside (area_moved host.drives o asked) c one → IsSameBeside (area_moved host.drives o asked) d other → (drive block : ℕ) → site_area host.site drive block ≡ false → one drive block ≡ other drive block
        both_outside one other formed formed_too wiped wiped_too beside beside_too drive block out = elim (cases_Bool (masters drive block)) [
          | inl hit ↦ blank_there one wiped drive block hit ∙ sym (blank_there other wiped_too drive block hit)
          | inr none ↦ kept_outside c one (same.one o opened) formed beside drive block out none ∙ same.beside drive block out ∙ sym (kept_outside d other (same.other o opened) formed_too beside_too drive block out none)
        ]

        -- what is open later is settled, and on the drives
        moved_settled : 1 ≤ length (list_after asked (list_of o)) → (failed : Outcomes) → NoneFailed failed → (was next : Kept) → (is : HasMovedOn failed host o asked was next) → There next
        moved_settled some failed quiet was next is = λ p also.
            let same_open = moved_is host.drives o asked failed quiet is.1.opened is.0 is.1.moved in
            let mine = ap (λ (x : Memory). x.opened) is.1.memory in
            subst (λ (x : Opened). IsHeld host has once x next.content) (sym (opened_twice next.memory.opened is.1.opened p mine also))
            (record {
              key = ap (λ (x : Opened). x.key) same_open ∙ (same.one o opened).key;
              some = subst (λ (x : Opened). 0 < active_of x.seats) (sym same_open) (some_half (moved_open host.drives o asked).seats (list_after asked (list_of o)) some (subst (λ (x : Opened). shortage x ≡ None) same_open is.1.moved.enough));
              on = is.1.content;
            })

        moved : 1 ≤ length (list_after asked (list_of o)) → HasMovedOn calls host o asked k n → HasMovedOn also host o asked j m → Both ⊥ n m
        moved some one other =
            let is = moved_is host.drives o asked calls calm one.1.opened one.0 one.1.moved in
            let is_too = moved_is host.drives o asked also calm_too other.1.opened other.0 other.1.moved in
            record {
              memory = same_through n.memory (record memory { opened = Some one.1.opened }) (record memory_too { opened = Some other.1.opened }) m.memory one.1.memory other.1.memory
                  (record { opened = ap (λ (x : Opened). Some x) (is ∙ sym is_too); up = same.memory.up; unsteady = same.memory.unsteady; clean = refl; begun = refl; entries = refl });
              beside = both_outside n.content m.content one.1.formed other.1.formed (one.1.wiped.all (moved_clean host.drives o asked calls calm one.1.opened one.0 one.1.moved)) (other.1.wiped.all (moved_clean host.drives o asked also calm_too other.1.opened other.0 other.1.moved)) one.1.beside other.1.beside;
              alike = λ none. absurd none;
              formed = formed_as n.memory memory (ap (λ (x : Memory). x.entries) one.1.memory) same.formed;
              one = moved_settled some calls calm k n one;
              other = moved_settled some also calm_too j m other;
            }

      -- the database is gone
      none_open : (next : Kept) → next.memory.opened ≡ None → There next
      none_open next none p is = absurd (let never : None ≡ Some p = sym none ∙ is in cc (never))

      none_added : (o : Opened) (image : Image) → AreTheirsOn host.drives o.key o.identity (seats_added o KeepsFirst) image
      none_added o image r has = absurd (omega (arith, has.1))

      deleted : (o : Opened) → memory.opened ≡ Some o → IsDeletedOn calls host o k n → IsDeletedOn also host o j m → Both ⊥ n m
      deleted o opened one other = record {
        memory = same_through n.memory _ _ m.memory one.memory other.memory (record { opened = refl; up = same.memory.up; unsteady = same.memory.unsteady; clean = refl; begun = refl; entries = refl });
        beside = both_outside o opened KeepsFirst n.content m.content (none_added o n.content) (none_added o m.content) (λ x has. one.wiped x (dropped_under host.drives o KeepsFirst x has)) (λ x has. other.wiped x (dropped_under host.drives o KeepsFirst x has)) one.beside other.beside;
        alike = λ none. absurd none;
        formed = formed_as n.memory memory (ap (λ (x : Memory). x.entries) one.memory) same.formed;
        one = none_open n (ap (λ (x : Memory). x.opened) one.memory);
        other = none_open m (ap (λ (x : Memory). x.opened) other.memory);
      }

      -- as long as no boot comes behind it
      never_then : {later : Type 0} (next other : Kept) → (later → ⊥) → Both ⊥ next other → Both later next other
      never_then {later} next other never is = same_weaker host has once ⊥ later next other never is

      -- Both done. A change of the places of an open database leaves what a boot behind it finds open.
      module _ (later : Type 0) (to : later → may) where
        abbrev Alike : Answer → Answer → Type 0
        Alike x y = One host has once later n m x y

        weaker : Both may n m → Both later n m
        weaker is = same_weaker host has once may later n m to is

        added : (slices : List SliceName) (force : Bool) (count blocks : ℕ) → (ChangesPlaces host memory (AddPlaces slices force count blocks) → later → ⊥) → IsAllowed (case_of host k) (AddPlaces slices force count blocks) → 1 ≤ length (lines_asked host slices) → 1 ≤ count → (opened : Option Opened) → memory.opened ≡ opened
            → MatchOption opened (IsCreated calls host (lines_asked host slices) count blocks k n) (λ o. HasMovedOn calls host o (Adds (lines_asked host slices) count blocks) k n)
            → MatchOption opened (IsCreated also host (lines_asked host slices) count blocks j m) (λ o. HasMovedOn also host o (Adds (lines_asked host slices) count blocks) j m) → Both later n m
        added slices force count blocks still free some more None is one two = weaker (created (lines_asked host slices) count blocks some more one two)
        added slices force count blocks still free some more (Some o) is one two =
            let listed = places_some host.drives o.table.plan.lists (plan_of host has once o c (same.one o is)).lists in
            never_then n m (still (free, λ none. absurd (let both : None ≡ Some o = sym none ∙ is in cc (both))))
            (moved o is (Adds (lines_asked host slices) count blocks) (longer (list_of o) (flat_map (places_on count blocks) (names_of (lines_asked host slices))) listed) one two)

        dropped : (slices : List SliceName) (force : Bool) → (later → ⊥) → (o : Opened) → memory.opened ≡ Some o → (all : Bool) → are_all o slices ≡ all → MatchBool all (IsDeletedOn calls host o k n) (HasMovedOn calls host o (Drops slices) k n) → MatchBool all (IsDeletedOn also host o j m) (HasMovedOn also host o (Drops slices) j m) → Both later n m
        dropped slices force still o is true all one two = never_then n m still (deleted o is one two)
        dropped slices force still o is false all one two = never_then n m still (moved o is (Drops slices) (some_left (list_less slices (list_of o)) all) one two)

        effects : (cmd : Command) → (ChangesPlaces host memory cmd → later → ⊥) → IsInForm cmd → IsAllowed (case_of host k) cmd → Effect calls host k cmd a n → Effect also host j cmd b m → Alike a b
        effects (AddPlaces slices force count blocks) still form free one two =
            let lines = asked_length host slices (allowed_slice (case_of host k) slices force count blocks free) in
            let some = form.0 in
            (one.0 ∙ sym two.0, λ said. added slices force count blocks still free (omega (arith, lines, some)) form.1.0 memory.opened refl one.1 two.1)
        effects (AddListed number force) still form free one two = absurd one
        effects (DropPlaces slices force) still form free (told, o, opened, one) (told_too, other, opened_too, two) =
            let is : other ≡ o = opened_twice memory.opened o other opened opened_too in (
              told ∙ sym told_too,
              λ said. dropped slices force (still free) o opened (are_all o slices) refl one (subst (λ (x : Opened). MatchBool (are_all x slices) (IsDeletedOn also host x j m) (HasMovedOn also host x (Drops slices) j m)) is two),
            )
        effects (command.Alter alteration) still form free (told, o, opened, one) (told_too, other, opened_too, two) =
            let is : other ≡ o = opened_twice memory.opened o other opened opened_too in (
              told ∙ sym told_too,
              λ said. weaker (committed o (table_by host.drives alteration o.table) (same.one o opened) (same.other o opened) one
                  (subst (λ (x : Opened). IsCommitted also host x (table_by host.drives alteration x.table) j m) is two)),
            )
        effects (Read volume at count) still form free (quiet, v, there, blocks, size, seen, text, stays) (quiet_too, w, there_too, others, size_too, seen_too, text_too, stays_too) =
            let laid = laid_open there.o there.opened in
            let maps = one_map host has.site memory volume there.o there.opened laid at count w v (as_there volume at count w there_too) there in
            let read = same_blocks v at count c d (one_copy_each host has.site memory volume there.o there.opened laid at count v there)
            (λ k drive block below lies. same.beside drive block (at_beside host has.site memory volume there.o there.opened laid at count v there k drive block below lies)) blocks others size size_too seen (subst (λ (x : Map). AreSeen x at others d) maps seen_too) in
            (text ∙ ap (λ (bs : List (List ℕ)). telling (values_reply at bs)) read ∙ sym text_too, λ said. weaker (stays_same host has once may k j n m same stays stays_too))
        effects (Write volume at what) still form free (quiet, v, there, told, kept, put) (quiet_too, w, there_too, told_too, kept_too, put_too) =
            let laid = laid_open there.o there.opened in
            let maps = one_map host has.site memory volume there.o there.opened laid at (length (blocks_of what)) w v (as_there volume at (length (blocks_of what)) w there_too) there in (
              told ∙ sym told_too,
              λ said. weaker (put_same host has once v at (blocks_of what) (one_copy_each host has.site memory volume there.o there.opened laid at (length (blocks_of what)) v there)
                  (at_beside host has.site memory volume there.o there.opened laid at (length (blocks_of what)) v there) may k j n m same kept kept_too put (subst (λ (x : Map). ArePut x at (blocks_of what) d m.content) maps put_too)),
            )
        effects (Print names) still form free (quiet, o, opened, text, stays) (quiet_too, other, opened_too, text_too, stays_too) =
            let same_open = opened_twice memory.opened other o opened_too opened in
            (text ∙ ap (λ (x : Opened). telling (printed_reply (listing_of x.table.plan names))) same_open ∙ sym text_too, λ said. weaker (stays_same host has once may k j n m same stays stays_too))

      unmade_never : (failed : Outcomes) → NoneFailed failed → (opened : Option Opened) (lines : List SliceLine) (count blocks : ℕ) (x y : Kept) → MatchOption opened (IsUncreated failed host lines count blocks x y) (λ o. IsUnmovedOn failed host o lines count blocks x y) → ⊥
      unmade_never failed quiet None lines count blocks x y fault = quiet fault.failed.drive.0 fault.failed.here
      unmade_never failed quiet (Some o) lines count blocks x y fault = quiet fault.unmoved.drive.0 fault.unmoved.here

      undeleted_never : (failed : Outcomes) → NoneFailed failed → (o : Opened) (x y : Kept) → IsUndeletedOn failed host o x y → ⊥
      undeleted_never failed quiet o x y (inl half) = false≢true (moved_clean host.drives o KeepsFirst failed quiet half.opened false half.moved)
      undeleted_never failed quiet o x y (inr unblanked) = quiet unblanked.first.drive.0 unblanked.failed

      never_faulted : (failed : Outcomes) → NoneFailed failed → (cmd : Command) (x y : Kept) → Fault failed host x cmd y → ⊥
      never_faulted failed quiet (AddPlaces slices force count blocks) x y fault = unmade_never failed quiet x.memory.opened (lines_asked host slices) count blocks x y fault
      never_faulted failed quiet (AddListed number force) x y fault = fault
      never_faulted failed quiet (DropPlaces slices force) x y fault = undeleted_never failed quiet fault.0 x y fault.3
      never_faulted failed quiet (command.Alter alteration) x y fault = fault
      never_faulted failed quiet (Read volume at count) x y fault = quiet fault.0.drive fault.0.failed.here
      never_faulted failed quiet (Write volume at what) x y fault = (let one = fault.0.some in quiet one.0 (fault.0.failed one.0 one.1))
      never_faulted failed quiet (Print names) x y fault = fault

      -- no places are lost
      never_unmade : (failed : Outcomes) → NoneFailed failed → (identity : Identity) (lines : List SliceLine) (count blocks active listed : ℕ) → create.IsLost failed (key_of host) identity lines count blocks active listed → ⊥
      never_unmade failed quiet identity lines count blocks active listed lost =
          let asked : List Seat = seats_asked (key_of host) identity lines count blocks in
          let all = asked_active (key_of host) identity count blocks lines ∙ sym (seats_length (key_of host) identity count blocks lines) in
          never_short failed quiet _ Half Half (λ share so. so) (table_of asked).plan.lists asked lost.now (record { active = active; listed = listed }) lost.tried
          (half_none asked (map (λ (s : Seat). s.place) asked) refl (omega (arith, all))) lost.few

      never_uncommitted : (failed : Outcomes) → NoneFailed failed → (o : Opened) (table : Table) (active listed : ℕ) → IsLostCommit failed o table active listed → ⊥
      never_uncommitted failed quiet o table active listed is =
          never_short failed quiet _ Half Half (λ share so. so) o.table.plan.lists o.seats is.new.seats (record { active = active; listed = listed }) is.lost.tried.left is.lost.tried.half
          (ap (λ (t : Table). short_of Half is.new.seats t.plan.lists) (sym (ap (λ (x : Opened). x.table) is.lost.is)) ∙ is.few)

      -- Why a command ends the run: a creation never does, and a change of volumes for want of numbers alone.
      abbrev OverBy : Option Opened → Command → Ended → Type 0
      OverBy opened (AddPlaces slices force count blocks) end = MatchOption opened ⊥ (λ o. IsOver host.drives o (Adds (lines_asked host slices) count blocks) end)
      OverBy opened (AddListed number force) end = ⊥
      OverBy opened (DropPlaces slices force) end = (o : Opened) × (opened ≡ Some o) × IsOver host.drives o (drop_of o slices) end
      OverBy opened (command.Alter alteration) end = (o : Opened) × (opened ≡ Some o) × (end ≡ ended.Spent) × (2 ^ 63 ≤ o.mark.count + 1)
      OverBy opened (Read volume at count) end = ⊥
      OverBy opened (Write volume at what) end = ⊥
      OverBy opened (Print names) end = ⊥

      module _ (failed : Outcomes) (quiet : NoneFailed failed) (x y : Kept) where
        added_lost : (slices : List SliceName) (force : Bool) (count blocks active listed : ℕ) (opened : Option Opened) → MatchOption opened (LeavesPlaces failed host (lines_asked host slices) count blocks active listed x y) (λ o. LeavesLists failed host o (Adds (lines_asked host slices) count blocks) active listed x y)
            → OverBy opened (AddPlaces slices force count blocks) (ended.Lost active listed)
        added_lost slices force count blocks active listed None is = absurd (never_unmade failed quiet (identity_of host x.memory.begun) (lines_asked host slices) count blocks active listed is.lost)
        added_lost slices force count blocks active listed (Some o) is = lost_over host.drives o (Adds (lines_asked host slices) count blocks) failed quiet active listed is.lost

        added_spent : (slices : List SliceName) (force : Bool) (count blocks : ℕ) (opened : Option Opened) → MatchOption opened ⊥ (λ o. IsSpentChange failed o x y) → OverBy opened (AddPlaces slices force count blocks) ended.Spent
        added_spent slices force count blocks None is = is
        added_spent slices force count blocks (Some o) is = inl (refl, is.spent)

        over_by : (cmd : Command) (end : Ended) → GivesUp failed host x cmd end y → OverBy x.memory.opened cmd end
        over_by (AddPlaces slices force count blocks) (ended.Lost active listed) is = added_lost slices force count blocks active listed x.memory.opened is
        over_by (AddPlaces slices force count blocks) ended.Spent is = added_spent slices force count blocks x.memory.opened is
        over_by (AddPlaces slices force count blocks) ended.Memory is = absurd is
        over_by (AddPlaces slices force count blocks) (ended.NoQuorum readable needed) is = absurd is
        over_by (AddPlaces slices force count blocks) (ended.TwoDatabases one other) is = absurd is
        over_by (AddListed number force) end is = absurd is
        over_by (DropPlaces slices force) (ended.Lost active listed) is = (is.0, is.1, lost_over host.drives is.0 (drop_of is.0 slices) failed quiet active listed is.2.lost)
        over_by (DropPlaces slices force) ended.Spent is = (is.0, is.1, inl (refl, is.2.spent))
        over_by (DropPlaces slices force) ended.Memory is = absurd is
        over_by (DropPlaces slices force) (ended.NoQuorum readable needed) is = absurd is
        over_by (DropPlaces slices force) (ended.TwoDatabases one other) is = absurd is
        over_by (command.Alter alteration) (ended.Lost active listed) is =
            absurd (never_uncommitted failed quiet is.0 (table_by host.drives alteration is.0.table) active listed is.2.lost)
        over_by (command.Alter alteration) ended.Spent is = (is.1, is.2, refl, is.3)
        over_by (command.Alter alteration) ended.Memory is = absurd is
        over_by (command.Alter alteration) (ended.NoQuorum readable needed) is = absurd is
        over_by (command.Alter alteration) (ended.TwoDatabases one other) is = absurd is
        over_by (Read volume at count) end is = absurd is
        over_by (Write volume at what) end is = absurd is
        over_by (Print names) end is = absurd is

        -- what is done doesn't end the run
        added_done : (lines : List SliceLine) (count blocks : ℕ) (end : Ended) (opened : Option Opened) → MatchOption opened (IsCreated failed host lines count blocks x y) (λ o. HasMovedOn failed host o (Adds lines count blocks) x y) → MatchOption opened ⊥ (λ o. IsOver host.drives o (Adds lines count blocks) end) → ⊥
        added_done lines count blocks end None effect over = over
        added_done lines count blocks end (Some o) effect over = never_over host.drives o (Adds lines count blocks) failed quiet effect.1.opened effect.0 effect.1.moved end over

        dropped_done : (o : Opened) (slices : List SliceName) (end : Ended) (all : Bool) → MatchBool all (IsDeletedOn failed host o x y) (HasMovedOn failed host o (Drops slices) x y) → IsOver host.drives o (cond all KeepsFirst (Drops slices)) end → ⊥
        dropped_done o slices end true effect over = never_over host.drives o KeepsFirst failed quiet effect.left.0 true effect.left.1 end over
        dropped_done o slices end false effect over = never_over host.drives o (Drops slices) failed quiet effect.1.opened effect.0 effect.1.moved end over

        done_over : (cmd : Command) (answer : Answer) (end : Ended) → Effect failed host x cmd answer y → OverBy x.memory.opened cmd end → ⊥
        done_over (AddPlaces slices force count blocks) answer end effect over = added_done (lines_asked host slices) count blocks end x.memory.opened effect.1 over
        done_over (AddListed number force) answer end effect over = over
        done_over (DropPlaces slices force) answer end (told, o, opened, effect) (other, opened_too, over) =
            dropped_done o slices end (are_all o slices) effect (subst (λ (z : Opened). IsOver host.drives z (drop_of z slices) end) (opened_twice x.memory.opened o other opened opened_too) over)
        done_over (command.Alter alteration) answer end (told, o, opened, effect) (other, opened_too, is, high) =
            let count = ap (λ (z : Opened). z.mark.count) (opened_twice x.memory.opened o other opened opened_too) in
            let small = effect.committed.tried.small in
            absurd (omega (arith, count, high, small))
        done_over (Read volume at count) answer end effect over = over
        done_over (Write volume at what) answer end effect over = over
        done_over (Print names) answer end effect over = over

      added_once : (lines : List SliceLine) (count blocks : ℕ) (one other : Ended) (opened : Option Opened) → MatchOption opened ⊥ (λ o. IsOver host.drives o (Adds lines count blocks) one) → MatchOption opened ⊥ (λ o. IsOver host.drives o (Adds lines count blocks) other) → one ≡ other
      added_once lines count blocks one other None first second = absurd first
      added_once lines count blocks one other (Some o) first second = one_over host.drives o (Adds lines count blocks) one other first second

      over_once : (opened : Option Opened) (cmd : Command) (one other : Ended) → OverBy opened cmd one → OverBy opened cmd other → one ≡ other
      over_once opened (AddPlaces slices force count blocks) one other first second = added_once (lines_asked host slices) count blocks one other opened first second
      over_once opened (AddListed number force) one other first second = absurd first
      over_once opened (DropPlaces slices force) one other (o, is, first) (p, is_too, second) =
          one_over host.drives o (drop_of o slices) one other first (subst (λ (z : Opened). IsOver host.drives z (drop_of z slices) other) (opened_twice opened o p is is_too) second)
      over_once opened (command.Alter alteration) one other first second = first.2 ∙ sym second.2
      over_once opened (Read volume at count) one other first second = absurd first
      over_once opened (Write volume at what) one other first second = absurd first
      over_once opened (Print names) one other first second = absurd first

      never : (cmd : Command) (r : Refusal) → refusal_of (case_of host k) cmd ≡ Some r → IsAllowed (case_of host k) cmd → ⊥
      never cmd r is free = absurd (cc (is, free))

      same_refusal : (r q : Refusal) (o : Option Refusal) → o ≡ Some r → o ≡ Some q → r ≡ q
      same_refusal r q o is also = cc

      module _ (later : Type 0) (to : later → may) where
        lower : One host has once may n m a b → One host has once later n m a b
        lower is = (is.0, λ said. weaker later to (is.1 said))

        came_same : (cmd : Command) → (ChangesPlaces host memory cmd → later → ⊥) → IsInForm cmd → CameTo calls host k cmd a n → CameTo also host j cmd b m → One host has once later n m a b
        came_same cmd still form (came.refused quiet r is left) (came.refused quiet_too q is_too left_too) = lower (refused r q (same_refusal r q (refusal_of (case_of host k) cmd) is (sym (one_refusal_of host memory up unsteady same.memory.up cmd) ∙ is_too)) left left_too)
        came_same cmd still form (came.refused quiet r is left) (came.done free effect) = absurd (never cmd r is (sym (one_refusal_of host memory up unsteady same.memory.up cmd) ∙ free))
        came_same cmd still form (came.refused quiet r is left) (came.over end free so gives) = absurd (never cmd r is (sym (one_refusal_of host memory up unsteady same.memory.up cmd) ∙ free))
        came_same cmd still form (came.done free effect) (came.refused quiet_too r is left) = absurd (never cmd r (sym (one_refusal_of host memory up unsteady same.memory.up cmd) ∙ is) free)
        came_same cmd still form (came.done free effect) (came.done free_too effect_too) = effects later to cmd still form free effect effect_too
        came_same cmd still form (came.done free effect) (came.over end free_too so gives) = absurd (done_over calls calm k n cmd a end effect (over_by also calm_too j m cmd end gives))
        came_same cmd still form (came.over end free so gives) (came.refused quiet r is left) = absurd (never cmd r (sym (one_refusal_of host memory up unsteady same.memory.up cmd) ∙ is) free)
        came_same cmd still form (came.over end free so gives) (came.done free_too effect) = absurd (done_over also calm_too j m cmd b end effect (over_by calls calm k n cmd end gives))
        came_same cmd still form (came.over end free so gives) (came.over other free_too so_too gives_too) =
            (so ∙ ap (λ (e : Ended). Over e) (over_once memory.opened cmd end other (over_by calls calm k n cmd end gives) (over_by also calm_too j m cmd other gives_too)) ∙ sym so_too, λ said. absurd (let unsaid : ⊥ = subst IsSaid so said in unsaid))
        came_same cmd still form (came.wanting quiet is left) second = absurd (sated.not_refused is)
        came_same cmd still form (came.faulted free is fault) second = absurd (never_faulted calls calm cmd k n fault)
        came_same cmd still form first (came.wanting quiet is left) = absurd (sated_too.not_refused is)
        came_same cmd still form first (came.faulted free is fault) = absurd (never_faulted also calm_too cmd j m fault)

      -- a block is read in one way
      one_refusal : (lines : List ℕ) (r q : Refusal) → IsTabRefusal lines r → IsTabRefusal lines q → r ≡ q
      one_refusal lines BadLine BadLine one other = refl
      one_refusal lines BadLine TooMany one other = absurd (never_either lines one.0 one.1 other)
      one_refusal lines TooMany BadLine one other = absurd (never_either lines other.0 other.1 one)
      one_refusal lines TooMany TooMany one other = refl
      one_refusal lines BadLine other_one one other = absurd other
      one_refusal lines TooMany other_one one other = absurd other
      one_refusal lines other_one q one other = absurd one

      never_entered : (lines : List ℕ) (entries : List Entry) (r : Refusal) → IsTab lines entries → IsTabRefusal lines r → ⊥
      never_entered lines entries BadLine tab why = never_bad lines entries why.0 tab why.1
      never_entered lines entries TooMany tab why = never_many lines entries tab why
      never_entered lines entries other_one tab why = why

      keeps_same : (lines : List ℕ) → KeepsTab calls k lines a n → KeepsTab also j lines b m → One host has once may n m a b
      keeps_same lines (came.entered quiet entries tab is memory_is kept) (came.entered quiet_too others tab_too is_too memory_also kept_too) =
          let same_entries = one_tab lines entries others tab tab_too in (
            is ∙ ap (λ (es : List Entry). telling (entries_reply (length es))) same_entries ∙ sym is_too,
            λ said. record {
              memory = same_through n.memory (record memory { entries = entries }) (record memory_too { entries = others }) m.memory memory_is memory_also
                  (record { opened = refl; up = same.memory.up; unsteady = same.memory.unsteady; clean = refl; begun = refl; entries = same_entries });
              beside = λ drive block out. kept drive block ∙ same.beside drive block out ∙ sym (kept_too drive block);
              alike = λ wanted. alike_beside (Spells host.drives) (one_text host.drives) host.site (ok host has once) c d n.content m.content (λ drive block within. kept drive block) (λ drive block within. kept_too drive block) (same.alike wanted);
              formed = formed_as n.memory (record memory { entries = entries }) (ap (λ (x : Memory). x.entries) memory_is) (entries_are_in_form lines entries tab);
              one = settled_with k n entries memory_is kept same.one;
              other = settled_with j m others memory_also kept_too same.other;
            },
          )
      keeps_same lines (came.unfit quiet r why left) (came.unfit quiet_too q why_too left_too) = refused r q (one_refusal lines r q why why_too) left left_too
      keeps_same lines (came.entered quiet entries tab is memory_is kept) (came.unfit quiet_too q why left) = absurd (never_entered lines entries q tab why)
      keeps_same lines (came.unfit quiet r why left) (came.entered quiet_too entries tab is memory_is kept) = absurd (never_entered lines entries r tab why)
      keeps_same lines (came.unread quiet is left) second = absurd (sated.not_refused is)
      keeps_same lines first (came.unread quiet is left) = absurd (sated_too.not_refused is)

      comes : (later : Type 0) → (later → may) → (text : List ℕ) (spelled : Line) → words.IsLine text spelled → (spelled ≡ words.Boot → may) → ((cmd : Command) → spelled ≡ words.Exec cmd → ChangesPlaces host memory (meant memory.entries cmd) → later → ⊥)
          → ComesTo calls host k spelled a n → ComesTo also host j spelled b m → One host has once later n m a b
      comes later to text (words.Tab lines) is boots still first second = (let one = keeps_same lines first second in (one.0, λ said. same_weaker host has once may later n m to (one.1 said)))
      comes later to text words.Boot is boots still first second = boot_same host has once may later (boots refl) calls also calm calm_too k j n m a b same sated sated_too first second
      comes later to text (words.Exec cmd) is boots still first second = came_meant (meant memory.entries cmd) (still cmd refl) (meant_in_form memory.entries same.formed cmd (commands_are_in_form text cmd is.1)) first second where
        came_meant : (x : Command) → (ChangesPlaces host memory x → later → ⊥) → IsInForm x → CameTo calls host k x a n → CameTo also host j x b m → One host has once later n m a b
        came_meant x still form first second = came_same later to x still form first second

  -- a line comes to the same from what is kept in common
  one_carried : (may later : Type 0) → (later → may) → (text : List ℕ) (spelled : Line) → words.IsLine text spelled → (k j n m : Kept) (a b : Answer) → (spelled ≡ words.Boot → may) → ((cmd : Command) → spelled ≡ words.Exec cmd → ChangesPlaces host k.memory (meant k.memory.entries cmd) → later → ⊥)
      → Both may k j → IsSatisfied a → IsSatisfied b → ComesTo calls host k spelled a n → ComesTo also host j spelled b m → One host has once later n m a b
  one_carried may later to text spelled line k j n m a b boots still same sated sated_too first second =
      let fields = same.memory in
      let is : j.memory ≡ record k.memory { up = j.memory.up; unsteady = j.memory.unsteady } = λ i. record { opened = sym fields.opened i; up = j.memory.up; unsteady = j.memory.unsteady; clean = sym fields.clean i; begun = sym fields.begun i; entries = sym fields.entries i } in
      let moved = subst (λ (x : Memory). ComesTo also host (record { memory = x; content = j.content }) spelled b m) is second in
      let settled = subst (λ (x : Memory). There (record { memory = x; content = j.content })) is same.other in
      let memories : IsSameMemory k.memory (record k.memory { up = j.memory.up; unsteady = j.memory.unsteady }) = record { opened = refl; up = fields.up; unsteady = fields.unsteady; clean = refl; begun = refl; entries = refl } in
      comes k.memory j.memory.up j.memory.unsteady k.content j.content n m a b may (record { memory = memories; beside = same.beside; alike = same.alike; formed = same.formed; one = same.one; other = settled }) sated sated_too later to text spelled line boots still first moved

  -- and so does a line
  pub one_answer : (may later : Type 0) → (later → may) → (text : List ℕ) (k j n m : Kept) (a b : Answer) → (words.IsLine text words.Boot → may) → ((cmd : Command) → words.IsLine text (words.Exec cmd) → ChangesPlaces host k.memory (meant k.memory.entries cmd) → later → ⊥)
      → Both may k j → IsSatisfied a → IsSatisfied b → IsAnswered calls host k text a n → IsAnswered also host j text b m → One host has once later n m a b
  one_answer may later to text k j n m a b boots still same sated sated_too (inl first) (inl second) = (first.2.0 ∙ sym second.2.0, λ said. same_weaker host has once may later n m to (stays_same host has once may k j n m same first.2.1 second.2.1))
  one_answer may later to text k j n m a b boots still same sated sated_too (inl first) (inr (inl second)) = absurd (first.0 second.0 second.1)
  one_answer may later to text k j n m a b boots still same sated sated_too (inr (inl first)) (inl second) = absurd (second.0 first.0 first.1)
  one_answer may later to text k j n m a b boots still same sated sated_too (inr (inr first)) second = absurd (sated.not_refused first.1.0)
  one_answer may later to text k j n m a b boots still same sated sated_too first (inr (inr second)) = absurd (sated_too.not_refused second.1.0)
  one_answer may later to text k j n m a b boots still same sated sated_too (inr (inl first)) (inr (inl second)) =
      one_carried may later to text first.0 first.1 k j n m a b (λ is. boots (subst (words.IsLine text) is first.1)) (λ cmd is. still cmd (subst (words.IsLine text) is first.1)) same sated sated_too first.2
      (subst (λ (x : Line). ComesTo also host j x b m) (one_line text second.0 first.0 second.1 first.1) second.2)
