-- Behind both passes of a boot: the table is open as it is, or, where it has two lists, it is committed with the new one alone.
use Rattle.std.proofs.Common.{◌≡◌, ◌⊎◌, inl, inr, ◌<◌, ◌≤◌, ◌+◌, ◌*◌, ◌&&◌, ℕ, Bool, true, false, cond, not, List, [], ◌∷◌, ◌++◌, Contains, length, map, nat_eq, refl, sym, ◌∙◌, subst, ap, arith, Option, None, Some, MatchOption}
use Rattle.std.specs.List.{AllPairs, cons_option, list_any}
use Rattle.std.proofs.Math.Nat.{mul-le-mul_left}
use Rattle.std.proofs.lemmas.Bool.{and_parts, eqb-false, eqb-true, false≢true, or_left}
use Rattle.std.proofs.lemmas.List.{length-map}
use Rattle.mdv_base.specs.Causes.{RoseOnce}
use Rattle.mdv_base.specs.declared.name.Key.TheVariants.{Local, Set}
use Rattle.mdv_look.proofs.Among.{among_calm, is_one_of}
use Rattle.mdv_look.proofs.Bringing.{one_number, same_drive}
use Rattle.mdv_look.proofs.Quiet.{quiet_more, quiet_wider}
use Rattle.mdv_encoding.proofs.Rooms.{last_room}
use Rattle.mdv_shelf.proofs.Between.{between_then, between_wider}
use Rattle.mdv_shelf.proofs.Counts.{took_more}
use Rattle.mdv_shelf.proofs.Everywhere.{last_image}
use Rattle.mdv_shelf.proofs.Moments.{ends_both, ends_more, moments_after, moments_end}
use Rattle.mdv_shelf.specs.Between.{RoseByAtLeast}
use Rattle.mdv_shelf.specs.Calls.{OnDrive}
use Rattle.mdv_store.specs.Counts.{MadeCallsBetween}
use Rattle.mdv_shelf.specs.Drives.{KeptAmong}
use Rattle.mdv_shelf.specs.Shelves.{AtEachTale, AtEnd, DriveFailures, MadeCalls}
use Rattle.mdv_shown.specs.Choice.{spots_seen}
use Rattle.mdv_shown.specs.Sites.{lines_of}
use Rattle.mdv_standing.specs.Adopting.{drawn}
use Rattle.mdv_standing.specs.Committing.{MayChangeLists}
use Rattle.mdv_standing.specs.Others.{Anything}
use Rattle.mdv_standing.specs.Tracing.{GoesTraced, Traces}
use Rattle.mdv_standing.proofs.Tracing.{fewer_ready, goes_more, trace_weaker, traced}
use Rattle.mdv_store_law.specs.Log.{log_after_all}
use Rattle.mdv_config.proofs.Listed.{beside_apart}
use Rattle.mdv_config.proofs.Settled.{settled_of}
use Rattle.mdv_config.specs.Lists.{beside, same_place}
use Rattle.std.proofs.lemmas.List.Elements.{All-contains}
use Rattle.mdv_store_law.specs.Part.{IsPart}
use Rattle.mdv_votes.proofs.Meeting.{same_self}
use Rattle.mdv_config.specs.Table.{IsListsOf}
use Rattle.mdv_votes.specs.Laws.{IsWithin}
use Rattle.mdv_votes.specs.Spots.{is_in}
use Rattle.mdv_store.specs.Below.{CoversWith, DriveNo, Event, Geometry, Ghosts, IsCommitRun, IsOfGeometry, IsReadyWith, Key, Lists, Log, One, Place, Replica, Site, Spot, Table, Tale, Two, at_of, last as last_tale, last_of, lists_of_spots, record_bytes, settled, site_of, same_spot}
use Rattle.mdv_store.specs.Boot.{IfAdopted, IsOnce, TakesAll, TakesBoth, TakesBy, need_of}
use Rattle.mdv_store.specs.BootCounts.{IsAnewCounted, blocks_at, calls_at, most_blocks, most_calls}
use Rattle.mdv_store.specs.Booting.{AreOfBoot, AreSettling, HasNoStaleVote}
use Rattle.mdv_store.specs.Commit.{AnyLog, AnyWorld, IsLiveWith, IsNewestWritten, room_in}
use Rattle.mdv_store.specs.Opened.{AreSeatsOf, IsOpen, IsOpenedAt, Opened}
use Rattle.mdv_store.specs.Progress.{Rewritten, Settled, all_written}
use Rattle.mdv_store.specs.Records.{Spells}
use Rattle.mdv_store.specs.Seats.{AreLaid, AreLeft, AreNamed, IsLaid, IsShown, TakesSlot, active_of, drive_of, drives_of, replica_area, replicas_of, seats_area, spot_of, spots_of}
use Rattle.mdv_store.specs.Settled.{again_of, gone_of, seats_now, settles}
use Rattle.mdv_store.specs.Settling.{IsDraft}
use Rattle.mdv_store.specs.Shares.{short_of, suffices}
use Rattle.mdv_store.specs.Taking.{IsCalmOver, IsReadied, IsRewriteAnswer, IsTakingCounted, IsToAdopt, LeftHoldOf, MadeRewriteCalls, RewriteEnds, RewriteMoment, StaySynced, WereSettled, WereSlotted, last_in, open_with, room_of, second_mark}
use Rattle.mdv_store.specs.Text.{blocks_for}
use Rattle.mdv_store.specs.Writing.{IsBeingWritten, WritingEnds, WritingMoment, WroteAll, text_size}
use Rattle.mdv_store.specs.declared.booting.BootEnd.TheVariants as end
use Rattle.mdv_store.specs.declared.booting.Hand.{Hand}
use Rattle.mdv_store.specs.declared.booting.Taken.{Taken}
use Rattle.mdv_store.specs.declared.seats.Need.TheVariants.{Half, More}
use Rattle.mdv_store.specs.declared.seats.Seat.{Seat}
use Rattle.mdv_store.specs.declared.seats.Share.{Share}
use Rattle.mdv_store.proofs.Rooms.{first_least}
use Rattle.mdv_store.proofs.Again.{last_none, left_now, more_some, now_active, now_area, none_all, none_of, now_enough, now_in, now_once, now_room, now_seat, now_seats, now_spots, spot_apart, spots_among}
use Rattle.mdv_store.proofs.Committing.{AreWritten, IsCommitting, bodies, ends_so, goes_on, left_show, others_blank, others_stand, over_newest}
use Rattle.mdv_store.proofs.Finishing.{settled_less}
use Rattle.mdv_store.proofs.Halves.{spot_at, spot_is}
use Rattle.mdv_store.proofs.Losing.{rose_then}
use Rattle.mdv_store.proofs.Once.{pass_once}
use Rattle.mdv_store.proofs.Passes.{all_left, later, left_both, left_calm, left_most, left_told, mapped, pass_synced, some_lost, unmapped}
use Rattle.mdv_store.proofs.Records.{spelled_of}
use Rattle.mdv_store.proofs.Reading.{in_mapped}
use Rattle.mdv_store.proofs.Rewrites.{AreTwice, IsTwice, room_short, text_most}
use Rattle.mdv_store.proofs.Rewriting.{AreBooted, both_none_above}
use Rattle.mdv_store.proofs.Rows.{part_filter, part_pairs}
use Rattle.mdv_store.proofs.Holding.{Own}
use Rattle.mdv_store.proofs.Slotting.{shown_beside}
use Rattle.mdv_store.proofs.Shares.{kept_lists, more_suffices, short_fewer, some_enough}
use Rattle.mdv_store.proofs.Sitting.{left_replica, left_seats, replica_of, seat_of}

-- a table with one list is as it is once its places change no more
settled_one : (t : Table) (list : List Place) → t.plan.lists ≡ One list → settled t ≡ t
settled_one t list one = ap (λ (l : Lists). record t { plan = record t.plan { lists = l } }) (ap (λ (l : Lists). One (last_of l)) one ∙ sym one)

-- what suffices of a boot's writes is at least half
need_half : (key : Key) (share : Share) → suffices (need_of key) share ≡ true → suffices Half share ≡ true
need_half (Local host) share so = so
need_half (Set name) share so = more_suffices Half share so

same_need : (key : Key) (share : Share) → suffices (need_of key) share ≡ true → suffices (need_of key) share ≡ true
same_need key share so = so

module _ {S : Type 0} (shelf : Ghosts S) (key : Key) (hand : Hand) (table : Table) (ready : IsReadied hand table) (old mid : S) (last : List Seat) (w : IsTwice shelf key hand table old mid last) where
  abbrev Both : Replica → Replica → Type 0
  Both = TakesBoth hand.number (record_bytes table)

  abbrev opened : Opened
  opened = record { key = key; identity = hand.identity; mark = drawn hand.number; table = table; seats = last }

  last_are : AreSeatsOf table last
  last_are = left_seats (DriveFailures shelf old mid) Both table table hand.seats last (λ r n took. ap at_of took.2) refl w.took ready.seats

  -- no call failed, or one did on a drive of the hand's replicas
  first_calm : (calm : Bool) → calm ≡ nat_eq (active_of last) (active_of hand.seats) → IsCalmOver shelf old mid (replicas_of hand.seats) calm
  first_calm true is = λ drive. elim (is_one_of (drives_of hand.seats) drive) [
    | inl one_of ↦ (
        let r = unmapped (λ (x : Replica). x.line.at.drive) (replicas_of hand.seats) drive one_of in
        let none = all_left (DriveFailures shelf old mid) Both hand.seats last w.took (eqb-true (active_of last) (active_of hand.seats) (sym is)) r.0 r.1 in
        subst (λ (d : ℕ). shelf.faults mid (OnDrive d) ≡ shelf.faults old (OnDrive d)) (ap (λ (d : DriveNo). d.0) r.2) none)
    | inr out ↦ w.kept.others (OnDrive drive.0) (λ among. out (subst (Contains (drives_of hand.seats)) (same_drive among.0 drive (sym (one_number drive.0 among.0.0 among.2))) among.1))
  ]
  first_calm false is =
      let most = left_most (DriveFailures shelf old mid) Both hand.seats last w.took in
      some_lost (DriveFailures shelf old mid) Both hand.seats last w.took (fewer (active_of last) (active_of hand.seats) most (eqb-false (active_of last) (active_of hand.seats) (sym is)))
    where
      fewer : (a b : ℕ) → a ≤ b → (a ≡ b → ⊥) → a < b
      fewer a b most differs = omega (arith, most, differs)

  -- it is open so
  pub anew_open : (room : ℕ) → room ≡ room_of table → IsOpen opened room
  anew_open room is = record {
    boot = ready.small;
    count = omega arith;
    seats = last_are;
    whole = omega (arith, is);
    first = omega (arith, is);
    short = room_short hand table ready room is;
    marks = λ half n has. (let one = left_replica (DriveFailures shelf old mid) Both hand.seats last n w.took has in both_none_above hand.number (record_bytes table) one.0 n (ready.above one.0 one.1) one.2);
  }

  pub anew_laid : (sizes next : List ℕ) → next ≡ sizes → AreLaid sizes hand.seats → AreLaid next last
  anew_laid sizes next same laid n has =
      let one = left_replica (DriveFailures shelf old mid) Both hand.seats last n w.took has in
      let was = laid one.0 one.1 in
      subst (λ (s : List ℕ). IsLaid s n) (sym same) (subst (λ (x : Replica). IsLaid sizes x) (sym one.2.2) (record { placed = was.placed; short = was.short }))

  -- one list
  module _ (list : List Place) (one : table.plan.lists ≡ One list) (calm : Bool) (calm_is : calm ≡ nat_eq (active_of last) (active_of hand.seats)) (taken : Taken) (is : taken ≡ record { end = end.Adopted opened; calm = calm }) where
    one_left : AreLeft (DriveFailures shelf old mid) (TakesAll hand.number table) (last_in hand.seats table.plan.lists) last
    one_left = subst (λ (l : Lists). AreLeft (DriveFailures shelf old mid) (TakesBy l hand.number table) (last_in hand.seats l) last) (sym one) w.took

    one_enough : short_of (need_of key) last (One (last_of table.plan.lists)) ≡ None
    one_enough = subst (λ (l : Lists). short_of (need_of key) last (One (last_of l)) ≡ None) (sym one) (subst (λ (l : Lists). short_of (need_of key) last l ≡ None) one w.enough)

    one_is : opened ≡ record { key = key; identity = hand.identity; mark = record { boot = hand.number; count = settles table.plan.lists }; table = settled table; seats = last }
    one_is = λ i. record { key = key; identity = hand.identity; mark = record { boot = hand.number; count = sym (ap settles one) i }; table = sym (settled_one table list one) i; seats = last }

    one_whole : Rewritten last ≡ all_written table.plan.lists last []
    one_whole = ap (λ (l : Lists). all_written l last []) (sym one)

    pub one_answer : IsRewriteAnswer shelf old mid key hand table taken
    one_answer = subst (IsRewriteAnswer shelf old mid key hand table) (sym is) (record {
      progress = Rewritten last;
      ended = ([], one_whole, record { over = subst (λ (l : Lists). AreLeft (DriveFailures shelf old mid) Both (seats_now hand.seats (gone_of l)) []) (sym one) tt; left = one_left; enough = one_enough; is = one_is });
      shows = λ t told. (let e = w.ends t told in (e.0, e.1, e.2.opened));
      calm = first_calm calm calm_is;
      once = pass_once shelf old mid hand.seats last Both w.kept w.took;
      wrote = w.wrote;
      made = between_wider shelf.calls shelf.written old mid 1 (8 * active_of hand.seats) ((3 + blocks_for (record_bytes table)) * active_of hand.seats) 1 (calls_at hand.seats table) (blocks_at hand.seats table) (omega arith) (omega arith) (omega arith) w.made;
      exact = λ so.
          let same : active_of last ≡ active_of hand.seats = eqb-true (active_of last) (active_of hand.seats) (sym calm_is ∙ so) in
          subst (λ (n : ℕ). MadeCalls shelf old mid (8 * n) ((3 + blocks_for (record_bytes table)) * n)) same (w.exact same);
      written = w.written;
    })

    pub one_end : AtEnd shelf (λ t u. IfAdopted taken.end (λ o. RewriteEnds key hand table o t u)) old mid
    one_end t told =
        let e = w.ends t told in (
          e.0,
          e.1,
          subst (λ (x : Taken). IfAdopted x.end (λ o. RewriteEnds key hand table o t e.0)) (sym is) (record {
            opened = λ g to. e.2.opened g to;
            goes = λ g to log covers known. booted g t to e.0 log (e.2.goes g to log covers known);
          }),
        )
      where
        booted : (g : Geometry) (s : Tale) (to : IsToAdopt g key hand table s) (u : Tale) (log : Log)
            → GoesTraced (Spells g) g (site_of g key) hand.identity [] Anything (AreBooted (spots_seen to.seen) (spots_of hand.seats)) (IsReadyWith (spots_of last)) (λ l. IsLiveWith l (drawn hand.number) table) s u log
            → GoesTraced (Spells g) g (site_of g key) hand.identity [] Anything (AreOfBoot (site_of g key) table.plan.lists (spots_seen to.seen) (spots_of hand.seats)) (IsReadyWith (spots_of last)) (λ l. IsLiveWith l (drawn hand.number) table) s u log
        booted g s to u log goes = record {
          es = goes.es;
          course = goes.course;
          come = goes.come;
          traces = trace_weaker (Spells g) (site_of g key) hand.identity log (log_after_all log goes.es) Anything Anything (IsReadyWith (spots_of last)) (IsReadyWith (spots_of last)) (AreBooted (spots_seen to.seen) (spots_of hand.seats))
              (AreOfBoot (site_of g key) table.plan.lists (spots_seen to.seen) (spots_of hand.seats)) s u (λ w known. known) (λ es run. inr (inl run)) (λ w ready. ready) goes.traces;
          after = goes.after;
        }

    pub one_counted : IsTakingCounted shelf old mid taken
    one_counted = subst (IsTakingCounted shelf old mid) (sym is) (record {
      most = between_wider shelf.calls shelf.written old mid 0 (8 * 100) (100 * 4097) 0 most_calls most_blocks (omega arith) (omega arith) (omega arith) w.most;
      calm = λ so.
          let same : active_of last ≡ active_of hand.seats = eqb-true (active_of last) (active_of hand.seats) (sym calm_is ∙ so) in
          record {
            table = table;
            found = active_of last;
            is = sym (settled_one table list one);
            marked = sym (ap settles one);
            one = λ none. refl;
            made = subst (λ (n : ℕ). MadeCalls shelf old mid (0 + (8 * active_of last + 6 * (n * active_of last))) ((3 + blocks_for (record_bytes table)) * active_of last + (2 + blocks_for (record_bytes table)) * (n * active_of last))) (sym (ap settles one))
                (counts (active_of last) (blocks_for (record_bytes table)) (w.exact same));
          };
    })
      where
        counts : (a b : ℕ) → MadeCalls shelf old mid (8 * a) ((3 + b) * a) → MadeCalls shelf old mid (0 + (8 * a + 6 * (0 * a))) ((3 + b) * a + (2 + b) * (0 * a))
        counts a b made =
            let calls : 8 * a ≡ 0 + (8 * a + 6 * (0 * a)) = omega arith in
            let blocks : (3 + b) * a ≡ (3 + b) * a + (2 + b) * (0 * a) = subst (λ (n : ℕ). (3 + b) * a ≡ (3 + b) * a + (2 + b) * n) (zero_times a) (plus_none ((3 + b) * a) (2 + b)) in
            subst (λ (n : ℕ). MadeCalls shelf old mid n ((3 + b) * a + (2 + b) * (0 * a))) calls (subst (λ (n : ℕ). MadeCalls shelf old mid (8 * a) n) blocks made)
          where
            zero_times : (a : ℕ) → 0 ≡ 0 * a
            zero_times a = omega arith

            plus_none : (x k : ℕ) → x ≡ x + k * 0
            plus_none x k = omega arith

  -- two lists
  module _ (was next : List Place) (two : table.plan.lists ≡ Two was next) where
    abbrev comes : List Place
    comes = last_of table.plan.lists

    comes_again : again_of table.plan.lists ≡ comes
    comes_again = ap again_of two ∙ sym (ap last_of two)

    comes_count : length hand.next ≡ length comes
    comes_count = sym (length-map hand.next (λ (s : Seat). s.place)) ∙ ap length (ready.next ∙ comes_again)

    comes_some : 1 ≤ length comes
    comes_some = more_some hand.seats comes (last_none hand.seats More table.plan.lists ready.enough)

    -- so it may be written again, with room for its text, and for those that come
    pub two_draft : (room : ℕ) → room ≡ room_of table → IsDraft opened room hand.next
    two_draft room room_is = record {
      seats = last_are;
      places = ready.next ∙ comes_again;
      some = (let count = comes_count in let some = comes_some in omega (arith, count, some));
      few = ready.next_few;
      boot = ready.small;
      count = omega arith;
      marks = λ r has. (let one = left_replica (DriveFailures shelf old mid) Both hand.seats last r w.took has in both_none_above hand.number (record_bytes table) one.0 r (ready.above one.0 one.1) one.2);
      in_seats = λ n has.
          let one = left_replica (DriveFailures shelf old mid) Both hand.seats last n w.took has in
          let fits = ready.room one.0 one.1 in
          let less = settled_less table in
          omega (arith, fits, less, ap (λ (x : Replica). x.first.blocks) one.2.2);
      in_room = (let less = settled_less table in omega (arith, room_is, less));
      whole = (let least = first_least comes comes_some in omega (arith, room_is, least));
      first = omega (arith, room_is);
      short = room_short hand table ready room room_is;
    }

  -- two lists: the table with the new one alone was written to the places of that list that took the table
  module _ (was next : List Place) (two : table.plan.lists ≡ Two was next) (new : S) (now : List Seat) (wrote : WroteAll shelf (second_mark hand.number) (settled table) mid new (seats_now last (last_of table.plan.lists)) now) where
    abbrev listed : List Place
    listed = last_of table.plan.lists

    abbrev picks : List Seat
    picks = seats_now last listed

    abbrev found : List Seat
    found = seats_now hand.seats listed

    abbrev over_table : Table
    over_table = settled table

    abbrev Again : Replica → Replica → Type 0
    Again = TakesSlot (second_mark hand.number) (text_size over_table)

    at_two : listed ≡ next
    at_two = ap last_of two

    twice_settled : settles table.plan.lists ≡ 1
    twice_settled = ap settles two

    -- the places of the list, behind both passes
    picks_left : AreLeft (DriveFailures shelf old mid) Both found picks
    picks_left = left_now (DriveFailures shelf old mid) Both hand.seats last ready.one w.took listed

    of_pick : (m : Replica) → Contains (replicas_of picks) m → (r : Replica) × Contains (replicas_of hand.seats) r × (DriveFailures shelf old mid (drive_of r)).none × Both r m
    of_pick m has = left_calm (DriveFailures shelf old mid) Both hand.seats last w.took m (now_in last listed m has)

    both_drive : (r m : Replica) → Both r m → drive_of m ≡ drive_of r
    both_drive r m took = ap drive_of took.2

    again_drive : (r m : Replica) → Again r m → drive_of m ≡ drive_of r
    again_drive r m took = ap drive_of took.2

    pick_on : (drive : DriveNo) → Contains (drives_of picks) drive → (m : Replica) × Contains (replicas_of picks) m × (m.line.at.drive ≡ drive)
    pick_on drive one_of = unmapped (λ (x : Replica). x.line.at.drive) (replicas_of picks) drive one_of

    was_calm : (drive : DriveNo) → Contains (drives_of picks) drive → shelf.faults mid (OnDrive drive.0) ≡ shelf.faults old (OnDrive drive.0)
    was_calm drive one_of =
        let m = pick_on drive one_of in
        let r = of_pick m.0 m.1 in
        subst (λ (d : ℕ). shelf.faults mid (OnDrive d) ≡ shelf.faults old (OnDrive d)) (sym (both_drive r.0 m.0 r.3) ∙ ap (λ (d : DriveNo). d.0) m.2) r.2

    in_seats : (drive : DriveNo) → Contains (drives_of picks) drive → Contains (drives_of hand.seats) drive
    in_seats drive one_of =
        let m = pick_on drive one_of in
        let r = of_pick m.0 m.1 in
        subst (Contains (drives_of hand.seats)) (sym (ap (λ (x : Replica). x.line.at.drive) r.3.2) ∙ m.2) (mapped (λ (x : Replica). x.line.at.drive) (replicas_of hand.seats) r.0 r.1)

    pub two_kept : KeptAmong shelf old new (drives_of hand.seats)
    two_kept = among_calm shelf old mid new (drives_of hand.seats) (drives_of picks) in_seats was_calm w.kept wrote.kept

    still : (drive : DriveNo) → (Contains (drives_of picks) drive → ⊥) → shelf.faults new (OnDrive drive.0) ≡ shelf.faults mid (OnDrive drive.0)
    still drive out = wrote.kept.others (OnDrive drive.0) (λ among. out (subst (Contains (drives_of picks)) (same_drive among.0 drive (sym (one_number drive.0 among.0.0 among.2))) among.1))

    -- a drive on which a call failed isn't written any more
    behind : (d : ℕ) → RoseOnce (shelf.faults old (OnDrive d)) (shelf.faults mid (OnDrive d)) → RoseOnce (shelf.faults old (OnDrive d)) (shelf.faults new (OnDrive d))
    behind d rose = later (λ n. shelf.faults old (OnDrive n)) (λ n. shelf.faults mid (OnDrive n)) (λ n. shelf.faults new (OnDrive n)) d rose (elim (is_one_of (drives_of picks) (record { 0 = d })) [
      | inl one_of ↦ on_it one_of
      | inr out ↦ inl (still (record { 0 = d }) out)
    ])
      where
        on_it : Contains (drives_of picks) (record { 0 = d }) → (shelf.faults new (OnDrive d) ≡ shelf.faults mid (OnDrive d)) ⊎ ((shelf.faults mid (OnDrive d) ≡ shelf.faults old (OnDrive d)) × RoseOnce (shelf.faults mid (OnDrive d)) (shelf.faults new (OnDrive d)))
        on_it one_of =
            let m = pick_on (record { 0 = d }) one_of in
            let here : drive_of m.0 ≡ d = ap (λ (x : DriveNo). x.0) m.2 in
            elim (left_told (DriveFailures shelf mid new) Again picks now wrote.left m.0 m.1) [
              | inl some ↦ inr (was_calm (record { 0 = d }) one_of, subst (λ (n : ℕ). RoseOnce (shelf.faults mid (OnDrive n)) (shelf.faults new (OnDrive n))) here some)
              | inr stays ↦ inl (subst (λ (n : ℕ). shelf.faults new (OnDrive n) ≡ shelf.faults mid (OnDrive n)) here stays.2)
            ]

    pub two_left : AreLeft (DriveFailures shelf old new) (TakesAll hand.number table) (last_in hand.seats table.plan.lists) now
    two_left =
        let all = left_both (λ n. shelf.faults old (OnDrive n)) (λ n. shelf.faults mid (OnDrive n)) (λ n. shelf.faults new (OnDrive n)) Both Again (TakesBy (Two was next) hand.number table) both_drive (λ r m n one other. (m, one, other)) behind found picks now picks_left wrote.left in
        subst (λ (l : Lists). AreLeft (DriveFailures shelf old new) (TakesBy l hand.number table) (last_in hand.seats l) now) (sym two)
        (subst (λ (ps : List Place). AreLeft (DriveFailures shelf old new) (TakesBy (Two was next) hand.number table) (seats_now hand.seats ps) now) at_two all)

    two_once : (drive : DriveNo) → IsOnce (DriveFailures shelf old new drive.0)
    two_once drive = elim (is_one_of (drives_of picks) drive) [
      | inl one_of ↦ once_from (was_calm drive one_of) (pass_once shelf mid new picks now Again wrote.kept wrote.left drive)
      | inr out ↦ once_still (still drive out) (pass_once shelf old mid hand.seats last Both w.kept w.took drive)
    ]
      where
        once_from : shelf.faults mid (OnDrive drive.0) ≡ shelf.faults old (OnDrive drive.0) → IsOnce (DriveFailures shelf mid new drive.0) → IsOnce (DriveFailures shelf old new drive.0)
        once_from calm (inl none) = inl (none ∙ calm)
        once_from calm (inr some) = inr (subst (λ (n : ℕ). RoseOnce n (shelf.faults new (OnDrive drive.0))) calm some)

        once_still : shelf.faults new (OnDrive drive.0) ≡ shelf.faults mid (OnDrive drive.0) → IsOnce (DriveFailures shelf old mid drive.0) → IsOnce (DriveFailures shelf old new drive.0)
        once_still same (inl none) = inl (same ∙ none)
        once_still same (inr some) = inr (same ∙ some)

    -- enough of the list took the table, and so was active as it was written again
    picks_enough : short_of (need_of key) picks (One listed) ≡ None
    picks_enough = now_enough last (need_of key) table.plan.lists w.enough

    -- where fewer took it a call failed on the drive of one
    fewer_lost : active_of now < active_of picks → (r : Replica) × Contains (replicas_of hand.seats) r × (DriveFailures shelf old new (drive_of r)).some
    fewer_lost less =
        let m = some_lost (DriveFailures shelf mid new) Again picks now wrote.left less in
        let r = of_pick m.0 m.1 in
        let drive = mapped (λ (x : Replica). x.line.at.drive) (replicas_of picks) m.0 m.1 in (
          r.0,
          r.1,
          subst (λ (d : ℕ). (DriveFailures shelf old new d).some) (both_drive r.0 m.0 r.3) (subst (λ (n : ℕ). RoseOnce n (shelf.faults new (OnDrive (drive_of m.0)))) (was_calm m.0.line.at.drive drive) m.2),
        )

    two_calm : (calm : Bool) → calm ≡ nat_eq (active_of last) (active_of hand.seats) → (b : Bool) → b ≡ nat_eq (active_of now) (active_of picks) → IsCalmOver shelf old new (replicas_of hand.seats) (calm && b)
    two_calm false calm_is b is = (let lost = first_calm false calm_is in (lost.0, lost.1, behind (drive_of lost.0) lost.2))
    two_calm true calm_is true is = λ drive.
        let first = first_calm true calm_is drive in
        elim (is_one_of (drives_of picks) drive) [
          | inl one_of ↦ (
              let m = pick_on drive one_of in
              let none = all_left (DriveFailures shelf mid new) Again picks now wrote.left (eqb-true (active_of now) (active_of picks) (sym is)) m.0 m.1 in
              subst (λ (d : ℕ). shelf.faults new (OnDrive d) ≡ shelf.faults mid (OnDrive d)) (ap (λ (d : DriveNo). d.0) m.2) none ∙ first)
          | inr out ↦ still drive out ∙ first
        ]
    two_calm true calm_is false is =
        fewer_lost (fewer (active_of now) (active_of picks) (left_most (DriveFailures shelf mid new) Again picks now wrote.left) (eqb-false (active_of now) (active_of picks) (sym is)))
      where
        fewer : (a b : ℕ) → a ≤ b → (a ≡ b → ⊥) → a < b
        fewer a b most differs = omega (arith, most, differs)

    two_wrote : RoseByAtLeast 1 (shelf.written old) (shelf.written new)
    two_wrote = rose_then 1 _ 1 (shelf.written old) (shelf.written mid) (shelf.written new) (omega arith) w.wrote wrote.passed.counted.wrote

    fewer_picks : active_of picks ≤ active_of (seats_now hand.seats (again_of table.plan.lists))
    fewer_picks = subst (λ (ps : List Place). active_of picks ≤ active_of (seats_now hand.seats ps)) (sym (comes_again was next two)) (left_most (DriveFailures shelf old mid) Both found picks picks_left)

    two_made : MadeRewriteCalls shelf old new hand table
    two_made =
        let less = fewer_picks in
        let product = mul-le-mul_left (2 + blocks_for (text_size over_table)) less in
        between_then shelf.calls shelf.written old mid new 1 (8 * active_of hand.seats) ((3 + blocks_for (record_bytes table)) * active_of hand.seats) _ (6 * active_of picks) ((2 + blocks_for (text_size over_table)) * active_of picks)
        1 (calls_at hand.seats table) (blocks_at hand.seats table) (omega arith) (omega (arith, less)) (omega (arith, product)) w.made wrote.passed.counted.some

    two_written : WereSettled shelf old new key hand table now
    two_written = record {
      mid = mid;
      now = last;
      rewritten = w.written;
      enough = w.enough;
      again = subst (λ (ps : List Place). WereSlotted shelf mid new (second_mark hand.number) over_table (seats_now last ps) now) (sym (comes_again was next two))
          (record { left = wrote.left; steps = wrote.passed.steps; counted = wrote.passed.counted; end = wrote.ends });
    }

    picks_few : active_of picks ≤ 50
    picks_few = (let most = now_active last listed in let count = comes_count was next two in let few = ready.next_few in omega (arith, most, count, few))

    text_less : blocks_for (text_size over_table) ≤ 4094
    text_less = (let less = settled_less table in let most = text_most hand table ready in omega (arith, less, most))

    pub two_most : MadeCallsBetween shelf old new 0 most_calls most_blocks
    two_most =
        let few = picks_few in
        let short : 2 + blocks_for (text_size over_table) ≤ 4096 = (let less = text_less in omega (arith, less)) in
        let product = mul-le-mul_left (active_of picks) short in
        between_then shelf.calls shelf.written old mid new 0 (8 * 100) (100 * 4097) _ (6 * active_of picks) ((2 + blocks_for (text_size over_table)) * active_of picks) 0 most_calls most_blocks (omega arith) (omega (arith, few)) (omega (arith, few, product)) w.most wrote.passed.counted.some

    -- Nothing but the places of the list is written.
    pick_area : (drive block : ℕ) → seats_area hand.seats drive block ≡ false → seats_area picks drive block ≡ false
    pick_area drive block out = now_area last listed drive block (none_all (λ (r : Replica). replica_area r drive block) (replicas_of last) (λ n has.
        let one = left_replica (DriveFailures shelf old mid) Both hand.seats last n w.took has in
        ap (λ (x : Replica). replica_area x drive block) one.2.2 ∙ none_of (λ (x : Replica). replica_area x drive block) (replicas_of hand.seats) one.0 out one.1))

    -- the opened database with these places alone, and the next table
    abbrev from : Opened
    from = record opened { seats = picks }

    lie_at : (g : Geometry) (t : Tale) → IsOpenedAt g from t → (r : Replica) → Contains (replicas_of picks) r → Contains (lines_of g key) r.line
    lie_at g t is r has = (is.held.each r has (last_tale t) (last_image t)).found.one_of

    names : (g : Geometry) (t : Tale) → IsOpenedAt g from t → AreNamed (site_of g key) over_table picks
    names g t is r has =
        let s = now_seat last listed r has in
        let spot = spot_is g key is.sound r s.0.place (lie_at g t is r has) (last_are.at s.0 r s.1 s.2) in
        or_left (is_in (map (spot_at g key is.sound) listed) (spot_of r)) false (subst (λ (p : Spot). is_in (map (spot_at g key is.sound) listed) p ≡ true) spot (in_mapped (spot_at g key is.sound) listed s.0.place s.3))

    committing : IsCommitting from over_table
    committing = record {
      seats = now_seats last table last_are (comes_some was next two) (let count = comes_count was next two in let few = ready.next_few in omega (arith, count, few));
      boot = ready.small;
      small = omega arith;
      half = kept_lists (need_of key) Half (need_half key) picks picks (λ p so. so) (One listed) picks_enough;
      none_above = λ r has. (let one = left_replica (DriveFailures shelf old mid) Both hand.seats last r w.took (now_in last listed r has) in both_none_above hand.number (record_bytes table) one.0 r (ready.above one.0 one.1) one.2);
      follows = inr refl;
      room = now_room last listed (blocks_for (text_size over_table)) (λ n has.
          let one = left_replica (DriveFailures shelf old mid) Both hand.seats last n w.took has in
          let fits = ready.room one.0 one.1 in
          let less = settled_less table in
          omega (arith, fits, less, ap (λ (x : Replica). x.first.blocks) one.2.2));
      named = names;
    }

    -- what was read is a record, and so is it with the new list alone
    in_room : (g : Geometry) (t : Tale) → IsToAdopt g key hand table t → record_bytes over_table ≤ room_in over_table
    in_room g t to =
        let read = spelled_of g _ table to.sound (to.read.shows (last_tale t) (last_image t)).text in
        let text = read.text in
        let less = settled_less table in
        let more = last_room table.plan.lists in
        omega (arith, read.in_room, less, more)

    module _ (g : Geometry) (t u : Tale) (to : IsToAdopt g key hand table t) (first : AreTwice key hand table last t u) where
      picked : IsOpenedAt g from u
      picked =
          let is = first.opened g to in
          record {
            sound = is.sound;
            of_geometry = is.of_geometry;
            held = record { each = λ r has. is.held.each r (now_in last listed r has); once = now_once last is.held.once last_are.at listed (last_differ table.plan.lists is.of_geometry.lists) };
            named = λ r has. is.named r (now_in last listed r has);
            shown = λ r has. is.shown r (now_in last listed r has);
          }
        where
          last_differ : (l : Lists) → IsListsOf g l → AllPairs (λ (p q : Place). p ≡ q → ⊥) (last_of l)
          last_differ (One list) are = are.differ
          last_differ (Two a b) are = are.1.differ

      geometry : IsOfGeometry g over_table
      geometry = settled_of g table to.of_geometry

      -- the log goes on from the table that was written anew
      module _ (log : Log) (covers : CoversWith (Spells g) (site_of g key) hand.identity (λ image x. Anything x) log t) (known : HasNoStaleVote (site_of g key) to.seen to.mark log) where
        abbrev site : Site
        site = site_of g key

        abbrev read : List Spot
        read = spots_seen to.seen

        one_goes : GoesTraced (Spells g) g site hand.identity [] Anything (AreBooted read (spots_of hand.seats)) (IsReadyWith (spots_of last)) (λ l. IsLiveWith l (drawn hand.number) table) t u log
        one_goes = first.goes g to log covers known

        abbrev Middle : Log → Type 0
        Middle l = IsNewestWritten l (drawn hand.number) table × CoversWith (Spells g) site hand.identity (λ image x. IsReadyWith (spots_of picks) x) l u

        fewer_traces : Traces (Spells g) site hand.identity log (log_after_all log one_goes.es) Anything (AreBooted read (spots_of hand.seats)) (IsReadyWith (spots_of picks)) t u
        fewer_traces = trace_weaker (Spells g) site hand.identity log (log_after_all log one_goes.es) Anything Anything (IsReadyWith (spots_of last)) (IsReadyWith (spots_of picks)) (AreBooted read (spots_of hand.seats)) (AreBooted read (spots_of hand.seats)) t u
            (λ x known. known) (λ es run. run) (λ x known. fewer_ready (spots_of last) (spots_of picks) x (now_spots last listed) known) one_goes.traces

        middle : GoesTraced (Spells g) g site hand.identity [] Anything (AreBooted read (spots_of hand.seats)) (IsReadyWith (spots_of picks)) Middle t u log
        middle = record {
          es = one_goes.es;
          course = one_goes.course;
          come = one_goes.come;
          traces = fewer_traces;
          after = (one_goes.after.newest, traced (Spells g) site hand.identity log (log_after_all log one_goes.es) Anything (AreBooted read (spots_of hand.seats)) (IsReadyWith (spots_of picks)) t u covers fewer_traces);
        }

        last_within : IsWithin (is_in (spots_of picks)) (is_in (spots_of hand.seats))
        last_within q is = spots_among (spots_of last) (spots_of hand.seats) (λ p has.
            let n = unmapped spot_of (replicas_of last) p has in
            let r = left_replica (DriveFailures shelf old mid) Both hand.seats last n.0 w.took n.1 in
            subst (Contains (spots_of hand.seats)) (ap spot_of (sym r.2.2) ∙ n.2) (mapped spot_of (replicas_of hand.seats) r.0 r.1)) q (now_spots last listed q is)

        of_both : (es fs : List Event) → AreBooted read (spots_of hand.seats) es → AreWritten g from over_table fs → AreOfBoot site table.plan.lists read (spots_of hand.seats) (es ++ fs)
        of_both es fs (p, run) (q, active, commit) = inr (inr (subst (λ (l : Lists). AreSettling site l read (spots_of hand.seats) (es ++ fs)) (sym two)
            (es, fs, p, q, spots_of picks, run, (last_within, subst (λ (ps : List Place). IsCommitRun (lists_of_spots site (One ps)) q (spots_of picks) fs) at_two commit), refl)))

        may : (l : Log) (is : IsNewestWritten l (drawn hand.number) table) → MayChangeLists is.newest.version over_table
        may l is = inr is.written

        again_goes : (m : Tale) → WritingMoment picks (second_mark hand.number) over_table u m → GoesTraced (Spells g) g site hand.identity [] Anything (AreOfBoot site table.plan.lists read (spots_of hand.seats)) AnyWorld AnyLog t m log
        again_goes m writing = goes_more (Spells g) site hand.identity g [] [] Anything (IsReadyWith (spots_of picks)) AnyWorld (AreBooted read (spots_of hand.seats)) (AreWritten g from over_table) (AreOfBoot site table.plan.lists read (spots_of hand.seats)) Middle AnyLog t u m log of_both middle
            (λ l known. goes_on from over_table committing g None u picked geometry (in_room g t to) l known.1 known.0.newest (inr refl) (may l known.0) m writing)

        over_goes : (v : Tale) → WritingEnds picks now (second_mark hand.number) over_table u v → short_of Half now (One listed) ≡ None
            → GoesTraced (Spells g) g site hand.identity [] Anything (AreOfBoot site table.plan.lists read (spots_of hand.seats)) (IsReadyWith (spots_of now)) (λ l. IsLiveWith l (second_mark hand.number) over_table) t v log
        over_goes v ends half = goes_more (Spells g) site hand.identity g [] [] Anything (IsReadyWith (spots_of picks)) (IsReadyWith (spots_of now)) (AreBooted read (spots_of hand.seats)) (AreWritten g from over_table) (AreOfBoot site table.plan.lists read (spots_of hand.seats)) Middle (λ l. IsLiveWith l (second_mark hand.number) over_table) t u v log of_both middle
            (λ l known.
            let x = ends_so from over_table committing g None u picked geometry (in_room g t to) l known.1 known.0.newest (inr refl) (may l known.0) now v ends now_are half in
            let newest = over_newest from over_table committing g None u picked geometry (in_room g t to) l known.1 known.0.newest (inr refl) (may l known.0) now v ends now_are half in
            record { es = x.es; course = x.course; come = x.come; traces = x.traces; after = record { newest = subst (λ (k : Log). IsNewestWritten k (second_mark hand.number) over_table) (sym x.after) newest; lives = ap (λ (k : Log). k.fate) x.after } })
          where
            now_are : AreSeatsOf over_table now
            now_are = left_seats (DriveFailures shelf mid new) Again over_table over_table picks now (λ r n took. ap at_of took.2) refl wrote.left committing.seats

    third_moment : (t u m : Tale) → AreTwice key hand table last t u → WritingMoment picks (second_mark hand.number) over_table u m → RewriteMoment key hand table t m
    third_moment t u m first writing = record {
      quiet = quiet_more (seats_area hand.seats) t u m first.moment.quiet (quiet_wider (seats_area picks) (seats_area hand.seats) u m pick_area writing.slotting.quiet);
      only = inr (inr (
        twice_settled,
        first.claimed,
        first.between,
        last,
        u,
        first.claims,
        first.slots,
        subst (λ (ps : List Place). IsBeingWritten (replicas_of (seats_now last ps)) (second_mark hand.number) over_table u m) (sym (comes_again was next two)) (writing.body, writing.spelled, writing.slotting.passing),
      ));
      goes = λ g to log covers known. again_goes g t u to first log covers known m writing;
      rest = λ g all to rest. others_stand from over_table committing u m writing g (geometry g t u to first) (in_room g t to) (picked g t u to first) all (first.moment.rest g all to rest);
      blank = λ g to ask other another blank. others_blank from over_table committing u m writing g (geometry g t u to first) (in_room g t to) (picked g t u to first) ask other another (first.moment.blank g to ask other another blank);
    }

    pub two_moments : AtEachTale shelf (RewriteMoment key hand table) old new
    two_moments = moments_after (RewriteMoment key hand table) (AreTwice key hand table last) (WritingMoment picks (second_mark hand.number) over_table) (RewriteMoment key hand table) (shelf.tale old) (shelf.tale mid) (shelf.tale new)
        (λ t m moment. moment) third_moment w.moments w.ends wrote.moments

    write_both : AtEnd shelf (λ t u. WritingEnds picks now (second_mark hand.number) over_table t u × WritingMoment picks (second_mark hand.number) over_table t u) mid new
    write_both = ends_both (WritingEnds picks now (second_mark hand.number) over_table) (WritingMoment picks (second_mark hand.number) over_table) _ (shelf.tale mid) (shelf.tale new) (λ t u e m. (e, m)) wrote.ends
        (moments_end (WritingMoment picks (second_mark hand.number) over_table) (shelf.tale mid) (shelf.tale new) wrote.moments)

    pub two_synced : AtEnd shelf (StaySynced shelf old new) old new
    two_synced = ends_more (StaySynced shelf old mid) (λ u v. WritingEnds picks now (second_mark hand.number) over_table u v × WritingMoment picks (second_mark hand.number) over_table u v) (StaySynced shelf old new) (shelf.tale old) (shelf.tale mid) (shelf.tale new)
        (λ t u v one other drive synced never.
        pass_synced (DriveFailures shelf mid new) Again picks now u v again_drive wrote.left other.1.slotting.quiet.outside other.0.slotting.synced drive
        (λ one_of some. never (subst (λ (n : ℕ). RoseOnce n (shelf.faults new (OnDrive drive.0))) (was_calm drive one_of) some))
        (one drive synced (λ some. never (behind drive.0 some)))) w.synced write_both

    -- in the end those of the list show it
    over_opened : (t u v : Tale) → AreTwice key hand table last t u → WritingEnds picks now (second_mark hand.number) over_table u v → (g : Geometry) → IsToAdopt g key hand table t → IsOpenedAt g (open_with key hand (second_mark hand.number) over_table now) v
    over_opened t u v first ends g to = left_show from over_table committing (DriveFailures shelf mid new) now wrote.left u v ends g (geometry g t u to first) (in_room g t to) (picked g t u to first)

    -- Those that the new list lacks: of them those are left on whose drives no call failed then either.
    abbrev kept_one : Option Replica → Option Replica
    kept_one None = None
    kept_one (Some n) = cond (nat_eq (shelf.faults new (OnDrive (drive_of n))) (shelf.faults mid (OnDrive (drive_of n)))) (Some n) None

    abbrev kept_of : List Seat → List Seat
    kept_of seats = map (λ (s : Seat). record s { replica = kept_one s.replica }) seats

    abbrev still_there : List Seat
    still_there = kept_of last

    still_left : AreLeft (DriveFailures shelf old new) Both hand.seats still_there
    still_left = by hand.seats last w.took where
      one : (o p : Option Replica) → MatchOption o (p ≡ None) (λ (r : Replica). MatchOption p ((DriveFailures shelf old mid (drive_of r)).some) (λ (n : Replica). (DriveFailures shelf old mid (drive_of r)).none × Both r n))
          → MatchOption o (kept_one p ≡ None) (λ (r : Replica). MatchOption (kept_one p) ((DriveFailures shelf old new (drive_of r)).some) (λ (n : Replica). (DriveFailures shelf old new (drive_of r)).none × Both r n))
      one None p is = ap kept_one is
      one (Some r) None some = behind (drive_of r) some
      one (Some r) (Some n) took = cases (nat_eq (shelf.faults new (OnDrive (drive_of n))) (shelf.faults mid (OnDrive (drive_of n)))) refl where
        same : drive_of n ≡ drive_of r
        same = both_drive r n took.1

        cases : (b : Bool) → nat_eq (shelf.faults new (OnDrive (drive_of n))) (shelf.faults mid (OnDrive (drive_of n))) ≡ b
            → MatchOption (cond b (Some n) None) ((DriveFailures shelf old new (drive_of r)).some) (λ (x : Replica). (DriveFailures shelf old new (drive_of r)).none × Both r x)
        cases true is = (subst (λ (d : ℕ). shelf.faults new (OnDrive d) ≡ shelf.faults mid (OnDrive d)) same (eqb-true (shelf.faults new (OnDrive (drive_of n))) (shelf.faults mid (OnDrive (drive_of n))) is) ∙ took.0, took.1)
        cases false is = elim (two_once r.line.at.drive) [
          | inl none ↦ absurd (eqb-false (shelf.faults new (OnDrive (drive_of n))) (shelf.faults mid (OnDrive (drive_of n))) is (subst (λ (d : ℕ). shelf.faults new (OnDrive d) ≡ shelf.faults mid (OnDrive d)) (sym same) (none ∙ sym took.0)))
          | inr some ↦ some
        ]

      by : (ss ns : List Seat) → AreLeft (DriveFailures shelf old mid) Both ss ns → AreLeft (DriveFailures shelf old new) Both ss (kept_of ns)
      by [] [] are = tt
      by [] (n ∷ ns) are = absurd are
      by (s ∷ ss) [] are = absurd are
      by (s ∷ ss) (n ∷ ns) are = ((are.0.0, one s.replica n.replica are.0.1), by ss ns are.1)

    still_part : (seats : List Seat) → IsPart (spots_of (kept_of seats)) (spots_of seats)
    still_part [] = tt
    still_part (s ∷ seats) = by s.replica (still_part seats) where
      cases : (n : Replica) (b : Bool) (xs ys : List Spot) (rs : List Replica) → map spot_of rs ≡ xs → IsPart xs ys → IsPart (map spot_of (cons_option (cond b (Some n) None) rs)) (spot_of n ∷ ys)
      cases n true xs ys rs same part = inl (refl, subst (λ (l : List Spot). IsPart l ys) (sym same) part)
      cases n false [] ys [] same part = tt
      cases n false [] ys (r ∷ rs) same part = absurd (cc (same))
      cases n false (x ∷ xs) ys [] same part = absurd (cc (same))
      cases n false (x ∷ xs) ys (r ∷ rs) same part = inr (subst (λ (l : List Spot). IsPart l ys) (sym same) part)

      by : (o : Option Replica) → IsPart (spots_of (kept_of seats)) (spots_of seats) → IsPart (map spot_of (cons_option (kept_one o) (replicas_of (kept_of seats)))) (map spot_of (cons_option o (replicas_of seats)))
      by None rest = rest
      by (Some n) rest = cases n (nat_eq (shelf.faults new (OnDrive (drive_of n))) (shelf.faults mid (OnDrive (drive_of n)))) (spots_of (kept_of seats)) (spots_of seats) (replicas_of (kept_of seats)) refl rest

    still_in : (n : Replica) → Contains (replicas_of still_there) n → Contains (replicas_of last) n
    still_in n has =
        let s = seat_of still_there n has in
        let m = unmapped (λ (x : Seat). record x { replica = kept_one x.replica }) last s.0 s.1 in
        replica_of last m.0 n m.1 (had m.0.replica (ap (λ (x : Seat). x.replica) m.2 ∙ s.2))
      where
        had : (o : Option Replica) → kept_one o ≡ Some n → o ≡ Some n
        had None none = absurd (cc (none))
        had (Some x) so = by (nat_eq (shelf.faults new (OnDrive (drive_of x))) (shelf.faults mid (OnDrive (drive_of x)))) so where
          by : (b : Bool) → cond b (Some x) None ≡ Some n → Some x ≡ Some n
          by true is = is
          by false is = absurd (cc (is))

    still_are : AreSeatsOf table still_there
    still_are = left_seats (DriveFailures shelf old new) Both table table hand.seats still_there (λ r n took. ap at_of took.2) refl still_left ready.seats

    abbrev gone : List Seat
    gone = seats_now still_there (gone_of table.plan.lists)

    gone_left : AreLeft (DriveFailures shelf old new) Both (seats_now hand.seats (gone_of table.plan.lists)) gone
    gone_left = left_now (DriveFailures shelf old new) Both hand.seats still_there ready.one still_left (gone_of table.plan.lists)

    gone_in : (n : Replica) → Contains (replicas_of gone) n → Contains (replicas_of last) n
    gone_in n has = still_in n (now_in still_there (gone_of table.plan.lists) n has)

    -- the new list has none of them
    lacks : (l : Lists) (p : Place) → Contains (gone_of l) p → Contains (last_of l) p → ⊥
    lacks (One list) p has there = omega (arith, has.1)
    lacks (Two a b) p has there = All-contains (λ (q : Place). Contains b q → ⊥) (beside b a) p (beside_apart b a) has there

    all_hold : AtEnd shelf (LeftHoldOf key hand table (Settled now gone)) old new
    all_hold = ends_more (AreTwice key hand table last) (WritingEnds picks now (second_mark hand.number) over_table) (LeftHoldOf key hand table (Settled now gone)) (shelf.tale old) (shelf.tale mid) (shelf.tale new)
        (λ t u v first ends g to. (over_opened t u v first ends g to, shows t u v first ends g to)) w.ends wrote.ends
      where
        gone_differ : (g : Geometry) (l : Lists) → IsListsOf g l → AllPairs (λ (p q : Place). p ≡ q → ⊥) (gone_of l)
        gone_differ g (One list) are = λ i j d less within. absurd (omega (arith, within))
        gone_differ g (Two a b) are = part_pairs (λ (p q : Place). p ≡ q → ⊥) (beside b a) a (part_filter (λ (p : Place). not (list_any (same_place p) b)) a) are.0.differ

        shows : (t u v : Tale) → AreTwice key hand table last t u → WritingEnds picks now (second_mark hand.number) over_table u v → LeftHoldOf key hand table (Rewritten gone) t v
        shows t u v first ends g to = record {
          sound = is.sound;
          of_geometry = is.of_geometry;
          held = record {
            each = λ n has. (stays n has).0;
            once = now_once still_there (part_pairs (λ (p q : Spot). same_spot p q ≡ false) (spots_of still_there) (spots_of last) (still_part last) is.held.once) still_are.at (gone_of table.plan.lists) (gone_differ g table.plan.lists is.of_geometry.lists);
          };
          named = λ n has. is.named n (gone_in n has);
          shown = λ n has. (stays n has).1;
        }
          where
            is : IsOpenedAt g opened u
            is = first.opened g to

            apart : (n : Replica) → Contains (replicas_of gone) n → (r : Replica) → Contains (replicas_of picks) r → spot_of n ≡ spot_of r → ⊥
            apart n has r there same =
                let s = now_seat still_there (gone_of table.plan.lists) n has in
                let q = now_seat last listed r there in
                let differ : n ≡ r → ⊥ = λ one. lacks table.plan.lists s.0.place s.3 (subst (Contains listed) (sym (last_are.at q.0 r q.1 q.2) ∙ ap (λ (x : Replica). (at_of x).place) (sym one) ∙ still_are.at s.0 n s.1 s.2) q.3) in
                let two_spots = spot_apart last is.held.once last_are.at (replicas_of last) is.held.once n r (gone_in n has) (now_in last listed r there) differ in
                false≢true (sym two_spots ∙ subst (λ (p : Spot). same_spot (spot_of n) p ≡ true) same (same_self (spot_of n)))

            stays : (n : Replica) → Contains (replicas_of gone) n → Own g key hand.identity n v × IsShown g (drawn hand.number) table n v
            stays n has =
                shown_beside (second_mark hand.number) (text_size over_table) ends.body picks u g key hand.identity over_table is.sound (picked g t u to first).held
                (bodies from over_table committing ends.body ends.spelled g is.sound (geometry g t u to first) (in_room g t to)) n (apart n has) (drawn hand.number) table (replicas_of now) [] v ends.slotting.passed
                (is.held.each n (gone_in n has), is.shown n (gone_in n has))

    -- what came of it
    module _ (calm : Bool) (calm_is : calm ≡ nat_eq (active_of last) (active_of hand.seats)) (taken : Taken)
        (came : MatchOption (short_of (need_of key) now (One listed)) (taken ≡ record { end = end.Adopted (record { key = key; identity = hand.identity; mark = second_mark hand.number; table = over_table; seats = now }); calm = calm && nat_eq (active_of now) (active_of picks) })
        (λ share. taken ≡ record { end = end.Lost share.active share.listed; calm = false })) where
      abbrev Came : Option Share → Type 0
      Came o = MatchOption o (taken ≡ record { end = end.Adopted (record { key = key; identity = hand.identity; mark = second_mark hand.number; table = over_table; seats = now }); calm = calm && nat_eq (active_of now) (active_of picks) })
          (λ share. taken ≡ record { end = end.Lost share.active share.listed; calm = false })

      two_exact : (calm && nat_eq (active_of now) (active_of picks)) ≡ true → MadeCalls shelf old new (8 * active_of hand.seats + 6 * active_of now) ((3 + blocks_for (record_bytes table)) * active_of hand.seats + (2 + blocks_for (text_size over_table)) * active_of now)
      two_exact so =
          let both = and_parts calm (nat_eq (active_of now) (active_of picks)) so in
          let first : active_of last ≡ active_of hand.seats = eqb-true (active_of last) (active_of hand.seats) (sym calm_is ∙ both.0) in
          let second : active_of now ≡ active_of picks = eqb-true (active_of now) (active_of picks) both.1 in
          let some = some_enough (need_of key) picks over_table committing.seats picks_enough in
          took_more shelf.calls shelf.written old mid new (8 * active_of last) (6 * active_of picks) ((3 + blocks_for (record_bytes table)) * active_of last) ((2 + blocks_for (text_size over_table)) * active_of picks)
          (8 * active_of hand.seats + 6 * active_of now) ((3 + blocks_for (record_bytes table)) * active_of hand.seats + (2 + blocks_for (text_size over_table)) * active_of now)
          (omega (arith, first, second)) (same_sum (blocks_for (record_bytes table)) (blocks_for (text_size over_table)) (active_of last) (active_of hand.seats) (active_of picks) (active_of now) first second) (w.exact first) (wrote.passed.counted.all some second)
        where
          same_sum : (k l a b c d : ℕ) → a ≡ b → d ≡ c → (3 + k) * a + (2 + l) * c ≡ (3 + k) * b + (2 + l) * d
          same_sum k l a b c d one two = ap (λ (n : ℕ). (3 + k) * n + (2 + l) * c) one ∙ ap (λ (n : ℕ). (3 + k) * b + (2 + l) * n) (sym two)

      two_whole : Settled now gone ≡ all_written table.plan.lists now gone
      two_whole = ap (λ (l : Lists). all_written l now gone) (sym two)

      pub two_answer : IsRewriteAnswer shelf old new key hand table taken
      two_answer = by (short_of (need_of key) now (One listed)) refl came where
        by : (o : Option Share) → short_of (need_of key) now (One listed) ≡ o → Came o → IsRewriteAnswer shelf old new key hand table taken
        by None none is = subst (IsRewriteAnswer shelf old new key hand table) (sym is) (record {
          progress = Settled now gone;
          shows = all_hold;
          ended = (gone, two_whole, record { over = gone_left; left = two_left; enough = none; is = λ i. record { key = key; identity = hand.identity; mark = record { boot = hand.number; count = sym twice_settled i }; table = over_table; seats = now } });
          calm = two_calm calm calm_is (nat_eq (active_of now) (active_of picks)) refl;
          once = two_once;
          wrote = two_wrote;
          made = two_made;
          exact = two_exact;
          written = two_written;
        })
        by (Some share) few is = subst (IsRewriteAnswer shelf old new key hand table) (sym is) (record {
          progress = Settled now gone;
          shows = all_hold;
          ended = (twice_settled, record { left = two_left; few = few }, gone_left);
          calm = fewer_lost (short_fewer (DriveFailures shelf mid new) Again (need_of key) (need_of key) (same_need key) (One listed) picks now share wrote.left picks_enough few);
          once = two_once;
          wrote = two_wrote;
          made = two_made;
          exact = λ so. absurd (false≢true so);
          written = two_written;
        })

      pub two_end : AtEnd shelf (λ t u. IfAdopted taken.end (λ o. RewriteEnds key hand table o t u)) old new
      two_end = ends_more (AreTwice key hand table last) (WritingEnds picks now (second_mark hand.number) over_table) (λ t u. IfAdopted taken.end (λ o. RewriteEnds key hand table o t u)) (shelf.tale old) (shelf.tale mid) (shelf.tale new)
          (λ t u v one ends. by t u v one ends (short_of (need_of key) now (One listed)) refl came) w.ends wrote.ends
        where
          by : (t u v : Tale) → AreTwice key hand table last t u → WritingEnds picks now (second_mark hand.number) over_table u v → (o : Option Share) → short_of (need_of key) now (One listed) ≡ o → Came o → IfAdopted taken.end (λ o. RewriteEnds key hand table o t v)
          by t u v one ends None none is = subst (λ (x : Taken). IfAdopted x.end (λ o. RewriteEnds key hand table o t v)) (sym is) (record {
            opened = over_opened t u v one ends;
            goes = λ g to log covers known. over_goes g t u to one log covers known v ends (kept_lists (need_of key) Half (need_half key) now now (λ p so. so) (One listed) none);
          })
          by t u v one ends (Some share) few is = subst (λ (x : Taken). IfAdopted x.end (λ o. RewriteEnds key hand table o t v)) (sym is) tt

      pub two_counted : IsTakingCounted shelf old new taken
      two_counted = record { most = two_most; calm = λ so. by (short_of (need_of key) now (One listed)) came so } where
        all_calm : (calm && nat_eq (active_of now) (active_of picks)) ≡ true → IsAnewCounted (MadeCalls shelf old new) 0 (record { key = key; identity = hand.identity; mark = second_mark hand.number; table = over_table; seats = now })
        all_calm so =
            let both = and_parts calm (nat_eq (active_of now) (active_of picks)) so in
            let first : active_of last ≡ active_of hand.seats = eqb-true (active_of last) (active_of hand.seats) (sym calm_is ∙ both.0) in
            let second : active_of now ≡ active_of picks = eqb-true (active_of now) (active_of picks) both.1 in
            let some = some_enough (need_of key) picks over_table committing.seats picks_enough in
            record {
              table = table;
              found = active_of hand.seats;
              is = refl;
              marked = sym twice_settled;
              one = λ none. absurd (cc (none, twice_settled));
              made = subst (λ (n : ℕ). MadeCalls shelf old new (0 + (8 * active_of hand.seats + 6 * (n * active_of now))) ((3 + blocks_for (record_bytes table)) * active_of hand.seats + (2 + blocks_for (text_size over_table)) * (n * active_of now))) (sym twice_settled)
                  (took_more shelf.calls shelf.written old mid new (8 * active_of last) (6 * active_of picks) ((3 + blocks_for (record_bytes table)) * active_of last) ((2 + blocks_for (text_size over_table)) * active_of picks)
                  (0 + (8 * active_of hand.seats + 6 * (1 * active_of now))) ((3 + blocks_for (record_bytes table)) * active_of hand.seats + (2 + blocks_for (text_size over_table)) * (1 * active_of now))
                  (omega (arith, first, second)) (blocks (blocks_for (record_bytes table)) (blocks_for (text_size over_table)) (active_of last) (active_of hand.seats) (active_of picks) (active_of now) first second) (w.exact first) (wrote.passed.counted.all some second));
            }
          where
            blocks : (k l a b c d : ℕ) → a ≡ b → d ≡ c → (3 + k) * a + (2 + l) * c ≡ (3 + k) * b + (2 + l) * (1 * d)
            blocks k l a b c d one two =
                let once : 1 * d ≡ c = omega (arith, two) in
                subst (λ (n : ℕ). (3 + k) * a + (2 + l) * c ≡ (3 + k) * n + (2 + l) * (1 * d)) one (subst (λ (n : ℕ). (3 + k) * a + (2 + l) * c ≡ (3 + k) * a + (2 + l) * n) (sym once) refl)

        by : (o : Option Share) → Came o → taken.calm ≡ true → IfAdopted taken.end (IsAnewCounted (MadeCalls shelf old new) 0)
        by None is so = subst (λ (x : Taken). IfAdopted x.end (IsAnewCounted (MadeCalls shelf old new) 0)) (sym is) (all_calm (sym (ap (λ (x : Taken). x.calm) is) ∙ so))
        by (Some share) is so = absurd (false≢true (sym (ap (λ (x : Taken). x.calm) is) ∙ so))
