-- What a creation says, clause by clause, of the calls that it made.
use Rattle.std.proofs.Common.{◌≡◌, inl, inr, ℕ, ◌+◌, ◌*◌, ◌≤◌, List, [], ◌∷◌, ◌++◌, length, map, Contains, Result, Ok, Err, refl, sym, ◌∙◌, ap, subst, arith, None, Some}
use Rattle.std.proofs.Math.Nat.{mul-le-mul_left}
use Rattle.mdv_base.specs.Causes.{failures_of}
use Rattle.mdv_base.specs.Mark.{IsBelow}
use Rattle.mdv_replica.specs.declared.forms.Gate.TheVariants.{Closed}
use Rattle.mdv_shelf.specs.Calls.{OnDrive}
use Rattle.mdv_shelf.specs.Drives.{KeptAmong}
use Rattle.mdv_shelf.specs.Shelves.{AtEachTale, AtEnd, DriveFailures, MadeCalls}
use Rattle.mdv_shelf.proofs.Among.{among_wider}
use Rattle.mdv_shelf.proofs.Between.{between_of, between_then, between_wider}
use Rattle.mdv_shelf.proofs.Counts.{took_more}
use Rattle.mdv_shelf.proofs.Moments.{ends_more, grew_weaker, moments_after, moments_end, moments_none, moments_weaker, some_is}
use Rattle.mdv_standing.specs.Creating.{first_mark}
use Rattle.mdv_acts.specs.Acts.{Act, AreDoing, AreDone, HaveGone, HaveStopped, Makes, blanks_asked, blocks_of, calls_of, forms_asked}
use Rattle.mdv_store.specs.Below.{DriveNo, Failures, First, Geometry, Ghosts, Head, Identity, Key, Mark, Open, Replica, Second, SliceLine, Slot, Table, Tale, gate_of, record_bytes, with_slot}
use Rattle.mdv_store.specs.Counts.{ArePassCounted, MadeCallsBetween, drives_lost}
use Rattle.mdv_acts.specs.Asked.{AreAsked, blanked_asked, drives_asked}
use Rattle.mdv_store.specs.Create.{CreateAnswer, CreateEnds, CreateMoment, IsCreated, IsCreationCounted, MayForm, StayFormed, WereFormed, seats_asked, table_of}
use Rattle.mdv_store.specs.Listing.{list_room}
use Rattle.mdv_store.proofs.Rooms.{first_most}
use Rattle.mdv_store.specs.Opened.{IsOpen, Opened}
use Rattle.mdv_store.specs.Seats.{AreLaid, AreLeft, TakesSlot, active_of, drives_of, replicas_of}
use Rattle.mdv_store.specs.Shares.{short_of}
use Rattle.mdv_store.specs.Text.{blocks_for}
use Rattle.mdv_store.specs.Writing.{WereWritten, WritingEnds, WritingMoment}
use Rattle.mdv_store.specs.declared.creating.CreateFault.{CreateFault}
use Rattle.mdv_store.specs.declared.creating.CreateFault.TheVariants as unmade
use Rattle.mdv_store.specs.declared.seats.Seat.{Seat}
use Rattle.mdv_acts.proofs.Counting.{blanks_blocks, blanks_calls, forms_blocks, forms_calls}
use Rattle.mdv_store.proofs.Acted.{acts_done_quiet, acts_quiet, quiet_more}
use Rattle.mdv_acts.proofs.Acting.{among_more, blocks_more, calls_more, doing_here}
use Rattle.mdv_acts.proofs.Asked.{drive_asked}
use Rattle.mdv_store.proofs.Losing.{left_or_lost}
use Rattle.mdv_store.proofs.Ending.{acts_unbegun, made_ends, writing_goes, writing_rest}
use Rattle.mdv_store.proofs.Formed.{acts_dark, held, made_opened, writing_dark, writing_stays}
use Rattle.mdv_store.proofs.Given.{IsOwner}
use Rattle.mdv_store.proofs.Marks.{slot_laid, slot_stays}
use Rattle.mdv_encoding.proofs.Rooms.{room_most}
use Rattle.mdv_store.proofs.Seated.{replica_is, seats_laid, seats_of_table, some_asked, text_asked}
use Rattle.mdv_store.proofs.Sitting.{contains_first, first_or_behind, left_count, left_laid, left_replica, left_seats, contains_behind}
use Rattle.mdv_store.proofs.Spotting.{asked_active, asked_length}
use Rattle.mdv_store.specs.declared.seats.Need.TheVariants.{Half}

map_from : {X Y : Type 0} (f : X → Y) (xs : List X) (y : Y) → Contains (map f xs) y → (x : X) × Contains xs x × (f x ≡ y)
map_from f [] y has = absurd (omega (arith, has.1))
map_from f (x ∷ xs) y has = elim (first_or_behind (f x) y (map f xs) has) [
  | inl here ↦ (x, contains_first x xs, here)
  | inr behind ↦ (let rest = map_from f xs y behind in (rest.0, contains_behind x rest.0 xs rest.1, rest.2))
]

-- a mark isn't below itself, and a head that took it in a slot has no other
not_itself : (mark : Mark) → IsBelow mark mark → ⊥
not_itself mark (inl less) = omega arith
not_itself mark (inr less) = omega (arith, less.1)

same_mark : (a b : Mark) (n m : ℕ) → Open a n ≡ Open b m → a ≡ b
same_mark a b n m is = cc (is)

closed_open : (m : Mark) (n : ℕ) → Closed ≡ Open m n → ⊥
closed_open m n is = cc (is)

alone_above : (head : Head) (slot other : Slot) (mark m : Mark) (bytes n : ℕ) → head.first ≡ Closed → head.second ≡ Closed → gate_of (with_slot head slot (Open mark bytes)) other ≡ Open m n → IsBelow mark m → ⊥
alone_above head First First mark m bytes n one two is below = not_itself mark (subst (λ (x : Mark). IsBelow mark x) (sym (same_mark mark m bytes n is)) below)
alone_above head First Second mark m bytes n one two is below = closed_open m n (sym two ∙ is)
alone_above head Second First mark m bytes n one two is below = closed_open m n (sym one ∙ is)
alone_above head Second Second mark m bytes n one two is below = not_itself mark (subst (λ (x : Mark). IsBelow mark x) (sym (same_mark mark m bytes n is)) below)

module _ {S : Type 0} (shelf : Ghosts S) (key : Key) (identity : Identity) (lines : List SliceLine) (count blocks : ℕ) (a : S) (asked : AreAsked (shelf.sizes a) lines count blocks) (owner : IsOwner key identity) where
  abbrev seats : List Seat
  seats = seats_asked key identity lines count blocks

  abbrev table : Table
  table = table_of seats

  abbrev bytes : ℕ
  bytes = record_bytes table

  abbrev acts : List Act
  acts = blanks_asked lines count blocks ++ forms_asked key identity 1 lines count blocks

  abbrev drives : List DriveNo
  drives = drives_asked lines

  abbrev Moment : Tale → Tale → Type 0
  Moment = CreateMoment key identity lines count blocks

  abbrev Ended : Result Opened CreateFault → Tale → Tale → Type 0
  Ended result = CreateEnds key identity lines count blocks result

  unbegun_moment : (t m : Tale) → AreDoing acts t m → Moment t m
  unbegun_moment t m is = record {
    quiet = acts_quiet key identity lines count blocks 1 asked.least asked.more t m is;
    goes = λ g all may. (let x = (acts_unbegun g all key identity lines count blocks (shelf.sizes a) t owner asked may m is).goes in record { es = x.es; course = x.course; come = x.come; traces = x.traces; after = tt });
    rest = λ g all may. (acts_unbegun g all key identity lines count blocks (shelf.sizes a) t owner asked may m is).rest;
    blank = λ g may. (acts_dark g key identity lines count blocks (shelf.sizes a) t owner asked may m is).others;
  }

  writing_moment : (t v m : Tale) → AreDone acts t v → WritingMoment seats first_mark table v m → Moment t m
  writing_moment t v m done w = record {
    quiet = quiet_more _ t v m (acts_done_quiet key identity lines count blocks 1 asked.least asked.more t v done) w.slotting.quiet;
    goes = λ g all may. writing_goes g all key identity lines count blocks (shelf.sizes a) t owner asked may v done w.body w.spelled m w.slotting;
    rest = λ g all may. writing_rest g all key identity lines count blocks (shelf.sizes a) t owner asked may v done w.body w.spelled m w.slotting;
    blank = λ g may. writing_dark g key identity lines count blocks (shelf.sizes a) t owner asked may v done w.body w.spelled m w.slotting;
  }

  -- Without memory nothing is done.
  pub memory_moments : AtEachTale shelf Moment a a
  memory_moments = moments_none Moment (shelf.tale a) (shelf.tale a) refl (λ t. unbegun_moment t t (doing_here acts t))

  pub memory_created : IsCreated shelf a a key identity lines count blocks (Err unmade.Memory)
  memory_created = record { came = λ drive. refl; formed = tt }

  pub memory_end : AtEnd shelf (Ended (Err unmade.Memory)) a a
  memory_end t is = (t, is, record { ended = λ g all may. refl; opened = tt; unmade = λ same g may blank. blank })

  total_calls : calls_of acts ≡ 2 * blanked_asked lines count + 6 * (length lines * count)
  total_calls = omega (arith, calls_more (blanks_asked lines count blocks) (forms_asked key identity 1 lines count blocks), blanks_calls count blocks asked.more lines, forms_calls count blocks key identity 1 lines)

  total_blocks : blocks_of acts ≡ blanked_asked lines count + 5 * (length lines * count)
  total_blocks = omega (arith, blocks_more (blanks_asked lines count blocks) (forms_asked key identity 1 lines count blocks), blanks_blocks count blocks asked.more lines, forms_blocks count blocks key identity 1 lines)

  -- A call failed before the table was begun.
  module _ (b : S) (s : HaveStopped shelf a b drives acts) where
    pub stopped_moments : AtEachTale shelf Moment a b
    stopped_moments = moments_weaker (AreDoing acts) Moment (shelf.tale a) (shelf.tale b) unbegun_moment s.moments

    pub stopped_end : AtEnd shelf (Ended (Err unmade.Failed)) a b
    stopped_end t is =
        let end = moments_end (AreDoing acts) (shelf.tale a) (shelf.tale b) s.moments t is in
        let dark = λ (g : Geometry) (may : MayForm g key lines seats). acts_dark g key identity lines count blocks (shelf.sizes a) t owner asked may end.0 end.2 in (
          end.0,
          end.1,
          record {
            ended = λ g all may. (
              (acts_unbegun g all key identity lines count blocks (shelf.sizes a) t owner asked may end.0 end.2).goes,
              (dark g may.forms).own (λ image at l j m h own. absurd (may.clear.none image at l j m h own)),
            );
            opened = tt;
            unmade = λ same g may. (dark g may).own;
          },
        )

    pub stopped_created : IsCreated shelf a b key identity lines count blocks (Err unmade.Failed)
    stopped_created = record { came = record { drive = s.drive; one_of = s.one_of; here = s.here; elsewhere = s.elsewhere }; formed = s }

    pub stopped_counted : IsCreationCounted shelf a b lines count blocks (Err unmade.Failed)
    stopped_counted = between_wider shelf.calls shelf.written a b 1 (calls_of acts) (blocks_of acts) 1 (2 * blanked_asked lines count + 6 * (length lines * count)) (blanked_asked lines count + 5 * (length lines * count)) (omega arith) (omega (arith, total_calls)) (omega (arith, total_blocks)) s.made

  made_of : (some : List Act) (b : S) → 1 ≤ calls_of some → Makes shelf a b some → MadeCalls shelf a b (calls_of some) (blocks_of some)
  made_of [] b least made = absurd (omega (arith, least))
  made_of (x ∷ xs) b least made = made

  -- The places are formatted, and the table is written.
  module _ (b c : S) (new : List Seat) (s : HaveGone shelf a b drives acts) (left : AreLeft (DriveFailures shelf b c) (TakesSlot first_mark bytes) seats new) where
    -- no call failed before
    pub tried : AreLeft (DriveFailures shelf a c) (TakesSlot first_mark bytes) seats new
    tried =
        let same : DriveFailures shelf b c ≡ DriveFailures shelf a c = λ i drive. failures_of (s.calm drive i) (shelf.faults c (OnDrive drive)) in
        subst (λ (f : ℕ → Failures). AreLeft f (TakesSlot first_mark bytes) seats new) same left

    pub as_many : length new ≡ length lines * count
    as_many = left_count (DriveFailures shelf b c) (TakesSlot first_mark bytes) seats new left ∙ asked_length key identity count blocks lines

    pub written_moments : AtEachTale shelf (WritingMoment seats first_mark table) b c → AtEachTale shelf Moment a c
    written_moments moments = moments_after (AreDoing acts) (AreDone acts) (WritingMoment seats first_mark table) Moment (shelf.tale a) (shelf.tale b) (shelf.tale c) unbegun_moment (λ t u m done w. writing_moment t u m done w) s.moments s.end moments

    write_kept : KeptAmong shelf b c (drives_of seats) → KeptAmong shelf b c drives
    write_kept kept =
        among_wider shelf b c (drives_of seats) drives
        (λ drive has.
        let from = map_from (λ (r : Replica). r.line.at.drive) (replicas_of seats) drive has in
        let one = replica_is key identity count blocks lines from.0 from.1 in
        subst (λ (d : DriveNo). Contains drives d) from.2 (subst (λ (r : Replica). Contains drives r.line.at.drive) (sym one.is) (drive_asked lines one.line one.among)))
        kept

    pub all_kept : KeptAmong shelf b c (drives_of seats) → KeptAmong shelf a c drives
    all_kept kept = among_more shelf a b c drives s.calm s.kept (write_kept kept)

    -- each place was formatted
    abbrev were_formed : WereWritten shelf first_mark table b c seats new → KeptAmong shelf b c (drives_of seats) → AtEachTale shelf (WritingMoment seats first_mark table) b c → AtEnd shelf (WritingEnds seats new first_mark table) b c → WereFormed shelf a c key identity lines count blocks
    were_formed pass kept moments ends = record {
      formed = b;
      gone = s;
      behind = write_kept kept;
      held = λ t is. (let e = s.end t is in (e.0, e.1, λ g may. held g key identity lines count blocks (shelf.sizes a) t owner asked may e.0 e.2));
      stay = λ t is v told.
          let e = s.end t is in
          let w = moments v told in
          let same : e.0 ≡ v = some_is (shelf.tale b) e.0 v e.1 told in
          let done = subst (AreDone acts t) same e.2 in (
            w.0,
            w.1,
            grew_weaker (WritingMoment seats first_mark table v) (StayFormed key identity lines count blocks) v w.0
                (λ m moment g may. writing_stays g key identity lines count blocks (shelf.sizes a) t owner asked may v done moment.body moment.spelled m moment.slotting) w.2,
          );
      written = moments;
      now = new;
      left = left;
      tried = tried;
      steps = pass.steps;
      counted = pass.counted;
      ends = ends;
    }

    new_laid : KeptAmong shelf b c (drives_of seats) → AreLaid (shelf.sizes c) new
    new_laid kept =
        left_laid (DriveFailures shelf b c) (TakesSlot first_mark bytes) (shelf.sizes c) seats new (slot_laid first_mark bytes (shelf.sizes c)) left
        (subst (λ (sizes : List ℕ). AreLaid sizes seats) (sym (all_kept kept).keeps.same_sizes) (seats_laid key identity count blocks lines (shelf.sizes a) asked))

    module _ (pass : ArePassCounted shelf b c 6 (2 + blocks_for bytes) seats new) where
      active : active_of seats ≡ length lines * count
      active = asked_active key identity count blocks lines

      few_blocks : blocks_for bytes ≤ 2
      few_blocks = (let text = text_asked key identity count blocks lines (shelf.sizes a) asked in let few = asked.few in omega (arith, text, few))

      first : MadeCalls shelf a b (calls_of acts) (blocks_of acts)
      first = made_of acts b (let some = some_asked key identity count blocks lines (shelf.sizes a) asked in omega (arith, total_calls, some)) s.made

      first_between : MadeCallsBetween shelf a b (calls_of acts) (calls_of acts) (blocks_of acts)
      first_between = between_of shelf.calls shelf.written a b (calls_of acts) (blocks_of acts) (calls_of acts) (calls_of acts) (blocks_of acts) (omega arith) (omega arith) (omega arith) first

      most_blocks : (2 + blocks_for bytes) * active_of seats ≤ 4 * (length lines * count)
      most_blocks =
          let four : 2 + blocks_for bytes ≤ 4 = omega (arith, few_blocks) in
          let rows = mul-le-mul_left (active_of seats) four in
          omega (arith, rows, active)

      counted_at : (least : ℕ) → least ≤ calls_of acts + (6 * active_of new + drives_lost seats new) → MadeCallsBetween shelf a c least (2 * blanked_asked lines count + 12 * (length lines * count)) (blanked_asked lines count + 4103 * (length lines * count))
      counted_at least low =
          between_then shelf.calls shelf.written a b c (calls_of acts) (calls_of acts) (blocks_of acts) (6 * active_of new + drives_lost seats new) (6 * active_of seats) ((2 + blocks_for bytes) * active_of seats) least
          (2 * blanked_asked lines count + 12 * (length lines * count)) (blanked_asked lines count + 4103 * (length lines * count)) low (omega (arith, total_calls, active)) (omega (arith, total_blocks, most_blocks)) first_between pass.some

      -- at least half of the places took it
      pub made_counted : (o : Opened) → o.seats ≡ new → o.table ≡ table → IsCreationCounted shelf a c lines count blocks (Ok o)
      made_counted o its same = (
        λ everyone.
            let now : active_of new ≡ active_of seats = ap active_of (sym its) ∙ everyone ∙ sym active in
            let some = some_asked key identity count blocks lines (shelf.sizes a) asked in
            let second = pass.all (omega (arith, active, some)) now in
            subst (λ (u : Table). MadeCalls shelf a c (2 * blanked_asked lines count + 12 * (length lines * count)) (blanked_asked lines count + (7 + blocks_for (record_bytes u)) * (length lines * count))) (sym same)
            (took_more shelf.calls shelf.written a b c (calls_of acts) (6 * active_of seats) (blocks_of acts) ((2 + blocks_for bytes) * active_of seats) (2 * blanked_asked lines count + 12 * (length lines * count))
            (blanked_asked lines count + (7 + blocks_for bytes) * (length lines * count)) (omega (arith, total_calls, active))
            (let rows = ap (λ (n : ℕ). (2 + blocks_for bytes) * n) active in omega (arith, total_blocks, rows)) first second),
        counted_at (2 * blanked_asked lines count + 6 * (length lines * count)) (omega (arith, total_calls)),
      )

      pub lost_counted : (some listed : ℕ) → IsCreationCounted shelf a c lines count blocks (Err (unmade.Lost some listed))
      lost_counted some listed =
          let some = some_asked key identity count blocks lines (shelf.sizes a) asked in
          counted_at (2 * blanked_asked lines count + 6 * (length lines * count) + 1) (omega (arith, total_calls, left_or_lost 6 seats new (omega arith) (omega (arith, some, active))))

    abbrev made : Opened
    made = record { key = key; identity = identity; mark = first_mark; table = table; seats = new }

    -- so few places took it
    abbrev IsShort : ℕ → ℕ → Type 0
    IsShort some listed = short_of Half new table.plan.lists ≡ Some (record { active = some; listed = listed })

    made_answer : short_of Half new table.plan.lists ≡ None → CreateAnswer (DriveFailures shelf a c) key identity lines count blocks (Ok made)
    made_answer half = record { tried = tried; half = half; is = refl }

    lost_answer : (some listed : ℕ) → IsShort some listed → CreateAnswer (DriveFailures shelf a c) key identity lines count blocks (Err (unmade.Lost some listed))
    lost_answer some listed few = record { now = new; tried = tried; few = few }

    pub made_created : short_of Half new table.plan.lists ≡ None → WereWritten shelf first_mark table b c seats new → KeptAmong shelf b c (drives_of seats) → AtEachTale shelf (WritingMoment seats first_mark table) b c → AtEnd shelf (WritingEnds seats new first_mark table) b c → IsCreated shelf a c key identity lines count blocks (Ok made)
    made_created half pass kept moments ends = record { came = made_answer half; formed = (were_formed pass kept moments ends, refl, new_laid kept) }

    pub lost_created : (some listed : ℕ) → IsShort some listed → WereWritten shelf first_mark table b c seats new → KeptAmong shelf b c (drives_of seats) → AtEachTale shelf (WritingMoment seats first_mark table) b c → AtEnd shelf (WritingEnds seats new first_mark table) b c → IsCreated shelf a c key identity lines count blocks (Err (unmade.Lost some listed))
    lost_created some listed few pass kept moments ends = record { came = lost_answer some listed few; formed = (were_formed pass kept moments ends, few) }

    pub made_end : short_of Half new table.plan.lists ≡ None → AtEnd shelf (WritingEnds seats new first_mark table) b c → AtEnd shelf (Ended (Ok made)) a c
    made_end half end =
        ends_more (AreDone acts) (WritingEnds seats new first_mark table) (Ended (Ok made)) (shelf.tale a) (shelf.tale b) (shelf.tale c)
        (λ t v u done w. record {
          ended = λ g all may. made_ends g all key identity lines count blocks (shelf.sizes a) t owner asked may v done w.body w.spelled (DriveFailures shelf b c) new left half u w.slotting;
          opened = λ g may. made_opened g key identity lines count blocks (shelf.sizes a) t owner asked may v done w.body w.spelled (DriveFailures shelf b c) new left u w.slotting;
          unmade = λ same. absurd (cc (same));
        }) s.end end

    pub lost_end : (some listed : ℕ) → AtEnd shelf (WritingEnds seats new first_mark table) b c → AtEnd shelf (Ended (Err (unmade.Lost some listed))) a c
    lost_end some listed end =
        ends_more (AreDone acts) (WritingEnds seats new first_mark table) (Ended (Err (unmade.Lost some listed))) (shelf.tale a) (shelf.tale b) (shelf.tale c) (λ t v u done w. record { ended = λ g all may. tt; opened = tt; unmade = λ same. absurd (cc (same)) }) s.end end

    -- so it is open
    pub made_open : (room : ℕ) → room ≡ list_room (table_of seats).plan.lists → IsOpen made room
    made_open room is =
        let most = room_most (map (λ (x : Seat). x.place) seats) in
        let first_long = first_most (map (λ (x : Seat). x.place) seats) in
        record {
          boot = omega arith;
          count = omega arith;
          seats = left_seats (DriveFailures shelf b c) (TakesSlot first_mark bytes) table table seats new (slot_stays first_mark bytes) refl left (seats_of_table key identity count blocks lines (shelf.sizes a) asked);
          whole = omega (arith, is);
          first = omega (arith, is);
          short = omega (arith, is, most, first_long);
          marks = λ half r has other m n gate below.
              let was = left_replica (DriveFailures shelf b c) (TakesSlot first_mark bytes) seats new r left has in
              let took = was.2 in
              let one = replica_is key identity count blocks lines was.0 was.1 in
              alone_above was.0.head took.0 other first_mark m bytes n (ap (λ (x : Replica). x.head.first) one.is) (ap (λ (x : Replica). x.head.second) one.is) (sym (ap (λ (x : Replica). gate_of x.head other) took.2) ∙ gate) below;
        }
