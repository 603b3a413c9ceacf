-- The two passes of a boot: what they come to, and what they cost.
use Rattle.std.proofs.Common.{◌≡◌, ◌⊎◌, inl, inr, ◌<◌, ◌≤◌, ◌+◌, ◌*◌, ◌^◌, ℕ, Bool, false, List, [], Contains, length, sym, ◌∙◌, subst, ap, arith, Option, None, Some}
use Rattle.std.proofs.Math.Nat.{mul-le-mul_left}
use Rattle.mdv_base.specs.Causes.{RoseOnce}
use Rattle.mdv_encoding.proofs.Rooms.{room_most}
use Rattle.mdv_store.proofs.Rooms.{first_most}
use Rattle.mdv_shelf.proofs.Between.{between_then, between_wider}
use Rattle.mdv_shelf.proofs.Counts.{took_more}
use Rattle.mdv_shelf.proofs.Moments.{ends_both, ends_more, moments_after, moments_end, moments_weaker}
use Rattle.mdv_shelf.specs.Between.{RoseByAtLeast}
use Rattle.mdv_shelf.specs.Calls.{OnDrive}
use Rattle.mdv_shelf.specs.Drives.{KeptAmong}
use Rattle.mdv_shelf.specs.Shelves.{AtEachTale, AtEnd, DriveFailures, MadeCalls}
use Rattle.mdv_shown.specs.Choice.{spots_seen}
use Rattle.mdv_standing.specs.Adopting.{drawn}
use Rattle.mdv_standing.specs.Others.{Anything}
use Rattle.mdv_standing.specs.Tracing.{GoesTraced}
use Rattle.mdv_store.specs.Below.{CoversWith, DriveNo, Failures, Geometry, Ghosts, IsReadyWith, IsSynced, Key, Log, Replica, Table, Tale, last_of, places_of, record_bytes, site_of}
use Rattle.mdv_store.specs.Boot.{IfAdopted, TakesBoth, need_of}
use Rattle.mdv_store.specs.BootCounts.{blocks_at, calls_at, most_blocks, most_calls}
use Rattle.mdv_store.specs.Booting.{HasNoStaleVote}
use Rattle.mdv_store.specs.Claims.{ClaimingEnds, ClaimingMoment}
use Rattle.mdv_store.specs.Commit.{IsLiveWith}
use Rattle.mdv_store.specs.Counts.{ArePassCounted, MadeCallsBetween, drives_lost}
use Rattle.mdv_store.specs.Opened.{IsOpenedAt, Opened}
use Rattle.mdv_store.specs.Records.{Spells}
use Rattle.mdv_store.specs.Progress.{Claimed, Rewritten}
use Rattle.mdv_store.specs.Passing.{IsPassing, Passed, WentBy, WentOver, claiming, slotting}
use Rattle.mdv_store.specs.Seats.{AreLaid, AreLeft, HaveRoom, IsLaid, TakesClaim, TakesSlot, active_of, drive_of, drives_of, replicas_of, seats_area, spots_of}
use Rattle.mdv_store.specs.Slots.{SlottingEnds, SlottingMoment}
use Rattle.mdv_store.specs.Taking.{IsCalmOver, IsReadied, IsRewriteAnswer, IsRewriteEnd, IsTakingCounted, IsToAdopt, LeftHoldOf, RewriteEnds, RewriteMoment, StaySynced, WereClaimed, WereRewritten, room_of}
use Rattle.mdv_store.specs.Text.{IsSpelled, blocks_for}
use Rattle.mdv_store.specs.Writing.{IsWrittenOver}
use Rattle.mdv_store.specs.declared.booting.BootEnd.{BootEnd}
use Rattle.mdv_store.specs.declared.booting.BootEnd.TheVariants as end
use Rattle.mdv_store.specs.declared.booting.Hand.{Hand}
use Rattle.mdv_store.specs.declared.booting.Taken.{Taken}
use Rattle.mdv_store.specs.declared.seats.Need.{Need}
use Rattle.mdv_store.specs.declared.seats.Seat.{Seat}
use Rattle.mdv_plan.specs.declared.lists.Lists.{Lists}
use Rattle.mdv_look.proofs.Among.{among_calm, is_one_of}
use Rattle.mdv_look.proofs.Bringing.{one_number, same_drive}
use Rattle.mdv_store.proofs.Losing.{left_or_lost, pass_wrote, rose_then}
use Rattle.mdv_store.proofs.Once.{pass_once}
use Rattle.mdv_store.proofs.Passes.{later, left_area, left_both, left_calm, left_most, left_told, mapped, pass_synced, some_lost, takes_both, unmapped}
use Rattle.mdv_look.proofs.Quiet.{quiet_more, quiet_wider}
use Rattle.mdv_store.proofs.Shares.{more_suffices, short_fewer, some_more}
use Rattle.mdv_store.proofs.Rewriting.{AreBooted, blank_goes, claims_go, ends_go, opened, rest_goes, slots_go}
use Rattle.mdv_store.proofs.Sitting.{active_most, left_replica, some_active}
use Rattle.mdv_store.proofs.Texts.{spelled_long}
use Rattle.mdv_store.specs.Shares.{short_of}
use Rattle.mdv_store.specs.declared.seats.Need.TheVariants.{More}
use Rattle.mdv_store.specs.declared.seats.Share.{Share}

-- what came of the seats, by the key's need
pub as_needed : (key : Key) (need : Need) (seats told : List Seat) (lists : Lists) (came : Option Share) → need ≡ need_of key → told ≡ seats → came ≡ short_of need told lists → short_of (need_of key) seats lists ≡ came
as_needed key need seats told lists came of same is = ap (λ (n : Need). short_of n seats lists) (sym of) ∙ ap (λ (l : List Seat). short_of need l lists) (sym same) ∙ sym is

-- at most a hundred are active
few_active : (seats : List Seat) → length seats ≤ 100 → active_of seats ≤ 100
few_active seats few = omega (arith, few, active_most seats)

-- behind both passes, where enough of each list took them
pub record AreTwice (key : Key) (hand : Hand) (table : Table) (last : List Seat) (t u : Tale) : Type 0 where
  pub moment : RewriteMoment key hand table t u
  pub claimed : List Replica
  pub between : Tale
  pub claims : Passed (claiming hand.number) (replicas_of hand.seats) t claimed [] between
  pub slots : IsWrittenOver claimed (drawn hand.number) table between (replicas_of last) u
  pub opened : (g : Geometry) → IsToAdopt g key hand table t → IsOpenedAt g (record { key = key; identity = hand.identity; mark = drawn hand.number; table = table; seats = last }) u
  pub goes : (g : Geometry) (to : IsToAdopt g key hand table t) (log : Log) → CoversWith (Spells g) (site_of g key) hand.identity (λ image w. Anything w) log t → HasNoStaleVote (site_of g key) to.seen to.mark log
      → GoesTraced (Spells g) g (site_of g key) hand.identity [] Anything (AreBooted (spots_seen to.seen) (spots_of hand.seats)) (IsReadyWith (spots_of last)) (λ l. IsLiveWith l (drawn hand.number) table) t u log

-- Both passes, where enough of each list took them: what they come to, and what they cost.
pub record IsTwice {S : Type 0} (shelf : Ghosts S) (key : Key) (hand : Hand) (table : Table) (old mid : S) (last : List Seat) : Type 0 where
  pub took : AreLeft (DriveFailures shelf old mid) (TakesBoth hand.number (record_bytes table)) hand.seats last
  pub enough : short_of (need_of key) last table.plan.lists ≡ None
  pub wrote : RoseByAtLeast 1 (shelf.written old) (shelf.written mid)
  pub made : MadeCallsBetween shelf old mid 1 (8 * active_of hand.seats) ((3 + blocks_for (record_bytes table)) * active_of hand.seats)
  pub most : MadeCallsBetween shelf old mid 0 (8 * 100) (100 * 4097)
  pub exact : active_of last ≡ active_of hand.seats → MadeCalls shelf old mid (8 * active_of last) ((3 + blocks_for (record_bytes table)) * active_of last)
  pub written : WereRewritten shelf old mid key hand table last
  pub kept : KeptAmong shelf old mid (drives_of hand.seats)
  pub moments : AtEachTale shelf (RewriteMoment key hand table) old mid
  pub ends : AtEnd shelf (AreTwice key hand table last) old mid
  pub synced : AtEnd shelf (StaySynced shelf old mid) old mid

module _ {S : Type 0} (shelf : Ghosts S) (key : Key) (hand : Hand) (table : Table) (ready : IsReadied hand table) (old mid : S) (now : List Seat)
    (left : AreLeft (DriveFailures shelf old mid) (TakesClaim hand.number) hand.seats now) (moments : AtEachTale shelf (ClaimingMoment hand.seats hand.number) old mid) (ends : AtEnd shelf (ClaimingEnds hand.seats now hand.number) old mid)
    (passed : WentOver shelf (claiming hand.number) old mid hand.seats now) (kept : KeptAmong shelf old mid (drives_of hand.seats)) where
  counted : ArePassCounted shelf old mid 2 1 hand.seats now
  counted = passed.counted

  claim_drive : (r m : Replica) → TakesClaim hand.number r m → drive_of m ≡ drive_of r
  claim_drive r m took = ap drive_of took

  claim_moment : (t m : Tale) → ClaimingMoment hand.seats hand.number t m → RewriteMoment key hand table t m
  claim_moment t m moment = record {
    quiet = moment.quiet;
    only = inl moment.passing;
    goes = λ g to log covers known. claims_go key hand table ready g t to log covers known m moment;
    rest = λ g all to. moment.rest g key hand.identity all to.sound ready.small to.held;
    blank = λ g to. moment.blank g key hand.identity to.sound ready.small to.held;
  }

  pub first_moments : AtEachTale shelf (RewriteMoment key hand table) old mid
  first_moments = moments_weaker (ClaimingMoment hand.seats hand.number) (RewriteMoment key hand table) (shelf.tale old) (shelf.tale mid) claim_moment moments

  first_stays : (t u : Tale) → ClaimingEnds hand.seats now hand.number t u → ClaimingMoment hand.seats hand.number t u → (drive : DriveNo) → ((DriveFailures shelf old mid drive.0).some → ⊥) → IsSynced drive.0 t → IsSynced drive.0 u
  first_stays t u e moment drive never = pass_synced (DriveFailures shelf old mid) (TakesClaim hand.number) hand.seats now t u claim_drive left moment.quiet.outside e.synced drive (λ one_of. never)

  claim_both : AtEnd shelf (λ t u. ClaimingEnds hand.seats now hand.number t u × ClaimingMoment hand.seats hand.number t u) old mid
  claim_both = ends_both (ClaimingEnds hand.seats now hand.number) (ClaimingMoment hand.seats hand.number) _ (shelf.tale old) (shelf.tale mid) (λ t u e m. (e, m)) ends (moments_end (ClaimingMoment hand.seats hand.number) (shelf.tale old) (shelf.tale mid) moments)

  some_active_then : 0 < active_of hand.seats
  some_active_then = some_more hand.seats table.plan.lists ready.enough

  first_called : 1 ≤ 2 * active_of now + drives_lost hand.seats now
  first_called = left_or_lost 2 hand.seats now (omega arith) some_active_then

  first_wrote : RoseByAtLeast 1 (shelf.written old) (shelf.written mid)
  first_wrote = pass_wrote shelf old mid 2 1 hand.seats now (omega arith) some_active_then counted

  claimed_all : WereClaimed shelf old mid hand.number hand.seats now
  claimed_all = record { left = left; steps = passed.steps; counted = counted; end = ends }

  -- not enough claimed
  module _ (share : Share) (few : short_of (need_of key) now table.plan.lists ≡ Some share) (taken : Taken) (end_is : taken.end ≡ end.Lost share.active share.listed) (calm_is : taken.calm ≡ false) where
    pub first_answer : IsRewriteAnswer shelf old mid key hand table taken
    first_answer =
        let lost = some_lost (DriveFailures shelf old mid) (TakesClaim hand.number) hand.seats now left (short_fewer (DriveFailures shelf old mid) (TakesClaim hand.number) More (need_of key) (more_suffices (need_of key)) table.plan.lists hand.seats now share left ready.enough few) in
        record {
          progress = Claimed now;
          shows = λ t told. (let e = ends t told in (e.0, e.1, λ g to. e.2.held g key hand.identity to.sound ready.small to.held));
          ended = subst (λ (e : BootEnd). IsRewriteEnd (DriveFailures shelf old mid) key hand table (Claimed now) e) (sym end_is) (record { left = left; few = few });
          calm = subst (λ (b : Bool). IsCalmOver shelf old mid (replicas_of hand.seats) b) (sym calm_is) lost;
          once = pass_once shelf old mid hand.seats now (TakesClaim hand.number) kept left;
          wrote = first_wrote;
          made =
              between_wider shelf.calls shelf.written old mid _ (2 * active_of hand.seats) (1 * active_of hand.seats) 1 (calls_at hand.seats table) (blocks_at hand.seats table)
              first_called (omega arith) (omega arith) counted.some;
          exact = λ so. absurd (cc (so, calm_is));
          written = claimed_all;
        }

    pub first_end : AtEnd shelf (λ t u. IfAdopted taken.end (λ o. RewriteEnds key hand table o t u)) old mid
    first_end t is = (let e = ends t is in (e.0, e.1, subst (λ (x : BootEnd). IfAdopted x (λ o. RewriteEnds key hand table o t e.0)) (sym end_is) tt))

    pub first_synced : AtEnd shelf (StaySynced shelf old mid) old mid
    first_synced t is = (let e = claim_both t is in (e.0, e.1, λ drive was never. first_stays t e.0 e.2.0 e.2.1 drive never was))

    pub first_counted : IsTakingCounted shelf old mid taken
    first_counted = record {
      most =
          let most = few_active hand.seats ready.seats.few in
          between_wider shelf.calls shelf.written old mid _ (2 * active_of hand.seats) (1 * active_of hand.seats) 0 most_calls most_blocks (omega arith) (omega (arith, most)) (omega (arith, most)) counted.some;
      calm = λ so. absurd (cc (so, calm_is));
    }

  -- enough claimed, and the table was written
  module _ (enough : short_of (need_of key) now table.plan.lists ≡ None) (bytes : ℕ) (body : List (List ℕ)) (spelled : IsSpelled table bytes body) (new : S) (last : List Seat) (left_last : AreLeft (DriveFailures shelf mid new) (TakesSlot (drawn hand.number) bytes) now last)
      (slot_moments : AtEachTale shelf (SlottingMoment now (drawn hand.number) bytes body) mid new) (slot_ends : AtEnd shelf (SlottingEnds now last (drawn hand.number) bytes body) mid new)
      (slot_passed : WentOver shelf (slotting (drawn hand.number) bytes body) mid new now last) (slot_kept : KeptAmong shelf mid new (drives_of now)) where
    slot_counted : ArePassCounted shelf mid new 6 (2 + length body) now last
    slot_counted = slot_passed.counted

    slot_drive : (r m : Replica) → TakesSlot (drawn hand.number) bytes r m → drive_of m ≡ drive_of r
    slot_drive r m took = ap drive_of took.2

    within_now : (drive : DriveNo) → Contains (drives_of now) drive → (r : Replica) × Contains (replicas_of now) r × (r.line.at.drive ≡ drive)
    within_now drive one_of = unmapped (λ (x : Replica). x.line.at.drive) (replicas_of now) drive one_of

    was_calm : (drive : DriveNo) → Contains (drives_of now) drive → shelf.faults mid (OnDrive drive.0) ≡ shelf.faults old (OnDrive drive.0)
    was_calm drive one_of =
        let m = within_now drive one_of in
        let r = left_calm (DriveFailures shelf old mid) (TakesClaim hand.number) hand.seats now left m.0 m.1 in
        subst (λ (d : ℕ). shelf.faults mid (OnDrive d) ≡ shelf.faults old (OnDrive d)) (sym (claim_drive r.0 m.0 r.3) ∙ ap (λ (d : DriveNo). d.0) m.2) r.2

    in_seats : (drive : DriveNo) → Contains (drives_of now) drive → Contains (drives_of hand.seats) drive
    in_seats drive one_of =
        let m = within_now drive one_of in
        let r = left_calm (DriveFailures shelf old mid) (TakesClaim hand.number) hand.seats now left m.0 m.1 in
        subst (Contains (drives_of hand.seats)) (sym (ap (λ (x : Replica). x.line.at.drive) r.3) ∙ m.2) (mapped (λ (x : Replica). x.line.at.drive) (replicas_of hand.seats) r.0 r.1)

    both_wrote : RoseByAtLeast 1 (shelf.written old) (shelf.written new)
    both_wrote = rose_then 1 _ 1 (shelf.written old) (shelf.written mid) (shelf.written new) (omega arith) first_wrote slot_counted.wrote

    long : length body ≡ blocks_for (record_bytes table)
    long = spelled_long table bytes body spelled

    -- the table was written to each place that claimed
    both_written : WereRewritten shelf old new key hand table last
    both_written = record {
      mid = mid;
      between = now;
      claimed = claimed_all;
      enough = enough;
      slotted = record {
        left = subst (λ (n : ℕ). AreLeft (DriveFailures shelf mid new) (TakesSlot (drawn hand.number) n) now last) spelled.counted left_last;
        steps = (
          body,
          subst (λ (n : ℕ). IsSpelled table n body) spelled.counted spelled,
          subst (λ (n : ℕ). WentBy shelf (slotting (drawn hand.number) n body) mid now (length now) new last) spelled.counted slot_passed.steps,
        );
        counted = subst (λ (n : ℕ). ArePassCounted shelf mid new 6 (2 + n) now last) long slot_counted;
        end = λ t is. (let e = slot_ends t is in (
          e.0,
          e.1,
          record {
            body = body;
            spelled = subst (λ (n : ℕ). IsSpelled table n body) spelled.counted spelled;
            slotting = subst (λ (n : ℕ). SlottingEnds now last (drawn hand.number) n body t e.0) spelled.counted e.2;
          },
        ));
      };
    }

    -- in the end they hold it
    both_opened : (t u v : Tale) → ClaimingEnds hand.seats now hand.number t u → SlottingEnds now last (drawn hand.number) bytes body u v → LeftHoldOf key hand table (Rewritten last) t v
    both_opened t u v one two g to = opened key hand table ready g t to (DriveFailures shelf old mid) now u left one bytes body spelled (DriveFailures shelf mid new) last v left_last two

    both_made : MadeCallsBetween shelf old new 1 (8 * active_of hand.seats) ((3 + blocks_for (record_bytes table)) * active_of hand.seats)
    both_made =
        let less = left_most (DriveFailures shelf old mid) (TakesClaim hand.number) hand.seats now left in
        let product = mul-le-mul_left (2 + length body) less in
        let sum : 1 * active_of hand.seats + (2 + length body) * active_of hand.seats ≡ (3 + blocks_for (record_bytes table)) * active_of hand.seats =
        subst (λ (n : ℕ). 1 * active_of hand.seats + (2 + n) * active_of hand.seats ≡ (3 + blocks_for (record_bytes table)) * active_of hand.seats) (sym long) (omega arith) in
        between_then shelf.calls shelf.written old mid new _ (2 * active_of hand.seats) (1 * active_of hand.seats) _ (6 * active_of now) ((2 + length body) * active_of now) 1 (8 * active_of hand.seats) ((3 + blocks_for (record_bytes table)) * active_of hand.seats)
        (omega (arith, first_called)) (omega (arith, less)) (omega (arith, product, sum)) counted.some slot_counted.some

    pub both_kept : KeptAmong shelf old new (drives_of hand.seats)
    both_kept = among_calm shelf old mid new (drives_of hand.seats) (drives_of now) in_seats was_calm kept slot_kept

    behind : (d : ℕ) → RoseOnce (shelf.faults old (OnDrive d)) (shelf.faults mid (OnDrive d)) → RoseOnce (shelf.faults old (OnDrive d)) (shelf.faults new (OnDrive d))
    behind d rose = later (λ n. shelf.faults old (OnDrive n)) (λ n. shelf.faults mid (OnDrive n)) (λ n. shelf.faults new (OnDrive n)) d rose (elim (is_one_of (drives_of now) (record { 0 = d })) [
      | inl one_of ↦ on_it one_of
      | inr out ↦ inl (slot_kept.others (OnDrive d) (λ among. out (subst (Contains (drives_of now)) (same_drive among.0 (record { 0 = d }) (sym (one_number d among.0.0 among.2))) among.1)))
    ])
      where
        on_it : Contains (drives_of now) (record { 0 = d }) → (shelf.faults new (OnDrive d) ≡ shelf.faults mid (OnDrive d)) ⊎ ((shelf.faults mid (OnDrive d) ≡ shelf.faults old (OnDrive d)) × RoseOnce (shelf.faults mid (OnDrive d)) (shelf.faults new (OnDrive d)))
        on_it one_of =
            let m = within_now (record { 0 = d }) one_of in
            let here : drive_of m.0 ≡ d = ap (λ (x : DriveNo). x.0) m.2 in
            elim (left_told (DriveFailures shelf mid new) (TakesSlot (drawn hand.number) bytes) now last left_last m.0 m.1) [
              | inl some ↦ inr (was_calm (record { 0 = d }) one_of, subst (λ (n : ℕ). RoseOnce (shelf.faults mid (OnDrive n)) (shelf.faults new (OnDrive n))) here some)
              | inr stays ↦ inl (subst (λ (n : ℕ). shelf.faults new (OnDrive n) ≡ shelf.faults mid (OnDrive n)) here stays.2)
            ]

    both_left : (V : Replica → Replica → Type 0) → ((r m n : Replica) → TakesClaim hand.number r m → TakesSlot (drawn hand.number) bytes m n → V r n) → AreLeft (DriveFailures shelf old new) V hand.seats last
    both_left V both =
        left_both (λ n. shelf.faults old (OnDrive n)) (λ n. shelf.faults mid (OnDrive n)) (λ n. shelf.faults new (OnDrive n)) (TakesClaim hand.number) (TakesSlot (drawn hand.number) bytes) V claim_drive both behind hand.seats now last left left_last

    slot_moment : (t u m : Tale) → ClaimingEnds hand.seats now hand.number t u × ClaimingMoment hand.seats hand.number t u → SlottingMoment now (drawn hand.number) bytes body u m → RewriteMoment key hand table t m
    slot_moment t u m first moment = record {
      quiet = quiet_more (seats_area hand.seats) t u m first.1.quiet (quiet_wider (seats_area now) (seats_area hand.seats) u m (left_area (DriveFailures shelf old mid) hand.number hand.seats now left) moment.quiet);
      only = inr (inl (
        replicas_of now,
        u,
        first.0.passed,
        (body, subst (λ (n : ℕ). IsSpelled table n body) spelled.counted spelled, subst (λ (n : ℕ). IsPassing (slotting (drawn hand.number) n body) (replicas_of now) u m) spelled.counted moment.passing),
      ));
      goes = λ g to log covers known. slots_go key hand table ready g t to log covers known (DriveFailures shelf old mid) now u left first.0 enough bytes body spelled m moment;
      rest = λ g all to rest.
          rest_goes key hand table ready g t to (DriveFailures shelf old mid) now u left first.0 bytes body spelled all m moment (first.1.rest g key hand.identity all to.sound ready.small to.held rest);
      blank = λ g to ask other another blank.
          blank_goes key hand table ready g t to (DriveFailures shelf old mid) now u left first.0 bytes body spelled m moment ask other another (first.1.blank g key hand.identity to.sound ready.small to.held ask other another blank);
    }

    pub second_moments : AtEachTale shelf (RewriteMoment key hand table) old new
    second_moments =
        moments_after (ClaimingMoment hand.seats hand.number) (λ t u. ClaimingEnds hand.seats now hand.number t u × ClaimingMoment hand.seats hand.number t u) (SlottingMoment now (drawn hand.number) bytes body) (RewriteMoment key hand table)
        (shelf.tale old) (shelf.tale mid) (shelf.tale new) claim_moment slot_moment moments claim_both slot_moments

    slot_both : AtEnd shelf (λ t u. SlottingEnds now last (drawn hand.number) bytes body t u × SlottingMoment now (drawn hand.number) bytes body t u) mid new
    slot_both =
        ends_both (SlottingEnds now last (drawn hand.number) bytes body) (SlottingMoment now (drawn hand.number) bytes body) _ (shelf.tale mid) (shelf.tale new) (λ t u e m. (e, m)) slot_ends
        (moments_end (SlottingMoment now (drawn hand.number) bytes body) (shelf.tale mid) (shelf.tale new) slot_moments)

    pub second_synced : AtEnd shelf (StaySynced shelf old new) old new
    second_synced = ends_more (λ t u. ClaimingEnds hand.seats now hand.number t u × ClaimingMoment hand.seats hand.number t u) (λ u v. SlottingEnds now last (drawn hand.number) bytes body u v × SlottingMoment now (drawn hand.number) bytes body u v)
        (StaySynced shelf old new) (shelf.tale old) (shelf.tale mid) (shelf.tale new)
        (λ t u v one two drive was never.
        pass_synced (DriveFailures shelf mid new) (TakesSlot (drawn hand.number) bytes) now last u v slot_drive left_last two.1.quiet.outside two.0.synced drive
        (λ one_of some. never (subst (λ (n : ℕ). RoseOnce n (shelf.faults new (OnDrive drive.0))) (was_calm drive one_of) some))
        (first_stays t u one.0 one.1 drive (λ some. never (behind drive.0 some)) was))
        claim_both slot_both

    -- no slot has more blocks than that
    text_few : blocks_for bytes ≤ 4094
    text_few =
        let some = some_active hand.seats (some_more hand.seats table.plan.lists ready.enough) in
        let fits = ready.room some.0 some.1 in
        let short = ready.short some.0 some.1 in
        omega (arith, fits, short, spelled.counted)

    second_most : MadeCallsBetween shelf old new 0 (8 * 100) (100 * 4097)
    second_most =
        let most = few_active hand.seats ready.seats.few in
        let less = left_most (DriveFailures shelf old mid) (TakesClaim hand.number) hand.seats now left in
        let few_blocks : 2 + length body ≤ 4096 = omega (arith, spelled.blocks, text_few) in
        let product = mul-le-mul_left (active_of now) few_blocks in
        between_then shelf.calls shelf.written old mid new _ (2 * active_of hand.seats) (1 * active_of hand.seats) _ (6 * active_of now) ((2 + length body) * active_of now) 0 (8 * 100) (100 * 4097) (omega arith) (omega (arith, most, less))
        (omega (arith, most, less, product)) counted.some slot_counted.some

    -- where not enough took it
    module _ (share : Share) (few : short_of (need_of key) last table.plan.lists ≡ Some share) (taken : Taken) (end_is : taken.end ≡ end.Lost share.active share.listed) (calm_is : taken.calm ≡ false) where
      abbrev Both : Replica → Replica → Type 0
      Both = TakesBoth hand.number (record_bytes table)

      pub lost_answer : IsRewriteAnswer shelf old new key hand table taken
      lost_answer =
          let all = both_left Both (λ r m n one two. subst (λ (k : ℕ). TakesBoth hand.number k r n) spelled.counted (takes_both hand.number bytes r m n one two)) in
          let lost = some_lost (DriveFailures shelf old new) Both hand.seats last all (short_fewer (DriveFailures shelf old new) Both More (need_of key) (more_suffices (need_of key)) table.plan.lists hand.seats last share all ready.enough few) in
          record {
            progress = Rewritten last;
            shows = ends_more (ClaimingEnds hand.seats now hand.number) (SlottingEnds now last (drawn hand.number) bytes body) (LeftHoldOf key hand table (Rewritten last)) (shelf.tale old) (shelf.tale mid) (shelf.tale new) both_opened ends slot_ends;
            ended = subst (λ (e : BootEnd). IsRewriteEnd (DriveFailures shelf old new) key hand table (Rewritten last) e) (sym end_is) (record { left = all; few = few });
            calm = subst (λ (b : Bool). IsCalmOver shelf old new (replicas_of hand.seats) b) (sym calm_is) lost;
            once = pass_once shelf old new hand.seats last Both both_kept all;
            wrote = both_wrote;
            made = between_wider shelf.calls shelf.written old new 1 (8 * active_of hand.seats) ((3 + blocks_for (record_bytes table)) * active_of hand.seats) 1 (calls_at hand.seats table) (blocks_at hand.seats table) (omega arith) (omega arith) (omega arith) both_made;
            exact = λ so. absurd (cc (so, calm_is));
            written = both_written;
          }

      pub lost_end : AtEnd shelf (λ t u. IfAdopted taken.end (λ o. RewriteEnds key hand table o t u)) old new
      lost_end = ends_more (ClaimingEnds hand.seats now hand.number) (SlottingEnds now last (drawn hand.number) bytes body) (λ t u. IfAdopted taken.end (λ o. RewriteEnds key hand table o t u)) (shelf.tale old) (shelf.tale mid) (shelf.tale new)
          (λ t u v one two. subst (λ (x : BootEnd). IfAdopted x (λ o. RewriteEnds key hand table o t v)) (sym end_is) tt) ends slot_ends

      pub lost_counted : IsTakingCounted shelf old new taken
      lost_counted = record { most = between_wider shelf.calls shelf.written old new 0 (8 * 100) (100 * 4097) 0 most_calls most_blocks (omega arith) (omega arith) (omega arith) second_most; calm = λ so. absurd (cc (so, calm_is)) }

    -- where enough did
    module _ (enough_last : short_of (need_of key) last table.plan.lists ≡ None) where
      abbrev o : Opened
      o = record { key = key; identity = hand.identity; mark = drawn hand.number; table = table; seats = last }

      pub all_took : AreLeft (DriveFailures shelf old new) (TakesBoth hand.number bytes) hand.seats last
      all_took = both_left (TakesBoth hand.number bytes) (λ r m n. takes_both hand.number bytes r m n)

      took_all : AreLeft (DriveFailures shelf old new) (TakesBoth hand.number (record_bytes table)) hand.seats last
      took_all = subst (λ (n : ℕ). AreLeft (DriveFailures shelf old new) (TakesBoth hand.number n) hand.seats last) spelled.counted all_took

      twice_ends : AtEnd shelf (AreTwice key hand table last) old new
      twice_ends = ends_more (λ t u. ClaimingEnds hand.seats now hand.number t u × ClaimingMoment hand.seats hand.number t u) (λ u v. SlottingEnds now last (drawn hand.number) bytes body u v × SlottingMoment now (drawn hand.number) bytes body u v) (AreTwice key hand table last)
          (shelf.tale old) (shelf.tale mid) (shelf.tale new)
          (λ t u v one two. record {
            moment = slot_moment t u v one two.1;
            claimed = replicas_of now;
            between = u;
            claims = one.0.passed;
            slots = (body, subst (λ (n : ℕ). IsSpelled table n body) spelled.counted spelled, subst (λ (n : ℕ). Passed (slotting (drawn hand.number) n body) (replicas_of now) u (replicas_of last) [] v) spelled.counted two.0.passed);
            opened = both_opened t u v one.0 two.0;
            goes = λ g to log covers known. ends_go key hand table ready g t to log covers known (DriveFailures shelf old mid) now u left one.0 enough bytes body spelled (DriveFailures shelf mid new) last v left_last two.0 enough_last;
          }) claim_both slot_both

      exact_made : active_of last ≡ active_of hand.seats → MadeCalls shelf old new (8 * active_of last) ((3 + blocks_for (record_bytes table)) * active_of last)
      exact_made same =
          let one = left_most (DriveFailures shelf old mid) (TakesClaim hand.number) hand.seats now left in
          let two = left_most (DriveFailures shelf mid new) (TakesSlot (drawn hand.number) bytes) now last left_last in
          let mid_same : active_of now ≡ active_of hand.seats = omega (arith, one, two, same) in
          let last_same : active_of last ≡ active_of now = omega (arith, one, two, same) in
          took_more shelf.calls shelf.written old mid new (2 * active_of hand.seats) (6 * active_of now) (1 * active_of hand.seats) ((2 + length body) * active_of now) (8 * active_of last) ((3 + blocks_for (record_bytes table)) * active_of last)
          (omega (arith, mid_same, last_same)) (blocks_add (length body) (blocks_for (record_bytes table)) (active_of hand.seats) (active_of now) (active_of last) (spelled.blocks ∙ ap blocks_for spelled.counted) mid_same last_same)
          (counted.all some_active_then mid_same) (slot_counted.all (omega (arith, some_active_then, mid_same)) last_same)
        where
          blocks_add : (l k a b c : ℕ) → l ≡ k → b ≡ a → c ≡ b → 1 * a + (2 + l) * b ≡ (3 + k) * c
          blocks_add l k a b c same one two = subst (λ (n : ℕ). 1 * a + (2 + n) * b ≡ (3 + k) * c) (sym same) (subst (λ (n : ℕ). 1 * a + (2 + k) * n ≡ (3 + k) * c) (sym one) (subst (λ (n : ℕ). 1 * a + (2 + k) * a ≡ (3 + k) * n) (sym (two ∙ one)) (omega arith)))

      pub twice : IsTwice shelf key hand table old new last
      twice = record {
        took = took_all;
        enough = enough_last;
        wrote = both_wrote;
        made = both_made;
        most = second_most;
        exact = exact_made;
        written = both_written;
        kept = both_kept;
        moments = second_moments;
        ends = twice_ends;
        synced = second_synced;
      }

module _ (hand : Hand) (table : Table) (ready : IsReadied hand table) where
  pub text_most : blocks_for (record_bytes table) ≤ 4094
  text_most =
      let some = some_active hand.seats (some_more hand.seats table.plan.lists ready.enough) in
      let fits = ready.room some.0 some.1 in
      let short = ready.short some.0 some.1 in
      omega (arith, fits, short)

  pub room_short : (room : ℕ) → room ≡ room_of table → 512 * room < 2 ^ 32
  room_short room is = omega (arith, is, text_most, room_most (places_of table.plan.lists), first_most (last_of table.plan.lists))

  module _ (failed : ℕ → Failures) (now : List Seat) (left : AreLeft failed (TakesClaim hand.number) hand.seats now) where
    pub claimed_laid : (sizes next : List ℕ) → next ≡ sizes → AreLaid sizes hand.seats → AreLaid next now
    claimed_laid sizes next same laid n has =
        let one = left_replica failed (TakesClaim hand.number) hand.seats now n left has in
        let was = laid one.0 one.1 in
        subst (λ (s : List ℕ). IsLaid s n) (sym same) (subst (λ (x : Replica). IsLaid sizes x) (sym one.2) (record { placed = was.placed; short = was.short }))

    pub claimed_room : (bytes : ℕ) (body : List (List ℕ)) → IsSpelled table bytes body → HaveRoom (length body) now
    claimed_room bytes body spelled n has =
        let one = left_replica failed (TakesClaim hand.number) hand.seats now n left has in
        let fits = ready.room one.0 one.1 in
        omega (arith, fits, spelled.blocks, spelled.counted, ap (λ (r : Replica). r.first.blocks) one.2)
