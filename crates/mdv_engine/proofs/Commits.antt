-- A commit that the engine makes of its store, put together: its moments, its end, its answer and its calls.
use Rattle.std.proofs.Common.{◌≡◌, ◌⊎◌, inl, inr, ◌≤◌, ◌<◌, ◌+◌, ◌*◌, ℕ, List, length, Contains, Option, Some, Ok, Err, refl, sym, subst, ap, ◌∙◌, arith, None, MatchOption}
use Rattle.std.proofs.Math.Nat.{mul-le-mul_right}
use Rattle.mdv_encoding.proofs.Rooms.{room_most}
use Rattle.mdv_config.specs.Lists.{places_of, first_of}
use Rattle.mdv_shelf.proofs.Between.{between_wider}
use Rattle.mdv_shelf.proofs.Moments.{ends_both, moments_end, moments_weaker}
use Rattle.mdv_shelf.specs.Calls.{OnDrive}
use Rattle.mdv_shelf.specs.Drives.{KeptAmong}
use Rattle.mdv_shelf.specs.Made.{made_of}
use Rattle.mdv_shelf.specs.Shelves.{AtEachTale, AtEnd, DriveFailures}
use Rattle.mdv_shelf.specs.declared.shelf.Shelf.{Ghosts}
use Rattle.mdv_store.proofs.Losing.{left_or_lost, pass_wrote}
use Rattle.mdv_store.proofs.Passes.{left_as}
use Rattle.mdv_store.specs.Commit as commit
use Rattle.mdv_store.specs.Commit.{CommitAnswer, CommitDone, CommitMoment}
use Rattle.mdv_store.specs.Counts.{ArePassCounted, IsCommitCounted, drives_lost}
use Rattle.mdv_store.specs.Seats.{AreLeft, TakesSlot}
use Rattle.mdv_store.specs.Text.{blocks_for}
use Rattle.mdv_store.specs.Writing.{AreWrittenBy}
use Rattle.mdv_store.specs.declared.store.CommitFault.TheVariants as unwritten
use Rattle.mdv_engine_law.specs.Altering.{table_by}
use Rattle.mdv_engine_law.specs.Answers.{accepted, refusing}
use Rattle.mdv_engine_law.specs.Commands as came
use Rattle.mdv_engine_law.specs.Commands.{blame_of}
use Rattle.mdv_engine_law.specs.Efforts.{PassCalls}
use Rattle.mdv_engine_law.specs.Line.{AreCalmBeside, Ask, deeds}
use Rattle.mdv_engine_law.specs.Replies.{HasAnswerCause, IsAccepted}
use Rattle.mdv_engine_law.specs.declared.answer.Answer.TheVariants.{Over}
use Rattle.mdv_engine_law.specs.declared.answer.Ended.TheVariants as ended
use Rattle.mdv_engine_law.specs.declared.answer.Outcome.TheVariants as outcome
use Rattle.mdv_engine_law.proofs.Plain.{numbers_plain}
use Rattle.mdv_engine_law.proofs.Refusing.{opened_has, spent_still}
use Rattle.mdv_engine.specs.Below.{Alter, Alteration, Answer, AreLaid, CameTo, CarriedTo, CarryMoment, OfPlan, Changed, CommitFault, Created, Geometry, IsOfGeometry, IsOpenedAt, IsPlainAnswer, IsReady, Knows, Memory, Opened, Outcomes, ReplicaFull, Table, Tale, TooLong, active_of, asked_by, drives_of, kept_at, key_of, record_room, record_bytes, shortage}
use Rattle.mdv_engine.specs.Counts.{IsCommandCounted, WereTried}
use Rattle.mdv_engine.specs.Ends.{AlterEnds, AlterMoments, HasAnswered}
use Rattle.mdv_engine.specs.Engine.{IsHeldBy, IsLostOnSite, IsNextTable, IsWell, commit_answer}
use Rattle.mdv_engine.specs.declared.engine.Engine.{Engine}
use Rattle.mdv_engine.proofs.Blocks.{refused_carried}
use Rattle.mdv_engine.proofs.Committing as committing
use Rattle.mdv_engine.proofs.Committing.{IsChanging, asks_it, next_of, with_open}
use Rattle.mdv_keeping.proofs.Places.{lists_stay}
use Rattle.mdv_engine.proofs.Creating.{calm_beside}
use Rattle.mdv_engine.proofs.Ending.{command_ends, no_creation, other_ends}
use Rattle.mdv_engine.proofs.Losing.{lost_on_site}
use Rattle.mdv_engine.proofs.Makes.{moved}
use Rattle.mdv_store.specs.Shares.{short_of}
use Rattle.mdv_store.specs.declared.seats.Need.TheVariants.{Half}
use Rattle.mdv_store.specs.declared.seats.Share.{Share}
use Rattle.mdv_store.proofs.Shares.{first_enough}
use Rattle.mdv_plan.specs.declared.lists.Lists.{Lists}
use Rattle.mdv_plan.specs.declared.lists.Lists.TheVariants.{One, Two}
use Rattle.mdv_config.specs.Table.{IsListsOf}

same_most : (n : ℕ) → n ≤ n + 1
same_most n = omega arith

-- each list of a table of the table of drives has a place
first_listed : (g : Geometry) (lists : Lists) → IsListsOf g lists → 1 ≤ length (first_of lists)
first_listed g (One places) are = are.some
first_listed g (Two old new) are = are.0.some

text_few : (next old : Table) → record_bytes next ≤ commit.room_in old → 2 + blocks_for (record_bytes next) ≤ 4096
text_few next old fits = (let most = room_most (places_of old.plan.lists) in omega (arith, fits, most))

-- no more than what a change may make
pass_most : {S : Type 0} (shelf : Ghosts S) (a b : S) (text least fewer active : ℕ) → fewer ≤ least → 2 + text ≤ 4096 → (made_of shelf a b).within least (6 * active) ((2 + text) * active) → (made_of shelf a b).within fewer (6 * active) (4096 * active)
pass_most shelf a b text least fewer active lower few took =
    between_wider shelf.calls shelf.written a b least (6 * active) ((2 + text) * active) fewer (6 * active) (4096 * active) lower (omega arith) (mul-le-mul_right active few) took

module _ {S : Type 0} (shelf : Ghosts S) (a b : S) (v : Engine) (ready : IsReady v.host (shelf.sizes a)) (well : IsWell v.host v.state) (o : Opened) (opened : v.state.opened ≡ Some o) (next : Table) where
  held : IsHeldBy v.host o
  held = opened_has v.state o (IsHeldBy v.host) opened well.database

  some_active : 0 < active_of o.seats
  some_active = first_enough Half o.seats o.table.plan.lists (first_listed v.host.drives o.table.plan.lists held.of_geometry.lists) held.half

  pub laid : AreLaid (shelf.sizes a) o.seats
  laid = subst (λ (s : _). AreLaid s o.seats) ready.on_shelf.sizes_are held.laid

  module _ (new : Opened) where
    abbrev after : Engine
    after = record { host = v.host; state = with_open v.state new }

    -- it is as it was
    as_before : new ≡ o → after ≡ v
    as_before same = (λ i. record { host = v.host; state = record v.state { opened = (ap (λ (x : Opened). Some x) same ∙ sym opened) i } })

    module _ (kept : KeptAmong shelf a b (drives_of o.seats)) (moments : AtEachTale shelf (CommitMoment o next) a b) where
      calm : AreCalmBeside (drives_of o.seats) (DriveFailures shelf a b)
      calm = calm_beside shelf a b (drives_of o.seats) kept

      pub alter_moments : (alteration : Alteration) → IsNextTable v.host v.state alteration next → AlterMoments shelf a b v alteration
      alter_moments alteration is = moments_weaker (CommitMoment o next) (CarryMoment v.host (asked_by v.host (Alter alteration)) v.state) (shelf.tale a) (shelf.tale b)
          (λ t m moment. committing.commit_moment v.host (shelf.sizes a) ready v.state o opened held next t m moment alteration (next_of v.host v.state alteration next o opened is)) moments

      module _ (alteration : Alteration) (is : IsNextTable v.host v.state alteration next) where
        abbrev asked : Ask
        asked = asked_by v.host (Alter alteration)

        chosen : IsChanging v.host o alteration next
        chosen = next_of v.host v.state alteration next o opened is

        -- where it wasn't lost before it is lost now
        lost_now : (active listed : ℕ) → shortage new ≡ Some (record { active = active; listed = listed }) → commit.IsLostNow (DriveFailures shelf a b) o new next ⊎ (new ≡ o) → commit.IsLostNow (DriveFailures shelf a b) o new next
        lost_now active listed few (inl lost) = lost
        lost_now active listed few (inr same) = absurd (let none = ap shortage same ∙ held.half in cc (few, none))

        -- by the lists of the table that stands
        of_old : (active listed : ℕ) → commit.IsLostNow (DriveFailures shelf a b) o new next → shortage new ≡ Some (record { active = active; listed = listed }) → short_of Half new.seats o.table.plan.lists ≡ Some (record { active = active; listed = listed })
        of_old active listed lost few = ap (λ (t : Table). short_of Half new.seats t.plan.lists) (sym (ap (λ (x : Opened). x.table) lost.is)) ∙ few

        abbrev Shown : Tale → Tale → Type 0
        Shown t u = (g : Geometry) → IsOfGeometry g next → IsOpenedAt g o t → IsOpenedAt g (record new { mark = commit.next_mark o.mark; table = next }) u

        abbrev Comes : Answer → Memory → Tale → Tale → Type 0
        Comes answer memory t u = Knows v.host v.state t → CameTo (DriveFailures shelf a b) v.host (kept_at v.state t) (Alter alteration) answer (kept_at memory u)

        abbrev Carries : Answer → Memory → Tale → Tale → Type 0
        Carries answer memory = CarriedTo v.host asked v.state answer memory

        pub done_ends : commit.IsCommitted (DriveFailures shelf a b) o new next → AtEnd shelf (CommitDone o new next) a b → AlterEnds shelf a b v alteration accepted after
        done_ends done ends = command_ends (DriveFailures shelf a b) v asked (Alter alteration) outcome.Ok after (shelf.tale a) (shelf.tale b)
            (ends_both (CommitMoment o next) (CommitDone o new next) (Comes accepted (with_open v.state new)) (shelf.tale a) (shelf.tale b)
            (λ t u moment end. committing.done_line v.host (shelf.sizes a) ready v.state o opened held next alteration chosen t u moment (DriveFailures shelf a b) new done calm end)
            (moments_end (CommitMoment o next) (shelf.tale a) (shelf.tale b) moments) ends)
            (ends_both (CommitMoment o next) (CommitDone o new next) (Carries accepted (with_open v.state new)) (shelf.tale a) (shelf.tale b)
            (λ t u moment end. committing.done_carried v.host (shelf.sizes a) ready v.state o opened held next alteration chosen t u moment (DriveFailures shelf a b) new done calm end)
            (moments_end (CommitMoment o next) (shelf.tale a) (shelf.tale b) moments) ends)
            (λ on u. tt) (λ is u. tt)

        lost_ends : (active listed : ℕ) → CommitAnswer shelf a b o new next (Err (unwritten.Lost active listed)) → AlterEnds shelf a b v alteration (Over (ended.Lost active listed)) after
        lost_ends active listed said = other_ends (DriveFailures shelf a b) v asked (Alter alteration) (Over (ended.Lost active listed)) after (shelf.tale a) (shelf.tale b)
            (ends_both (CommitMoment o next) Shown (Comes (Over (ended.Lost active listed)) (with_open v.state new)) (shelf.tale a) (shelf.tale b)
            (λ t u moment shown known. committing.lost_line v.host (shelf.sizes a) ready v.state o opened held next alteration chosen t u moment (DriveFailures shelf a b) active listed new (lost_now active listed said.came.0 said.came.1) said.came.0 calm
            (shown v.host.drives chosen.step.next_of) (with_open v.state new) known)
            (moments_end (CommitMoment o next) (shelf.tale a) (shelf.tale b) moments) (said.shown held.half))
            (moments_end (Carries (Over (ended.Lost active listed)) (with_open v.state new)) (shelf.tale a) (shelf.tale b)
            (moments_weaker (CommitMoment o next) (Carries (Over (ended.Lost active listed)) (with_open v.state new)) (shelf.tale a) (shelf.tale b)
            (λ t u moment. committing.lost_carried v.host (shelf.sizes a) ready v.state o opened held next alteration chosen t u moment (DriveFailures shelf a b) active listed (with_open v.state new)) moments))
            (λ on u. absurd on) (λ one two is u. tt) (λ is u. tt)

        over_ends : (fault : TooLong) → commit.IsOver o new next fault → shelf.tale b ≡ shelf.tale a → ((drive : ℕ) → (DriveFailures shelf a b drive).none) → AlterEnds shelf a b v alteration (refusing (ReplicaFull fault.bytes fault.room)) after
        over_ends fault long same none = subst (λ (e : Engine). AlterEnds shelf a b v alteration (refusing (ReplicaFull fault.bytes fault.room)) e) (sym (as_before long.is))
            (command_ends (DriveFailures shelf a b) v asked (Alter alteration) (outcome.Refused (ReplicaFull fault.bytes fault.room)) v (shelf.tale a) (shelf.tale b)
            (λ t start. (t, same ∙ start, λ known. came.refused none (ReplicaFull fault.bytes fault.room) (committing.long_refusal v.host v.state o opened alteration next chosen new fault long) (refl, record { memory = refl; content = λ drive block. refl })))
            (refused_carried v.host asked v.state (shelf.tale a) (shelf.tale b) same (ReplicaFull fault.bytes fault.room))
            (λ on u. tt) (λ is u. tt))

        spent_ends : commit.IsSpent o new next → shelf.tale b ≡ shelf.tale a → ((drive : ℕ) → (DriveFailures shelf a b drive).none) → AlterEnds shelf a b v alteration (Over ended.Spent) after
        spent_ends spent same none = subst (λ (e : Engine). AlterEnds shelf a b v alteration (Over ended.Spent) e) (sym (as_before spent.is))
            (other_ends (DriveFailures shelf a b) v asked (Alter alteration) (Over ended.Spent) v (shelf.tale a) (shelf.tale b)
            (λ t start. (t, same ∙ start, λ known. came.over ended.Spent (committing.free_of v.host v.state o opened alteration next chosen spent.fits) refl (none, o, opened, spent.spent, record { memory = refl; content = λ drive block. refl })))
            (λ t start. (t, same ∙ start, spent_still v.host asked v.state v.state t))
            (λ on u. absurd on) (λ one two is u. tt) (λ is u. tt))

        -- by the fault
        unwritten_by : (fault : CommitFault) → CommitAnswer shelf a b o new next (Err fault) → IsCommitCounted shelf a b (record_bytes next) o new.seats (Err fault) → AlterEnds shelf a b v alteration (commit_answer fault) after
        unwritten_by (unwritten.Lost active listed) said counted = lost_ends active listed said
        unwritten_by (unwritten.TooLong fault) said counted = over_ends fault said.came (ap shelf.tale counted) (λ drive. ap (λ (s : S). shelf.faults s (OnDrive drive)) counted)
        unwritten_by unwritten.Spent said counted = spent_ends said.came (ap shelf.tale counted) (λ drive. ap (λ (s : S). shelf.faults s (OnDrive drive)) counted)

        pub uncommitted_ends : (fault : CommitFault) (answer : Answer) → answer ≡ commit_answer fault → CommitAnswer shelf a b o new next (Err fault) → IsCommitCounted shelf a b (record_bytes next) o new.seats (Err fault)
            → AlterEnds shelf a b v alteration answer after
        uncommitted_ends fault answer is said counted = subst (λ (x : Answer). AlterEnds shelf a b v alteration x after) (sym is) (unwritten_by fault said counted)

        -- what the answers say whatever the shelf tells
        abbrev Answered : Answer → Engine → Type 0
        Answered answer e = HasAnswered (DriveFailures shelf a b) (Alter alteration) v answer e

        never_made : Contains (deeds asked) (Created (key_of v.host)) → ⊥
        never_made has =
            no_creation (key_of v.host) (Changed (key_of v.host) (OfPlan chosen.change)) (λ same. absurd (cc (same)))
            (subst (λ (ask : Ask). Contains (deeds ask) (Created (key_of v.host))) (asks_it v.host v.state o opened alteration next chosen) has)

        well_left : (failed : Outcomes) → shortage new ≡ None → AreLaid (shelf.sizes b) new.seats → new.key ≡ o.key → new.table ≡ next → IsOfGeometry v.host.drives new.table → AreLeft failed (TakesSlot (commit.next_mark o.mark) (record_bytes next)) o.seats new.seats → IsWell v.host (with_open v.state new)
        well_left failed enough laid_now keyed tabled listed left = record {
          entries = well.entries;
          database = committing.held_left v.host o new failed (commit.next_mark o.mark) (record_bytes next) held enough keyed (ap (λ (t : Table). t.plan.lists) tabled ∙ lists_stay v.host.drives chosen.change o.table next chosen.step) listed left
              (subst (λ (s : List ℕ). AreLaid s new.seats) (kept.keeps.same_sizes ∙ sym ready.on_shelf.sizes_are) laid_now);
        }

        pub done_answer : CommitAnswer shelf a b o new next (Ok tt) → Answered accepted after
        done_answer said = record {
          plain = tt;
          cause = (o, opened, calm);
          lost = λ one two is. absurd (cc (is));
          free = λ on has closed. absurd (never_made has);
          few = inr tt;
          host = refl;
          well = λ on. well_left (DriveFailures shelf a b) said.came.enough said.laid (ap (λ (x : Opened). x.key) said.came.is) (ap (λ (x : Opened). x.table) said.came.is) (subst (λ (t : Table). IsOfGeometry v.host.drives t) (sym (ap (λ (x : Opened). x.table) said.came.is)) chosen.step.next_of) said.came.tried.left;
          begun = same_most v.state.begun;
        }

        lost_answer : (active listed : ℕ) → CommitAnswer shelf a b o new next (Err (unwritten.Lost active listed)) → Answered (Over (ended.Lost active listed)) after
        lost_answer active listed said = record {
          plain = tt;
          cause = (o, opened, subst (λ (t : Table). came.IsLostCommit (DriveFailures shelf a b) o t active listed) chosen.is (record { new = new; calm = calm; lost = lost_now active listed said.came.0 said.came.1; few = said.came.0 }));
          lost = λ one two same. moved (λ (x y : ℕ). IsLostOnSite (DriveFailures shelf a b) v.host x y) active listed one two same
              (let now = lost_now active listed said.came.0 said.came.1 in
              lost_on_site (DriveFailures shelf a b) v.host (TakesSlot (commit.next_mark o.mark) (record_bytes next)) o.seats new.seats o.table.plan.lists now.tried.left held.half (λ r has. (held.seated r has).one_of) active listed (of_old active listed now said.came.0));
          free = λ on has closed. absurd on;
          few = inr tt;
          host = refl;
          well = λ on. absurd on;
          begun = same_most v.state.begun;
        }

        still_answer : (answer : Answer) → IsPlainAnswer answer → HasAnswerCause (blame_of (DriveFailures shelf a b) v.host v.state (Alter alteration)) (Unit {0}) answer → (IsAccepted answer → ⊥) → ((active listed : ℕ) → answer ≡ Over (ended.Lost active listed) → ⊥) → new ≡ o → Answered answer after
        still_answer answer plain cause never unlost same = subst (λ (e : Engine). Answered answer e) (sym (as_before same))
            (record { plain = plain; cause = cause; lost = λ one two is. absurd (unlost one two is); free = λ on has closed. absurd (never on); few = inr tt; host = refl; well = λ on. well; begun = same_most v.state.begun })

        unwritten_said : (fault : CommitFault) → CommitAnswer shelf a b o new next (Err fault) → IsCommitCounted shelf a b (record_bytes next) o new.seats (Err fault) → Answered (commit_answer fault) after
        unwritten_said (unwritten.Lost active listed) said counted = lost_answer active listed said
        unwritten_said (unwritten.TooLong fault) said counted = still_answer (refusing (ReplicaFull fault.bytes fault.room)) (numbers_plain fault.bytes fault.room) (λ drive. ap (λ (s : S). shelf.faults s (OnDrive drive)) counted) (λ on. on) (λ one two is. absurd (cc (is))) said.came.is
        unwritten_said unwritten.Spent said counted = still_answer (Over ended.Spent) tt ((λ drive. ap (λ (s : S). shelf.faults s (OnDrive drive)) counted), tt) (λ on. on) (λ one two is. absurd (cc (is))) said.came.is

        pub uncommitted_answer : (fault : CommitFault) (answer : Answer) → answer ≡ commit_answer fault → CommitAnswer shelf a b o new next (Err fault) → IsCommitCounted shelf a b (record_bytes next) o new.seats (Err fault) → Answered answer after
        uncommitted_answer fault answer is said counted = subst (λ (x : Answer). Answered x after) (sym is) (unwritten_said fault said counted)

    -- the calls
    module _ (alteration : Alteration) where
      abbrev Counted : Answer → Type 0
      Counted answer = IsCommandCounted shelf a b v.host (Alter alteration) answer v.state.opened (Some new)

      abbrev CountedAt : Option Opened → Answer → Type 0
      CountedAt before answer = IsCommandCounted shelf a b v.host (Alter alteration) answer before (Some new)

      -- one call at least, for a place of those that were active is, or a drive was left
      pass_fits : (least : ℕ) → least ≤ 1 → record_bytes next ≤ record_room o → ArePassCounted shelf a b 6 (2 + blocks_for (record_bytes next)) o.seats new.seats → (made_of shelf a b).within least (6 * active_of o.seats) (4096 * active_of o.seats)
      pass_fits least lower fits counted =
          let one = left_or_lost 6 o.seats new.seats (omega arith) some_active in
          pass_most shelf a b (blocks_for (record_bytes next)) (6 * active_of new.seats + drives_lost o.seats new.seats) least (active_of o.seats) (omega (arith, lower, one)) (text_few next o.table fits) counted.some

      pub done_counted : CommitAnswer shelf a b o new next (Ok tt) → IsCommitCounted shelf a b (record_bytes next) o new.seats (Ok tt) → Counted accepted
      done_counted said counted = subst (λ (before : Option Opened). CountedAt before accepted) (sym opened) (record {
        exactly = subst (λ (t : Table). PassCalls (made_of shelf a b) (blocks_for (record_bytes t)) o.seats new.seats) (sym (ap (λ (x : Opened). x.table) said.came.is)) (record {
          all = λ same. counted.all some_active same;
          some = counted.some;
          wrote = pass_wrote shelf a b 6 (2 + blocks_for (record_bytes next)) o.seats new.seats (omega arith) some_active counted;
        });
        most = pass_fits 0 (omega arith) said.came.tried.fits counted;
        wrote = subst (λ (x : Opened). AreWrittenBy shelf x.mark x.table a b o.seats new.seats) (sym said.came.is) (said.steps tt);
      })

      lost_counted : IsNextTable v.host v.state alteration next → (active listed : ℕ) → CommitAnswer shelf a b o new next (Err (unwritten.Lost active listed)) → IsCommitCounted shelf a b (record_bytes next) o new.seats (Err (unwritten.Lost active listed)) → Counted (Over (ended.Lost active listed))
      lost_counted is active listed said counted = subst (λ (before : Option Opened). CountedAt before (Over (ended.Lost active listed))) (sym opened) (pass_fits 1 (omega arith) tried.fits pass, were_tried)
        where
          pass : ArePassCounted shelf a b 6 (2 + blocks_for (record_bytes next)) o.seats new.seats
          pass = subst (λ (h : Option Share). MatchOption h (ArePassCounted shelf a b 6 (2 + blocks_for (record_bytes next)) o.seats new.seats) (λ s. b ≡ a)) held.half counted

          lost_by : commit.IsLostNow (DriveFailures shelf a b) o new next ⊎ (new ≡ o) → commit.IsLostNow (DriveFailures shelf a b) o new next
          lost_by (inl lost) = lost
          lost_by (inr same) = absurd (let few = said.came.0 in let none = ap shortage same ∙ held.half in cc (few, none))

          lost : commit.IsLostNow (DriveFailures shelf a b) o new next
          lost = lost_by said.came.1

          tried : commit.IsTried (DriveFailures shelf a b) o new next
          tried = lost.tried

          were_tried : WereTried shelf a b (AreWrittenBy shelf (commit.next_mark o.mark) (table_by v.host.drives alteration o.table) a b o.seats) o.seats o.table.plan.lists active listed
          were_tried = record {
            now = new.seats;
            left = left_as (DriveFailures shelf a b) (DriveFailures shelf a b) (TakesSlot (commit.next_mark o.mark) (record_bytes next)) (λ r n. Unit {0}) o.seats new.seats (λ r has some. some) (λ r has none. none) (λ r n took. tt) tried.left;
            few = ap (λ (t : Table). short_of Half new.seats t.plan.lists) (sym (ap (λ (x : Opened). x.table) lost.is)) ∙ said.came.0;
            steps = subst (λ (t : Table). AreWrittenBy shelf (commit.next_mark o.mark) t a b o.seats new.seats) (next_of v.host v.state alteration next o opened is).is (said.steps held.half);
          }

      unwritten_calls : IsNextTable v.host v.state alteration next → (fault : CommitFault) → CommitAnswer shelf a b o new next (Err fault) → IsCommitCounted shelf a b (record_bytes next) o new.seats (Err fault) → Counted (commit_answer fault)
      unwritten_calls is (unwritten.Lost active listed) said counted = lost_counted is active listed said counted
      unwritten_calls is (unwritten.TooLong fault) said counted = counted
      unwritten_calls is unwritten.Spent said counted = counted

      pub uncommitted_counted : IsNextTable v.host v.state alteration next → (fault : CommitFault) (answer : Answer) → answer ≡ commit_answer fault → CommitAnswer shelf a b o new next (Err fault) → IsCommitCounted shelf a b (record_bytes next) o new.seats (Err fault) → Counted answer
      uncommitted_counted next_is fault answer is said counted = subst Counted (sym is) (unwritten_calls next_is fault said counted)
