-- What a commit of the host's next table leaves, told of the host.
use Rattle.std.proofs.Common.{◌≡◌, inl, inr, ◌≤◌, ◌+◌, ◌-◌, ◌*◌, ℕ, false, List, [], ◌∷◌, Option, Some, None, IfSome, Contains, refl, sym, subst, ap, ◌∙◌, arith}
use Rattle.mdv_databases.proofs.Committing as databases
use Rattle.mdv_shelf.proofs.Moments.{some_is}
use Rattle.mdv_shelf.proofs.Frame.{within_range}
use Rattle.mdv_store.proofs.Sitting.{first_or_behind, left_count, left_replica}
use Rattle.mdv_store.specs.Commit as commit
use Rattle.mdv_store.specs.Commit.{CommitDone, CommitMoment, next_mark}
use Rattle.mdv_store.specs.Seats.{AreLeft, TakesSlot}
use Rattle.mdv_store_law.specs.Log.{IsMade}
use Rattle.mdv_survey.specs.Replica.{at_of}
use Rattle.mdv_keeping.proofs.Places.{lists_stay}
use Rattle.mdv_keeping.specs.Keeping.{IsStepOf}
use Rattle.mdv_store_law.specs.Changes.{IsAsked}
use Rattle.mdv_engine_law.specs.Altering.{Alters, table_by}
use Rattle.mdv_engine_law.specs.Answers.{accepted, refusing}
use Rattle.mdv_engine_law.specs.Commands as came
use Rattle.mdv_engine_law.specs.Line.{AreCalmBeside, Ask, IsCommitted as CommittedTo, ToDo, change_asked}
use Rattle.mdv_engine_law.specs.Refusals.{bytes_after, told_by_table}
use Rattle.mdv_engine_law.specs.declared.answer.Answer.TheVariants.{Over}
use Rattle.mdv_engine_law.specs.declared.answer.Ended.TheVariants as ended
use Rattle.mdv_engine_law.proofs.Changing as changing
use Rattle.mdv_engine_law.proofs.Keeping.{committed, leaves_table}
use Rattle.mdv_engine_law.proofs.Plain.{memory_plain, refusal_plain}
use Rattle.mdv_engine_law.proofs.Refusing.{opened_has}
use Rattle.mdv_engine_law.proofs.Allowed.{either_left}
use Rattle.mdv_engine_law.proofs.Within.{none_in, outside_places}
use Rattle.mdv_shelf.specs.Area.{range}
use Rattle.mdv_engine.proofs.Altering.{alter_refusal, change_free, change_long, of_open}
use Rattle.mdv_engine.specs.Below.{Alter, Alteration, Answer, AreCalm, AreLaid, CameTo, CarriedTo, CarryMoment, OfPlan, PlanChange, Changed, Host, IsOfGeometry, IsOpenedAt, IsPlain, IsReady, Knows, Memory, Opened, Outcomes, Refusal, Replica, ReplicaFull, SliceLine, Table, Tale, TooLong, asked_by, drives_of, kept_at, key_of, record_room, record_bytes, replicas_of, seats_area, site_area, shortage}
use Rattle.mdv_engine.specs.Engine.{HasChangeCause, IsCommittable, IsHeldBy, IsNextTable, LiesOn}

-- the next table of the open one
pub record IsChanging (host : Host) (o : Opened) (alteration : Alteration) (next : Table) : Type 0 where
  pub change : PlanChange
  pub asks : Alters alteration change
  pub asked : IsAsked change
  pub allowed : told_by_table host o change ≡ None
  pub is : next ≡ table_by host.drives alteration o.table
  pub step : IsStepOf host.drives change o.table next

pub next_of : (host : Host) (memory : Memory) (alteration : Alteration) (next : Table) (o : Opened) → memory.opened ≡ Some o → IsNextTable host memory alteration next → IsChanging host o alteration next
next_of host memory alteration next o opened is =
    subst (λ (n : Opened). IsChanging host n alteration next) (some_is memory.opened is.o o is.opened opened)
    (record { change = is.change; asks = is.asks; asked = is.asked; allowed = is.allowed; is = is.is; step = is.step })

-- it may be committed
pub next_fits : (host : Host) (memory : Memory) (alteration : Alteration) (next : Table) → IsNextTable host memory alteration next → IfSome memory.opened (λ o. IsCommittable host o next)
next_fits host memory alteration next is =
    subst (λ (x : Option Opened). IfSome x (λ o. IsCommittable host o next)) (sym is.opened)
    (record { of_geometry = is.step.next_of; lists = lists_stay host.drives is.change is.o.table next is.step })

-- a change that is refused before anything is done
module _ (host : Host) (memory : Memory) (alteration : Alteration) where
  pub refused_line : (calls : Outcomes) → AreCalm calls → (t : Tale) (r : Refusal) → HasChangeCause host memory alteration r → CameTo calls host (kept_at memory t) (Alter alteration) (refusing r) (kept_at memory t)
  refused_line calls calm t r (inl is) = came.refused calm r is (refl, record { memory = refl; content = λ drive block. refl })
  refused_line calls calm t r (inr (o, opened, want)) = came.wanting calm (ap refusing want) (o, opened, record { memory = refl; content = λ drive block. refl })

  pub refused_plain : (r : Refusal) → HasChangeCause host memory alteration r → IsPlain r
  refused_plain r (inl is) = refusal_plain (record { host = host; memory = memory }) (Alter alteration) r is
  refused_plain r (inr (o, opened, want)) = subst IsPlain (sym want) memory_plain

module _ (host : Host) (memory : Memory) (o : Opened) (opened : memory.opened ≡ Some o) (alteration : Alteration) (next : Table) (is : IsChanging host o alteration next) where
  -- what the line asks
  pub asks_it : asked_by host (Alter alteration) ≡ ToDo (Changed (key_of host) (OfPlan is.change))
  asks_it = ap (change_asked host) is.asks

  length_next : record_bytes next ≡ bytes_after host o is.change
  length_next = ap (λ (x : Table). record_bytes x) is.step.made.after

  -- nothing refuses it, where its text fits
  pub free_of : record_bytes next ≤ record_room o → alter_refusal host memory.opened alteration ≡ None
  free_of fits = of_open host memory.opened o alteration is.change None opened is.asks (change_free host o is.change is.allowed (let same = length_next in omega (arith, same, fits)))

  -- or that it doesn't
  pub long_refusal : (new : Opened) (fault : TooLong) → commit.IsOver o new next fault → alter_refusal host memory.opened alteration ≡ Some (ReplicaFull fault.bytes fault.room)
  long_refusal new fault over =
      let same = length_next in
      of_open host memory.opened o alteration is.change (Some (ReplicaFull fault.bytes fault.room)) opened is.asks
      (change_long host o is.change is.allowed (let long = over.over in omega (arith, same, long)) ∙ ap Some (λ i. ReplicaFull ((sym same ∙ sym over.bytes) i) (sym over.room i)))

  is_made : IsMade host.drives (Some (OfPlan is.change)) o.table next
  is_made = (is.asked, is.step)

-- the replicas of a database that is held lie on the host's slices
pub seats_on : (host : Host) (o : Opened) → IsHeldBy host o → (drive block : ℕ) → site_area host.site drive block ≡ false → seats_area o.seats drive block ≡ false
seats_on host o held drive block out = none_in (replicas_of o.seats) drive block (λ r has.
    let at = held.seated r has in
    let room = at.within in
    within_range r.line.at.drive.0 (at_of r).first r.first.blocks (r.line.at.start + 16) (1 * (r.line.at.blocks - 16)) drive block (omega arith) (omega (arith, room)) (out_of r.line at.one_of (omega (arith, room))))
  where
    -- a block outside the slices is outside each of them
    out_of : (line : SliceLine) → Contains host.site.lines line → 16 ≤ line.at.blocks → range line.at.drive.0 (line.at.start + 16) (1 * (line.at.blocks - 16)) drive block ≡ false
    out_of line one_of long =
        either_left (range line.at.drive.0 (line.at.start + 16) (1 * (line.at.blocks - 16)) drive block) false
        (outside_places host.site (line ∷ []) 1 (line.at.blocks - 16) (λ other among. subst (λ (l : SliceLine). Contains host.site.lines l) (only line other among) one_of)
        (λ other among. subst (λ (l : SliceLine). 16 + 1 * (line.at.blocks - 16) ≤ l.at.blocks) (only line other among) (omega (arith, long))) drive block out)
      where
        only : (one other : SliceLine) → Contains (one ∷ []) other → one ≡ other
        only one other among = elim (first_or_behind one other [] among) [ inl same ↦ same | inr none ↦ absurd (omega (arith, none.1)) ]

-- what it is behind a commit that at least half of each list took
pub held_left : (host : Host) (o new : Opened) (failed : Outcomes) (mark : _) (bytes : ℕ) → IsHeldBy host o → shortage new ≡ None → new.key ≡ o.key → new.table.plan.lists ≡ o.table.plan.lists → IsOfGeometry host.drives new.table → AreLeft failed (TakesSlot mark bytes) o.seats new.seats → AreLaid host.site.sizes new.seats → IsHeldBy host new
held_left host o new failed mark bytes held half keyed lists listed left laid = record {
  its = keyed ∙ held.its;
  some = (let counted = left_count failed (TakesSlot mark bytes) o.seats new.seats left in let least = held.some in omega (arith, counted, least));
  few = (let counted = left_count failed (TakesSlot mark bytes) o.seats new.seats left in let most = held.few in omega (arith, counted, most));
  one = (held.one.0, lists ∙ held.one.1);
  half = half;
  of_geometry = listed;
  laid = laid;
  seated = λ n has.
      let one = left_replica failed (TakesSlot mark bytes) o.seats new.seats n left has in
      let at = held.seated one.0 one.1 in
      subst (λ (x : Replica). LiesOn host.site x) (sym one.2.2) (record { one_of = at.one_of; within = at.within });
}

-- what is in memory, with this open
abbrev pub with_open : Memory → Opened → Memory
with_open memory o = record memory { opened = Some o }

-- A commit of the table that a change makes of the open one.
module _ (host : Host) (sizes : List ℕ) (ready : IsReady host sizes) (memory : Memory) (o : Opened) (opened : memory.opened ≡ Some o) (held_is : IsHeldBy host o) (next : Table) where
  -- at each moment
  module _ (t m : Tale) (moment : CommitMoment o next t m) where
    pub commit_moment : (alteration : Alteration) → IsChanging host o alteration next → CarryMoment host (asked_by host (Alter alteration)) memory t m
    commit_moment alteration is =
        subst (λ (ask : Ask). CarryMoment host ask memory t m) (sym (asks_it host memory o opened alteration next is))
        (changing.changing_moment host sizes ready memory o opened is.change next (is_made host memory o opened alteration next is) (seats_on host o held_is) t m moment.quiet.outside moment.quiet.quiet
        (λ all which. databases.commit_moment host.drives all o (Some (OfPlan is.change)) next t m which moment))

  -- what it comes to, by the answer of the store
  module _ (alteration : Alteration) (is : IsChanging host o alteration next) (t u : Tale) (moment : CommitMoment o next t u) (calls : Outcomes) where
    abbrev Comes : Answer → Memory → Type 0
    Comes answer after = CameTo calls host (kept_at memory t) (Alter alteration) answer (kept_at after u)

    abbrev Carries : Answer → Memory → Type 0
    Carries answer after = CarriedTo host (asked_by host (Alter alteration)) memory answer after t u

    carries : (answer : Answer) (after : Memory) → CarriedTo host (ToDo (Changed (key_of host) (OfPlan is.change))) memory answer after t u → Carries answer after
    carries answer after it = subst (λ (ask : Ask). CarriedTo host ask memory answer after t u) (sym (asks_it host memory o opened alteration next is)) it

    -- it was committed
    module _ (new : Opened) (done : commit.IsCommitted calls o new next) (calm : AreCalmBeside (drives_of o.seats) calls) (ends : CommitDone o new next t u) where
      opens : IsOpenedAt host.drives o t → IsOpenedAt host.drives new u
      opens now = ends.opened host.drives is.step.next_of now

      pub done_line : Knows host memory t → Comes accepted (with_open memory new)
      done_line known = came.done (free_of host memory o opened alteration next is done.tried.fits) (
        refl,
        o,
        opened,
        subst (λ (table : Table). CommittedTo calls host o table (kept_at memory t) (kept_at (with_open memory new) u)) is.is
            (committed host memory (with_open memory new) t u calls o new next done calm moment.quiet.outside refl (opens (opened_has memory o (λ n. (n.key ≡ key_of host) × IsOpenedAt host.drives n t) opened known.opened).1)),
      )

      pub done_carried : Carries accepted (with_open memory new)
      done_carried = carries accepted (with_open memory new)
          (changing.changed host sizes ready memory o opened is.change next (is_made host memory o opened alteration next is) (seats_on host o held_is) t u moment.quiet.outside new (with_open memory new) refl refl (omega arith) refl
          (ap (λ (x : Opened). x.key) done.is) (ap (λ (x : Opened). x.table) done.is) opens
          (λ all which. databases.commit_end host.drives all o new (Some (OfPlan is.change)) next t u which moment ends (ap (λ (x : Opened). x.key) done.is) (ap (λ (x : Opened). x.identity) done.is)))

    -- too few places took it
    module _ (active listed : ℕ) (new : Opened) (lost : commit.IsLostNow calls o new next) (few : shortage new ≡ Some (record { active = active; listed = listed })) (calm : AreCalmBeside (drives_of o.seats) calls)
        (shown : IsOpenedAt host.drives o t → IsOpenedAt host.drives (record new { mark = next_mark o.mark; table = next }) u) (after : Memory) where
      abbrev Leaves : Table → ℕ → ℕ → Type 0
      Leaves table active listed = came.LeavesTable calls host o table active listed (kept_at memory t) (kept_at after u)

      left : IsOpenedAt host.drives o t → Leaves next active listed
      left now = leaves_table host memory after t u calls o new next active listed opened lost few calm moment.quiet.outside (shown now)

      pub lost_line : Knows host memory t → Comes (Over (ended.Lost active listed)) after
      lost_line known = came.over (ended.Lost active listed) (free_of host memory o opened alteration next is lost.tried.fits) refl (
        o,
        opened,
        subst (λ (table : Table). Leaves table active listed) is.is (left (opened_has memory o (λ n. (n.key ≡ key_of host) × IsOpenedAt host.drives n t) opened known.opened).1),
      )

    pub lost_carried : (active listed : ℕ) (after : Memory) → Carries (Over (ended.Lost active listed)) after
    lost_carried active listed after = carries (Over (ended.Lost active listed)) after
        (changing.changed_or_lost host sizes ready memory o opened is.change next (is_made host memory o opened alteration next is) (seats_on host o held_is) t u moment.quiet.outside active listed after
        (λ all which. databases.commit_moment host.drives all o (Some (OfPlan is.change)) next t u which moment))
