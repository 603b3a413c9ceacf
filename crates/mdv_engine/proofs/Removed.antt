-- All places of the open database go: the first one alone is left, and then its master is blanked. What it comes to, its answer and its calls.
use Rattle.std.proofs.Common.{◌≡◌, inl, inr, ℕ, Bool, true, false, List, [], ◌∷◌, append-nil, Contains, Option, Some, None, Ok, ap, arith, refl, subst, sym, ◌∙◌}
use Rattle.std.specs.List.{list_any}
use Rattle.std.specs.Bool.{MatchBool}
use Rattle.std.proofs.lemmas.Bool.{false≢true}
use Rattle.mdv_acts.proofs.Acting.{among_more}
use Rattle.mdv_acts.specs.Acts.{AreDoing, Blanks, HaveGone, HaveStopped}
use Rattle.mdv_base.proofs.Causes.{calm_before, within_calm}
use Rattle.mdv_base.specs.declared.drive.Failed.{Failed}
use Rattle.mdv_places.proofs.Blanked.{blank_done, blank_still}
use Rattle.mdv_places.specs.Asked.{Asks, Drops, KeepsFirst}
use Rattle.mdv_places.specs.Changing.{both_of, drives_moved}
use Rattle.mdv_places.specs.Ending.{EndEnds, EndMoment, IsSole}
use Rattle.mdv_places.specs.Moments.{AreBlanked, IsBlankAt, MoveMoment, area_moved, master_area, places_dropped}
use Rattle.mdv_shelf.proofs.Among.{among_wider}
use Rattle.mdv_shelf.proofs.Everywhere.{last_image}
use Rattle.mdv_shelf.proofs.Frame.{kept_outside_more, kept_outside_wider}
use Rattle.mdv_shelf.proofs.Moments.{ends_both, ends_more, moments_after, moments_end}
use Rattle.mdv_shelf.specs.Drives.{KeptAmong}
use Rattle.mdv_shelf.specs.Shelves.{AtEachTale, AtEnd, DriveFailures}
use Rattle.mdv_shelf.specs.declared.shelf.Shelf.{Ghosts}
use Rattle.mdv_store_law.specs.Changes.{FirstPlace}
use Rattle.mdv_survey.specs.Replica.{at_of}
use Rattle.mdv_volumes.proofs.Lists.{contains_first, first_or_behind}
use Rattle.mdv_engine_law.specs.Answers.{accepted, refusing}
use Rattle.mdv_engine_law.specs.Below.{PlaceAt}
use Rattle.mdv_engine_law.specs.Commands as came
use Rattle.mdv_engine_law.specs.Line.{AreCalmBeside, Ask, IsSameBeside, ToDrop, contents}
use Rattle.mdv_engine_law.specs.Moves.{HasMovedOn, IsDeletedOn, places_under}
use Rattle.mdv_engine_law.specs.Places.{are_all, list_of}
use Rattle.mdv_engine_law.specs.Standing.{AreBlankAt, AreBlankWhereCalm}
use Rattle.mdv_engine_law.proofs.Allowed.{dropped_forced, either_left}
use Rattle.mdv_engine_law.proofs.Keeping.{same_beside}
use Rattle.mdv_engine_law.proofs.Plain.{fault_plain}
use Rattle.mdv_engine_law.proofs.Reaching.{end_writes, left_area}
use Rattle.mdv_engine_law.proofs.Removing.{ended, ending_moment, unended}
use Rattle.mdv_engine_law.proofs.Widening.{AreWithin, moved_more}
use Rattle.mdv_engine.specs.Below.{AreCalm, Answer, CarryMoment, Command, DriveNo, DropPlaces, Geometry, IoFault, IsAllowed, IsReady, KeptOutside, Memory, Opened, Outcomes, Seat, SliceName, Tale, kept_at, key_of, last, seats_area, site_area}
use Rattle.mdv_engine.specs.Counts.{IsCommandCounted}
use Rattle.mdv_engine.specs.Ends.{CarriedOut, KeptAsAsked, LosesPlaces, WasCarriedOut, drives_less}
use Rattle.mdv_engine.specs.Engine.{IsHeldBy, IsWell, case_at}
use Rattle.mdv_engine.specs.Moving.{HasChanged, HasClosed, gone, torn}
use Rattle.mdv_engine.specs.declared.engine.Engine.{Engine}
use Rattle.mdv_engine.proofs.Alone as alone
use Rattle.mdv_engine.proofs.Committing.{seats_on}
use Rattle.mdv_engine.proofs.Counted.{ended_counted, torn_counted}
use Rattle.mdv_engine.proofs.Drops.{IsDrop, answered, blank_of, first_alone}
use Rattle.mdv_engine.proofs.Ending.{one_open}
use Rattle.mdv_engine.proofs.May as may
use Rattle.mdv_engine.proofs.Moved as moved

-- the one master is being blanked, or nothing was done yet
blank_doing : (x at : PlaceAt) (u m : Tale) → IsBlankAt x u → AreDoing (Blanks at ∷ []) u m → IsBlankAt x m
blank_doing x at u m blank (inl same) = subst (IsBlankAt x) (sym same) blank
blank_doing x at u m blank (inr (inl wiping)) = blank_still x at u m blank wiping
blank_doing x at u m blank (inr (inr (w, done, same))) = subst (IsBlankAt x) (sym same) (blank_still x at u w blank done.0)

module _ {S : Type 0} (shelf : Ghosts S) (a b c : S) (v : Engine) (ready : IsReady v.host (shelf.sizes a)) (well : IsWell v.host v.state) (o : Opened) (opened : v.state.opened ≡ Some o) (slices : List SliceName) (free : IsAllowed (case_at v) (DropPlaces slices true)) (all : are_all o slices ≡ true)
    (mid : Engine) (has : HasChanged shelf a b v o KeepsFirst (Ok true) mid) where
  abbrev g : Geometry
  g = v.host.drives

  abbrev before : Outcomes
  before = DriveFailures shelf a b

  abbrev calls : Outcomes
  calls = DriveFailures shelf a c

  abbrev command : Command
  command = DropPlaces slices true

  abbrev ask : Ask
  ask = ToDrop (key_of v.host) slices true

  abbrev sizes : List ℕ
  sizes = shelf.sizes a

  abbrev one : Opened
  one = has.now

  abbrev Out : Answer → Engine → Type 0
  Out answer new = WasCarriedOut shelf a c ask command v answer new

  held : IsHeldBy v.host o
  held = may.held v.host sizes ready v.state well o opened

  d : IsDrop shelf a b v ready well o opened slices true free KeepsFirst FirstPlace
  d = first_alone shelf a b v ready well o opened slices true free all

  -- told of what is open, and of all
  by_open : (P : Option Opened → Type 0) → P (Some o) → P v.state.opened
  by_open P it = subst P (sym opened) it

  by_all : (P : Bool → Type 0) → P true → P (are_all o slices)
  by_all P it = subst P (sym all) it

  -- Where it is written behind the change: at the place that is left.
  area : (drive block : ℕ) → seats_area o.seats drive block ≡ false → seats_area one.seats drive block ≡ false
  area = left_area before g o one KeepsFirst refl true has.answer.by

  on_site : (u m : Tale) → EndMoment one u m → KeptOutside (site_area v.host.site) u m
  on_site u m then = kept_outside_wider (seats_area one.seats) (site_area v.host.site) u m (λ drive block out. area drive block (seats_on v.host o held drive block out)) then.quiet.outside

  beside : (t u m : Tale) → MoveMoment g o KeepsFirst t u → EndMoment one u m → IsSameBeside (area_moved g o KeepsFirst) (contents t) (contents m)
  beside t u m moment then = same_beside (area_moved g o KeepsFirst) t m (kept_outside_more (area_moved g o KeepsFirst) t u m moment.quiet.outside (kept_outside_wider (seats_area one.seats) (area_moved g o KeepsFirst) u m (λ drive block out.
      area drive block (subst (λ (ss : List Seat). seats_area ss drive block ≡ false) (append-nil o.seats)
      (either_left (seats_area (both_of o KeepsFirst).seats drive block) (list_any (λ (at : PlaceAt). master_area at drive block) (places_dropped g o KeepsFirst)) out))) then.quiet.outside))

  abbrev First : Tale → Tale → Type 0
  First t u = moved.All shelf a b v ready well o opened held KeepsFirst FirstPlace d.is (Ok true) mid has t u

  -- each moment of both
  both_moments : AtEachTale shelf (EndMoment one) b c → AtEachTale shelf (CarryMoment v.host ask v.state) a c
  both_moments rest = moments_after (MoveMoment g o KeepsFirst) First (EndMoment one) (CarryMoment v.host ask v.state) (shelf.tale a) (shelf.tale b) (shelf.tale c)
      (moved.carry_moment shelf a b v ready well o opened held KeepsFirst FirstPlace d.is ask d.one_of d.site d.writes)
      (λ t u m first then. ending_moment v.host sizes ready v.state o opened slices d.is t u (d.site t u first.0) first.0 before one has.answer.by first.1 first.2 m (on_site u m then) then
      (end_writes v.host v.state o one opened area t u m (key_of v.host) slices true (d.writes t u (d.site t u first.0) first.0) (on_site u m then) then))
      has.moments (moved.all_ends shelf a b v ready well o opened held KeepsFirst FirstPlace d.is (Ok true) mid has) rest

  -- what it comes to by both ends
  abbrev Blank : Tale → Tale → Type 0
  Blank t u = First t u × AreBlanked before g o KeepsFirst true u

  then_ends : (R : Tale → Tale → Type 0) (Q : Tale → Tale → Type 0) → ((t u m : Tale) → Blank t u → R u m → Q t m) → AtEnd shelf R b c → AtEnd shelf Q a c
  then_ends R Q join rest = ends_more Blank R Q (shelf.tale a) (shelf.tale b) (shelf.tale c) join (moved.blank_ends shelf a b v ready well o opened held KeepsFirst FirstPlace d.is true mid has) rest

  kept_so : (drive : DriveNo) → Contains (drives_moved g o KeepsFirst) drive → AreCalm before → KeptAmong shelf b c (drive ∷ []) → KeptAsAsked shelf a c v.host v.state command
  kept_so drive among calm kept = by_open (λ x. KeptAmong shelf a c (drives_less v.host x slices)) (subst (λ (m : Asks). KeptAmong shelf a c (drives_moved g o m)) (sym d.drop) (among_more shelf a b c (drives_moved g o KeepsFirst) calm has.kept
      (among_wider shelf b c (drive ∷ []) (drives_moved g o KeepsFirst) (λ other in_it. elim (first_or_behind drive other [] in_it) [ inl here ↦ subst (Contains (drives_moved g o KeepsFirst)) here among | inr none ↦ absurd (omega (arith, none.1)) ]) kept)))

  -- its one place, told of where it was
  module _ (sole : IsSole one) where
    calm_first : AreCalm before
    calm_first = alone.calm shelf a b v ready well o opened mid has sole

    abbrev first_at : PlaceAt
    first_at = alone.first_at shelf a b v ready well o opened mid has sole

    abbrev drive : DriveNo
    drive = sole.replica.line.at.drive

    drive_is : drive ≡ first_at.drive
    drive_is = alone.first_drive shelf a b v ready well o opened mid has sole

    drive_moved : Contains (drives_moved g o KeepsFirst) drive
    drive_moved = subst (Contains (drives_moved g o KeepsFirst)) (sym drive_is) (alone.drive_moved shelf a b v ready well o opened mid has sole)

    -- No call failed in the end.
    module _ (over : HaveGone shelf b c (drive ∷ []) (Blanks (at_of sole.replica) ∷ [])) where
      abbrev closed : Memory
      closed = record v.state { opened = None }

      within : AreWithin before calls
      within n = within_calm _ _ _ (over.calm n)

      calm : AreCalm calls
      calm n = (within n).none (calm_first n)

      wiped : (t u m : Tale) → AreBlanked before g o KeepsFirst true u → EndEnds one u m → EndMoment one u m → (x : PlaceAt) → Contains (places_under g (list_of o)) x → IsBlankAt x m
      wiped t u m blank ends then = alone.each_blank shelf a b v ready well o opened mid has sole m (λ x dropped. blank_doing x (at_of sole.replica) u m (blank.all refl x dropped) (then.only sole))
          (let done = ends.only sole in subst (IsBlankAt (at_of sole.replica)) (sym done.2) (blank_done (at_of sole.replica) done.0 done.1.1))

      out_end : (t u m : Tale) → Blank t u → EndMoment one u m × EndEnds one u m → CarriedOut calls v.host ask command v.state accepted closed t m
      out_end t u m (first, blank) (then, ends) = record {
        carry = record {
          answered = λ known. came.done free (
            refl,
            o,
            opened,
            by_all (λ every. MatchBool every (IsDeletedOn calls v.host o (kept_at v.state t) (kept_at closed m)) (HasMovedOn calls v.host o (Drops slices) (kept_at v.state t) (kept_at closed m))) (record {
              calm = calm;
              memory = refl;
              left = (one, moved_more before calls within g o one KeepsFirst true has.answer.by);
              wiped = λ x in_it. wiped t u m blank ends then x in_it (last m) (last_image m);
              beside = beside t u m first.0 then;
            }),
          );
          carried = ended v.host sizes ready v.state o opened slices d.is t u (d.site t u first.0) first.0 before one has.answer.by first.1 first.2 m (on_site u m then) then closed refl refl refl refl ends;
        };
        done = λ known on. blank_of calls v o opened slices m (by_all (λ every. MatchBool every (AreBlankAt (places_under g (list_of o)) m) (AreBlankWhereCalm calls (places_dropped g o (Drops slices)) m)) (wiped t u m blank ends then));
        lost = λ known active listed is_so. absurd (cc (is_so));
        torn = λ known is_so. absurd (cc (is_so));
      }

      pub deleted : AtEachTale shelf (EndMoment one) b c → AtEnd shelf (EndEnds one) b c → Out accepted (record v { state = closed })
      deleted moments ends = record {
        moments = both_moments moments;
        end = then_ends (λ u m. EndMoment one u m × EndEnds one u m) (CarriedOut calls v.host ask command v.state accepted closed) out_end
            (ends_both (EndMoment one) (EndEnds one) (λ u m. EndMoment one u m × EndEnds one u m) (shelf.tale b) (shelf.tale c) (λ u m then end. (then, end)) (moments_end (EndMoment one) (shelf.tale b) (shelf.tale c) moments) ends);
        answer = answered calls v o opened slices true accepted (record v { state = closed }) tt (o, opened, by_all (λ every. MatchBool every (AreCalm calls) (AreCalmBeside (drives_moved g o (Drops slices)) calls)) calm)
            (λ active listed is_so. absurd (cc (is_so))) refl (λ on. record { database = tt; entries = well.entries }) refl;
        counted = by_open (λ x. IsCommandCounted shelf a c v.host command accepted x None) (ended_counted shelf a b c o v.host held.half one None slices true all sole has.counted (sole, over) (record { through = b; one = one; moved = has.answer.came; ended = (sole, over) }));
        kept = kept_so drive drive_moved calm_first over.kept;
      }

    -- A call failed as its master was blanked.
    module _ (fault : Failed) (over : HaveStopped shelf b c (drive ∷ []) (Blanks (at_of sole.replica) ∷ [])) where
      abbrev unsure : Memory
      unsure = record v.state { opened = None; clean = false }

      on : over.drive ≡ drive
      on = elim (first_or_behind drive over.drive [] over.one_of) [ inl here ↦ sym here | inr none ↦ absurd (omega (arith, none.1)) ]

      here : (calls first_at.drive.0).some
      here = subst (λ (x : DriveNo). (calls x.0).some) (on ∙ drive_is) ((calm_before _ _ _ (calm_first over.drive.0)).some over.here)

      elsewhere : (other : DriveNo) → (other ≡ first_at.drive → ⊥) → (calls other.0).none
      elsewhere other differs = (calm_before _ _ _ (calm_first other.0)).none (over.elsewhere other (λ same. differs (same ∙ on ∙ drive_is)))

      torn_end : (t u m : Tale) → Blank t u → EndMoment one u m → CarriedOut calls v.host ask command v.state (refusing IoFault) unsure t m
      torn_end t u m (first, blank) then = record {
        carry = record {
          answered = λ known. came.faulted free refl (
            o,
            opened,
            all,
            inr (record {
              first = first_at;
              is = alone.first_placed shelf a b v ready well o opened mid has sole;
              failed = here;
              calm = λ other away. elsewhere other (λ same. away (subst (Contains (first_at.drive ∷ [])) (sym same) (contains_first first_at.drive [])));
              memory = refl;
              wiped = λ x dropped. blank_doing x (at_of sole.replica) u m (blank.all refl x dropped) (then.only sole) (last m) (last_image m);
              beside = beside t u m first.0 then;
            }),
          );
          carried = unended v.host sizes ready v.state o opened slices d.is t u (d.site t u first.0) first.0 before one has.answer.by first.1 first.2 m (on_site u m then) then unsure refl refl refl refl refl;
        };
        done = λ known on_it. absurd on_it;
        lost = λ known active listed is_so. absurd (cc (is_so));
        torn = λ known is_so p its goes. subst (λ (x : Opened). AreBlankWhereCalm calls (places_dropped g x KeepsFirst) m) (one_open v.state o p opened its)
            (λ x dropped never. blank_doing x (at_of sole.replica) u m (blank.all refl x dropped) (then.only sole));
      }

      pub undeleted : AtEachTale shelf (EndMoment one) b c → Out (refusing IoFault) (record v { state = unsure })
      undeleted moments = record {
        moments = both_moments moments;
        end = then_ends (EndMoment one) (CarriedOut calls v.host ask command v.state (refusing IoFault) unsure) torn_end (moments_end (EndMoment one) (shelf.tale b) (shelf.tale c) moments);
        answer = answered calls v o opened slices true (refusing IoFault) (record v { state = unsure }) fault_plain
            (o, opened, all, (first_at.drive, alone.drive_listed shelf a b v ready well o opened mid has sole, here), λ other out. elsewhere other (λ same. out (subst (Contains (drives_moved g o KeepsFirst)) (drive_is ∙ sym same) drive_moved)))
            (λ active listed is_so. absurd (cc (is_so))) refl (λ on_it. record { database = tt; entries = well.entries }) refl;
        counted = by_open (λ x. IsCommandCounted shelf a c v.host command (refusing IoFault) x None) (torn_counted shelf a b c o v.host held.half one None slices true all sole has.counted fault (sole, over) (fault, record { through = b; one = one; moved = has.answer.came; ended = (sole, over) }));
        kept = kept_so drive drive_moved calm_first over.kept;
      }

  -- so where it is over
  pub closed_out : (answer : Answer) (new : Engine) → HasClosed shelf b c mid one answer new → Out answer new
  closed_out answer new (gone moments is_so new_is done ends) = subst (λ (x : Answer). Out x new) (sym is_so) (subst (λ (e : Engine). Out accepted e) (sym same) (deleted done.0 done.1 moments ends)) where
    same : new ≡ record v { state = record v.state { opened = None } }
    same = new_is ∙ ap (λ (e : Engine). record e { state = record e.state { opened = None } }) has.is
  closed_out answer new (torn moments is_so new_is fault done) = subst (λ (x : Answer). Out x new) (sym is_so) (subst (λ (e : Engine). Out (refusing IoFault) e) (sym same) (undeleted done.0 fault done.1 moments)) where
    same : new ≡ record v { state = record v.state { opened = None; clean = false } }
    same = new_is ∙ ap (λ (e : Engine). record e { state = record e.state { opened = None; clean = false } }) has.is

-- with force, as it must be
pub deleted_out : {S : Type 0} (shelf : Ghosts S) (a b c : S) (v : Engine) (ready : IsReady v.host (shelf.sizes a)) (well : IsWell v.host v.state) (o : Opened) (opened : v.state.opened ≡ Some o) (slices : List SliceName) (force : Bool) → IsAllowed (case_at v) (DropPlaces slices force) → are_all o slices ≡ true
    → (mid : Engine) (has : HasChanged shelf a b v o KeepsFirst (Ok true) mid) (answer : Answer) (new : Engine) → HasClosed shelf b c mid has.now answer new → LosesPlaces shelf a c v slices force answer new
deleted_out shelf a b c v ready well o opened slices true free all mid has answer new over = closed_out shelf a b c v ready well o opened slices free all mid has answer new over
deleted_out shelf a b c v ready well o opened slices false free all mid has answer new over = absurd (false≢true (dropped_forced (case_at v) o opened slices false free all))
