-- Places of the open database go, put together: what it comes to, its answer and its calls; where all go, as far as the first place alone is left.
use Rattle.std.proofs.Common.{◌≡◌, inl, inr, ◌≤◌, ℕ, Bool, true, false, if◌then◌else◌, List, [], ◌∷◌, ◌++◌, length, length-append, Contains, Option, Some, None, Result, Ok, Err, ap, arith, refl, subst, sym, ◌∙◌}
use Rattle.std.specs.Bool.{MatchBool}
use Rattle.std.specs.Prelude.{IfSome}
use Rattle.mdv_base.specs.Order.{first_refusal}
use Rattle.mdv_base.specs.declared.refusal.Refusal.TheVariants.{NoDatabase}
use Rattle.mdv_places.specs.Asked.{Asks, Drops, KeepsFirst, change_of, drives_added, dropped, list_after, lists_after, seats_added}
use Rattle.mdv_places.specs.Changing.{HasFailedOn, drives_moved, drives_under}
use Rattle.mdv_places.specs.Moments.{MoveMoment, places_dropped}
use Rattle.mdv_places.specs.declared.changing.PlacesFault.{PlacesFault}
use Rattle.mdv_places.specs.declared.changing.PlacesFault.TheVariants as unmoved
use Rattle.mdv_places.proofs.Dropping.{dropped_one}
use Rattle.mdv_shelf.proofs.Among.{among_none}
use Rattle.mdv_shelf.proofs.Moments.{some_is}
use Rattle.mdv_shelf.specs.Drives.{KeptAmong}
use Rattle.mdv_shelf.specs.Shelves.{DriveFailures}
use Rattle.mdv_shelf.specs.declared.shelf.Shelf.{Ghosts}
use Rattle.mdv_store.specs.Listing.{MayNotList}
use Rattle.mdv_store.specs.declared.store.CommitFault.TheVariants as unwritten
use Rattle.mdv_store_law.specs.Changes.{Change, FirstPlace}
use Rattle.mdv_store_law.specs.Changes as changes
use Rattle.mdv_volumes.proofs.Lists.{contains_behind, contains_first}
use Rattle.mdv_engine_law.specs.Answers.{IsSaid, accepted, refusing}
use Rattle.mdv_engine_law.specs.Below.{Deleted, Place}
use Rattle.mdv_engine_law.specs.Commands as came
use Rattle.mdv_engine_law.specs.Commands.{blame_of}
use Rattle.mdv_engine_law.specs.Line.{AreCalmBeside, Ask, ToDrop, deeds}
use Rattle.mdv_engine_law.specs.Moves.{HasMovedOn, IsDeletedOn, IsLostChange, LeavesLists, drop_of, places_under}
use Rattle.mdv_engine_law.specs.Places.{are_all, bytes_with, list_of, room_with}
use Rattle.mdv_engine_law.specs.Refusals.{held_of_drop, refusal_of}
use Rattle.mdv_engine_law.specs.Replies.{AcksAnswer, HasAnswerCause}
use Rattle.mdv_engine_law.specs.Standing.{AreBlankAt, AreBlankWhereCalm, LeavesBlank, WritesOnly}
use Rattle.mdv_engine_law.specs.declared.answer.Answer.TheVariants.{Over}
use Rattle.mdv_engine_law.specs.declared.answer.Ended.TheVariants as ended
use Rattle.mdv_engine_law.specs.declared.answer.Outcome.TheVariants as outcome
use Rattle.mdv_engine_law.proofs.Allowed.{dropped_forced}
use Rattle.mdv_engine_law.proofs.Moving.{IsMoveOf, move_of}
use Rattle.mdv_engine_law.proofs.Plain.{fault_plain, memory_plain, refusal_plain}
use Rattle.mdv_engine_law.proofs.Reaching.{drops_writes, first_writes, moved_site}
use Rattle.mdv_engine_law.proofs.Refusing.{refused_still}
use Rattle.mdv_engine.specs.Below.{AreCalm, Answer, Changed, Command, DriveNo, DropPlaces, Geometry, IoFault, IsAllowed, IsPlainAnswer, IsReady, KeptOutside, Knows, OnDrive, Opened, OutOfMemory, Outcomes, Refusal, Replica, Seat, SliceName, Tale, kept_at, key_of, replicas_of, seats_area, site_area, slice_at}
use Rattle.mdv_engine.specs.Counts.{IsCommandCounted}
use Rattle.mdv_engine.specs.Ends.{HasAnswered, KeptAsAsked, LeavesBoth, LeavesMade, LosesPlaces, WasCarriedOut, drives_less}
use Rattle.mdv_engine.specs.Engine.{IsHeldBy, IsLostOnSite, IsWell, LiesOn, case_at}
use Rattle.mdv_engine.specs.Moving.{AreToGo, HasChanged, IsAnswerOf, IsFaultOf}
use Rattle.mdv_engine.specs.declared.engine.Engine.{Engine}
use Rattle.mdv_engine.proofs.Blocks.{moments_still, refused_carried}
use Rattle.mdv_engine.proofs.Committing.{seats_on, with_open}
use Rattle.mdv_engine.proofs.Counted.{drop_faulted, drops_counted, half_counted}
use Rattle.mdv_engine.proofs.Counting.{refused_counted}
use Rattle.mdv_engine.proofs.Creating.{calm_beside}
use Rattle.mdv_engine.proofs.Ending.{command_ends, one_open, refused_answer}
use Rattle.mdv_engine.proofs.Judged.{IsJudged, drop_judged, judged_mere, judged_said}
use Rattle.mdv_engine.proofs.Lying.{drive_on, found_in, found_of}
use Rattle.mdv_engine.proofs.Makes.{moved as numbers}
use Rattle.mdv_engine.proofs.May as may
use Rattle.mdv_engine.proofs.Moved as moved
use Rattle.mdv_engine.proofs.Moves.{lost_on_site}

-- so a command is answered that opens no other database
pub answered : (calls : Outcomes) (v : Engine) (o : Opened) → v.state.opened ≡ Some o → (slices : List SliceName) (force : Bool) (answer : Answer) (new : Engine) → IsPlainAnswer answer → HasAnswerCause (blame_of calls v.host v.state (DropPlaces slices force)) (Unit {0}) answer
    → ((active listed : ℕ) → answer ≡ Over (ended.Lost active listed) → IsLostOnSite calls v.host active listed) → new.host ≡ v.host → (IsSaid answer → IsWell v.host new.state) → new.state.begun ≡ v.state.begun → HasAnswered calls (DropPlaces slices force) v answer new
answered calls v o opened slices force answer new plain cause lost host still begun = record {
  plain = plain;
  cause = cause;
  lost = lost;
  free = λ on has closed. absurd (cc (opened, closed));
  few = inr tt;
  host = host;
  well = still;
  begun = omega (arith, begun);
}

-- which masters are blank, told of whichever database is open
pub blank_of : (calls : Outcomes) (v : Engine) (o : Opened) → v.state.opened ≡ Some o → (slices : List SliceName) (u : Tale)
    → MatchBool (are_all o slices) (AreBlankAt (places_under v.host.drives (list_of o)) u) (AreBlankWhereCalm calls (places_dropped v.host.drives o (Drops slices)) u) → LeavesBlank calls v.host v.state slices u
blank_of calls v o opened slices u blank p is =
    subst (λ (x : Opened). MatchBool (are_all x slices) (AreBlankAt (places_under v.host.drives (list_of x)) u) (AreBlankWhereCalm calls (places_dropped v.host.drives x (Drops slices)) u)) (one_open v.state o p opened is) blank

-- A line is refused, and nothing is done.
pub refused_out : {S : Type 0} (shelf : Ghosts S) (a : S) (v : Engine) → IsWell v.host v.state → (slices : List SliceName) (force : Bool) (r : Refusal) → refusal_of (case_at v) (DropPlaces slices force) ≡ Some r → LosesPlaces shelf a a v slices force (refusing r) v
refused_out {S} shelf a v well slices force r is = record {
  moments = moments_still v.host (ToDrop (key_of v.host) slices force) v.state (shelf.tale a) (shelf.tale a) refl;
  end = command_ends (DriveFailures shelf a a) v (ToDrop (key_of v.host) slices force) (DropPlaces slices force) (outcome.Refused r) v (shelf.tale a) (shelf.tale a)
      (λ t start. (t, start, λ known. came.refused (λ drive. refl) r is (refl, record { memory = refl; content = λ drive block. refl })))
      (refused_carried v.host (ToDrop (key_of v.host) slices force) v.state (shelf.tale a) (shelf.tale a) refl r) (λ on u. absurd on) (λ is u. absurd (let fault : r ≡ IoFault = cc (is) in subst IsJudged fault judged));
  answer = refused_answer (DriveFailures shelf a a) (DropPlaces slices force) v well r (judged_said (blame_of (DriveFailures shelf a a) v.host v.state (DropPlaces slices force)) (Unit {0}) r judged (λ drive. refl))
      (refusal_plain (case_at v) (DropPlaces slices force) r is) (inl (judged_mere r judged));
  counted = refused_counted shelf a a v.host (DropPlaces slices force) r v.state.opened v.state.opened (λ fault. absurd (subst IsJudged fault judged)) refl;
  kept = among_none shelf a (drives_less v.host v.state.opened slices);
} where
  judged : IsJudged r
  judged = drop_judged (case_at v) slices force r is

-- where nothing refuses it a database is open, and its places may all go or not
pub opened_of : (v : Engine) (slices : List SliceName) (force : Bool) → IsAllowed (case_at v) (DropPlaces slices force) → (o : Opened) × (v.state.opened ≡ Some o)
opened_of v slices force free = by v.state.opened refl free where
  none_open : ◌≡◌ {A = Option Refusal} (Some NoDatabase) None → ⊥
  none_open same = cc (same)

  by : (x : Option Opened) → v.state.opened ≡ x → first_refusal (held_of_drop (case_at v) x slices force) ≡ None → (o : Opened) × (v.state.opened ≡ Some o)
  by None is none = absurd (none_open none)
  by (Some o) is none = (o, is)

pub to_go : (v : Engine) (slices : List SliceName) (force : Bool) → IsAllowed (case_at v) (DropPlaces slices force) → (all : Bool) → IfSome v.state.opened (λ o. all ≡ are_all o slices) → AreToGo v.state slices all
to_go v slices force free all is =
    let o = opened_of v slices force free in
    (o.0, o.1, sym (subst (λ (x : Option Opened). IfSome x (λ p. all ≡ are_all p slices)) o.1 is))

module _ {S : Type 0} (shelf : Ghosts S) (a b : S) (v : Engine) (ready : IsReady v.host (shelf.sizes a)) (well : IsWell v.host v.state) (o : Opened) (opened : v.state.opened ≡ Some o) (slices : List SliceName) (force : Bool) (free : IsAllowed (case_at v) (DropPlaces slices force)) where
  abbrev g : Geometry
  g = v.host.drives

  abbrev calls : Outcomes
  calls = DriveFailures shelf a b

  abbrev sizes : List ℕ
  sizes = shelf.sizes a

  abbrev command : Command
  command = DropPlaces slices force

  abbrev ask : Ask
  ask = ToDrop (key_of v.host) slices force

  abbrev after : Opened → Engine
  after now = record v { state = with_open v.state now }

  abbrev Out : Answer → Engine → Type 0
  Out answer new = WasCarriedOut shelf a b ask command v answer new

  held : IsHeldBy v.host o
  held = may.held v.host sizes ready v.state well o opened

  seated : (drive block : ℕ) → site_area v.host.site drive block ≡ false → seats_area o.seats drive block ≡ false
  seated = seats_on v.host o held

  -- told of what is open
  by_open : (P : Option Opened → Type 0) → P (Some o) → P v.state.opened
  by_open P it = subst P (sym opened) it

  -- A change by which places go, and which the line may ask.
  pub record IsDrop (asked : Asks) (change : Change) : Type 0 where
    pub is : IsMoveOf v.host o asked change
    pub one_of : Contains (deeds ask) (Changed (key_of v.host) change)
    pub site : (t m : Tale) → MoveMoment g o asked t m → KeptOutside (site_area v.host.site) t m
    pub writes : (t m : Tale) → KeptOutside (site_area v.host.site) t m → MoveMoment g o asked t m → WritesOnly v.host ask v.state t m
    pub adds : seats_added o asked ≡ []
    pub formats : drives_added asked ≡ []
    pub drop : drop_of o slices ≡ asked
    pub room : bytes_with o (list_after asked (list_of o)) ≤ room_with o (list_after asked (list_of o))

  pub drops : are_all o slices ≡ false → IsDrop (Drops slices) (change_of (Drops slices))
  drops left =
      let fits = may.drop_fits v.host sizes ready v.state well o opened slices force free left in
      record {
        is = move_of v.host o (Drops slices) fits tt tt;
        one_of = contains_first (Changed (key_of v.host) (change_of (Drops slices))) (if force then Changed (key_of v.host) FirstPlace ∷ Deleted (key_of v.host) ∷ [] else []);
        site = moved_site v.host sizes ready o (Drops slices) fits seated tt;
        writes = λ t m kept moment. drops_writes v.host v.state o opened t m kept (key_of v.host) slices force moment;
        adds = refl;
        formats = refl;
        drop = ap (λ (all : Bool). if all then KeepsFirst else Drops slices) left;
        room = may.drop_room v.host sizes ready v.state well o opened slices force free left;
      }

  pub first_alone : are_all o slices ≡ true → IsDrop KeepsFirst FirstPlace
  first_alone all =
      let fits = may.keep_fits v.host sizes ready v.state well o opened slices force free all in
      record {
        is = move_of v.host o KeepsFirst fits tt (may.keep_front v.host sizes ready v.state well o opened slices force free all);
        one_of = subst (λ (f : Bool). Contains (deeds (ToDrop (key_of v.host) slices f)) (Changed (key_of v.host) FirstPlace)) (sym (dropped_forced (case_at v) o opened slices force free all))
            (contains_behind (Changed (key_of v.host) (changes.DropPlaces slices)) (Changed (key_of v.host) FirstPlace) (Changed (key_of v.host) FirstPlace ∷ Deleted (key_of v.host) ∷ []) (contains_first (Changed (key_of v.host) FirstPlace) (Deleted (key_of v.host) ∷ [])));
        site = moved_site v.host sizes ready o KeepsFirst fits seated tt;
        writes = λ t m kept moment. first_writes v.host v.state o opened t m kept (key_of v.host) slices force all moment;
        adds = refl;
        formats = refl;
        drop = ap (λ (every : Bool). if every then KeepsFirst else Drops slices) all;
        room = may.keep_room v.host sizes ready v.state well o opened slices force free all;
      }

  module _ (asked : Asks) (change : Change) (d : IsDrop asked change) where
    no_place : (r : Replica) → Contains (replicas_of (seats_added o asked)) r → LiesOn v.host.site r
    no_place r has = absurd (let none = subst (λ (l : List Seat). Contains (replicas_of l) r) d.adds has in omega (arith, none.1))

    no_format : (drive : DriveNo) → Contains (drives_added asked) drive → ⊥
    no_format drive has = (let none = subst (λ (l : List DriveNo). Contains l drive) d.formats has in omega (arith, none.1))

    few : length (o.seats ++ seats_added o asked) ≤ 50
    few = (let both = length-append o.seats (seats_added o asked) in let none = ap (λ (l : List Seat). length l) d.adds in let most = held.few in omega (arith, both, none, most))

    kept_so : KeptAmong shelf a b (drives_moved g o asked) → KeptAsAsked shelf a b v.host v.state command
    kept_so kept = by_open (λ x. KeptAmong shelf a b (drives_less v.host x slices)) (subst (λ (m : Asks). KeptAmong shelf a b (drives_moved g o m)) (sym d.drop) kept)

    as_it_was : (answer : Answer) (now : Opened) → now ≡ o → Out answer v → Out answer (after now)
    as_it_was answer now same out = subst (λ (e : Engine). Out answer e) (sym (moved.as_before shelf a b v ready well o opened held asked change d.is now same)) out

    long : {fault : _} → MayNotList o (lists_after asked o.table.plan.lists) (unwritten.TooLong fault) → ⊥
    long {fault} why = moved.never_long shelf a b v ready well o opened held asked change d.is (list_after asked (list_of o)) refl d.room 0 0 fault why

    still : (clean : Bool) (new : Engine) (has : HasChanged shelf a b v o asked (Ok clean) new) → IsWell v.host (with_open v.state has.now)
    still clean new has = moved.still_well shelf a b v ready well o opened held asked change d.is clean new has no_place few

    -- too few took one of the records
    lost : (active listed : ℕ) (new : Engine) (has : HasChanged shelf a b v o asked (Err (unmoved.Lost active listed)) new) → IsCommandCounted shelf a b v.host command (Over (ended.Lost active listed)) (Some o) (Some has.now) → Out (Over (ended.Lost active listed)) (after has.now)
    lost active listed new has counted = record {
      moments = moved.carry_moments shelf a b v ready well o opened held asked change d.is ask d.one_of d.site d.writes has.moments;
      end = λ t start.
          let end = moved.all_ends shelf a b v ready well o opened held asked change d.is (Err (unmoved.Lost active listed)) new has t start in
          let u = end.0 in
          let shown = λ (known : Knows v.host v.state t). moved.shows_then shelf a b v ready well o opened held asked change d.is has.now (Err (unmoved.Lost active listed)) t u end.2.2 known in (
            u,
            end.1,
            record {
              carry = record {
                answered = λ known. came.over (ended.Lost active listed) free refl (
                  o,
                  opened,
                  subst (λ (m : Asks). LeavesLists calls v.host o m active listed (kept_at v.state t) (kept_at (with_open v.state has.now) u)) (sym d.drop)
                      (moved.leaves_lists shelf a b v ready well o opened held asked change d.is active listed new has t u end.2.0 (shown known) (with_open v.state has.now)),
                );
                carried = moved.carried_lost shelf a b v ready well o opened held asked change d.is ask d.one_of d.site d.writes active listed (with_open v.state has.now) t u end.2.0;
              };
              done = λ known on. absurd on;
              lost = λ known one two is. numbers (λ x y. LeavesMade calls v.host v.state command x y u) active listed one two is (
                o,
                opened,
                subst (λ (m : Asks). LeavesBoth calls v.host o m active listed u) (sym d.drop)
                    (moved.leaves_both shelf a b v ready well o opened held asked change d.is active listed new has t u (shown known)),
              );
              torn = λ known is. absurd (cc (is));
            },
          );
      answer = answered calls v o opened slices force (Over (ended.Lost active listed)) (after has.now) tt (o, opened, subst (λ (m : Asks). IsLostChange calls g o m active listed) (sym d.drop) lost_so)
          (λ one two is. numbers (λ x y. IsLostOnSite calls v.host x y) active listed one two is (lost_on_site shelf a b v ready well o opened asked no_place active listed lost_so)) refl (λ on. absurd on) refl;
      counted = by_open (λ x. IsCommandCounted shelf a b v.host command (Over (ended.Lost active listed)) x (Some has.now)) counted;
      kept = kept_so has.kept;
    } where
      lost_so : IsLostChange calls g o asked active listed
      lost_so = moved.lost shelf a b v ready well o opened held asked change d.is active listed new has

    -- the number is spent
    spent : (new : Engine) (has : HasChanged shelf a b v o asked (Err unmoved.Spent) new) → Out (Over ended.Spent) (after has.now)
    spent new has = record {
      moments = moved.carry_moments shelf a b v ready well o opened held asked change d.is ask d.one_of d.site d.writes has.moments;
      end = λ t start.
          let end = moved.all_ends shelf a b v ready well o opened held asked change d.is (Err unmoved.Spent) new has t start in
          let u = end.0 in
          let same : u ≡ t = some_is (shelf.tale b) u t end.1 (ap shelf.tale has.counted ∙ start) in (
            u,
            end.1,
            record {
              carry = record {
                answered = λ known. came.over ended.Spent free refl (o, opened, moved.spent shelf a b v ready well o opened held asked change d.is new has t u same);
                carried = moved.carried_spent shelf a b v ready well o opened held asked change d.is ask d.one_of d.site d.writes (with_open v.state has.now) t u same;
              };
              done = λ known on. absurd on;
              lost = λ known active listed is. absurd (cc (is));
              torn = λ known is. absurd (cc (is));
            },
          );
      answer = answered calls v o opened slices force (Over ended.Spent) (after has.now) tt (has.answer.by.0.1, tt) (λ active listed is. absurd (cc (is))) refl (λ on. absurd on) refl;
      counted = by_open (λ x. IsCommandCounted shelf a b v.host command (Over ended.Spent) x (Some has.now)) has.counted;
      kept = kept_so has.kept;
    }

  -- Some are left.
  module _ (left : are_all o slices ≡ false) where
    abbrev dropping : Asks
    dropping = Drops slices

    d : IsDrop dropping (change_of dropping)
    d = drops left

    -- told of what is left
    by_left : (P : Bool → Type 0) → P false → P (are_all o slices)
    by_left P it = subst P (sym left) it

    done : (clean : Bool) (new : Engine) (has : HasChanged shelf a b v o dropping (Ok clean) new) → Out accepted (after has.now)
    done clean new has = record {
      moments = moved.carry_moments shelf a b v ready well o opened held dropping (change_of dropping) d.is ask d.one_of d.site d.writes has.moments;
      end = λ t start.
          let end = moved.blank_ends shelf a b v ready well o opened held dropping (change_of dropping) d.is clean new has t start in
          let u = end.0 in
          let all = end.2.0 in
          let shown = λ (known : Knows v.host v.state t). moved.shows_then shelf a b v ready well o opened held dropping (change_of dropping) d.is has.now (Ok clean) t u all.2 known in (
            u,
            end.1,
            record {
              carry = record {
                answered = λ known. came.done free (
                  refl,
                  o,
                  opened,
                  by_left (λ every. MatchBool every (IsDeletedOn calls v.host o (kept_at v.state t) (kept_at (with_open v.state has.now) u)) (HasMovedOn calls v.host o dropping (kept_at v.state t) (kept_at (with_open v.state has.now) u)))
                      (clean, moved.moved_on shelf a b v ready well o opened held dropping (change_of dropping) d.is clean new has t u all.0 (shown known) end.2.1),
                );
                carried = moved.carried_moved shelf a b v ready well o opened held dropping (change_of dropping) d.is ask d.one_of d.site d.writes clean new has told t u all;
              };
              done = λ known on. blank_of calls v o opened slices u (by_left (λ every. MatchBool every (AreBlankAt (places_under g (list_of o)) u) (AreBlankWhereCalm calls (places_dropped g o dropping) u)) end.2.1.each);
              lost = λ known active listed is. absurd (cc (is));
              torn = λ known is. absurd (cc (is));
            },
          );
      answer = answered calls v o opened slices force accepted (after has.now) tt (o, opened, by_left (λ every. MatchBool every (AreCalm calls) (AreCalmBeside (drives_moved g o dropping) calls)) (calm_beside shelf a b (drives_moved g o dropping) has.kept))
          (λ active listed is. absurd (cc (is))) refl (λ on. still dropping (change_of dropping) d clean new has) refl;
      counted = by_open (λ x. IsCommandCounted shelf a b v.host command accepted x (Some has.now)) (drops_counted shelf a b o v.host held.half has.now (Some has.now) slices force left (Ok clean) has.answer.by has.counted has.answer.came (λ c is. refl) accepted refl);
      kept = kept_so dropping (change_of dropping) d has.kept;
    } where
      told : AcksAnswer ask accepted (Changed (key_of v.host) (change_of dropping) ∷ [])
      told = (Changed (key_of v.host) (change_of dropping), contains_first (Changed (key_of v.host) (change_of dropping)) (if force then Deleted (key_of v.host) ∷ [] else []), refl)

    -- memory was wanting
    wanting : (new : Engine) (has : HasChanged shelf a b v o dropping (Err unmoved.Memory) new) → Out (refusing OutOfMemory) v
    wanting new has = record {
      moments = moments_still v.host ask v.state (shelf.tale a) (shelf.tale b) (ap shelf.tale has.counted);
      end = λ t start. (
        t,
        ap shelf.tale has.counted ∙ start,
        record {
          carry = record {
            answered = λ known. came.wanting calm refl (free, o, opened, left, record { memory = refl; content = λ drive block. refl });
            carried = refused_still v.host ask v.state v.state t refl refl refl refl (omega arith) OutOfMemory;
          };
          done = λ known on. absurd on;
          lost = λ known active listed is. absurd (cc (is));
          torn = λ known is. absurd (cc (is));
        },
      );
      answer = answered calls v o opened slices force (refusing OutOfMemory) v memory_plain calm (λ active listed is. absurd (cc (is))) refl (λ on. well) refl;
      counted = by_open (λ x. IsCommandCounted shelf a b v.host command (refusing OutOfMemory) x v.state.opened) (drops_counted shelf a b o v.host held.half has.now v.state.opened slices force left (Err unmoved.Memory) has.answer.by has.counted has.answer.came (λ c is. absurd (cc (is))) (refusing OutOfMemory) refl);
      kept = kept_so dropping (change_of dropping) d (subst (λ (x : S). KeptAmong shelf a x (drives_moved g o dropping)) (sym has.counted) (among_none shelf a (drives_moved g o dropping)));
    } where
      calm : (drive : ℕ) → (calls drive).none
      calm drive = ap (λ (x : S). shelf.faults x (OnDrive drive)) has.counted

    by_came : (what : Result Bool PlacesFault) (new : Engine) (has : HasChanged shelf a b v o dropping what new) (answer : Answer) → IsAnswerOf what answer → Out answer (after has.now)
    by_came (Ok clean) new has answer is = subst (λ (x : Answer). Out x (after has.now)) (sym is) (done clean new has)
    by_came (Err unmoved.Failed) new has answer is = absurd (no_format dropping (change_of dropping) d has.answer.by.0.drive has.answer.by.0.one_of)
    by_came (Err (unmoved.TooLong fault)) new has answer is = absurd (long dropping (change_of dropping) d has.answer.by.1)
    by_came (Err (unmoved.Lost active listed)) new has answer is = subst (λ (x : Answer). Out x (after has.now)) (sym is)
        (lost dropping (change_of dropping) d active listed new has (drops_counted shelf a b o v.host held.half has.now (Some has.now) slices force left (Err (unmoved.Lost active listed)) has.answer.by has.counted has.answer.came (λ c is. absurd (cc (is))) (Over (ended.Lost active listed)) refl))
    by_came (Err unmoved.Spent) new has answer is = subst (λ (x : Answer). Out x (after has.now)) (sym is) (spent dropping (change_of dropping) d new has)
    by_came (Err unmoved.Memory) new has answer is = subst (λ (x : Answer). Out x (after has.now)) (sym is) (as_it_was dropping (change_of dropping) d (refusing OutOfMemory) has.now has.answer.by.0.0 (wanting new has))

    pub dropped_out : (what : Result Bool PlacesFault) (new : Engine) → HasChanged shelf a b v o dropping what new → (answer : Answer) → IsAnswerOf what answer → Out answer new
    dropped_out what new has answer is = subst (λ (e : Engine). Out answer e) (sym has.is) (by_came what new has answer is)

  -- All go, and the change to the first place alone isn't done, or a wipe failed.
  module _ (all : are_all o slices ≡ true) where
    first : IsDrop KeepsFirst FirstPlace
    first = first_alone all

    faulted : (fault : PlacesFault) (new : Engine) (has : HasChanged shelf a b v o KeepsFirst (Err fault) new) (answer : Answer) → IsFaultOf fault answer → Out answer (after has.now)
    faulted unmoved.Failed new has answer is = absurd (no_format KeepsFirst FirstPlace first has.answer.by.0.drive has.answer.by.0.one_of)
    faulted (unmoved.TooLong fault) new has answer is = absurd (long KeepsFirst FirstPlace first has.answer.by.1)
    faulted (unmoved.Lost active listed) new has answer is = subst (λ (x : Answer). Out x (after has.now)) (sym is)
        (lost KeepsFirst FirstPlace first active listed new has (drop_faulted shelf a b o v.host held.half has.now (Some has.now) slices force true all (unmoved.Lost active listed) has.answer.by has.counted has.answer.came (Over (ended.Lost active listed)) refl))
    faulted unmoved.Spent new has answer is = subst (λ (x : Answer). Out x (after has.now)) (sym is) (spent KeepsFirst FirstPlace first new has)
    faulted unmoved.Memory new has answer is = absurd (has.answer.by.2 refl)

    pub faulted_out : (fault : PlacesFault) (new : Engine) → HasChanged shelf a b v o KeepsFirst (Err fault) new → (answer : Answer) → IsFaultOf fault answer → Out answer new
    faulted_out fault new has answer is = subst (λ (e : Engine). Out answer e) (sym has.is) (faulted fault new has answer is)

    -- a call failed on the drive of one of its places
    failed_there : HasFailedOn (drives_under g (dropped KeepsFirst (list_of o))) calls → HasFailedOn (drives_under g (list_of o)) calls
    failed_there (drive, has, some) =
        let one = found_in (λ (p : Place). drive_on (slice_at g.slices p.slice)) (dropped KeepsFirst (list_of o)) drive has in
        (drive, found_of (λ (p : Place). drive_on (slice_at g.slices p.slice)) (list_of o) one.0 drive (dropped_one KeepsFirst (list_of o) one.0 one.1) one.2, some)

    half : (new : Engine) (has : HasChanged shelf a b v o KeepsFirst (Ok false) new) → Out (refusing IoFault) (after has.now)
    half new has = record {
      moments = moved.carry_moments shelf a b v ready well o opened held KeepsFirst FirstPlace first.is ask first.one_of first.site first.writes has.moments;
      end = λ t start.
          let end = moved.blank_ends shelf a b v ready well o opened held KeepsFirst FirstPlace first.is false new has t start in
          let u = end.0 in
          let every = end.2.0 in
          let shown = λ (known : Knows v.host v.state t). moved.shows_then shelf a b v ready well o opened held KeepsFirst FirstPlace first.is has.now (Ok false) t u every.2 known in (
            u,
            end.1,
            record {
              carry = record {
                answered = λ known. came.faulted free refl (o, opened, all, inl (moved.moved_on shelf a b v ready well o opened held KeepsFirst FirstPlace first.is false new has t u every.0 (shown known) end.2.1));
                carried = moved.carried_half shelf a b v ready well o opened held KeepsFirst FirstPlace first.is ask first.one_of first.site first.writes false new has t u every;
              };
              done = λ known on. absurd on;
              lost = λ known active listed is. absurd (cc (is));
              torn = λ known is p its goes. subst (λ (x : Opened). AreBlankWhereCalm calls (places_dropped g x KeepsFirst) u) (one_open v.state o p opened its) end.2.1.each;
            },
          );
      answer = answered calls v o opened slices force (refusing IoFault) (after has.now) fault_plain (o, opened, all, failed_there has.answer.by.told, calm_beside shelf a b (drives_moved g o KeepsFirst) has.kept)
          (λ active listed is. absurd (cc (is))) refl (λ on. still KeepsFirst FirstPlace first false new has) refl;
      counted = by_open (λ x. IsCommandCounted shelf a b v.host command (refusing IoFault) x (Some has.now)) (half_counted shelf a b o v.host held.half has.now (Some has.now) slices force all false (has.answer.sole refl) has.counted has.answer.came);
      kept = kept_so KeepsFirst FirstPlace first has.kept;
    }

    pub half_out : (new : Engine) → HasChanged shelf a b v o KeepsFirst (Ok false) new → Out (refusing IoFault) new
    half_out new has = subst (λ (e : Engine). Out (refusing IoFault) e) (sym has.is) (half new has)
