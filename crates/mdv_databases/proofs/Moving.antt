-- A change of places among all databases.
use Rattle.std.proofs.Common.{◌≡◌, ◌⊎◌, inl, inr, Bool, List, [], Option, Some, Ok, Err, Contains, refl, ◌∙◌, ap, subst}
use Rattle.std.proofs.lemmas.Bool.{cases_Bool}
use Rattle.mdv_places.specs.Going.{IsMoving}
use Rattle.mdv_places.specs.Moments.{AreOfMove, AreTakenFrom, IsLogOf, MayGo, MoveEnds, MoveGoes, MoveMoment, RestMay}
use Rattle.mdv_places.specs.Asked.{Adds, Asks, Drops, KeepsFirst}
use Rattle.mdv_places.specs.declared.changing.PlacesFault.TheVariants as unmoved
use Rattle.mdv_standing.specs.Holding.{IsOneOf}
use Rattle.mdv_standing.specs.Others.{MayLose}
use Rattle.mdv_standing.specs.Rest.{IsRest, RestMayBeTaken, RestStands}
use Rattle.mdv_standing.specs.Tracing.{GoesTracedBy}
use Rattle.mdv_standing.proofs.Holding.{rest_of}
use Rattle.mdv_store.specs.Commit.{AnyLog, AnyWorld, IsCommittedTo}
use Rattle.mdv_databases.specs.Below.{Change, Core, Database, Geometry, Identity, IsReadyWith, Key, Log, Opened, SliceLine, Spells, Tale, asks_of, current_of, log_of, site_of, spots_of}
use Rattle.mdv_databases.specs.Creating.{MayBeTakenAt}
use Rattle.mdv_databases.specs.Going.{GoOnBy, IsCurrentOf}
use Rattle.mdv_databases.specs.Moving.{GetsMore, HasDropped, IsMoveIn, IsMovedIn, IsUnmovedIn, MayBeTakenOfOthers}
use Rattle.mdv_databases.specs.Standing.{IsFree, Stand}
use Rattle.mdv_databases.proofs.Creating.{keys}
use Rattle.mdv_databases.proofs.Ended.{lives_after_all}
use Rattle.mdv_databases.proofs.Going.{GoneBy, go_on, its_log, opens}
use Rattle.mdv_databases.proofs.Lists.{current_in, current_key, one_current}
use Rattle.mdv_databases.proofs.Loose.{over_loose}

-- What lies on a slice of other databases of the current one's key may be taken from them: each of them is over, and shows no table, or was deleted.
module _ (g : Geometry) (all : List Database) (key : Key) (identity : Identity) (t : Tale) (stand : Stand g all t) (its : IsCurrentOf all key identity) (line : SliceLine) where
  free_taken : (d : Database) → Contains all d → IsFree g d t → MayBeTakenAt g d line t
  free_taken d has (inl free) = inl free
  free_taken d has (inr over) = inr (over_loose g all t stand d line has over)

  same_taken : (d : Database) → IsRest all identity d → d.key ≡ key → MayBeTakenAt g d line t
  same_taken d rest same = elim (cases_Bool d.over) [
    | inl over ↦ free_taken d rest.0 (stand.over d rest.0 over)
    | inr going ↦
        let found = subst (λ (k : Key). current_of all k ≡ Some d) same (stand.current d rest.0 going) in
        absurd (rest.1 (ap (λ (x : Database). x.identity) (one_current key all d its.database found its.current) ∙ its.as_begun))
  ]

  pub rest_taken : MayBeTakenOfOthers g all key line t → RestMayBeTaken (Spells g) g all identity line t
  rest_taken others image is d rest = elim (keys d.key key) [
    | inl same ↦ inr (here (same_taken d rest same))
    | inr differ ↦ elim (others d rest.0 differ) [ inl out ↦ inl out | inr may ↦ inr (here may) ]
  ]
    where
      here : MayBeTakenAt g d line t → MayLose (Spells g) g d.key d.identity d.log image line
      here (inl free) = inl (free.0, free.1 image is)
      here (inr loose) = inr (loose image is)

current_one : (all : List Database) (key : Key) (identity : Identity) → IsCurrentOf all key identity → IsOneOf all key identity
current_one all key identity its = record {
  database = its.database;
  one_of = current_in key all its.database its.current;
  of_key = current_key key all its.database its.current;
  of_identity = its.as_begun;
}

rest_may : (g : Geometry) (all : List Database) (o : Opened) (asked : Asks) (t : Tale) → IsOneOf all o.key o.identity → RestStands (Spells g) g all o.identity t
    → ((line : SliceLine) → GetsMore asked line → RestMayBeTaken (Spells g) g all o.identity line t) → AreTakenFrom g all o asked t → RestMay g all o asked t
rest_may g all o (Adds lines count blocks) t one rest more less = record { one_of = one; rest = rest; taken = more; dropped = less }
rest_may g all o (Drops slices) t one rest more less = record { one_of = one; rest = rest; taken = tt; dropped = less }
rest_may g all o KeepsFirst t one rest more less = record { one_of = one; rest = rest; taken = tt; dropped = less }

module _ (g : Geometry) (all : List Database) (o : Opened) (asked : Asks) (change : Change) (t : Tale) (is : IsMoveIn g all o asked change t) where
  log_is : IsLogOf g o (log_of all o.key)
  log_is = record { is_log = its_log g all o.key o.identity t is.stand is.is_open.its; lives = is.is_open.lives; newest = is.is_open.newest }

  may : MayGo g o asked t
  may = record {
    opened = is.is_open.opened;
    stands = record { log = log_of all o.key; covers = is.is_open.ready; is = log_is };
    of_geometry = is.of_geometry;
    sites = is.sites;
    front = is.front;
  }

  taken : (line : SliceLine) → GetsMore asked line ⊎ HasDropped g o asked line → RestMayBeTaken (Spells g) g all o.identity line t
  taken line touched = rest_taken g all o.key o.identity t is.stand is.is_open.its line (is.others line touched)

  may_rest : RestMay g all o asked t
  may_rest =
      rest_may g all o asked t (current_one all o.key o.identity is.is_open.its) (rest_of (Spells g) g all t o.identity is.stand.worlds) (λ line more. taken line (inl more))
      (λ p line has on slice. taken line (inr (record { place = p; one_of = has; on = on; slice = slice })))

  module _ (changes : List (Option Change)) (Then : Core → Type 0) (After : Log → Type 0) (m : Tale) (moment : MoveMoment g o asked t m) (goes : MoveGoes g o asked changes Then After t m) where
    abbrev traced : GoesTracedBy (IsMoving asked) (Spells g) g (site_of g o.key) o.identity changes (IsReadyWith (spots_of o.seats)) (AreOfMove g o asked) Then After t m (log_of all o.key)
    traced = goes (log_of all o.key) is.is_open.ready log_is

    gone_on : GoneBy (IsMoving asked) g all o.key o.identity changes traced.es Then After m
    gone_on =
        go_on (IsMoving asked) g all o.key o.identity changes (IsReadyWith (spots_of o.seats)) (AreOfMove g o asked) Then After t m is.stand is.is_open.its is.is_open.ready (moment.rest all may may_rest) (moment.blank may) traced

  pub move_moment : (m : Tale) → MoveMoment g o asked t m → GoOnBy (IsMoving asked) g all o.key o.identity (asks_of (Some change)) AnyLog m
  move_moment m moment = (gone_on (asks_of (Some change)) AnyWorld AnyLog m moment (moment.goes change may is.made)).goes

  pub move_end : (new : Opened) (clean : Bool) (u : Tale) → MoveMoment g o asked t u → MoveEnds g o new asked (Ok clean) t u → new.key ≡ o.key → new.identity ≡ o.identity → IsMovedIn g all o new asked change u
  move_end new clean u moment ends keyed named =
      let done = ends may in
      let to = gone_on (asks_of (Some change)) (IsReadyWith (spots_of new.seats)) (IsCommittedTo g new (Some change)) u moment (done.1 change is.made) in
      let lives = lives_after_all (IsMoving asked) g (log_of all o.key) to.goes.es (λ never. never) is.is_open.lives to.goes.course to.goes.come.issues in
      record {
        goes = to.goes;
        is_open = opens (IsMoving asked) g all o.key o.identity (asks_of (Some change)) _ (IsCommittedTo g new (Some change)) new u to keyed named (λ log after. after.newest) lives done.0;
      }

  pub move_failed : (new : Opened) (u : Tale) → MoveMoment g o asked t u → MoveEnds g o new asked (Err unmoved.Failed) t u → IsUnmovedIn g all o asked u
  move_failed new u moment ends =
      let done = ends may in
      let to = gone_on [] (IsReadyWith (spots_of o.seats)) (IsLogOf g o) u moment done.1 in
      record {
        goes = to.goes;
        is_open = opens (IsMoving asked) g all o.key o.identity [] _ (IsLogOf g o) o u to refl refl (λ log after. after.newest) to.goes.after.lives done.0;
      }
