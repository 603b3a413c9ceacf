-- How a database with one place ends.
use Rattle.std.specs.Prelude.{◌≡◌, ℕ, List, [], ◌∷◌, Contains, Some, Result, Ok, Err}
use Rattle.mdv_acts.specs.Acts.{AreDoing, AreDone, Blanks, HaveGone, HaveStopped}
use Rattle.mdv_base.specs.declared.drive.Failed.{Failed}
use Rattle.mdv_look.specs.Quiet.{IsQuiet}
use Rattle.mdv_quorum.specs.declared.event.Event.TheVariants.{Wiped}
use Rattle.mdv_standing.specs.Matching.{IsDeleted}
use Rattle.mdv_standing.specs.Rest.{RestMayBeTaken}
use Rattle.mdv_standing.specs.Standing.{CoversWith}
use Rattle.mdv_standing.specs.Tracing.{GoesTracedBy}
use Rattle.mdv_store.specs.Blank.{StayBlank}
use Rattle.mdv_store.specs.Commit.{AnyWorld}
use Rattle.mdv_store.specs.Records.{Spells}
use Rattle.mdv_store_law.specs.Log.{Clearing, EndAlone, Ends, Event as LogEvent, Gone, Over}
use Rattle.mdv_places.specs.Moments.{IsFront, IsLogOf}
use Rattle.mdv_places.specs.Asked.{KeepsFirst}
use Rattle.mdv_places.specs.Below.{Core, Database, DriveNo, Event, Failures, Geometry, Ghosts, IsOpenedAt, IsReadyWith, Log, One, Opened, Place, Replica, RestStands, Spot, Tale, at_of, last_of, seats_area, site_of, spots_of}

-- The database has one place, and it is active.
pub record IsSole (o : Opened) : Type 0 where
  pub place : Place
  pub replica : Replica
  pub only : o.table.plan.lists ≡ One (place ∷ [])
  pub seats : o.seats ≡ (record { place = place; replica = Some replica }) ∷ []

-- its master was blanked, or a call failed
abbrev pub HasEnded : {S : Type 0} → Ghosts S → S → S → Opened → Result (Unit {0}) Failed → Type 0
HasEnded shelf from to o (Ok done) = (s : IsSole o) × HaveGone shelf from to (s.replica.line.at.drive ∷ []) (Blanks (at_of s.replica) ∷ [])
HasEnded shelf from to o (Err fault) = (s : IsSole o) × HaveStopped shelf from to (s.replica.line.at.drive ∷ []) (Blanks (at_of s.replica) ∷ [])

-- masters are blanked, and nothing else
abbrev pub AreWipes : List Event → Type 0
AreWipes es = (e : Event) → Contains es e → (q : Spot) × (e ≡ Wiped q)

-- the log goes on by these events, with nothing asked but that it ends, and its worlds by wipes
abbrev pub EndGoes : Geometry → Opened → List LogEvent → (Core → Type 0) → (Log → Type 0) → Tale → Tale → Type 0
EndGoes g o es Then After t m =
    (log : Log) → CoversWith (Spells g) (site_of g o.key) o.identity (λ image w. IsReadyWith (spots_of o.seats) w) log t → IsLogOf g o log
    → (to : GoesTracedBy EndAlone (Spells g) g (site_of g o.key) o.identity [] (IsReadyWith (spots_of o.seats)) AreWipes Then After t m log) × (to.es ≡ es)

-- What an end starts from: the database is open, and its place is the first of its slice, so that the slice shows nothing once its master is blank.
pub record MayEnd (g : Geometry) (o : Opened) (t : Tale) : Type 0 where
  pub opened : IsOpenedAt g o t
  pub front : IsFront KeepsFirst (last_of o.table.plan.lists)

-- The rest stands, and may be taken on the place's slice: what lies behind the place there isn't found any more.
pub record RestMayEnd (g : Geometry) (all : List Database) (o : Opened) (t : Tale) : Type 0 where
  pub rest : RestStands (Spells g) g all o.identity t
  pub taken : (s : IsSole o) → RestMayBeTaken (Spells g) g all o.identity s.replica.line t

-- By each moment nothing was told, and nothing done but at the place; the log goes on with nothing asked; all other databases stand; and those that show no table show none.
pub record EndMoment (o : Opened) (t m : Tale) : Type 0 where
  pub quiet : IsQuiet (seats_area o.seats) t m
  pub only : (s : IsSole o) → AreDoing (Blanks (at_of s.replica) ∷ []) t m
  pub goes : (g : Geometry) → MayEnd g o t → EndGoes g o (Clearing ∷ []) AnyWorld (λ log. log.fate ≡ Ends) t m
  pub rest : (g : Geometry) (all : List Database) → MayEnd g o t → RestMayEnd g all o t → RestStands (Spells g) g all o.identity m
  pub blank : (g : Geometry) → MayEnd g o t → StayBlank g o.identity t m

-- In the end the database is gone.
pub record EndEnds (o : Opened) (t u : Tale) : Type 0 where
  pub gone : (g : Geometry) → MayEnd g o t → EndGoes g o (Clearing ∷ Gone ∷ []) IsDeleted (λ log. log.fate ≡ Over) t u
  pub only : (s : IsSole o) → AreDone (Blanks (at_of s.replica) ∷ []) t u

-- A call failed on the place's drive, and none on any other.
pub record HasFailedThere (calls : ℕ → Failures) (o : Opened) : Type 0 where
  pub sole : IsSole o
  pub here : (calls sole.replica.line.at.drive.0).some
  pub elsewhere : (other : DriveNo) → (other ≡ sole.replica.line.at.drive → ⊥) → (calls other.0).none

-- What came of it, by how the calls on each drive came out: none failed, or that.
abbrev pub IsEndedBy : (ℕ → Failures) → Opened → Result (Unit {0}) Failed → Type 0
IsEndedBy calls o (Ok done) = (drive : ℕ) → (calls drive).none
IsEndedBy calls o (Err fault) = HasFailedThere calls o
