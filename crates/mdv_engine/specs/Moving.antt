-- What is answered to a change of places, and to the end of a database.
use Rattle.std.specs.Prelude.{◌≡◌, Bool, false, List, Some, None, Result, Ok, Err}
use Rattle.mdv_base.specs.declared.drive.Failed.{Failed}
use Rattle.mdv_places.specs.Answer.{MoveAnswer}
use Rattle.mdv_places.specs.Asked.{Asks}
use Rattle.mdv_places.specs.Changing.{drives_moved}
use Rattle.mdv_places.specs.Counts.{IsMoveCounted}
use Rattle.mdv_places.specs.Ending.{EndEnds, EndMoment, HasEnded}
use Rattle.mdv_places.specs.Moments.{MoveEnds, MoveMoment}
use Rattle.mdv_shelf.specs.Drives.{KeptAmong}
use Rattle.mdv_shelf.specs.Shelves.{AtEachTale, AtEnd}
use Rattle.mdv_places.specs.declared.changing.PlacesFault.{PlacesFault}
use Rattle.mdv_places.specs.declared.changing.PlacesFault.TheVariants as unmoved
use Rattle.mdv_shelf.specs.declared.shelf.Shelf.{Ghosts}
use Rattle.mdv_engine_law.specs.Answers.{accepted, refusing}
use Rattle.mdv_engine_law.specs.Places.{are_all}
use Rattle.mdv_engine_law.specs.declared.answer.Answer.TheVariants.{Over}
use Rattle.mdv_engine_law.specs.declared.answer.Ended.TheVariants as ended
use Rattle.mdv_engine.specs.Below.{Answer, IoFault, Memory, Opened, OutOfMemory, ReplicaFull, SliceName}
use Rattle.mdv_engine.specs.declared.engine.Engine.{Engine}

-- a database is open, of which that is so
abbrev pub OpenHas : Memory → (Opened → Type 0) → Type 0
OpenHas memory Is = (o : Opened) × (memory.opened ≡ Some o) × Is o

-- whether all its places lie on these slices
abbrev pub AreToGo : Memory → List SliceName → Bool → Type 0
AreToGo memory slices all = OpenHas memory (λ o. are_all o slices ≡ all)

-- what is answered where its places don't change
abbrev pub fault_answer : PlacesFault → Answer
fault_answer unmoved.Failed = refusing IoFault
fault_answer (unmoved.TooLong fault) = refusing (ReplicaFull fault.bytes fault.room)
fault_answer (unmoved.Lost active listed) = Over (ended.Lost active listed)
fault_answer unmoved.Spent = Over ended.Spent
fault_answer unmoved.Memory = refusing OutOfMemory

abbrev pub IsFaultOf : PlacesFault → Answer → Type 0
IsFaultOf fault answer = answer ≡ fault_answer fault

-- and where they do, whether a wipe failed or not
abbrev pub IsAnswerOf : Result Bool PlacesFault → Answer → Type 0
IsAnswerOf (Ok clean) answer = answer ≡ accepted
IsAnswerOf (Err fault) answer = IsFaultOf fault answer

-- The places of the open database changed so, or not, and the engine has it as it is then.
pub record HasChanged {S : Type 0} (shelf : Ghosts S) (from to : S) (old : Engine) (o : Opened) (asked : Asks) (came : Result Bool PlacesFault) (new : Engine) : Type 0 where
  pub now : Opened
  pub is : new ≡ record old { state = record old.state { opened = Some now } }
  pub answer : MoveAnswer shelf from to old.host.drives o now asked came
  pub moments : AtEachTale shelf (MoveMoment old.host.drives o asked) from to
  pub end : AtEnd shelf (MoveEnds old.host.drives o now asked came) from to
  pub counted : IsMoveCounted shelf from to old.host.drives o asked now came
  pub kept : KeptAmong shelf from to (drives_moved old.host.drives o asked)

-- No database is open: its master was blanked, and it is told that it's gone; or a call failed, and none may be made till a boot finds what is there.
pub data HasClosed {S : Type 0} (shelf : Ghosts S) (from to : S) (old : Engine) (o : Opened) (answer : Answer) (new : Engine) : Type 0 where
  gone : AtEachTale shelf (EndMoment o) from to → answer ≡ accepted → new ≡ record old { state = record old.state { opened = None } } → HasEnded shelf from to o (Ok tt) → AtEnd shelf (EndEnds o) from to → HasClosed shelf from to old o answer new
  torn : AtEachTale shelf (EndMoment o) from to → answer ≡ refusing IoFault → new ≡ record old { state = record old.state { opened = None; clean = false } } → (fault : Failed) → HasEnded shelf from to o (Err fault) → HasClosed shelf from to old o answer new
