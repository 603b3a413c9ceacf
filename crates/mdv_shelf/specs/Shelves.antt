-- Words over a whole shelf: the ghosts of its bound are passed as one, as `S.Shelf`.
use Rattle.std.specs.Prelude.{◌≡◌, ◌≢◌, ◌⊎◌, ◌≤◌, ◌<◌, ℕ, length, Some}
use Rattle.mdv_base.specs.Causes.{Rose, RoseOnce, Failures, failures_of}
use Rattle.mdv_shelf.specs.Tale.{Tale, last, told}
use Rattle.mdv_shelf.specs.Calls.{Part, OnDrive, OnReplies, Took, TookAtMost, Keeps as KeepsOf}
use Rattle.mdv_shelf.specs.Moments.{Moments, Ends}
use Rattle.mdv_shelf.specs.Story.{Moment, AtEach, NoFewer, InTime}
use Rattle.mdv_shelf.specs.Made.{effort_of, made_between, tally_of}
use Rattle.mdv_shelf.specs.declared.shelf.Shelf.{Ghosts}

-- the sizes, what no call on a drive changes and the references held stay, and no count of failures fell
abbrev pub Keeps : {S : Type 0} → Ghosts S → S → S → Type 0
Keeps shelf old new = KeepsOf shelf.sizes shelf.faults shelf.rest shelf.held old new

-- a call on the drive failed
abbrev pub DriveFailed : {S : Type 0} → Ghosts S → S → S → ℕ → Type 0
DriveFailed shelf old new drive = Rose (shelf.faults old (OnDrive drive)) (shelf.faults new (OnDrive drive))

-- one giving of replies failed, and no other
abbrev pub GivingFailed : {S : Type 0} → Ghosts S → S → S → Type 0
GivingFailed shelf old new = RoseOnce (shelf.faults old OnReplies) (shelf.faults new OnReplies)

-- how the calls on the drive came out, and the givings of replies
abbrev pub DriveFailures : {S : Type 0} → Ghosts S → S → S → ℕ → Failures
DriveFailures shelf old new drive = failures_of (shelf.faults old (OnDrive drive)) (shelf.faults new (OnDrive drive))

abbrev pub GivingFailures : {S : Type 0} → Ghosts S → S → S → Failures
GivingFailures shelf old new = failures_of (shelf.faults old OnReplies) (shelf.faults new OnReplies)

-- R holds, relative to the start, at each moment: of what was done and told by then, and of the counts
abbrev pub AtEachMoment : {S : Type 0} → Ghosts S → (Moment → Moment → Type 0) → S → S → Type 0
AtEachMoment shelf R old new = AtEach R (shelf.story old) (tally_of shelf old) (shelf.story new) (tally_of shelf new)

-- the story goes on: each call that changed something is told with the counts as it was made, and none fell
abbrev pub GoesOn : {S : Type 0} → Ghosts S → S → S → Type 0
GoesOn shelf old new = AtEachMoment shelf (λ _ _. Unit {0}) old new

-- a stretch of calls: it keeps what calls keep, and the story goes on
pub record Kept {S : Type 0} (shelf : Ghosts S) (old new : S) : Type 0 where
  pub keeps : Keeps shelf old new
  pub goes : GoesOn shelf old new

-- no call that changed something was made behind one on the same part that failed
abbrev pub StopsAtFailures : {S : Type 0} → Ghosts S → S → S → Type 0
StopsAtFailures shelf old new = (part : Part) → InTime part (shelf.faults old part) (shelf.story old) (shelf.story new)

-- a stretch of calls that stops at a failure
pub record KeptInTime {S : Type 0} (shelf : Ghosts S) (old new : S) : Type 0 where
  pub keeps : Keeps shelf old new
  pub goes : GoesOn shelf old new
  pub in_time : StopsAtFailures shelf old new

-- such a stretch on one part: on no other a call changed something, or failed
pub record KeptOn {S : Type 0} (shelf : Ghosts S) (old new : S) (part : Part) : Type 0 where
  pub keeps : Keeps shelf old new
  pub goes : GoesOn shelf old new
  pub in_time : InTime part (shelf.faults old part) (shelf.story old) (shelf.story new)
  pub others : (other : Part) → other ≢ part → shelf.faults new other ≡ shelf.faults old other
  pub elsewhere : (other : Part) → other ≢ part → (count : ℕ) → InTime other count (shelf.story old) (shelf.story new)

-- R holds, relative to the start, of what was done and told by each moment, whatever had failed
abbrev pub AtEachTale : {S : Type 0} → Ghosts S → (Tale → Tale → Type 0) → S → S → Type 0
AtEachTale shelf R old new = Moments R (shelf.tale old) (shelf.tale new)

-- Q holds in the end, relative to the start
abbrev pub AtEnd : {S : Type 0} → Ghosts S → (Tale → Tale → Type 0) → S → S → Type 0
AtEnd shelf Q old new = Ends Q (shelf.tale old) (shelf.tale new)

-- it took so many calls, with so many blocks written
abbrev pub MadeCalls : {S : Type 0} → Ghosts S → S → S → ℕ → ℕ → Type 0
MadeCalls shelf old new calls blocks = Took shelf.calls shelf.written old new calls blocks

-- it took at most so many
abbrev pub MadeCallsAtMost : {S : Type 0} → Ghosts S → S → S → ℕ → ℕ → Type 0
MadeCallsAtMost shelf old new calls blocks = TookAtMost shelf.calls shelf.written old new calls blocks

-- by each moment the calls counted are those from before, or it is the end, as of a stretch of one call
abbrev pub IsOneCall : {S : Type 0} → Ghosts S → S → S → Type 0
IsOneCall shelf old new = AtEachMoment shelf (λ t m. (m.effort ≡ effort_of shelf old) ⊎ (Some m.tale ≡ shelf.tale new)) old new

-- Some byte was told, and no call failed behind the first: by each moment by which one was told, each part had failed as often as it had
-- in the end; and by each by which some bytes were told, and not all, all calls were made but one, which tells them.
pub record EndsTold {S : Type 0} (shelf : Ghosts S) (old new : S) : Type 0 where
  pub grew : AtEnd shelf (λ t u. length (told t) < length (told u)) old new
  pub still : AtEachMoment shelf (λ t m. length (told t.tale) < length (told m.tale) → NoFewer (shelf.faults new) m.faults) old new
  pub once : (u : Tale) → shelf.tale new ≡ Some u → AtEachMoment shelf (λ t m. length (told t.tale) < length (told m.tale) → length (told m.tale) < length (told u) → (made_between m.effort (effort_of shelf new)).exactly 1 0) old new

-- each block reads as in the end, and each drive had failed as often
pub record IsAtRest (faults : Part → ℕ) (u : Tale) (m : Moment) : Type 0 where
  pub reads : (drive block : ℕ) → last m.tale drive block ≡ last u drive block
  pub drives : (drive : ℕ) → faults (OnDrive drive) ≤ m.faults (OnDrive drive)

-- From the first byte told on the drives are at rest.
abbrev pub RestsOnceTold : {S : Type 0} → Ghosts S → S → S → Type 0
RestsOnceTold shelf old new = (u : Tale) → shelf.tale new ≡ Some u → AtEachMoment shelf (λ t m. length (told t.tale) < length (told m.tale) → IsAtRest (shelf.faults new) u m) old new
