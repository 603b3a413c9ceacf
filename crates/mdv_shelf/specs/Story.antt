-- A story is a tale of which each call has the counts as it was made: how often each part had failed, and how many calls there had been. A moment of it is a
-- tale and the counts by then.
use Rattle.std.specs.Prelude.{◌≡◌, ◌⊎◌, ℕ, ◌≤◌, List, [], ◌∷◌, Option, Some}
use Rattle.std.specs.Option.{option_map}
use Rattle.mdv_base.specs.Causes.{Rose, Failures, failures_of}
use Rattle.mdv_shelf.specs.Tale.{Start, Tale, Begun, Then, Call, Wrote, Tore, Synced, Gave}
use Rattle.mdv_shelf.specs.Calls.{Part, OnDrive, OnReplies}
use Rattle.mdv_shelf.specs.Moments.{During}

-- how many calls were made by a point, reads and failed ones too, and how many blocks written, where it is told
pub record Effort : Type 0 where
  pub calls : Option ℕ
  pub written : Option ℕ

-- what was counted by a point: how often each part had failed, and the calls
pub record Tally : Type 0 where
  pub faults : Part → ℕ
  pub effort : Effort

-- as these count them
abbrev pub tally_by : {S : Type 0} → (S → Part → ℕ) → (S → Option ℕ) → (S → Option ℕ) → S → Tally
tally_by faults calls written now = record { faults = faults now; effort = record { calls = calls now; written = written now } }

-- the newest call outermost
pub data Story : Type 0 where
  Opened : Start → Story
  Next : Story → Call → Tally → Story

-- what was done and told, without the counts
abbrev pub tale_of : Story → Tale
tale_of (Opened start) = Begun start
tale_of (Next s c tally) = Then (tale_of s) c

-- a story with one more call
abbrev pub and_next : Option Story → Call → Tally → Option Story
and_next old c tally = option_map (λ s. Next s c tally) old

-- the part that a call is made on
abbrev pub part_of : Call → Part
part_of (Wrote drive at blocks) = OnDrive drive
part_of (Tore drive at blocks took) = OnDrive drive
part_of (Synced drive) = OnDrive drive
part_of (Gave piece count) = OnReplies

-- A call on a part of a shelf: the story stays, or has one call more, on that part, with the counts as it was made. Which call
-- it is, the tale says.
abbrev pub IsNoted : {S : Type 0} → (S → Option Story) → (S → Part → ℕ) → (S → Option ℕ) → (S → Option ℕ) → Part → S → S → Type 0
IsNoted story faults calls written part old new = (story new ≡ story old) ⊎ ((c : Call) × (part_of c ≡ part) × (story new ≡ and_next (story old) c (tally_by faults calls written old)))

-- a call, and what had been counted as it was made
pub record Mark : Type 0 where
  pub call : Call
  pub tally : Tally

-- a story with more calls, the newest of them first
abbrev pub marked : Story → List Mark → Story
marked s [] = s
marked s (m ∷ ms) = Next (marked s ms) m.call m.tally

-- what was done and told by a moment, how often each part had failed, and how many calls were made before: a call under way isn't among them
pub record Moment : Type 0 where
  pub tale : Tale
  pub faults : Part → ℕ
  pub effort : Effort

-- by these counts
abbrev pub moment_at : Tale → Tally → Moment
moment_at t tally = record { tale = t; faults = tally.faults; effort = tally.effort }

-- a call on the part failed between two moments
abbrev pub FailedBy : Moment → Moment → Part → Type 0
FailedBy t m part = Rose (t.faults part) (m.faults part)

-- how the calls on the part came out between two moments
abbrev pub FailuresBy : Moment → Moment → Part → Failures
FailuresBy t m part = failures_of (t.faults part) (m.faults part)

-- P at each moment of these calls, each with the counts as it was made
abbrev pub AtMarks : (Moment → Type 0) → Story → List Mark → Type 0
AtMarks P s [] = Unit {0}
AtMarks P s (m ∷ ms) = AtMarks P s ms × During (λ t. P (moment_at t m.tally)) (tale_of (marked s ms)) m.call

-- no part failed less often
abbrev pub NoFewer : (Part → ℕ) → (Part → ℕ) → Type 0
NoFewer before after = (part : Part) → before part ≤ after part

-- no count of failures falls from the first ones, over these calls, to the last ones
abbrev pub NeverFall : (Part → ℕ) → List Mark → (Part → ℕ) → Type 0
NeverFall first [] last = NoFewer first last
NeverFall first (m ∷ ms) last = NeverFall first ms m.tally.faults × NoFewer m.tally.faults last

-- calls led from s to u, and P held at the first moment, at each of these calls, and at the last moment
pub record Passed (P : Moment → Type 0) (s : Story) (before : Tally) (u : Story) (after : Tally) : Type 0 where
  pub marks : List Mark
  pub led : u ≡ marked s marks
  pub rising : NeverFall before.faults marks after.faults
  pub first : P (moment_at (tale_of s) before)
  pub each : AtMarks P s marks
  pub last : P (moment_at (tale_of u) after)

-- From what a shelf told and counted to what it tells and counts: R holds, relative to the start, at each
-- moment. It says nothing of a shelf that tells nothing.
abbrev pub AtEach : (Moment → Moment → Type 0) → Option Story → Tally → Option Story → Tally → Type 0
AtEach R old before new after =
    (s : Story) → old ≡ Some s → (u : Story) × (new ≡ Some u) × Passed (R (moment_at (tale_of s) before)) s before u after

-- R of the tales alone
abbrev pub OfTales : (Tale → Tale → Type 0) → Moment → Moment → Type 0
OfTales R t m = R t.tale m.tale

-- each of these calls that is on the part was made with this count of its failures
abbrev pub AreMadeAt : Part → ℕ → List Mark → Type 0
AreMadeAt part count [] = Unit {0}
AreMadeAt part count (m ∷ ms) = AreMadeAt part count ms × (part_of m.call ≡ part → m.tally.faults part ≡ count)

-- From one point of a story to another each call on the part that changed something was made with this count of the part's failures: with that of
-- the start, none was made behind one that failed.
abbrev pub InTime : Part → ℕ → Option Story → Option Story → Type 0
InTime part count old new = (s : Story) → old ≡ Some s → (marks : List Mark) × (new ≡ Some (marked s marks)) × AreMadeAt part count marks
