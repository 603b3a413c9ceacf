-- What was told of a run by each of its moments, and where it was then: what is known of the drives and of each history at the last place between two lines, and what was done since.
use Rattle.std.specs.Prelude.{◌≡◌, ◌⊎◌, ℕ, List, [], ◌++◌, Some, None}
use Rattle.mdv_engine_law.specs.Answers.{accepted}
use Rattle.mdv_engine_law.specs.Efforts.{BootCalls}
use Rattle.mdv_shelf.specs.Failing.{Outcomes}
use Rattle.mdv_engine_law.specs.Line.{Memory}
use Rattle.mdv_engine_law.specs.Standing.{BootedTo, LineWrites}
use Rattle.mdv_run_law.specs.Below.{Host, IsLine, IsRebooted, Kept, Script, Tale, contents, line, told}
use Rattle.mdv_run_law.specs.Run.{AreSynced, At, Counts, FromTo, IsNextFront, IsPoint, LinesTold, Progress, RoseCalmly, StoryGoesOn, Stretch, behind_boot, drive_failures, started}
use Rattle.mdv_run_law.specs.Standing.{LinesMoment, RanTo}
use Rattle.mdv_shelf.specs.Area.{KeptOutside, nowhere}
use Rattle.mdv_shelf.specs.Made.{made_between}
use Rattle.mdv_shelf.specs.Moments.{IsSince}
use Rattle.mdv_shelf.specs.Story.{Moment, Story, tale_of}
use Rattle.mdv_shown.specs.Site.{site_area}
use Rattle.mdv_words.specs.Line.{Line}

-- The blocks that the next line may write where this is in memory, and all others are kept: none, or those that it may write by what it asks.
abbrev pub WorkWrites : Host → Memory → Script → Tale → Tale → Type 0
WorkWrites host memory script s m =
    KeptOutside nowhere s m ⊎ ((text : List ℕ) × (more : Script) × (script ≡ line text more) × (spelled : Line) × IsLine text spelled × LineWrites host spelled memory s m)

-- a moment of the line in work, behind a place between two lines: each history that is known there goes on by its events, and it wrote no block but those that it may
pub record AtWork (host : Host) (at : At) (s m : Tale) : Type 0 where
  pub moment : LinesMoment host at.script at.kept.memory s m
  pub writes : WorkWrites host at.kept.memory at.script s m

-- What was told of lines by a moment of a run: whole replies, and a front of the next one; the point behind these is one of the run's story. The lines so far led each history that was known
-- before them to one that is known at that point, and from there on the next line is in work.
pub record LinesToldBy (host : Host) (stretch : Stretch) (first : At) (told : List ℕ) (m : Moment) : Type 0 where
  pub so_far : List ℕ
  pub rest : List ℕ
  pub parts : told ≡ so_far ++ rest
  pub at : At
  pub lines : LinesTold host stretch 0 first so_far at
  pub behind : StoryGoesOn at.story stretch.new
  pub ran : FromTo (RanTo host first.script first.kept.memory at.kept.memory at.script) first.story at.story
  pub work : (s : Story) → at.story ≡ Some s → AtWork host at (tale_of s) m.tale
  pub front : IsNextFront host at rest m

-- where the boot at a run's start, which began at t, has led: each history that the drives stood with is known with what is in memory, and the drives are synced
pub record HasBroughtUp (host : Host) (calls : Outcomes) (memory : Memory) (t u : Tale) : Type 0 where
  pub booted : BootedTo host memory t u
  pub since : IsSince t u
  pub synced : AreSynced host calls u

-- and of a run whose boot was answered
pub record RunToldBy (host : Host) (stretch : Stretch) (start : Counts) (t : Tale) (script : Script) (told : List ℕ) (m : Moment) : Type 0 where
  pub booted : Counts
  pub rose : RoseCalmly start booted
  pub kept : Kept
  pub boots : IsRebooted (drive_failures start booted) host (started (contents t)) accepted kept
  pub by : Progress
  pub calls : BootCalls (drive_failures start booted) (made_between stretch.before.effort by.effort) host accepted kept.memory (contents t)
  pub writes : FromTo (KeptOutside (site_area host.site)) stretch.old by.story
  pub unwritten : kept.memory.opened ≡ None → FromTo (KeptOutside nowhere) stretch.old by.story
  pub point : IsPoint stretch start.source booted by kept.content
  pub leads : (s : Story) → by.story ≡ Some s → HasBroughtUp host (drive_failures start booted) kept.memory t (tale_of s)
  pub lines : LinesToldBy host stretch (behind_boot booted by kept script) told m

-- By a moment of a run that began at t nothing was told, and nothing done but on the blocks that a replica may have, while it boots; or what the
-- script asks for was told, as far as it had come: values that were told are those of blocks as the lines before left them, by the relation of
-- lines alone. It says so too of a run that was stopped there.
pub record IsToldBy (host : Host) (stretch : Stretch) (start : Counts) (script : Script) (t m : Moment) : Type 0 where
  pub bytes : List ℕ
  pub is_told : told m.tale ≡ told t.tale ++ bytes
  pub tells : ((bytes ≡ []) × KeptOutside (site_area host.site) t.tale m.tale) ⊎ RunToldBy host stretch start t.tale script bytes m
