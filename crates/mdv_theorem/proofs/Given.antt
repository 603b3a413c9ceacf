-- What the laws over runs need of each run beside what its contract says of it.
use Rattle.std.specs.Prelude.{◌≡◌, ℕ, List, Some}
use Rattle.mdv_engine_law.specs.Replies.{text_of}
use Rattle.mdv_engine_law.specs.declared.host.Host.{Host}
use Rattle.mdv_run_law.specs.Run.{At, FromTo, IsMereRefusal, LineTold, NextFront}
use Rattle.mdv_run_law.specs.Standing.{RanTo}
use Rattle.mdv_shelf.specs.Area.{KeptOutside, nowhere}
use Rattle.mdv_shelf.specs.Story.{Moment, Story, tale_of}

-- each line does
abbrev pub LinesLead : Type 0
LinesLead = (host : Host) (now : At) (piece : List ℕ) (later : At) → LineTold host now piece later → FromTo (RanTo host now.script now.kept.memory later.kept.memory later.script) now.story later.story

-- a line whose refusal was told whole wrote nothing, where no call on a drive was the cause
abbrev pub FrontsUnwritten : Type 0
FrontsUnwritten = (host : Host) (now : At) (told : List ℕ) (m : Moment) (front : NextFront host now told m) → told ≡ text_of front.answer → IsMereRefusal front.answer → (s : Story) → now.story ≡ Some s → KeptOutside nowhere (tale_of s) m.tale

pub record Given : Type 0 where
  pub lead : LinesLead
  pub unwritten : FrontsUnwritten

pub given : Given
given = record { lead = λ host now piece later told. told.leads; unwritten = λ host now told m front. front.unwritten }
