-- What an engine keeps of a `tab` block.
use Rattle.std.specs.Prelude.{◌≡◌, ◌⊎◌, ℕ, List, length}
use Rattle.mdv_tab.specs.Text.{IsTab}
use Rattle.mdv_tab.specs.declared.entry.Entry.{Entry}
use Rattle.mdv_tab.specs.declared.read.TabFault.{TabFault}
use Rattle.mdv_tab.specs.declared.read.TabFault.TheVariants as fault
use Rattle.mdv_base.specs.declared.refusal.Refusal.TheVariants as refusal
use Rattle.mdv_shelf.specs.Made.{Made, made_of}
use Rattle.mdv_shelf.specs.Shelves.{AtEnd, DriveFailures, GivingFailed}
use Rattle.mdv_shelf.specs.declared.shelf.Shelf.{Ghosts}
use Rattle.mdv_status.specs.Values.{entries_reply}
use Rattle.mdv_words.specs.Line as words
use Rattle.mdv_engine_law.specs.Commands.{IsTabRefusal, KeepsTab}
use Rattle.mdv_engine_law.specs.Line.{Nothing}
use Rattle.mdv_engine_law.specs.Replies.{IsReplied, IsReplyTo}
use Rattle.mdv_engine_law.specs.declared.answer.Outcome.{Outcome}
use Rattle.mdv_engine_law.specs.declared.answer.Outcome.TheVariants as outcome
use Rattle.mdv_engine_law.specs.declared.answer.Reply.{Reply}
use Rattle.mdv_engine.specs.Below.{AreCalm, Outcomes, Refusal, KeptOutside, nowhere, Tale, Answer, Kept, Executed, Knows, Turned}
use Rattle.mdv_engine.specs.declared.engine.Engine.{Engine}

-- what a `tab` block comes to
abbrev pub KeepsLines : List ℕ → Outcomes → Kept → Answer → Kept → Type 0
KeepsLines lines calls kept answer next = KeepsTab calls kept lines answer next

-- the refusal that tells the fault
abbrev pub IsRefusalOf : TabFault → Refusal → Type 0
IsRefusalOf (fault.BadLine number) r = r ≡ refusal.BadLine
IsRefusalOf fault.TooMany r = r ≡ refusal.TooMany
IsRefusalOf fault.Memory r = r ≡ refusal.OutOfMemory

-- the engine with these entries in place of its own
abbrev pub with_entries : Engine → List Entry → Engine
with_entries engine entries = record engine { state = record engine.state { entries = entries } }

-- the block's entries are kept, and their number is told; or the engine is as it was, and the block is refused, or memory was wanting
pub data HasKept (old : Engine) (lines : List ℕ) (this : Outcome) (new : Engine) : Type 0 where
  all : (entries : List Entry) → IsTab lines entries → this ≡ outcome.Values (entries_reply (length entries)) → new ≡ with_entries old entries → HasKept old lines this new
  none : (r : Refusal) → IsTabRefusal lines r ⊎ (r ≡ refusal.OutOfMemory) → this ≡ outcome.Refused r → new ≡ old → HasKept old lines this new

-- the end of a block and its reply: what it came to and led to, what is known of the drive, and that nothing was done there
pub record TabEnd (calls : Outcomes) (replies : Type 0) (made : Made) (old : Engine) (lines : List ℕ) (given : Reply) (new : Engine) (t u : Tale) : Type 0 where
  pub answered : Executed calls replies made old.host (words.Tab lines) old.state new.state given t u
  pub turned : IsReplied given → Turned old.host Nothing old.state new.state t u
  pub knows : Knows old.host old.state t → Knows old.host new.state u
  pub kept : KeptOutside nowhere t u

-- The reply to a block: what was said, or its giving failed; no call on a drive did. And what the engine keeps.
pub record HasRepliedTab (calls : Outcomes) (replies : Type 0) (old : Engine) (lines : List ℕ) (given : Reply) (new : Engine) : Type 0 where
  pub said : Outcome
  pub kept : HasKept old lines said new
  pub cause : IsReplyTo replies said given
  pub calm : AreCalm calls

abbrev pub TabEnds : {S : Type 0} → Ghosts S → S → S → Engine → List ℕ → Reply → Engine → Type 0
TabEnds shelf from to old lines given new = AtEnd shelf (TabEnd (DriveFailures shelf from to) (GivingFailed shelf from to) (made_of shelf from to) old lines given new) from to
