-- What was asked and told: the lines of scripts, each with its reply.
use Rattle.std.specs.Prelude.{◌≡◌, ◌+◌, ◌<◌, ℕ, List, [], ◌∷◌, ◌++◌, length, slice_index_or, Option, None, Some, if◌then◌else◌}
use Rattle.std.specs.Str.{bytes_eq}
use Rattle.mdv_base.specs.declared.name.Named.TheVariants as named
use Rattle.mdv_base.specs.declared.name.VolId.{VolId}
use Rattle.mdv_base.specs.declared.refusal.Refusal.{Refusal}
use Rattle.mdv_base.specs.declared.refusal.Refusal.TheVariants.{IoFault}
use Rattle.mdv_engine_law.specs.Replies.{ok_line, refusal_line}
use Rattle.mdv_port.specs.Script.{Script, at_end, line, spent, too_long}
use Rattle.mdv_run_law.specs.Lives.{Ran}
use Rattle.mdv_status.specs.Telling.{replies_in}
use Rattle.mdv_status.specs.Values.{significant, values_reply}
use Rattle.mdv_tab.specs.declared.entry.Entry.{Entry}
use Rattle.mdv_tab.specs.declared.entry.Entry.TheVariants as entry
use Rattle.mdv_words.specs.Line.{Exec, IsLine, blocks_of}
use Rattle.mdv_words.specs.declared.command.Alteration.{Alteration}
use Rattle.mdv_words.specs.declared.command.Alteration.TheVariants.{Attach, Clear, ClearAll, Make}
use Rattle.mdv_words.specs.declared.command.Command.{Command}
use Rattle.mdv_words.specs.declared.command.Command.TheVariants.{AddListed, AddPlaces, Alter, DropPlaces, Print, Read, Write}
use Rattle.mdv_words.specs.declared.written.Written.{Written}

-- a line, and the whole reply to it, where one was told
pub record Exchange : Type 0 where
  pub text : List ℕ
  pub reply : Option (List ℕ)

-- The lines of a script that these replies answer, in order, and behind them the line in work. What is too long has a reply, and no line.
abbrev pub exchanges : Script → List (List ℕ) → List Exchange
exchanges at_end replies = []
exchanges (spent lines bytes) replies = []
exchanges (too_long more) [] = []
exchanges (too_long more) (reply ∷ replies) = exchanges more replies
exchanges (line text more) [] = record { text = text; reply = None } ∷ []
exchanges (line text more) (reply ∷ replies) = record { text = text; reply = Some reply } ∷ exchanges more replies

-- by all bytes that a run told
abbrev pub exchanges_of : Script → List ℕ → List Exchange
exchanges_of script bytes = exchanges script (replies_in bytes)

-- those of a host's runs, the oldest first; the runs are told with the newest first
abbrev pub exchanges_by : List ℕ → List Ran → List Exchange
exchanges_by name [] = []
exchanges_by name (ran ∷ before) = exchanges_by name before ++ (if bytes_eq ran.host name then exchanges_of ran.script ran.bytes else [])

-- the line is that command
abbrev pub Asks : Exchange → Command → Type 0
Asks one command = IsLine one.text (Exec command)

-- that was told in reply
abbrev pub IsTold : Exchange → List ℕ → Type 0
IsTold one reply = one.reply ≡ Some reply

-- the volume that an entry names
abbrev pub volume_in : Entry → Option VolId
volume_in (entry.Stripe name rows spares) = Some name.volume
volume_in other = None

-- the volume is made, or has a row more
abbrev pub Makes : VolId → Alteration → Type 0
Makes volume (Make entry) = volume_in entry ≡ Some volume
Makes volume (Attach other row) = other ≡ volume
Makes volume (Clear names below) = ⊥
Makes volume ClearAll = ⊥

-- so it is, or it is cleared alone, or with those below it
abbrev pub IsOf : VolId → Alteration → Type 0
IsOf volume (Make entry) = volume_in entry ≡ Some volume
IsOf volume (Attach other row) = other ≡ volume
IsOf volume (Clear names below) = names ≡ named.Volume volume ∷ []
IsOf volume ClearAll = ⊥

-- the command makes the volume, or a row more of it, reads it or writes it
abbrev pub IsOn : VolId → Command → Type 0
IsOn volume (AddPlaces slices force count blocks) = ⊥
IsOn volume (AddListed number force) = ⊥
IsOn volume (DropPlaces slices force) = ⊥
IsOn volume (Alter alteration) = Makes volume alteration
IsOn volume (Read other at count) = other ≡ volume
IsOn volume (Write other at what) = other ≡ volume
IsOn volume (Print names) = ⊥

-- the command makes the volume, or a row more of it, reads it, writes it or clears it, or prints it and nothing else
abbrev pub IsAbout : VolId → Command → Type 0
IsAbout volume (AddPlaces slices force count blocks) = ⊥
IsAbout volume (AddListed number force) = ⊥
IsAbout volume (DropPlaces slices force) = ⊥
IsAbout volume (Alter alteration) = IsOf volume alteration
IsAbout volume (Read other at count) = other ≡ volume
IsAbout volume (Write other at what) = other ≡ volume
IsAbout volume (Print names) = names ≡ named.Volume volume ∷ []

-- it was told to be done: by `ok`, of a read by values and `ok` behind them, and of a print by what is no refusal
abbrev pub IsGranted : Exchange → Command → Type 0
IsGranted one (Read volume at count) = (from : ℕ) × (blocks : List (List ℕ)) × IsTold one (values_reply from blocks)
IsGranted one (Print names) = (reply : List ℕ) × IsTold one reply × ((refusal : Refusal) → reply ≡ refusal_line refusal → ⊥)
IsGranted one command = IsTold one ok_line

-- it was told of the volume that it was made, or got a row more, or was read, or written: so it is there
pub record ShowsThere (volume : VolId) (one : Exchange) : Type 0 where
  pub command : Command
  pub asks : Asks one command
  pub on : IsOn volume command
  pub granted : IsGranted one command

-- The line may have begun what it asks: a refusal tells that it didn't, but for that of a failed call.
abbrev pub MayHaveBegun : Exchange → Type 0
MayHaveBegun one = (refusal : Refusal) → IsTold one (refusal_line refusal) → refusal ≡ IoFault

-- the line writes these bytes to that block of the volume
pub record Writes (volume : VolId) (number : ℕ) (block : List ℕ) (one : Exchange) : Type 0 where
  pub at : ℕ
  pub what : Written
  pub asks : Asks one (Write volume at what)
  pub place : ℕ
  pub within : place < length (blocks_of what)
  pub numbered : number ≡ at + place
  pub value : block ≡ slice_index_or (blocks_of what) place []

-- these bytes may have been written to that block of the volume by the line
pub record MayBeWritten (volume : VolId) (number : ℕ) (block : List ℕ) (one : Exchange) : Type 0 where
  pub writes : Writes volume number block one
  pub begun : MayHaveBegun one

-- they were written, and that was acknowledged
pub record IsAcknowledged (volume : VolId) (number : ℕ) (block : List ℕ) (one : Exchange) : Type 0 where
  pub writes : Writes volume number block one
  pub told : IsTold one ok_line

-- the line is a read of blocks, that one among them, and these bytes of it were told
pub record TellsBlock (volume : VolId) (number : ℕ) (block : List ℕ) (one : Exchange) : Type 0 where
  pub at : ℕ
  pub blocks : List (List ℕ)
  pub asks : Asks one (Read volume at (length blocks))
  pub told : IsTold one (values_reply at blocks)
  pub place : ℕ
  pub within : place < length blocks
  pub numbered : number ≡ at + place
  pub value : block ≡ slice_index_or blocks place []

-- the same bytes, but for zeros at the block's end, which a reply leaves out
abbrev pub IsSameBlock : List ℕ → List ℕ → Type 0
IsSameBlock a b = significant a ≡ significant b
