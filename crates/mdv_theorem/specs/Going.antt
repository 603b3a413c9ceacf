-- What volumes that may have gone have to do with what is told: a line is done with a volume where it may lie, and volumes that are there are cleared when that is asked.
use Rattle.std.specs.Prelude.{◌≡◌, ◌⊎◌, ℕ, Bool, None, Some, List, [], ◌∷◌, map, Contains}
use Rattle.mdv_base.specs.declared.name.Named.TheVariants as named
use Rattle.mdv_base.specs.declared.name.VolId.{VolId}
use Rattle.mdv_base.specs.declared.refusal.Refusal.TheVariants.{OutOfMemory, ReplicaFull}
use Rattle.mdv_components.specs.Bases.{volume_of}
use Rattle.mdv_engine_law.specs.Replies.{ok_line, refusal_line}
use Rattle.mdv_map.specs.Maps.{Map}
use Rattle.mdv_name.specs.declared.geometry.Geometry.{Geometry}
use Rattle.mdv_plan.specs.declared.table.Table.{Table}
use Rattle.mdv_port.specs.Script.{Script}
use Rattle.mdv_run_law.specs.Lives.{Ran}
use Rattle.mdv_tab.specs.declared.entry.Entry.{Entry}
use Rattle.mdv_words.specs.declared.command.Alteration.{Alteration}
use Rattle.mdv_words.specs.declared.command.Alteration.TheVariants.{Attach, Clear, ClearAll, Make}
use Rattle.mdv_words.specs.declared.command.Command.{Command}
use Rattle.mdv_words.specs.declared.command.Command.TheVariants.{AddListed, AddPlaces, Alter, DropPlaces, Print, Read, Write}
use Rattle.mdv_theorem.specs.Exchanges.{Asks, Exchange, IsGranted, IsTold, volume_in}
use Rattle.mdv_theorem.specs.Observed.{Answered, HaveAnswered}
use Rattle.mdv_theorem.specs.Running.{Running}
use Rattle.mdv_theorem.specs.Words.{HasDatabase, IsThere, MayHave, MayLie}

-- it asks for a row more of the volume, or for its clearing by its name, alone or among others
abbrev pub IsChangeOf : VolId → Alteration → Type 0
IsChangeOf volume (Make entry) = ⊥
IsChangeOf volume (Attach other row) = other ≡ volume
IsChangeOf volume (Clear names below) = Contains names (named.Volume volume)
IsChangeOf volume ClearAll = ⊥

-- the command is done with a volume that is there alone: it reads it, writes it, puts a row behind it, or clears it or prints it by its name
abbrev pub NeedsVolume : VolId → Command → Type 0
NeedsVolume volume (AddPlaces slices force count blocks) = ⊥
NeedsVolume volume (AddListed number force) = ⊥
NeedsVolume volume (DropPlaces slices force) = ⊥
NeedsVolume volume (Alter alteration) = IsChangeOf volume alteration
NeedsVolume volume (Read other at count) = other ≡ volume
NeedsVolume volume (Write other at what) = other ≡ volume
NeedsVolume volume (Print names) = Contains names (named.Volume volume)

-- A line that needs a volume is told to be done only where the volume may lie somewhere by the lines before: so behind one that was told to have cleared it none is, until one may have made it again.
abbrev pub VolumesGo : Type 0
VolumesGo =
    (drives : Geometry) (name : List ℕ) (before : List Ran) (script : Script) → Contains drives.hosts name → (run : Running drives name before script)
    → (one : Exchange) (earlier : List Exchange) (volume : VolId) (command : Command) → Answered run one earlier → Asks one command → NeedsVolume volume command → IsGranted one command
    → (v : Map) × MayLie drives name volume v earlier

-- A line is told to have made a volume only where the database may have had none of that name by the lines before.
abbrev pub NamesAreFree : Type 0
NamesAreFree =
    (drives : Geometry) (name : List ℕ) (before : List Ran) (script : Script) → Contains drives.hosts name → (run : Running drives name before script)
    → (one : Exchange) (earlier : List Exchange) (volume : VolId) (entry : Entry) → Answered run one earlier → Asks one (Alter (Make entry)) → volume_in entry ≡ Some volume → IsTold one ok_line
    → (table : Table) × MayHave drives name earlier table × (volume_of table.plan volume ≡ None)

-- `ok`, or a refusal for want of memory, or of room for the record in a replica
abbrev pub IsOkOrWant : List ℕ → Type 0
IsOkOrWant reply = (reply ≡ ok_line) ⊎ (reply ≡ refusal_line OutOfMemory) ⊎ ((bytes room : ℕ) × (reply ≡ refusal_line (ReplicaFull bytes room)))

-- A line that clears volumes, each of which lines show to be there, is told `ok`, or refused for such a want, as long as enough drives answer for the database: so never because one of them isn't there, or is used.
abbrev pub ClearsOfNames : Type 0
ClearsOfNames =
    (drives : Geometry) (name : List ℕ) (before : List Ran) (script : Script) → Contains drives.hosts name → (run : Running drives name before script)
    → (one : Exchange) (earlier : List Exchange) (first : VolId) (volumes : List VolId) (below : Bool)
    → Answered run one earlier → HaveAnswered run earlier → ((volume : VolId) → Contains (first ∷ volumes) volume → IsThere volume earlier) → Asks one (Alter (Clear (map named.Volume (first ∷ volumes)) below))
    → (reply : List ℕ) → IsTold one reply → IsOkOrWant reply

-- So is one that clears all, where lines show that there is a database.
abbrev pub ClearsOfAll : Type 0
ClearsOfAll =
    (drives : Geometry) (name : List ℕ) (before : List Ran) (script : Script) → Contains drives.hosts name → (run : Running drives name before script)
    → (one : Exchange) (earlier : List Exchange) → Answered run one earlier → HaveAnswered run earlier → HasDatabase earlier → Asks one (Alter ClearAll)
    → (reply : List ℕ) → IsTold one reply → IsOkOrWant reply
