-- How many calls on the bench a run makes at most, by its script.
use Rattle.std.specs.Prelude.{◌≡◌, ◌⊎◌, ◌≤◌, ◌+◌, ◌*◌, ℕ, min, List, length, Option, Some, Result}
use Rattle.mdv_shelf.specs.Calls.{RoseByAtMost}
use Rattle.mdv_engine_law.specs.Efforts.{places_on}
use Rattle.mdv_engine_law.specs.Hosts.{lines_asked}
use Rattle.mdv_items.specs.declared.gather.GatherFault.{GatherFault}
use Rattle.mdv_run.specs.Below.{Boot, Command, AddListed, AddPlaces, DropPlaces, Host, IsItem, IsLine, Read, Script, Spelled, Write, at_end, line, spent, too_long}
use Rattle.mdv_run_law.specs.Run.{IsNoCommand}
use Rattle.mdv_store.specs.BootCounts.{most_calls, most_reads}
use Rattle.mdv_acts.specs.Asked.{blanked_asked}
use Rattle.mdv_words.specs.declared.command.Command.TheVariants as command
use Rattle.mdv_words.specs.Line as words
use Rattle.mdv_run.specs.declared.session.Turn.{Turn}
use Rattle.mdv_run.specs.declared.session.Turn.TheVariants.{On, Over}

-- what a boot takes: two calls for each of the host's own drives, those of its looks, eight for each of a hundred places, and six again for each of fifty
abbrev pub boot_calls : Host → ℕ
boot_calls host = 2 * length host.site.drives + most_reads host.site + most_calls

-- What a command takes. A change of places twelve for each of fifty and two for each that is wiped, where places are added or some are dropped; with each that is added another eighteen, and two
-- for each that is blanked before, an entry fifty places at most; and where all are dropped two more. A change of volumes takes six for each of fifty places; a read one for each block at most, and
-- 1,024 at most, a write twice as many, and a print none.
abbrev pub command_calls : Host → Command → ℕ
command_calls host (AddPlaces slices force count blocks) = 14 * 50 + (18 * places_on (lines_asked host slices) count + 2 * blanked_asked (lines_asked host slices) count)
command_calls host (AddListed number force) = 34 * 50
command_calls host (DropPlaces slices force) = 14 * 50 + 2
command_calls host (command.Alter alteration) = 6 * 50
command_calls host (Read volume at count) = min count 1024
command_calls host (Write volume at what) = 2 * min (length (words.blocks_of what)) 1024
command_calls host (command.Print names) = 0

-- what a line takes, its reply among it: a block of entries its reply's alone
abbrev pub line_calls : Host → Spelled → ℕ
line_calls host Boot = boot_calls host + 1
line_calls host (words.Tab lines) = 1
line_calls host (words.Exec command) = 1 + command_calls host command

-- and a line by its text: one that isn't built is refused with one
abbrev pub TextCalls : Host → List ℕ → ℕ → Type 0
TextCalls host text n = (IsNoCommand text × (n ≡ 1)) ⊎ ((spelled : Spelled) × IsLine text spelled × (n ≡ line_calls host spelled))

-- and an item that a reader shows
abbrev pub ItemCalls : Host → Result (List ℕ) GatherFault → ℕ → Type 0
ItemCalls host shown n = (text : List ℕ) × IsItem text shown × TextCalls host text n

-- and the items of a script, one behind the other
abbrev pub ScriptCalls : Host → Script → ℕ → Type 0
ScriptCalls host at_end n = n ≡ 0
ScriptCalls host (spent lines bytes) n = n ≡ 0
ScriptCalls host (too_long more) n = (rest : ℕ) × ScriptCalls host more rest × (n ≡ 1 + rest)
ScriptCalls host (line text more) n = (one : ℕ) × TextCalls host text one × (rest : ℕ) × ScriptCalls host more rest × (n ≡ one + rest)

-- Of so many calls for a script some were made, and so many are left for what is left of it.
pub record CallsLeft (host : Host) (before : Option Script) (old new : Option ℕ) (n : ℕ) : Type 0 where
  pub script : Script
  pub is_left : before ≡ Some script
  pub rest : ℕ
  pub for_rest : ScriptCalls host script rest
  pub made : ℕ
  pub took : RoseByAtMost made old new
  pub within : made + rest ≤ n

-- what a turn took of them; where the run is over with it, no more than all
abbrev pub TurnTook : Host → Turn → Option Script → Option ℕ → Option ℕ → ℕ → Type 0
TurnTook host (On r) before old new n = CallsLeft host before old new n
TurnTook host (Over status) before old new n = RoseByAtMost n old new
