-- What an item of a script is, which is one line or a `tab` block: `boot`, a block's lines, or a line that is built.
use Rattle.std.specs.Prelude.{◌≡◌, ◌≤◌, ◌&&◌, ℕ, Bool, true, false, Option, None, Some, List, [], ◌∷◌, ◌++◌, codes, length, replicate, if◌then◌else◌}
use Rattle.std.specs.List.{list_all}
use Rattle.std.specs.Option.{is_none}
use Rattle.mdv_base.specs.declared.drive.SliceName.{SliceName}
use Rattle.mdv_base.specs.declared.name.Named.{Named}
use Rattle.mdv_name.specs.declared.volume.VolName.{VolName}
use Rattle.mdv_parts.specs.declared.component.Component.{Component}
use Rattle.mdv_parts.specs.declared.component.Component.TheVariants.{Slice, Volume}
use Rattle.mdv_tab.specs.declared.entry.Entry.{Entry}
use Rattle.mdv_tab.specs.declared.entry.Entry.TheVariants.{Stripe}
use Rattle.mdv_tab.specs.declared.entry.Row.{Row}
use Rattle.mdv_command.specs.declared.command.Command.{Command as Wanted}
use Rattle.mdv_command.specs.declared.command.Command.TheVariants as wanted
use Rattle.mdv_grammar.specs.Line.{IsLine as IsAsked}
use Rattle.mdv_grammar.specs.declared.line.Line.TheVariants as grammar
use Rattle.mdv_grammar.specs.declared.line.WordsFault.{WordsFault}
use Rattle.mdv_grammar.specs.declared.line.WordsFault.TheVariants.{BadLine, Memory}
use Rattle.mdv_remake.specs.Asked.{is_few, is_short_row, is_within}
use Rattle.mdv_words.specs.declared.command.Alteration.TheVariants.{Attach, Clear, ClearAll, Make}
use Rattle.mdv_words.specs.declared.command.Command.{Command}
use Rattle.mdv_words.specs.declared.command.Command.TheVariants.{AddListed, AddPlaces, Alter, DropPlaces, Print, Read, Write}
use Rattle.mdv_words.specs.declared.written.Written.{Written}
use Rattle.mdv_words.specs.declared.written.Written.TheVariants.{Filled, One}
use Rattle.mdv_words.specs.declared.line.Line.{Line as ReadLine}
use Rattle.mdv_words.specs.declared.line.Line.TheVariants as read

-- `boot`, the lines of a block, or a command that an engine carries out
pub data Line : Type 0 where
  Boot : Line
  Tab : List ℕ → Line
  Exec : Command → Line

-- what the code's line says
abbrev pub line_of : ReadLine → Line
line_of read.Boot = Boot
line_of (read.Tab lines) = Tab lines.now
line_of (read.Command command) = Exec command

-- a block, by its lines, each with its newline
abbrev pub tab_text : List ℕ → List ℕ
tab_text lines = codes "tab" ++ 10 ∷ lines

-- the text is no block
abbrev pub IsAlone : List ℕ → Type 0
IsAlone text = (lines : List ℕ) → text ≡ tab_text lines → ⊥

-- the replicas on a slice where no number is given
abbrev pub count_or_default : Option ℕ → ℕ
count_or_default None = 1
count_or_default (Some count) = count

-- the blocks of a replica for which none are given
abbrev pub blocks_or_default : Option ℕ → ℕ
blocks_or_default None = 8192
blocks_or_default (Some blocks) = blocks

-- so many replicas on each of the slices
abbrev pub creation_of : List SliceName → Option ℕ → Option ℕ → Bool → Command
creation_of slices count blocks force = AddPlaces slices force (count_or_default count) (blocks_or_default blocks)

abbrev pub is_slice : Component → Bool
is_slice (Slice slice) = true
is_slice (Volume volume) = false

abbrev pub is_of_slices : Row → Bool
is_of_slices row = list_all is_slice row.components

-- what the program makes yet: a volume of the local database, of rows of slices, with no pool of spares
abbrev pub is_built : Entry → Bool
is_built (Stripe name rows spares) = is_none name.set && (is_none spares && list_all is_of_slices rows)
is_built other = false

abbrev pub make_of : Entry → Option Command
make_of entry = if is_built entry && is_within entry then Some (Alter (Make entry)) else None

-- a row of slices, which a change can have
abbrev pub is_built_row : Row → Bool
is_built_row row = is_of_slices row && is_short_row row

-- such a row more for a volume of the local database
abbrev pub attach_of : VolName → Row → Option Command
attach_of name row = if is_none name.set && is_built_row row then Some (Alter (Attach name.volume row)) else None

-- these volumes and pools of the local database go, which a change can have
abbrev pub clear_of : Option (List ℕ) → List Named → Bool → Option Command
clear_of None names below = if is_few names then Some (Alter (Clear names below)) else None
clear_of (Some set) names below = None

-- the command where it is of the local database
abbrev pub on_local : Option (List ℕ) → Command → Option Command
on_local None command = Some command
on_local (Some set) command = None

-- of the local database, as md.tab text
abbrev pub print_of : Option (List ℕ) → List Named → Bool → Option Command
print_of None names true = Some (Print names)
print_of set names printed = None

-- The commands that are built, among all that a line may ask: `metadb -a [-f] [-c COUNT] [-l BLOCKS] SLICE ..`, `metadb -a [-f] mddbNN`, `metadb -d [-f] SLICE ..`,
-- `metainit [-f] dN NUMSTRIPES ..` of slices, without `-h`, whose `-f` changes nothing, `metattach [-i SIZE] dN SLICE ..`, `metaclear [-f] [-r] NAME ..`, `metaclear -a [-f]`, `read`, `write`, `fill`, and `metastat -p [NAME ..]`.
abbrev pub built_of : Wanted → Option Command
built_of (wanted.AddReplicas slices options force) = Some (creation_of slices options.count options.blocks force)
built_of (wanted.AddListed number force) = Some (AddListed number force)
built_of (wanted.DeleteReplicas slices force) = Some (DropPlaces slices force)
built_of (wanted.Make entry force) = make_of entry
built_of (wanted.Attach volume components interlace) = attach_of volume (record { components = components; interlace = interlace })
built_of (wanted.Clear set names below) = clear_of set names below
built_of (wanted.ClearAll set) = on_local set (Alter ClearAll)
built_of (wanted.Read volume at count) = on_local volume.set (Read volume.volume at count)
built_of (wanted.Write volume at block) = on_local volume.set (Write volume.volume at (One block))
built_of (wanted.Fill volume at count byte) = on_local volume.set (Write volume.volume at (Filled count byte))
built_of (wanted.Status set names printed) = print_of set names printed
built_of _ = None

-- the line asks for a command that is built
pub record IsCommand (text : List ℕ) (command : Command) : Type 0 where
  pub asked : Wanted
  pub line : IsAsked text (grammar.Command asked)
  pub built : built_of asked ≡ Some command

abbrev pub IsLine : List ℕ → Line → Type 0
IsLine text Boot = IsAlone text × IsAsked text grammar.Boot
IsLine text (Tab lines) = text ≡ tab_text lines
IsLine text (Exec command) = IsAlone text × IsCommand text command

-- the text is none of these, or memory is wanting
abbrev pub IsFaultOf : List ℕ → WordsFault → Type 0
IsFaultOf text BadLine = (line : Line) → IsLine text line → ⊥
IsFaultOf text Memory = Unit {0}

-- so many replicas a line may put on each slice
abbrev pub IsCount : ℕ → Type 0
IsCount count = (1 ≤ count) × (count ≤ 50)

-- blocks that a replica may have
abbrev pub IsLength : ℕ → Type 0
IsLength blocks = (16 ≤ blocks) × (blocks ≤ 8192)

-- the blocks that are to be written
abbrev pub blocks_of : Written → List (List ℕ)
blocks_of (One block) = block ∷ []
blocks_of (Filled count byte) = replicate count (replicate 512 byte)

-- what each command of a line keeps
abbrev pub IsInForm : Command → Type 0
IsInForm (AddPlaces slices force count blocks) = (1 ≤ length slices) × IsCount count × IsLength blocks
IsInForm (AddListed number force) = Unit {0}
IsInForm (DropPlaces slices force) = 1 ≤ length slices
IsInForm (Alter (Make entry)) = (is_built entry ≡ true) × (is_within entry ≡ true)
IsInForm (Alter (Attach volume row)) = (is_of_slices row ≡ true) × (is_short_row row ≡ true)
IsInForm (Alter (Clear names below)) = is_few names ≡ true
IsInForm (Alter ClearAll) = Unit {0}
IsInForm (Read volume at count) = 1 ≤ count
IsInForm (Write volume at what) = 1 ≤ length (blocks_of what)
IsInForm (Print names) = Unit {0}
