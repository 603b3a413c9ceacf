-- What `metadb -a mddbNN` asks: what the first entry of that number says, of those of the last `tab` block.
use Rattle.std.specs.Prelude.{◌≡◌, ◌≤◌, ◌==◌, ℕ, Bool, false, Option, None, Some, List, length}
use Rattle.std.specs.List.{find}
use Rattle.mdv_base.specs.declared.drive.SliceName.{SliceName}
use Rattle.mdv_tab.specs.declared.entry.Entry.{Entry}
use Rattle.mdv_tab.specs.declared.entry.Entry.TheVariants as entry
use Rattle.mdv_words.specs.declared.command.Command.{Command}
use Rattle.mdv_words.specs.declared.command.Command.TheVariants.{AddListed, AddPlaces}
use Rattle.mdv_words.specs.Line.{IsCount, IsLength, blocks_or_default, count_or_default}

-- so many replicas of so many blocks on each of these slices
pub record Replicas : Type 0 where
  pub slices : List SliceName
  pub count : ℕ
  pub blocks : ℕ

-- one slice or more, and numbers that replicas may have
abbrev pub AreFormed : Replicas → Type 0
AreFormed r = (1 ≤ length r.slices) × IsCount r.count × IsLength r.blocks

-- an entry of replicas with that number
abbrev pub is_listed : ℕ → Entry → Bool
is_listed number (entry.Replicas own options slices) = own == number
is_listed number other = false

-- what an entry of replicas says
abbrev pub said_by : Option Entry → Option Replicas
said_by (Some (entry.Replicas own options slices)) = Some (record { slices = slices; count = count_or_default options.count; blocks = blocks_or_default options.blocks })
said_by other = None

abbrev pub listed_by : List Entry → ℕ → Option Replicas
listed_by entries number = said_by (find (is_listed number) entries)

-- as these entries say it
abbrev pub AreInForm : List Entry → Type 0
AreInForm entries = (number : ℕ) (r : Replicas) → listed_by entries number ≡ Some r → AreFormed r

-- without such an entry it stays as it is
abbrev pub as_listed : ℕ → Bool → Option Replicas → Command
as_listed number force (Some r) = AddPlaces r.slices force r.count r.blocks
as_listed number force None = AddListed number force

-- What a command means where these entries are kept: `metadb -a mddbNN` is `metadb -a` with what the entry says; each other one is itself.
abbrev pub meant : List Entry → Command → Command
meant entries (AddListed number force) = as_listed number force (listed_by entries number)
meant entries command = command
