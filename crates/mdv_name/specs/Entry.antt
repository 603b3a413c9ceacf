-- The lines of the table of drives, by the words that spell them.
use Rattle.std.specs.Prelude.{◌≡◌, ◌≢◌, ◌≤◌, ◌<◌, ◌^◌, ℕ, Bool, true, false, Option, Some, None}
use Rattle.std.specs.Prelude.{List, [], ◌∷◌, codes, decimal}
use Rattle.mdv_base.specs.Name.{IsName}
use Rattle.mdv_name.specs.declared.drive_line.DriveLine.{DriveLine}
use Rattle.mdv_name.specs.declared.drive_line.DriveKind.{DriveKind}
use Rattle.mdv_name.specs.declared.drive_line.DriveKind.TheVariants.{Own, Shared, Mediator}
use Rattle.mdv_name.specs.declared.entry.Entry.{Entry}
use Rattle.mdv_name.specs.declared.entry.Entry.TheVariants.{Host, Drive, Slice}
use Rattle.mdv_name.specs.declared.entry.SliceEntry.{SliceEntry}
use Rattle.mdv_name.specs.Drive.{IsSliceName, drive_text, slice_text}
use Rattle.mdv_name.specs.DriveIndex.{IsNamed}
use Rattle.mdv_name.specs.FileText.{IsFileText}

-- `shared` stands for all hosts, so no host is called so
abbrev pub IsHostName : List ℕ → Type 0
IsHostName name = IsName name × (name ≢ codes "shared")

abbrev pub drive_words : DriveKind → ℕ → List ℕ → List (List ℕ)
drive_words (Own drive host) blocks file = codes "drive" ∷ drive_text drive ∷ decimal blocks ∷ host ∷ file ∷ []
drive_words (Shared drive) blocks file = codes "drive" ∷ drive_text drive ∷ decimal blocks ∷ codes "shared" ∷ file ∷ []
drive_words (Mediator host) blocks file = codes "mediator" ∷ host ∷ decimal blocks ∷ file ∷ []

abbrev pub db_words : Bool → List (List ℕ)
db_words true = codes "db" ∷ []
db_words false = []

-- the words that spell a line
abbrev pub entry_words : Entry → List (List ℕ)
entry_words (Host name) = codes "host" ∷ name ∷ []
entry_words (Drive d) = drive_words d.kind d.blocks d.file
entry_words (Slice s) = codes "slice" ∷ slice_text s.name ∷ decimal s.start ∷ decimal s.blocks ∷ db_words s.db

-- a mediator's store has 32 blocks at least
abbrev pub least_blocks : DriveKind → ℕ
least_blocks (Own drive host) = 1
least_blocks (Shared drive) = 1
least_blocks (Mediator host) = 32

abbrev pub IsOwner : DriveKind → Type 0
IsOwner (Own drive host) = host ≢ codes "shared"
IsOwner (Shared drive) = Unit {0}
IsOwner (Mediator host) = Unit {0}

pub record IsDriveLine (d : DriveLine) : Type 0 where
  pub kind : IsNamed d.kind
  pub owner : IsOwner d.kind
  pub least : least_blocks d.kind ≤ d.blocks
  pub most : d.blocks ≤ 2 ^ 40
  pub file : IsFileText d.file

pub record IsSliceEntry (s : SliceEntry) : Type 0 where
  pub name : IsSliceName s.name
  pub start : s.start < 2 ^ 64
  pub least : 1 ≤ s.blocks
  pub blocks : s.blocks < 2 ^ 64

-- its names and numbers are in range
abbrev pub IsEntry : Entry → Type 0
IsEntry (Host name) = IsHostName name
IsEntry (Drive d) = IsDriveLine d
IsEntry (Slice s) = IsSliceEntry s

-- the drive of this name and owner
abbrev pub IsKindOf : DriveKind → List ℕ → List ℕ → Type 0
IsKindOf (Own drive host) name owner = (name ≡ drive_text drive) × (owner ≡ host) × IsNamed (Own drive host) × (host ≢ codes "shared")
IsKindOf (Shared drive) name owner = (name ≡ drive_text drive) × (owner ≡ codes "shared") × IsNamed (Shared drive)
IsKindOf (Mediator host) name owner = ⊥

-- the drive's line that these words spell, or none where they spell none
abbrev pub IsReadAs : Option DriveLine → List (List ℕ) → Type 0
IsReadAs (Some d) ws = IsDriveLine d × (ws ≡ entry_words (Drive d))
IsReadAs None ws = (d : DriveLine) → IsDriveLine d → ws ≡ entry_words (Drive d) → ⊥

-- the line that these words spell, or none where they spell none
abbrev pub IsEntryRead : Option Entry → List (List ℕ) → Type 0
IsEntryRead (Some e) ws = IsEntry e × (ws ≡ entry_words e)
IsEntryRead None ws = (e : Entry) → IsEntry e → ws ≡ entry_words e → ⊥
