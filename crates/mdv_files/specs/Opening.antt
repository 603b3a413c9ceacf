-- Which images become drives when a run starts.
use Rattle.std.specs.Prelude.{◌≡◌, ◌≢◌, ◌*◌, ◌+◌, ℕ, Bool, false, true, not, None, Some, List, [], ◌∷◌, All, map, slice_get, Contains}
use Rattle.std.specs.String.{string_bytes}
use Rattle.mdv_home.specs.Drives.{is_own}
use Rattle.mdv_name.specs.Lines.{lines}
use Rattle.mdv_name.specs.declared.drive_line.DriveKind.{DriveKind}
use Rattle.mdv_name.specs.declared.drive_line.DriveLine.{DriveLine}
use Rattle.mdv_files.specs.declared.disk.FileId.{FileId}
use Rattle.mdv_files.specs.declared.disk.Seen.{Seen}
use Rattle.mdv_files.specs.declared.disk.Unopened.{Unopened}
use Rattle.mdv_files.specs.declared.disk.Unopened.TheVariants as unopened
use Rattle.mdv_files.specs.declared.image.Image.{Image}
use Rattle.mdv_files.specs.declared.image.State.{State}
use Rattle.mdv_files.specs.declared.image.State.TheVariants.{Open, Shut, Lost, Foreign}
use Rattle.mdv_files.specs.declared.journal.Journal.{Journal}
use Rattle.mdv_files.specs.declared.journal.Note.{Note}
use Rattle.mdv_files.specs.declared.reason.Reason.{Reason}
use Rattle.mdv_files.specs.declared.reason.Reason.TheVariants.{OtherLength, SameFile}
use Rattle.mdv_files.specs.Image.{id_of}

-- the drive at this place has the file
abbrev pub HasFileAt : List Image → ℕ → FileId → Type 0
HasFileAt images place id = slice_get (map id_of images) place ≡ Some (Some id)

-- none of these drives has it
abbrev pub HasNoFile : List Image → FileId → Type 0
HasNoFile images id = All (λ image. id_of image ≢ Some id) images

-- its file, where it is open, is none of theirs
abbrev pub IsFresh : List Image → Image → Type 0
IsFresh images image = (id : FileId) → id_of image ≡ Some id → HasNoFile images id

-- no two open drives have one file
abbrev pub HaveOwnFiles : List Image → Type 0
HaveOwnFiles images = (i k : ℕ) (id : FileId) → HasFileAt images i id → HasFileAt images k id → i ≡ k

-- it tells no file, or this one
abbrev pub IsOfFile : FileId → Unopened → Type 0
IsOfFile id (unopened.Lost reason None) = Unit {0}
IsOfFile id (unopened.Lost reason (Some other)) = other ≡ id
IsOfFile id unopened.Memory = Unit {0}

abbrev pub IsNoFile : Unopened → Type 0
IsNoFile (unopened.Lost reason id) = id ≡ None
IsNoFile unopened.Memory = Unit {0}

-- it tells no file, or one that none of these drives has
abbrev pub IsUnseen : List Image → Unopened → Type 0
IsUnseen images (unopened.Lost reason None) = Unit {0}
IsUnseen images (unopened.Lost reason (Some id)) = HasNoFile images id
IsUnseen images unopened.Memory = Unit {0}

-- no line remembers that a write or a sync of the image failed
abbrev pub IsTrusted : Journal → Note → Type 0
IsTrusted journal note = Contains (lines journal.text.items) (string_bytes note.line) → ⊥

-- what is seen of a file that may be a drive of so many blocks
pub record IsSound (seen : Seen) (blocks : ℕ) : Type 0 where
  pub length : seen.bytes ≡ blocks * 512
  pub own : seen.twin ≡ None

-- a reason that is true of what is seen
abbrev pub IsReason : Seen → ℕ → Reason → Type 0
IsReason seen blocks (OtherLength bytes wanted) = (bytes ≡ seen.bytes) × (wanted ≡ blocks * 512) × (bytes ≢ wanted)
IsReason seen blocks (SameFile drive) = seen.twin ≡ Some drive
IsReason seen blocks _ = ⊥

abbrev pub lost_one : State → ℕ
lost_one (Lost id) = 1
lost_one (Open disk) = 0
lost_one (Shut held) = 0
lost_one Foreign = 0

-- how many drives are lost
abbrev pub lost_count : List Image → ℕ
lost_count [] = 0
lost_count (image ∷ images) = lost_one image.state + lost_count images

abbrev pub is_foreign : State → Bool
is_foreign Foreign = true
is_foreign (Open disk) = false
is_foreign (Shut held) = false
is_foreign (Lost id) = false

-- the drive is an own one of the host that the words name, being one
abbrev pub is_own_by : List (List ℕ) → DriveKind → Bool
is_own_by (host ∷ []) kind = is_own host kind
is_own_by _ kind = false

-- which images are of drives that aren't the host's own
abbrev pub foreign_of : List Image → List Bool
foreign_of images = map (λ i. is_foreign i.state) images

-- which drives of a table those are
abbrev pub foreign_in : List (List ℕ) → List DriveLine → List Bool
foreign_in words drives = map (λ drive. not (is_own_by words drive.kind)) drives
