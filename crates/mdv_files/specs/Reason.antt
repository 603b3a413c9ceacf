-- How the program tells why a drive is lost.
use Rattle.std.specs.Prelude.{◌≡◌, ℕ, Option, None, Some, List, ◌∷◌, ◌++◌, codes, decimal}
use Rattle.mdv_name.specs.Drive.{drive_text}
use Rattle.mdv_name.specs.declared.drive_line.DriveKind.{DriveKind}
use Rattle.mdv_name.specs.declared.drive_line.DriveKind.TheVariants.{Own, Shared, Mediator}
use Rattle.mdv_files.specs.declared.reason.Call.{Call}
use Rattle.mdv_files.specs.declared.reason.Call.TheVariants.{Open, Look, Remember, Lock, Sync}
use Rattle.mdv_files.specs.declared.reason.Reason.{Reason}
use Rattle.mdv_files.specs.declared.reason.Reason.TheVariants.{Missing, NoPermission, ReadOnly, NotADisk, OtherLength, SameFile, InUse, FailedBefore, BadPath, System}

abbrev pub drive_name : DriveKind → List ℕ
drive_name (Own drive host) = drive_text drive
drive_name (Shared drive) = drive_text drive
drive_name (Mediator host) = codes "mediator " ++ host

-- what the system failed to do
abbrev pub call_text : Call → List ℕ
call_text Open = codes "can't be opened"
call_text Look = codes "can't be looked at"
call_text Remember = codes "drives.failed or the boot id can't be read"
call_text Lock = codes "can't be locked"
call_text Sync = codes "can't be synced"

-- the words of a reason; the system's own aren't known
abbrev pub reason_text : Reason → Option (List ℕ)
reason_text Missing = Some (codes "missing")
reason_text NoPermission = Some (codes "no permission")
reason_text ReadOnly = Some (codes "read-only")
reason_text NotADisk = Some (codes "not a file or device")
reason_text (OtherLength bytes wanted) = Some (codes "has " ++ decimal bytes ++ codes " bytes and the table says " ++ decimal wanted)
reason_text (SameFile drive) = Some (codes "the same file as drive " ++ drive_name drive)
reason_text InUse = Some (codes "in use by another run")
reason_text FailedBefore = Some (codes "a write or sync on it failed since the system started; start the program through bin/metad")
reason_text BadPath = Some (codes "its path has a newline")
reason_text (System call error) = None

-- the line of a lost drive: its name, its file and why
abbrev pub lost_words : DriveKind → List ℕ → Option (List ℕ) → Option (List ℕ)
lost_words kind file None = None
lost_words kind file (Some why) = Some (drive_name kind ++ 32 ∷ file ++ 58 ∷ 32 ∷ why)

abbrev pub lost_text : DriveKind → List ℕ → Reason → Option (List ℕ)
lost_text kind file reason = lost_words kind file (reason_text reason)

-- a reason of an opening: the system's own words are those of that call
abbrev pub IsOpeningReason : Reason → Type 0
IsOpeningReason Missing = Unit {0}
IsOpeningReason NoPermission = Unit {0}
IsOpeningReason ReadOnly = Unit {0}
IsOpeningReason (System call told) = call ≡ Open
IsOpeningReason _ = ⊥
