-- What a call on the image of a drive leaves.
use Rattle.std.specs.Prelude.{◌≡◌, ◌≤◌, ◌+◌, ◌-◌, ◌^◌, ℕ, min, Result, OnOk, OnErr, IsOk, Option, Some, None}
use Rattle.mdv_files.specs.declared.disk.FileId.{FileId}
use Rattle.mdv_files.specs.declared.image.Image.{Image}
use Rattle.mdv_files.specs.declared.image.State.{State}
use Rattle.mdv_files.specs.declared.image.State.TheVariants.{Open, Shut, Lost, Foreign}

-- one more failure, where the count can rise
abbrev pub one_more : ℕ → ℕ
one_more faults = min (faults + 1) (2 ^ 64 - 1)

-- calls reach the file
abbrev pub IsOpen : State → Type 0
IsOpen (Open disk) = Unit {0}
IsOpen (Shut held) = ⊥
IsOpen (Lost id) = ⊥
IsOpen Foreign = ⊥

-- the file is held, and calls reach it no more
abbrev pub shut : State → State
shut (Open disk) = Shut (record { disk = disk })
shut (Shut held) = Shut held
shut (Lost id) = Lost id
shut Foreign = Foreign

abbrev pub open_id : State → Option FileId
open_id (Open disk) = Some disk.id
open_id (Shut held) = None
open_id (Lost id) = id
open_id Foreign = None

-- the file that calls reach, or may reach under no other name
abbrev pub id_of : Image → Option FileId
id_of image = open_id image.state

-- a read is answered only while the drive is open; one that failed is counted, and all else stays
pub record IsRead {T E : Type 0} (old : Image) (result : Result T E) (new : Image) : Type 0 where
  pub reached : IsOk result → IsOpen old.state
  pub done : OnOk result (new ≡ old)
  pub failed : OnErr result (new ≡ record old { faults = one_more old.faults })
  pub no_fewer : old.faults ≤ new.faults

-- a write or a sync is answered only while the drive is open; one that failed is counted, and shuts it
pub record IsChange {T E : Type 0} (old : Image) (result : Result T E) (new : Image) : Type 0 where
  pub reached : IsOk result → IsOpen old.state
  pub done : OnOk result (new ≡ old)
  pub failed : OnErr result (new ≡ record old { state = shut old.state; faults = one_more old.faults })
  pub no_fewer : old.faults ≤ new.faults
