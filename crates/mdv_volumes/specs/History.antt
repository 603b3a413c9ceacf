-- What a host's drives have lived through: the databases that were begun there, the blocks of volumes, and what was done and isn't told.
use Rattle.std.specs.Prelude.{ℕ, zero, suc, ◌+◌, Bool, false, not, ◌&&◌, nat_le, if◌then◌else◌, List, [], ◌∷◌, ◌++◌, filter, length, take, drop, min}
use Rattle.mdv_volumes.specs.Below.{Change, DriveNo, Drives, Identity, Key, VolId, VolumeLog}
use Rattle.mdv_store_law.specs.Log as log
use Rattle.mdv_store_law.specs.Machine.{after_all, all_of}
use Rattle.mdv_volumes.specs.Databases.{Database, is_volume, same_key, with_creation, with_event}
use Rattle.mdv_volumes.specs.Events.{VolumeEvent, Issues, Answers, Flushes, Begins, Woke, AreReadable, log_after}
use Rattle.mdv_volumes.specs.Events as lives

-- what an `ok` acknowledges: a database, a change of its table, its end, blocks of a volume written, or told to hold these values
pub data Deed : Type 0 where
  Created : Key → Deed
  Changed : Key → Change → Deed
  Deleted : Key → Deed
  Wrote : Key → VolId → ℕ → List (List ℕ) → Deed
  Saw : Key → VolId → ℕ → List (List ℕ) → Deed

-- The databases; the log of each volume's blocks; writes that were answered and aren't on the disk; what was done and isn't told, ends of databases,
-- writes that are on the disk and reads; which drives the last boot of a key brought up and are steady since, and of how many first blocks of a volume one value was found since it began.
pub record History : Type 0 where
  pub databases : List Database
  pub volumes : Key → VolId → VolumeLog
  pub answered : List Deed
  pub untold : List Deed
  pub up : Key → Drives
  pub woken : Key → VolId → ℕ

pub data Event : Type 0 where
  -- the creation of a database is issued; an earlier one of the key, of which nobody was told, is over
  Creation : Key → Identity → Event
  -- an event of the log of the key's current database, which has this identity
  OfDatabase : Key → Identity → log.Event → Event
  -- one of the blocks of a volume
  OfVolume : Key → VolId → VolumeEvent → Event
  -- blocks of a volume were read, and held these values
  Reads : Key → VolId → ℕ → List (List ℕ) → Event
  -- the newline of a write's `ok` was told, which is at this place of the deeds that aren't told
  Acknowledges : ℕ → Key → VolId → ℕ → List (List ℕ) → Event
  -- that of a read's `ok` was told, behind these values
  Shows : ℕ → Key → VolId → ℕ → List (List ℕ) → Event
  -- that of a deletion's was told
  Deletes : ℕ → Key → Event
  -- a boot of the key begins, which brings these drives up
  Boots : Key → Drives → Event
  -- a drive that the last boot of the key brought up is unsteady from now on: a crash may leave another value of a block there than a read gives
  Unsettles : Key → DriveNo → Event
  -- a run ends; what it did and didn't tell, nobody will be told
  Stops : Event
  -- drives begin anew, between two runs
  Crashes : Event

-- each part of a history by itself
abbrev pub databases_after : List Database → Event → List Database
databases_after ds (Creation key identity) = with_creation key identity ds
databases_after ds (OfDatabase key identity e) = with_event key e ds
databases_after ds (OfVolume key volume e) = ds
databases_after ds (Reads key volume at blocks) = ds
databases_after ds (Acknowledges place key volume at blocks) = ds
databases_after ds (Shows place key volume at blocks) = ds
databases_after ds (Deletes place key) = ds
databases_after ds (Boots key up) = ds
databases_after ds (Unsettles key drive) = ds
databases_after ds Stops = ds
databases_after ds Crashes = ds

-- what happens to one volume
abbrev pub events_at : Key → VolId → Event → List VolumeEvent
events_at key volume (Creation other identity) = []
events_at key volume (OfDatabase other identity e) = []
events_at key volume (OfVolume other beside e) = if is_volume key volume other beside then e ∷ [] else []
events_at key volume (Reads other beside at blocks) = []
events_at key volume (Acknowledges place other beside at blocks) = []
events_at key volume (Shows place other beside at blocks) = []
events_at key volume (Deletes place other) = []
events_at key volume (Boots other up) = []
events_at key volume (Unsettles other drive) = []
events_at key volume Stops = []
events_at key volume Crashes = lives.Crashes ∷ []

abbrev pub events_of : Key → VolId → List Event → List VolumeEvent
events_of key volume = all_of (events_at key volume)

abbrev pub volumes_after : (Key → VolId → VolumeLog) → Event → Key → VolId → VolumeLog
volumes_after volumes e key volume = lives.log_after_all (volumes key volume) (events_at key volume e)

-- a write of blocks that all lie among so many
abbrev pub is_within : Key → VolId → ℕ → ℕ → Deed → Bool
is_within key volume from count (Created other) = false
is_within key volume from count (Changed other change) = false
is_within key volume from count (Deleted other) = false
is_within key volume from count (Wrote other beside at blocks) = is_volume key volume other beside && nat_le from at && nat_le (at + length blocks) (from + count)
is_within key volume from count (Saw other beside at blocks) = false

-- an answered write waits for its blocks to be put on the disk
abbrev pub answered_by : Key → VolId → VolumeEvent → List Deed → List Deed
answered_by key volume (Issues at blocks) deeds = deeds
answered_by key volume (Answers at blocks) deeds = Wrote key volume at blocks ∷ deeds
answered_by key volume (Flushes at count) deeds = filter (λ d. not (is_within key volume at count d)) deeds
answered_by key volume (Begins from logs) deeds = deeds
answered_by key volume lives.Crashes deeds = deeds
answered_by key volume (Woke count content) deeds = deeds

abbrev pub answered_after : List Deed → Event → List Deed
answered_after deeds (Creation key identity) = deeds
answered_after deeds (OfDatabase key identity e) = deeds
answered_after deeds (OfVolume key volume e) = answered_by key volume e deeds
answered_after deeds (Reads key volume at blocks) = deeds
answered_after deeds (Acknowledges place key volume at blocks) = deeds
answered_after deeds (Shows place key volume at blocks) = deeds
answered_after deeds (Deletes place key) = deeds
answered_after deeds (Boots key up) = deeds
answered_after deeds (Unsettles key drive) = deeds
answered_after deeds Stops = []
answered_after deeds Crashes = deeds

-- once they are there it can be told
abbrev pub flushed_by : Key → VolId → VolumeEvent → List Deed → List Deed
flushed_by key volume (Issues at blocks) answered = []
flushed_by key volume (Answers at blocks) answered = []
flushed_by key volume (Flushes at count) answered = filter (is_within key volume at count) answered
flushed_by key volume (Begins from logs) answered = []
flushed_by key volume lives.Crashes answered = []
flushed_by key volume (Woke count content) answered = []

-- once no image has a database its end can be told
abbrev pub gone_by : Key → log.Event → List Deed
gone_by key (log.Issued identity) = []
gone_by key (log.Writing mark asked before table) = []
gone_by key log.Written = []
gone_by key (log.Told which before) = []
gone_by key (log.Placing places) = []
gone_by key log.Clearing = []
gone_by key log.Gone = Deleted key ∷ []

-- all but the one at this place
abbrev pub without : ℕ → List Deed → List Deed
without place deeds = take place deeds ++ drop (place + 1) deeds

abbrev pub untold_after : List Deed → List Deed → Event → List Deed
untold_after answered untold (Creation key identity) = untold
untold_after answered untold (OfDatabase key identity e) = gone_by key e ++ untold
untold_after answered untold (OfVolume key volume e) = flushed_by key volume e answered ++ untold
untold_after answered untold (Reads key volume at blocks) = Saw key volume at blocks ∷ untold
untold_after answered untold (Acknowledges place key volume at blocks) = without place untold
untold_after answered untold (Shows place key volume at blocks) = without place untold
untold_after answered untold (Deletes place key) = without place untold
untold_after answered untold (Boots key up) = untold
untold_after answered untold (Unsettles key drive) = untold
untold_after answered untold Stops = []
untold_after answered untold Crashes = untold

abbrev pub woken_by : VolumeEvent → ℕ → ℕ
woken_by (Issues at blocks) count = count
woken_by (Answers at blocks) count = count
woken_by (Flushes at number) count = count
woken_by (Begins from logs) count = min count from
woken_by lives.Crashes count = count
woken_by (Woke number content) count = number

abbrev pub woken_after : (Key → VolId → ℕ) → Event → Key → VolId → ℕ
woken_after woken (Creation key identity) other beside = woken other beside
woken_after woken (OfDatabase key identity e) other beside = woken other beside
woken_after woken (OfVolume key volume e) other beside = if is_volume key volume other beside then woken_by e (woken other beside) else woken other beside
woken_after woken (Reads key volume at blocks) other beside = woken other beside
woken_after woken (Acknowledges place key volume at blocks) other beside = woken other beside
woken_after woken (Shows place key volume at blocks) other beside = woken other beside
woken_after woken (Deletes place key) other beside = woken other beside
woken_after woken (Boots key up) other beside = if same_key key other then 0 else woken other beside
woken_after woken (Unsettles key drive) other beside = woken other beside
woken_after woken Stops other beside = 0
woken_after woken Crashes other beside = 0

-- all but the drive of that number
abbrev pub without_at : ℕ → Drives → Drives
without_at n [] = []
without_at zero (has ∷ set) = false ∷ set
without_at (suc n) (has ∷ set) = has ∷ without_at n set

abbrev pub without_drive : Drives → DriveNo → Drives
without_drive set drive = without_at drive.0 set

abbrev pub up_after : (Key → Drives) → Event → Key → Drives
up_after up (Creation key identity) other = up other
up_after up (OfDatabase key identity e) other = up other
up_after up (OfVolume key volume e) other = up other
up_after up (Reads key volume at blocks) other = up other
up_after up (Acknowledges place key volume at blocks) other = up other
up_after up (Shows place key volume at blocks) other = up other
up_after up (Deletes place key) other = up other
up_after up (Boots key drives) other = if same_key key other then drives else up other
up_after up (Unsettles key drive) other = if same_key key other then without_drive (up other) drive else up other
up_after up Stops other = up other
up_after up Crashes other = up other

abbrev pub history_after : History → Event → History
history_after h e = record {
  databases = databases_after h.databases e;
  volumes = volumes_after h.volumes e;
  answered = answered_after h.answered e;
  untold = untold_after h.answered h.untold e;
  up = up_after h.up e;
  woken = woken_after h.woken e;
}

abbrev pub history_after_all : History → List Event → History
history_after_all = after_all history_after
