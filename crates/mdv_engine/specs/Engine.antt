-- What an engine keeps, what its boots answer, and why blocks and changes are refused.
use Rattle.std.specs.Prelude.{◌≡◌, ◌⊎◌, ◌+◌, ◌*◌, ◌<◌, ◌≤◌, ℕ, Bool, true, List, [], length, Contains, Option, Some, None, IfSome, Result, Ok, Err}
use Rattle.mdv_engine.specs.Below.{Alteration, Answer, AreCalm, AreLaid, BootEnd, PlanChange, CommitFault, CreateFault, DriveNo, Drives, Geometry, Host, IoFault, IsOfGeometry, IsUpBy, Memory, Opened, OutOfMemory, Outcomes, Refusal, Replica, ReplicaFull, Site, SliceLine, Table, VolId, answered_by, drives_of, has_drive, key_of, opened_by, replicas_of, shortage, AreInForm}
pub use Rattle.mdv_engine_law.specs.Commands.{FailedBlocks, FailedWrite}
use Rattle.mdv_base.specs.Order.{first_refusal}
use Rattle.mdv_keeping.specs.Keeping.{IsStepOf}
use Rattle.mdv_store_law.specs.Changes.{IsAsked}
use Rattle.mdv_store_law.specs.Log.{HasOneList}
use Rattle.mdv_engine_law.specs.Altering.{Alters, change_of, table_by}
use Rattle.mdv_engine_law.specs.Answers.{accepted, refusing}
use Rattle.mdv_engine_law.specs.Refusals.{Case, blocks_refusal, held_of_alteration, told_by_table, transfer_refusal}
use Rattle.mdv_engine_law.specs.Replies.{HasEndCause}
use Rattle.mdv_engine_law.specs.declared.answer.Answer.TheVariants.{Over}
use Rattle.mdv_engine_law.specs.declared.answer.Ended.{Ended}
use Rattle.mdv_engine_law.specs.declared.answer.Ended.TheVariants as ended
use Rattle.mdv_store.specs.declared.creating.CreateFault.TheVariants as unmade
use Rattle.mdv_store.specs.declared.store.CommitFault.TheVariants as unwritten
use Rattle.mdv_engine.specs.declared.engine.Engine.{Engine}

-- by what an engine judges a command
abbrev pub case_at : Engine → Case
case_at engine = record { host = engine.host; memory = engine.state }

-- the replica lies on one of the slices where a boot looks, within it
pub record LiesOn (site : Site) (r : Replica) : Type 0 where
  pub one_of : Contains site.lines r.line
  pub within : 16 + r.number * r.first.blocks + r.first.blocks ≤ r.line.at.blocks

-- The database is the host's own, of some places, fifty at most, in one list; of that at least half is active; the table is one of the host's table of drives, and the replicas at its active places lie
-- within their drives, where the host's may.
pub record IsHeldBy (host : Host) (o : Opened) : Type 0 where
  pub its : o.key ≡ key_of host
  pub some : 1 ≤ length o.seats
  pub few : length o.seats ≤ 50
  pub one : HasOneList o.table
  pub half : shortage o ≡ None
  pub of_geometry : IsOfGeometry host.drives o.table
  pub laid : AreLaid host.site.sizes o.seats
  pub seated : (r : Replica) → Contains (replicas_of o.seats) r → LiesOn host.site r

-- so it is of the open database; and each entry of replicas that is kept has one slice or more, and numbers in their bounds
pub record IsWell (host : Host) (memory : Memory) : Type 0 where
  pub database : IfSome memory.opened (IsHeldBy host)
  pub entries : AreInForm memory.entries

-- the database, where its table is one of the table of drives
abbrev pub IsFitting : Geometry → Opened → Option Opened → Type 0
IsFitting g o (Some kept) = (kept ≡ o) × IsOfGeometry g o.table
IsFitting g o None = IsOfGeometry g o.table → ⊥

-- the drives on which the active places of the open database lie
abbrev pub drives_open : Option Opened → List DriveNo
drives_open None = []
drives_open (Some o) = drives_of o.seats

-- what a boot came to, as an answer
abbrev pub boot_answer : {T : Type 0} → Result T Ended → Answer
boot_answer (Ok booted) = accepted
boot_answer (Err end) = Over end

-- Of each list of a database that a boot opened at least half is active; no call failed on the drive of any of them, and it is up.
pub record IsOpenBy (calls : Outcomes) (up : Drives) (o : Opened) : Type 0 where
  pub half : shortage o ≡ None
  pub calm : (drive : DriveNo) → Contains (drives_of o.seats) drive → (calls drive.0).none
  pub are_up : (drive : DriveNo) → Contains (drives_of o.seats) drive → has_drive up drive ≡ true

-- a boot that is answered, and left this in memory: which drives are up and whether it is clean, it tells by the calls that failed
pub record IsAnsweredBy (calls : Outcomes) (host : Host) (memory : Memory) : Type 0 where
  pub end : BootEnd
  pub answer_is : answered_by end ≡ accepted
  pub opened_is : memory.opened ≡ opened_by end
  pub up : IsUpBy calls host end memory.up memory.clean
  pub opened : IfSome memory.opened (IsOpenBy calls memory.up)

-- a call failed on the drive of one of the slices where a boot looks for replicas
pub record FailedOnSite (calls : Outcomes) (host : Host) : Type 0 where
  pub line : SliceLine
  pub one_of : Contains host.site.lines line
  pub here : (calls line.at.drive.0).some

-- so it did, and fewer than half of a list are active
abbrev pub IsLostOnSite : Outcomes → Host → ℕ → ℕ → Type 0
IsLostOnSite calls host active listed = FailedOnSite calls host × (2 * active < listed)

-- one that isn't, by the calls that failed, and its numbers
pub record IsEndedBy (calls : Outcomes) (host : Host) (end : Ended) : Type 0 where
  pub came : BootEnd
  pub answer_is : answered_by came ≡ Over end
  pub up : (up : Drives) × (clean : Bool) × IsUpBy calls host came up clean
  pub cause : HasEndCause (FailedOnSite calls host) end

-- by which calls a boot came to its answer
abbrev pub HasBootCause : {T : Type 0} → Outcomes → Host → Memory → Result T Ended → Type 0
HasBootCause calls host memory (Ok booted) = IsAnsweredBy calls host memory
HasBootCause calls host memory (Err end) = IsEndedBy calls host end

-- as many blocks as are read or written at once
pub record IsCount (count : ℕ) : Type 0 where
  pub least : 1 ≤ count
  pub most : count ≤ 1024

-- why blocks aren't read or written: the first cause that refuses them; or nothing does, the volume has them, and calls on drives of theirs failed in that way
abbrev pub HasBlocksCause : (Outcomes → Host → Memory → VolId → ℕ → ℕ → Type 0) → Outcomes → Host → Memory → VolId → ℕ → ℕ → Refusal → Type 0
HasBlocksCause Failed calls host memory volume at count refusal =
    (AreCalm calls × (blocks_refusal host memory.opened volume (at + count) ≡ Some refusal)) ⊎ (Failed calls host memory volume at count × (blocks_refusal host memory.opened volume (at + count) ≡ None) × (refusal ≡ IoFault))

-- why a read isn't told: the first cause that refuses it; or nothing does, and a call on a drive of its blocks failed, or memory was wanting
abbrev pub HasReadCause : Outcomes → Host → Memory → VolId → ℕ → ℕ → Refusal → Type 0
HasReadCause calls host memory volume at count refusal =
    (AreCalm calls × (transfer_refusal host memory.opened volume at count ≡ Some refusal))
    ⊎ ((FailedBlocks calls host memory volume at count × (transfer_refusal host memory.opened volume at count ≡ None) × (refusal ≡ IoFault)) ⊎ (AreCalm calls × (transfer_refusal host memory.opened volume at count ≡ None) × (refusal ≡ OutOfMemory)))

-- the table that the alteration makes of the open one, which says nothing against it
pub record IsNextTable (host : Host) (memory : Memory) (alteration : Alteration) (next : Table) : Type 0 where
  pub o : Opened
  pub opened : memory.opened ≡ Some o
  pub change : PlanChange
  pub asks : Alters alteration change
  pub asked : IsAsked change
  pub allowed : told_by_table host o change ≡ None
  pub is : next ≡ table_by host.drives alteration o.table
  pub step : IsStepOf host.drives change o.table next

-- Why there is none: the first cause that refuses it, be it that the record would be too long or not; or memory was wanting.
abbrev pub HasChangeCause : Host → Memory → Alteration → Refusal → Type 0
HasChangeCause host memory alteration refusal =
    (first_refusal (held_of_alteration host memory.opened (change_of alteration)) ≡ Some refusal) ⊎ ((o : Opened) × (memory.opened ≡ Some o) × (refusal ≡ OutOfMemory))

-- a table that may be committed to the open database: one of the host's table of drives, with the lists that it has
pub record IsCommittable (host : Host) (o : Opened) (next : Table) : Type 0 where
  pub of_geometry : IsOfGeometry host.drives next
  pub lists : next.plan.lists ≡ o.table.plan.lists

-- what is answered where a database isn't made
abbrev pub answer_of : CreateFault → Answer
answer_of unmade.Failed = refusing IoFault
answer_of (unmade.Lost active listed) = Over (ended.Lost active listed)
answer_of unmade.Memory = refusing OutOfMemory

-- and where a table isn't committed
abbrev pub commit_answer : CommitFault → Answer
commit_answer (unwritten.Lost active listed) = Over (ended.Lost active listed)
commit_answer (unwritten.TooLong fault) = refusing (ReplicaFull fault.bytes fault.room)
commit_answer unwritten.Spent = Over ended.Spent
