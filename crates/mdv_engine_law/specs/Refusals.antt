-- Why a command is refused before anything is done: each cause by itself, and the first of them in the one order.
use Rattle.std.specs.Prelude.{ℕ, Bool, true, false, not, ◌==◌, ◌&&◌, ◌||◌, ◌+◌, ◌*◌, nat_lt, if◌then◌else◌, List, [], ◌∷◌, ◌++◌, length, Option, None, Some, is_some}
use Rattle.std.specs.List.{list_any}
use Rattle.std.specs.Option.{is_none}
use Rattle.mdv_base.specs.Order.{first_refusal, where_so}
use Rattle.mdv_engine_law.specs.Below.{BadLine, Place, SliceName, VolId, Refusal, NoDatabase, NeedForce, Named, NoSuchVolume, NoSuchPool, NoSuchSlice, SliceInUse, TooSmall, TooMany, WrongKind, WrongState, OutOfRange, ReplicaFull, Down, SliceAt, record_bytes, PlanChange, Command, Read, Write, Opened, Absent, Inactive, StateWord, Drives, has_drive, AddListed, AddPlaces, DropPlaces, Map, blocks_of, map_of, Plan}
use Rattle.mdv_name.specs.SliceIndex.{same_slice, slice_at}
use Rattle.mdv_base.specs.declared.name.Named.TheVariants as named
use Rattle.mdv_change.specs.Change.{table_after}
use Rattle.mdv_components.specs.Bases.{volume_of}
use Rattle.mdv_keeping.specs.Refused.{refusal_in}
use Rattle.mdv_plan.specs.Slices.{meets_db}
use Rattle.mdv_words.specs.declared.command.Command.TheVariants as command
use Rattle.mdv_engine_law.specs.declared.host.Host.{Host}
use Rattle.mdv_engine_law.specs.Altering.{change_of}
use Rattle.mdv_engine_law.specs.Line.{Memory, record_room}
use Rattle.mdv_engine_law.specs.Places.{are_all, bytes_with, list_left, list_more, list_of, room_with}
use Rattle.mdv_store.specs.Shares.{short_in}
use Rattle.mdv_store.specs.declared.seats.Need.TheVariants.{Half}

-- what a command is judged by: the host, and what its engine has in memory
pub record Case : Type 0 where
  pub host : Host
  pub memory : Memory

-- it lies there, and isn't set aside for replicas
abbrev pub is_plain : Option SliceAt → Bool
is_plain None = false
is_plain (Some at) = not at.db

-- how many blocks the slice has
abbrev pub blocks_at : Option SliceAt → ℕ
blocks_at None = 0
blocks_at (Some at) = at.blocks

-- the places that the open database has already
abbrev pub places_open : Option Opened → List Place
places_open None = []
places_open (Some o) = list_of o

-- a replica of the open database lies on the slice
abbrev pub has_replica : Option Opened → SliceName → Bool
has_replica opened slice = list_any (λ (p : Place). same_slice p.slice slice) (places_open opened)

-- another slice that is set aside for replicas has a block of it, or it has a replica of the open database
abbrev pub is_taken : Case → SliceName → Bool
is_taken case slice = meets_db case.host.drives slice || has_replica case.memory.opened slice

-- one of them stands twice
abbrev pub is_doubled : List SliceName → Bool
is_doubled [] = false
is_doubled (slice ∷ slices) = list_any (same_slice slice) slices || is_doubled slices

abbrev pub is_missing : Host → SliceName → Bool
is_missing host slice = not (is_some (slice_at host.drives.slices slice))

-- it has too few blocks for so many replicas of so many blocks, in front of which lie 16
abbrev pub is_short : Host → ℕ → ℕ → SliceName → Bool
is_short host count blocks slice = nat_lt (blocks_at (slice_at host.drives.slices slice)) (16 + count * blocks)

-- Replicas on these slices, so many of so many blocks on each: no such slice; one for other uses; of a first database memory that isn't clean; more than fifty
-- places; a first database without force; a slice that meets another one for replicas, or has one, or is named twice; too few blocks.
abbrev pub held_of_replicas : Case → List SliceName → Bool → ℕ → ℕ → List Refusal
held_of_replicas case slices force count blocks =
    where_so (list_any (is_missing case.host) slices) NoSuchSlice
    ++ (where_so (list_any (λ slice. is_plain (slice_at case.host.drives.slices slice)) slices) WrongKind
    ++ (where_so (not (is_some case.memory.opened) && not case.memory.clean) (WrongState Down)
    ++ (where_so (nat_lt 50 (length (places_open case.memory.opened) + length slices * count)) TooMany
    ++ (where_so (not (is_some case.memory.opened) && not force) NeedForce
    ++ (where_so (list_any (is_taken case) slices || is_doubled slices) SliceInUse
    ++ where_so (list_any (is_short case.host count blocks) slices) TooSmall)))))

-- a record of both lists that is too long, where this list comes
abbrev pub held_of_lists : Opened → List Place → List Refusal
held_of_lists o list = where_so (nat_lt (room_with o list) (bytes_with o list)) (ReplicaFull (bytes_with o list) (room_with o list))

-- of so many places more on these slices
abbrev pub held_of_others : Option Opened → List SliceName → ℕ → ℕ → List Refusal
held_of_others None slices count blocks = []
held_of_others (Some o) slices count blocks = held_of_lists o (list_more slices count blocks (list_of o))

abbrev pub held_of_creation : Case → List SliceName → Bool → ℕ → ℕ → List Refusal
held_of_creation case slices force count blocks = held_of_replicas case slices force count blocks ++ held_of_others case.memory.opened slices count blocks

-- no place of the open database lies on the slice
abbrev pub is_without : Opened → SliceName → Bool
is_without o slice = not (list_any (λ (p : Place). same_slice p.slice slice) (list_of o))

-- whether the last boot brought the drive up on which the slice lies
abbrev pub is_up_at : Drives → Option SliceAt → Bool
is_up_at up None = false
is_up_at up (Some at) = has_drive up at.drive

abbrev pub is_down : Host → Drives → Place → Bool
is_down host up p = not (is_up_at up (slice_at host.drives.slices p.slice))

-- the list that would come
abbrev pub rest_of : Opened → List SliceName → List Place
rest_of o slices = list_left slices (list_of o)

-- the first of these places isn't the first one of its slice
abbrev pub is_behind : List Place → Bool
is_behind [] = false
is_behind (p ∷ ps) = not (p.start == 16)

-- What speaks against it by the state of places: a slice has none; of all places one whose drive the last boot didn't bring up; of the list that comes, which is the first place alone where all go, fewer than half
-- is active; and where all go, a first place that isn't the first one of its slice, which would be hidden by the wipes of those before it.
abbrev pub state_of_less : Case → Opened → List SliceName → Option StateWord
state_of_less case o slices =
    if list_any (is_without o) slices then Some Absent else
    if are_all o slices && list_any (is_down case.host case.memory.up) (list_of o) then Some Down else
    if is_some (short_in Half o.seats (rest_of o slices)) then Some Inactive else
    if are_all o slices && is_behind (list_of o) then Some Inactive else None

abbrev pub in_state : Option StateWord → List Refusal
in_state None = []
in_state (Some word) = WrongState word ∷ []

-- No replica any more on these slices: no such slice; one for other uses; the state of places; all places without force.
abbrev pub held_of_less : Case → Opened → List SliceName → Bool → List Refusal
held_of_less case o slices force =
    where_so (list_any (is_missing case.host) slices) NoSuchSlice
    ++ (where_so (list_any (λ slice. is_plain (slice_at case.host.drives.slices slice)) slices) WrongKind
    ++ (in_state (state_of_less case o slices)
    ++ where_so (are_all o slices && not force) NeedForce))

-- what is told where nothing else speaks against it that this list comes beside that of the open database, or these places
abbrev pub told_of_lists : Opened → List Place → Option Refusal
told_of_lists o list = if nat_lt (room_with o list) (bytes_with o list) then Some (ReplicaFull (bytes_with o list) (room_with o list)) else None

abbrev pub told_of_others : Option Opened → List SliceName → ℕ → ℕ → Option Refusal
told_of_others None slices count blocks = None
told_of_others (Some o) slices count blocks = told_of_lists o (list_more slices count blocks (list_of o))

abbrev pub held_of_drop : Case → Option Opened → List SliceName → Bool → List Refusal
held_of_drop case None slices force = NoDatabase ∷ []
held_of_drop case (Some o) slices force = held_of_less case o slices force ++ held_of_lists o (rest_of o slices)

-- how long the record of the table would be that the change makes
abbrev pub bytes_after : Host → Opened → PlanChange → ℕ
bytes_after host o change = record_bytes (table_after host.drives o.table change)

-- what its table says against the change
abbrev pub told_by_table : Host → Opened → PlanChange → Option Refusal
told_by_table host o change = refusal_in host.drives host.site.drives o.table change

abbrev pub listed : Option Refusal → List Refusal
listed None = []
listed (Some refusal) = refusal ∷ []

-- A change of the open database: what its table says against it; a record that is too long.
abbrev pub held_of_change : Host → Option Opened → PlanChange → List Refusal
held_of_change host None change = NoDatabase ∷ []
held_of_change host (Some o) change =
    listed (told_by_table host o change) ++ where_so (nat_lt (record_room o) (bytes_after host o change)) (ReplicaFull (bytes_after host o change) (record_room o))

-- an entry that asks none isn't one that a line may have
abbrev pub held_of_alteration : Host → Option Opened → Option PlanChange → List Refusal
held_of_alteration host opened None = BadLine ∷ []
held_of_alteration host opened (Some change) = held_of_change host opened change

abbrev pub held_past : Option Map → ℕ → List Refusal
held_past None end = NoSuchVolume ∷ []
held_past (Some v) end = where_so (nat_lt v.blocks end) OutOfRange

-- Blocks of a volume up to that one: no such volume; a block past its end.
abbrev pub held_of_blocks : Host → Option Opened → VolId → ℕ → List Refusal
held_of_blocks host None volume end = NoDatabase ∷ []
held_of_blocks host (Some o) volume end = held_past (map_of host.drives o.table volume) end

-- Blocks to be read or written at once, 1,024 at most.
abbrev pub held_of_transfer : Host → Option Opened → VolId → ℕ → ℕ → List Refusal
held_of_transfer host opened volume at count = held_of_blocks host opened volume (at + count) ++ where_so (nat_lt 1024 count) TooMany

-- the plan doesn't have the volume of this name; and the name is a pool's
abbrev pub names_no_volume : Plan → Named → Bool
names_no_volume p (named.Volume number) = is_none (volume_of p number)
names_no_volume p (named.Pool number) = false

abbrev pub names_pool : Named → Bool
names_pool (named.Volume number) = false
names_pool (named.Pool number) = true

-- Names of what is to be printed: no such volume; no such pool, since there is none yet.
abbrev pub held_of_names : Plan → List Named → List Refusal
held_of_names p names = where_so (list_any (names_no_volume p) names) NoSuchVolume ++ where_so (list_any names_pool names) NoSuchPool

abbrev pub held_of_print : Option Opened → List Named → List Refusal
held_of_print None names = NoDatabase ∷ []
held_of_print (Some o) names = held_of_names o.table.plan names

abbrev pub change_refusal : Host → Option Opened → PlanChange → Option Refusal
change_refusal host opened change = first_refusal (held_of_change host opened change)

abbrev pub blocks_refusal : Host → Option Opened → VolId → ℕ → Option Refusal
blocks_refusal host opened volume end = first_refusal (held_of_blocks host opened volume end)

abbrev pub print_refusal : Option Opened → List Named → Option Refusal
print_refusal opened names = first_refusal (held_of_print opened names)

abbrev pub transfer_refusal : Host → Option Opened → VolId → ℕ → ℕ → Option Refusal
transfer_refusal host opened volume at count = first_refusal (held_of_transfer host opened volume at count)

-- The refusals of a command whose causes hold. Of an entry there is one alone, that no such one is kept: where one is, the command is another one (`meant`).
abbrev pub held : Case → Command → List Refusal
held case (AddPlaces slices force count blocks) = held_of_creation case slices force count blocks
held case (AddListed number force) = BadLine ∷ []
held case (DropPlaces slices force) = held_of_drop case case.memory.opened slices force
held case (command.Alter alteration) = held_of_alteration case.host case.memory.opened (change_of alteration)
held case (Read volume at count) = held_of_transfer case.host case.memory.opened volume at count
held case (Write volume at what) = held_of_transfer case.host case.memory.opened volume at (length (blocks_of what))
held case (command.Print names) = held_of_print case.memory.opened names

-- why a command is refused, if it is
abbrev pub refusal_of : Case → Command → Option Refusal
refusal_of case command = first_refusal (held case command)
