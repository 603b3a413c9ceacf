-- What a refusal says that comes before anything is done: nothing of a failed call, and nothing of want of memory.
use Rattle.std.proofs.Common.{◌≡◌, ◌+◌, ◌*◌, ◌++◌, ◌&&◌, ◌||◌, not, ℕ, Bool, true, false, List, [], length, Option, Some, None, All, subst}
use Rattle.std.proofs.lemmas.List.Elements.{All-append, All-cons, All-nil}
use Rattle.std.specs.List.{list_any}
use Rattle.std.specs.Prelude.{nat_lt, is_some}
use Rattle.mdv_base.specs.Order.{order, where_so}
use Rattle.mdv_base.specs.declared.refusal.Refusal.TheVariants.{NeedForce, NoDatabase, NoSuchSlice, NoSuchVolume, OutOfRange, ReplicaFull, SliceInUse, TooMany, TooSmall, WrongKind, WrongState}
use Rattle.mdv_base.proofs.Order.{first_holds}
use Rattle.mdv_name.specs.SliceIndex.{slice_at}
use Rattle.mdv_engine_law.specs.Below.{Down, Place, StateWord, map_of}
use Rattle.mdv_engine_law.specs.Places.{are_all, bytes_with, list_more, list_of, room_with}
use Rattle.mdv_engine_law.specs.Answers.{IsMereRefusal, refusing}
use Rattle.mdv_engine_law.specs.Refusals.{Case, held_of_drop, held_of_less, held_of_lists, held_of_others, in_state, rest_of, state_of_less, blocks_refusal, held_of_blocks, held_of_creation, held_of_replicas, held_of_transfer, held_past, is_doubled, is_missing, is_plain, is_short, is_taken, places_open, refusal_of, transfer_refusal}
use Rattle.mdv_engine_law.specs.Commands.{blame_of, blame_of_places}
use Rattle.mdv_engine_law.specs.Replies.{Blame, HasAnswerCause}
use Rattle.mdv_engine.specs.Below.{AreCalm, Outcomes, lines_asked, SliceName, VolId, Refusal, IoFault, OutOfMemory, Host, Map, Memory, Opened, AddPlaces, DropPlaces}

-- a refusal that tells of no failed call and of no want of memory
abbrev pub IsJudged : Refusal → Type 0
IsJudged IoFault = ⊥
IsJudged OutOfMemory = ⊥
IsJudged other = Unit {0}

-- so it is a mere refusal
pub judged_mere : (r : Refusal) → IsJudged r → IsMereRefusal (refusing r)
judged_mere IoFault judged = absurd judged
judged_mere OutOfMemory judged = absurd judged
judged_mere other judged = tt

-- and no failed call
pub judged_no_fault : (r : Refusal) → IsJudged r → r ≡ IoFault → ⊥
judged_no_fault r judged fault = subst IsJudged fault judged

pub where_judged : (holds : Bool) (r : Refusal) → IsJudged r → All IsJudged (where_so holds r)
where_judged true r judged = All-cons IsJudged r [] judged (All-nil IsJudged)
where_judged false r judged = All-nil IsJudged

-- what blocks are refused for is such a one
past_judged : (v : Option Map) (end : ℕ) → All IsJudged (held_past v end)
past_judged None end = All-cons IsJudged NoSuchVolume [] tt (All-nil IsJudged)
past_judged (Some v) end = where_judged (nat_lt v.blocks end) OutOfRange tt

blocks_held : (host : Host) (opened : Option Opened) (volume : VolId) (end : ℕ) → All IsJudged (held_of_blocks host opened volume end)
blocks_held host None volume end = All-cons IsJudged NoDatabase [] tt (All-nil IsJudged)
blocks_held host (Some o) volume end = past_judged (map_of host.drives o.table volume) end

pub blocks_judged : (host : Host) (opened : Option Opened) (volume : VolId) (end : ℕ) (r : Refusal) → blocks_refusal host opened volume end ≡ Some r → IsJudged r
blocks_judged host opened volume end r is = first_holds IsJudged order (held_of_blocks host opened volume end) r (blocks_held host opened volume end) is

pub transfer_judged : (host : Host) (opened : Option Opened) (volume : VolId) (at count : ℕ) (r : Refusal) → transfer_refusal host opened volume at count ≡ Some r → IsJudged r
transfer_judged host opened volume at count r is =
    first_holds IsJudged order (held_of_transfer host opened volume at count) r
    (All-append IsJudged (held_of_blocks host opened volume (at + count)) (where_so (nat_lt 1024 count) TooMany) (blocks_held host opened volume (at + count)) (where_judged (nat_lt 1024 count) TooMany tt)) is

-- and what a creation is refused for
and_judged : (holds : Bool) (r : Refusal) (rest : List Refusal) → IsJudged r → All IsJudged rest → All IsJudged (where_so holds r ++ rest)
and_judged true r rest judged behind = All-cons IsJudged r rest judged behind
and_judged false r rest judged behind = behind

creation_held : (gone plain unread many unforced used small : Bool)
    → All IsJudged (where_so gone NoSuchSlice ++ (where_so plain WrongKind ++ (where_so unread (WrongState Down) ++ (where_so many TooMany ++ (where_so unforced NeedForce ++ (where_so used SliceInUse ++ where_so small TooSmall))))))
creation_held gone plain unread many unforced used small =
    let last = where_so small TooSmall in
    let sixth = where_so used SliceInUse ++ last in
    let fifth = where_so unforced NeedForce ++ sixth in
    let fourth = where_so many TooMany ++ fifth in
    let third = where_so unread (WrongState Down) ++ fourth in
    let second = where_so plain WrongKind ++ third in
    and_judged gone NoSuchSlice second tt
    (and_judged plain WrongKind third tt
    (and_judged unread (WrongState Down) fourth tt (and_judged many TooMany fifth tt (and_judged unforced NeedForce sixth tt (and_judged used SliceInUse last tt (where_judged small TooSmall tt))))))

-- so is a record that is too long
lists_held : (o : Opened) (list : List Place) → All IsJudged (held_of_lists o list)
lists_held o list = where_judged (nat_lt (room_with o list) (bytes_with o list)) (ReplicaFull (bytes_with o list) (room_with o list)) tt

others_held : (opened : Option Opened) (slices : List SliceName) (count blocks : ℕ) → All IsJudged (held_of_others opened slices count blocks)
others_held None slices count blocks = All-nil IsJudged
others_held (Some o) slices count blocks = lists_held o (list_more slices count blocks (list_of o))

pub creation_judged : (case : Case) (slices : List SliceName) (force : Bool) (count blocks : ℕ) (r : Refusal) → refusal_of case (AddPlaces slices force count blocks) ≡ Some r → IsJudged r
creation_judged case slices force count blocks r is =
    first_holds IsJudged order (held_of_creation case slices force count blocks) r
    (All-append IsJudged (held_of_replicas case slices force count blocks) (held_of_others case.memory.opened slices count blocks) (creation_held (list_any (is_missing case.host) slices) (list_any (λ slice. is_plain (slice_at case.host.drives.slices slice)) slices) (not (is_some case.memory.opened) && not case.memory.clean)
    (nat_lt 50 (length (places_open case.memory.opened) + length slices * count)) (not (is_some case.memory.opened) && not force) (list_any (is_taken case) slices || is_doubled slices) (list_any (is_short case.host count blocks) slices)) (others_held case.memory.opened slices count blocks)) is

-- nor is what places are refused for that are to go
state_held : (state : Option StateWord) → All IsJudged (in_state state)
state_held None = All-nil IsJudged
state_held (Some word) = All-cons IsJudged (WrongState word) [] tt (All-nil IsJudged)

less_held : (gone plain unforced : Bool) (state : Option StateWord) → All IsJudged (where_so gone NoSuchSlice ++ (where_so plain WrongKind ++ (in_state state ++ where_so unforced NeedForce)))
less_held gone plain unforced state =
    let last = where_so unforced NeedForce in
    and_judged gone NoSuchSlice (where_so plain WrongKind ++ (in_state state ++ last)) tt (and_judged plain WrongKind (in_state state ++ last) tt (All-append IsJudged (in_state state) last (state_held state) (where_judged unforced NeedForce tt)))

drop_held : (case : Case) (opened : Option Opened) (slices : List SliceName) (force : Bool) → All IsJudged (held_of_drop case opened slices force)
drop_held case None slices force = All-cons IsJudged NoDatabase [] tt (All-nil IsJudged)
drop_held case (Some o) slices force = All-append IsJudged (held_of_less case o slices force) (held_of_lists o (rest_of o slices))
    (less_held (list_any (is_missing case.host) slices) (list_any (λ slice. is_plain (slice_at case.host.drives.slices slice)) slices) (are_all o slices && not force) (state_of_less case o slices))
    (lists_held o (rest_of o slices))

pub drop_judged : (case : Case) (slices : List SliceName) (force : Bool) (r : Refusal) → refusal_of case (DropPlaces slices force) ≡ Some r → IsJudged r
drop_judged case slices force r is = first_holds IsJudged order (held_of_drop case case.memory.opened slices force) r (drop_held case case.memory.opened slices force) is

-- such a refusal comes where no call failed
pub judged_said : (blame : Blame) (spends : Type 0) (r : Refusal) → IsJudged r → blame.none → HasAnswerCause blame spends (refusing r)
judged_said blame spends IoFault judged calm = absurd judged
judged_said blame spends OutOfMemory judged calm = absurd judged
judged_said blame spends other judged calm = calm

-- no call failed where places are asked that are refused, whatever is open
pub places_calm : (calls : Outcomes) (host : Host) (memory : Memory) (slices : List SliceName) (force : Bool) (count blocks : ℕ) → AreCalm calls → (blame_of calls host memory (AddPlaces slices force count blocks)).none
places_calm calls host memory slices force count blocks calm = by memory.opened where
  by : (opened : Option Opened) → (blame_of_places calls host memory opened (lines_asked host slices) count blocks).none
  by None = calm
  by (Some o) = calm
