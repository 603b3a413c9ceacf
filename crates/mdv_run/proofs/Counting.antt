-- How the calls of a run's turns add up.
use Rattle.std.proofs.Common.{◌≡◌, ◌⊎◌, ◌≤◌, ◌+◌, ◌*◌, inl, inr, ℕ, zero, suc, min, Bool, true, false, not, filter, if◌then◌else◌, ◌++◌, [], ◌∷◌, length, List, Option, None, Some, IfSome, refl, sym, ◌∙◌, ap, subst, length-append, arith}
use Rattle.std.specs.List.{list_any}
use Rattle.std.proofs.lemmas.List.{length-map}
use Rattle.std.proofs.lemmas.List.Sums.{count_by-le-length, length-filter}
use Rattle.mdv_shelf.specs.Calls.{RoseByAtMost}
use Rattle.mdv_shelf.specs.Shelves.{MadeCalls}
use Rattle.mdv_shelf.specs.declared.shelf.Shelf.{Ghosts}
use Rattle.mdv_shelf.proofs.Counts.{at_most_more, rose_at_most}
use Rattle.mdv_engine.specs.Counts.{IsBootedCounted, calls_of}
use Rattle.mdv_engine_law.specs.Answers.{accepted}
use Rattle.mdv_engine_law.specs.Line.{Memory}
use Rattle.mdv_engine_law.specs.declared.answer.Answer.{Answer}
use Rattle.mdv_engine_law.specs.declared.answer.Answer.TheVariants.{Over as Ends}
use Rattle.mdv_engine_law.specs.declared.answer.Ended.{Ended}
use Rattle.mdv_engine_law.specs.declared.answer.Reply.{Reply}
use Rattle.mdv_engine_law.specs.declared.answer.Reply.TheVariants as reply
use Rattle.mdv_engine.specs.Ends.{IsFew}
use Rattle.mdv_engine.specs.Engine.{IsHeldBy}
use Rattle.std.proofs.Math.Nat.{mul-le-mul_right}
use Rattle.std.specs.Prelude.{nat_lt}
use Rattle.mdv_acts.specs.Acts.{acts_asked, blanks_asked, forms_asked}
use Rattle.mdv_acts.specs.Acts as acts
use Rattle.mdv_acts.specs.Asked.{blanked_asked}
use Rattle.mdv_acts.proofs.Acting.{calls_more}
use Rattle.mdv_acts.proofs.Counting.{blanks_calls, forms_calls}
use Rattle.mdv_acts.proofs.Ordering.{order_length}
use Rattle.mdv_dev.specs.Pieces.{count_to, drives, is_new, is_start, pieces}
use Rattle.mdv_engine_law.specs.Efforts.{deletion_calls, map_open, pieces_in, places_on, write_calls_in}
use Rattle.mdv_engine_law.specs.Places.{are_all}
use Rattle.mdv_places.specs.Asked.{Adds, Asks, Drops, KeepsFirst, acts_moved, claims, list_after, seats_added}
use Rattle.mdv_places.specs.Counts.{dropped_count, first_count, last_count, move_calls}
use Rattle.mdv_store.proofs.Spotting.{asked_length}
use Rattle.mdv_store.specs.Create.{seats_asked}
use Rattle.mdv_store.specs.Listing.{is_listed_in, seats_in}
use Rattle.mdv_config.specs.Lists.{beside, last_of, same_place}
use Rattle.mdv_config.specs.Table.{IsListsOf}
use Rattle.mdv_plan.specs.declared.lists.Lists.{Lists}
use Rattle.mdv_plan.specs.declared.lists.Lists.TheVariants.{One, Two}
use Rattle.mdv_base.specs.declared.drive.SliceName.{SliceName}
use Rattle.mdv_base.specs.declared.mark.Identity.{Identity}
use Rattle.mdv_base.specs.declared.name.Key.{Key}
use Rattle.mdv_engine_law.specs.Below.{Map}
use Rattle.mdv_engine_law.specs.Hosts.{line_at, lines_asked}
use Rattle.mdv_name.specs.SliceIndex.{slice_at}
use Rattle.mdv_name.specs.declared.geometry.Geometry.{Geometry}
use Rattle.mdv_name.specs.declared.slice_lines.SliceAt.{SliceAt}
use Rattle.mdv_name.specs.declared.slice_lines.SliceLine.{SliceLine}
use Rattle.mdv_words.specs.Listed.{as_listed}
use Rattle.mdv_run.specs.Below.{Command, AddListed, AddPlaces, DropPlaces, Host, IsLine, IsWell, Read, Script, Spelled, Write, line, listed_by, meant, Replicas, too_long}
use Rattle.mdv_run.specs.Calls.{CallsLeft, ScriptCalls, TextCalls, TurnTook, boot_calls, command_calls, line_calls}
use Rattle.mdv_run.specs.Turns.{turn_of}
use Rattle.mdv_run_law.specs.Run.{IsNoCommand}
use Rattle.mdv_store.proofs.Sitting.{active_most}
use Rattle.mdv_store.specs.Opened.{Opened}
use Rattle.mdv_words.specs.Line as words
use Rattle.mdv_words.specs.declared.command.Alteration.{Alteration}
use Rattle.mdv_words.specs.declared.command.Command.TheVariants as asked
use Rattle.mdv_words.proofs.Lines.{one_line}

-- a line takes what it spells
module _ (host : Host) where
  pub spelled_calls : (text : List ℕ) (spelled : Spelled) → IsLine text spelled → (n : ℕ) → TextCalls host text n → n ≡ line_calls host spelled
  spelled_calls text spelled is n (inl (never, one)) = absurd (never spelled is)
  spelled_calls text spelled is n (inr (other, also, takes)) = takes ∙ ap (line_calls host) (one_line text other spelled also is)

  pub refused_calls : (text : List ℕ) → IsNoCommand text → (n : ℕ) → TextCalls host text n → n ≡ 1
  refused_calls text never n (inl (also, one)) = one
  refused_calls text never n (inr (spelled, is, takes)) = absurd (never spelled is)

  -- each takes one at least
  spelled_some : (spelled : Spelled) → 1 ≤ line_calls host spelled
  spelled_some words.Boot = omega arith
  spelled_some (words.Tab lines) = omega arith
  spelled_some (words.Exec command) = omega arith

  pub text_some : (text : List ℕ) (n : ℕ) → TextCalls host text n → 1 ≤ n
  text_some text n (inl (never, one)) = omega (arith, one)
  text_some text n (inr (spelled, is, takes)) = (let some = spelled_some spelled in omega (arith, takes, some))

pub wider : (old new : Option ℕ) (k n : ℕ) → k ≤ n → RoseByAtMost k old new → RoseByAtMost n old new
wider old new k n le took = at_most_more k 0 n old new new (omega (arith, le)) took (λ m is. (m, is, omega arith))

module _ (host : Host) (old new : Option ℕ) where
  -- a turn that was replied to, or that ended the run
  turn_took : (left : Option Script) (more : Script) → left ≡ Some more → (one rest n : ℕ) → ScriptCalls host more rest → n ≡ one + rest → RoseByAtMost one old new → (r : Reply) (any : Bool) → TurnTook host (turn_of r any) left old new n
  turn_took left more is one rest n for_rest all took r any = by r where
    goes : CallsLeft host left old new n
    goes = record { script = more; is_left = is; rest = rest; for_rest = for_rest; made = one; took = took; within = omega (arith, all) }

    ends : RoseByAtMost n old new
    ends = wider old new one n (omega (arith, all)) took

    by : (r : Reply) → TurnTook host (turn_of r any) left old new n
    by reply.Ok = goes
    by (reply.Refused refusal) = goes
    by (reply.Panic active listed) = ends
    by reply.Spent = ends
    by reply.NoMemory = ends
    by reply.Told = ends
    by (reply.NoQuorum readable needed) = ends
    by (reply.TwoDatabases a b) = ends

  pub line_took : (script : Script) (left : Option Script) (text : List ℕ) (more : Script) → script ≡ line text more → left ≡ Some more → ((k : ℕ) → TextCalls host text k → RoseByAtMost k old new)
      → (n : ℕ) → ScriptCalls host script n → (r : Reply) (any : Bool) → TurnTook host (turn_of r any) left old new n
  line_took script left text more is left_is took n calls r any =
      let of : ScriptCalls host (line text more) n = subst (λ (s : Script). ScriptCalls host s n) is calls in
      turn_took left more left_is of.0 of.2 n of.3 of.4 (took of.0 of.1) r any

  pub long_took : (script : Script) (left : Option Script) (more : Script) → script ≡ too_long more → left ≡ Some more → RoseByAtMost 1 old new → (n : ℕ) → ScriptCalls host script n → (r : Reply) (any : Bool) → TurnTook host (turn_of r any) left old new n
  long_took script left more is left_is took n calls r any =
      let of : ScriptCalls host (too_long more) n = subst (λ (s : Script). ScriptCalls host s n) is calls in
      turn_took left more left_is 1 of.0 n of.1 of.2 took r any

-- nothing was called
pub none_took : (made : Option ℕ) (n : ℕ) → RoseByAtMost n made made
none_took made n m is = (m, is, omega arith)

-- the calls before a turn, and those of the turn, whose host is the same
module _ (host other : Host) (same : other ≡ host) (first mid last : Option ℕ) (n : ℕ) where
  pub took_on : (before after : Option Script) → (so_far : CallsLeft host before first mid n) → ((script : Script) → before ≡ Some script → (k : ℕ) → ScriptCalls other script k → CallsLeft other after mid last k) → CallsLeft host after first last n
  took_on before after so_far turn =
      let one = subst (λ (h : Host). (script : Script) → before ≡ Some script → (k : ℕ) → ScriptCalls h script k → CallsLeft h after mid last k) same turn so_far.script so_far.is_left so_far.rest so_far.for_rest in record {
        script = one.script;
        is_left = one.is_left;
        rest = one.rest;
        for_rest = one.for_rest;
        made = so_far.made + one.made;
        took = at_most_more so_far.made one.made (so_far.made + one.made) first mid last (omega arith) so_far.took one.took;
        within = let all = so_far.within in let turned = one.within in omega (arith, all, turned);
      }

  pub took_over : (before : Option Script) → (so_far : CallsLeft host before first mid n) → ((script : Script) → before ≡ Some script → (k : ℕ) → ScriptCalls other script k → RoseByAtMost k mid last) → RoseByAtMost n first last
  took_over before so_far turn = at_most_more so_far.made so_far.rest n first mid last so_far.within so_far.took
      (turn so_far.script so_far.is_left so_far.rest (subst (λ (h : Host). ScriptCalls h so_far.script so_far.rest) (sym same) so_far.for_rest))

-- the slices that are there are no more than those that are named
lines_few : (host : Host) (slices : List SliceName) → length (lines_asked host slices) ≤ length slices
lines_few host [] = omega arith
lines_few host (slice ∷ slices) = by (lines_few host slices) (slice_at host.drives.slices slice) where
  by : length (lines_asked host slices) ≤ length slices → (at : Option SliceAt) → length (line_at slice at ++ lines_asked host slices) ≤ length (slice ∷ slices)
  by rest None = omega (arith, rest)
  by rest (Some at) = omega (arith, rest)

blanked_few : (lines : List SliceLine) (count : ℕ) → blanked_asked lines count ≤ length lines * count
blanked_few lines count = by (nat_lt 1 count) where
  by : (more : Bool) → (if more then length lines * count else 0) ≤ length lines * count
  by true = omega arith
  by false = omega arith

fewer : {X : Type 0} (test : X → Bool) (xs : List X) → length (filter test xs) ≤ length xs
fewer test xs = omega (arith, length-filter test xs, count_by-le-length test xs)

last_few : (g : Geometry) (lists : Lists) → IsListsOf g lists → length (last_of lists) ≤ 50
last_few g (One places) are = are.few
last_few g (Two old new) are = are.1.few

-- places that are added are formatted, and masters blanked
formats_calls : (key : Key) (identity : Identity) (claim : ℕ) (lines : List SliceLine) (count blocks : ℕ) → acts.calls_of (acts_asked key identity claim lines count blocks) ≡ 2 * blanked_asked lines count + 6 * (length lines * count)
formats_calls key identity claim lines zero blocks =
    let forms : acts.calls_of (acts_asked key identity claim lines zero blocks) ≡ 6 * (length lines * zero) = forms_calls zero blocks key identity claim lines in
    let none : blanked_asked lines zero ≡ 0 = refl in
    omega (arith, forms, none)
formats_calls key identity claim lines (suc n) blocks =
    omega (arith, calls_more (blanks_asked lines (suc n) blocks) (forms_asked key identity claim lines (suc n) blocks), blanks_calls (suc n) blocks (omega arith) lines, forms_calls (suc n) blocks key identity claim lines)

-- A change of places writes two tables to fifty places at most and to those that come, and wipes no more than fifty.
module _ (host : Host) (o : Opened) (held : IsHeldBy host o) where
  moved_calls : (asked : Asks) (formats added : ℕ) → acts.calls_of (acts_moved o asked) ≡ formats → length (seats_added o asked) ≡ added → move_calls o asked ≤ formats + 12 * (50 + added) + 2 * 50
  moved_calls asked formats added formats_are added_are =
      let list = last_of o.table.plan.lists in
      let after = list_after asked list in
      let seats = o.seats ++ seats_added o asked in
      let all : length seats ≡ length o.seats + length (seats_added o asked) = length-append o.seats (seats_added o asked) in
      let first : first_count o asked ≤ length seats = active_most seats in
      let last : last_count o asked ≤ length (seats_in after seats) = active_most (seats_in after seats) in
      let listed : length (seats_in after seats) ≤ length seats = fewer (is_listed_in after) seats in
      let wiped : dropped_count o asked ≡ length (beside after list) = order_length (beside after list) in
      let left : length (beside after list) ≤ length list = fewer (λ p. not (list_any (same_place p) after)) list in
      let few : length list ≤ 50 = last_few host.drives o.table.plan.lists held.of_geometry.lists in
      let some = held.few in
      omega (arith, all, first, last, listed, wiped, left, few, some, formats_are, added_are)

  dropped_calls : (slices : List SliceName) (force : Bool) → calls_of host (Some o) (DropPlaces slices force) ≤ 14 * 50 + 2
  dropped_calls slices force = by (are_all o slices) where
    by : (all : Bool) → (if all then deletion_calls o else move_calls o (Drops slices)) ≤ 14 * 50 + 2
    by true = (let moved = moved_calls KeepsFirst 0 0 refl refl in omega (arith, moved))
    by false = (let moved = moved_calls (Drops slices) 0 0 refl refl in omega (arith, moved))

-- places that are added, or those of a database that is made
added_calls : (host : Host) (opened : Option Opened) → IfSome opened (IsHeldBy host) → (slices : List SliceName) (force : Bool) (count blocks : ℕ)
    → calls_of host opened (AddPlaces slices force count blocks) ≤ 14 * 50 + (18 * places_on (lines_asked host slices) count + 2 * blanked_asked (lines_asked host slices) count)
added_calls host None held slices force count blocks = omega arith
added_calls host (Some o) held slices force count blocks =
    let lines = lines_asked host slices in
    let are : length (seats_added o (Adds lines count blocks)) ≡ length lines * count = length-map (seats_asked o.key o.identity lines count blocks) (claims o.mark.boot) ∙ asked_length o.key o.identity count blocks lines in
    let moved = moved_calls host o held (Adds lines count blocks) (2 * blanked_asked lines count + 6 * (length lines * count)) (length lines * count) (formats_calls o.key o.identity o.mark.boot lines count blocks) are in
    omega (arith, moved)

-- an entry's places are fifty at most
listed_most : (host : Host) (opened : Option Opened) → IfSome opened (IsHeldBy host) → (r : Replicas) (force : Bool) → length r.slices * r.count ≤ 50 → calls_of host opened (AddPlaces r.slices force r.count r.blocks) ≤ 34 * 50
listed_most host opened held r force few =
    let lines = lines_asked host r.slices in
    let rows : length lines * r.count ≤ length r.slices * r.count = mul-le-mul_right r.count (lines_few host r.slices) in
    let blanked = blanked_few lines r.count in
    let added = added_calls host opened held r.slices force r.count r.blocks in
    omega (arith, few, rows, blanked, added)

-- no more numbers pass a test than there are
count_most : (test : ℕ → Bool) (n : ℕ) → count_to test n ≤ n
unfolding count_to
count_most test zero = omega arith
count_most test (suc n) = by (test n) (count_most test n) where
  by : (passes : Bool) → count_to test n ≤ n → count_to test n + (if passes then 1 else 0) ≤ suc n
  by true rest = omega (arith, rest)
  by false rest = omega (arith, rest)

-- a write makes two calls for each block at most
write_most : (v : Map) (at count : ℕ) → pieces v at count + drives v at count ≤ 2 * count
write_most v at count = omega (arith, count_most (is_start v at) count, count_most (is_new v at) count)

-- a command, where the open database is one of the host's
pub exec_calls : (host : Host) (memory : Memory) → IsWell host memory → (command : Command) (old new : Option ℕ) → RoseByAtMost (1 + calls_of host memory.opened (meant memory.entries command)) old new → RoseByAtMost 2 old new ⊎ IsFew (meant memory.entries command)
    → RoseByAtMost (1 + command_calls host command) old new
exec_calls host memory well command old new took few = by command took few where
  wide : (calls most : ℕ) → calls ≤ most → RoseByAtMost (1 + calls) old new → RoseByAtMost (1 + most) old new
  wide calls most less took = wider old new (1 + calls) (1 + most) (omega (arith, less)) took

  altered : (opened : Option Opened) → IfSome opened (IsHeldBy host) → (alteration : Alteration) → calls_of host opened (asked.Alter alteration) ≤ 6 * 50
  altered None held alteration = omega arith
  altered (Some o) held alteration = (let few = held.few in let active = active_most o.seats in omega (arith, few, active))

  listed : (number : ℕ) (force : Bool) (said : Option Replicas) → RoseByAtMost (1 + calls_of host memory.opened (as_listed number force said)) old new → RoseByAtMost 2 old new ⊎ IsFew (as_listed number force said) → RoseByAtMost (1 + 34 * 50) old new
  listed number force said took (inl two) = wide 1 (34 * 50) (omega arith) two
  listed number force (Some r) took (inr few) = wide (calls_of host memory.opened (AddPlaces r.slices force r.count r.blocks)) (34 * 50) (listed_most host memory.opened well.database r force few) took
  listed number force None took (inr few) = wide 0 (34 * 50) (omega arith) took

  less : (opened : Option Opened) → IfSome opened (IsHeldBy host) → (slices : List SliceName) (force : Bool) → calls_of host opened (DropPlaces slices force) ≤ 14 * 50 + 2
  less None held slices force = omega arith
  less (Some o) held slices force = dropped_calls host o held slices force

  by : (command : Command) → RoseByAtMost (1 + calls_of host memory.opened (meant memory.entries command)) old new → RoseByAtMost 2 old new ⊎ IsFew (meant memory.entries command) → RoseByAtMost (1 + command_calls host command) old new
  by (AddPlaces slices force count blocks) took few = wide (calls_of host memory.opened (AddPlaces slices force count blocks)) (command_calls host (AddPlaces slices force count blocks)) (added_calls host memory.opened well.database slices force count blocks) took
  by (AddListed number force) took few = listed number force (listed_by memory.entries number) took few
  by (DropPlaces slices force) took few = wide (calls_of host memory.opened (DropPlaces slices force)) (14 * 50 + 2) (less memory.opened well.database slices force) took
  by (asked.Alter alteration) took few = wide (calls_of host memory.opened (asked.Alter alteration)) (6 * 50) (altered memory.opened well.database alteration) took
  by (Read volume at count) took few = (let k = min count 1024 in wide (pieces_in host memory.opened volume at k) k (count_most (is_start (map_open host.drives memory.opened volume) at) k) took)
  by (Write volume at what) took few =
      let k = min (length (words.blocks_of what)) 1024 in
      wide (write_calls_in host memory.opened volume at k) (2 * k) (write_most (map_open host.drives memory.opened volume) at k) took
  by (asked.Print names) took few = took

-- a boot
module _ {S : Type 0} (shelf : Ghosts S) (host : Host) where
  pub booted_calls : (a b : S) (answer : Answer) (memory : Memory) → IsBootedCounted shelf a b host answer memory → RoseByAtMost (boot_calls host) (shelf.calls a) (shelf.calls b)
  booted_calls a b answer memory took = took.most.at_most.in_calls

  -- one that was answered, and its reply; and one that wasn't
  pub accepted_calls : (a b c : S) (memory : Memory) → IsBootedCounted shelf a b host accepted memory → MadeCalls shelf b c 1 0 → (n : ℕ) → n ≡ boot_calls host + 1 → RoseByAtMost n (shelf.calls a) (shelf.calls c)
  accepted_calls a b c memory took told n is = at_most_more (boot_calls host) 1 n (shelf.calls a) (shelf.calls b) (shelf.calls c) (omega (arith, is)) (booted_calls a b accepted memory took) (rose_at_most 1 1 (shelf.calls b) (shelf.calls c) (omega arith) told.in_calls)

  pub over_calls : (a b : S) (end : Ended) (memory : Memory) → IsBootedCounted shelf a b host (Ends end) memory → (n : ℕ) → n ≡ boot_calls host + 1 → RoseByAtMost n (shelf.calls a) (shelf.calls b)
  over_calls a b end memory took n is = wider (shelf.calls a) (shelf.calls b) (boot_calls host) n (omega (arith, is)) (booted_calls a b (Ends end) memory took)

-- a boot and the lines behind it
pub run_calls : (a b c : Option ℕ) (boot n : ℕ) → RoseByAtMost boot a b → RoseByAtMost n b c → RoseByAtMost (boot + n) a c
run_calls a b c boot n first lines = at_most_more boot n (boot + n) a b c (omega arith) first lines

pub only_boot : (a b : Option ℕ) (boot n : ℕ) → RoseByAtMost boot a b → RoseByAtMost (boot + n) a b
only_boot a b boot n first = wider a b boot (boot + n) (omega arith) first

-- before the first turn all calls are left
pub all_left : (host : Host) (made : Option ℕ) (before : Option Script) (script : Script) (n : ℕ) → before ≡ Some script → ScriptCalls host script n → CallsLeft host before made made n
all_left host made before script n is calls = record { script = script; is_left = is; rest = n; for_rest = calls; made = 0; took = none_took made 0; within = omega arith }
