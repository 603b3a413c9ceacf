-- How the calls of a command add up, and what a refusal says of them.
use Rattle.std.proofs.Common.{◌≡◌, ◌≢◌, ◌⊎◌, ◌≤◌, inl, inr, ◌+◌, ◌*◌, ℕ, min, Bool, true, false, if◌then◌else◌, List, length, Option, Some, None, refl, sym, subst, ap, arith}
use Rattle.std.proofs.Math.Nat.{min-eq_left}
use Rattle.mdv_shelf.specs.Calls.{OnReplies, Part}
use Rattle.mdv_shelf.specs.Made.{and_more, made_of}
use Rattle.mdv_shelf.specs.Shelves.{DriveFailures, MadeCalls}
use Rattle.mdv_shelf.specs.declared.shelf.Shelf.{Ghosts}
use Rattle.mdv_shelf.proofs.Between.{between_none, between_of, between_then, between_wider}
use Rattle.mdv_shelf.proofs.Made.{with_more}
use Rattle.mdv_acts.specs.Asked.{blanked_asked}
use Rattle.mdv_words.specs.Line as words
use Rattle.mdv_words.specs.declared.command.Command.TheVariants.{Alter, Print}
use Rattle.mdv_words.specs.declared.written.Written.{Written}
use Rattle.mdv_engine.specs.Below.{Answer, Command, AddListed, AddPlaces, DropPlaces, Ended, Host, IoFault, Memory, Opened, OutOfMemory, Outcomes, Read, Refusal, VolId, Write, lines_asked, pieces_in, write_calls_in}
use Rattle.mdv_engine_law.specs.Answers.{IsMereRefusal, IsSaid, refusing}
use Rattle.mdv_engine_law.specs.Efforts.{CommandCalls, FaultCalls, LossCalls, MadeCallsOf, places_on, replied_to, wanting_calls}
use Rattle.mdv_engine_law.specs.Refusals.{blocks_refusal}
use Rattle.mdv_engine_law.specs.Replies.{IsAccepted, IsLost, IsReplied, IsTellingCounted, IsTold, reply_at, reply_to}
use Rattle.mdv_engine_law.specs.declared.answer.Answer.TheVariants.{Said, Over}
use Rattle.mdv_engine_law.specs.declared.answer.Ended.TheVariants as ended
use Rattle.mdv_engine_law.specs.declared.answer.Outcome.{Outcome}
use Rattle.mdv_engine_law.specs.declared.answer.Outcome.TheVariants as outcome
use Rattle.mdv_engine_law.specs.declared.answer.Reply.{Reply}
use Rattle.mdv_engine_law.specs.declared.answer.Reply.TheVariants as reply
use Rattle.mdv_acts.specs.Acts as acts
use Rattle.mdv_places.specs.Asked.{Adds, Asks, Drops, KeepsFirst, acts_moved}
use Rattle.mdv_places.specs.Changing.{both_of}
use Rattle.mdv_places.specs.Counts.{dropped_count, first_count, last_count, move_blocks, move_calls}
use Rattle.mdv_store.specs.Text.{blocks_for}
use Rattle.mdv_store.specs.Writing.{text_size}
use Rattle.mdv_config.specs.Lists.{settled}
use Rattle.mdv_engine_law.specs.Efforts.{deletion_blocks, deletion_calls}
use Rattle.mdv_engine_law.specs.Places.{are_all}
use Rattle.mdv_engine_law.proofs.Efforts.{command_too, done_too, fault_too, too_itself}
use Rattle.mdv_engine_law.proofs.Widening.{AreWithin}
use Rattle.mdv_engine.specs.Counts.{DoneCalls, HasHalted, HasTriedAll, IsCommandCounted, IsQuietRefusal, IsUnlooked, blocks_of, calls_of}
use Rattle.mdv_engine.specs.Ends.{IsFew}
use Rattle.mdv_engine.specs.Engine.{FailedBlocks, HasBlocksCause}

-- what is only said has a reply
said_on : (this : Outcome) → IsLost (reply_to this) → ⊥
said_on outcome.Ok lost = lost
said_on (outcome.Values text) lost = lost
said_on (outcome.Refused refusal) lost = lost

pub only_told : (failed : Type 0) (this : Outcome) (given : Reply) (piece : List ℕ) → IsTold failed (Said this) given piece → IsLost given → ⊥
only_told failed this given piece (inl whole) lost = said_on this (subst IsLost whole.0 lost)
only_told failed this given piece (inr cut) lost = subst IsLost cut.given_is lost

-- no reply is told where the run is over
at_end : (end : Ended) → IsLost (reply_at end)
at_end (ended.Lost active listed) = tt
at_end ended.Spent = tt
at_end ended.Memory = tt
at_end (ended.NoQuorum readable needed) = tt
at_end (ended.TwoDatabases a b) = tt

-- where the run isn't over something was said
pub said_of : (failed : Type 0) (answer : Answer) (given : Reply) (piece : List ℕ) → IsTold failed answer given piece → (IsLost given → ⊥) → IsSaid answer
said_of failed (Said this) given piece told on = tt
said_of failed (Over end) given piece told on = absurd (on (subst IsLost (sym told.0) (at_end end)))

-- a command's calls and its reply's: one where it has a reply, and none where the run is over
pub replied_calls : {S : Type 0} (shelf : Ghosts S) (a b c : S) (failed : Type 0) (host : Host) (command : Command) (before now : Option Opened) (answer : Answer) (given : Reply) (piece : List ℕ) (calls more : Outcomes) → AreWithin calls more
    → IsTold failed answer given piece → ((IsLost given → ⊥) → MadeCalls shelf b c 1 0) → (IsLost given → c ≡ b) → CommandCalls calls (made_of shelf a b) host command answer before now → CommandCalls more (replied_to answer (made_of shelf a c)) host command answer before now
replied_calls shelf a b c failed host command before now (Said this) given piece calls more within told once silent by =
    command_too calls more within (made_of shelf a b) (and_more 1 (made_of shelf a c)) (with_more shelf.calls shelf.written a b c 1 (once (only_told failed this given piece told))) host command (Said this) before now by
replied_calls {S} shelf a b c failed host command before now (Over end) given piece calls more within told once silent by =
    subst (λ (x : S). CommandCalls more (made_of shelf a x) host command (Over end) before now) (sym (silent (subst IsLost (sym told.0) (at_end end)))) (command_too calls more within (made_of shelf a b) (made_of shelf a b) (too_itself (made_of shelf a b)) host command (Over end) before now by)

-- no giving of replies failed where none did in the calls before it, nor in its own
pub calm_given : {S : Type 0} (faults : S → Part → ℕ) (a b c : S) → faults b OnReplies ≡ faults a OnReplies → faults b OnReplies ≤ faults c OnReplies → faults c OnReplies ≤ faults b OnReplies → faults c OnReplies ≡ faults a OnReplies
calm_given faults a b c before low high = omega (arith, before, low, high)

-- a reply that wasn't cut short was told whole, or there is none
pub whole_or_lost : (given : Reply) → given ≢ reply.Told → IsReplied given ⊎ IsLost given
whole_or_lost reply.Ok uncut = inl tt
whole_or_lost (reply.Refused refusal) uncut = inl tt
whole_or_lost (reply.Panic active listed) uncut = inr tt
whole_or_lost reply.Spent uncut = inr tt
whole_or_lost reply.NoMemory uncut = inr tt
whole_or_lost reply.Told uncut = absurd (uncut refl)
whole_or_lost (reply.NoQuorum readable needed) uncut = inr tt
whole_or_lost (reply.TwoDatabases a b) uncut = inr tt

-- the answer behind a refusal that was told
pub told_refusal : (failed : Type 0) (answer : Answer) (refusal : Refusal) (piece : List ℕ) → IsTold failed answer (reply.Refused refusal) piece → answer ≡ refusing refusal
told_refusal failed (Said this) refusal piece (inl whole) = by this whole.0 where
  by : (this : Outcome) → reply.Refused refusal ≡ reply_to this → Said this ≡ refusing refusal
  by outcome.Ok is = absurd (cc (is))
  by (outcome.Values text) is = absurd (cc (is))
  by (outcome.Refused own) is = cc (is)
told_refusal failed (Said this) refusal piece (inr cut) = absurd (let is = cut.given_is in cc (is))
told_refusal failed (Over end) refusal piece told = absurd (by end told.0) where
  by : (end : Ended) → reply.Refused refusal ≡ reply_at end → ⊥
  by (ended.Lost active listed) is = absurd (cc (is))
  by ended.Spent is = absurd (cc (is))
  by ended.Memory is = absurd (cc (is))
  by (ended.NoQuorum readable needed) is = absurd (cc (is))
  by (ended.TwoDatabases a b) is = absurd (cc (is))

-- and behind a run that is over, for too few places are left
pub told_lost : (failed : Type 0) (answer : Answer) (active listed : ℕ) (piece : List ℕ) → IsTold failed answer (reply.Panic active listed) piece → answer ≡ Over (ended.Lost active listed)
told_lost failed (Said this) active listed piece (inl whole) = absurd (by this whole.0) where
  by : (this : Outcome) → reply.Panic active listed ≡ reply_to this → ⊥
  by outcome.Ok is = absurd (cc (is))
  by (outcome.Values text) is = absurd (cc (is))
  by (outcome.Refused refusal) is = absurd (cc (is))
told_lost failed (Said this) active listed piece (inr cut) = absurd (let is = cut.given_is in cc (is))
told_lost failed (Over end) active listed piece told = by end told.0 where
  by : (end : Ended) → reply.Panic active listed ≡ reply_at end → Over end ≡ Over (ended.Lost active listed)
  by (ended.Lost one two) is = cc (is)
  by ended.Spent is = absurd (cc (is))
  by ended.Memory is = absurd (cc (is))
  by (ended.NoQuorum readable needed) is = absurd (cc (is))
  by (ended.TwoDatabases a b) is = absurd (cc (is))

-- and what was told that it is done is accepted
pub told_ok : (failed : Type 0) (answer : Answer) (piece : List ℕ) → IsTold failed answer reply.Ok piece → IsAccepted answer
told_ok failed (Said this) piece (inl whole) = by this whole.0 where
  by : (this : Outcome) → reply.Ok ≡ reply_to this → IsAccepted (Said this)
  by outcome.Ok is = tt
  by (outcome.Values text) is = tt
  by (outcome.Refused refusal) is = absurd (cc (is))
told_ok failed (Said this) piece (inr cut) = absurd (let is = cut.given_is in cc (is))
told_ok failed (Over end) piece told = absurd (by end told.0) where
  by : (end : Ended) → reply.Ok ≡ reply_at end → ⊥
  by (ended.Lost active listed) is = absurd (cc (is))
  by ended.Spent is = absurd (cc (is))
  by ended.Memory is = absurd (cc (is))
  by (ended.NoQuorum readable needed) is = absurd (cc (is))
  by (ended.TwoDatabases a b) is = absurd (cc (is))

-- what was replied ends no run
pub not_lost : (given : Reply) → IsReplied given → IsLost given → ⊥
not_lost reply.Ok on lost = lost
not_lost (reply.Refused refusal) on lost = lost
not_lost (reply.Panic active listed) on lost = on
not_lost reply.Spent on lost = on
not_lost reply.NoMemory on lost = on
not_lost reply.Told on lost = on
not_lost (reply.NoQuorum readable needed) on lost = on
not_lost (reply.TwoDatabases a b) on lost = on

-- a telling makes one call at most
pub telling_most : {S : Type 0} (shelf : Ghosts S) (old new : S) (given : Reply) → IsTellingCounted shelf old new given → (made_of shelf old new).within 0 1 0
telling_most shelf old new given counted = by given counted.once counted.silent where
  one : MadeCalls shelf old new 1 0 → (made_of shelf old new).within 0 1 0
  one took = between_of shelf.calls shelf.written old new 1 0 0 1 0 (omega arith) (omega arith) (omega arith) took

  none : new ≡ old → (made_of shelf old new).within 0 1 0
  none same = between_none shelf.calls shelf.written old new 1 0 same

  by : (given : Reply) → ((IsLost given → ⊥) → MadeCalls shelf old new 1 0) → (IsLost given → new ≡ old) → (made_of shelf old new).within 0 1 0
  by reply.Ok once silent = one (once (λ lost. lost))
  by (reply.Refused refusal) once silent = one (once (λ lost. lost))
  by (reply.Panic active listed) once silent = none (silent tt)
  by reply.Spent once silent = none (silent tt)
  by reply.NoMemory once silent = none (silent tt)
  by reply.Told once silent = one (once (λ lost. lost))
  by (reply.NoQuorum readable needed) once silent = none (silent tt)
  by (reply.TwoDatabases a b) once silent = none (silent tt)

module _ {S : Type 0} (shelf : Ghosts S) where
  -- nothing was done
  pub none_within : (old new : S) (most blocks : ℕ) → new ≡ old → (made_of shelf old new).within 0 most blocks
  none_within old new most blocks same = between_none shelf.calls shelf.written old new most blocks same

  -- so many, and those of a telling
  pub then_told : (a b c : S) (given : Reply) (most blocks : ℕ) → (made_of shelf a b).within 0 most blocks → IsTellingCounted shelf b c given → (made_of shelf a c).within 0 (1 + most) blocks
  then_told a b c given most blocks first told = between_then shelf.calls shelf.written a b c 0 most blocks 0 1 0 0 (1 + most) blocks (omega arith) (omega arith) (omega arith) first (telling_most shelf b c given told)

  -- the call of a telling behind a command in which a call failed
  pub fault_then : (a b c : S) (host : Host) (command : Command) (before : Option Opened) (calls : Outcomes) → AreWithin calls calls → FaultCalls (made_of shelf a b) command host before → MadeCalls shelf b c 1 0 → FaultCalls (and_more 1 (made_of shelf a c)) command host before
  fault_then a b c host command before calls within took told = fault_too calls calls within (made_of shelf a b) (and_more 1 (made_of shelf a c)) (with_more shelf.calls shelf.written a b c 1 told) command host before took

  -- and behind one that was done
  pub done_then : (a b c : S) (host : Host) (command : Command) (before now : Option Opened) (calls more : Outcomes) → AreWithin calls more → MadeCallsOf calls (made_of shelf a b) command host before now → MadeCalls shelf b c 1 0 → MadeCallsOf more (and_more 1 (made_of shelf a c)) command host before now
  done_then a b c host command before now calls more within done told = done_too calls more within (made_of shelf a b) (and_more 1 (made_of shelf a c)) (with_more shelf.calls shelf.written a b c 1 told) command host before now done

  -- the calls by an answer that is this one
  pub counted_as : (old new : S) (host : Host) (command : Command) (this answer : Answer) → answer ≡ this → (before now : Option Opened) → IsCommandCounted shelf old new host command this before now → IsCommandCounted shelf old new host command answer before now
  counted_as old new host command this answer is before now counted = subst (λ (x : Answer). IsCommandCounted shelf old new host command x before now) (sym is) counted

  module _ (old new : S) (host : Host) where
    abbrev Faulted : Command → Option Opened → Option Opened → Type 0
    Faulted command before now = FaultCalls (made_of shelf old new) command host before × (made_of shelf old new).within 0 (calls_of host before command) (blocks_of host before command) × HasHalted shelf old new host command before now

    -- a refusal before any call
    pub refused_counted : (command : Command) (refusal : Refusal) (before now : Option Opened) → (refusal ≡ IoFault → Faulted command before now) → new ≡ old → IsCommandCounted shelf old new host command (refusing refusal) before now
    refused_counted command IoFault before now fault same = fault refl
    refused_counted command OutOfMemory before now fault same = (none_within old new (wanting_calls host before command) 0 same, ap shelf.tale same)
    refused_counted command other before now fault same = same

    -- blocks that aren't read
    pub blocks_counted : (command : Command) (outcomes : Outcomes) (memory : Memory) (volume : VolId) (at n : ℕ) (refusal : Refusal) (before now : Option Opened) → HasBlocksCause FailedBlocks outcomes host memory volume at n refusal
        → (blocks_refusal host memory.opened volume (at + n) ≡ Some refusal → new ≡ old) → (refusal ≡ IoFault → Faulted command before now) → IsCommandCounted shelf old new host command (refusing refusal) before now
    blocks_counted command outcomes memory volume at n refusal before now (inl is) none took = refused_counted command refusal before now took (none is.1)
    blocks_counted command outcomes memory volume at n refusal before now (inr (of, free, fault)) none took = subst (λ (x : Refusal). IsCommandCounted shelf old new host command (refusing x) before now) (sym fault) (took fault)

    wider : (j k l most blocks : ℕ) → k ≤ most → l ≤ blocks → (made_of shelf old new).within j k l → (made_of shelf old new).within 0 most blocks
    wider j k l most blocks calls written took = between_wider shelf.calls shelf.written old new j k l 0 most blocks (omega arith) calls written took

    formats_most : (b p : ℕ) → (made_of shelf old new).within 1 (2 * b + 6 * p) (b + 5 * p) → (made_of shelf old new).within 0 (2 * b + 12 * p) (b + 4103 * p)
    formats_most b p took = wider 1 (2 * b + 6 * p) (b + 5 * p) (2 * b + 12 * p) (b + 4103 * p) (omega arith) (omega arith) took

    places_most : (b p least : ℕ) → (made_of shelf old new).within least (2 * b + 12 * p) (b + 4103 * p) → (made_of shelf old new).within 0 (2 * b + 12 * p) (b + 4103 * p)
    places_most b p least took = wider least (2 * b + 12 * p) (b + 4103 * p) (2 * b + 12 * p) (b + 4103 * p) (omega arith) (omega arith) took

    -- so many of a transfer, and of a creation
    pub exactly_most : (calls blocks : ℕ) → (made_of shelf old new).exactly calls blocks → (made_of shelf old new).within 0 calls blocks
    exactly_most calls blocks took = between_of shelf.calls shelf.written old new calls blocks 0 calls blocks (omega arith) (omega arith) (omega arith) took

    pub creation_most : (slices : List _) (count least : ℕ)
        → (made_of shelf old new).within least (2 * blanked_asked (lines_asked host slices) count + 12 * places_on (lines_asked host slices) count) (blanked_asked (lines_asked host slices) count + 4103 * places_on (lines_asked host slices) count)
        → (made_of shelf old new).within 0 (2 * blanked_asked (lines_asked host slices) count + 12 * places_on (lines_asked host slices) count) (blanked_asked (lines_asked host slices) count + 4103 * places_on (lines_asked host slices) count)
    creation_most slices count least took = places_most (blanked_asked (lines_asked host slices) count) (places_on (lines_asked host slices) count) least took

    -- the formats of a change of places are no more than all of it
    moved_most : (o : Opened) (asked : Asks) → (made_of shelf old new).within 1 (acts.calls_of (acts_moved o asked)) (acts.blocks_of (acts_moved o asked)) → (made_of shelf old new).within 0 (move_calls o asked) (move_blocks o asked)
    moved_most o asked took =
        part (acts.calls_of (acts_moved o asked)) (acts.blocks_of (acts_moved o asked)) (6 * first_count o asked) (6 * last_count o asked) (2 * dropped_count o asked) ((2 + blocks_for (text_size (both_of o asked).table)) * first_count o asked)
        ((2 + blocks_for (text_size (settled (both_of o asked).table))) * last_count o asked) (dropped_count o asked) took
      where
        part : (k l a b c d e f : ℕ) → (made_of shelf old new).within 1 k l → (made_of shelf old new).within 0 (k + a + b + c) (l + d + e + f)
        part k l a b c d e f took = wider 1 k l (k + a + b + c) (l + d + e + f) (omega arith) (omega arith) took

    -- where a call failed in the formats of a creation, or of places that are added
    pub formats_fault : (slices : List _) (force : Bool) (count blocks : ℕ) (before now : Option Opened) → FaultCalls (made_of shelf old new) (AddPlaces slices force count blocks) host before → Faulted (AddPlaces slices force count blocks) before now
    formats_fault slices force count blocks None now took = (took, formats_most (blanked_asked (lines_asked host slices) count) (places_on (lines_asked host slices) count) took, tt)
    formats_fault slices force count blocks (Some o) now took = (took, moved_most o (Adds (lines_asked host slices) count blocks) took, tt)

    -- as many blocks as are read at once
    pub in_most : (volume : VolId) (at count : ℕ) (before : Option Opened) → count ≤ 1024 → (made_of shelf old new).within 0 (pieces_in host before volume at count) 0 → (made_of shelf old new).within 0 (pieces_in host before volume at (min count 1024)) 0
    in_most volume at count before few took = subst (λ (n : ℕ). (made_of shelf old new).within 0 (pieces_in host before volume at n) 0) (sym (min-eq_left few)) took

    -- in a transfer
    pub read_fault : (volume : VolId) (at count : ℕ) (before now : Option Opened) → count ≤ 1024 → FaultCalls (made_of shelf old new) (Read volume at count) host before → Faulted (Read volume at count) before now
    read_fault volume at count before now few took = (let k = pieces_in host before volume at count in (took, in_most volume at count before few (wider 1 k 0 k 0 (omega arith) (omega arith) took), tt))

    -- as many blocks as are written at once
    pub write_most : (volume : VolId) (at : ℕ) (what : Written) (before : Option Opened) → length (words.blocks_of what) ≤ 1024 → (made_of shelf old new).within 0 (write_calls_in host before volume at (length (words.blocks_of what))) (length (words.blocks_of what))
        → (made_of shelf old new).within 0 (calls_of host before (Write volume at what)) (blocks_of host before (Write volume at what))
    write_most volume at what before few took = subst (λ (n : ℕ). (made_of shelf old new).within 0 (write_calls_in host before volume at n) (length (words.blocks_of what))) (sym (min-eq_left few)) took

    pub write_fault : (volume : VolId) (at : ℕ) (what : Written) (before now : Option Opened) → length (words.blocks_of what) ≤ 1024 → FaultCalls (made_of shelf old new) (Write volume at what) host before → Faulted (Write volume at what) before now
    write_fault volume at what before now few took = (let n = length (words.blocks_of what) in let k = write_calls_in host before volume at n in (took, write_most volume at what before few (wider 1 k n k n (omega arith) (omega arith) took), tt))

    drop_most : (o : Opened) (slices : List _) (all : Bool) → (made_of shelf old new).within 0 (move_calls o (if all then KeepsFirst else Drops slices)) (move_blocks o (if all then KeepsFirst else Drops slices))
        → (made_of shelf old new).within 0 (if all then deletion_calls o else move_calls o (Drops slices)) (if all then deletion_blocks o else move_blocks o (Drops slices))
    drop_most o slices true took = with_last (move_calls o KeepsFirst) (move_blocks o KeepsFirst) took where
      with_last : (k l : ℕ) → (made_of shelf old new).within 0 k l → (made_of shelf old new).within 0 (k + 2) (l + 1)
      with_last k l took = wider 0 k l (k + 2) (l + 1) (omega arith) (omega arith) took
    drop_most o slices false took = took

    loss_most : (command : Command) (before : Option Opened) → LossCalls (made_of shelf old new) command host before → (made_of shelf old new).within 0 (calls_of host before command) (blocks_of host before command)
    loss_most (AddPlaces slices force count blocks) None took = creation_most slices count _ took
    loss_most (AddPlaces slices force count blocks) (Some o) took = took
    loss_most (AddListed number force) before took = absurd took
    loss_most (DropPlaces slices force) None took = absurd took
    loss_most (DropPlaces slices force) (Some o) took = drop_most o slices (are_all o slices) took
    loss_most (Alter alteration) (Some o) took = wider 1 (calls_of host (Some o) (Alter alteration)) (blocks_of host (Some o) (Alter alteration)) _ _ (omega arith) (omega arith) took
    loss_most (Alter alteration) None took = absurd took
    loss_most (Read volume at count) before took = absurd took
    loss_most (Write volume at what) before took = absurd took
    loss_most (Print names) before took = absurd took

    wanting_most : (command : Command) (before : Option Opened) (blocks : ℕ) → (made_of shelf old new).within 0 (wanting_calls host before command) 0 → (made_of shelf old new).within 0 (calls_of host before command) blocks
    wanting_most (AddPlaces slices force count blocks) before written took = wider 0 0 0 _ written (omega arith) (omega arith) took
    wanting_most (AddListed number force) before written took = wider 0 0 0 0 written (omega arith) (omega arith) took
    wanting_most (DropPlaces slices force) before written took = wider 0 0 0 _ written (omega arith) (omega arith) took
    wanting_most (Alter alteration) before written took = wider 0 0 0 _ written (omega arith) (omega arith) took
    wanting_most (Read volume at count) before written took = (let k = pieces_in host before volume at (min count 1024) in wider 0 k 0 k written (omega arith) (omega arith) took)
    wanting_most (Write volume at what) before written took = wider 0 0 0 _ written (omega arith) (omega arith) took
    wanting_most (Print names) before written took = wider 0 0 0 0 written (omega arith) (omega arith) took

    -- a command that asks places makes no call where memory is wanting
    wanting_few : (command : Command) (before : Option Opened) → (made_of shelf old new).within 0 (wanting_calls host before command) 0 → (made_of shelf old new).within 0 1 0 ⊎ IsFew command
    wanting_few (AddPlaces slices force count blocks) before took = inl (wider 0 0 0 1 0 (omega arith) (omega arith) took)
    wanting_few (AddListed number force) before took = inr tt
    wanting_few (DropPlaces slices force) before took = inr tt
    wanting_few (Alter alteration) before took = inr tt
    wanting_few (Read volume at count) before took = inr tt
    wanting_few (Write volume at what) before took = inr tt
    wanting_few (Print names) before took = inr tt

  module _ (old new : S) (host : Host) (command : Command) (before now : Option Opened) where
    abbrev Counted : Answer → Type 0
    Counted answer = IsCommandCounted shelf old new host command answer before now

    abbrev Most : Type 0
    Most = (made_of shelf old new).within 0 (calls_of host before command) (blocks_of host before command)

    pub command_most : (answer : Answer) → Counted answer → Most
    command_most (Said outcome.Ok) took = took.most
    command_most (Said (outcome.Values text)) took = took.most
    command_most (Said (outcome.Refused IoFault)) took = took.1
    command_most (Said (outcome.Refused OutOfMemory)) took = wanting_most old new host command before _ took.0
    command_most (Said (outcome.Refused other)) same = none_within old new _ _ same
    command_most (Over (ended.Lost active listed)) took = loss_most old new host command before took.0
    command_most (Over ended.Spent) same = none_within old new _ _ same
    command_most (Over ended.Memory) same = none_within old new _ _ same
    command_most (Over (ended.NoQuorum readable needed)) same = none_within old new _ _ same
    command_most (Over (ended.TwoDatabases a b)) same = none_within old new _ _ same

    -- a mere refusal makes one at most, or asks few places
    pub mere_few : (answer : Answer) → IsMereRefusal answer → Counted answer → (made_of shelf old new).within 0 1 0 ⊎ IsFew command
    mere_few (Said outcome.Ok) is took = absurd is
    mere_few (Said (outcome.Values text)) is took = absurd is
    mere_few (Said (outcome.Refused IoFault)) is took = absurd is
    mere_few (Said (outcome.Refused OutOfMemory)) is took = wanting_few old new host command before took.0
    mere_few (Said (outcome.Refused other)) is same = inl (none_within old new _ _ same)
    mere_few (Over end) is took = absurd is

    refused_calls : (refusal : Refusal) → Counted (refusing refusal) → CommandCalls (DriveFailures shelf old new) (made_of shelf old new) host command (refusing refusal) before now
    refused_calls IoFault counted = counted.0
    refused_calls OutOfMemory counted = counted.0
    refused_calls other same = none_within old new 0 0 same

    -- by the two counts alone
    pub command_calls : (answer : Answer) → Counted answer → CommandCalls (DriveFailures shelf old new) (made_of shelf old new) host command answer before now
    command_calls (Said outcome.Ok) counted = counted.exactly
    command_calls (Said (outcome.Values text)) counted = counted.exactly
    command_calls (Said (outcome.Refused refusal)) counted = refused_calls refusal counted
    command_calls (Over (ended.Lost active listed)) counted = counted.0
    command_calls (Over ended.Spent) same = none_within old new 0 0 same
    command_calls (Over ended.Memory) same = none_within old new 0 0 same
    command_calls (Over (ended.NoQuorum readable needed)) same = none_within old new 0 0 same
    command_calls (Over (ended.TwoDatabases a b)) same = none_within old new 0 0 same

    -- by what was told: a call failed, or memory was wanting
    pub fault_told : (failed : Type 0) (answer : Answer) (piece : List ℕ) → IsTold failed answer (reply.Refused IoFault) piece → Counted answer → FaultCalls (made_of shelf old new) command host before
    fault_told failed answer piece told counted = (subst Counted (told_refusal failed answer IoFault piece told) counted).0

    pub halted_told : (failed : Type 0) (answer : Answer) (piece : List ℕ) → IsTold failed answer (reply.Refused IoFault) piece → Counted answer → HasHalted shelf old new host command before now
    halted_told failed answer piece told counted = (subst Counted (told_refusal failed answer IoFault piece told) counted).2

    pub wanting_told : (failed : Type 0) (answer : Answer) (piece : List ℕ) → IsTold failed answer (reply.Refused OutOfMemory) piece → Counted answer → (made_of shelf old new).within 0 (wanting_calls host before command) 0
    wanting_told failed answer piece told counted = (subst Counted (told_refusal failed answer OutOfMemory piece told) counted).0

    -- and where the run is over
    pub lost_told : (failed : Type 0) (answer : Answer) (active listed : ℕ) (piece : List ℕ) → IsTold failed answer (reply.Panic active listed) piece → Counted answer → LossCalls (made_of shelf old new) command host before × HasTriedAll shelf old new host command before active listed
    lost_told failed answer active listed piece told counted = subst Counted (told_lost failed answer active listed piece told) counted

    pub spent_told : (failed : Type 0) (answer : Answer) (piece : List ℕ) → IsTold failed answer reply.Spent piece → Counted answer → new ≡ old
    spent_told failed (Said this) piece (inl whole) counted = absurd (by this whole.0) where
      by : (this : Outcome) → reply.Spent ≡ reply_to this → ⊥
      by outcome.Ok is = absurd (cc (is))
      by (outcome.Values text) is = absurd (cc (is))
      by (outcome.Refused refusal) is = absurd (cc (is))
    spent_told failed (Said this) piece (inr cut) counted = absurd (let is = cut.given_is in cc (is))
    spent_told failed (Over (ended.Lost one two)) piece told counted = absurd (let is = told.0 in cc (is))
    spent_told failed (Over ended.Spent) piece told counted = counted
    spent_told failed (Over ended.Memory) piece told counted = absurd (let is = told.0 in cc (is))
    spent_told failed (Over (ended.NoQuorum one two)) piece told counted = absurd (let is = told.0 in cc (is))
    spent_told failed (Over (ended.TwoDatabases one two)) piece told counted = absurd (let is = told.0 in cc (is))

    unlooked : (refusal : Refusal) → IsUnlooked (reply.Refused refusal) → Counted (refusing refusal) → new ≡ old
    unlooked IoFault is counted = absurd is
    unlooked OutOfMemory is counted = absurd is
    unlooked other is counted = counted

    quiet : (refusal : Refusal) → IsQuietRefusal (reply.Refused refusal) → Counted (refusing refusal) → shelf.tale new ≡ shelf.tale old
    quiet IoFault is counted = absurd is
    quiet OutOfMemory is counted = counted.1
    quiet other is counted = ap shelf.tale counted

    -- by the answer, told whole or not
    pub quiet_answer : (answer : Answer) → IsMereRefusal answer → Counted answer → shelf.tale new ≡ shelf.tale old
    quiet_answer (Said outcome.Ok) is counted = absurd is
    quiet_answer (Said (outcome.Values text)) is counted = absurd is
    quiet_answer (Said (outcome.Refused IoFault)) is counted = absurd is
    quiet_answer (Said (outcome.Refused OutOfMemory)) is counted = counted.1
    quiet_answer (Said (outcome.Refused other)) is counted = ap shelf.tale counted
    quiet_answer (Over end) is counted = absurd is

    -- a refusal that was told, of a command that makes no call for it, or writes nothing
    pub unlooked_told : (failed : Type 0) (answer : Answer) (given : Reply) (piece : List ℕ) → IsTold failed answer given piece → IsUnlooked given → Counted answer → new ≡ old
    unlooked_told failed answer reply.Ok piece told is counted = absurd is
    unlooked_told failed answer (reply.Refused refusal) piece told is counted = unlooked refusal is (subst Counted (told_refusal failed answer refusal piece told) counted)
    unlooked_told failed answer (reply.Panic active listed) piece told is counted = absurd is
    unlooked_told failed answer reply.Spent piece told is counted = absurd is
    unlooked_told failed answer reply.NoMemory piece told is counted = absurd is
    unlooked_told failed answer reply.Told piece told is counted = absurd is
    unlooked_told failed answer (reply.NoQuorum readable needed) piece told is counted = absurd is
    unlooked_told failed answer (reply.TwoDatabases a b) piece told is counted = absurd is

    pub quiet_told : (failed : Type 0) (answer : Answer) (given : Reply) (piece : List ℕ) → IsTold failed answer given piece → IsQuietRefusal given → Counted answer → shelf.tale new ≡ shelf.tale old
    quiet_told failed answer reply.Ok piece told is counted = absurd is
    quiet_told failed answer (reply.Refused refusal) piece told is counted = quiet refusal is (subst Counted (told_refusal failed answer refusal piece told) counted)
    quiet_told failed answer (reply.Panic active listed) piece told is counted = absurd is
    quiet_told failed answer reply.Spent piece told is counted = absurd is
    quiet_told failed answer reply.NoMemory piece told is counted = absurd is
    quiet_told failed answer reply.Told piece told is counted = absurd is
    quiet_told failed answer (reply.NoQuorum readable needed) piece told is counted = absurd is
    quiet_told failed answer (reply.TwoDatabases a b) piece told is counted = absurd is

    unwritten : (refusal : Refusal) → IsQuietRefusal (reply.Refused refusal) → Counted (refusing refusal) → (made_of shelf old new).within 0 (calls_of host before command) 0
    unwritten IoFault is counted = absurd is
    unwritten OutOfMemory is counted = wanting_most old new host command before 0 counted.0
    unwritten other is counted = none_within old new _ 0 counted

    pub unwritten_told : (failed : Type 0) (answer : Answer) (given : Reply) (piece : List ℕ) → IsTold failed answer given piece → IsQuietRefusal given → Counted answer → (made_of shelf old new).within 0 (calls_of host before command) 0
    unwritten_told failed answer reply.Ok piece told is counted = absurd is
    unwritten_told failed answer (reply.Refused refusal) piece told is counted = unwritten refusal is (subst Counted (told_refusal failed answer refusal piece told) counted)
    unwritten_told failed answer (reply.Panic active listed) piece told is counted = absurd is
    unwritten_told failed answer reply.Spent piece told is counted = absurd is
    unwritten_told failed answer reply.NoMemory piece told is counted = absurd is
    unwritten_told failed answer reply.Told piece told is counted = absurd is
    unwritten_told failed answer (reply.NoQuorum readable needed) piece told is counted = absurd is
    unwritten_told failed answer (reply.TwoDatabases a b) piece told is counted = absurd is

    -- a command that was done
    pub done_told : (failed : Type 0) (answer : Answer) (piece : List ℕ) → IsTold failed answer reply.Ok piece → Counted answer → DoneCalls shelf old new host command before now
    done_told failed answer piece told counted = by answer (told_ok failed answer piece told) counted where
      by : (answer : Answer) → IsAccepted answer → Counted answer → DoneCalls shelf old new host command before now
      by (Said outcome.Ok) on counted = counted
      by (Said (outcome.Values text)) on counted = counted
      by (Said (outcome.Refused refusal)) on counted = absurd on
      by (Over end) on counted = absurd on
