-- What a shelf in memory tells, and which of its calls are asked to fail.
use Rattle.std.specs.Prelude.{◌≡◌, ◌≢◌, ◌⊎◌, ℕ, ◌+◌, ◌-◌, ◌^◌, ◌≤◌, min, Bool, false, ◌&&◌, ◌||◌, ◌==◌, not, nat_le, nat_lt, List, [], map, filter, reverse, slice_index, slice_index_or, if◌then◌else◌, Option, Some, None, Result, is_err, IsErr, OnErr, IsTrue}
use Rattle.std.specs.List.{list_any}
use Rattle.std.specs.Option.{option_map_or}
use Rattle.mdv_shelf.specs.Tale.{Tale}
use Rattle.mdv_shelf.specs.Calls.{Part, OnDrive, OnReplies}
use Rattle.mdv_shelf.specs.Story.{Story, Tally}
use Rattle.mdv_shelf.specs.MemHistory.{tale_from, latest_blocks, lengths, blank}
use Rattle.mdv_shelf.specs.MemStory.{with_counts}
use Rattle.mdv_shelf.specs.declared.mem_shelf.counts.Counts.{Counts}
use Rattle.mdv_shelf.specs.declared.mem_shelf.counts.Totals.{Totals}
use Rattle.mdv_shelf.specs.declared.mem_shelf.history.History.{History}
use Rattle.mdv_shelf.specs.declared.mem_shelf.plan.Plan.{Plan}
use Rattle.mdv_shelf.specs.declared.mem_shelf.plan.Loss.{Loss}
use Rattle.mdv_shelf.specs.declared.mem_shelf.Health.{Health}
use Rattle.mdv_shelf.specs.declared.mem_shelf.MemShelf.{MemShelf}

abbrev pub history_tale : History → Tale
history_tale h = tale_from h.disks.items h.calls.items h.told_before h.told.items

abbrev pub history_sizes : History → List ℕ
history_sizes h = lengths (latest_blocks h.disks.items)

-- the next call is asked to fail, whatever it works on
abbrev pub is_call_asked : Plan → Bool
is_call_asked plan = list_any (λ n. n == plan.calls) plan.failing.items || option_map_or (λ n. nat_le n plan.calls) plan.stop false

-- a loss of the drive has come by the next call
abbrev pub is_loss_reached : Plan → ℕ → Bool
is_loss_reached plan drive = list_any (λ l. l.drive == drive && nat_le l.number plan.calls) plan.losses.items

abbrev pub shelf_sizes : MemShelf → List ℕ
shelf_sizes s = history_sizes s.history

abbrev pub shelf_tale : MemShelf → Tale
shelf_tale s = history_tale s.history

abbrev pub told_bytes : MemShelf → List ℕ
told_bytes s = s.history.told.items

abbrev pub call_count : MemShelf → ℕ
call_count s = s.plan.calls

abbrev pub block_count : MemShelf → ℕ
block_count s = s.written

-- of drives of this health and so many failed givings, how often the part failed
abbrev pub faults_in : List Health → ℕ → Part → ℕ
faults_in health replies (OnDrive drive) = slice_index (map (λ h. h.faults) health) drive
faults_in health replies OnReplies = replies

-- and with these totals, what was counted
abbrev pub tally_in : List Health → Totals → Tally
tally_in health totals = record { faults = faults_in health totals.reply_faults; effort = record { calls = Some totals.calls; written = Some totals.written } }

-- the counts as a call was made
abbrev pub counts_of : Counts → Tally
counts_of counts = tally_in counts.drives.items counts.totals

abbrev pub history_story : History → Story
history_story h = with_counts (history_tale h) (reverse (map counts_of h.counts.items))

abbrev pub shelf_story : MemShelf → Story
shelf_story s = history_story s.history

abbrev pub fault_count : MemShelf → Part → ℕ
fault_count s part = faults_in s.health.items s.reply_faults part

-- what was counted so far beside the drives' failures
abbrev pub shelf_totals : MemShelf → Totals
shelf_totals s = record { reply_faults = s.reply_faults; calls = s.plan.calls; written = s.written }

abbrev pub is_short : MemShelf → Bool
is_short s = s.short

-- what the shelf tells of itself
abbrev pub told_tale : MemShelf → Option Tale
told_tale s = Some (shelf_tale s)

abbrev pub told_story : MemShelf → Option Story
told_story s = Some (shelf_story s)

abbrev pub told_calls : MemShelf → Option ℕ
told_calls s = Some (call_count s)

abbrev pub told_blocks : MemShelf → Option ℕ
told_blocks s = Some (block_count s)

-- it holds no reference, and nothing in it stays through every call
abbrev pub nothing : MemShelf → Unit {0}
nothing s = tt

-- the numbers of calls that are asked to fail
abbrev pub failing_numbers : MemShelf → List ℕ
failing_numbers s = s.plan.failing.items

-- the losses asked for from a call on
abbrev pub losses : MemShelf → List Loss
losses s = s.plan.losses.items

-- the number from which every call fails
abbrev pub stop_number : MemShelf → Option ℕ
stop_number s = s.plan.stop

-- for each drive whether it is lost
abbrev pub lost_drives : MemShelf → List Bool
lost_drives s = map (λ h. h.lost) s.health.items

-- the next call on that part is asked to fail
abbrev pub is_asked : MemShelf → Part → Bool
is_asked s (OnDrive drive) = is_call_asked s.plan || slice_index_or (lost_drives s) drive false || is_loss_reached s.plan drive
is_asked s OnReplies = is_call_asked s.plan

-- what is asked for stays
pub record KeepsPlan (old new : MemShelf) : Type 0 where
  pub same_failing : failing_numbers new ≡ failing_numbers old
  pub same_losses : losses new ≡ losses old
  pub same_stop : stop_number new ≡ stop_number old
  pub same_lost : lost_drives new ≡ lost_drives old

-- what was counted and told stays
pub record KeepsCounts (old new : MemShelf) : Type 0 where
  pub same_told : told_bytes new ≡ told_bytes old
  pub same_sizes : shelf_sizes new ≡ shelf_sizes old
  pub same_calls : call_count new ≡ call_count old
  pub same_blocks : block_count new ≡ block_count old
  pub same_faults : (part : Part) → fault_count new part ≡ fault_count old part
  pub same_short : is_short new ≡ is_short old

-- no call was made: the tale, its story and the counts stay
pub record IsUntouched (old new : MemShelf) : Type 0 where
  pub same_tale : shelf_tale new ≡ shelf_tale old
  pub same_story : shelf_story new ≡ shelf_story old
  pub counts : KeepsCounts old new

-- a call on that part, a write of so many blocks, failed: no drive was changed and nothing told
pub record HasFailed (part : Part) (blocks : ℕ) (old new : MemShelf) : Type 0 where
  pub same_tale : shelf_tale new ≡ shelf_tale old
  pub same_story : shelf_story new ≡ shelf_story old
  pub same_told : told_bytes new ≡ told_bytes old
  pub same_sizes : shelf_sizes new ≡ shelf_sizes old
  pub plan : KeepsPlan old new
  pub call : call_count new ≡ min (call_count old + 1) (2 ^ 64 - 1)
  pub blocks_written : block_count new ≡ min (block_count old + blocks) (2 ^ 64 - 1)
  pub fault : fault_count new part ≡ min (fault_count old part + 1) (2 ^ 64 - 1)
  pub no_fewer_faults : fault_count old part ≤ fault_count new part
  pub no_other_fault : (other : Part) → other ≢ part → fault_count new other ≡ fault_count old other
  pub short : is_short new ≡ (is_short old || not (is_asked old part))

-- A call that is asked to fail fails. Where one fails without being asked to, the shelf is short from
-- then on. A call that failed changed no drive and told nothing, and only its own part's count rose.
pub record AnswersAsAsked {T E : Type 0} (part : Part) (result : Result T E) (old new : MemShelf) : Type 0 where
  pub asked : IsTrue (is_asked old part) → IsErr result
  pub only : IsErr result → IsTrue (is_asked old part) ⊎ IsTrue (is_short new)
  pub short : is_short new ≡ (is_short old || (is_err result && not (is_asked old part)))
  pub whole : OnErr result (shelf_tale new ≡ shelf_tale old)
  pub told : OnErr result (told_bytes new ≡ told_bytes old)
  pub fault : fault_count new part ≡ (if is_err result then min (fault_count old part + 1) (2 ^ 64 - 1) else fault_count old part)
  pub no_other_fault : (other : Part) → other ≢ part → fault_count new other ≡ fault_count old other
  pub plan : KeepsPlan old new

-- the earlier of a stop that stands and another
abbrev pub earlier_stop : Option ℕ → ℕ → ℕ
earlier_stop None number = number
earlier_stop (Some old) number = min old number

-- the loss has begun: a call of its number, or a later one, was made
abbrev pub has_begun : ℕ → Loss → Bool
has_begun calls loss = nat_lt loss.number calls

-- the losses that have begun
abbrev pub begun_losses : ℕ → List Loss → List Loss
begun_losses calls asked = filter (λ l. has_begun calls l) asked

-- the losses but those of a drive that have begun
abbrev pub losses_without : ℕ → ℕ → List Loss → List Loss
losses_without calls drive asked = filter (λ l. not (l.drive == drive && has_begun calls l)) asked

-- a shelf of new drives, of which nothing is asked
pub record IsNew (sizes : List ℕ) (s : MemShelf) : Type 0 where
  pub tale : shelf_tale s ≡ blank sizes
  pub sizes_are : shelf_sizes s ≡ sizes
  pub told_nothing : told_bytes s ≡ []
  pub no_calls : call_count s ≡ 0
  pub no_blocks : block_count s ≡ 0
  pub no_faults : (part : Part) → fault_count s part ≡ 0
  pub whole : is_short s ≡ false
  pub none_failing : failing_numbers s ≡ []
  pub no_losses : losses s ≡ []
  pub no_stop : stop_number s ≡ None
  pub none_lost : lost_drives s ≡ map (λ _. false) sizes
