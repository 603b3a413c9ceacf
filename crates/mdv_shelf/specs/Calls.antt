-- What each call of a shelf does to its tale, its counts and all else.
use Rattle.std.specs.Prelude.{◌≡◌, ◌≢◌, ◌⊎◌, ℕ, ◌+◌, ◌-◌, ◌^◌, ◌<◌, ◌≤◌, min, Bool, List, [], length, slice_index, slice_index_or, Option, Some, Result, MatchResult, OnOk}
use Rattle.std.specs.Option.{option_map}
use Rattle.mdv_base.specs.Causes.{HasCause}
use Rattle.mdv_shelf.specs.Tale.{Tale, Then, Call, Wrote, Tore, Synced, Gave, last}

-- of what failures are counted apart: a drive, and the giving of replies
pub data Part : Type 0 where
  OnDrive : ℕ → Part
  OnReplies : Part

-- the range is not empty and ends within the drive
pub record InDrive (sizes : List ℕ) (drive at count : ℕ) : Type 0 where
  pub known : drive < length sizes
  pub some : 0 < count
  pub within : at + count ≤ slice_index sizes drive

-- a tale with one more call
abbrev pub and_then : Option Tale → Call → Option Tale
and_then old c = option_map (λ t. Then t c) old

-- these blocks are what a read gives from that block of the drive on
abbrev pub Shows : Tale → ℕ → ℕ → List (List ℕ) → Type 0
Shows t drive at blocks = (k : ℕ) → k < length blocks → slice_index_or blocks k [] ≡ last t drive (at + k)

-- a read changes nothing, and gives what was written last
pub record Reads {T E : Type 0} (old : Option Tale) (drive at : ℕ) (result : Result T E) (blocks : List (List ℕ)) (new : Option Tale) : Type 0 where
  pub same : new ≡ old
  pub gave : OnOk result ((t : Tale) → old ≡ Some t → Shows t drive at blocks)

-- a write that fails took some of its blocks, or none
abbrev pub Writes : {T E : Type 0} → Option Tale → ℕ → ℕ → List (List ℕ) → Result T E → Option Tale → Type 0
Writes old drive at blocks result new = MatchResult result
    (λ _. new ≡ and_then old (Wrote drive at blocks))
    (λ _. (new ≡ old) ⊎ ((took : List Bool) × (new ≡ and_then old (Tore drive at blocks took))))

-- a sync that fails did nothing
abbrev pub Syncs : {T E : Type 0} → Option Tale → ℕ → Result T E → Option Tale → Type 0
Syncs old drive result new = MatchResult result (λ _. new ≡ and_then old (Synced drive)) (λ _. new ≡ old)

-- a giving that fails told a front of the piece, or nothing
abbrev pub Gives : {T E : Type 0} → Option Tale → List ℕ → Result T E → Option Tale → Type 0
Gives old piece result new = MatchResult result
    (λ _. new ≡ and_then old (Gave piece (length piece)))
    (λ _. (new ≡ old) ⊎ ((count : ℕ) × (count ≤ length piece) × (new ≡ and_then old (Gave piece count))))

-- a count of calls or blocks, where it is told, rose by so much; at its type's end it stands still
abbrev pub RoseBy : ℕ → Option ℕ → Option ℕ → Type 0
RoseBy more old new = (n : ℕ) → old ≡ Some n → new ≡ Some (min (n + more) (2 ^ 64 - 1))

-- What a call leaves: the sizes, what no call on a drive changes, the references held, and no count
-- of failures lower.
pub record Keeps {S Rest Held : Type 0} (sizes : S → List ℕ) (faults : S → Part → ℕ) (rest : S → Rest) (held : S → Held) (old new : S) : Type 0 where
  pub same_sizes : sizes new ≡ sizes old
  pub same_rest : rest new ≡ rest old
  pub same_held : held new ≡ held old
  pub no_fewer_faults : (part : Part) → faults old part ≤ faults new part

-- it was counted as one call, with so many blocks written
pub record IsCounted {S : Type 0} (calls written : S → Option ℕ) (old new : S) (blocks : ℕ) : Type 0 where
  pub as_call : RoseBy 1 (calls old) (calls new)
  pub as_blocks : RoseBy blocks (written old) (written new)

-- it took so many calls, with so many blocks written
pub record Took {S : Type 0} (calls written : S → Option ℕ) (old new : S) (count blocks : ℕ) : Type 0 where
  pub in_calls : RoseBy count (calls old) (calls new)
  pub in_blocks : RoseBy blocks (written old) (written new)

abbrev pub RoseByAtMost : ℕ → Option ℕ → Option ℕ → Type 0
RoseByAtMost more old new = (n : ℕ) → old ≡ Some n → (m : ℕ) × (new ≡ Some m) × (m ≤ n + more)

-- it took at most so many, where it failed
pub record TookAtMost {S : Type 0} (calls written : S → Option ℕ) (old new : S) (count blocks : ℕ) : Type 0 where
  pub in_calls : RoseByAtMost count (calls old) (calls new)
  pub in_blocks : RoseByAtMost blocks (written old) (written new)

-- A call on a drive fails only where the drive's count rose, by one, and one that is answered leaves it; no other count changes.
pub record HasDriveCause {T E : Type 0} (before now : Part → ℕ) (drive : ℕ) (result : Result T E) : Type 0 where
  pub own : HasCause (before (OnDrive drive)) (now (OnDrive drive)) result
  pub others : (part : Part) → part ≢ OnDrive drive → now part ≡ before part

-- A giving fails only where the replies' count rose, by one, and one that is answered leaves it; no drive's changes.
pub record HasGivingCause {T E : Type 0} (before now : Part → ℕ) (result : Result T E) : Type 0 where
  pub own : HasCause (before OnReplies) (now OnReplies) result
  pub drives : (drive : ℕ) → now (OnDrive drive) ≡ before (OnDrive drive)
