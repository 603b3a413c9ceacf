-- How many calls a pass, a commit and a boot make, and how many blocks they write.
use Rattle.std.specs.Prelude.{◌≡◌, ◌<◌, ◌+◌, ◌-◌, ◌*◌, ◌==◌, if◌then◌else◌, ℕ, List, [], ◌∷◌, map, MatchOption, Result, Ok, Err}
use Rattle.std.specs.List.{list_any}
use Rattle.mdv_shelf.specs.Between.{RoseByAtLeast}
use Rattle.mdv_shelf.specs.Shelves.{MadeCalls}
pub use Rattle.mdv_acts.specs.Acts.{MadeCallsBetween}
use Rattle.mdv_store.specs.Below.{Ghosts}
use Rattle.mdv_store.specs.Opened.{Opened, shortage}
use Rattle.mdv_store.specs.Seats.{active_of, drive_of, replicas_of}
use Rattle.mdv_store.specs.Text.{blocks_for}
use Rattle.mdv_store.specs.declared.seats.Seat.{Seat}
use Rattle.mdv_store.specs.declared.store.CommitFault.{CommitFault}
use Rattle.mdv_store.specs.declared.store.CommitFault.TheVariants as unwritten

-- how many different numbers these are
abbrev pub different : List ℕ → ℕ
different [] = 0
different (n ∷ ns) = if list_any (λ (m : ℕ). m == n) ns then different ns else different ns + 1

-- on how many drives the active places lie
abbrev pub drives_under : List Seat → ℕ
drives_under seats = different (map drive_of (replicas_of seats))

-- how many of these were left: where a call fails a pass leaves all places of the drive
abbrev pub drives_lost : List Seat → List Seat → ℕ
drives_lost before now = drives_under before - drives_under now

-- A pass makes so many calls at each active place, and writes so many blocks, and none where no place is active. Where drives were left meanwhile it
-- made those of the other places, and on each of these drives one at least, which began to write.
pub record ArePassCounted {S : Type 0} (shelf : Ghosts S) (old new : S) (calls blocks : ℕ) (before now : List Seat) : Type 0 where
  pub none : active_of before ≡ 0 → new ≡ old
  pub all : 0 < active_of before → active_of now ≡ active_of before → MadeCalls shelf old new (calls * active_of before) (blocks * active_of before)
  pub some : MadeCallsBetween shelf old new (calls * active_of now + drives_lost before now) (calls * active_of before) (blocks * active_of before)
  pub wrote : RoseByAtLeast (blocks * active_of now + drives_lost before now) (shelf.written old) (shelf.written new)

-- a commit makes three writes and three syncs at each active place, where at least half of each list is active; else none
abbrev pub IsCommitCounted : {S : Type 0} → Ghosts S → S → S → ℕ → Opened → List Seat → Result (Unit {0}) CommitFault → Type 0
IsCommitCounted shelf old new bytes before now (Ok done) = ArePassCounted shelf old new 6 (2 + blocks_for bytes) before.seats now
IsCommitCounted shelf old new bytes before now (Err (unwritten.Lost active listed)) =
    MatchOption (shortage before) (ArePassCounted shelf old new 6 (2 + blocks_for bytes) before.seats now) (λ share. new ≡ old)
IsCommitCounted shelf old new bytes before now (Err (unwritten.TooLong fault)) = new ≡ old
IsCommitCounted shelf old new bytes before now (Err unwritten.Spent) = new ≡ old
