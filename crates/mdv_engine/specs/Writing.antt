-- What a write comes to, of one block or of many alike, which take memory before any call.
use Rattle.std.specs.Prelude.{◌≡◌, ◌⊎◌, ◌≤◌, ℕ, length, None, Some, Result, Ok, Err}
use Rattle.mdv_shelf.specs.declared.shelf.Shelf.{Ghosts}
use Rattle.mdv_shelf.specs.Shelves.{MadeCalls}
use Rattle.mdv_shelf.specs.Made.{made_of}
use Rattle.mdv_words.specs.declared.written.Written.{Written}
use Rattle.mdv_engine_law.specs.Commands.{FailedWrite, TakesMemory}
use Rattle.mdv_engine_law.specs.Refusals.{transfer_refusal}
use Rattle.mdv_engine.specs.Below.{AreCalm, Host, IoFault, Memory, OutOfMemory, Outcomes, Refusal, VolId, blocks_of}
use Rattle.mdv_engine.specs.declared.engine.Engine.{Engine}
use Rattle.mdv_engine.specs.Ends.{write_calls}

-- nothing refuses it, so that it isn't of too many blocks
abbrev pub IsFree : Host → Memory → VolId → ℕ → Written → Type 0
IsFree host memory volume at what = (transfer_refusal host memory.opened volume at (length (blocks_of what)) ≡ None) × (length (blocks_of what) ≤ 1024)

-- why it isn't done: the first cause that refuses it; or nothing does, and calls on drives of its blocks failed, or memory was wanting for them
abbrev pub HasWriteCause : Outcomes → Host → Memory → VolId → ℕ → Written → Refusal → Type 0
HasWriteCause calls host memory volume at what refusal =
    (AreCalm calls × (transfer_refusal host memory.opened volume at (length (blocks_of what)) ≡ Some refusal))
    ⊎ ((FailedWrite calls host memory volume at (length (blocks_of what)) × IsFree host memory volume at what × (refusal ≡ IoFault)) ⊎ (TakesMemory what × AreCalm calls × IsFree host memory volume at what × (refusal ≡ OutOfMemory)))

-- its calls: just so many where it was done, one at least and no more where one failed, and none where it was refused for another cause
abbrev pub HasWriteCounts : {S : Type 0} → Ghosts S → S → S → Engine → VolId → ℕ → ℕ → Result (Unit {0}) Refusal → Type 0
HasWriteCounts shelf old new engine volume at count (Ok done) = MadeCalls shelf old new (write_calls engine volume at count) count
HasWriteCounts shelf old new engine volume at count (Err IoFault) = (made_of shelf old new).within 1 (write_calls engine volume at count) count
HasWriteCounts shelf old new engine volume at count (Err other) = new ≡ old
