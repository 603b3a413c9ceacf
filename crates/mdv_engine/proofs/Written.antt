-- What a write says that was refused: of a failed call more than of another cause.
use Rattle.std.proofs.Common.{◌≡◌, inl, inr, ℕ, List, length, Option, Result, Ok, Err, IfErr, refl, sym, ap, ◌∙◌, subst}
use Rattle.mdv_shelf.specs.Shelves.{DriveFailures}
use Rattle.mdv_shelf.specs.declared.shelf.Shelf.{Ghosts}
use Rattle.mdv_words.specs.declared.written.Written.{Written}
use Rattle.mdv_engine_law.specs.Answers.{refusing}
use Rattle.mdv_engine.specs.Below.{IoFault, Opened, Refusal, VolId, Write, blocks_of}
use Rattle.mdv_engine.specs.Counts.{IsCommandCounted}
use Rattle.mdv_engine.specs.declared.engine.Engine.{Engine}
use Rattle.mdv_engine.specs.Ends.{AreBlocksCounted, AreWritten, write_calls}
use Rattle.mdv_engine.specs.Engine.{FailedWrite, HasBlocksCause}
use Rattle.mdv_engine.specs.Writing.{HasWriteCause, HasWriteCounts}
use Rattle.mdv_engine.proofs.Counting.{refused_counted, write_fault}
use Rattle.mdv_engine.proofs.Judged.{blocks_judged, judged_no_fault, transfer_judged}

module _ {S : Type 0} (shelf : Ghosts S) (old new : S) (v : Engine) (volume : VolId) (at : ℕ) where
  -- the engine is as it was
  module _ (blocks : List (List ℕ)) (after : Engine) where
    pub written_same : (r : Refusal) → (r ≡ IoFault → ⊥) → AreWritten shelf old new v volume at blocks (Err r) after → after ≡ v
    written_same IoFault never written = absurd (never refl)
    written_same other never same = same

    pub same_written : (r : Refusal) → (r ≡ IoFault → ⊥) → after ≡ v → AreWritten shelf old new v volume at blocks (Err r) after
    same_written IoFault never same = absurd (never refl)
    same_written other never same = same

  -- and no call was made
  module _ (count : ℕ) where
    pub counted_same : (r : Refusal) → (r ≡ IoFault → ⊥) → HasWriteCounts shelf old new v volume at count (Err r) → new ≡ old
    counted_same IoFault never counted = absurd (never refl)
    counted_same other never same = same

    pub same_counted : (r : Refusal) → (r ≡ IoFault → ⊥) → new ≡ old → HasWriteCounts shelf old new v volume at count (Err r)
    same_counted IoFault never same = absurd (never refl)
    same_counted other never same = same

    -- by the calls of a write of blocks
    pub counts_of : (result : Result (Unit {0}) Refusal) → IfErr result (HasBlocksCause FailedWrite (DriveFailures shelf old new) v.host v.state volume at count) → AreBlocksCounted shelf old new (write_calls v volume at count) count v volume at count result → HasWriteCounts shelf old new v volume at count result
    counts_of (Ok done) cause counted = counted.done
    counts_of (Err r) (inl is) counted = same_counted r (judged_no_fault r (blocks_judged v.host v.state.opened volume _ r is.1)) (counted.refused is.1)
    counts_of (Err r) (inr (of, free, fault)) counted = subst (λ (x : Refusal). HasWriteCounts shelf old new v volume at count (Err x)) (sym fault) (counted.failed (ap Err fault))

-- the calls of a write that isn't done
module _ {S : Type 0} (shelf : Ghosts S) (old new : S) (v : Engine) (volume : VolId) (at : ℕ) (what : Written) (r : Refusal) (now : Option Opened) where
  abbrev Counted : Refusal → Type 0
  Counted x = IsCommandCounted shelf old new v.host (Write volume at what) (refusing x) v.state.opened now

  still_counted : (x : Refusal) → (x ≡ IoFault → ⊥) → new ≡ old → Counted x
  still_counted x never same = refused_counted shelf old new v.host (Write volume at what) x v.state.opened now (λ fault. absurd (never fault)) same

  pub write_counted : HasWriteCause (DriveFailures shelf old new) v.host v.state volume at what r → HasWriteCounts shelf old new v volume at (length (blocks_of what)) (Err r) → Counted r
  write_counted (inl (calm, is)) counted =
      let never = judged_no_fault r (transfer_judged v.host v.state.opened volume at (length (blocks_of what)) r is) in
      still_counted r never (counted_same shelf old new v volume at (length (blocks_of what)) r never counted)
  write_counted (inr (inl (of, free, fault))) counted =
      subst Counted (sym fault) (write_fault shelf old new v.host volume at what v.state.opened now free.1 (subst (λ (x : Refusal). HasWriteCounts shelf old new v volume at (length (blocks_of what)) (Err x)) fault counted))
  write_counted (inr (inr (takes, calm, free, want))) counted =
      let never : r ≡ IoFault → ⊥ = λ fault. absurd (cc (sym want ∙ fault)) in
      still_counted r never (counted_same shelf old new v volume at (length (blocks_of what)) r never counted)
