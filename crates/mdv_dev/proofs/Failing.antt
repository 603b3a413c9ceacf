-- How calls on the drives came out, one stretch of them after another.
use Rattle.std.proofs.Common.{◌≡◌, ◌==◌, ◌+◌, ◌-◌, ◌^◌, ℕ, inl, inr, false, min, Result, Err, IsErrAnd, subst, sym, ap, ◌∙◌, arith}
use Rattle.std.proofs.lemmas.Bool.Decides.{nat_tests}
use Rattle.std.proofs.lemmas.Result.{err_from_is_err_and}
use Rattle.mdv_shelf.specs.Calls.{OnDrive}
use Rattle.mdv_shelf.specs.Shelves.{DriveFailures, KeptOn}
use Rattle.mdv_shelf.specs.declared.shelf.Shelf.{Ghosts}
use Rattle.mdv_shelf.proofs.Blocks.{both_ways}
use Rattle.mdv_dev.specs.Below.{AreCalm, FailedOn}
use Rattle.mdv_dev.proofs.Counting.{same_number}

pub differ : (a b : ℕ) → (a == b) ≡ false → a ≡ b → ⊥
differ a b is same = grind (arith, nat_tests)

-- calls on one drive
module _ {S : Type 0} (shelf : Ghosts S) (old new : S) (drive : ℕ) (kept : KeptOn shelf old new (OnDrive drive)) where
  others_calm : (other : ℕ) → (other ≡ drive → ⊥) → (DriveFailures shelf old new other).none
  others_calm other differs = kept.others (OnDrive other) (λ same. differs (cc (same)))

  pub calm_on : (DriveFailures shelf old new drive).none → AreCalm (DriveFailures shelf old new)
  calm_on calm other = elim (both_ways (other == drive)) [
    | inl same ↦ subst (λ (d : ℕ). (DriveFailures shelf old new d).none) (sym (same_number other drive same)) calm
    | inr away ↦ others_calm other (differ other drive away)
  ]

  pub failed_on : (DriveFailures shelf old new drive).some → FailedOn drive (DriveFailures shelf old new)
  failed_on some = record { here = some; others = others_calm }

-- behind calls of which none failed
module _ {S : Type 0} (shelf : Ghosts S) (a b c : S) (calm : AreCalm (DriveFailures shelf a b)) where
  pub calm_more : AreCalm (DriveFailures shelf b c) → AreCalm (DriveFailures shelf a c)
  calm_more more drive = more drive ∙ calm drive

  pub failed_more : (drive : ℕ) → FailedOn drive (DriveFailures shelf b c) → FailedOn drive (DriveFailures shelf a c)
  failed_more drive failed = record {
    here = failed.here ∙ ap (λ (n : ℕ). min (n + 1) (2 ^ 64 - 1)) (calm drive);
    others = λ other differs. failed.others other differs ∙ calm other;
  }

-- an error that is handed on
pub handed_on : {T E : Type 0} (result : Result T E) (e : E) → IsErrAnd result (λ told. told ≡ e) → result ≡ Err e
handed_on result e is = let there = err_from_is_err_and result is in there.1 ∙ ap Err there.2
