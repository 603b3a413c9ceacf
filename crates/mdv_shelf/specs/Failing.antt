-- How the calls on the drives came out: on each just one failed, or none did.
use Rattle.std.specs.Prelude.{◌≡◌, ℕ}
use Rattle.mdv_base.specs.Causes.{Failures}

-- by the number of the drive
abbrev pub Outcomes : Type 1
Outcomes = ℕ → Failures

-- none failed
abbrev pub AreCalm : Outcomes → Type 0
AreCalm calls = (drive : ℕ) → (calls drive).none

-- one failed, on this drive, and none on another
pub record FailedOn (drive : ℕ) (calls : Outcomes) : Type 0 where
  pub here : (calls drive).some
  pub others : (other : ℕ) → (other ≡ drive → ⊥) → (calls other).none

-- on some drive, or on none
abbrev pub any_of : Outcomes → Failures
any_of calls = record { some = (drive : ℕ) × FailedOn drive calls; none = AreCalm calls }
