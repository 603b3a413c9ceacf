-- How often an object of the outside failed, and that an answer comes from a failure.
use Rattle.std.specs.Prelude.{ℕ, ◌≡◌, ◌+◌, ◌-◌, ◌^◌, ◌≤◌, min, Result, OnErr, OnOk}

-- a count of failures rose, or stands at its type's end, where it can't rise
abbrev pub Rose : ℕ → ℕ → Type 0
Rose before now = min (before + 1) (2 ^ 64 - 1) ≤ now

-- it rose by one, or stands at its type's end
abbrev pub RoseOnce : ℕ → ℕ → Type 0
RoseOnce before now = now ≡ min (before + 1) (2 ^ 64 - 1)

-- a count never falls, a call fails only where it rose, by one, and one that is answered leaves it as it was
pub record HasCause {T E : Type 0} (before now : ℕ) (result : Result T E) : Type 0 where
  pub later : before ≤ now
  pub failed : OnErr result (RoseOnce before now)
  pub calm : OnOk result (now ≡ before)

-- how the calls on a part came out: just one failed, or none did
pub record Failures : Type 1 where
  pub some : Type 0
  pub none : Type 0

-- by its count before them and behind them
abbrev pub failures_of : ℕ → ℕ → Failures
failures_of before now = record { some = RoseOnce before now; none = now ≡ before }
