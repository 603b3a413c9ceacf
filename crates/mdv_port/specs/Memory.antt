-- A source over bytes in memory.
use Rattle.std.specs.Prelude.{◌-◌, ℕ, List, Option, Some, None}

-- the bytes that it hasn't given yet, how often it failed, and how many calls pass before the one that fails, if one does
pub record Memory : Type 0 where
  pub left : List ℕ
  pub faults : ℕ
  pub passing : Option ℕ

-- one call passed: the call that fails is one call nearer
abbrev pub one_passed : Option ℕ → Option ℕ
one_passed None = None
one_passed (Some n) = Some (n - 1)
