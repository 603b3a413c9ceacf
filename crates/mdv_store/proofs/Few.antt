-- Reads as calls that wrote nothing.
use Rattle.std.proofs.Common.{ℕ, zero, suc, ◌+◌, ◌≤◌, arith, refl, subst}
use Rattle.mdv_shelf.proofs.Between.{between_none, between_of, between_wider}
use Rattle.mdv_shelf.proofs.Counts.{took_more}
use Rattle.mdv_shelf.specs.Shelves.{MadeCalls}
use Rattle.mdv_survey.specs.Counts.{MadeReads}
use Rattle.mdv_store.specs.Below.{Ghosts}
use Rattle.mdv_store.specs.Counts.{MadeCallsBetween}

module _ {S : Type 0} (shelf : Ghosts S) where
  pub reads_between : (a b : S) (k least most : ℕ) → least ≤ k → k ≤ most → MadeReads shelf a b k → MadeCallsBetween shelf a b least most 0
  reads_between a b zero least most low high same =
      between_wider shelf.calls shelf.written a b 0 0 0 least most 0 low (omega arith) (omega arith) (between_none shelf.calls shelf.written a b 0 0 same)
  reads_between a b (suc k) least most low high took = between_of shelf.calls shelf.written a b (suc k) 0 least most 0 low high (omega arith) took

  -- and calls behind them
  pub reads_then : (a b c : S) (j k l : ℕ) → MadeReads shelf a b j → MadeCalls shelf b c k l → MadeCalls shelf a c (j + k) l
  reads_then a b c zero k l same took = subst (λ (s : S). MadeCalls shelf s c (0 + k) l) same (subst (λ (n : ℕ). MadeCalls shelf b c n l) (omega arith) took)
  reads_then a b c (suc j) k l read took = took_more shelf.calls shelf.written a b c (suc j) k 0 l (suc j + k) l refl (omega arith) read took
