-- How reads add up, one stretch behind another.
use Rattle.std.proofs.Common.{◌≡◌, ℕ, zero, suc, ◌+◌, ◌≤◌, refl, sym, ap, subst, Ok, Err, Result, arith}
use Rattle.std.specs.Prelude.{IsErrAnd}
use Rattle.mdv_shelf.specs.Shelves.{MadeCalls}
use Rattle.mdv_shelf.proofs.Counts.{took_more}
use Rattle.mdv_survey.specs.Counts.{MadeFew, MadeReads}
use Rattle.mdv_look.specs.Below.{Ghosts}

-- an answer that is this fault
pub err_is : {T E : Type 0} (result : Result T E) (fault : E) → IsErrAnd result (λ e. e ≡ fault) → result ≡ Err fault
err_is (Ok done) fault is = absurd is
err_is (Err e) fault is = ap Err is

module _ {S : Type 0} (shelf : Ghosts S) where
  -- reads behind calls that wrote nothing
  pub reads_behind : (a b c : S) (j k m : ℕ) → j + k ≡ m → MadeCalls shelf a b j 0 → MadeReads shelf b c k → MadeCalls shelf a c m 0
  reads_behind a b c j zero m all first same = subst (λ (s : S). MadeCalls shelf a s m 0) (sym same) (subst (λ (n : ℕ). MadeCalls shelf a b n 0) (omega (arith, all)) first)
  reads_behind a b c j (suc k) m all first took = took_more shelf.calls shelf.written a b c j (suc k) 0 0 m 0 all (omega arith) first took

  -- and behind other reads
  pub reads_more : (a b c : S) (j k m : ℕ) → j + k ≡ m → MadeReads shelf a b j → MadeReads shelf b c k → MadeReads shelf a c m
  reads_more a b c zero k m all same second =
      let same_count : k ≡ m = omega (arith, all) in
      subst (λ (s : S). MadeReads shelf s c m) same (subst (λ (n : ℕ). MadeReads shelf b c n) same_count second)
  reads_more a b c (suc j) k m all first second =
      let same_count : suc (j + k) ≡ m = omega (arith, all) in
      let both : MadeReads shelf a c (suc (j + k)) = reads_behind a b c (suc j) k (suc (j + k)) (omega arith) first second in
      subst (λ (n : ℕ). MadeReads shelf a c n) same_count both

  pub few_more : (a b c : S) (j k m : ℕ) → j + k ≤ m → MadeFew shelf a b j → MadeFew shelf b c k → MadeFew shelf a c m
  few_more a b c j k m all first second =
      (first.0 + second.0, omega (arith, all, first.1, second.1), reads_more a b c first.0 second.0 (first.0 + second.0) refl first.2 second.2)

  pub few_wider : (a b : S) (j k : ℕ) → j ≤ k → MadeFew shelf a b j → MadeFew shelf a b k
  few_wider a b j k within few = (few.0, omega (arith, within, few.1), few.2)
