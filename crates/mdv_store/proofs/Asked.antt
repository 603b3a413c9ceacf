-- The seats of the places that are asked for.
use Rattle.std.proofs.Common.{◌≡◌, ℕ, zero, suc, ◌+◌, List, [], ◌∷◌, ◌++◌, ap, ◌∙◌, arith}
use Rattle.mdv_store.specs.Below.{Identity, Key, SliceLine}
use Rattle.mdv_store.specs.Create.{seat_on, seats_on}
use Rattle.mdv_store.specs.declared.seats.Seat.{Seat}

-- one seat more
module _ (key : Key) (identity : Identity) (line : SliceLine) (count blocks : ℕ) where
  seats_more : (k n : ℕ) → seats_on key identity line count blocks k (n + 1) ≡ seats_on key identity line count blocks k n ++ seat_on key identity line count blocks (k + n) ∷ []
  seats_more k zero =
      let same : k ≡ k + zero = omega arith in
      ap (λ (i : ℕ). seat_on key identity line count blocks i ∷ []) same
  seats_more k (suc n) =
      let next : suc n + 1 ≡ suc (n + 1) = omega arith in
      let shift : k + 1 + n ≡ k + suc n = omega arith in
      ap (λ (i : ℕ). seats_on key identity line count blocks k i) next
      ∙ ap (λ (l : List Seat). seat_on key identity line count blocks k ∷ l) (seats_more (k + 1) n ∙ ap (λ (i : ℕ). seats_on key identity line count blocks (k + 1) n ++ seat_on key identity line count blocks i ∷ []) shift)

  pub seats_next : (n : ℕ) → seats_on key identity line count blocks 0 (n + 1) ≡ seats_on key identity line count blocks 0 n ++ seat_on key identity line count blocks n ∷ []
  seats_next n =
      let from : 0 + n ≡ n = omega arith in
      seats_more 0 n ∙ ap (λ (i : ℕ). seats_on key identity line count blocks 0 n ++ seat_on key identity line count blocks i ∷ []) from
