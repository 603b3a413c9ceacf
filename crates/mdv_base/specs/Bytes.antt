-- Bytes with zeros behind them.
use Rattle.std.specs.Prelude.{◌≡◌, ◌≤◌, ◌-◌, ◌++◌, ℕ, List, length, take, drop, replicate}
use Rattle.std.proofs.Common.{sym, ◌∙◌, ap, arith}
use Rattle.std.proofs.lemmas.List.{length-take-le, take-append-drop}

-- the bytes and zeros behind them, so many in all
abbrev pub padded_to : ℕ → List ℕ → List ℕ
padded_to size bytes = bytes ++ replicate (size - length bytes) 0

-- the first of the bytes count, and zeros stand behind them
pub record IsPadded (size : ℕ) (bytes : List ℕ) (used : ℕ) : Type 0 where
  pub whole : length bytes ≡ size
  pub within : used ≤ size
  pub padding : drop used bytes ≡ replicate (size - used) 0

-- so what counts gives all of them back
pub padded_again : (size : ℕ) (bytes : List ℕ) (used : ℕ) → IsPadded size bytes used → (padded_to size (take used bytes) ≡ bytes) × (length (take used bytes) ≡ used)
padded_again size bytes used padded =
    let count : length (take used bytes) ≡ used = length-take-le used bytes (omega (arith, padded.within, padded.whole)) in
    (ap (λ (n : ℕ). take used bytes ++ replicate (size - n) 0) count ∙ ap (λ (l : List ℕ). take used bytes ++ l) (sym padded.padding) ∙ take-append-drop used bytes, count)
