-- What counts of a line, byte by byte.
use Rattle.std.proofs.Common.{◌≡◌, ◌≤◌, ◌-◌, ℕ, Bool, true, false, cond, sym, ◌∙◌, ap, List, [], ◌∷◌, ◌++◌, ◌==◌, length, take, drop, get_or, subst, append_assoc, append-nil, length-append, arith}
use Rattle.std.proofs.Math.Seq.{take-append_seam}
use Rattle.mdv_name.proofs.FirstLines.{take_all}
use Rattle.mdv_tab.specs.Text.{stops, counted, joins}

-- all of the line in front of the rest counts
pub record CutSoFar (line rest : List ℕ) : Type 0 where
  pub front : List ℕ
  pub place : line ≡ front ++ rest
  pub text : counted line ≡ front ++ counted rest
  pub joined : joins line ≡ joins rest

pub cut_more : (line : List ℕ) (b : ℕ) (rest : List ℕ) → CutSoFar line (b ∷ rest) → stops b rest ≡ false → CutSoFar line rest
cut_more line b rest far on =
    record {
      front = far.front ++ b ∷ [];
      place = far.place ∙ sym (append_assoc far.front (b ∷ []) rest);
      text = far.text ∙ ap (λ (v : Bool). far.front ++ cond v [] (b ∷ counted rest)) on ∙ sym (append_assoc far.front (b ∷ []) (counted rest));
      joined = far.joined ∙ ap (λ (v : Bool). cond v (b == 92) (joins rest)) on;
    }

pub cut_ends : (line : List ℕ) (b : ℕ) (rest : List ℕ) → CutSoFar line (b ∷ rest) → stops b rest ≡ true → (take (length line - length (b ∷ rest)) line ≡ counted line) × ((b == 92) ≡ joins line)
cut_ends line b rest far end =
    let size : length line - length (b ∷ rest) ≡ length far.front = omega (arith, ap length far.place, length-append far.front (b ∷ rest)) in (
      ap (λ (n : ℕ). take n line) size ∙ ap (take (length far.front)) far.place ∙ take-append_seam far.front (b ∷ rest)
          ∙ sym (far.text ∙ ap (λ (v : Bool). far.front ++ cond v [] (b ∷ counted rest)) end ∙ append-nil far.front),
      sym (far.joined ∙ ap (λ (v : Bool). cond v (b == 92) (joins rest)) end),
    )

pub cut_whole : (line : List ℕ) → CutSoFar line [] → (line ≡ counted line) × (false ≡ joins line)
cut_whole line far = (far.place ∙ sym far.text, sym far.joined)

pub cut_size : (line rest : List ℕ) → CutSoFar line rest → length rest ≤ length line
cut_size line rest far = omega (arith, ap length far.place, length-append far.front rest)

pub cut_step : (line r : List ℕ) → CutSoFar line r → 1 ≤ length r → stops (get_or r 0 0) (take (length r - 1) (drop 1 r)) ≡ false → CutSoFar line (take (length r - 1) (drop 1 r))
cut_step line [] far some on = absurd (omega arith)
cut_step line (b ∷ bs) far some on =
    let size : length (b ∷ bs) - 1 ≡ length bs = omega arith in
    let all : take (length (b ∷ bs) - 1) bs ≡ bs = ap (λ (n : ℕ). take n bs) size ∙ take_all bs in
    subst (CutSoFar line) (sym all) (cut_more line b bs far (ap (stops b) (sym all) ∙ on))
