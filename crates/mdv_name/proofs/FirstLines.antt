-- Where the first line of a text ends.
use Rattle.std.proofs.Common.{◌≡◌, ◌<◌, ◌+◌, ℕ, suc, Bool, true, false, cond, not, refl, ap, List, [], ◌∷◌, length, take, drop, ◌==◌, arith}
use Rattle.std.specs.List.{prefix_len}
use Rattle.mdv_text.specs.Words.{lengthened}
use Rattle.mdv_name.specs.Lines.{is_within_line, lines}

pub lines-newline : (t : List ℕ) → prefix_len is_within_line t < length t → lines t ≡ take (suc (prefix_len is_within_line t)) t ∷ lines (drop (suc (prefix_len is_within_line t)) t)
lines-newline [] = λ more. absurd (omega arith)
lines-newline (b ∷ bs) =
    let k = prefix_len is_within_line bs in
    let next : k < length bs → lines bs ≡ take (suc k) bs ∷ lines (drop (suc k) bs) = lines-newline bs in
    let step : 1 + k ≡ suc k = omega arith in
    let P : Bool → Type 0 = λ v. b == 10 ≡ v → cond (not v) (1 + k) 0 < suc (length bs) → cond v ((b ∷ []) ∷ lines bs) (lengthened b (lines bs)) ≡ take (suc (cond (not v) (1 + k) 0)) (b ∷ bs) ∷ lines (drop (suc (cond (not v) (1 + k) 0)) (b ∷ bs)) in
    (elim (b == 10) as P [
      | true ↦ λ is more. refl
      | false ↦ λ is more. rw step (ap (lengthened b) (next (omega arith)))
    ]) refl

lengthened-last : (b : ℕ) (bs : List ℕ) → (0 < length bs → lines bs ≡ bs ∷ []) → lengthened b (lines bs) ≡ (b ∷ bs) ∷ []
lengthened-last b [] last = refl
lengthened-last b (c ∷ cs) last = ap (lengthened b) (last (omega arith))

pub lines-last : (t : List ℕ) → 0 < length t → prefix_len is_within_line t ≡ length t → lines t ≡ t ∷ []
lines-last [] = λ some whole. absurd (omega arith)
lines-last (b ∷ bs) =
    let k = prefix_len is_within_line bs in
    let next : 0 < length bs → k ≡ length bs → lines bs ≡ bs ∷ [] = lines-last bs in
    let P : Bool → Type 0 = λ v. b == 10 ≡ v → cond (not v) (1 + k) 0 ≡ suc (length bs) → cond v ((b ∷ []) ∷ lines bs) (lengthened b (lines bs)) ≡ (b ∷ bs) ∷ [] in
    λ some whole. (elim (b == 10) as P [
      | true ↦ λ is none. absurd (omega arith)
      | false ↦ λ is long. lengthened-last b bs (λ more. next more (omega arith))
    ]) refl whole

pub take_all : (t : List ℕ) → take (length t) t ≡ t
take_all [] = refl
take_all (b ∷ bs) = ap (λ (l : List ℕ). b ∷ l) (take_all bs)

pub drop_all : (t : List ℕ) → drop (length t) t ≡ []
drop_all [] = refl
drop_all (b ∷ bs) = drop_all bs
