-- The place of the first newline, in a list and in what is made of lists.
use Rattle.std.proofs.Common.{◌≡◌, ◌≤◌, ◌<◌, ◌+◌, ℕ, zero, suc, Bool, true, false, cond, not, List, [], ◌∷◌, ◌++◌, length, drop, Option, Some, None, position, get_or, refl, sym, ap, ◌∙◌, arith}
use Rattle.std.specs.List.{position_or_len}
use Rattle.std.proofs.lemmas.List.{length-take}
use Rattle.std.proofs.lemmas.List.Sums.{prefix_len-le-length, position_or_len_is}
use Rattle.std.proofs.lemmas.Bool.{le-ltb, lt-ltb}
use Rattle.memchr.specs.Find.{IsFirstByte, is_byte}
use Rattle.mdv_port.specs.Lines.{is_newline, first_line}

-- the place of the first newline
abbrev pub end_of : List ℕ → ℕ
end_of xs = position_or_len is_newline xs

pub end-le-length : (xs : List ℕ) → end_of xs ≤ length xs
end-le-length xs = prefix_len-le-length (λ (x : ℕ). not (is_newline x)) xs

pub end-cons_yes : (x : ℕ) (xs : List ℕ) → is_newline x ≡ true → end_of (x ∷ xs) ≡ 0
end-cons_yes x xs e = ap (λ (b : Bool). cond (not b) (1 + end_of xs) 0) e

pub end-cons_no : (x : ℕ) (xs : List ℕ) → is_newline x ≡ false → end_of (x ∷ xs) ≡ end_of xs + 1
end-cons_no x xs e = omega (arith, ap (λ (b : Bool). cond (not b) (1 + end_of xs) 0) e)

pub length-first_line : (xs : List ℕ) → length (first_line xs) ≡ end_of xs
length-first_line xs = omega (arith, length-take {A = ℕ}, end-le-length xs)

-- past bytes that are no newlines
pub end-drop : (n : ℕ) (xs : List ℕ) → n ≤ end_of xs → end_of (drop n xs) + n ≡ end_of xs
end-drop zero xs le = omega arith
end-drop (suc n) [] le = absurd (omega arith)
end-drop (suc n) (x ∷ xs) le =
    let by : (b : Bool) → is_newline x ≡ b → end_of (drop n xs) + suc n ≡ end_of (x ∷ xs) = elim [
      | true ↦ λ hit. absurd (omega (arith, end-cons_yes x xs hit))
      | false ↦ λ miss. omega (arith, end-cons_no x xs miss, end-drop n xs (omega (arith, end-cons_no x xs miss)))
    ] in
    by (is_newline x) refl

-- the front has it, or not
pub end-append : (xs ys : List ℕ) → (end_of xs < length xs → end_of (xs ++ ys) ≡ end_of xs) × (length xs ≤ end_of xs → end_of (xs ++ ys) ≡ length xs + end_of ys)
end-append [] ys = (λ lt. absurd (omega arith), λ le. omega arith)
end-append (x ∷ xs) ys =
    let more = end-append xs ys in
    let by : (b : Bool) → is_newline x ≡ b → (end_of (x ∷ xs) < length (x ∷ xs) → end_of (x ∷ (xs ++ ys)) ≡ end_of (x ∷ xs)) × (length (x ∷ xs) ≤ end_of (x ∷ xs) → end_of (x ∷ (xs ++ ys)) ≡ length (x ∷ xs) + end_of ys) = elim [
      | true ↦ λ hit. (λ lt. end-cons_yes x (xs ++ ys) hit ∙ sym (end-cons_yes x xs hit), λ le. absurd (omega (arith, end-cons_yes x xs hit)))
      | false ↦ λ miss. (
        λ lt. omega (arith, end-cons_no x xs miss, end-cons_no x (xs ++ ys) miss, more.0 (omega (arith, end-cons_no x xs miss))),
        λ le. omega (arith, end-cons_no x xs miss, end-cons_no x (xs ++ ys) miss, more.1 (omega (arith, end-cons_no x xs miss))),
      )
    ] in
    by (is_newline x) refl

not_true : (b : Bool) → (b ≡ true → ⊥) → b ≡ false
not_true true never = absurd (never refl)
not_true false never = refl

-- what `memchr` finds
pub first_byte_is : (xs : List ℕ) (r : Option ℕ) → IsFirstByte (is_byte 10) xs r → r ≡ position is_newline xs
first_byte_is xs None nowhere =
    let all : end_of xs ≡ length xs = position_or_len_is is_newline xs (length xs) 0 (omega arith) (λ k lt. not_true (is_newline (get_or xs k 0)) (nowhere k (omega arith) lt)) (λ lt. absurd (omega arith)) in
    sym (ap (λ (b : Bool). cond b (Some (end_of xs)) None) (le-ltb (end_of xs) (length xs) (omega arith)))
first_byte_is xs (Some k) found =
    let high : k < length xs = found.0.high in
    let at : end_of xs ≡ k = position_or_len_is is_newline xs k 0 (omega arith) (λ j lt. not_true (is_newline (get_or xs j 0)) (found.0.before j (omega arith) lt)) (λ lt. found.1) in
    sym (ap (λ (b : Bool). cond b (Some (end_of xs)) None) (lt-ltb (end_of xs) (length xs) (omega arith)) ∙ ap Some at)
