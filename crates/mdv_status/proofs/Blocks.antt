-- The zeros behind the last other byte of a block.
use Rattle.std.proofs.Common.{◌≡◌, ◌≢◌, ◌↔◌, ℕ, zero, suc, ◌+◌, ◌-◌, ◌≤◌, ◌<◌, rules, List, [], ◌∷◌, ◌++◌, length, get_or, take, drop, refl, sym, ◌∙◌, ap, arith}
use Rattle.std.specs.Int.Bits.{bit_or, or_zero_l}
use Rattle.std.proofs.lemmas.Grind.{take_at_read}
use Rattle.std.proofs.lemmas.Nat.{le_or_l, le_or_r}
use Rattle.std.proofs.lemmas.List.{take_all, take-append-drop}
use Rattle.mdv_status.specs.Values.{zero_out, significant}

zero_behind : (bs : List ℕ) → significant (bs ++ 0 ∷ []) ≡ significant bs
zero_behind [] = refl
zero_behind (b ∷ bs) = ap (zero_out b) (zero_behind bs)

kept : (b x : ℕ) (bs : List ℕ) → zero_out b (x ∷ bs) ≡ b ∷ x ∷ bs
kept zero x bs = refl
kept (suc b) x bs = refl

other_behind : (bs : List ℕ) (b : ℕ) → b ≢ 0 → significant (bs ++ b ∷ []) ≡ bs ++ b ∷ []
other_behind [] zero other = absurd (other refl)
other_behind [] (suc b) other = refl
other_behind (x ∷ []) b other = ap (zero_out x) (other_behind [] b other) ∙ kept x b []
other_behind (x ∷ y ∷ bs) b other = ap (zero_out x) (other_behind (y ∷ bs) b other) ∙ kept x y (bs ++ b ∷ [])

parted : (bs : List ℕ) → 1 ≤ length bs → bs ≡ take (length bs - 1) bs ++ get_or bs (length bs - 1) 0 ∷ []
parted bs some =
    let more : length bs - 1 + 1 ≡ length bs = omega arith in
    sym (take_all (length bs) bs (omega arith)) ∙ ap (λ (n : ℕ). take n bs) (sym more) ∙ (take_at_read bs (length bs - 1) 0 (omega arith)).1

-- a zero at the end is left out
pub without_last : (bs : List ℕ) → 1 ≤ length bs → get_or bs (length bs - 1) 0 ≡ 0 → significant (take (length bs - 1) bs) ≡ significant bs
without_last bs some is =
    sym (zero_behind (take (length bs - 1) bs)) ∙ ap (λ (b : ℕ). significant (take (length bs - 1) bs ++ b ∷ [])) (sym is) ∙ ap significant (sym (parted bs some))

-- where the last byte is another one, all are kept
pub all_kept : (bs : List ℕ) → 1 ≤ length bs → get_or bs (length bs - 1) 0 ≢ 0 → bs ≡ significant bs
all_kept bs some other =
    parted bs some ∙ sym (other_behind (take (length bs - 1) bs) (get_or bs (length bs - 1) 0) other) ∙ ap significant (sym (parted bs some))

-- zeros behind bytes are left out
pub without_zeros : (front back : List ℕ) → significant back ≡ [] → significant (front ++ back) ≡ significant front
without_zeros [] back none = none
without_zeros (b ∷ front) back none = ap (zero_out b) (without_zeros front back none)

-- so a chunk of zeros at the end may go
pub without_chunk : (bs front back : List ℕ) (n : ℕ) → front ≡ take n bs → back ≡ drop n bs → significant back ≡ [] → significant front ≡ significant bs
without_chunk bs front back n one other none =
    ap significant one ∙ sym (without_zeros (take n bs) (drop n bs) (ap significant (sym other) ∙ none)) ∙ ap significant (take-append-drop n bs)

last_blank : (bs : List ℕ) (b : ℕ) → significant (bs ++ b ∷ []) ≡ [] → (significant bs ≡ []) × (b ≡ 0)
last_blank bs zero none = (sym (zero_behind bs) ∙ none, refl)
last_blank [] (suc b) none = absurd (cc (none))
last_blank (x ∷ bs) (suc b) none =
    let other : suc b ≢ 0 = search rules in
    let kept = sym (other_behind (x ∷ bs) (suc b) other) ∙ none in
    absurd (cc (kept))

one_more : (bs : List ℕ) (i : ℕ) → i < length bs → take (i + 1) bs ≡ take i bs ++ get_or bs i 0 ∷ []
one_more bs i more = (take_at_read bs i 0 more).1

-- all bytes up to one are zeros where it is, and those in front of it are
pub blank_step : (bs : List ℕ) (i bits : ℕ) → i < length bs → bits ≡ 0 ↔ significant (take i bs) ≡ [] → bit_or bits (get_or bs i 0) ≡ 0 ↔ significant (take (i + 1) bs) ≡ []
blank_step bs i bits more before = (forth, back) where
  forth : bit_or bits (get_or bs i 0) ≡ 0 → significant (take (i + 1) bs) ≡ []
  forth none =
      let front = le_or_l bits (get_or bs i 0) in
      let last = le_or_r bits (get_or bs i 0) in
      let zeros : bits ≡ 0 = omega arith in
      let byte : get_or bs i 0 ≡ 0 = omega arith in
      ap significant (one_more bs i more) ∙ ap (λ (b : ℕ). significant (take i bs ++ b ∷ [])) byte ∙ zero_behind (take i bs) ∙ before.0 zeros

  back : significant (take (i + 1) bs) ≡ [] → bit_or bits (get_or bs i 0) ≡ 0
  back none =
      let parts = last_blank (take i bs) (get_or bs i 0) (ap significant (sym (one_more bs i more)) ∙ none) in
      ap (λ (b : ℕ). bit_or b (get_or bs i 0)) (before.1 parts.0) ∙ or_zero_l (get_or bs i 0) ∙ parts.1
