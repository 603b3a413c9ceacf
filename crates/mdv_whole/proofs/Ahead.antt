-- Texts of which a part is laid and the rest is still ahead.
use Rattle.std.proofs.Common.{◌≡◌, ◌<◌, ◌≤◌, ◌^◌, ◌+◌, ℕ, refl, sym, ◌∙◌, ap, subst, List, [], ◌∷◌, ◌++◌, append_assoc, length, get_or, drop, inl, inr, arith}
use Rattle.std.proofs.lemmas.Bool.{cases_lt}
use Rattle.std.proofs.lemmas.List.{append-nil, drop_more, drop_all}
use Rattle.std.specs.Prelude.{flat_map, min}
use Rattle.mdv_codec.specs.Recorded.{row_text}
use Rattle.mdv_fields.specs.Laying.{IsLaid}
use Rattle.mdv_fields.proofs.Placing.{laid_none, laid_then}
use Rattle.mdv_whole.specs.Below.{PartStatus, Row}
use Rattle.mdv_whole.specs.Sides.{beside, pairs_text, row_of, rows_of}

pub record IsAhead (total : List ℕ) (start : ℕ) (old now : List ℕ) (used : ℕ) (left : List ℕ) : Type 0 where
  pub done : List ℕ
  pub split : total ≡ done ++ left
  pub laid : IsLaid start old now done used

pub ahead_start : (total : List ℕ) (used : ℕ) (old : List ℕ) → used < 2 ^ 64 → IsAhead total used old old used total
ahead_start total used old fits = record { done = []; split = refl; laid = laid_none used old fits }

pub ahead_step : {total : List ℕ} {start used end : ℕ} {old now new left : List ℕ} (a rest : List ℕ) → IsAhead total start old now used left → left ≡ a ++ rest → IsLaid used now new a end → IsAhead total start old new end rest
ahead_step a rest ahead is next = record {
  done = ahead.done ++ a;
  split = ahead.split ∙ ap (λ (l : List ℕ). ahead.done ++ l) is ∙ sym (append_assoc ahead.done a rest);
  laid = laid_then ahead.laid next;
}

pub ahead_end : {total : List ℕ} {start used : ℕ} {old now left : List ℕ} → IsAhead total start old now used left → left ≡ [] → IsLaid start old now total used
ahead_end {total} {start} {used} {old} {now} {left} ahead none =
    subst (λ (l : List ℕ). IsLaid start old now l used) (sym (ahead.split ∙ ap (λ (l : List ℕ). ahead.done ++ l) none ∙ append-nil ahead.done)) ahead.laid

-- the next of a list that is known at its place
next_is : {A : Type 0} (xs : List A) (i : ℕ) (x : A) → x ≡ get_or xs i x → i < length xs → drop i xs ≡ x ∷ drop (i + 1) xs
next_is xs i x is within = drop_more xs i x within ∙ ap (λ z. z ∷ drop (i + 1) xs) (sym is)

module _ {A B : Type 0} (text : A → B → List ℕ) where
  pub pairs_next : (xs : List A) (ys : List B) (i : ℕ) (x : A) (y : B) → x ≡ get_or xs i x → y ≡ get_or ys i y → i < length xs → i < length ys → pairs_text text (drop i xs) (drop i ys) ≡ text x y ++ pairs_text text (drop (i + 1) xs) (drop (i + 1) ys)
  pairs_next xs ys i x y first second inside within =
      ap (λ (l : List A). pairs_text text l (drop i ys)) (next_is xs i x first inside) ∙ ap (λ (l : List B). pairs_text text (x ∷ drop (i + 1) xs) l) (next_is ys i y second within)

  no_pairs : (xs : List A) → pairs_text text xs [] ≡ []
  no_pairs [] = refl
  no_pairs (x ∷ xs) = refl

  pub pairs_end : (xs : List A) (ys : List B) (i : ℕ) → min (length xs) (length ys) ≤ i → pairs_text text (drop i xs) (drop i ys) ≡ []
  pairs_end xs ys i enough = elim (cases_lt (length ys) (length xs)) [
    | inl fewer ↦ ap (λ (l : List B). pairs_text text (drop i xs) l) (drop_all i ys (omega (arith, enough, fewer))) ∙ no_pairs (drop i xs)
    | inr other ↦ ap (λ (l : List A). pairs_text text l (drop i ys)) (drop_all i xs (omega (arith, enough, other)))
  ]

-- the texts of what is made of pairs
pub beside_text : {A B C : Type 0} (text : C → List ℕ) (f : A → B → C) (xs : List A) (ys : List B) → pairs_text (λ x y. text (f x y)) xs ys ≡ flat_map text (beside f xs ys)
beside_text text f [] ys = refl
beside_text text f (x ∷ xs) [] = refl
beside_text text f (x ∷ xs) (y ∷ ys) = ap (λ (l : List ℕ). text (f x y) ++ l) (beside_text text f xs ys)

pub length-beside : {A B C : Type 0} (f : A → B → C) (xs : List A) (ys : List B) → length (beside f xs ys) ≡ min (length xs) (length ys)
length-beside f [] ys = omega arith
length-beside f (x ∷ xs) [] = omega arith
length-beside f (x ∷ xs) (y ∷ ys) = omega (arith, length-beside f xs ys)

pub length-rows_of : (rows : List Row) (states : List PartStatus) → length (rows_of rows states) ≡ length rows
length-rows_of [] states = refl
length-rows_of (r ∷ rs) states = omega (arith, length-rows_of rs (drop (length r.components) states))

pub rows_next : (rows : List Row) (states : List PartStatus) (i : ℕ) (r : Row) → r ≡ get_or rows i r → i < length rows → flat_map row_text (rows_of (drop i rows) states) ≡ row_text (row_of r states) ++ flat_map row_text (rows_of (drop (i + 1) rows) (drop (length r.components) states))
rows_next rows states i r is within = ap (λ (l : List Row). flat_map row_text (rows_of l states)) (next_is rows i r is within)

pub rows_end : (rows : List Row) (states : List PartStatus) (i : ℕ) → length rows ≤ i → flat_map row_text (rows_of (drop i rows) states) ≡ []
rows_end rows states i enough = ap (λ (l : List Row). flat_map row_text (rows_of l states)) (drop_all i rows enough)
