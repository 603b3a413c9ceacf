-- Lists of places that come.
use Rattle.std.proofs.Common.{◌≡◌, ◌+◌, ◌*◌, ℕ, zero, suc, List, [], ◌∷◌, ◌++◌, AllPairs, Contains, length, slice_index_or, refl, ◌∙◌, ap, arith}
use Rattle.std.proofs.lemmas.List.Elements.{All-append, Contains-get_or}
use Rattle.mdv_acts.proofs.Members.{contains_behind, contains_first}
use Rattle.mdv_config.proofs.Pairs.{AllPairs-cons, AllPairs-first, AllPairs-rest}
use Rattle.mdv_places.specs.Asked.{places_from}
use Rattle.mdv_places.specs.Below.{Place, SliceName}

module _ (slice : SliceName) (blocks : ℕ) where
  abbrev place_at : ℕ → Place
  place_at k = record { slice = slice; start = 16 + k * blocks; blocks = blocks }

  -- as many as these, and then those behind them
  pub places_more : (k m n : ℕ) → places_from slice blocks k (m + n) ≡ places_from slice blocks k m ++ places_from slice blocks (k + m) n
  places_more k zero n =
      let none : zero + n ≡ n = omega arith in
      let same : k ≡ k + zero = omega arith in
      λ i. places_from slice blocks (same i) (none i)
  places_more k (suc m) n =
      let shift : k + 1 + m ≡ k + suc m = omega arith in
      let next : suc m + n ≡ suc (m + n) = omega arith in
      ap (λ (s : ℕ). places_from slice blocks k s) next
      ∙ ap (λ (l : List Place). place_at k ∷ l) (places_more (k + 1) m n ∙ ap (λ (s : ℕ). places_from slice blocks (k + 1) m ++ places_from slice blocks s n) shift)

  pub places_next : (n : ℕ) → places_from slice blocks 0 (n + 1) ≡ places_from slice blocks 0 n ++ place_at n ∷ []
  places_next n =
      let from : 0 + n ≡ n = omega arith in
      places_more 0 n 1 ∙ ap (λ (s : ℕ). places_from slice blocks 0 n ++ place_at s ∷ []) from

  pub places_count : (k n : ℕ) → length (places_from slice blocks k n) ≡ n
  places_count k zero = refl
  places_count k (suc n) = ap suc (places_count (k + 1) n)

-- two lists whose elements differ, each from those behind it and from those of the other
pub pairs_append : {X : Type 0} (R : X → X → Type 0) (xs ys : List X) → AllPairs R xs → AllPairs R ys → ((x y : X) → Contains xs x → Contains ys y → R x y) → AllPairs R (xs ++ ys)
pairs_append R [] ys one two cross = two
pairs_append {X} R (x ∷ xs) ys one two cross =
    AllPairs-cons R x (xs ++ ys) (All-append (R x) xs ys (AllPairs-first R x xs one) (λ k d lt. cross x (slice_index_or ys k d) (contains_first x xs) (Contains-get_or ys k d lt)))
    (pairs_append R xs ys (AllPairs-rest R x xs one) two (λ y z has behind. cross y z (contains_behind x y xs has) behind))
