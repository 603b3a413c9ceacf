-- The bytes of blocks that stand one behind another.
use Rattle.std.proofs.Common.{◌≡◌, ℕ, zero, suc, ◌+◌, ◌≤◌, ◌<◌, List, [], ◌∷◌, ◌++◌, length, take, slice_index_or, refl, sym, ◌∙◌, ap, append_assoc, arith}
use Rattle.std.proofs.lemmas.List.{take-append-le}
use Rattle.std.specs.List.{concat}
use Rattle.mdv_replica.specs.Form.{bytes_of}

pub bytes_of_none : (content : ℕ → List ℕ) (at : ℕ) → bytes_of content at 0 ≡ []
unfolding bytes_of
bytes_of_none content at = refl

pub bytes_of_more : (content : ℕ → List ℕ) (at count : ℕ) → bytes_of content at (suc count) ≡ content at ++ bytes_of content (at + 1) count
unfolding bytes_of
bytes_of_more content at count = refl

-- they rest on these blocks alone
pub bytes_of_same : (old new : ℕ → List ℕ) (at count : ℕ) → ((block : ℕ) → at ≤ block → block < at + count → new block ≡ old block) → bytes_of new at count ≡ bytes_of old at count
bytes_of_same old new at zero same = bytes_of_none new at ∙ sym (bytes_of_none old at)
bytes_of_same old new at (suc count) same =
    bytes_of_more new at count
    ∙ ap (λ (l : List ℕ). l ++ bytes_of new (at + 1) count) (same at (omega arith) (omega arith))
    ∙ ap (λ (l : List ℕ). old at ++ l) (bytes_of_same old new (at + 1) count (λ block from to. same block (omega arith) (omega arith)))
    ∙ sym (bytes_of_more old at count)

-- blocks that were written stand in front
bytes_of_written : (content : ℕ → List ℕ) (at count : ℕ) (blocks : List (List ℕ)) → length blocks ≤ count → ((k : ℕ) → k < length blocks → content (at + k) ≡ slice_index_or blocks k []) → (rest : List ℕ) × (bytes_of content at count ≡ concat blocks ++ rest)
bytes_of_written content at count [] fits are = (bytes_of content at count, refl)
bytes_of_written content at zero (x ∷ blocks) fits are = absurd (omega arith)
bytes_of_written content at (suc count) (x ∷ blocks) fits are =
    let behind = bytes_of_written content (at + 1) count blocks (omega arith) (λ k lt. ap content (omega arith) ∙ are (suc k) (omega arith)) in
    let here : content at ≡ x = ap content (omega arith) ∙ are 0 (omega arith) in (
      behind.0,
      bytes_of_more content at count
          ∙ ap (λ (l : List ℕ). l ++ bytes_of content (at + 1) count) here
          ∙ ap (λ (l : List ℕ). x ++ l) behind.1
          ∙ sym (append_assoc x (concat blocks) behind.0),
    )

pub take-bytes_of_written : (content : ℕ → List ℕ) (at count bytes : ℕ) (blocks : List (List ℕ)) → length blocks ≤ count → bytes ≤ length (concat blocks) → ((k : ℕ) → k < length blocks → content (at + k) ≡ slice_index_or blocks k []) → take bytes (bytes_of content at count) ≡ take bytes (concat blocks)
take-bytes_of_written content at count bytes blocks fits within are =
    let front = bytes_of_written content at count blocks fits are in
    ap (take bytes) front.1 ∙ take-append-le bytes (concat blocks) front.0 within
