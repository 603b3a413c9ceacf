-- Rows one behind another: where each begins, and which of their blocks a block of all is.
use Rattle.std.proofs.Common.{◌≡◌, ℕ, zero, suc, ◌+◌, ◌<◌, ◌≤◌, List, [], ◌∷◌, ◌++◌, length, sum_by, take, refl, sym, ◌∙◌, ap, arith}
use Rattle.std.proofs.lemmas.List.{take_all, take-append-le}
use Rattle.std.proofs.lemmas.List.Sums.{sum_by-cons, sum_by_more}
use Rattle.mdv_layout_law.proofs.Chained.{chained_lie}
use Rattle.mdv_map.proofs.Combining.{chains_lie}
use Rattle.mdv_layout.specs.Below.{LiesAs, Map, blocks_in, chain_map, chained, column_at, no_map}
use Rattle.mdv_layout.specs.Layouts.{blocks_before}

pub before_more : (vs : List Map) (i : ℕ) → i < length vs → blocks_before vs (i + 1) ≡ blocks_before vs i + (column_at vs i).blocks
before_more vs i lt = sum_by_more blocks_in vs i no_map lt

pub before_all : (vs : List Map) (count : ℕ) → length vs ≤ count → blocks_before vs count ≡ (chained vs).blocks
before_all vs count le = ap (sum_by blocks_in) (take_all count vs le) ∙ sym (chained_lie.blocks vs)

-- those behind don't count
pub before_front : (vs ws : List Map) (i : ℕ) → i ≤ length vs → blocks_before (vs ++ ws) i ≡ blocks_before vs i
before_front vs ws i le = ap (sum_by blocks_in) (take-append-le i vs ws le)

-- a block of one of them is a block of all, behind those before it
pub lies_in : (vs : List Map) (i b k : ℕ) → i < length vs → k < (column_at vs i).blocks → b ≡ blocks_before vs i + k → LiesAs (chained vs) b (column_at vs i) k
lies_in [] i b k lt below is = absurd (omega arith)
lies_in (v ∷ []) zero b k lt below is = let same : b ≡ k = omega arith in record { below = below; copies = ap v.copies same; places = ap v.places same }
lies_in (v ∷ []) (suc i) b k lt below is = absurd (omega arith)
lies_in (v ∷ w ∷ vs) zero b k lt below is =
    let same : b ≡ k = omega arith in
    let front = chains_lie.front v (chained (w ∷ vs)) k below in
    record {
      below = below;
      copies = ap (chain_map v (chained (w ∷ vs))).copies same ∙ front.1;
      places = ap (chain_map v (chained (w ∷ vs))).places same ∙ front.0;
    }
lies_in (v ∷ w ∷ vs) (suc i) b k lt below is =
    let first = blocks_before (w ∷ vs) i + k in
    let behind : b ≡ v.blocks + first = omega (arith, sum_by-cons blocks_in v (take i (w ∷ vs))) in
    let back = chains_lie.back v (chained (w ∷ vs)) first in
    let there = lies_in (w ∷ vs) i first k (omega arith) below refl in
    record {
      below = there.below;
      copies = ap (chain_map v (chained (w ∷ vs))).copies behind ∙ back.1 ∙ there.copies;
      places = ap (chain_map v (chained (w ∷ vs))).places behind ∙ back.0 ∙ there.places;
    }
