-- Lists that are the same in the same order.
use Rattle.std.proofs.Common.{◌≡◌, ℕ, suc, true, refl, ap, List, [], ◌∷◌, length}
use Rattle.std.proofs.lemmas.Bool.{and_parts}
use Rattle.mdv_votes.specs.declared.spot.Spot.{Spot}
use Rattle.mdv_votes.specs.Spots.{same_spot, same_spots}
use Rattle.mdv_votes.proofs.Meeting.{same_is}

pub spots_same : (xs ys : List Spot) → same_spots xs ys ≡ true → xs ≡ ys
spots_same [] [] h = refl
spots_same [] (y ∷ ys) h = cc
spots_same (x ∷ xs) [] h = cc
spots_same (x ∷ xs) (y ∷ ys) h =
    let parts = and_parts (same_spot x y) (same_spots xs ys) h in
    let first = same_is x y parts.0 in
    let rest = spots_same xs ys parts.1 in
    cc

-- lists of different lengths aren't the same
pub same_length : (xs ys : List Spot) → same_spots xs ys ≡ true → length xs ≡ length ys
same_length [] [] h = refl
same_length [] (y ∷ ys) h = cc
same_length (x ∷ xs) [] h = cc
same_length (x ∷ xs) (y ∷ ys) h = ap (λ (n : ℕ). suc n) (same_length xs ys (and_parts (same_spot x y) (same_spots xs ys) h).1)
