-- Lists of places that come, and how many places they have.
use Rattle.std.proofs.Common.{◌≡◌, ◌<◌, ◌+◌, ◌*◌, ℕ, suc, List, [], ◌∷◌, ◌≤◌, length, take, sym, ap, arith}
use Rattle.std.specs.Prelude.{flat_map}
use Rattle.std.proofs.lemmas.List.{length-append, length-take-le}
use Rattle.std.proofs.Math.Nat.{mul-le-mul_right, suc-mul, zero-mul}
use Rattle.mdv_engine.specs.Below.{SliceName}
use Rattle.mdv_engine_law.specs.Places.{places_on}
use Rattle.mdv_places.proofs.Lists.{places_count}

-- what a loop over slices reads past their end
abbrev pub no_slice : SliceName
no_slice = record { drive = record { controller = 0; target = 0; disk = 0 }; slice = 0 }

-- so many on each slice
pub all_count : (count blocks : ℕ) (slices : List SliceName) → length (flat_map (places_on count blocks) slices) ≡ length slices * count
all_count count blocks [] = sym (zero-mul count)
all_count count blocks (slice ∷ slices) =
    let rest = all_count count blocks slices in
    let both = length-append (places_on count blocks slice) (flat_map (places_on count blocks) slices) in
    let here = places_count slice blocks 0 count in
    let more = suc-mul (length slices) count in
    omega (arith, rest, both, here, more)

-- where all of them fit, so do those of one slice more
pub few_more : (count blocks : ℕ) (slices : List SliceName) (i before now : ℕ) → i < length slices → now ≡ before + length (flat_map (places_on count blocks) (take i slices)) → before + length slices * count ≤ 50 → now + count ≤ 50
few_more count blocks slices i before now within so_far few =
    let shown = all_count count blocks (take i slices) in
    let taken : length (take i slices) ≡ i = length-take-le i slices (omega (arith, within)) in
    let rows : suc i * count ≤ length slices * count = mul-le-mul_right count (omega (arith, within)) in
    let split = suc-mul i count in
    let same : length (take i slices) * count ≡ i * count = ap (λ (n : ℕ). n * count) taken in
    omega (arith, shown, so_far, few, rows, split, same)
