-- Of names there are no more volumes, and no more pools, than names.
use Rattle.std.proofs.Common.{◌≡◌, ◌≤◌, ◌<◌, ℕ, List, [], ◌∷◌, flat_map, length, map, min, take, arith}
use Rattle.std.proofs.lemmas.List.{length-append, length-take}
use Rattle.mdv_base.specs.declared.name.Named.{Named as Name}
use Rattle.mdv_base.specs.declared.name.Named.TheVariants as name
use Rattle.mdv_remake.specs.Asked.{pool_named, volume_named}

-- where each gives one at most, there are no more than of these
no_more : {X A : Type 0} (f : X → List A) → ((x : X) → length (f x) ≤ 1) → (xs : List X) → length (flat_map f xs) ≤ length xs
no_more f one [] = omega arith
no_more f one (x ∷ xs) = omega (arith, length-append (f x) (flat_map f xs), one x, no_more f one xs)

one_volume : (n : Name) → length (volume_named n) ≤ 1
one_volume (name.Volume v) = omega arith
one_volume (name.Pool q) = omega arith

one_pool : (n : Name) → length (pool_named n) ≤ 1
one_pool (name.Volume v) = omega arith
one_pool (name.Pool q) = omega arith

pub few_volumes : (names : List Name) (i : ℕ) → length (flat_map volume_named (take i names)) ≤ i
few_volumes names i = omega (arith, no_more volume_named one_volume (take i names), length-take i names)

pub few_pools : (names : List Name) (i : ℕ) → length (flat_map pool_named (take i names)) ≤ i
few_pools names i = omega (arith, no_more pool_named one_pool (take i names), length-take i names)
