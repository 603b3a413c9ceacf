-- What holds of each element and each later one.
use Rattle.std.proofs.Common.{zero, suc, List, ◌∷◌, arith}
use Rattle.std.specs.Prelude.{All, AllPairs}

pub AllPairs-cons : {X : Type 0} (R : X → X → Type 0) (x : X) (xs : List X) → All (R x) xs → AllPairs R xs → AllPairs R (x ∷ xs)
AllPairs-cons R x xs first pairs i zero d below within = absurd (omega arith)
AllPairs-cons R x xs first pairs zero (suc j) d below within = first j d (omega arith)
AllPairs-cons R x xs first pairs (suc i) (suc j) d below within = pairs i j d (omega arith) (omega arith)

pub AllPairs-first : {X : Type 0} (R : X → X → Type 0) (x : X) (xs : List X) → AllPairs R (x ∷ xs) → All (R x) xs
AllPairs-first R x xs pairs k d within = pairs 0 (suc k) d (omega arith) (omega arith)

pub AllPairs-rest : {X : Type 0} (R : X → X → Type 0) (x : X) (xs : List X) → AllPairs R (x ∷ xs) → AllPairs R xs
AllPairs-rest R x xs pairs i j d below within = pairs (suc i) (suc j) d (omega arith) (omega arith)
