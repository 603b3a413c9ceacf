-- Values that are put in one after another, from the last on.
use Rattle.std.proofs.Common.{◌≡◌, ℕ, refl, sym, ◌∙◌, ap, List, [], ◌∷◌, ◌++◌}
use Rattle.mdv_plan.specs.Sorted.{changed}
use Rattle.mdv_keys.specs.Keys.{replaced}

pub replaced_last : {T : Type 0} (key : T → ℕ) (xs ys : List T) (y : T) → replaced key (changed key y xs) ys ≡ replaced key xs (ys ++ y ∷ [])
replaced_last key xs [] y = refl
replaced_last key xs (z ∷ ys) y = ap (changed key z) (replaced_last key xs ys y)

-- the last of the items is put in, and the others are left
pub replaced_next : {T : Type 0} (key : T → ℕ) (xs xs' ys ys' all : List T) (y : T) → xs' ≡ changed key y xs → ys' ≡ ys ++ y ∷ [] → replaced key xs ys' ≡ all → replaced key xs' ys ≡ all
replaced_next {T = T} key xs xs' ys ys' all y put popped sofar =
    ap (λ (zs : List T). replaced key zs ys) put ∙ replaced_last key xs ys y ∙ ap (replaced key xs) (sym popped) ∙ sofar
