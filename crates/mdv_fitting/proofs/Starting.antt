-- From where extents are counted, so far.
use Rattle.std.proofs.Common.{◌≡◌, ◌++◌, ℕ, Option, None, Some, List, [], ◌∷◌, refl, sym, ◌∙◌, ap}
use Rattle.mdv_fitting.specs.Held.{held}
use Rattle.mdv_fitting.specs.declared.held.Held.{Held}
use Rattle.std.specs.Option.{option_or}
use Rattle.mdv_fitting.specs.Below.{OneVolume}
use Rattle.mdv_fitting.specs.Keys.{kind_start_at, start_at}
use Rattle.mdv_fitting.specs.Starts.{HasStart}

or_assoc : (o p q : Option ℕ) → option_or (option_or o p) q ≡ option_or o (option_or p q)
or_assoc None p q = refl
or_assoc (Some x) p q = refl

pub or_none : (o : Option ℕ) → option_or o None ≡ o
or_none None = refl
or_none (Some x) = refl

pub start_last : (k : ℕ) (vs : List OneVolume) (v : OneVolume) → start_at k (vs ++ v ∷ []) ≡ option_or (start_at k vs) (kind_start_at k v.kind)
start_last k [] v = or_none (kind_start_at k v.kind)
start_last k (w ∷ vs) v =
    ap (option_or (kind_start_at k w.kind)) (start_last k vs v) ∙ sym (or_assoc (kind_start_at k w.kind) (start_at k vs) (kind_start_at k v.kind))

pub starts_more : (vs : List OneVolume) (v : OneVolume) (m n : Held ℕ) → ((k : ℕ) → held m k ≡ start_at k vs) → HasStart m v.kind n → (k : ℕ) → held n k ≡ start_at k (vs ++ v ∷ [])
starts_more vs v m n is more k = more k ∙ ap (λ (o : Option ℕ). option_or o (kind_start_at k v.kind)) (is k) ∙ sym (start_last k vs v)
