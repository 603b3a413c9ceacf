-- A list that holds one item.
use Rattle.std.proofs.Common.{◌≡◌, ◌<◌, ◌≤◌, List, [], ◌∷◌, length, ap, sym, arith}
use Rattle.std.proofs.Math.ListN.{get_or}

pub one_item : {X : Type 0} → (items : List X) (item : X) → 1 ≤ length items → length items < 2 → item ≡ get_or items 0 item → items ≡ item ∷ []
one_item [] item least below is = absurd (omega arith)
one_item (x ∷ []) item least below is = ap (λ y. y ∷ []) (sym is)
one_item (x ∷ y ∷ more) item least below is = absurd (omega arith)
