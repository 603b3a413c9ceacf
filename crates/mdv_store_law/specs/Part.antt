-- Lists with some of their items left out.
use Rattle.std.specs.Prelude.{◌≡◌, ◌⊎◌, List, [], ◌∷◌}

-- the first list is the second, some of whose items may be left out: its items are among those, in their order, each once
abbrev pub IsPart : {A : Type 0} → List A → List A → Type 0
IsPart [] whole = Unit {0}
IsPart (x ∷ part) [] = ⊥
IsPart (x ∷ part) (y ∷ whole) = ((x ≡ y) × IsPart part whole) ⊎ IsPart (x ∷ part) whole
