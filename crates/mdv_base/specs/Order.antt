-- The one order in which the causes of refusals are judged, the same for all commands.
use Rattle.std.specs.Prelude.{ℕ, ◌==◌, List, [], ◌∷◌, Option, None, Bool, if◌then◌else◌}
use Rattle.std.specs.List.{find}
use Rattle.std.specs.Option.{option_or}
use Rattle.mdv_base.specs.Refusal.{number_of}
use Rattle.mdv_base.specs.declared.refusal.Refusal.{Refusal}

-- the numbers of the refusals in their order: what is named, its kind and state, its form, its uses, and last its room
abbrev pub order : List ℕ
order = 29 ∷ 1 ∷ 2 ∷ 20 ∷ 28 ∷ 21 ∷ 18 ∷ 19 ∷ 4 ∷ 26 ∷ 6 ∷ 5 ∷ 12 ∷ 13 ∷ 14 ∷ 8 ∷ 9 ∷ 3 ∷ 25 ∷ 7 ∷ 11 ∷ 16 ∷ 27 ∷ 10 ∷ 15 ∷ 22 ∷ 17 ∷ []

abbrev pub has_number : ℕ → Refusal → Bool
has_number n refusal = number_of refusal == n

-- of the refusals that hold the first one by these numbers
abbrev pub first_by : List ℕ → List Refusal → Option Refusal
first_by [] held = None
first_by (n ∷ ns) held = option_or (find (has_number n) held) (first_by ns held)

-- the one that is told
abbrev pub first_refusal : List Refusal → Option Refusal
first_refusal held = first_by order held

-- a refusal, where its cause holds
abbrev pub where_so : Bool → Refusal → List Refusal
where_so holds refusal = if holds then refusal ∷ [] else []
