-- What the options of a line give.
use Rattle.std.specs.Prelude.{◌==◌, ◌&&◌, ℕ, Bool, true, not, Option, None, Some, List, [], ◌∷◌}
use Rattle.std.specs.List.{list_all, list_any}
use Rattle.std.specs.Option.{option_or}
use Rattle.mdv_command.specs.declared.given.Given.{Given}
use Rattle.mdv_command.specs.declared.given.Given.TheVariants.{Flag, Set, Count, Length, Interlace}

abbrev pub has_byte : List ℕ → ℕ → Bool
has_byte bs b = list_any (λ x. x == b) bs

-- the letter by which it is given
abbrev pub letter_of : Given → ℕ
letter_of (Flag b) = b
letter_of (Set name) = 115
letter_of (Count n) = 99
letter_of (Length n) = 108
letter_of (Interlace n) = 105

abbrev pub is_letter : ℕ → Given → Bool
is_letter b g = letter_of g == b

-- the option of this letter is given
abbrev pub has : ℕ → List Given → Bool
has b gs = list_any (is_letter b) gs

-- no option but those of these letters is given
abbrev pub only : List ℕ → List Given → Bool
only letters gs = list_all (λ g. has_byte letters (letter_of g)) gs

-- each letter at most once
abbrev pub is_once : List Given → Bool
is_once [] = true
is_once (g ∷ gs) = not (has (letter_of g) gs) && is_once gs

-- the first value that an option gives
abbrev pub first_given : {A : Type 0} → (Given → Option A) → List Given → Option A
first_given value [] = None
first_given value (g ∷ gs) = option_or (value g) (first_given value gs)

abbrev pub set_of : Given → Option (List ℕ)
set_of (Set name) = Some name
set_of g = None

-- the set that `-s` names
abbrev pub set_given : List Given → Option (List ℕ)
set_given gs = first_given set_of gs

abbrev pub count_of : Given → Option ℕ
count_of (Count n) = Some n
count_of g = None

-- the replicas a slice that `-c` gives
abbrev pub count_given : List Given → Option ℕ
count_given gs = first_given count_of gs

abbrev pub length_of : Given → Option ℕ
length_of (Length n) = Some n
length_of g = None

-- the blocks of a replica that `-l` gives
abbrev pub length_given : List Given → Option ℕ
length_given gs = first_given length_of gs

abbrev pub interlace_of : Given → Option ℕ
interlace_of (Interlace n) = Some n
interlace_of g = None

-- the blocks that `-i` gives
abbrev pub interlace_given : List Given → Option ℕ
interlace_given gs = first_given interlace_of gs
