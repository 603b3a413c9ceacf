-- How options are spelled in front of a line's operands.
use Rattle.std.specs.Prelude.{◌≡◌, ◌≤◌, ◌==◌, ℕ, Bool, true, false, if◌then◌else◌, Option, None, Some, List, [], ◌∷◌, ◌++◌, decimal}
use Rattle.mdv_command.specs.Below.{IsName, IsSize}
use Rattle.mdv_command.specs.Given.{has_byte, is_once}
use Rattle.mdv_command.specs.declared.given.Given.{Given}
use Rattle.mdv_command.specs.declared.given.Given.TheVariants.{Flag, Set, Count, Length, Interlace}

-- an option as it is spelled: its letter, and the text of its value where it has one
pub data Spelled : Type 0 where
  Bare : ℕ → Spelled
  Valued : ℕ → List ℕ → Spelled

-- the text is the value of the option of this letter
abbrev pub IsValue : ℕ → List ℕ → Given → Type 0
IsValue b text (Flag letter) = ⊥
IsValue b text (Set name) = (b ≡ 115) × (text ≡ name) × IsName name
IsValue b text (Count n) = (b ≡ 99) × (text ≡ decimal n) × (1 ≤ n) × (n ≤ 50)
IsValue b text (Length n) = (b ≡ 108) × (text ≡ decimal n) × (16 ≤ n) × (n ≤ 8192)
IsValue b text (Interlace n) = (b ≡ 105) × IsSize text n

abbrev pub IsGiven : Spelled → Given → Type 0
IsGiven (Bare b) g = g ≡ Flag b
IsGiven (Valued b text) g = IsValue b text g

-- one by one
abbrev pub AreGiven : List Spelled → List Given → Type 0
AreGiven [] [] = Unit {0}
AreGiven [] (g ∷ gs) = ⊥
AreGiven (s ∷ ss) [] = ⊥
AreGiven (s ∷ ss) (g ∷ gs) = IsGiven s g × AreGiven ss gs

abbrev pub put : Spelled → Option (List Spelled × List (List ℕ)) → Option (List Spelled × List (List ℕ))
put s None = None
put s (Some (ss, ws)) = Some (s ∷ ss, ws)

-- a value is the rest of its word, or the next word; and the words behind it
abbrev pub value_at : List ℕ → List (List ℕ) → Option (List ℕ × List (List ℕ))
value_at (b ∷ bs) ws = Some (b ∷ bs, ws)
value_at [] (w ∷ ws) = Some (w, ws)
value_at [] [] = None

abbrev pub with_value : ℕ → Option (List ℕ × List (List ℕ)) → Option (List Spelled × List (List ℕ))
with_value b None = None
with_value b (Some (text, ws)) = Some (Valued b text ∷ [], ws)

-- the letter with a value, behind which its word has no further letter
abbrev pub last_of : List ℕ → ℕ → List ℕ → List (List ℕ) → Option (List Spelled × List (List ℕ))
last_of values b bs ws = if has_byte values b then with_value b (value_at bs ws) else None

-- the letters of a word, and the words behind
abbrev pub letters_of : List ℕ → List ℕ → List ℕ → List (List ℕ) → Option (List Spelled × List (List ℕ))
letters_of flags values [] ws = Some ([], ws)
letters_of flags values (b ∷ bs) ws = if has_byte flags b then put (Bare b) (letters_of flags values bs ws) else last_of values b bs ws

-- a word of options has a dash, and one letter at least
abbrev pub first_options : List ℕ → List ℕ → List (List ℕ) → Option (List Spelled × List (List ℕ))
first_options flags values [] = None
first_options flags values ([] ∷ ws) = None
first_options flags values ((d ∷ []) ∷ ws) = None
first_options flags values ((d ∷ b ∷ bs) ∷ ws) = if d == 45 then letters_of flags values (b ∷ bs) ws else None

-- word after word gives its options, up to the rest
abbrev pub Gives : List ℕ → List ℕ → List (List Spelled) → List (List ℕ) → List (List ℕ) → Type 0
Gives flags values [] ws rest = ws ≡ rest
Gives flags values (ss ∷ more) ws rest = (behind : List (List ℕ)) × (first_options flags values ws ≡ Some (ss, behind)) × Gives flags values more behind rest

abbrev pub joined : List (List Spelled) → List Spelled
joined [] = []
joined (ss ∷ more) = ss ++ joined more

abbrev pub is_dashed : List ℕ → Bool
is_dashed [] = false
is_dashed (b ∷ bs) = b == 45

abbrev pub begins_with_dash : List (List ℕ) → Bool
begins_with_dash [] = false
begins_with_dash (w ∷ ws) = is_dashed w

-- the options in front, and the operands behind them; of the letters, those take a value that are named second
pub record ReadsOptions (flags values : List ℕ) (ws : List (List ℕ)) (gs : List Given) (rest : List (List ℕ)) : Type 0 where
  pub spelled : List (List Spelled)
  pub gives : Gives flags values spelled ws rest
  pub ended : begins_with_dash rest ≡ false
  pub given : AreGiven (joined spelled) gs

-- each at most once
abbrev pub AreOptions : List ℕ → List ℕ → List (List ℕ) → List Given → List (List ℕ) → Type 0
AreOptions flags values ws gs rest = ReadsOptions flags values ws gs rest × (is_once gs ≡ true)

-- the options that are expected are read: they are those given, behind those given before
pub record GivesMore (expected : Option (List Spelled × List (List ℕ))) (rest : List (List ℕ)) (old new : List Given) : Type 0 where
  pub spelled : List Spelled
  pub given : List Given
  pub is : expected ≡ Some (spelled, rest)
  pub are : AreGiven spelled given
  pub behind : new ≡ old ++ given

-- they can't be read, or have values that are none
abbrev pub GivesNone : Option (List Spelled × List (List ℕ)) → Type 0
GivesNone expected = (spelled : List Spelled) (rest : List (List ℕ)) (given : List Given) → expected ≡ Some (spelled, rest) → AreGiven spelled given → ⊥
