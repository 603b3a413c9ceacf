-- What the words of a line spell.
use Rattle.std.specs.Prelude.{◌≡◌, ◌<◌, ◌+◌, ◌/◌, ◌%◌, ◌^◌, ℕ, Option, None, Some, List, [], ◌∷◌, ◌++◌, codes, decimal}
use Rattle.mdv_text.specs.Size.{IsSize}
use Rattle.mdv_name.specs.Drive.{IsSliceName, SpellsSlice}
use Rattle.mdv_parts.specs.declared.names.Scope.{Scope}
use Rattle.mdv_parts.specs.Names.{NamesVolume, NamesPool}
use Rattle.mdv_parts.specs.declared.part.Part.{Part}
use Rattle.mdv_parts.specs.declared.part.Part.TheVariants.{Number, Size, Slice, Volume, Pool, Replicas, Letter}

-- as `mddb07`
abbrev pub replicas_text : ℕ → List ℕ
replicas_text n = codes "mddb" ++ (48 + n / 10) ∷ (48 + n % 10) ∷ []

-- as `-i`
abbrev pub letter_text : ℕ → List ℕ
letter_text b = 45 ∷ b ∷ []

abbrev pub IsNumber : List ℕ → ℕ → Type 0
IsNumber word n = (n < 2 ^ 64) × (word ≡ decimal n)

-- the word spells the part; a number alone is no size with a letter
abbrev pub IsPart : Scope → List ℕ → Part → Type 0
IsPart scope word (Number n) = IsNumber word n
IsPart scope word (Size blocks) = IsSize word blocks × ((n : ℕ) → IsNumber word n → ⊥)
IsPart scope word (Slice s) = IsSliceName s × SpellsSlice s word
IsPart scope word (Volume v) = NamesVolume scope word v
IsPart scope word (Pool p) = NamesPool scope word p
IsPart scope word (Replicas n) = (n < 100) × (word ≡ replicas_text n)
IsPart scope word (Letter b) = word ≡ letter_text b

-- word by word
abbrev pub AreParts : Scope → List (List ℕ) → List Part → Type 0
AreParts scope [] [] = Unit {0}
AreParts scope [] (p ∷ ps) = ⊥
AreParts scope (w ∷ ws) [] = ⊥
AreParts scope (w ∷ ws) (p ∷ ps) = IsPart scope w p × AreParts scope ws ps

-- the parts that the words spell, or none where they spell none
abbrev pub AreReadAs : Scope → List (List ℕ) → Option (List Part) → Type 0
AreReadAs scope ws (Some ps) = AreParts scope ws ps
AreReadAs scope ws None = (ps : List Part) → AreParts scope ws ps → ⊥
