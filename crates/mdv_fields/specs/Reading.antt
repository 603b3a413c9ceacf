-- What a reader answers of the bytes in front.
use Rattle.std.specs.Prelude.{◌≡◌, ◌<◌, ◌≤◌, ◌^◌, ℕ, List, ◌∷◌, ◌++◌, length, flat_map, All, Result, MatchResult, IfOk}
use Rattle.mdv_fields.specs.Numbers.{u16_text}
use Rattle.mdv_fields.specs.declared.fault.RecordError.{RecordError}
use Rattle.mdv_fields.specs.declared.fault.RecordError.TheVariants.{Memory}

-- what is read is spelled there; and what is spelled there is read, unless memory is wanting
pub record Reads {A : Type 0} (Fits : A → Type 0) (text : A → List ℕ) (old : List ℕ) (answer : Result A RecordError) (new : List ℕ) : Type 0 where
  pub read : IfOk answer (λ a. Fits a × (old ≡ text a ++ new))
  pub spelled : (a : A) (rest : List ℕ) → Fits a → old ≡ text a ++ rest → MatchResult answer (λ b. (b ≡ a) × (new ≡ rest)) (λ e. e ≡ Memory)

-- so many parts, each with a text
pub record ListFits {A : Type 0} (Fits : A → Type 0) (count : ℕ) (xs : List A) : Type 0 where
  pub size : length xs ≡ count
  pub each : All Fits xs

-- parts behind their number, which is a byte
unfoldable pub short_text : {A : Type 0} → (A → List ℕ) → List A → List ℕ
short_text text xs = length xs ∷ flat_map text xs

pub record ShortFits {A : Type 0} (Fits : A → Type 0) (most : ℕ) (xs : List A) : Type 0 where
  pub few : length xs ≤ most
  pub counted : length xs < 256
  pub each : All Fits xs

-- parts behind their number, which is two bytes
unfoldable pub long_text : {A : Type 0} → (A → List ℕ) → List A → List ℕ
long_text text xs = u16_text (length xs) ++ flat_map text xs

pub record LongFits {A : Type 0} (Fits : A → Type 0) (most : ℕ) (xs : List A) : Type 0 where
  pub few : length xs ≤ most
  pub counted : length xs < 256 ^ 2
  pub each : All Fits xs
