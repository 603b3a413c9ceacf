-- Hexadecimal digits, and the bytes that they spell.
use Rattle.std.specs.Prelude.{◌≡◌, ◌<◌, ◌≤◌, ◌+◌, ◌*◌, ◌⊎◌, ℕ, List, [], ◌∷◌, length}
use Rattle.mdv_base.specs.Bytes.{padded_to}

-- `0` to `9`, and from 10 on `a` to `f` or `A` to `F`
abbrev pub IsDigit : ℕ → ℕ → Type 0
IsDigit symbol n = ((n < 10) × (symbol ≡ 48 + n)) ⊎ ((10 ≤ n) × (n < 16) × ((symbol ≡ 87 + n) ⊎ (symbol ≡ 55 + n)))

-- the byte of two digits, the high one first
pub record IsPair (first second byte : ℕ) : Type 0 where
  pub high : ℕ
  pub low : ℕ
  pub front : IsDigit first high
  pub back : IsDigit second low
  pub value : byte ≡ 16 * high + low

-- each pair of the text spells its byte
abbrev pub SpellsBytes : List ℕ → List ℕ → Type 0
SpellsBytes [] [] = Unit {0}
SpellsBytes (first ∷ second ∷ text) (byte ∷ bytes) = IsPair first second byte × SpellsBytes text bytes
SpellsBytes text bytes = ⊥

-- 1 to 512 bytes, and zeros behind them
pub record SpellsBlock (hex block : List ℕ) : Type 0 where
  pub bytes : List ℕ
  pub spelled : SpellsBytes hex bytes
  pub some : 1 ≤ length bytes
  pub most : length bytes ≤ 512
  pub padded : block ≡ padded_to 512 bytes
