-- Sizes in blocks of 512 bytes.
use Rattle.std.specs.Prelude.{◌≡◌, ◌≤◌, ◌*◌, ◌^◌, ℕ, Option, None, Some, List, [], ◌∷◌, ◌++◌, ◌==◌}
use Rattle.std.specs.Prelude.{◌||◌, if◌then◌else◌, decimal}

-- `b`, `k`, `m`, `g` and `t`, of either case
abbrev pub letter_blocks : ℕ → Option ℕ
letter_blocks b =
    if b == 98 || b == 66 then Some 1 else
    (if b == 107 || b == 75 then Some 2 else
    (if b == 109 || b == 77 then Some 2048 else
    (if b == 103 || b == 71 then Some 2097152 else
    (if b == 116 || b == 84 then Some 2147483648 else None))))

-- of no letter, or of one
abbrev pub unit_blocks : List ℕ → Option ℕ
unit_blocks [] = Some 1
unit_blocks (b ∷ []) = letter_blocks b
unit_blocks (b ∷ c ∷ cs) = None

-- a number and its unit, at most 2^40 blocks in all
pub record IsSize (text : List ℕ) (blocks : ℕ) : Type 0 where
  pub count : ℕ
  pub unit : List ℕ
  pub per : ℕ
  pub spelled : text ≡ decimal count ++ unit
  pub named : unit_blocks unit ≡ Some per
  pub value : blocks ≡ count * per
  pub small : blocks ≤ 2 ^ 40
