-- How many calls the acts at places take, and how many blocks.
use Rattle.std.proofs.Common.{◌≡◌, ℕ, zero, suc, ◌+◌, ◌-◌, ◌*◌, ◌≤◌, Bool, true, false, if◌then◌else◌, List, [], ◌∷◌, length, refl, arith}
use Rattle.std.specs.Prelude.{flat_map, nat_lt}
use Rattle.mdv_acts.specs.Acts.{blanks_asked, blanks_behind, blanks_on, blocks_of, calls_of, forms_asked, forms_from, forms_on}
use Rattle.mdv_acts.specs.Asked.{blanked_asked}
use Rattle.mdv_acts.specs.Below.{Identity, Key, SliceLine}
use Rattle.mdv_acts.proofs.Acting.{blocks_more, calls_more}

module _ (count blocks : ℕ) where
  behind_calls : (line : SliceLine) (n : ℕ) → calls_of (blanks_behind line count blocks n) ≡ 2 * n
  behind_calls line zero = refl
  behind_calls line (suc n) = omega (arith, behind_calls line n)

  behind_blocks : (line : SliceLine) (n : ℕ) → blocks_of (blanks_behind line count blocks n) ≡ n
  behind_blocks line zero = refl
  behind_blocks line (suc n) = omega (arith, behind_blocks line n)

  module _ (some : 1 ≤ count) where
    all_calls : (lines : List SliceLine) → calls_of (flat_map (blanks_on count blocks) lines) ≡ 2 * (length lines * count)
    all_calls [] = omega arith
    all_calls (line ∷ lines) = omega (arith, calls_more (blanks_on count blocks line) (flat_map (blanks_on count blocks) lines), behind_calls line (count - 1), all_calls lines, some)

    all_blocks : (lines : List SliceLine) → blocks_of (flat_map (blanks_on count blocks) lines) ≡ length lines * count
    all_blocks [] = omega arith
    all_blocks (line ∷ lines) = omega (arith, blocks_more (blanks_on count blocks line) (flat_map (blanks_on count blocks) lines), behind_blocks line (count - 1), all_blocks lines, some)

    pub blanks_calls : (lines : List SliceLine) → calls_of (blanks_asked lines count blocks) ≡ 2 * blanked_asked lines count
    blanks_calls lines = by (nat_lt 1 count) where
      by : (b : Bool) → calls_of (if b then flat_map (blanks_on count blocks) lines else []) ≡ 2 * (if b then length lines * count else 0)
      by true = all_calls lines
      by false = omega arith

    pub blanks_blocks : (lines : List SliceLine) → blocks_of (blanks_asked lines count blocks) ≡ blanked_asked lines count
    blanks_blocks lines = by (nat_lt 1 count) where
      by : (b : Bool) → blocks_of (if b then flat_map (blanks_on count blocks) lines else []) ≡ (if b then length lines * count else 0)
      by true = all_blocks lines
      by false = refl

  module _ (key : Key) (identity : Identity) (claim : ℕ) where
    from_calls : (line : SliceLine) (k n : ℕ) → calls_of (forms_from key identity claim line count blocks k n) ≡ 6 * n
    from_calls line k zero = refl
    from_calls line k (suc n) = omega (arith, from_calls line (k + 1) n)

    from_blocks : (line : SliceLine) (k n : ℕ) → blocks_of (forms_from key identity claim line count blocks k n) ≡ 5 * n
    from_blocks line k zero = refl
    from_blocks line k (suc n) = omega (arith, from_blocks line (k + 1) n)

    pub forms_calls : (lines : List SliceLine) → calls_of (forms_asked key identity claim lines count blocks) ≡ 6 * (length lines * count)
    forms_calls [] = omega arith
    forms_calls (line ∷ lines) = omega (arith, calls_more (forms_on key identity claim count blocks line) (forms_asked key identity claim lines count blocks), from_calls line 0 count, forms_calls lines)

    pub forms_blocks : (lines : List SliceLine) → blocks_of (forms_asked key identity claim lines count blocks) ≡ 5 * (length lines * count)
    forms_blocks [] = omega arith
    forms_blocks (line ∷ lines) = omega (arith, blocks_more (forms_on key identity claim count blocks line) (forms_asked key identity claim lines count blocks), from_blocks line 0 count, forms_blocks lines)
