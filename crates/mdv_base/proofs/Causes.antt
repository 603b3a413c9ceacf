-- Failures of a stretch of calls, told of a longer one.
use Rattle.std.proofs.Common.{◌≡◌, ℕ, ◌+◌, ◌-◌, ◌^◌, ◌≤◌, min, ◌∙◌, ap, arith}
use Rattle.mdv_base.specs.Causes.{Failures, Rose, RoseOnce, failures_of}

-- where a call failed in a stretch one did in the longer one, and where none did, none did there
pub record IsWithin (inner outer : Failures) : Type 0 where
  pub some : inner.some → outer.some
  pub none : inner.none → outer.none

-- a count that rose by one rose
pub rose_of_once : (before now : ℕ) → RoseOnce before now → Rose before now
rose_of_once before now once = omega (arith, once)

-- a count that rose within a stretch rose over the longer one
pub rose_within : (before from to after : ℕ) → before ≤ from → to ≤ after → Rose from to → Rose before after
rose_within before from to after low high rose = capped before from to after (2 ^ 64 - 1) low high rose
  where
    capped : (before from to after top : ℕ) → before ≤ from → to ≤ after → min (from + 1) top ≤ to → min (before + 1) top ≤ after
    capped before from to after top low high rose = omega arith

-- a stretch with calls behind it of which none failed
pub within_calm : (before mid after : ℕ) → after ≡ mid → IsWithin (failures_of before mid) (failures_of before after)
within_calm before mid after calm = record { some = λ once. calm ∙ once; none = λ same. calm ∙ same }

-- a stretch with calls before it of which none failed
pub calm_before : (before mid after : ℕ) → mid ≡ before → IsWithin (failures_of mid after) (failures_of before after)
calm_before before mid after calm = record { some = λ once. once ∙ ap (λ (n : ℕ). min (n + 1) (2 ^ 64 - 1)) calm; none = λ same. same ∙ calm }
