-- What the bytes hold after a text was laid among them.
use Rattle.std.specs.Prelude.{◌≡◌, ◌+◌, ◌≤◌, ◌^◌, ◌-◌, ℕ, List, ◌++◌, length, take, drop, min}

-- the text stands behind the first so many bytes, up to an end, and no other byte changed
pub record IsPlaced (used : ℕ) (old new text : List ℕ) (end : ℕ) : Type 0 where
  pub size : end ≡ used + length text
  pub front : take end new ≡ take used old ++ text
  pub behind : drop end new ≡ drop end old

-- so it is where there is room for it, and the end is told in any case (below 2 ^ 64, where it stays)
pub record IsLaid (used : ℕ) (old new text : List ℕ) (end : ℕ) : Type 0 where
  pub told : end ≡ min (used + length text) (2 ^ 64 - 1)
  pub placed : used + length text ≤ length old → IsPlaced used old new text end
  pub size : length new ≡ length old
