-- Where the words of a line lie, and why a line isn't split.
use Rattle.std.specs.Prelude.{◌<◌, ◌≤◌, ℕ, List, [], ◌∷◌, length, slice_range, slice_index}
use Rattle.std.specs.Str.{IsAscii}
use Rattle.mdv_text.specs.declared.token.Token.{Token}
use Rattle.mdv_text.specs.declared.token.TextFault.{TextFault}
use Rattle.mdv_text.specs.declared.token.TextFault.TheVariants.{NotAscii, Memory}

abbrev pub token_text : List ℕ → Token → List ℕ
token_text line t = slice_range line t.start t.end

-- from `first` on, each behind the one before, up to `last`
abbrev pub LieInOrder : ℕ → List Token → ℕ → Type 0
LieInOrder first [] last = first ≤ last
LieInOrder first (t ∷ ts) last = (first ≤ t.start) × (t.start ≤ t.end) × LieInOrder t.end ts last

-- the first byte past ASCII is the one at this place
pub record IsFirstPastAscii (line : List ℕ) (at : ℕ) : Type 0 where
  pub within : at < length line
  pub past : 128 ≤ slice_index line at
  pub before : (k : ℕ) → k < at → slice_index line k < 128

-- the line's byte past ASCII goes before want of memory
abbrev pub IsFaultOf : List ℕ → TextFault → Type 0
IsFaultOf line (NotAscii at) = IsFirstPastAscii line at
IsFaultOf line Memory = IsAscii line
