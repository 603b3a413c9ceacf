-- The names of files.
use Rattle.std.specs.Prelude.{◌<◌, ◌≤◌, ℕ, List, length}
use Rattle.std.specs.Str.{IsAscii}

-- 1 to 255 bytes of ASCII
pub record IsFileText (text : List ℕ) : Type 0 where
  pub some : 0 < length text
  pub short : length text ≤ 255
  pub ascii : IsAscii text
