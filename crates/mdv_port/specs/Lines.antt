-- The lines of an input: its bytes cut at newlines.
use Rattle.std.specs.Prelude.{ℕ, Bool, List, [], ◌∷◌, length, min, ◌+◌, ◌^◌, ◌==◌, nat_lt, if◌then◌else◌}
use Rattle.std.specs.List.{before_first, after_first}

-- the most bytes of a line, its newline aside
abbrev pub line_limit : ℕ
line_limit = 4096

-- the most lines of an input, and the most bytes
abbrev pub lines_limit : ℕ
lines_limit = 2 ^ 20

abbrev pub bytes_limit : ℕ
bytes_limit = 2 ^ 32

abbrev pub is_newline : ℕ → Bool
is_newline b = b == 10

-- what stands before the first newline, or all where there is none
abbrev pub first_line : List ℕ → List ℕ
first_line input = before_first is_newline input

-- what stands behind the first newline, or nothing where there is none
abbrev pub after_line : List ℕ → List ℕ
after_line input = after_first is_newline input

-- how many bytes the first line takes, with its newline: the last line may lack one
abbrev pub line_size : List ℕ → ℕ
line_size input = min (length (first_line input) + 1) (length input)

-- what comes first in an input
pub data Taken : Type 0 where
  nothing : Taken
  -- a limit stands at so many lines and bytes, and one more byte came
  no_more : ℕ → ℕ → Taken
  -- a line of more bytes than a line may have, and what follows it
  passed : List ℕ → Taken
  -- a line, and what follows it
  whole : List ℕ → List ℕ → Taken

-- where so many lines and bytes were taken before
unfoldable pub next_line : ℕ → ℕ → List ℕ → Taken
next_line lines bytes [] = nothing
next_line lines bytes (b ∷ more) =
    let input = b ∷ more in
    if lines == lines_limit then no_more lines bytes
    else if nat_lt bytes_limit (bytes + line_size input) then no_more lines bytes_limit
    else if nat_lt line_limit (length (first_line input)) then passed (after_line input)
    else whole (first_line input) (after_line input)
