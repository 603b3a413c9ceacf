-- A whole input as it is read, line after line.
use Rattle.std.specs.Prelude.{◌≡◌, ℕ, List, [], ◌∷◌, ◌+◌, length, Option, Some, ◌==◌, nat_lt, if◌then◌else◌}
use Rattle.std.specs.Option.{option_map}
use Rattle.std.specs.List.{onto_first}
use Rattle.mdv_port.specs.declared.reader.LineEnd.{LineEnd}
use Rattle.mdv_port.specs.declared.reader.LineEnd.TheVariants.{Line, TooLong, End, Spent}
use Rattle.mdv_port.specs.Lines.{line_limit, lines_limit, bytes_limit, is_newline, first_line}
use Rattle.mdv_port.specs.Reader.{Reader, to_come}

-- the bytes cut behind each newline: the last piece may lack one
unfoldable pub pieces : List ℕ → List (List ℕ)
pieces [] = []
pieces (b ∷ bs) = if is_newline b then (b ∷ []) ∷ pieces bs else onto_first b (pieces bs)

-- what the calls of a reader come to, one after another
pub data Script : Type 0 where
  at_end : Script
  -- so many lines and bytes were taken, and one more byte came
  spent : ℕ → ℕ → Script
  -- a line of more bytes than a line may have, and what comes behind it
  too_long : Script → Script
  -- a line, and what comes behind it
  line : List ℕ → Script → Script

-- the pieces, where so many lines and bytes were taken before
unfoldable pub script_from : ℕ → ℕ → List (List ℕ) → Script
script_from lines bytes [] = at_end
script_from lines bytes (piece ∷ more) =
    let behind = script_from (lines + 1) (bytes + length piece) more in
    let content = first_line piece in
    if lines == lines_limit then spent lines bytes
    else if nat_lt bytes_limit (bytes + length piece) then spent lines bytes_limit
    else if nat_lt line_limit (length content) then too_long behind
    else line content behind

-- what a whole input comes to
abbrev pub script_of : List ℕ → Script
script_of input = script_from 0 0 (pieces input)

-- the script that a reader has before it, where its source tells the bytes
abbrev pub script_before : Reader → Option (List ℕ) → Option Script
script_before reader left = option_map (λ input. script_from reader.lines reader.bytes (pieces input)) (to_come reader.unread left)

-- one call: the answer is what the script begins with, and the rest of it is then before the reader; at the end and at a limit it stays
abbrev pub IsTurn : Script → LineEnd → Reader → Option (List ℕ) → Type 0
IsTurn at_end end new left = (end ≡ End) × (script_before new left ≡ Some at_end)
IsTurn (spent lines bytes) end new left = (end ≡ Spent lines bytes) × (script_before new left ≡ Some (spent lines bytes))
IsTurn (too_long behind) end new left = (end ≡ TooLong) × (script_before new left ≡ Some behind)
IsTurn (line content behind) end new left = (end ≡ Line) × (new.line ≡ content) × (script_before new left ≡ Some behind)
