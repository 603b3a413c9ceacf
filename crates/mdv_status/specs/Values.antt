-- What a read tells, a line for each block, what a block of entries tells, their number, and what a print tells, its lines; `ok` stands behind them.
use Rattle.std.specs.Prelude.{ℕ, zero, false, List, [], ◌∷◌, ◌++◌, ◌+◌, ◌/◌, ◌%◌, codes, decimal, flat_map}
use Rattle.std.specs.Fmt.{digit_glyph}

-- a byte in two lower-case hexadecimal digits
abbrev pub hex_byte : ℕ → List ℕ
hex_byte b = digit_glyph false (b / 16) ∷ digit_glyph false (b % 16) ∷ []

-- a byte and what is left of those behind it: a zero with nothing left behind it is left out
abbrev pub zero_out : ℕ → List ℕ → List ℕ
zero_out zero [] = []
zero_out b bs = b ∷ bs

-- the bytes without the zeros behind the last other one
abbrev pub significant : List ℕ → List ℕ
significant [] = []
significant (b ∷ bs) = zero_out b (significant bs)

-- bytes in digits, and `-` for none
abbrev pub hex_text : List ℕ → List ℕ
hex_text [] = codes "-"
hex_text (b ∷ bs) = flat_map hex_byte (b ∷ bs)

-- the values of a block
abbrev pub block_text : List ℕ → List ℕ
block_text block = hex_text (significant block)

-- the number of a block, a blank, and its values
abbrev pub value_line : ℕ → List ℕ → List ℕ
value_line at block = decimal at ++ 32 ∷ block_text block ++ 10 ∷ []

-- a line for each block, from this number on
abbrev pub values_text : ℕ → List (List ℕ) → List ℕ
values_text at [] = []
values_text at (block ∷ blocks) = value_line at block ++ values_text (at + 1) blocks

abbrev pub ok_line : List ℕ
ok_line = codes "ok" ++ 10 ∷ []

-- the whole reply
abbrev pub values_reply : ℕ → List (List ℕ) → List ℕ
values_reply at blocks = values_text at blocks ++ ok_line

-- how many entries were read
abbrev pub entries_line : ℕ → List ℕ
entries_line n = codes "entries " ++ decimal n ++ 10 ∷ []

-- the whole reply to a block of entries
abbrev pub entries_reply : ℕ → List ℕ
entries_reply n = entries_line n ++ ok_line

-- the whole reply to a line that prints these lines
abbrev pub printed_reply : List ℕ → List ℕ
printed_reply lines = lines ++ ok_line
