-- The lines of values, that of a number of entries, and how lines are cut.
use Rattle.std.proofs.Common.{◌≡◌, ℕ, zero, suc, ◌+◌, ◌/◌, ◌%◌, ◌<◌, Bool, true, false, cond, ◌==◌, nat_lt, List, [], ◌∷◌, ◌++◌, codes, refl, sym, ◌∙◌, ap, append_assoc, arith, ne_eqb, lt-ltb}
use Rattle.std.specs.Char.{is_ascii_digit}
use Rattle.std.specs.Fmt.{digit_glyph, digits_onto, digits, decimal}
use Rattle.std.specs.List.{All, concat, flat_map}
use Rattle.std.proofs.lemmas.List.Elements.{All-cons, All-head, All-nil, All-tail}
use Rattle.std.proofs.lemmas.Bool.Decides.{nat_tests}
use Rattle.mdv_port.specs.Script.{pieces}
use Rattle.mdv_status.specs.Values.{hex_byte, significant, hex_text, block_text, value_line, values_text, values_reply, entries_line, printed_reply, ok_line}
use Rattle.mdv_status.specs.Telling.{lacks, begins_with_digit, IsValueLine, AreValueLines, value_lines}
use Rattle.mdv_status.proofs.Pieces.{lacks_one, lacks_append, pieces_line}

-- no digit is a newline, whatever its value
glyph_other : (d : ℕ) → (digit_glyph false d == 10) ≡ false
glyph_other d = by (nat_lt d 10) where
  by : (x : Bool) → (cond x (48 + d) (87 + d) == 10) ≡ false
  by true = ne_eqb (48 + d) 10 (λ e. omega arith)
  by false = ne_eqb (87 + d) 10 (λ e. omega arith)

hex_lacks : (bs : List ℕ) → lacks 10 (flat_map hex_byte bs) ≡ true
hex_lacks [] = refl
hex_lacks (b ∷ bs) =
    let low = lacks_one (digit_glyph false (b % 16)) (flat_map hex_byte bs) (glyph_other (b % 16)) (hex_lacks bs) in
    lacks_one (digit_glyph false (b / 16)) (digit_glyph false (b % 16) ∷ flat_map hex_byte bs) (glyph_other (b / 16)) low

hex_text_lacks : (bs : List ℕ) → lacks 10 (hex_text bs) ≡ true
hex_text_lacks [] = refl
hex_text_lacks (b ∷ bs) = hex_lacks (b ∷ bs)

-- a text without a newline that begins with a digit
record IsPlain (text : List ℕ) : Type 0 where
  whole : lacks 10 text ≡ true
  digit : begins_with_digit text ≡ true

decimal_digit : (n : ℕ) → is_ascii_digit (digit_glyph false (n % 10)) ≡ true
decimal_digit n = let small : n % 10 < 10 = omega arith in by (nat_lt (n % 10) 10) (lt-ltb (n % 10) 10 small) where
  by : (x : Bool) → x ≡ true → is_ascii_digit (cond x (48 + n % 10) (87 + n % 10)) ≡ true
  by true is = let small : n % 10 < 10 = omega arith in grind (arith, nat_tests)
  by false is = absurd (cc (is))

one_more : (n : ℕ) (text : List ℕ) → lacks 10 text ≡ true → IsPlain (digit_glyph false (n % 10) ∷ text)
one_more n text is = record { whole = lacks_one (digit_glyph false (n % 10)) text (glyph_other (n % 10)) is; digit = decimal_digit n }

either : (x : Bool) (a b : List ℕ) → IsPlain a → IsPlain b → IsPlain (cond x a b)
either true a b one other = one
either false a b one other = other

digits_plain : (k n : ℕ) (text : List ℕ) → IsPlain text → IsPlain (digits_onto k 10 false n text)
digits_plain zero n text is = is
digits_plain (suc k) n text is =
    let here = one_more n text is.whole in
    let more : List ℕ = digit_glyph false (n % 10) ∷ text in
    either (n / 10 == 0) more (digits_onto k 10 false (n / 10) more) here (digits_plain k (n / 10) more here)

some_digits : (k n : ℕ) → IsPlain (digits_onto (suc k) 10 false n [])
some_digits k n =
    let here = one_more n [] refl in
    let more : List ℕ = digit_glyph false (n % 10) ∷ [] in
    either (n / 10 == 0) more (digits_onto k 10 false (n / 10) more) here (digits_plain k (n / 10) more here)

decimal_plain : (n : ℕ) → IsPlain (decimal n)
unfolding digits
decimal_plain n = some_digits 63 n

pub decimal_lacks : (n : ℕ) → lacks 10 (decimal n) ≡ true
decimal_lacks n = (decimal_plain n).whole

begins_append : (a b : List ℕ) → begins_with_digit a ≡ true → begins_with_digit (a ++ b) ≡ true
begins_append [] b is = absurd (cc (is))
begins_append (x ∷ a) b is = is

pub is_value_line : (at : ℕ) (block : List ℕ) → IsValueLine (value_line at block)
is_value_line at block =
    let number = decimal_plain at in
    let behind = lacks_one 32 (block_text block) refl (hex_text_lacks (significant block)) in
    record {
      text = decimal at ++ 32 ∷ block_text block;
      line = refl;
      whole = lacks_append (decimal at) (32 ∷ block_text block) number.whole behind;
      digit = begins_append (decimal at) (32 ∷ block_text block) number.digit;
    }

pub are_value_lines : (at : ℕ) (blocks : List (List ℕ)) → AreValueLines (value_lines at blocks)
are_value_lines at [] = tt
are_value_lines at (block ∷ blocks) = (is_value_line at block, are_value_lines (at + 1) blocks)

-- a text without a newline, and a newline
pub record IsOneLine (bytes : List ℕ) : Type 0 where
  pub text : List ℕ
  pub line : bytes ≡ text ++ 10 ∷ []
  pub whole : lacks 10 text ≡ true

pub value_one_line : (bytes : List ℕ) → IsValueLine bytes → IsOneLine bytes
value_one_line bytes is = record { text = is.text; line = is.line; whole = is.whole }

pub entries_one_line : (n : ℕ) → IsOneLine (entries_line n)
entries_one_line n = record { text = codes "entries " ++ decimal n; line = refl; whole = lacks_append (codes "entries ") (decimal n) refl (decimal_lacks n) }

pub line_cut : (bytes rest : List ℕ) → IsOneLine bytes → pieces (bytes ++ rest) ≡ bytes ∷ pieces rest
line_cut bytes rest is =
    ap (λ (l : List ℕ). pieces (l ++ rest)) is.line ∙ ap pieces (append_assoc is.text (10 ∷ []) rest) ∙ pieces_line is.text rest is.whole
    ∙ ap (λ (l : List ℕ). l ∷ pieces rest) (sym is.line)

-- lines, and the line `ok` behind them
pub lines_cut : (ls : List (List ℕ)) (rest : List ℕ) → All IsOneLine ls → pieces (printed_reply (concat ls) ++ rest) ≡ ls ++ ok_line ∷ pieces rest
lines_cut [] rest all = pieces_line (codes "ok") rest refl
lines_cut (line ∷ ls) rest all =
    let more : List ℕ = concat ls in
    ap (λ (l : List ℕ). pieces (l ++ rest)) (append_assoc line more ok_line) ∙ ap pieces (append_assoc line (more ++ ok_line) rest)
    ∙ line_cut line ((more ++ ok_line) ++ rest) (All-head IsOneLine line ls all)
    ∙ ap (λ (l : List (List ℕ)). line ∷ l) (lines_cut ls rest (All-tail IsOneLine line ls all))

-- lines of values are put together of their lines
pub values_joined : (at : ℕ) (blocks : List (List ℕ)) → values_text at blocks ≡ concat (value_lines at blocks)
values_joined at [] = refl
values_joined at (block ∷ blocks) = ap (λ (l : List ℕ). value_line at block ++ l) (values_joined (at + 1) blocks)

one_lines : (at : ℕ) (blocks : List (List ℕ)) → All IsOneLine (value_lines at blocks)
one_lines at [] = All-nil IsOneLine
one_lines at (block ∷ blocks) = All-cons IsOneLine (value_line at block) (value_lines (at + 1) blocks) (value_one_line (value_line at block) (is_value_line at block)) (one_lines (at + 1) blocks)

pub reply_cut : (at : ℕ) (blocks : List (List ℕ)) (rest : List ℕ) → pieces (values_reply at blocks ++ rest) ≡ value_lines at blocks ++ ok_line ∷ pieces rest
reply_cut at blocks rest = ap (λ (l : List ℕ). pieces (printed_reply l ++ rest)) (values_joined at blocks) ∙ lines_cut (value_lines at blocks) rest (one_lines at blocks)
