-- Replies to reads that are the same tell the same values.
use Rattle.std.proofs.Common.{◌≡◌, ◌≢◌, ℕ, zero, suc, ◌/◌, ◌%◌, List, [], ◌∷◌, ◌++◌, length, map, flat_map, All, refl, sym, ◌∙◌, ap, arith, false, ◌+◌}
use Rattle.std.specs.Fmt.{digit_glyph, decimal}
use Rattle.std.proofs.lemmas.Bool.Decides.{nat_tests}
use Rattle.std.proofs.lemmas.List.{append_cancel_left, append_cancel_right}
use Rattle.std.proofs.lemmas.List.Elements.{All-head, All-tail}
use Rattle.mdv_port.specs.Script.{pieces}
use Rattle.mdv_status.specs.Values.{hex_byte, zero_out, significant, hex_text, block_text, value_line, values_reply, ok_line}
use Rattle.mdv_status.specs.Telling.{value_lines, ValuesAreTold}
use Rattle.mdv_status.proofs.Lines.{reply_cut}

glyph_same : (c d : ℕ) → digit_glyph false c ≡ digit_glyph false d → c ≡ d
glyph_same c d is = grind (arith, nat_tests)

glyph_other : (d : ℕ) → 45 ≢ digit_glyph false d
glyph_other d is = grind (arith, nat_tests)

hex_same : (xs ys : List ℕ) → flat_map hex_byte xs ≡ flat_map hex_byte ys → xs ≡ ys
hex_same [] [] is = refl
hex_same [] (y ∷ ys) is = absurd (cc (is))
hex_same (x ∷ xs) [] is = absurd (cc (is))
hex_same (x ∷ xs) (y ∷ ys) is =
    let high = glyph_same (x / 16) (y / 16) (cc (is)) in
    let low = glyph_same (x % 16) (y % 16) (cc (is)) in
    let here : x ≡ y = omega (arith, high, low) in
    let rest : flat_map hex_byte xs ≡ flat_map hex_byte ys = cc (is) in
    let behind = hex_same xs ys rest in
    cc (here, behind)

text_same : (xs ys : List ℕ) → hex_text xs ≡ hex_text ys → xs ≡ ys
text_same [] [] is = refl
text_same [] (y ∷ ys) is = absurd (glyph_other (y / 16) (cc (is)))
text_same (x ∷ xs) [] is = absurd (glyph_other (x / 16) (cc (is)))
text_same (x ∷ xs) (y ∷ ys) is = hex_same (x ∷ xs) (y ∷ ys) is

line_same : (at : ℕ) (a b : List ℕ) → value_line at a ≡ value_line at b → significant a ≡ significant b
line_same at a b is =
    let ended : decimal at ++ 32 ∷ block_text a ≡ decimal at ++ 32 ∷ block_text b = append_cancel_right (decimal at ++ 32 ∷ block_text a) (decimal at ++ 32 ∷ block_text b) (10 ∷ []) is in
    let behind : 32 ∷ block_text a ≡ 32 ∷ block_text b = append_cancel_left (decimal at) (32 ∷ block_text a) (32 ∷ block_text b) ended in
    text_same (significant a) (significant b) (cc (behind))

lines_same : (at : ℕ) (a b : List (List ℕ)) → value_lines at a ≡ value_lines at b → map significant a ≡ map significant b
lines_same at [] [] is = refl
lines_same at [] (y ∷ b) is = absurd (cc (is))
lines_same at (x ∷ a) [] is = absurd (cc (is))
lines_same at (x ∷ a) (y ∷ b) is =
    let first : value_line at x ≡ value_line at y = cc (is) in
    let rest : value_lines (at + 1) a ≡ value_lines (at + 1) b = cc (is) in
    let here = line_same at x y first in
    let behind = lines_same (at + 1) a b rest in
    cc (here, behind)

values_same : (at : ℕ) (a b : List (List ℕ)) → values_reply at a ≡ values_reply at b → map significant a ≡ map significant b
values_same at a b is =
    let cut : value_lines at a ++ ok_line ∷ pieces [] ≡ value_lines at b ++ ok_line ∷ pieces [] = sym (reply_cut at a []) ∙ ap (λ (l : List ℕ). pieces (l ++ [])) is ∙ reply_cut at b [] in
    lines_same at a b (append_cancel_right (value_lines at a) (value_lines at b) (ok_line ∷ pieces []) cut)

-- what stands before what is left is told
parted : (x y : ℕ) (s t : List ℕ) → zero_out x s ≡ zero_out y t → (x ≡ y) × (s ≡ t)
parted zero zero [] [] is = (refl, refl)
parted zero zero [] (t ∷ ts) is = absurd (cc (is))
parted zero zero (s ∷ ss) [] is = absurd (cc (is))
parted zero zero (s ∷ ss) (t ∷ ts) is = (refl, cc (is))
parted zero (suc y) [] t is = absurd (cc (is))
parted zero (suc y) (s ∷ ss) t is = absurd (cc (is))
parted (suc x) zero s [] is = absurd (cc (is))
parted (suc x) zero s (t ∷ ts) is = absurd (cc (is))
parted (suc x) (suc y) s t is = (cc (is), cc (is))

block_same : (a b : List ℕ) → length a ≡ length b → significant a ≡ significant b → a ≡ b
block_same [] [] long is = refl
block_same [] (y ∷ b) long is = absurd (omega (arith, long))
block_same (x ∷ a) [] long is = absurd (omega (arith, long))
block_same (x ∷ a) (y ∷ b) long is =
    let parts = parted x y (significant a) (significant b) is in
    let here = parts.0 in
    let behind = block_same a b (omega (arith, long)) parts.1 in
    cc (here, behind)

blocks_same : (size : ℕ) (a b : List (List ℕ)) → All (λ block. length block ≡ size) a → All (λ block. length block ≡ size) b → map significant a ≡ map significant b → a ≡ b
blocks_same size [] [] one other is = refl
blocks_same size [] (y ∷ b) one other is = absurd (cc (is))
blocks_same size (x ∷ a) [] one other is = absurd (cc (is))
blocks_same size (x ∷ a) (y ∷ b) one other is =
    let P = λ (block : List ℕ). length block ≡ size in
    let first : significant x ≡ significant y = cc (is) in
    let rest : map significant a ≡ map significant b = cc (is) in
    let here = block_same x y (All-head P x a one ∙ sym (All-head P y b other)) first in
    let behind = blocks_same size a b (All-tail P x a one) (All-tail P y b other) rest in
    cc (here, behind)

pub values_are_told : ValuesAreTold
values_are_told = record { significant = values_same; same = λ at size a b one other is. blocks_same size a b one other (values_same at a b is) }
