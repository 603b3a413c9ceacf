-- How replies are put together of their lines.
use Rattle.std.proofs.Common.{◌≡◌, ◌⊎◌, ⊎_elim, ℕ, ◌+◌, ◌-◌, ◌≤◌, ◌<◌, Bool, true, false, cond, not, ◌&&◌, ◌||◌, ◌==◌, List, [], ◌∷◌, ◌++◌, length, take, codes, refl, sym, ◌∙◌, ap, subst, append_assoc, length-append, arith, ne_eqb}
use Rattle.std.specs.Char.{is_ascii_digit}
use Rattle.std.specs.List.{All, concat}
use Rattle.std.specs.Fmt.{decimal}
use Rattle.std.specs.Str.{bytes_eq}
use Rattle.std.specs.Cmp.Lexicographic.{same_text}
use Rattle.std.proofs.lemmas.Bool.Decides.{nat_tests}
use Rattle.std.proofs.lemmas.List.{append-nil, take-append-le, length-take}
use Rattle.std.proofs.lemmas.List.Elements.{All-cons, All-head, All-nil, All-tail, All-weaker}
use Rattle.std.proofs.Math.Seq.{take-append-add}
use Rattle.mdv_port.specs.Script.{pieces}
use Rattle.mdv_status.specs.Values.{value_line, values_reply, entries_line, entries_reply, printed_reply, ok_line}
use Rattle.mdv_status.specs.Telling.{lacks, begins_with_digit, refused, ends_reply, gathered, said_in, unsaid, with_reply, value_lines, IsQuietLine, IsValueLine, ValuesAreLines, ValuesAreOneReply, EntriesAreOneReply, PrintsAreOneReply, RefusalsAreOneReply}
use Rattle.mdv_status.proofs.Pieces.{lacks_take, has_newline, pieces_none, pieces_line, pieces_front}
use Rattle.mdv_status.proofs.Lines.{IsOneLine, is_value_line, are_value_lines, entries_one_line, values_joined, reply_cut, line_cut, lines_cut}

neither : (x y a b c : Bool) → x ≡ false → y ≡ false → (x && a) || b && (y && c) ≡ false
neither false false a true c ok other = refl
neither false false a false c ok other = refl
neither true y a b c ok other = absurd (cc (ok))
neither false true a b c ok other = absurd (cc (other))

-- no line ends a reply that begins with another byte than `o` and `r`, as with a digit
pub other_ends_not : (b : ℕ) (rest : List ℕ) → (b == 111) ≡ false → (b == 114) ≡ false → ends_reply (b ∷ rest) ≡ false
other_ends_not b rest one other = neither (b == 111) (b == 114) (bytes_eq rest (107 ∷ 10 ∷ [])) (not (lacks 10 (b ∷ rest))) (bytes_eq (take 8 rest) (codes "efused E")) one other

digit_ends_not : (d : ℕ) (rest : List ℕ) → is_ascii_digit d ≡ true → ends_reply (d ∷ rest) ≡ false
digit_ends_not d rest is =
    let below : d ≤ 57 = grind (arith, nat_tests) in
    other_ends_not d rest (ne_eqb d 111 (λ e. omega arith)) (ne_eqb d 114 (λ e. omega arith))

begun_ends_not : (text rest : List ℕ) → begins_with_digit text ≡ true → ends_reply (text ++ rest) ≡ false
begun_ends_not [] rest is = absurd (cc (is))
begun_ends_not (d ∷ text) rest is = digit_ends_not d (text ++ rest) is

value_ends_not : (bytes : List ℕ) → IsValueLine bytes → ends_reply bytes ≡ false
value_ends_not bytes is = ap ends_reply is.line ∙ begun_ends_not is.text (10 ∷ []) is.digit

-- nor does one that tells a number of entries
entries_ends_not : (n : ℕ) → ends_reply (entries_line n) ≡ false
entries_ends_not n = other_ends_not 101 (codes "ntries " ++ decimal n ++ 10 ∷ []) refl refl

-- nor does one that lacks its newline
open_ends_not : (text : List ℕ) → lacks 10 text ≡ true → ends_reply text ≡ false
open_ends_not text is = by (bytes_eq text ok_line) (λ same. ap (lacks 10) (sym (same_text text ok_line (sym same)))) (lacks 10 text) is where
  by : (x : Bool) → (x ≡ true → lacks 10 ok_line ≡ lacks 10 text) → (y : Bool) → y ≡ true → x || not y && bytes_eq (take 9 text) refused ≡ false
  by true same y whole = absurd (let broken : false ≡ true = same refl ∙ is in cc (broken))
  by false same true whole = refl
  by false same false whole = absurd (cc (whole))

-- one that tells a refusal does
refusal_ends : (text : List ℕ) → take 9 text ≡ refused → ends_reply (text ++ 10 ∷ []) ≡ true
refusal_ends text begins =
    let long : 9 ≤ length text = (let size = length-take 9 text in let nine : length (take 9 text) ≡ 9 = ap length begins in grind arith) in
    let front : take 9 (text ++ 10 ∷ []) ≡ refused = take-append-le 9 text (10 ∷ []) long ∙ begins in
    ap (λ (b : Bool). bytes_eq (text ++ 10 ∷ []) ok_line || not b && bytes_eq (take 9 (text ++ 10 ∷ [])) refused) (has_newline text)
    ∙ ap (λ (l : List ℕ). bytes_eq (text ++ 10 ∷ []) ok_line || bytes_eq l refused) front
    ∙ or_true (bytes_eq (text ++ 10 ∷ []) ok_line)
  where
    or_true : (x : Bool) → x || true ≡ true
    or_true true = refl
    or_true false = refl

-- a piece that ends a reply, and one that doesn't
ending : (before piece : List ℕ) (more : List (List ℕ)) → ends_reply piece ≡ true → gathered before (piece ∷ more) ≡ with_reply (before ++ piece) (gathered [] more)
ending before piece more is = ap (λ (x : Bool). cond x (with_reply (before ++ piece) (gathered [] more)) (gathered (before ++ piece) more)) is

on : (before piece : List ℕ) (more : List (List ℕ)) → ends_reply piece ≡ false → gathered before (piece ∷ more) ≡ gathered (before ++ piece) more
on before piece more is = ap (λ (x : Bool). cond x (with_reply (before ++ piece) (gathered [] more)) (gathered (before ++ piece) more)) is

one_line : (bytes : List ℕ) → IsQuietLine bytes → IsOneLine bytes
one_line bytes is = record { text = is.text; line = is.line; whole = is.whole }

lines_gathered : (before : List ℕ) (ls more : List (List ℕ)) → All IsQuietLine ls → gathered before (ls ++ ok_line ∷ more) ≡ with_reply (before ++ printed_reply (concat ls)) (gathered [] more)
lines_gathered before [] more quiet = refl
lines_gathered before (line ∷ ls) more quiet =
    let rest : List ℕ = concat ls in
    on before line (ls ++ ok_line ∷ more) (All-head IsQuietLine line ls quiet).quiet
    ∙ lines_gathered (before ++ line) ls more (All-tail IsQuietLine line ls quiet)
    ∙ ap (λ (l : List ℕ). with_reply l (gathered [] more)) (append_assoc before line (rest ++ ok_line) ∙ ap (λ (l : List ℕ). before ++ l) (sym (append_assoc line rest ok_line)))

-- lines none of which ends a reply are one with the line `ok` behind them
abbrev IsMore : List ℕ → List ℕ → Type 0
IsMore rest reply = said_in (reply ++ rest) ≡ with_reply reply (said_in rest)

lines_more : (ls : List (List ℕ)) (rest : List ℕ) → All IsQuietLine ls → IsMore rest (printed_reply (concat ls))
unfolding said_in
lines_more ls rest quiet = ap (gathered []) (lines_cut ls rest (All-weaker IsQuietLine IsOneLine one_line ls quiet)) ∙ lines_gathered [] ls (pieces rest) quiet

refusal_more : (text rest : List ℕ) → lacks 10 text ≡ true → take 9 text ≡ refused → said_in (text ++ 10 ∷ rest) ≡ with_reply (text ++ 10 ∷ []) (said_in rest)
unfolding said_in
refusal_more text rest is begins = ap (gathered []) (pieces_line text rest is) ∙ ending [] (text ++ 10 ∷ []) (pieces rest) (refusal_ends text begins)

-- bytes without a newline are no reply, whatever came before
open_gathered : (before text : List ℕ) → lacks 10 text ≡ true → gathered before (pieces text) ≡ unsaid (before ++ text)
open_gathered before [] is = ap (gathered before) pieces_none ∙ ap unsaid (sym (append-nil before))
open_gathered before (b ∷ bs) is = ap (gathered before) (pieces_front b bs is) ∙ on before (b ∷ bs) [] (open_ends_not (b ∷ bs) is)

open_front : (text : List ℕ) → lacks 10 text ≡ true → said_in text ≡ unsaid text
unfolding said_in
open_front text is = open_gathered [] text is

le_or_gt : (a b : ℕ) → (a ≤ b) ⊎ (b < a)
le_or_gt a b = grind arith

-- bytes that come behind others are no reply with them
abbrev IsUnsaid : List ℕ → List ℕ → Type 0
IsUnsaid before bytes = gathered before (pieces bytes) ≡ unsaid (before ++ bytes)

-- a front of a line that lacks the newline
short_front : (before text : List ℕ) (count : ℕ) → count ≤ length text → (rest : List ℕ) → lacks 10 text ≡ true → IsUnsaid before (take count (text ++ rest))
short_front before text count short rest is = subst (IsUnsaid before) (sym (take-append-le count text rest short)) (open_gathered before (take count text) (lacks_take count text is))

-- a front of a line that ends no reply and of what is told behind it
line_front : (before bytes rest : List ℕ) (count : ℕ) → IsOneLine bytes → ends_reply bytes ≡ false → count < length (bytes ++ rest)
    → ((left : ℕ) → left < length rest → IsUnsaid (before ++ bytes) (take left rest)) → IsUnsaid before (take count (bytes ++ rest))
line_front before bytes rest count is ends below behind = ⊎_elim
    (λ (short : count ≤ length is.text). (
    let same : bytes ++ rest ≡ is.text ++ 10 ∷ rest = ap (λ (l : List ℕ). l ++ rest) is.line ∙ append_assoc is.text (10 ∷ []) rest in
    subst (λ (l : List ℕ). IsUnsaid before (take count l)) (sym same) (short_front before is.text count short (10 ∷ rest) is.whole)))
    (λ (long : length is.text < count). (
    let size : length bytes ≡ length is.text + 1 = ap length is.line ∙ length-append is.text (10 ∷ []) in
    let split : count ≡ length bytes + (count - length bytes) = omega arith in
    let left : List ℕ = take (count - length bytes) rest in
    let same : take count (bytes ++ rest) ≡ bytes ++ left = ap (λ (n : ℕ). take n (bytes ++ rest)) split ∙ take-append-add bytes rest (count - length bytes) in
    subst (IsUnsaid before) (sym same) (
    ap (gathered before) (line_cut bytes left is) ∙ on before bytes (pieces left) ends
    ∙ behind (count - length bytes) (let all = length-append bytes rest in omega arith) ∙ ap unsaid (append_assoc before bytes left))))
    (le_or_gt count (length is.text))

lines_open : (before : List ℕ) (ls : List (List ℕ)) (count : ℕ) → All IsQuietLine ls → count < length (printed_reply (concat ls)) → IsUnsaid before (take count (printed_reply (concat ls)))
lines_open before [] count quiet below = short_front before (codes "ok") count (omega arith) (10 ∷ []) refl
lines_open before (line ∷ ls) count quiet below =
    let more : List ℕ = printed_reply (concat ls) in
    let same : printed_reply (concat (line ∷ ls)) ≡ line ++ more = append_assoc line (concat ls) ok_line in
    let first = All-head IsQuietLine line ls quiet in
    subst (λ (l : List ℕ). IsUnsaid before (take count l)) (sym same)
    (line_front before line more count (one_line line first) first.quiet (let size = ap length same in omega arith) (λ left short. lines_open (before ++ line) ls left (All-tail IsQuietLine line ls quiet) short))

-- and none before the last byte
abbrev IsFront : ℕ → List ℕ → Type 0
IsFront count reply = count < length reply → said_in (take count reply) ≡ unsaid (take count reply)

lines_front : (ls : List (List ℕ)) (count : ℕ) → All IsQuietLine ls → IsFront count (printed_reply (concat ls))
unfolding said_in
lines_front ls count quiet below = lines_open [] ls count quiet below

-- lines of values are such lines, and so is the one that tells a number of entries
value_quiet : (at : ℕ) (block : List ℕ) → IsQuietLine (value_line at block)
value_quiet at block = let is = is_value_line at block in record { text = is.text; line = is.line; whole = is.whole; quiet = value_ends_not (value_line at block) is }

values_quiet : (at : ℕ) (blocks : List (List ℕ)) → All IsQuietLine (value_lines at blocks)
values_quiet at [] = All-nil IsQuietLine
values_quiet at (block ∷ blocks) = All-cons IsQuietLine (value_line at block) (value_lines (at + 1) blocks) (value_quiet at block) (values_quiet (at + 1) blocks)

values_reply_is : (at : ℕ) (blocks : List (List ℕ)) → printed_reply (concat (value_lines at blocks)) ≡ values_reply at blocks
values_reply_is at blocks = ap printed_reply (sym (values_joined at blocks))

values_more : (at : ℕ) (blocks : List (List ℕ)) (rest : List ℕ) → IsMore rest (values_reply at blocks)
values_more at blocks rest = subst (IsMore rest) (values_reply_is at blocks) (lines_more (value_lines at blocks) rest (values_quiet at blocks))

values_front : (at : ℕ) (blocks : List (List ℕ)) (count : ℕ) → IsFront count (values_reply at blocks)
values_front at blocks count = subst (IsFront count) (values_reply_is at blocks) (lines_front (value_lines at blocks) count (values_quiet at blocks))

entries_quiet : (n : ℕ) → All IsQuietLine (entries_line n ∷ [])
entries_quiet n =
    let is = entries_one_line n in
    All-cons IsQuietLine (entries_line n) [] (record { text = is.text; line = is.line; whole = is.whole; quiet = entries_ends_not n }) (All-nil IsQuietLine)

entries_reply_is : (n : ℕ) → printed_reply (concat (entries_line n ∷ [])) ≡ entries_reply n
entries_reply_is n = ap printed_reply (append-nil (entries_line n))

entries_more : (n : ℕ) (rest : List ℕ) → IsMore rest (entries_reply n)
entries_more n rest = subst (IsMore rest) (entries_reply_is n) (lines_more (entries_line n ∷ []) rest (entries_quiet n))

entries_front : (n count : ℕ) → IsFront count (entries_reply n)
entries_front n count = subst (IsFront count) (entries_reply_is n) (lines_front (entries_line n ∷ []) count (entries_quiet n))

pub values_are_lines : ValuesAreLines
values_are_lines = record { lines = are_value_lines; cut = reply_cut }

pub values_are_one_reply : ValuesAreOneReply
values_are_one_reply = record { more = values_more; front = values_front }

pub refusals_are_one_reply : RefusalsAreOneReply
refusals_are_one_reply = record { more = refusal_more; front = open_front }

pub entries_are_one_reply : EntriesAreOneReply
entries_are_one_reply = record { more = entries_more; front = entries_front }

pub prints_are_one_reply : PrintsAreOneReply
prints_are_one_reply = record { more = lines_more; front = lines_front }
