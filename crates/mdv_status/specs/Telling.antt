-- How replies lie among the bytes that are told: a reply to a read is its lines of values and the line `ok`, one to a block of
-- entries their number and this line, and one to a print its lines and this line.
use Rattle.std.specs.Prelude.{◌≡◌, ℕ, Bool, true, false, not, ◌&&◌, ◌||◌, ◌==◌, ◌+◌, ◌<◌, List, [], ◌∷◌, ◌++◌, length, map, take, All, codes, if◌then◌else◌}
use Rattle.std.specs.Char.{is_ascii_digit}
use Rattle.std.specs.List.{concat, list_all}
use Rattle.std.specs.Str.{bytes_eq}
use Rattle.mdv_port.specs.Script.{pieces}
use Rattle.mdv_status.specs.Values.{significant, value_line, values_reply, entries_reply, printed_reply, ok_line}

-- the byte isn't in the text
abbrev pub lacks : ℕ → List ℕ → Bool
lacks byte text = list_all (λ b. not (b == byte)) text

abbrev pub begins_with_digit : List ℕ → Bool
begins_with_digit [] = false
begins_with_digit (b ∷ bs) = is_ascii_digit b

-- one line: a text that begins with a digit and has no newline, and a newline
pub record IsValueLine (bytes : List ℕ) : Type 0 where
  pub text : List ℕ
  pub line : bytes ≡ text ++ 10 ∷ []
  pub whole : lacks 10 text ≡ true
  pub digit : begins_with_digit text ≡ true

abbrev pub AreValueLines : List (List ℕ) → Type 0
AreValueLines [] = Unit {0}
AreValueLines (line ∷ lines) = IsValueLine line × AreValueLines lines

-- the line of each block, from this number on
abbrev pub value_lines : ℕ → List (List ℕ) → List (List ℕ)
value_lines at [] = []
value_lines at (block ∷ blocks) = value_line at block ∷ value_lines (at + 1) blocks

-- the line that tells a refusal begins so
abbrev pub refused : List ℕ
refused = codes "refused E"

-- A whole line with which a reply ends: `ok`, or one that tells a refusal. A volume may be called `ok` or `refused`, but no line on it is one of these.
abbrev pub ends_reply : List ℕ → Bool
ends_reply piece = bytes_eq piece ok_line || not (lacks 10 piece) && bytes_eq (take 9 piece) refused

-- one line that ends no reply: a text without a newline, and a newline; the line is neither `ok` nor one that tells a refusal
pub record IsQuietLine (bytes : List ℕ) : Type 0 where
  pub text : List ℕ
  pub line : bytes ≡ text ++ 10 ∷ []
  pub whole : lacks 10 text ≡ true
  pub quiet : ends_reply bytes ≡ false

-- what bytes come to: the replies among them, each with all its lines, and what is told behind the last one, which is no reply yet
pub record Said : Type 0 where
  pub replies : List (List ℕ)
  pub left : List ℕ

abbrev pub with_reply : List ℕ → Said → Said
with_reply reply said = record { replies = reply ∷ said.replies; left = said.left }

-- no reply yet, and one
abbrev pub unsaid : List ℕ → Said
unsaid bytes = record { replies = []; left = bytes }

abbrev pub one_reply : List ℕ → Said
one_reply reply = record { replies = reply ∷ []; left = [] }

-- pieces put together up to each one that ends a reply, behind these bytes
abbrev pub gathered : List ℕ → List (List ℕ) → Said
gathered before [] = unsaid before
gathered before (piece ∷ more) = if ends_reply piece then with_reply (before ++ piece) (gathered [] more) else gathered (before ++ piece) more

-- what is said among bytes that are told
unfoldable pub said_in : List ℕ → Said
said_in bytes = gathered [] (pieces bytes)

abbrev pub replies_in : List ℕ → List (List ℕ)
replies_in bytes = (said_in bytes).replies

abbrev pub left_in : List ℕ → List ℕ
left_in bytes = (said_in bytes).left

-- the lines of values are lines, and a reply is cut into them and the line `ok`, whatever is told behind it
pub record ValuesAreLines : Type 0 where
  pub lines : (at : ℕ) (blocks : List (List ℕ)) → AreValueLines (value_lines at blocks)
  pub cut : (at : ℕ) (blocks : List (List ℕ)) (rest : List ℕ) → pieces (values_reply at blocks ++ rest) ≡ value_lines at blocks ++ ok_line ∷ pieces rest

-- A reply to a read is one, whatever is told behind it, as soon as it is whole; of no block it is the line `ok`.
pub record ValuesAreOneReply : Type 0 where
  pub more : (at : ℕ) (blocks : List (List ℕ)) (rest : List ℕ) → said_in (values_reply at blocks ++ rest) ≡ with_reply (values_reply at blocks) (said_in rest)
  pub front : (at : ℕ) (blocks : List (List ℕ)) (count : ℕ) → count < length (values_reply at blocks) → said_in (take count (values_reply at blocks)) ≡ unsaid (take count (values_reply at blocks))

-- So is a reply to a block of entries.
pub record EntriesAreOneReply : Type 0 where
  pub more : (n : ℕ) (rest : List ℕ) → said_in (entries_reply n ++ rest) ≡ with_reply (entries_reply n) (said_in rest)
  pub front : (n count : ℕ) → count < length (entries_reply n) → said_in (take count (entries_reply n)) ≡ unsaid (take count (entries_reply n))

-- the reply to a print of these lines
abbrev pub lines_reply : List (List ℕ) → List ℕ
lines_reply ls = printed_reply (concat ls)

-- So is a reply to a print, of lines none of which ends a reply.
pub record PrintsAreOneReply : Type 0 where
  pub more : (ls : List (List ℕ)) (rest : List ℕ) → All IsQuietLine ls → said_in (lines_reply ls ++ rest) ≡ with_reply (lines_reply ls) (said_in rest)
  pub front : (ls : List (List ℕ)) (count : ℕ) → All IsQuietLine ls → count < length (lines_reply ls) → said_in (take count (lines_reply ls)) ≡ unsaid (take count (lines_reply ls))

-- So is a line that tells a refusal; and bytes without a newline are no reply.
pub record RefusalsAreOneReply : Type 0 where
  pub more : (text rest : List ℕ) → lacks 10 text ≡ true → take 9 text ≡ refused → said_in (text ++ 10 ∷ rest) ≡ with_reply (text ++ 10 ∷ []) (said_in rest)
  pub front : (text : List ℕ) → lacks 10 text ≡ true → said_in text ≡ unsaid text

-- A reply to a read tells its values: two lists of blocks with one reply have the same bytes before the zeros at the end of each block, so blocks of
-- one length are the same.
pub record ValuesAreTold : Type 0 where
  pub significant : (at : ℕ) (a b : List (List ℕ)) → values_reply at a ≡ values_reply at b → map significant a ≡ map significant b
  pub same : (at size : ℕ) (a b : List (List ℕ)) → All (λ block. length block ≡ size) a → All (λ block. length block ≡ size) b → values_reply at a ≡ values_reply at b → a ≡ b
