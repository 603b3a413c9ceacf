-- A text of lines, read line by line.
use Rattle.std.proofs.Common.{◌≡◌, ◌==◌, ◌&&◌, ◌||◌, ℕ, Bool, true, false, cond, not, refl, sym, ◌∙◌, ap, subst, List, [], ◌∷◌, ◌++◌, map, append_assoc, append-nil, inr, arith}
use Rattle.std.proofs.lemmas.Bool.Decides.{nat_tests}
use Rattle.std.proofs.lemmas.List.Elements.{All-head, All-tail}
use Rattle.std.specs.List.{All, flat_map, list_all}
use Rattle.mdv_text.specs.Words.{begins_with_word, is_blank, lengthened, words}
use Rattle.mdv_name.specs.Lines.{lines}
use Rattle.mdv_tab.specs.Text.{Gives, IsEntry, ReadsGroups, counted, groups, group_words, is_ascii_byte, is_ascii_line, joined_to, joins, stops}
use Rattle.mdv_tab.specs.declared.entry.Entry.{Entry}
use Rattle.mdv_print.proofs.Spelled.{IsPlain, is_plain_byte}

both : (a b : Bool) → a && b ≡ true → (a ≡ true) × (b ≡ true)
both true true is = (refl, refl)
both true false is = cc
both false b is = cc

-- a byte of a line in front of its newline
abbrev pub is_line_byte : ℕ → Bool
is_line_byte b = is_plain_byte b || (b == 32)

abbrev pub IsLineText : List ℕ → Type 0
IsLineText t = list_all is_line_byte t ≡ true

stops_not : (b : ℕ) (bs : List ℕ) → is_line_byte b ≡ true → stops b bs ≡ false
stops_not b bs is =
    let hash : (b == 35) ≡ false = grind (arith, nat_tests) in
    let newline : (b == 10) ≡ false = grind (arith, nat_tests) in
    let stroke : (b == 92) ≡ false = grind (arith, nat_tests) in
    rw (hash, newline, stroke) refl

line_counted : (t : List ℕ) → IsLineText t → counted (t ++ 10 ∷ []) ≡ t
line_counted [] all = refl
line_counted (b ∷ t) all =
    let parts = both (is_line_byte b) (list_all is_line_byte t) all in
    ap (λ (v : Bool). cond v [] (b ∷ counted (t ++ 10 ∷ []))) (stops_not b (t ++ 10 ∷ []) parts.0) ∙ ap (λ (l : List ℕ). b ∷ l) (line_counted t parts.1)

line_joins : (t : List ℕ) → IsLineText t → joins (t ++ 10 ∷ []) ≡ false
line_joins [] all = refl
line_joins (b ∷ t) all =
    let parts = both (is_line_byte b) (list_all is_line_byte t) all in
    ap (λ (v : Bool). cond v (b == 92) (joins (t ++ 10 ∷ []))) (stops_not b (t ++ 10 ∷ []) parts.0) ∙ line_joins t parts.1

ascii_byte : (b : ℕ) → is_line_byte b ≡ true → is_ascii_byte b ≡ true
ascii_byte b is = grind (arith, nat_tests)

line_ascii : (t : List ℕ) → IsLineText t → is_ascii_line (t ++ 10 ∷ []) ≡ true
line_ascii [] all = refl
line_ascii (b ∷ t) all =
    let parts = both (is_line_byte b) (list_all is_line_byte t) all in
    let here : is_ascii_byte b ≡ true = ascii_byte b parts.0 in
    rw here (line_ascii t parts.1)

no_newline : (b : ℕ) → is_line_byte b ≡ true → (b == 10) ≡ false
no_newline b is = grind (arith, nat_tests)

first_line : (t rest : List ℕ) → IsLineText t → lines (t ++ 10 ∷ rest) ≡ (t ++ 10 ∷ []) ∷ lines rest
first_line [] rest all = refl
first_line (b ∷ t) rest all =
    let parts = both (is_line_byte b) (list_all is_line_byte t) all in
    ap (λ (v : Bool). cond v ((b ∷ []) ∷ lines (t ++ 10 ∷ rest)) (lengthened b (lines (t ++ 10 ∷ rest)))) (no_newline b parts.0) ∙ ap (lengthened b) (first_line t rest parts.1)

first_group : (t rest : List ℕ) → IsLineText t → groups (lines (t ++ 10 ∷ rest)) ≡ ((t ++ 10 ∷ []) ∷ []) ∷ groups (lines rest)
first_group t rest all =
    let line = t ++ 10 ∷ [] in
    ap groups (first_line t rest all) ∙ ap (λ (v : Bool). cond v (joined_to line (groups (lines rest))) ((line ∷ []) ∷ groups (lines rest))) (line_joins t all)

-- a line and the entry that its words spell
pub record IsLineOf (line : List ℕ) (e : Entry) : Type 0 where
  pub text : List ℕ
  pub ends : line ≡ text ++ 10 ∷ []
  pub plain : IsLineText text
  pub entry : IsEntry (words text) e

line_gives : (t : List ℕ) (e : Entry) → IsLineText t → IsEntry (words t) e → Gives ((t ++ 10 ∷ []) ∷ []) (e ∷ [])
line_gives t e plain entry =
    let line = t ++ 10 ∷ [] in
    let ascii : list_all is_ascii_line (line ∷ []) ≡ true = ap (λ (b : Bool). b && true) (line_ascii t plain) in
    let same : group_words (line ∷ []) ≡ words t = append-nil (words (counted line)) ∙ ap words (line_counted t plain) in
    (ascii, inr (e, subst (λ (ws : List (List ℕ)). IsEntry ws e) (sym same) entry, refl))

reads_line : (line rest : List ℕ) (e : Entry) (es : List Entry) → IsLineOf line e → ReadsGroups (groups (lines rest)) es → ReadsGroups (groups (lines (line ++ rest))) (e ∷ es)
reads_line line rest e es is read =
    let t = is.text in
    let place : groups (lines (line ++ rest)) ≡ ((t ++ 10 ∷ []) ∷ []) ∷ groups (lines rest) =
    ap (λ (l : List ℕ). groups (lines (l ++ rest))) is.ends ∙ ap (λ (l : List ℕ). groups (lines l)) (append_assoc t (10 ∷ []) rest) ∙ first_group t rest is.plain
    in
    subst (λ (gs : List (List (List ℕ))). ReadsGroups gs (e ∷ es)) (sym place) (e ∷ [], es, line_gives t e is.plain is.entry, read, refl)

-- one line for each of the items
pub reads_lines : {X : Type 0} (line : X → List ℕ) (entry : X → Entry) (xs : List X) (rest : List ℕ) (es : List Entry) → All (λ x. IsLineOf (line x) (entry x)) xs → ReadsGroups (groups (lines rest)) es →
    ReadsGroups (groups (lines (flat_map line xs ++ rest))) (map entry xs ++ es)
reads_lines line entry [] rest es all read = read
reads_lines line entry (x ∷ xs) rest es all read =
    let P : _ → Type 0 = λ y. IsLineOf (line y) (entry y) in
    let later = reads_lines line entry xs rest es (All-tail P x xs all) read in
    subst (λ (l : List ℕ). ReadsGroups (groups (lines l)) (map entry (x ∷ xs) ++ es)) (sym (append_assoc (line x) (flat_map line xs) rest))
    (reads_line (line x) (flat_map line xs ++ rest) (entry x) (map entry xs ++ es) (All-head P x xs all) later)

not_blank : (b : ℕ) → is_plain_byte b ≡ true → is_blank b ≡ false
not_blank b is = grind (arith, nat_tests)

-- a word, and what follows it behind a blank
pub word_then : (b : ℕ) (w rest : List ℕ) → IsPlain (b ∷ w) → words ((b ∷ w) ++ 32 ∷ rest) ≡ (b ∷ w) ∷ words rest
word_then b [] rest plain =
    let parts = both (is_plain_byte b) true plain in
    ap (λ (v : Bool). cond v (words (32 ∷ rest)) ((b ∷ []) ∷ words (32 ∷ rest))) (not_blank b parts.0)
word_then b (c ∷ w) rest plain =
    let parts = both (is_plain_byte b) (list_all is_plain_byte (c ∷ w)) plain in
    let next = both (is_plain_byte c) (list_all is_plain_byte w) parts.1 in
    let bs = (c ∷ w) ++ 32 ∷ rest in
    let begins : begins_with_word bs ≡ true = ap not (not_blank c next.0) in
    ap (λ (v : Bool). cond v (words bs) (cond (begins_with_word bs) (lengthened b (words bs)) ((b ∷ []) ∷ words bs))) (not_blank b parts.0)
    ∙ ap (λ (v : Bool). cond v (lengthened b (words bs)) ((b ∷ []) ∷ words bs)) begins
    ∙ ap (lengthened b) (word_then c w rest parts.1)

pub word_last : (b : ℕ) (w : List ℕ) → IsPlain (b ∷ w) → words (b ∷ w) ≡ (b ∷ w) ∷ []
word_last b [] plain =
    let parts = both (is_plain_byte b) true plain in
    ap (λ (v : Bool). cond v [] ((b ∷ []) ∷ [])) (not_blank b parts.0)
word_last b (c ∷ w) plain =
    let parts = both (is_plain_byte b) (list_all is_plain_byte (c ∷ w)) plain in
    let next = both (is_plain_byte c) (list_all is_plain_byte w) parts.1 in
    let bs = c ∷ w in
    let begins : begins_with_word bs ≡ true = ap not (not_blank c next.0) in
    ap (λ (v : Bool). cond v (words bs) (cond (begins_with_word bs) (lengthened b (words bs)) ((b ∷ []) ∷ words bs))) (not_blank b parts.0)
    ∙ ap (λ (v : Bool). cond v (lengthened b (words bs)) ((b ∷ []) ∷ words bs)) begins
    ∙ ap (lengthened b) (word_last c w parts.1)

pub gives_line : (line : List ℕ) (e : Entry) → IsLineOf line e → Gives (line ∷ []) (e ∷ [])
gives_line line e is = subst (λ (l : List ℕ). Gives (l ∷ []) (e ∷ [])) (sym is.ends) (line_gives is.text e is.plain is.entry)
