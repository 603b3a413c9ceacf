-- Lines that belong together, gathered one by one.
use Rattle.std.proofs.Common.{◌≡◌, ◌<◌, ◌≤◌, ◌+◌, ℕ, Bool, true, false, cond, refl, sym, ◌∙◌, ap, List, [], ◌∷◌, ◌++◌, ◌&&◌, length, append_assoc, append-nil, length-append, arith}
use Rattle.std.proofs.lemmas.List.Folds.{list_all-append}
use Rattle.std.specs.List.{list_all}
use Rattle.mdv_text.specs.Words.{is_blank, begins_with_word, lengthened, words}
use Rattle.mdv_text.proofs.WordRuns.{words-word}
use Rattle.mdv_name.specs.Lines.{lines}
use Rattle.mdv_tab.specs.Text.{counted, joins, joined_to, groups, group_words, is_ascii_line}
use Rattle.mdv_tab.specs.Gather.{IsGathered}

words_some : (t : List ℕ) → begins_with_word t ≡ true → 0 < length (words t)
words_some t begins = let split = words-word t begins in omega (arith, ap length split)

lengthened-append : (b : ℕ) (v u : List (List ℕ)) → 0 < length v → lengthened b (v ++ u) ≡ lengthened b v ++ u
lengthened-append b [] u some = absurd (omega arith)
lengthened-append b (w ∷ v) u some = refl

begins-append : (xs ys : List ℕ) → begins_with_word (xs ++ 32 ∷ ys) ≡ begins_with_word xs
begins-append [] ys = refl
begins-append (b ∷ xs) ys = refl

-- a blank parts words
words-blank : (xs ys : List ℕ) → words (xs ++ 32 ∷ ys) ≡ words xs ++ words ys
words-blank [] ys = refl
words-blank (b ∷ xs) ys =
    let next = words-blank xs ys in
    let begins = begins-append xs ys in
    let P : Bool → Type 0 = λ v. begins_with_word xs ≡ v → cond v (lengthened b (words xs ++ words ys)) ((b ∷ []) ∷ (words xs ++ words ys)) ≡ cond v (lengthened b (words xs)) ((b ∷ []) ∷ words xs) ++ words ys in
    let solid : cond (begins_with_word xs) (lengthened b (words xs ++ words ys)) ((b ∷ []) ∷ (words xs ++ words ys)) ≡ cond (begins_with_word xs) (lengthened b (words xs)) ((b ∷ []) ∷ words xs) ++ words ys =
    (elim (begins_with_word xs) as P [ true ↦ λ on. lengthened-append b (words xs) (words ys) (words_some xs on) | false ↦ λ on. refl ]) refl in
    let Q : Bool → Type 0 = λ v. cond v (words xs ++ words ys) (cond (begins_with_word xs) (lengthened b (words xs ++ words ys)) ((b ∷ []) ∷ (words xs ++ words ys))) ≡ cond v (words xs) (cond (begins_with_word xs) (lengthened b (words xs)) ((b ∷ []) ∷ words xs)) ++ words ys in
    rw (begins, next) (elim (is_blank b) as Q [ true ↦ refl | false ↦ solid ])

-- what counts of each line, and a blank behind it
abbrev pub spaced : List (List ℕ) → List ℕ
spaced [] = []
spaced (l ∷ g) = counted l ++ 32 ∷ spaced g

spaced_words : (g : List (List ℕ)) → words (spaced g) ≡ group_words g
spaced_words [] = refl
spaced_words (l ∷ g) = words-blank (counted l) (spaced g) ∙ ap (λ (ws : List (List ℕ)). words (counted l) ++ ws) (spaced_words g)

spaced_more : (g : List (List ℕ)) (l : List ℕ) → spaced g ++ (counted l ++ 32 ∷ []) ≡ spaced (g ++ l ∷ [])
spaced_more [] l = refl
spaced_more (f ∷ g) l = append_assoc (counted f) (32 ∷ spaced g) (counted l ++ 32 ∷ []) ∙ ap (λ (bs : List ℕ). counted f ++ 32 ∷ bs) (spaced_more g l)

both : (a b : Bool) → a && b ≡ true → (a ≡ true) × (b ≡ true)
both true true is = (refl, refl)
both true false is = cc
both false b is = cc

closed : (front : List (List ℕ)) (l : List ℕ) (ls : List (List ℕ)) → list_all joins front ≡ true → joins l ≡ false → groups (front ++ l ∷ ls) ≡ (front ++ l ∷ []) ∷ groups ls
closed [] l ls all last = ap (λ (v : Bool). cond v (joined_to l (groups ls)) ((l ∷ []) ∷ groups ls)) last
closed (f ∷ front) l ls all last =
    let parts = both (joins f) (list_all joins front) all in
    ap (λ (v : Bool). cond v (joined_to f (groups (front ++ l ∷ ls))) ((f ∷ []) ∷ groups (front ++ l ∷ ls))) parts.0 ∙ ap (joined_to f) (closed front l ls parts.1 last)

open_end : (f : List ℕ) (front : List (List ℕ)) → list_all joins (f ∷ front) ≡ true → groups (f ∷ front) ≡ (f ∷ front) ∷ []
open_end f [] all = let parts = both (joins f) true all in ap (λ (v : Bool). cond v ((f ∷ []) ∷ []) ((f ∷ []) ∷ [])) parts.0
open_end f (g ∷ front) all =
    let parts = both (joins f) (list_all joins (g ∷ front)) all in
    ap (λ (v : Bool). cond v (joined_to f (groups (g ∷ front))) ((f ∷ []) ∷ groups (g ∷ front))) parts.0 ∙ ap (joined_to f) (open_end g front parts.1)

-- the lines so far all join the next
pub record GatheredSoFar (text rest bytes : List ℕ) (ascii : Bool) (count : ℕ) : Type 0 where
  pub front : List (List ℕ)
  pub place : lines text ≡ front ++ lines rest
  pub joined : list_all joins front ≡ true
  pub laid : bytes ≡ spaced front
  pub plain : ascii ≡ list_all is_ascii_line front
  pub counts : count ≡ length front
  pub size : length front + length rest ≤ length text
  pub start : length front ≡ 0 → length rest ≡ length text

pub gathered_none : (text : List ℕ) → GatheredSoFar text text [] true 0
gathered_none text = record { front = []; place = refl; joined = refl; laid = refl; plain = refl; counts = refl; size = omega arith; start = λ none. refl }

size_more : (front : List (List ℕ)) (line rest behind : List ℕ) (size : ℕ) → length front + length rest ≤ size → rest ≡ line ++ behind → 0 < length line → length (front ++ line ∷ []) + length behind ≤ size
size_more front line rest behind size far whole some = omega (arith, far, some, ap length whole, length-append line behind, length-append front (line ∷ []))

and_last : (a b : Bool) → a && b ≡ a && (b && true)
and_last true true = refl
and_last true false = refl
and_last false b = refl

ascii_more : (front : List (List ℕ)) (line : List ℕ) (old new : Bool) → old ≡ list_all is_ascii_line front → new ≡ (old && is_ascii_line line) → new ≡ list_all is_ascii_line (front ++ line ∷ [])
ascii_more front line old new far is = is ∙ ap (λ (v : Bool). v && is_ascii_line line) far ∙ and_last (list_all is_ascii_line front) (is_ascii_line line) ∙ sym (list_all-append is_ascii_line front (line ∷ []))

pub gathered_more :
    (text rest bytes line behind new : List ℕ) (ascii next : Bool) (count more : ℕ) → GatheredSoFar text rest bytes ascii count → lines rest ≡ line ∷ lines behind → rest ≡ line ++ behind → 0 < length line →
    new ≡ bytes ++ (counted line ++ 32 ∷ []) → next ≡ (ascii && is_ascii_line line) → more ≡ count + 1 → joins line ≡ true → GatheredSoFar text behind new next more
gathered_more text rest bytes line behind new ascii next count more far first whole some is plain one on =
    record {
      front = far.front ++ line ∷ [];
      place = far.place ∙ ap (λ (ls : List (List ℕ)). far.front ++ ls) first ∙ sym (append_assoc far.front (line ∷ []) (lines behind));
      joined = list_all-append joins far.front (line ∷ []) ∙ ap (λ (v : Bool). v && (joins line && true)) far.joined ∙ ap (λ (v : Bool). v && true) on;
      laid = is ∙ ap (λ (bs : List ℕ). bs ++ (counted line ++ 32 ∷ [])) far.laid ∙ spaced_more far.front line;
      plain = ascii_more far.front line ascii next far.plain plain;
      counts = one ∙ ap (λ (n : ℕ). n + 1) far.counts ∙ sym (length-append far.front (line ∷ []));
      size = size_more far.front line rest behind (length text) far.size whole some;
      start = λ none. absurd (omega (arith, none, length-append far.front (line ∷ [])));
    }

pub gathered_closed :
    (text rest bytes line behind new : List ℕ) (ascii next : Bool) (count more : ℕ) → GatheredSoFar text rest bytes ascii count → lines rest ≡ line ∷ lines behind → rest ≡ line ++ behind → 0 < length line →
    new ≡ bytes ++ (counted line ++ 32 ∷ []) → next ≡ (ascii && is_ascii_line line) → more ≡ count + 1 → joins line ≡ false → IsGathered text new next more behind
gathered_closed text rest bytes line behind new ascii next count more far first whole some is plain one off =
    let group = far.front ++ line ∷ [] in
    record {
      group = group;
      place = ap groups (far.place ∙ ap (λ (ls : List (List ℕ)). far.front ++ ls) first) ∙ closed far.front line (lines behind) far.joined off;
      spelled = ap words (is ∙ ap (λ (bs : List ℕ). bs ++ (counted line ++ 32 ∷ [])) far.laid ∙ spaced_more far.front line) ∙ spaced_words group;
      plain = ascii_more far.front line ascii next far.plain plain;
      counts = one ∙ ap (λ (n : ℕ). n + 1) far.counts ∙ sym (length-append far.front (line ∷ []));
      some = omega (arith, length-append far.front (line ∷ []));
      size = size_more far.front line rest behind (length text) far.size whole some;
    }

open_group : (front : List (List ℕ)) → 0 < length front → list_all joins front ≡ true → groups front ≡ front ∷ []
open_group [] some all = absurd (omega arith)
open_group (f ∷ front) some all = open_end f front all

front_some : (front : List (List ℕ)) (rest text : ℕ) → (length front ≡ 0 → rest ≡ text) → rest ≡ 0 → 0 < text → 0 < length front
front_some [] rest text start none some = let same : rest ≡ text = start refl in absurd (omega (arith, same, none, some))
front_some (f ∷ front) rest text start none some = omega arith

nil : (xs : List ℕ) → length xs ≡ 0 → xs ≡ []
nil [] none = refl
nil (x ∷ xs) none = absurd (omega arith)

pub gathered_open : (text rest bytes : List ℕ) (ascii : Bool) (count : ℕ) → GatheredSoFar text rest bytes ascii count → 0 < length text → length rest ≡ 0 → IsGathered text bytes ascii count rest
gathered_open text rest bytes ascii count far long empty =
    let none : rest ≡ [] = nil rest empty in
    let some : 0 < length far.front = front_some far.front (length rest) (length text) far.start empty long in
    let all : lines text ≡ far.front = far.place ∙ ap (λ (r : List ℕ). far.front ++ lines r) none ∙ append-nil far.front in
    record {
      group = far.front;
      place = ap groups all ∙ open_group far.front some far.joined ∙ ap (λ (r : List ℕ). far.front ∷ groups (lines r)) (sym none);
      spelled = ap words far.laid ∙ spaced_words far.front;
      plain = far.plain;
      counts = far.counts;
      some = some;
      size = far.size;
    }
