-- A script, one turn after another.
use Rattle.std.proofs.Common.{◌≡◌, ◌<◌, ◌≤◌, ◌+◌, ◌-◌, ℕ, suc, Bool, true, false, cond, List, [], ◌∷◌, ◌++◌, length, take, drop, min, nat_lt, Option, Some, None, Ok, refl, sym, ap, subst, ◌∙◌, arith, ⊎_elim}
use Rattle.std.specs.Option.{option_map}
use Rattle.std.specs.List.{onto_first}
use Rattle.std.proofs.lemmas.Bool.{cases_lt, eq-eqb, ne_eqb, lt-ltb, eqb-true, eqb-false, ltb-true}
use Rattle.std.proofs.lemmas.Option.{none-some, same_Some}
use Rattle.std.proofs.lemmas.List.{take-append-drop, length-take, length-drop, take-take}
use Rattle.mdv_port.specs.Lines.{line_limit, lines_limit, bytes_limit, Taken, nothing, next_line, is_newline, first_line, after_line, line_size}
use Rattle.mdv_port.specs.declared.reader.LineEnd.{LineEnd}
use Rattle.mdv_port.specs.Reader.{Reader, to_come, lines_given, IsAnswer, OneOn, AtLimit}
use Rattle.mdv_port.specs.Script.{Script, at_end, spent, too_long, line, pieces, script_from, script_before, IsTurn}
use Rattle.mdv_port.proofs.Answering.{lines_are_spent, bytes_are_spent, is_long, chosen, some_left}
use Rattle.mdv_port.proofs.Firsts.{end_of, end-le-length, end-cons_yes, end-cons_no, length-first_line, end-append}

line_size_is : (input : List ℕ) → line_size input ≡ min (end_of input + 1) (length input)
line_size_is input = ap (λ (n : ℕ). min (n + 1) (length input)) (length-first_line input)

pieces-cons_yes : (x : ℕ) (xs : List ℕ) → is_newline x ≡ true → pieces (x ∷ xs) ≡ (x ∷ []) ∷ pieces xs
unfolding pieces
pieces-cons_yes x xs e = ap (λ (b : Bool). cond b ((x ∷ []) ∷ pieces xs) (onto_first x (pieces xs))) e

pieces-cons_no : (x : ℕ) (xs : List ℕ) → is_newline x ≡ false → pieces (x ∷ xs) ≡ onto_first x (pieces xs)
unfolding pieces
pieces-cons_no x xs e = ap (λ (b : Bool). cond b ((x ∷ []) ∷ pieces xs) (onto_first x (pieces xs))) e

pieces-nil : pieces [] ≡ []
unfolding pieces
pieces-nil = refl

newline_first : (x : ℕ) (xs : List ℕ) → is_newline x ≡ true → pieces (x ∷ xs) ≡ take (line_size (x ∷ xs)) (x ∷ xs) ∷ pieces (after_line (x ∷ xs))
newline_first x xs hit =
    let one : 1 ≡ line_size (x ∷ xs) = omega (arith, line_size_is (x ∷ xs), end-cons_yes x xs hit) in
    let here : 1 ≡ end_of (x ∷ xs) + 1 = omega (arith, end-cons_yes x xs hit) in
    pieces-cons_yes x xs hit ∙ ap (λ (n : ℕ). take n (x ∷ xs) ∷ pieces xs) one ∙ ap (λ (n : ℕ). take (line_size (x ∷ xs)) (x ∷ xs) ∷ pieces (drop n (x ∷ xs))) here

-- an input's first piece goes to the end of its first line
pub pieces_first : (x : ℕ) (xs : List ℕ) → pieces (x ∷ xs) ≡ take (line_size (x ∷ xs)) (x ∷ xs) ∷ pieces (after_line (x ∷ xs))
pieces_first x [] =
    let by : (b : Bool) → is_newline x ≡ b → pieces (x ∷ []) ≡ take (line_size (x ∷ [])) (x ∷ []) ∷ pieces (after_line (x ∷ [])) = elim [
      | true ↦ λ hit. newline_first x [] hit
      | false ↦ λ miss.
          let one : 1 ≡ line_size (x ∷ []) = omega (arith, line_size_is (x ∷ []), end-cons_no x [] miss) in
          let two : 2 ≡ end_of (x ∷ []) + 1 = omega (arith, end-cons_no x [] miss) in
          pieces-cons_no x [] miss ∙ ap (onto_first x) pieces-nil ∙ ap (λ (n : ℕ). take n (x ∷ []) ∷ []) one
          ∙ ap (λ (l : List (List ℕ)). take (line_size (x ∷ [])) (x ∷ []) ∷ l) (sym pieces-nil) ∙ ap (λ (n : ℕ). take (line_size (x ∷ [])) (x ∷ []) ∷ pieces (drop n (x ∷ []))) two
    ] in
    by (is_newline x) refl
pieces_first x (y ∷ ys) =
    let xs : List ℕ = y ∷ ys in
    let by : (b : Bool) → is_newline x ≡ b → pieces (x ∷ y ∷ ys) ≡ take (line_size (x ∷ y ∷ ys)) (x ∷ y ∷ ys) ∷ pieces (after_line (x ∷ y ∷ ys)) = elim [
      | true ↦ λ hit. newline_first x (y ∷ ys) hit
      | false ↦ λ miss.
          let ends : end_of (x ∷ y ∷ ys) ≡ end_of (y ∷ ys) + 1 = end-cons_no x (y ∷ ys) miss in
          let size : suc (line_size (y ∷ ys)) ≡ line_size (x ∷ y ∷ ys) = omega (arith, line_size_is (y ∷ ys), line_size_is (x ∷ y ∷ ys), ends) in
          let next : suc (end_of (y ∷ ys) + 1) ≡ end_of (x ∷ y ∷ ys) + 1 = omega (arith, ends) in
          pieces-cons_no x (y ∷ ys) miss ∙ ap (onto_first x) (pieces_first y ys)
          ∙ ap (λ (n : ℕ). take n (x ∷ y ∷ ys) ∷ pieces (after_line (y ∷ ys))) size
          ∙ ap (λ (n : ℕ). take (line_size (x ∷ y ∷ ys)) (x ∷ y ∷ ys) ∷ pieces (drop n (x ∷ y ∷ ys))) next
    ] in
    by (is_newline x) refl

pub first_of_piece : (input : List ℕ) → first_line (take (line_size input) input) ≡ first_line input
first_of_piece input =
    let size = line_size input in
    let piece = take size input in
    let is : size ≡ min (end_of input + 1) (length input) = line_size_is input in
    let long : length piece ≡ size = omega (arith, length-take size input, is) in
    let parts = end-append piece (drop size input) in
    let whole_again : end_of (piece ++ drop size input) ≡ end_of input = ap end_of (take-append-drop size input) in
    let same : end_of piece ≡ end_of input = ⊎_elim
    (λ lt. sym (parts.0 lt) ∙ whole_again)
    (λ le. omega (arith, parts.1 le, end-le-length piece, end-le-length input))
    (cases_lt (end_of piece) (length piece)) in
    ap (λ (n : ℕ). take n piece) same ∙ take-take (end_of input) size input (omega (arith, end-le-length input))

-- what a script begins with past the end, by the tests of `next_line`
abbrev chosen_script : ℕ → ℕ → Script → List ℕ → Bool → Bool → Bool → Script
chosen_script lines bytes behind content p q r = cond p (spent lines bytes) (cond q (spent lines bytes_limit) (cond r (too_long behind) (line content behind)))

-- what comes behind a piece of so many bytes
abbrev behind_piece : ℕ → ℕ → ℕ → List ℕ → Script
behind_piece lines bytes size rest = script_from (lines + 1) (bytes + size) (pieces rest)

pub script_first : (lines bytes : ℕ) (x : ℕ) (xs : List ℕ) →
    script_from lines bytes (pieces (x ∷ xs)) ≡ chosen_script lines bytes (behind_piece lines bytes (line_size (x ∷ xs)) (after_line (x ∷ xs))) (first_line (x ∷ xs)) (lines_are_spent lines) (bytes_are_spent bytes (x ∷ xs)) (is_long (x ∷ xs))
unfolding script_from
script_first lines bytes x xs =
    let input : List ℕ = x ∷ xs in
    let piece : List ℕ = take (line_size (x ∷ xs)) (x ∷ xs) in
    let size : length piece ≡ line_size (x ∷ xs) = omega (arith, length-take (line_size (x ∷ xs)) (x ∷ xs), line_size_is (x ∷ xs)) in
    let shown : ℕ → List ℕ → Script = λ n content.
    chosen_script lines bytes (behind_piece lines bytes n (after_line (x ∷ xs))) content (lines_are_spent lines) (nat_lt bytes_limit (bytes + n)) (nat_lt line_limit (length content)) in
    ap (script_from lines bytes) (pieces_first x xs) ∙ ap (λ (n : ℕ). shown n (first_line piece)) size ∙ ap (shown (line_size (x ∷ xs))) (first_of_piece (x ∷ xs))

at_end_is : (lines bytes : ℕ) → next_line lines bytes [] ≡ nothing
unfolding next_line
at_end_is lines bytes = refl

script_at_end : (lines bytes : ℕ) → script_from lines bytes (pieces []) ≡ at_end
unfolding script_from pieces
script_at_end lines bytes = refl

-- the script that is then before a reader
before_it : (new : Reader) (left : Option (List ℕ)) (rest : List ℕ) (lines bytes : ℕ) → to_come new.unread left ≡ Some rest → new.lines ≡ lines → new.bytes ≡ bytes → script_before new left ≡ Some (script_from lines bytes (pieces rest))
before_it new left rest lines bytes comes l b =
    ap (option_map (λ (input : List ℕ). script_from new.lines new.bytes (pieces input))) comes ∙ ap (λ (n : ℕ). Some (script_from n new.bytes (pieces rest))) l ∙ ap (λ (n : ℕ). Some (script_from lines n (pieces rest))) b

-- a script that stands at a limit
at_line_limit : (lines bytes : ℕ) (input : List ℕ) → 0 < length input → lines ≡ lines_limit → script_from lines bytes (pieces input) ≡ spent lines bytes
at_line_limit lines bytes [] some is = absurd (omega arith)
at_line_limit lines bytes (x ∷ xs) some is =
    script_first lines bytes x xs
    ∙ ap (λ (p : Bool). chosen_script lines bytes (behind_piece lines bytes (line_size (x ∷ xs)) (after_line (x ∷ xs))) (first_line (x ∷ xs)) p (bytes_are_spent bytes (x ∷ xs)) (is_long (x ∷ xs))) (eq-eqb lines lines_limit is)

at_byte_limit : (lines bytes : ℕ) (input : List ℕ) → 0 < length input → (lines ≡ lines_limit → ⊥) → bytes_limit < bytes + line_size input → script_from lines bytes (pieces input) ≡ spent lines bytes_limit
at_byte_limit lines bytes [] some below over = absurd (omega arith)
at_byte_limit lines bytes (x ∷ xs) some below over =
    script_first lines bytes x xs
    ∙ ap (λ (p : Bool). chosen_script lines bytes (behind_piece lines bytes (line_size (x ∷ xs)) (after_line (x ∷ xs))) (first_line (x ∷ xs)) p (bytes_are_spent bytes (x ∷ xs)) (is_long (x ∷ xs))) (ne_eqb lines lines_limit below)
    ∙ ap (λ (q : Bool). chosen_script lines bytes (behind_piece lines bytes (line_size (x ∷ xs)) (after_line (x ∷ xs))) (first_line (x ∷ xs)) false q (is_long (x ∷ xs))) (lt-ltb bytes_limit (bytes + line_size (x ∷ xs)) over)

-- so a reader that is spent stays so
module _ (old new : Reader) (input : List ℕ) (left : Option (List ℕ)) where
  stays_at_lines : 0 < length input → old.lines ≡ lines_limit → new.lines ≡ old.lines → AtLimit old new old.bytes input left → script_before new left ≡ Some (spent old.lines old.bytes)
  stays_at_lines some is same at =
      let rest = drop (old.bytes - old.bytes) input in
      let more : 0 < length (drop (old.bytes - old.bytes) input) = omega (arith, length-drop (old.bytes - old.bytes) input) in
      before_it new left rest old.lines old.bytes at.comes same at.bytes ∙ ap Some (at_line_limit old.lines old.bytes rest more is)

  stays_at_bytes : old.bytes ≤ bytes_limit → (old.lines ≡ lines_limit → ⊥) → bytes_limit < old.bytes + line_size input → new.lines ≡ old.lines → AtLimit old new bytes_limit input left → script_before new left ≡ Some (spent old.lines bytes_limit)
  stays_at_bytes fits below over same at =
      let rest = drop (bytes_limit - old.bytes) input in
      let more : 0 < length (drop (bytes_limit - old.bytes) input) = omega (arith, length-drop (bytes_limit - old.bytes) input, line_size_is input) in
      let beyond : bytes_limit < bytes_limit + line_size (drop (bytes_limit - old.bytes) input) = omega (arith, line_size_is (drop (bytes_limit - old.bytes) input)) in
      before_it new left rest old.lines bytes_limit at.comes same at.bytes ∙ ap Some (at_byte_limit old.lines bytes_limit rest more below beyond)

-- an answer to what comes first is an answer to what the script begins with, by the tests
module _ (end : LineEnd) (old new : Reader) (input : List ℕ) (left : Option (List ℕ)) (counted : new.lines ≡ old.lines + lines_given (Ok end)) where
  abbrev behind_it : Script
  behind_it = behind_piece old.lines old.bytes (line_size input) (after_line input)

  went_on : lines_given (Ok end) ≡ 1 → OneOn old new input (after_line input) left → script_before new left ≡ Some behind_it
  went_on one on = before_it new left (after_line input) (old.lines + 1) (old.bytes + line_size input) on.comes (counted ∙ ap (λ (n : ℕ). old.lines + n) one) on.bytes

  stayed : lines_given (Ok end) ≡ 0 → new.lines ≡ old.lines
  stayed none = omega (arith, counted, none)

  turn_by : old.bytes ≤ bytes_limit → 0 < length input → (p q r : Bool) → lines_are_spent old.lines ≡ p → bytes_are_spent old.bytes input ≡ q
      → IsAnswer (chosen old.lines old.bytes input p q r) end old new input left → IsTurn (chosen_script old.lines old.bytes behind_it (first_line input) p q r) end new left
  turn_by fits some true q r a b right = (right.0, stays_at_lines old new input left some (eqb-true old.lines lines_limit a) (stayed (ap (λ (e : LineEnd). lines_given (Ok e)) right.0)) right.1)
  turn_by fits some false true r a b right = (
    right.0,
    stays_at_bytes old new input left fits (eqb-false old.lines lines_limit a) (ltb-true bytes_limit (old.bytes + line_size input) b) (stayed (ap (λ (e : LineEnd). lines_given (Ok e)) right.0)) right.1,
  )
  turn_by fits some false false true a b right = (right.0, went_on (ap (λ (e : LineEnd). lines_given (Ok e)) right.0) right.1)
  turn_by fits some false false false a b right = (right.0, right.1, went_on (ap (λ (e : LineEnd). lines_given (Ok e)) right.0) right.2)

turn_of : (end : LineEnd) (old new : Reader) (input : List ℕ) (left : Option (List ℕ)) → old.bytes ≤ bytes_limit → new.lines ≡ old.lines + lines_given (Ok end) → IsAnswer (next_line old.lines old.bytes input) end old new input left
    → IsTurn (script_from old.lines old.bytes (pieces input)) end new left
turn_of end old new [] left fits counted right =
    let r : IsAnswer nothing end old new [] left = subst (λ (t : Taken). IsAnswer t end old new [] left) (at_end_is old.lines old.bytes) right in
    let t : IsTurn at_end end new left = (r.0, before_it new left [] new.lines new.bytes r.1 refl refl ∙ ap Some (script_at_end new.lines new.bytes)) in
    subst (λ (s : Script). IsTurn s end new left) (sym (script_at_end old.lines old.bytes)) t
turn_of end old new (x ∷ xs) left fits counted right =
    let r = subst (λ (t : Taken). IsAnswer t end old new (x ∷ xs) left) (some_left old.lines old.bytes (x ∷ xs) (omega arith)) right in
    let t = turn_by end old new (x ∷ xs) left counted fits (omega arith) (lines_are_spent old.lines) (bytes_are_spent old.bytes (x ∷ xs)) (is_long (x ∷ xs)) refl refl r in
    subst (λ (s : Script). IsTurn s end new left) (sym (script_first old.lines old.bytes x xs)) t

-- so a reader that answers what comes first reads the script
pub turns : (end : LineEnd) (old new : Reader) (left left' : Option (List ℕ)) → old.bytes ≤ bytes_limit → new.lines ≡ old.lines + lines_given (Ok end)
    → ((input : List ℕ) → to_come old.unread left ≡ Some input → IsAnswer (next_line old.lines old.bytes input) end old new input left')
    → (script : Script) → script_before old left ≡ Some script → IsTurn script end new left'
turns end old new None left' fits counted told script is = absurd (none-some script is)
turns end old new (Some rest) left' fits counted told script is =
    let input = old.unread ++ rest in
    let begins = same_Some (script_from old.lines old.bytes (pieces (old.unread ++ rest))) script is in
    subst (λ (s : Script). IsTurn s end new left') begins (turn_of end old new (old.unread ++ rest) left' fits counted (told (old.unread ++ rest) refl))
