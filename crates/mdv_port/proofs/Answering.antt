-- Which answer is the one to what comes first in an input.
use Rattle.std.proofs.Common.{◌≡◌, ◌≤◌, ◌<◌, ◌+◌, ◌-◌, ℕ, zero, suc, Bool, true, false, cond, List, [], ◌∷◌, length, drop, nat_eq, nat_lt, Option, Some, None, IfSome, refl, sym, ap, subst, ◌∙◌, arith}
use Rattle.std.proofs.lemmas.Bool.{eq-eqb, ne_eqb, lt-ltb, le-ltb}
use Rattle.std.proofs.lemmas.List.{nil_from_length, take_all}
use Rattle.mdv_port.specs.Lines.{line_limit, lines_limit, bytes_limit, Taken, nothing, no_more, passed, whole, next_line, first_line, after_line, line_size}
use Rattle.mdv_port.specs.declared.reader.LineEnd.{LineEnd}
use Rattle.mdv_port.specs.declared.reader.LineEnd.TheVariants.{Line, TooLong, End, Spent}
use Rattle.mdv_port.specs.declared.cut.Cut.{Cut}
use Rattle.mdv_port.specs.Reader.{Reader, to_come, IsAnswer, OneOn}
use Rattle.mdv_port.specs.Cut.{CutsOff, IsCut, IsOver, cut_size}

-- the tests of `next_line`
abbrev pub lines_are_spent : ℕ → Bool
lines_are_spent lines = nat_eq lines lines_limit

abbrev pub bytes_are_spent : ℕ → List ℕ → Bool
bytes_are_spent bytes input = nat_lt bytes_limit (bytes + line_size input)

abbrev pub is_long : List ℕ → Bool
is_long input = nat_lt line_limit (length (first_line input))

-- what it gives past the end, by their answers
abbrev pub chosen : ℕ → ℕ → List ℕ → Bool → Bool → Bool → Taken
chosen lines bytes input p q r =
    cond p (no_more lines bytes) (cond q (no_more lines bytes_limit) (cond r (passed (after_line input)) (whole (first_line input) (after_line input))))

pub some_left : (lines bytes : ℕ) (input : List ℕ) → 0 < length input
    → next_line lines bytes input ≡ chosen lines bytes input (lines_are_spent lines) (bytes_are_spent bytes input) (is_long input)
unfolding next_line
some_left lines bytes [] some = absurd (omega arith)
some_left lines bytes (b ∷ more) some = refl

none_left : (lines bytes : ℕ) (input : List ℕ) → length input ≡ 0 → next_line lines bytes input ≡ nothing
unfolding next_line
none_left lines bytes [] none = refl
none_left lines bytes (b ∷ more) none = absurd (omega arith)

by_tests : (lines bytes : ℕ) (input : List ℕ) → 0 < length input → (p q r : Bool) → lines_are_spent lines ≡ p → bytes_are_spent bytes input ≡ q → is_long input ≡ r
    → next_line lines bytes input ≡ chosen lines bytes input p q r
by_tests lines bytes input some p q r a b c =
    some_left lines bytes input some
    ∙ ap (λ (p : Bool). chosen lines bytes input p (bytes_are_spent bytes input) (is_long input)) a
    ∙ ap (λ (q : Bool). chosen lines bytes input p q (is_long input)) b
    ∙ ap (λ (r : Bool). chosen lines bytes input p q r) c

zero_of : (n : ℕ) → (0 < n → ⊥) → n ≡ 0
zero_of zero none = refl
zero_of (suc n) none = absurd (none (omega arith))

-- the answers of a reader, by what a cut gave
module _ (old new : Reader) (input : List ℕ) (left : Option (List ℕ)) where
  abbrev Right : LineEnd → Type 0
  Right end = IsAnswer (next_line old.lines old.bytes input) end old new input left

  answered : (what : Taken) (end : LineEnd) → next_line old.lines old.bytes input ≡ what → IsAnswer what end old new input left → Right end
  answered what end is right = subst (λ (t : Taken). IsAnswer t end old new input left) (sym is) right

  pub answers_end : (0 < length input → ⊥) → to_come new.unread left ≡ Some input → Right End
  answers_end none comes =
      let empty : length input ≡ 0 = zero_of (length input) none in
      answered nothing End (none_left old.lines old.bytes input empty) (refl, comes ∙ ap Some (nil_from_length input empty))

  pub answers_lines : 0 < length input → old.lines ≡ lines_limit → new.bytes ≡ old.bytes → to_come new.unread left ≡ Some input → Right (Spent old.lines old.bytes)
  answers_lines some is same comes =
      let none : 0 ≡ old.bytes - old.bytes = omega arith in
      let taken = by_tests old.lines old.bytes input some true (bytes_are_spent old.bytes input) (is_long input) (eq-eqb old.lines lines_limit is) refl refl in
      answered (no_more old.lines old.bytes) (Spent old.lines old.bytes) taken
      (refl, record { comes = comes ∙ ap (λ (n : ℕ). Some (drop n input)) none; bytes = same })

  module _ (some : 0 < length input) (below : old.lines ≡ lines_limit → ⊥) where
    pub answers_bytes : (room : ℕ) → room ≡ bytes_limit - old.bytes → old.bytes ≤ bytes_limit → new.bytes ≡ bytes_limit → IsOver room input (to_come new.unread left)
        → Right (Spent old.lines bytes_limit)
    answers_bytes room is le same over =
        let spent = lt-ltb bytes_limit (old.bytes + line_size input) (omega (arith, over.over)) in
        let taken = by_tests old.lines old.bytes input some false true (is_long input) (ne_eqb old.lines lines_limit below) spent refl in
        answered (no_more old.lines bytes_limit) (Spent old.lines bytes_limit) taken
        (refl, record { comes = over.rest ∙ ap (λ (n : ℕ). Some (drop n input)) is; bytes = same })

    module _ (cut : Cut) (fits : old.bytes + cut_size cut ≤ bytes_limit) (same : new.bytes ≡ old.bytes + cut_size cut) where
      taken_as : (r : Bool) → is_long input ≡ r → cut_size cut ≡ line_size input → next_line old.lines old.bytes input ≡ chosen old.lines old.bytes input false false r
      taken_as r is size =
          by_tests old.lines old.bytes input some false false r (ne_eqb old.lines lines_limit below) (le-ltb bytes_limit (old.bytes + line_size input) (omega (arith, size))) is

      on_by : (rest : List ℕ) → to_come new.unread left ≡ Some rest → cut_size cut ≡ line_size input → OneOn old new input rest left
      on_by rest comes size = record { comes = comes; bytes = same ∙ ap (λ (n : ℕ). old.bytes + n) size }

      pub answers_long : (line : List ℕ) → line_limit < cut.length → IsCut [] input cut line (to_come new.unread left) → Right TooLong
      answers_long line long is =
          let taken = taken_as true (lt-ltb line_limit (length (first_line input)) (omega (arith, is.content))) is.size in
          answered (passed (after_line input)) TooLong taken (refl, on_by (after_line input) is.rest is.size)

      pub answers_whole : cut.length ≤ line_limit → IsCut [] input cut new.line (to_come new.unread left) → Right Line
      answers_whole short is =
          let taken = taken_as false (le-ltb line_limit (length (first_line input)) (omega (arith, is.content))) is.size in
          let kept = is.kept ∙ take_all line_limit (first_line input) (omega (arith, is.content)) in
          answered (whole (first_line input) (after_line input)) Line taken (refl, kept, on_by (after_line input) is.rest is.size)

-- what a cut says, by its variant
pub at_none : (room : ℕ) (input : List ℕ) (cut : Option Cut) (line : List ℕ) (comes : Option (List ℕ)) → cut ≡ None → CutsOff room [] input cut line comes → IsOver room input comes
at_none room input cut line comes is cuts = subst (λ (o : Option Cut). CutsOff room [] input o line comes) is cuts

pub at_some : (room : ℕ) (input : List ℕ) (cut : Option Cut) (c : Cut) (line : List ℕ) (comes : Option (List ℕ)) → cut ≡ Some c → CutsOff room [] input cut line comes → IsCut [] input c line comes
at_some room input cut c line comes is cuts = subst (λ (o : Option Cut). CutsOff room [] input o line comes) is cuts

pub room_of : (room : ℕ) (cut : Option Cut) (c : Cut) → cut ≡ Some c → IfSome cut (λ c. cut_size c ≤ room) → cut_size c ≤ room
room_of room cut c is within = subst (λ (o : Option Cut). IfSome o (λ c. cut_size c ≤ room)) is within
