-- Cutting the first line off in pieces.
use Rattle.std.proofs.Common.{◌≡◌, ◌≤◌, ◌<◌, ◌+◌, ◌-◌, ℕ, zero, suc, Bool, true, false, cond, List, [], ◌∷◌, ◌++◌, length, take, drop, min, Option, Some, None, refl, sym, ap, ◌∙◌, arith, ⊎_elim}
use Rattle.std.proofs.lemmas.List.{length-take, length-drop, length-append, drop-drop, drop_all, take-append-le, drop-append-le, take_min, length-take-le}
use Rattle.std.proofs.Math.Seq.{take-add, take-append-add}
use Rattle.std.proofs.Math.Nat.{min_comm}
use Rattle.std.proofs.lemmas.Option.{none-some, same_Some}
use Rattle.std.proofs.lemmas.Bool.{cases_lt}
use Rattle.std.proofs.lemmas.Slice.{take-put_mid}
use borrow.Rule.Slice.PartMut.{put_mid}
use Rattle.mdv_port.specs.Lines.{line_limit, first_line, after_line}
use Rattle.mdv_port.specs.declared.cut.Cut.{Cut}
use Rattle.mdv_port.specs.Reader.{to_come}
use Rattle.mdv_port.specs.Cut.{IsCut, IsOver, cut_size}
use Rattle.mdv_port.proofs.Firsts.{end_of, end-le-length, length-first_line, end-drop, end-append}

-- so many bytes of the first line were cut off, and no newline
pub record SoFar (input : List ℕ) (n : ℕ) (line : List ℕ) (comes : Option (List ℕ)) : Type 0 where
  pub clean : n ≤ end_of input
  pub kept : line ≡ take line_limit (take n input)
  pub rest : comes ≡ Some (drop n input)

-- to keep the front of a front is to keep the front
pub take-append-take : (m : ℕ) (xs ys : List ℕ) → take m (take m xs ++ ys) ≡ take m (xs ++ ys)
take-append-take zero xs ys = refl
take-append-take (suc m) [] ys = refl
take-append-take (suc m) (x ∷ xs) ys = ap (λ (l : List ℕ). x ∷ l) (take-append-take m xs ys)

-- a buffer of `most` bytes that holds `held` takes what fits of a piece
pub fills : (most : ℕ) (held piece : List ℕ) → length held ≤ most → held ++ take (min (length piece) (most - length held)) piece ≡ take most (held ++ piece)
fills most held piece fits =
    let front : take (min (length piece) (most - length held)) piece ≡ take (most - length held) piece =
    ap (λ n. take n piece) (min_comm (length piece) (most - length held)) ∙ take_min (most - length held) piece in
    ap (λ (l : List ℕ). held ++ l) front ∙ sym (take-append-add held piece (most - length held)) ∙ ap (λ n. take n (held ++ piece)) (omega arith)

-- the same, as the bytes of the buffer are written
pub written : (most at count : ℕ) (bytes piece copied : List ℕ) → length bytes ≡ most → at ≤ most → count ≡ min (length piece) (most - at) → copied ≡ take count piece → take (at + count) (put_mid at (at + count - at) bytes copied) ≡ take most (take at bytes ++ piece)
written most at count bytes piece copied whole within fits is =
    let held : length (take at bytes) ≡ at = length-take-le at bytes (omega arith) in
    let size : length copied ≡ count = omega (arith, ap length is, length-take count piece) in
    let now : take (at + count) (put_mid at (at + count - at) bytes copied) ≡ take at bytes ++ copied =
    take-put_mid at (at + count - at) bytes copied (at + count) (omega arith) (omega arith) in
    let same : copied ≡ take (min (length piece) (most - length (take at bytes))) piece =
    is ∙ ap (λ n. take n piece) (fits ∙ ap (λ n. min (length piece) (most - n)) (sym held)) in
    now ∙ ap (λ (l : List ℕ). take at bytes ++ l) same ∙ fills most (take at bytes) piece (omega arith)

-- how many bytes a cut took, by its newline
size_with : (cut : Cut) → cut.newline ≡ true → cut_size cut ≡ cut.length + 1
size_with cut e = ap (λ (b : Bool). cut.length + cond b 1 0) e

size_without : (cut : Cut) → cut.newline ≡ false → cut_size cut ≡ cut.length
size_without cut e = omega (arith, ap (λ (b : Bool). cut.length + cond b 1 0) e)

-- at the start nothing was cut off
pub starts : (input : List ℕ) (line : List ℕ) (comes : Option (List ℕ)) → line ≡ [] → comes ≡ Some input → SoFar input 0 line comes
starts input line comes empty e = record { clean = omega arith; kept = empty; rest = e }

module _ (input u rest : List ℕ) (n : ℕ) (clean : n ≤ end_of input) (is : drop n input ≡ u ++ rest) where
  -- the input's length and its first newline, by the parts
  sizes : (length input ≡ n + (length u + length rest)) × (end_of input ≡ n + end_of (u ++ rest))
  sizes = (
    omega (arith, end-le-length input, length-drop n input, ap length is, length-append u rest),
    omega (arith, end-drop n input clean, ap end_of is),
  )

  -- n bytes and then the first ones of the chunk
  front : (k : ℕ) → k ≤ length u → take (n + k) input ≡ take n input ++ take k u
  front k le = take-add n k input ∙ ap (λ (l : List ℕ). take n input ++ take k l) is ∙ ap (λ (l : List ℕ). take n input ++ l) (take-append-le k u rest le)

  behind : (k : ℕ) → k ≤ length u → drop (n + k) input ≡ drop k u ++ rest
  behind k le = sym (drop-drop k n input) ∙ ap (drop k) is ∙ drop-append-le k u rest le

-- a piece without a newline is the whole chunk
pub goes_on : (input u : List ℕ) (left : Option (List ℕ)) (new line : List ℕ) (n : ℕ) (line' : List ℕ) (piece : Cut) → SoFar input n line (to_come u left) → IsCut line u piece line' (Some new) → piece.newline ≡ false → SoFar input (n + piece.length) line' (to_come new left)
goes_on input u None new line n line' piece so cut none = absurd (none-some (drop n input) so.rest)
goes_on input u (Some rest) new line n line' piece so cut none =
    let is : drop n input ≡ u ++ rest = sym (same_Some (u ++ rest) (drop n input) so.rest) in
    let e : piece.length ≡ end_of u = cut.content ∙ length-first_line u in
    let all : length u ≤ end_of u = omega (arith, size_without piece none, cut.size, length-first_line u) in
    let s = sizes input u rest n so.clean is in
    let longer : end_of (u ++ rest) ≡ length u + end_of rest = (end-append u rest).1 all in
    let within : end_of u ≤ length u = end-le-length u in
    let gone : new ≡ drop (end_of u) u = same_Some new (after_line u) cut.rest ∙ drop_all (end_of u + 1) u (omega arith) ∙ sym (drop_all (end_of u) u all) in
    record {
      clean = omega (arith, s.1);
      kept =
          cut.kept ∙ ap (λ (l : List ℕ). take line_limit (l ++ first_line u)) so.kept ∙ take-append-take line_limit (take n input) (first_line u)
          ∙ ap (take line_limit) (sym (front input u rest n so.clean is (end_of u) within)) ∙ ap (λ (k : ℕ). take line_limit (take (n + k) input)) (sym e);
      rest = ap Some (ap (λ (l : List ℕ). l ++ rest) gone ∙ sym (behind input u rest n so.clean is (end_of u) within) ∙ ap (λ (k : ℕ). drop (n + k) input) (sym e));
    }

-- a piece with a newline ends the line
pub cut_here : (input u : List ℕ) (left : Option (List ℕ)) (new line : List ℕ) (n : ℕ) (line' : List ℕ) (piece : Cut) → SoFar input n line (to_come u left) → IsCut line u piece line' (Some new) → piece.newline ≡ true → IsCut [] input (record { length = n + piece.length; newline = true }) line' (to_come new left)
cut_here input u None new line n line' piece so cut one = absurd (none-some (drop n input) so.rest)
cut_here input u (Some rest) new line n line' piece so cut one =
    let is : drop n input ≡ u ++ rest = sym (same_Some (u ++ rest) (drop n input) so.rest) in
    let e : piece.length ≡ end_of u = cut.content ∙ length-first_line u in
    let inside : end_of u < length u = omega (arith, size_with piece one, cut.size, length-first_line u) in
    let s = sizes input u rest n so.clean is in
    let ends : end_of input ≡ n + end_of u = s.1 ∙ ap (λ (k : ℕ). n + k) ((end-append u rest).0 inside) in
    record {
      content = ap (λ (k : ℕ). n + k) e ∙ sym ends ∙ sym (length-first_line input);
      size = omega (arith, s.0, length-first_line input);
      kept =
          cut.kept ∙ ap (λ (l : List ℕ). take line_limit (l ++ first_line u)) so.kept ∙ take-append-take line_limit (take n input) (first_line u)
          ∙ ap (take line_limit) (sym (front input u rest n so.clean is (end_of u) (omega arith))) ∙ ap (λ (k : ℕ). take line_limit (take k input)) (sym ends);
      rest = ap Some (
          ap (λ (l : List ℕ). l ++ rest) (same_Some new (after_line u) cut.rest) ∙ sym (behind input u rest n so.clean is (end_of u + 1) (omega arith))
          ∙ ap (λ (k : ℕ). drop k input) (omega arith)
          );
    }

-- a piece that takes more than what is left of the room
pub over_here : (input u : List ℕ) (left : Option (List ℕ)) (new line : List ℕ) (n room : ℕ) → n ≤ room → SoFar input n line (to_come u left) → IsOver (room - n) u (Some new) → IsOver room input (to_come new left)
over_here input u None new line n room le so over = absurd (none-some (drop n input) so.rest)
over_here input u (Some rest) new line n room le so over =
    let is : drop n input ≡ u ++ rest = sym (same_Some (u ++ rest) (drop n input) so.rest) in
    let s = sizes input u rest n so.clean is in
    let some : room - n < end_of u + 1 = omega (arith, over.over, length-first_line u) in
    let fits : room - n < length u = omega (arith, over.over) in
    let longer = end-append u rest in
    let later : end_of u ≤ end_of (u ++ rest) =
    ⊎_elim (λ lt. omega (arith, longer.0 lt)) (λ le. omega (arith, longer.1 le, end-le-length u)) (cases_lt (end_of u) (length u)) in
    record {
      over = omega (arith, s.0, s.1, length-first_line input);
      rest = ap Some (
          ap (λ (l : List ℕ). l ++ rest) (same_Some new (drop (room - n) u) over.rest) ∙ sym (behind input u rest n so.clean is (room - n) (omega arith))
          ∙ ap (λ (k : ℕ). drop k input) (omega arith)
          );
    }

-- the input is at its end
pub ends_here : (input : List ℕ) (n : ℕ) (line : List ℕ) (comes : Option (List ℕ)) → SoFar input n line comes → (0 < length (drop n input) → ⊥) → IsCut [] input (record { length = n; newline = false }) line comes
ends_here input n line comes so none =
    let all : length input ≤ n = ⊎_elim (λ lt. absurd (none (omega (arith, length-drop n input)))) (λ le. le) (cases_lt n (length input)) in
    let ends : end_of input ≡ n = omega (arith, so.clean, end-le-length input) in
    record {
      content = sym (length-first_line input ∙ ends);
      size = omega (arith, length-first_line input, end-le-length input);
      kept = so.kept ∙ ap (λ (k : ℕ). take line_limit (take k input)) (sym ends);
      rest = so.rest ∙ ap Some (drop_all n input all ∙ sym (drop_all (end_of input + 1) input (omega arith)));
    }

-- taking more of the source changes nothing
pub refilled : (input : List ℕ) (n : ℕ) (line : List ℕ) (before now : Option (List ℕ)) → SoFar input n line before → now ≡ before → SoFar input n line now
refilled input n line before now so same = record { clean = so.clean; kept = so.kept; rest = same ∙ so.rest }
