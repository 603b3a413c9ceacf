-- One more word of a line.
use Rattle.std.proofs.Common.{◌≡◌, ◌≤◌, ◌+◌, ◌-◌, ℕ, sym, ◌∙◌, ap, subst, List, [], ◌∷◌, ◌++◌, length, map, take, drop, append_assoc, length-append, arith}
use Rattle.std.proofs.Math.Seq.{take-append_seam, drop-append_seam}
use Rattle.std.proofs.lemmas.List.{map-append}
use Rattle.std.specs.Prelude.{slice_range}
use Rattle.mdv_text.specs.declared.token.Token.{Token}
use Rattle.mdv_text.specs.Words.{words, IsFirstWord}
use Rattle.mdv_text.specs.Token.{token_text, LieInOrder}

pub record SplitSoFar (line rest : List ℕ) (tokens : List Token) : Type 0 where
  pub front : List ℕ
  pub place : line ≡ front ++ rest
  pub texts : map (token_text line) tokens ++ words rest ≡ words line
  pub order : LieInOrder 0 tokens (length front)

LieInOrder-push : (first last : ℕ) (ts : List Token) (t : Token) → LieInOrder first ts last → last ≤ t.start → t.start ≤ t.end → LieInOrder first (ts ++ t ∷ []) t.end
LieInOrder-push first last [] t order next some = (omega arith, some, omega arith)
LieInOrder-push first last (u ∷ ts) t order next some = (order.0, order.1, LieInOrder-push u.end last ts t order.2 next some)

pub LieInOrder-wider : (first last limit : ℕ) (ts : List Token) → LieInOrder first ts last → last ≤ limit → LieInOrder first ts limit
LieInOrder-wider first last limit [] order more = omega arith
LieInOrder-wider first last limit (u ∷ ts) order more = (order.0, order.1, LieInOrder-wider u.end last limit ts order.2 more)

-- a part of a list, by what stands in front of it and behind it
range-middle : (p w r : List ℕ) (from to : ℕ) → from ≡ length p → to ≡ length p + length w → slice_range (p ++ (w ++ r)) from to ≡ w
range-middle p w r from to start end =
    let size : to - from ≡ length w = omega arith in
    let behind : drop from (p ++ (w ++ r)) ≡ w ++ r = ap (λ (n : ℕ). drop n (p ++ (w ++ r))) start ∙ drop-append_seam p (w ++ r) in
    ap (λ (n : ℕ). take n (drop from (p ++ (w ++ r)))) size ∙ ap (take (length w)) behind ∙ take-append_seam w r

pub split_more :
    (line rest word behind : List ℕ) (ts : List Token) (t : Token) →
    SplitSoFar line rest ts → IsFirstWord rest word behind → t.end ≡ length line - length behind → t.start ≡ t.end - length word → SplitSoFar line behind (ts ++ t ∷ [])
split_more line rest word behind ts t far next end start =
    let p = far.front ++ next.front in
    let whole : line ≡ p ++ (word ++ behind) = far.place ∙ ap (λ (r : List ℕ). far.front ++ r) next.place ∙ sym (append_assoc far.front next.front (word ++ behind)) in
    let sizes : length line ≡ length p + (length word + length behind) = ap length whole ∙ length-append p (word ++ behind) ∙ ap (λ (n : ℕ). length p + n) (length-append word behind) in
    let first : t.start ≡ length p = omega (arith, sizes, end, start) in
    let last : t.end ≡ length p + length word = omega (arith, sizes, end) in
    let text : token_text line t ≡ word = ap (λ (l : List ℕ). slice_range l t.start t.end) whole ∙ range-middle p word behind t.start t.end first last in
    record {
      front = p ++ word;
      place = whole ∙ sym (append_assoc p word behind);
      texts =
          ap (λ (l : List (List ℕ)). l ++ words behind) (map-append (token_text line) ts (t ∷ [])) ∙ append_assoc (map (token_text line) ts) (token_text line t ∷ []) (words behind)
          ∙ ap (λ (w : List ℕ). map (token_text line) ts ++ w ∷ words behind) text ∙ ap (λ (l : List (List ℕ)). map (token_text line) ts ++ l) (sym next.words) ∙ far.texts;
      order = subst (λ (n : ℕ). LieInOrder 0 (ts ++ t ∷ []) n) (omega (arith, last, length-append p word)) (LieInOrder-push 0 (length far.front) ts t far.order (omega (arith, first, length-append far.front next.front)) (omega (arith, first, last)));
    }

pub split_order : (line rest : List ℕ) (ts : List Token) → SplitSoFar line rest ts → LieInOrder 0 ts (length line)
split_order line rest ts far = LieInOrder-wider 0 (length far.front) (length line) ts far.order (omega (arith, ap length far.place, length-append far.front rest))
