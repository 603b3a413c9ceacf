-- Texts without a newline, and how a text is cut behind one.
use Rattle.std.proofs.Common.{◌≡◌, ℕ, zero, suc, Bool, true, false, cond, not, ◌&&◌, ◌==◌, List, [], ◌∷◌, ◌++◌, take, refl, ◌∙◌, ap}
use Rattle.std.specs.List.{onto_first}
use Rattle.std.proofs.lemmas.List.Folds.{list_all-append}
use Rattle.mdv_port.specs.Script.{pieces}
use Rattle.mdv_status.specs.Telling.{lacks}

both : (x y : Bool) → x && y ≡ true → (x ≡ true) × (y ≡ true)
both true y is = (refl, is)
both false y is = absurd (cc (is))

-- a byte that is no newline before a text that has none
pub record Clean (b : ℕ) (bs : List ℕ) : Type 0 where
  pub other : (b == 10) ≡ false
  pub rest : lacks 10 bs ≡ true

pub clean : (b : ℕ) (bs : List ℕ) → lacks 10 (b ∷ bs) ≡ true → Clean b bs
clean b bs is = let parts = both (not (b == 10)) (lacks 10 bs) is in record { other = by (b == 10) parts.0; rest = parts.1 } where
  by : (x : Bool) → not x ≡ true → x ≡ false
  by true is = absurd (cc (is))
  by false is = refl

pub lacks_one : (b : ℕ) (bs : List ℕ) → (b == 10) ≡ false → lacks 10 bs ≡ true → lacks 10 (b ∷ bs) ≡ true
lacks_one b bs other rest = ap (λ (x : Bool). not x && lacks 10 bs) other ∙ rest

pub lacks_append : (a b : List ℕ) → lacks 10 a ≡ true → lacks 10 b ≡ true → lacks 10 (a ++ b) ≡ true
lacks_append a b one other = list_all-append (λ (x : ℕ). not (x == 10)) a b ∙ ap (λ (x : Bool). x && lacks 10 b) one ∙ other

pub lacks_take : (count : ℕ) (bs : List ℕ) → lacks 10 bs ≡ true → lacks 10 (take count bs) ≡ true
lacks_take zero bs is = refl
lacks_take (suc count) [] is = refl
lacks_take (suc count) (b ∷ bs) is = let first = clean b bs is in lacks_one b (take count bs) first.other (lacks_take count bs first.rest)

pub has_newline : (text : List ℕ) → lacks 10 (text ++ 10 ∷ []) ≡ false
has_newline text = list_all-append (λ (x : ℕ). not (x == 10)) text (10 ∷ []) ∙ by (lacks 10 text) where
  by : (x : Bool) → x && false ≡ false
  by true = refl
  by false = refl

onto_other : (b : ℕ) (bs : List ℕ) → (b == 10) ≡ false → pieces (b ∷ bs) ≡ onto_first b (pieces bs)
unfolding pieces
onto_other b bs other = ap (λ (x : Bool). cond x ((b ∷ []) ∷ pieces bs) (onto_first b (pieces bs))) other

pub pieces_none : pieces [] ≡ []
unfolding pieces
pieces_none = refl

at_newline : (bs : List ℕ) → pieces (10 ∷ bs) ≡ (10 ∷ []) ∷ pieces bs
unfolding pieces
at_newline bs = refl

-- a line, and what is behind it
pub pieces_line : (text rest : List ℕ) → lacks 10 text ≡ true → pieces (text ++ 10 ∷ rest) ≡ (text ++ 10 ∷ []) ∷ pieces rest
pieces_line [] rest is = at_newline rest
pieces_line (b ∷ bs) rest is = let first = clean b bs is in onto_other b (bs ++ 10 ∷ rest) first.other ∙ ap (onto_first b) (pieces_line bs rest first.rest)

-- bytes without a newline are one piece
pub pieces_front : (b : ℕ) (bs : List ℕ) → lacks 10 (b ∷ bs) ≡ true → pieces (b ∷ bs) ≡ (b ∷ bs) ∷ []
pieces_front b [] is = onto_other b [] (clean b [] is).other ∙ ap (onto_first b) pieces_none
pieces_front b (x ∷ bs) is = let first = clean b (x ∷ bs) is in onto_other b (x ∷ bs) first.other ∙ ap (onto_first b) (pieces_front x bs first.rest)
