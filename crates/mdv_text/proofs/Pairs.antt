-- What a text of pairs spells, a pair behind another.
use Rattle.std.proofs.Common.{◌≡◌, ◌<◌, ◌≤◌, ◌+◌, ◌-◌, ◌*◌, ℕ, suc, refl, sym, ◌∙◌, ap, subst, List, [], ◌∷◌, ◌++◌, length, get_or, take, drop, replicate, append_assoc, append-nil, length-append, arith}
use Rattle.std.proofs.Math.ListN.{set}
use Rattle.std.proofs.lemmas.List.{take_all}
use Rattle.std.proofs.Math.Seq.{set-append_seam, append_snoc}
use Rattle.mdv_base.specs.Bytes.{padded_to}
use Rattle.mdv_text.specs.Hex.{IsDigit, IsPair, SpellsBytes, SpellsBlock}

one_digit : (letter m n : ℕ) → IsDigit letter m → IsDigit letter n → m ≡ n
one_digit letter m n first second = grind arith

pub one_pair : (first second m n : ℕ) → IsPair first second m → IsPair first second n → m ≡ n
one_pair first second m n a b = omega (arith, one_digit first a.high b.high a.front b.front, one_digit second a.low b.low a.back b.back)

-- two digits for each byte
pub spelled-length : (t bytes : List ℕ) → SpellsBytes t bytes → length t ≡ 2 * length bytes
spelled-length [] [] spelled = refl
spelled-length (f ∷ s ∷ t) (b ∷ bytes) spelled = omega (arith, spelled-length t bytes spelled.1)
spelled-length t bytes spelled = absurd spelled

one_spelling : (t bytes others : List ℕ) → SpellsBytes t bytes → SpellsBytes t others → bytes ≡ others
one_spelling [] [] [] first second = refl
one_spelling (f ∷ s ∷ t) (b ∷ bytes) (c ∷ others) first second = let byte = one_pair f s b c first.0 second.0 in let rest = one_spelling t bytes others first.1 second.1 in cc
one_spelling [] [] (c ∷ others) first second = absurd second
one_spelling (f ∷ s ∷ t) (b ∷ bytes) [] first second = absurd second
one_spelling t bytes others first second = absurd first

pub one_block : (hex block other : List ℕ) → SpellsBlock hex block → SpellsBlock hex other → block ≡ other
one_block hex block other first second = first.padded ∙ ap (padded_to 512) (one_spelling hex first.bytes second.bytes first.spelled second.spelled) ∙ sym second.padded

spelled-push : (t bytes : List ℕ) (f s b : ℕ) → SpellsBytes t bytes → IsPair f s b → SpellsBytes (t ++ f ∷ s ∷ []) (bytes ++ b ∷ [])
spelled-push [] [] f s b spelled pair = (pair, tt)
spelled-push (g ∷ u ∷ t) (c ∷ bytes) f s b spelled pair = (spelled.0, spelled-push t bytes f s b spelled.1 pair)
spelled-push t bytes f s b spelled pair = absurd spelled

-- what stands behind pairs is spelled too
spelled-rest : (t bytes rest all : List ℕ) → SpellsBytes t bytes → SpellsBytes (t ++ rest) all → (tail : List ℕ) × SpellsBytes rest tail
spelled-rest [] [] rest all spelled whole = (all, whole)
spelled-rest (f ∷ s ∷ t) (b ∷ bytes) rest (c ∷ all) spelled whole = spelled-rest t bytes rest all spelled.1 whole.1
spelled-rest (f ∷ s ∷ t) (b ∷ bytes) rest [] spelled whole = absurd whole
spelled-rest t bytes rest all spelled whole = absurd spelled

first_pair : (f s : ℕ) (t tail : List ℕ) → SpellsBytes (f ∷ s ∷ t) tail → (b : ℕ) × IsPair f s b
first_pair f s t (b ∷ tail) spelled = (b, spelled.0)
first_pair f s t [] spelled = absurd spelled

-- one more byte in place of a zero
padded-push : (size : ℕ) (bytes : List ℕ) (b : ℕ) → length bytes < size → set (padded_to size bytes) (length bytes) b ≡ padded_to size (bytes ++ b ∷ [])
padded-push size bytes b room =
    let left = size - (length bytes + 1) in
    let here : size - length bytes ≡ suc left = omega arith in
    let next : left ≡ size - length (bytes ++ b ∷ []) = omega (arith, length-append bytes (b ∷ [])) in
    ap (λ (n : ℕ). set (bytes ++ replicate n 0) (length bytes) b) here ∙ set-append_seam bytes 0 (replicate left 0) b
    ∙ sym (append_snoc bytes b (replicate left 0)) ∙ ap (λ (n : ℕ). (bytes ++ b ∷ []) ++ replicate n 0) next

-- the pairs read so far, and the block that they give
pub record ReadSoFar (hex rest block : List ℕ) (len : ℕ) : Type 0 where
  pub front : List ℕ
  pub bytes : List ℕ
  pub place : hex ≡ front ++ rest
  pub spelled : SpellsBytes front bytes
  pub count : len ≡ length bytes
  pub padded : block ≡ padded_to 512 bytes

pub far-length : {hex rest block : List ℕ} {len : ℕ} → ReadSoFar hex rest block len → length hex ≡ 2 * len + length rest
far-length {hex} {rest} far = omega (arith, ap length far.place, length-append far.front rest, spelled-length far.front far.bytes far.spelled, far.count)

-- a text of two bytes at least, by them and what is behind
first_two : (rest : List ℕ) → 2 ≤ length rest → rest ≡ get_or rest 0 0 ∷ get_or rest 1 0 ∷ take (length rest - 2) (drop 2 rest)
first_two [] long = absurd (omega arith)
first_two (f ∷ []) long = absurd (omega arith)
first_two (f ∷ s ∷ behind) long = ap (λ (l : List ℕ). f ∷ s ∷ l) (sym (take_all (length (f ∷ s ∷ behind) - 2) behind (omega arith)))

pub read_more :
    (hex rest block : List ℕ) (b len : ℕ) → ReadSoFar hex rest block len → 2 ≤ length rest → IsPair (get_or rest 0 0) (get_or rest 1 0) b → length hex ≤ 1024 →
    ReadSoFar hex (take (length rest - 2) (drop 2 rest)) (set block len b) (len + 1)
read_more hex rest block b len far long pair short =
    let f = get_or rest 0 0 in
    let s = get_or rest 1 0 in
    let behind = take (length rest - 2) (drop 2 rest) in
    record {
      front = far.front ++ f ∷ s ∷ [];
      bytes = far.bytes ++ b ∷ [];
      place = far.place ∙ ap (λ (l : List ℕ). far.front ++ l) (first_two rest long) ∙ sym (append_assoc far.front (f ∷ s ∷ []) behind);
      spelled = spelled-push far.front far.bytes f s b far.spelled pair;
      count = omega (arith, far.count, length-append far.bytes (b ∷ []));
      padded =
          ap (λ (l : List ℕ). set l len b) far.padded ∙ ap (λ (n : ℕ). set (padded_to 512 far.bytes) n b) far.count
          ∙ padded-push 512 far.bytes b (omega (arith, far-length far, far.count));
    }

pub read_all : (hex rest block : List ℕ) (len : ℕ) → ReadSoFar hex rest block len → length rest ≡ 0 → 0 < length hex → length hex ≤ 1024 → SpellsBlock hex block
read_all hex [] block len far none some short =
    let size = far-length far in
    record {
      bytes = far.bytes;
      spelled = subst (λ (l : List ℕ). SpellsBytes l far.bytes) (sym (far.place ∙ append-nil far.front)) far.spelled;
      some = omega (arith, size, far.count);
      most = omega (arith, size, far.count);
      padded = far.padded;
    }
read_all hex (b ∷ rest) block len far none some short = absurd (omega arith)

pub no_pair :
    (hex rest block other : List ℕ) (len : ℕ) → ReadSoFar hex rest block len → 2 ≤ length rest → SpellsBlock hex other →
    (b : ℕ) × IsPair (get_or rest 0 0) (get_or rest 1 0) b
no_pair hex rest block other len far long spells =
    let place : hex ≡ far.front ++ (get_or rest 0 0 ∷ get_or rest 1 0 ∷ take (length rest - 2) (drop 2 rest)) = far.place ∙ ap (λ (l : List ℕ). far.front ++ l) (first_two rest long) in
    let tail = spelled-rest far.front far.bytes (get_or rest 0 0 ∷ get_or rest 1 0 ∷ take (length rest - 2) (drop 2 rest)) spells.bytes far.spelled (subst (λ (l : List ℕ). SpellsBytes l spells.bytes) place spells.spelled) in
    first_pair (get_or rest 0 0) (get_or rest 1 0) (take (length rest - 2) (drop 2 rest)) tail.0 tail.1

pub block-length : {hex block : List ℕ} (spells : SpellsBlock hex block) → length hex ≡ 2 * length spells.bytes
block-length {hex} spells = spelled-length hex spells.bytes spells.spelled
