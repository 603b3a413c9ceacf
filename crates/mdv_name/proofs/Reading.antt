-- One more line of a table of drives.
use Rattle.std.proofs.Common.{◌≡◌, ◌<◌, ◌≤◌, ◌+◌, ◌-◌, ℕ, refl, sym, ◌∙◌, ap, subst, List, [], ◌∷◌, ◌++◌, length, append_assoc, append-nil, length-append, inl, inr, ◌⊎◌, arith}
use Rattle.std.proofs.lemmas.List.Sums.{sum_by-append}
use Rattle.std.specs.Prelude.{sum_by}
use Rattle.mdv_name.specs.declared.geometry.Geometry.{Geometry}
use Rattle.mdv_name.specs.Geometry.{empty, AddsLine, ReadsLines, IsGeometry, IsBadLine}
use Rattle.mdv_name.specs.Lines.{lines}

-- so many lines in front are read
pub record ReadSoFar (text rest : List ℕ) (number : ℕ) (g : Geometry) : Type 0 where
  pub front : List (List ℕ)
  pub place : lines text ≡ front ++ lines rest
  pub count : number ≡ length front
  pub bytes : sum_by length front + length rest ≡ length text
  pub few : number ≤ sum_by length front
  pub short : sum_by length front ≤ 65536
  pub read : ReadsLines empty front g

ReadsLines-push : (g h k : Geometry) (ls : List (List ℕ)) (line : List ℕ) → ReadsLines g ls h → AddsLine h line k → ReadsLines g (ls ++ line ∷ []) k
ReadsLines-push g h k [] line read adds = (k, subst (λ (m : Geometry). AddsLine m line k) read adds, refl)
ReadsLines-push g h k (l ∷ ls) line read adds = (read.0, read.1, ReadsLines-push read.0 h k ls line read.2 adds)

pub read_none : (text : List ℕ) → ReadSoFar text text 0 empty
read_none text = record { front = []; place = refl; count = refl; bytes = omega arith; few = omega arith; short = omega arith; read = refl }

pub read_more : (text rest line behind : List ℕ) (number : ℕ) (g h : Geometry) → ReadSoFar text rest number g → lines rest ≡ line ∷ lines behind → rest ≡ line ++ behind → 0 < length line → length text - length behind ≤ 65536 → AddsLine g line h → ReadSoFar text behind (number + 1) h
read_more text rest line behind number g h far first whole some short adds =
    let sizes : length rest ≡ length line + length behind = ap length whole ∙ length-append line behind in
    let sums : sum_by length (far.front ++ line ∷ []) ≡ sum_by length far.front + length line = sum_by-append length far.front (line ∷ []) ∙ ap (λ (n : ℕ). sum_by length far.front + n) (omega arith) in
    record {
      front = far.front ++ line ∷ [];
      place = far.place ∙ ap (λ (l : List (List ℕ)). far.front ++ l) first ∙ sym (append_assoc far.front (line ∷ []) (lines behind));
      count = omega (arith, far.count, length-append far.front (line ∷ []));
      bytes = omega (arith, far.bytes, sizes, sums);
      few = omega (arith, far.few, sums, some);
      short = omega (arith, far.bytes, sizes, sums, short);
      read = ReadsLines-push empty g h far.front line far.read adds;
    }

no_lines : (rest : List ℕ) → length rest ≡ 0 → lines rest ≡ []
no_lines [] done = refl
no_lines (b ∷ bs) done = absurd (omega arith)

pub read_all : (text rest : List ℕ) (number : ℕ) (g : Geometry) → ReadSoFar text rest number g → length rest ≡ 0 → IsGeometry text g
read_all text rest number g far done =
    let over : lines rest ≡ [] = no_lines rest done in
    record {
      short = omega (arith, far.bytes, far.short, done);
      read = subst (λ (ls : List (List ℕ)). ReadsLines empty ls g) (sym (far.place ∙ ap (λ (l : List (List ℕ)). far.front ++ l) over ∙ append-nil far.front)) far.read;
    }

pub bad_line : (text rest line behind : List ℕ) (number : ℕ) (g : Geometry) → ReadSoFar text rest number g → lines rest ≡ line ∷ lines behind → rest ≡ line ++ behind → (65536 < length text - length behind) ⊎ ((h : Geometry) → AddsLine g line h → ⊥) → IsBadLine text (number + 1)
bad_line text rest line behind number g far first whole bad =
    let sizes : length rest ≡ length line + length behind = ap length whole ∙ length-append line behind in
    record {
      front = far.front;
      line = line;
      behind = lines behind;
      place = far.place ∙ ap (λ (l : List (List ℕ)). far.front ++ l) first;
      number = omega (arith, far.count);
      short = far.short;
      geometry = g;
      read = far.read;
      bad = elim bad [ inl long ↦ inl (omega (arith, far.bytes, sizes, long)) | inr refused ↦ inr refused ];
    }
