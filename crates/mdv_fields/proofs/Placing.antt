-- Texts laid one behind another.
use Rattle.std.proofs.Common.{◌≡◌, ◌<◌, ◌≤◌, ◌+◌, ◌-◌, ◌^◌, ℕ, refl, sym, ◌∙◌, ap, subst, List, [], ◌∷◌, ◌++◌, append_assoc, length, get_or, take, drop, arith}
use Rattle.std.proofs.lemmas.List.{append-nil, length-append, drop-drop, take_more, take_all}
use Rattle.std.proofs.lemmas.List.Concat.{flat_map-append}
use Rattle.std.proofs.lemmas.Slice.{take-put_mid, drop-put_mid}
use Rattle.std.specs.Prelude.{flat_map, min}
use borrow.Rule.Slice.PartMut.{put_mid}
use Rattle.mdv_fields.specs.Laying.{IsPlaced, IsLaid}

-- a text copied to its place
pub placed : (used : ℕ) (old text copied : List ℕ) → copied ≡ text → used + length text ≤ length old → IsPlaced used old (put_mid used (used + length text - used) old copied) text (used + length text)
placed used old text copied same room =
    let end = used + length text in
    let size : length copied ≡ length text = ap length same in
    record {
      size = refl;
      front = take-put_mid used (end - used) old copied end (omega (arith, size)) (omega arith) ∙ ap (λ (l : List ℕ). take used old ++ l) same;
      behind = drop-put_mid used (end - used) old copied end (omega arith) (omega arith) (omega (arith, size));
    }

-- where there is room it is copied, else nothing changes
pub laid : (used : ℕ) (old new text copied : List ℕ) (end : ℕ) → new ≡ put_mid used (used + length text - used) old copied → copied ≡ text → length new ≡ length old → used + length text ≤ length old → length old < 2 ^ 64 → end ≡ min (used + length text) (2 ^ 64 - 1) → IsLaid used old new text end
laid used old new text copied end is same size room fits told =
    let here : used + length text ≡ end = omega arith in
    let at = placed used old text copied same room in
    record {
      told = told;
      placed = λ _. subst (λ (l : List ℕ). IsPlaced used old l text end) (sym is) (subst (IsPlaced used old (put_mid used (used + length text - used) old copied) text) here at);
      size = size;
    }

pub not_laid : (used : ℕ) (old text : List ℕ) (end : ℕ) → length old < used + length text → end ≡ min (used + length text) (2 ^ 64 - 1) → IsLaid used old old text end
not_laid used old text end short told = record { told = told; placed = λ room. absurd (omega arith); size = refl }

pub laid_none : (used : ℕ) (old : List ℕ) → used < 2 ^ 64 → IsLaid used old old [] used
laid_none used old fits = record {
  told = omega arith;
  placed = λ room. record { size = omega arith; front = sym (append-nil (take used old)); behind = refl };
  size = refl;
}

placed_then : {used middle end : ℕ} {old between new a b : List ℕ} → IsPlaced used old between a middle → IsPlaced middle between new b end → IsPlaced used old new (a ++ b) end
placed_then {used} {middle} {end} {old} {between} {new} {a} {b} first second =
    let size : end ≡ used + length (a ++ b) = omega (arith, first.size, second.size, length-append a b) in
    let far : end ≡ middle + length b = second.size in
    let kept : drop end between ≡ drop end old =
    ap (λ (n : ℕ). drop n between) far ∙ sym (drop-drop (length b) middle between) ∙ ap (drop (length b)) first.behind ∙ drop-drop (length b) middle old ∙ ap (λ (n : ℕ). drop n old) (sym far) in
    record {
      size = size;
      front = second.front ∙ ap (λ (l : List ℕ). l ++ b) first.front ∙ append_assoc (take used old) a b;
      behind = second.behind ∙ kept;
    }

pub laid_then : {used middle end : ℕ} {old between new a b : List ℕ} → IsLaid used old between a middle → IsLaid middle between new b end → IsLaid used old new (a ++ b) end
laid_then {used} {middle} {end} {old} {between} {new} {a} {b} first second = record {
  told = omega (arith, first.told, second.told, length-append a b);
  placed = λ room.
      let one = first.placed (omega (arith, length-append a b)) in
      placed_then one (second.placed (omega (arith, one.size, first.size, length-append a b)));
  size = second.size ∙ first.size;
}

parts-more : {A : Type 0} (text : A → List ℕ) (xs : List A) (i : ℕ) (d : A) → i < length xs → flat_map text (take (i + 1) xs) ≡ flat_map text (take i xs) ++ text (get_or xs i d)
parts-more text xs i d within =
    let x = get_or xs i d in
    ap (flat_map text) (take_more xs i d within) ∙ flat_map-append text (take i xs) (x ∷ []) ∙ ap (λ (l : List ℕ). flat_map text (take i xs) ++ l) (append-nil (text x))

-- one part more of a list, and all of them
pub laid_more : {A : Type 0} (text : A → List ℕ) (xs : List A) (i : ℕ) (x : A) {used middle end : ℕ} {old between new : List ℕ} → x ≡ get_or xs i x → i < length xs → IsLaid used old between (flat_map text (take i xs)) middle → IsLaid middle between new (text x) end → IsLaid used old new (flat_map text (take (i + 1) xs)) end
laid_more {A} text xs i x {used} {middle} {end} {old} {between} {new} is within first second =
    let parts = parts-more text xs i x within ∙ ap (λ (y : A). flat_map text (take i xs) ++ text y) (sym is) in
    subst (λ (l : List ℕ). IsLaid used old new l end) (sym parts) (laid_then first second)

pub laid_all : {A : Type 0} (text : A → List ℕ) (xs : List A) (i : ℕ) {used end : ℕ} {old new : List ℕ} → length xs ≤ i → IsLaid used old new (flat_map text (take i xs)) end → IsLaid used old new (flat_map text xs) end
laid_all text xs i {used} {end} {old} {new} enough laid = subst (λ (l : List ℕ). IsLaid used old new l end) (ap (flat_map text) (take_all i xs enough)) laid
