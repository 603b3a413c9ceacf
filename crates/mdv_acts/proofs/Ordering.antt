-- The order in which places are wiped.
use Rattle.std.proofs.Common.{◌≡◌, ℕ, ◌+◌, ◌||◌, Bool, true, false, if◌then◌else◌, List, [], ◌∷◌, ◌++◌, length, ◌≤◌, append_assoc, append-nil, refl, sym, ◌∙◌, ap, arith}
use Rattle.std.specs.List.{list_any}
use Rattle.std.proofs.Math.Bool.{or-false}
use Rattle.std.proofs.lemmas.List.Folds.{list_any-append}
use Rattle.mdv_name.specs.SliceIndex.{same_slice}
use Rattle.mdv_acts.specs.Below.{Place}
use Rattle.mdv_acts.specs.Wipes.{in_front, ordered_with, wipe_order}

length_if : (b : Bool) (xs ys : List Place) (n : ℕ) → length xs ≡ n → length ys ≡ n → length (if b then xs else ys) ≡ n
length_if true xs ys n one two = one
length_if false xs ys n one two = two

pub in_front_length : (p : Place) (places : List Place) → length (in_front p places) ≡ length places + 1
in_front_length p [] = refl
in_front_length p (q ∷ qs) =
    let rest = in_front_length p qs in
    length_if (same_slice q.slice p.slice) (p ∷ (q ∷ qs)) (q ∷ in_front p qs) (length (q ∷ qs) + 1) (omega arith) (omega (arith, rest))

ordered_length : (done places : List Place) → length (ordered_with done places) ≡ length done + length places
ordered_length done [] = omega arith
ordered_length done (p ∷ places) = (let rest = ordered_length (in_front p done) places in let one = in_front_length p done in omega (arith, rest, one))

pub order_length : (places : List Place) → length (wipe_order places) ≡ length places
order_length places = ordered_length [] places ∙ omega arith

ordered_push : (done places : List Place) (p : Place) → ordered_with done (places ++ p ∷ []) ≡ in_front p (ordered_with done places)
ordered_push done [] p = refl
ordered_push done (q ∷ places) p = ordered_push (in_front q done) places p

pub order_push : (places : List Place) (p : Place) → wipe_order (places ++ p ∷ []) ≡ in_front p (wipe_order places)
order_push places p = ordered_push [] places p

module _ (p : Place) where
  -- a place of that slice is among these
  abbrev pub is_met : List Place → Bool
  is_met places = list_any (λ (q : Place). same_slice q.slice p.slice) places

  met_if : (b : Bool) (q : Place) (places more : List Place) → (is_met places ≡ true → in_front p (places ++ more) ≡ in_front p places ++ more) → (b || is_met places) ≡ true
      → (if b then p ∷ (q ∷ (places ++ more)) else q ∷ in_front p (places ++ more)) ≡ (if b then p ∷ (q ∷ places) else q ∷ in_front p places) ++ more
  met_if true q places more rest is = refl
  met_if false q places more rest is = ap (λ (l : List Place). q ∷ l) (rest is)

  pub front_met : (places more : List Place) → is_met places ≡ true → in_front p (places ++ more) ≡ in_front p places ++ more
  front_met [] more met = absurd (cc (met))
  front_met (q ∷ places) more met = met_if (same_slice q.slice p.slice) q places more (front_met places more) met

  unmet_if : (b : Bool) (q : Place) (places more : List Place) → (is_met places ≡ false → in_front p (places ++ more) ≡ places ++ in_front p more) → (b || is_met places) ≡ false
      → (if b then p ∷ (q ∷ (places ++ more)) else q ∷ in_front p (places ++ more)) ≡ q ∷ (places ++ in_front p more)
  unmet_if true q places more rest is = absurd (cc (is))
  unmet_if false q places more rest is = ap (λ (l : List Place). q ∷ l) (rest is)

  pub front_unmet : (places more : List Place) → is_met places ≡ false → in_front p (places ++ more) ≡ places ++ in_front p more
  front_unmet [] more unmet = refl
  front_unmet (q ∷ places) more unmet = unmet_if (same_slice q.slice p.slice) q places more (front_unmet places more) unmet

  -- a place is put in front of the first one of its slice, as far as these places
  abbrev pub IsSoFar : List Place → Bool → List Place → Type 0
  IsSoFar front is_in next = (is_in ≡ is_met front) × (next ≡ (if is_in then in_front p front else front))

  met_push : (front : List Place) (q : Place) → is_met (front ++ q ∷ []) ≡ (is_met front || same_slice q.slice p.slice)
  met_push front q = list_any-append (λ (r : Place). same_slice r.slice p.slice) front (q ∷ []) ∙ ap (λ (b : Bool). is_met front || b) (or-false (same_slice q.slice p.slice))

  front_same : (q : Place) → same_slice q.slice p.slice ≡ true → in_front p (q ∷ []) ≡ p ∷ q ∷ []
  front_same q same = ap (λ (b : Bool). if b then p ∷ (q ∷ []) else q ∷ (p ∷ [])) same

  pub so_far_put : (front next : List Place) (q : Place) → IsSoFar front false next → same_slice q.slice p.slice ≡ true → IsSoFar (front ++ q ∷ []) true ((next ++ p ∷ []) ++ q ∷ [])
  so_far_put front next q so same = (
    sym (met_push front q ∙ ap (λ (b : Bool). b || same_slice q.slice p.slice) (sym so.0) ∙ same),
    append_assoc next (p ∷ []) (q ∷ []) ∙ ap (λ (l : List Place). l ++ (p ∷ q ∷ [])) so.1 ∙ sym (front_unmet front (q ∷ []) (sym so.0) ∙ ap (λ (l : List Place). front ++ l) (front_same q same)),
  )

  pub so_far_past : (front next : List Place) (q : Place) → IsSoFar front true next → IsSoFar (front ++ q ∷ []) true (next ++ q ∷ [])
  so_far_past front next q so = (
    sym (met_push front q ∙ ap (λ (b : Bool). b || same_slice q.slice p.slice) (sym so.0)),
    ap (λ (l : List Place). l ++ q ∷ []) so.1 ∙ sym (front_met front (q ∷ []) (sym so.0)),
  )

  pub so_far_over : (front next : List Place) (q : Place) → IsSoFar front false next → same_slice q.slice p.slice ≡ false → IsSoFar (front ++ q ∷ []) false (next ++ q ∷ [])
  so_far_over front next q so other = (
    sym (met_push front q ∙ ap (λ (b : Bool). b || same_slice q.slice p.slice) (sym so.0) ∙ other),
    ap (λ (l : List Place). l ++ q ∷ []) so.1,
  )

  -- at the end
  pub so_far_none : (places next : List Place) → IsSoFar places false next → next ++ p ∷ [] ≡ in_front p places
  so_far_none places next so = ap (λ (l : List Place). l ++ p ∷ []) so.1 ∙ sym (ap (in_front p) (sym (append-nil places)) ∙ front_unmet places [] (sym so.0))

  pub so_far_length : (front next : List Place) (is_in : Bool) → IsSoFar front is_in next → length next ≤ length front + 1
  so_far_length front next true so = (let one = in_front_length p front in let same = ap length so.1 in omega (arith, one, same))
  so_far_length front next false so = (let same = ap length so.1 in omega (arith, same))

  pub so_far_less : (front next : List Place) → IsSoFar front false next → length next ≡ length front
  so_far_less front next so = ap length so.1
