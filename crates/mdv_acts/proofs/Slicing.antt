-- The places of one slice in the order of wipes.
use Rattle.std.proofs.Common.{◌≡◌, ◌⊎◌, inl, inr, ◌||◌, Bool, true, false, cond, if◌then◌else◌, List, [], ◌∷◌, ◌++◌, append_assoc, append-nil, refl, sym, ◌∙◌, ap, subst}
use Rattle.std.specs.Prelude.{reverse}
use Rattle.std.proofs.lemmas.List.{reverse-append}
use Rattle.mdv_base.specs.declared.drive.SliceName.{SliceName}
use Rattle.mdv_name.specs.SliceIndex.{same_slice}
use Rattle.mdv_name.proofs.Finding.{same_slice-equal, same_slice-refl}
use Rattle.mdv_acts.specs.Below.{Place}
use Rattle.mdv_acts.specs.Meaning.{AreTogether, IsFollowed, on_slice}
use Rattle.mdv_acts.specs.Wipes.{in_front, ordered_with, wipe_order}
use Rattle.mdv_acts.proofs.Ordering.{is_met}

true_or_false : (b : Bool) → (b ≡ true) ⊎ (b ≡ false)
true_or_false true = inl refl
true_or_false false = inr refl

no_both : (b : Bool) → b ≡ true → b ≡ false → ⊥
no_both b so not_so = cc (so, not_so)

-- of one slice: the other way round, and from one to the next
same_back : (a b : SliceName) → same_slice a b ≡ true → same_slice b a ≡ true
same_back a b same = subst (λ (s : SliceName). same_slice b s ≡ true) (sym (same_slice-equal a b same)) (same_slice-refl b)

same_next : (a b c : SliceName) → same_slice a b ≡ true → same_slice a c ≡ true → same_slice b c ≡ true
same_next a b c one two = subst (λ (s : SliceName). same_slice s c ≡ true) (same_slice-equal a b one) two

other_back : (a b : SliceName) → same_slice a b ≡ false → same_slice b a ≡ false
other_back a b other = elim (true_or_false (same_slice b a)) [ inl same ↦ absurd (no_both (same_slice a b) (same_back b a same) other) | inr is ↦ is ]

-- Of each slice the last place first.
abbrev with_place : (p : Place) (slice : SliceName) (places : List Place) → List Place
with_place p slice places = cond (same_slice p.slice slice) (p ∷ places) places

swap : (p q : Place) (places : List Place) (a b : Bool) → (a ≡ true → b ≡ true → ⊥) → cond a (q ∷ cond b (p ∷ places) places) (cond b (p ∷ places) places) ≡ cond b (p ∷ cond a (q ∷ places) places) (cond a (q ∷ places) places)
swap p q places true true both = absurd (both refl refl)
swap p q places true false both = refl
swap p q places false b both = refl

front_if : (p q : Place) (slice : SliceName) (places : List Place) (same : Bool) → same_slice q.slice p.slice ≡ same → on_slice slice (in_front p places) ≡ with_place p slice (on_slice slice places)
    → on_slice slice (if same then p ∷ (q ∷ places) else q ∷ in_front p places) ≡ with_place p slice (on_slice slice (q ∷ places))
front_if p q slice places true is rest = refl
front_if p q slice places false is rest =
    ap (λ (l : List Place). cond (same_slice q.slice slice) (q ∷ l) l) rest
    ∙ swap p q (on_slice slice places) (same_slice q.slice slice) (same_slice p.slice slice) (λ one two. no_both (same_slice q.slice p.slice) (same_next slice q.slice p.slice (same_back q.slice slice one) (same_back p.slice slice two)) is)

slice_front : (p : Place) (slice : SliceName) (places : List Place) → on_slice slice (in_front p places) ≡ with_place p slice (on_slice slice places)
slice_front p slice [] = refl
slice_front p slice (q ∷ places) = front_if p q slice places (same_slice q.slice p.slice) refl (slice_front p slice places)

turn : (p : Place) (places done : List Place) (b : Bool) → reverse places ++ cond b (p ∷ done) done ≡ reverse (cond b (p ∷ places) places) ++ done
turn p places done true = sym (ap (λ (l : List Place). l ++ done) (reverse-append (p ∷ []) places) ∙ append_assoc (reverse places) (p ∷ []) done)
turn p places done false = refl

ordered_slice : (slice : SliceName) (done places : List Place) → on_slice slice (ordered_with done places) ≡ reverse (on_slice slice places) ++ on_slice slice done
ordered_slice slice done [] = refl
ordered_slice slice done (p ∷ places) =
    ordered_slice slice (in_front p done) places ∙ ap (λ (l : List Place). reverse (on_slice slice places) ++ l) (slice_front p slice done)
    ∙ turn p (on_slice slice places) (on_slice slice done) (same_slice p.slice slice)

pub order_slice : (places : List Place) (slice : SliceName) → on_slice slice (wipe_order places) ≡ reverse (on_slice slice places)
order_slice places slice = ordered_slice slice [] places ∙ append-nil (reverse (on_slice slice places))

-- Slice after slice.
or_parts : (a b : Bool) → (a || b) ≡ false → (a ≡ false) × (b ≡ false)
or_parts true b is = absurd (cc (is))
or_parts false b is = (refl, is)

unmet_if : (p q r : Place) (places : List Place) (same : Bool) → same_slice p.slice q.slice ≡ false → is_met q (r ∷ places) ≡ false → (is_met q places ≡ false → is_met q (in_front p places) ≡ false)
    → is_met q (if same then p ∷ (r ∷ places) else r ∷ in_front p places) ≡ false
unmet_if p q r places true other unmet rest = ap (λ (b : Bool). b || is_met q (r ∷ places)) other ∙ unmet
unmet_if p q r places false other unmet rest =
    let parts = or_parts (same_slice r.slice q.slice) (is_met q places) unmet in
    ap (λ (b : Bool). b || is_met q (in_front p places)) parts.0 ∙ rest parts.1

unmet_front : (p q : Place) (places : List Place) → same_slice p.slice q.slice ≡ false → is_met q places ≡ false → is_met q (in_front p places) ≡ false
unmet_front p q [] other unmet = ap (λ (b : Bool). b || false) other
unmet_front p q (r ∷ places) other unmet = unmet_if p q r places (same_slice r.slice p.slice) other unmet (unmet_front p q places other)

followed_any : (q : Place) (places : List Place) → is_met q places ≡ false → IsFollowed q places
followed_any q [] unmet = tt
followed_any q (r ∷ places) unmet = inr unmet

followed_if : (p q r : Place) (places : List Place) (same : Bool) → same_slice r.slice p.slice ≡ same → same_slice q.slice p.slice ≡ false → same_slice r.slice q.slice ≡ true → IsFollowed q (if same then p ∷ (r ∷ places) else r ∷ in_front p places)
followed_if p q r places true is other next = absurd (no_both (same_slice q.slice p.slice) (same_next r.slice q.slice p.slice next is) other)
followed_if p q r places false is other next = inl next

followed_front : (p q : Place) (places : List Place) → same_slice q.slice p.slice ≡ false → IsFollowed q places → IsFollowed q (in_front p places)
followed_front p q [] other followed = followed_any q (p ∷ []) (ap (λ (b : Bool). b || false) (other_back q.slice p.slice other))
followed_front p q (r ∷ places) other (inl next) = followed_if p q r places (same_slice r.slice p.slice) refl other next
followed_front p q (r ∷ places) other (inr unmet) = followed_any q (in_front p (r ∷ places)) (unmet_front p q (r ∷ places) (other_back q.slice p.slice other) unmet)

together_if : (p q : Place) (places : List Place) (same : Bool) → same_slice q.slice p.slice ≡ same → AreTogether (q ∷ places) → AreTogether (in_front p places) → AreTogether (if same then p ∷ (q ∷ places) else q ∷ in_front p places)
together_if p q places true is all rest = (inl is, all)
together_if p q places false is all rest = (followed_front p q places is all.0, rest)

together_front : (p : Place) (places : List Place) → AreTogether places → AreTogether (in_front p places)
together_front p [] all = (tt, tt)
together_front p (q ∷ places) all = together_if p q places (same_slice q.slice p.slice) refl all (together_front p places all.1)

ordered_together : (done places : List Place) → AreTogether done → AreTogether (ordered_with done places)
ordered_together done [] all = all
ordered_together done (p ∷ places) all = ordered_together (in_front p done) places (together_front p done all)

pub order_together : (places : List Place) → AreTogether (wipe_order places)
order_together places = ordered_together [] places tt
