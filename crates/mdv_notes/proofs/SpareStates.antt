-- The states of spares after notes of them.
use Rattle.std.proofs.Common.{◌≡◌, ◌==◌, ◌||◌, refl, sym, ◌∙◌, ap, Bool, true, false, List, [], ◌∷◌, Option, None, Some, inl, inr, arith}
use Rattle.std.specs.List.{find}
use Rattle.std.specs.Option.{option_map}
use Rattle.std.proofs.lemmas.Bool.Decides.{nat_tests}
use Rattle.mdv_notes.specs.Below.{SliceName, slice_code, SpareState, SpareStatus, SpareUse, Available, InUse, Broken}
use Rattle.mdv_notes.specs.Named.{is_slice, left_state, takes, leaves}
use Rattle.mdv_notes.specs.Spares.{spare_key, spares_noted, spares_after}
use Rattle.mdv_notes.specs.Told.{state_in}
use Rattle.mdv_notes.specs.declared.note.PartNote.{PartNote}
use Rattle.mdv_notes.specs.declared.note.PartNote.TheVariants.{Okay as NowOkay, Resyncing as NowResyncing, Failed, Spared, LastErred as NowLastErred, Enabled}
use Rattle.mdv_notes.proofs.Finding.{same_or_other}

abbrev pub told : SliceName → List SpareStatus → Option SpareState
told s xs = option_map state_in (find (λ x. spare_key x == slice_code s) xs)

pub spare_other : (u s : SliceName) (state : SpareState) (xs : List SpareStatus) → is_slice u s ≡ false → told s (spares_noted u state xs) ≡ told s xs
spare_other u s state [] named = refl
spare_other u s state (x ∷ xs) named =
    let rest = spare_other u s state xs named in
    let apart : slice_code u ≡ slice_code s → ⊥ = λ is. grind (arith, nat_tests) in
    elim (same_or_other (spare_key x) (slice_code s)) [
      | inl here ↦ let not_own : spare_key x ≡ slice_code u → ⊥ = λ own. apart (sym own ∙ here) in grind (arith, nat_tests)
      | inr other ↦ elim (same_or_other (spare_key x) (slice_code u)) [ inl own ↦ grind (arith, nat_tests) | inr not_own ↦ grind (arith, nat_tests) ]
    ]

pub spare_own : (u s : SliceName) (state : SpareState) (xs : List SpareStatus) → is_slice u s ≡ true → told s (spares_noted u state xs) ≡ option_map (λ was. state) (told s xs)
spare_own u s state [] named = refl
spare_own u s state (x ∷ xs) named =
    let rest = spare_own u s state xs named in
    let same : slice_code u ≡ slice_code s = grind (arith, nat_tests) in
    elim (same_or_other (spare_key x) (slice_code s)) [
      | inl here ↦ let own : spare_key x ≡ slice_code u = here ∙ sym same in grind (arith, nat_tests)
      | inr other ↦ let not_own : spare_key x ≡ slice_code u → ⊥ = λ own. other (own ∙ same) in grind (arith, nat_tests)
    ]

first_not : (a b : Bool) → (a || b) ≡ false → a ≡ false
first_not true b is = is
first_not false b is = refl

second_not : (a b : Bool) → (a || b) ≡ false → b ≡ false
second_not true true is = is
second_not true false is = refl
second_not false b is = is

-- those that a note of a component doesn't name
pub spares_left : (note : PartNote) (under : Option SpareUse) (s : SliceName) (xs : List SpareStatus) → (takes note s || leaves note under s) ≡ false → told s (spares_after note under xs) ≡ told s xs
spares_left NowOkay None s xs named = refl
spares_left NowOkay (Some u) s xs named = refl
spares_left (NowResyncing resync) None s xs named = refl
spares_left (NowResyncing resync) (Some u) s xs named = refl
spares_left Failed None s xs named = refl
spares_left Failed (Some u) s xs named = spare_other u.slice s Broken xs named
spares_left (Spared w) None s xs named = spare_other w.slice s InUse xs (first_not (is_slice w.slice s) false named)
spares_left (Spared w) (Some u) s xs named =
    spare_other w.slice s InUse (spares_noted u.slice Broken xs) (first_not (is_slice w.slice s) (is_slice u.slice s) named)
    ∙ spare_other u.slice s Broken xs (second_not (is_slice w.slice s) (is_slice u.slice s) named)
spares_left NowLastErred None s xs named = refl
spares_left NowLastErred (Some u) s xs named = refl
spares_left Enabled None s xs named = refl
spares_left Enabled (Some u) s xs named = spare_other u.slice s Available xs named

-- a state that is noted twice is the one that was noted last
state_again : (u s : SliceName) (state last : SpareState) (xs : List SpareStatus) → option_map (λ was. last) (told s (spares_noted u state xs)) ≡ option_map (λ was. last) (told s xs)
state_again u s state last xs = by_name (is_slice u s) refl
  where
    twice : (o : Option SpareState) → option_map (λ was. last) (option_map (λ was. state) o) ≡ option_map (λ was. last) o
    twice None = refl
    twice (Some was) = refl

    by_name : (b : Bool) → is_slice u s ≡ b → option_map (λ was. last) (told s (spares_noted u state xs)) ≡ option_map (λ was. last) (told s xs)
    by_name true is = ap (option_map (λ was. last)) (spare_own u s state xs is) ∙ twice (told s xs)
    by_name false is = ap (option_map (λ was. last)) (spare_other u s state xs is)

-- the one that a component takes
pub spares_taken : (note : PartNote) (under : Option SpareUse) (s : SliceName) (xs : List SpareStatus) → takes note s ≡ true → told s (spares_after note under xs) ≡ option_map (λ was. InUse) (told s xs)
spares_taken NowOkay under s xs named = grind (arith, named)
spares_taken (NowResyncing resync) under s xs named = grind (arith, named)
spares_taken Failed under s xs named = grind (arith, named)
spares_taken (Spared w) None s xs named = spare_own w.slice s InUse xs named
spares_taken (Spared w) (Some u) s xs named = spare_own w.slice s InUse (spares_noted u.slice Broken xs) named ∙ state_again u.slice s Broken InUse xs
spares_taken NowLastErred under s xs named = grind (arith, named)
spares_taken Enabled under s xs named = grind (arith, named)

-- the one that it leaves
pub spares_gone : (note : PartNote) (under : Option SpareUse) (s : SliceName) (xs : List SpareStatus) → takes note s ≡ false → leaves note under s ≡ true → told s (spares_after note under xs) ≡ option_map (λ was. left_state note) (told s xs)
spares_gone NowOkay under s xs not_taken named = grind (arith, named)
spares_gone (NowResyncing resync) under s xs not_taken named = grind (arith, named)
spares_gone Failed None s xs not_taken named = grind (arith, named)
spares_gone Failed (Some u) s xs not_taken named = spare_own u.slice s Broken xs named
spares_gone (Spared w) None s xs not_taken named = grind (arith, named)
spares_gone (Spared w) (Some u) s xs not_taken named = spare_other w.slice s InUse (spares_noted u.slice Broken xs) not_taken ∙ spare_own u.slice s Broken xs named
spares_gone NowLastErred under s xs not_taken named = grind (arith, named)
spares_gone Enabled None s xs not_taken named = grind (arith, named)
spares_gone Enabled (Some u) s xs not_taken named = spare_own u.slice s Available xs named
