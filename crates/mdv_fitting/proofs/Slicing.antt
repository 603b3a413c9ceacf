-- A slice found by its number is the one of its name.
use Rattle.std.proofs.Common.{◌≡◌, ◌<◌, ◌+◌, ◌++◌, ◌==◌, take, ℕ, suc, Bool, true, false, cond, Option, None, Some, IfSome, List, [], ◌∷◌, length, get_or, refl, sym, ◌∙◌, ap, subst, arith}
use Rattle.std.proofs.lemmas.Bool.Decides.{nat_tests}
use Rattle.std.proofs.lemmas.List.{get_or_default, take_more}
use Rattle.std.proofs.lemmas.List.Folds.{find-append}
use Rattle.std.specs.List.{find}
use Rattle.std.specs.Option.{option_map, option_or}
use Rattle.mdv_name.proofs.Finding.{same_slice-equal, same_slice-refl, slice_at-some}
use Rattle.mdv_name.proofs.Places.{slice_code_injective}
use Rattle.mdv_name.specs.Drive.{IsDriveName, IsSliceName}
use Rattle.mdv_name.specs.declared.slice_lines.SliceLine.{SliceLine}
use Rattle.mdv_fitting.proofs.Hindered.{false_unless}
use Rattle.mdv_fitting.specs.Below.{Geometry, IsSound, IsSoundSlice, SliceAt, SliceName, same_slice, slice_at, slice_code}
use Rattle.mdv_fitting.specs.Held.{HasValue, held, value_at}
use Rattle.mdv_fitting.specs.Slices.{AreAt, AreSlices, at_number, at_of}
use Rattle.mdv_fitting.specs.declared.held.Held.{Held}

numbered : (lines : List SliceLine) (s : SliceName) → ((k : ℕ) (d : SliceLine) → k < length lines → IsSliceName (get_or lines k d).name) → IsDriveName s.drive → s.slice < 256 → at_number lines (slice_code s) ≡ slice_at lines s
numbered [] s all drive few = refl
numbered (l ∷ ls) s all drive few =
    elim (slice_code l.name == slice_code s) as (λ b. (slice_code l.name == slice_code s) ≡ b → option_map at_of (cond b (Some l) (find (λ x. slice_code x.name == slice_code s) ls)) ≡ cond (same_slice l.name s) (Some l.at) (slice_at ls s)) [
      | true ↦ λ is.
          let form : IsSliceName l.name = all 0 l (omega arith) in
          let codes : slice_code l.name ≡ slice_code s = grind (arith, nat_tests) in
          let one : l.name ≡ s = slice_code_injective l.name s form.drive drive (omega (arith, form.slice)) few codes in
          let same : same_slice l.name s ≡ true = subst (λ (n : SliceName). same_slice l.name n ≡ true) one (same_slice-refl l.name) in
          ap (λ (b : Bool). cond b (Some l.at) (slice_at ls s)) (sym same)
      | false ↦ λ is.
          let differs : same_slice l.name s ≡ false = false_unless (same_slice l.name s) (λ same.
          let codes : slice_code l.name ≡ slice_code s = ap slice_code (same_slice-equal l.name s same) in
          let here : (slice_code l.name == slice_code s) ≡ true = grind (arith, nat_tests) in
          cc (here, is)) in
          numbered ls s (λ k d within. all (suc k) d (omega arith)) drive few ∙ ap (λ (b : Bool). cond b (Some l.at) (slice_at ls s)) (sym differs)
    ] refl

named : (g : Geometry) → IsSound g → (k : ℕ) (d : SliceLine) → k < length g.slices → IsSliceName (get_or g.slices k d).name
named g sound k d within =
    let line = get_or g.slices k d in
    (sound.each line.name line.at (k, within, get_or_default g.slices k line d within)).named

pub slice_is : (g : Geometry) (m : Held SliceAt) (s : SliceName) (answer : Option SliceAt) → IsSound g → AreSlices g m → IsDriveName s.drive → s.slice < 256 → answer ≡ held m (slice_code s) → answer ≡ slice_at g.slices s
slice_is g m s answer sound are drive few is = is ∙ are (slice_code s) ∙ numbered g.slices s (named g sound) drive few

pub slice_sound : (g : Geometry) (s : SliceName) (answer : Option SliceAt) → IsSound g → answer ≡ slice_at g.slices s → IfSome answer (IsSoundSlice s)
slice_sound g s None sound is = tt
slice_sound g s (Some at) sound is = sound.each s at ((slice_at-some g s at sound).0 (sym is))

-- with one line more
lines_more : (ls : List SliceLine) (l : SliceLine) (m n : Held SliceAt) → AreAt ls m → HasValue m (slice_code l.name) l.at n → AreAt (ls ++ l ∷ []) n
lines_more ls l m n are more k =
    more k ∙ ap (λ (o : Option SliceAt). option_or o (value_at (slice_code l.name) l.at k)) (are k) ∙ mapped (find (λ x. slice_code x.name == k) ls) (slice_code l.name == k) ∙ ap (option_map at_of) (sym (find-append (λ x. slice_code x.name == k) ls (l ∷ [])))
  where
    mapped : (o : Option SliceLine) (b : Bool) → option_or (option_map at_of o) (cond b (Some l.at) None) ≡ option_map at_of (option_or o (cond b (Some l) None))
    mapped None true = refl
    mapped None false = refl
    mapped (Some x) b = refl

-- at a place of a list
pub lines_step : (m n : Held SliceAt) (ls : List SliceLine) (i : ℕ) (d : SliceLine) → i < length ls → AreAt (take i ls) m → HasValue m (slice_code (get_or ls i d).name) (get_or ls i d).at n → AreAt (take (i + 1) ls) n
lines_step m n ls i d within are more k = lines_more (take i ls) (get_or ls i d) m n are more k ∙ ap (λ (xs : List SliceLine). at_number xs k) (sym (take_more ls i d within))
