-- The slice that a map's place leads to.
use Rattle.std.proofs.Common.{◌≡◌, ◌<◌, ℕ, refl, sym, ◌∙◌, ap, subst, List, [], ◌∷◌, ◌++◌, length, map, cond, take, Bool, Option, None, Some, Contains, arith, nat_cmp}
use Rattle.std.proofs.lemmas.Option.{slice_get_within, get_or_from_slice_get, slice_get-get_or}
use Rattle.std.proofs.lemmas.List.Elements.{All-contains, All-contains_itself, All-filter, All-push}
use Rattle.std.proofs.lemmas.List.{get_or-take, length-take-le, map-append, length-map}
use Rattle.std.specs.List.{filter}
use Rattle.std.specs.Prelude.{slice_get}
use Rattle.std.specs.Option.{option_map}
use Rattle.std.specs.BTreeMap.{BTreeMap, get, is_at}
use Rattle.mdv_base.specs.declared.drive.SliceName.{SliceName}
use Rattle.mdv_name.specs.declared.slice_lines.SliceAt.{SliceAt}
use Rattle.mdv_name.specs.declared.slice_lines.SliceLine.{SliceLine}
use Rattle.mdv_name.specs.Code.{slice_code}
use Rattle.mdv_name.specs.Drive.{IsDriveName, IsSliceName}
use Rattle.mdv_name.specs.Index.{HasPlaces}
use Rattle.mdv_name.specs.SliceIndex.{IsSliceIndex, code_of}
use Rattle.mdv_name.proofs.Places.{slice_get-map, HasPlaces-push, slice_code_injective}

pub record StandsAt (lines : List SliceLine) (n : ℕ) (name : SliceName) : Type 0 where
  pub line : SliceLine
  pub at : slice_get lines n ≡ Some line
  pub name_is : line.name ≡ name

mapped : (o : Option SliceLine) (code : ℕ) → option_map code_of o ≡ Some (Some code) → (l : SliceLine) × (o ≡ Some l) × (slice_code l.name ≡ code)
mapped None code is = cc
mapped (Some l) code is = (l, refl, cc)

pub stands_at : (places : BTreeMap ℕ ℕ) (lines : List SliceLine) (name : SliceName) (n : ℕ) → IsSliceIndex places lines → IsDriveName name.drive → name.slice < 256 → get nat_cmp places (slice_code name) ≡ Some n → StandsAt lines n name
stands_at places lines name n index form short found =
    let m = mapped (slice_get lines n) (slice_code name) (sym (slice_get-map code_of lines n) ∙ index.found.stands (slice_code name) n found) in
    let lt = slice_get_within lines n m.0 m.1 in
    let its_form : IsSliceName m.0.name = subst (λ (l : SliceLine). IsSliceName l.name) (get_or_from_slice_get lines n m.0 m.0 m.1) (index.forms n m.0 lt) in
    record { line = m.0; at = m.1; name_is = slice_code_injective m.0.name name its_form.drive form (omega (arith, its_form.slice)) short m.2 }

-- and no slice of the name stands in the list, where the map has no place
pub never_stands : (places : BTreeMap ℕ ℕ) (lines : List SliceLine) (name : SliceName) (at : SliceAt) → IsSliceIndex places lines → get nat_cmp places (slice_code name) ≡ None → Contains lines (record { name = name; at = at }) → ⊥
never_stands places lines name at index none found =
    let line : SliceLine = record { name = name; at = at } in
    let stands : slice_get lines found.0 ≡ Some line = slice_get-get_or lines found.0 line found.1 ∙ ap (λ (l : SliceLine). Some l) found.2 in
    let known = index.found.known (slice_code name) found.0 (slice_get-map code_of lines found.0 ∙ ap (option_map code_of) stands) in
    cc

no_place : (places : BTreeMap ℕ ℕ) (lines : List SliceLine) (name : SliceName) (o : Option ℕ) → get nat_cmp places (slice_code name) ≡ o → IsSliceIndex places lines → IsSliceName name → ((at : SliceAt) → Contains lines (record { name = name; at = at }) → ⊥) → o ≡ None
no_place places lines name None is index form fresh = refl
no_place places lines name (Some n) is index form fresh =
    let stands = stands_at places lines name n index form.drive (omega (arith, form.slice)) is in
    let want : SliceLine = record { name = name; at = stands.line.at } in
    let same : stands.line ≡ want = λ i. record { name = stands.name_is i; at = stands.line.at } in
    absurd (fresh stands.line.at (n, slice_get_within lines n stands.line stands.at, get_or_from_slice_get lines n stands.line want stands.at ∙ same))

pub IsSliceIndex-push : (places new : BTreeMap ℕ ℕ) (lines : List SliceLine) (line : SliceLine) → IsSliceIndex places lines → IsSliceName line.name → ((at : SliceAt) → Contains lines (record { name = line.name; at = at }) → ⊥) → ((q : ℕ) → get nat_cmp new q ≡ cond (is_at (nat_cmp (slice_code line.name)) q) (Some (length lines)) (get nat_cmp places q)) → IsSliceIndex new (lines ++ line ∷ [])
IsSliceIndex-push places new lines line index form fresh updated =
    let codes = map code_of lines in
    let none : get nat_cmp places (slice_code line.name) ≡ None = no_place places lines line.name (get nat_cmp places (slice_code line.name)) refl index form fresh in
    record {
      forms = All-push (λ (l : SliceLine). IsSliceName l.name) lines line index.forms form;
      found = subst (HasPlaces new) (sym (map-append code_of lines (line ∷ []))) (HasPlaces-push places new codes (slice_code line.name) index.found none (λ q. updated q ∙ ap (λ (n : ℕ). cond (is_at (nat_cmp (slice_code line.name)) q) (Some n) (get nat_cmp places q)) (sym (length-map lines code_of))));
    }

-- a slice's name stands at one place
pub one_place : (places : BTreeMap ℕ ℕ) (lines : List SliceLine) (j k : ℕ) (a b : SliceLine) → IsSliceIndex places lines → slice_get lines j ≡ Some a → slice_get lines k ≡ Some b → a.name ≡ b.name → j ≡ k
one_place places lines j k a b index first second same =
    let one = index.found.known (slice_code a.name) j (slice_get-map code_of lines j ∙ ap (option_map code_of) first) in
    let two = index.found.known (slice_code b.name) k (slice_get-map code_of lines k ∙ ap (option_map code_of) second) in
    let both : Some j ≡ Some k = sym one ∙ ap (λ (n : SliceName). get nat_cmp places (slice_code n)) same ∙ two in
    cc (both)

in_front : {X : Type 0} (k : ℕ) (xs : List X) (x : X) → k < length xs → Contains (take k xs) x → (j : ℕ) × (j < k) × (slice_get xs j ≡ Some x)
in_front k xs x lt has =
    let less : has.0 < k = omega (arith, has.1, length-take-le k xs (omega (arith, lt))) in
    (has.0, less, slice_get-get_or xs has.0 x (omega (arith, less, lt)) ∙ ap (λ y. Some y) (sym (get_or-take k xs has.0 x less) ∙ has.2))

-- so none of those in front of it has it, whichever of them are looked at
pub fresh_at : (places : BTreeMap ℕ ℕ) (lines : List SliceLine) (test : SliceLine → Bool) (k : ℕ) (line : SliceLine) → IsSliceIndex places lines → slice_get lines k ≡ Some line
    → (at : SliceAt) → Contains (filter test (take k lines)) (record { name = line.name; at = at }) → ⊥
fresh_at places lines test k line index here at has =
    let front = take k lines in
    let among : Contains front (record { name = line.name; at = at }) = All-contains (Contains front) (filter test front) (record { name = line.name; at = at }) (All-filter test (Contains front) front (All-contains_itself front)) has in
    let other = in_front k lines (record { name = line.name; at = at }) (slice_get_within lines k line here) among in
    let same = one_place places lines other.0 k (record { name = line.name; at = at }) line index other.2 here refl in
    omega (arith, other.1, same)
