-- The slice of a name, found in a table of drives.
use Rattle.std.proofs.Common.{◌≡◌, Bool, true, false, zero, suc, refl, sym, ap, subst, cond, List, [], ◌∷◌, Option, None, Some, IfSome, IfNone, arith}
use Rattle.std.proofs.lemmas.Bool.Decides.{nat_tests}
use Rattle.std.specs.Prelude.{◌↔◌}
use Rattle.mdv_base.specs.declared.drive.SliceName.{SliceName}
use Rattle.mdv_name.specs.SliceIndex.{HasSlice, HasNoSlice, same_slice, slice_at}
use Rattle.mdv_name.specs.Sound.{IsSound, IsSoundSlice}
use Rattle.mdv_name.specs.declared.geometry.Geometry.{Geometry}
use Rattle.mdv_name.specs.declared.slice_lines.SliceAt.{SliceAt}
use Rattle.mdv_name.specs.declared.slice_lines.SliceLine.{SliceLine}

pub same_slice-equal : (a b : SliceName) → same_slice a b ≡ true → a ≡ b
same_slice-equal a b same =
    let one : a.drive.controller ≡ b.drive.controller = grind (arith, nat_tests) in
    let two : a.drive.target ≡ b.drive.target = grind (arith, nat_tests) in
    let three : a.drive.disk ≡ b.drive.disk = grind (arith, nat_tests) in
    let four : a.slice ≡ b.slice = grind (arith, nat_tests) in
    λ i. record { drive = record { controller = one i; target = two i; disk = three i }; slice = four i }

pub same_slice-refl : (a : SliceName) → same_slice a a ≡ true
same_slice-refl a = grind (arith, nat_tests)

has_later : (line : SliceLine) (lines : List SliceLine) (name : SliceName) (at : SliceAt) → HasSlice lines name at → HasSlice (line ∷ lines) name at
has_later line lines name at has = (suc has.0, omega (arith, has.1), has.2)

-- what is found stands in the list
found_stands : (lines : List SliceLine) (name : SliceName) (at : SliceAt) → slice_at lines name ≡ Some at → HasSlice lines name at
found_stands [] name at is = cc
found_stands (line ∷ lines) name at is =
    elim (same_slice line.name name) as (λ b. same_slice line.name name ≡ b → cond b (Some line.at) (slice_at lines name) ≡ Some at → HasSlice (line ∷ lines) name at) [
      | true ↦ λ same here.
          let named = same_slice-equal line.name name same in
          let lies : line.at ≡ at = cc (here) in
          (0, omega arith, λ i. record { name = named i; at = lies i })
      | false ↦ λ _ there. has_later line lines name at (found_stands lines name at there)
    ] refl is

-- a slice of the list is found
stands_found : (lines : List SliceLine) (name : SliceName) (at : SliceAt) → HasSlice lines name at → slice_at lines name ≡ None → ⊥
stands_found [] name at has none = absurd (omega (arith, has.1))
stands_found (line ∷ lines) name at (zero, within, is) none =
    let named : line.name ≡ name = ap (λ (l : SliceLine). l.name) is in
    let same : same_slice line.name name ≡ true = subst (λ (n : SliceName). same_slice line.name n ≡ true) named (same_slice-refl line.name) in
    let some : Some line.at ≡ None = subst (λ (b : Bool). cond b (Some line.at) (slice_at lines name) ≡ None) same none in
    cc (some)
stands_found (line ∷ lines) name at (suc k, within, is) none =
    elim (same_slice line.name name) as (λ b. cond b (Some line.at) (slice_at lines name) ≡ None → ⊥) [
      | true ↦ λ here. cc
      | false ↦ λ there. stands_found lines name at (k, omega (arith, within), is) there
    ] none

-- none is found exactly where there is none
pub slice_at-none : (lines : List SliceLine) (name : SliceName) → slice_at lines name ≡ None ↔ HasNoSlice lines name
slice_at-none lines name = (
  λ none at has. stands_found lines name at has none,
  λ absent. elim (slice_at lines name) as (λ o. slice_at lines name ≡ o → o ≡ None) [
    | None ↦ λ is. refl
    | Some a ↦ λ is. absurd (absent a (found_stands lines name a is))
  ] refl,
)

-- names stand once: what is found is what stands there
pub slice_at-some : (g : Geometry) (name : SliceName) (at : SliceAt) → IsSound g → slice_at g.slices name ≡ Some at ↔ HasSlice g.slices name at
slice_at-some g name at sound = (
  found_stands g.slices name at,
  λ has. elim (slice_at g.slices name) as (λ o. slice_at g.slices name ≡ o → o ≡ Some at) [
    | None ↦ λ is. absurd (stands_found g.slices name at has is)
    | Some a ↦ λ is. ap Some (sound.once name a at (found_stands g.slices name a is) has)
  ] refl,
)

-- what the look-up answers is what is found
pub found_is : (g : Geometry) (name : SliceName) (answer : Option SliceAt) → IsSound g → IfSome answer (HasSlice g.slices name) → IfNone answer (HasNoSlice g.slices name) → answer ≡ slice_at g.slices name
found_is g name (Some at) sound has none = sym ((slice_at-some g name at sound).1 has)
found_is g name None sound has none = sym ((slice_at-none g.slices name).1 none)

pub found_sound : (g : Geometry) (name : SliceName) (answer : Option SliceAt) → IsSound g → IfSome answer (HasSlice g.slices name) → IfSome answer (IsSoundSlice name)
found_sound g name (Some at) sound has = sound.each name at has
found_sound g name None sound has = tt
