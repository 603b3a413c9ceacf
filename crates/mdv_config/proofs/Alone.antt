-- A place that is the only one, at block 16 of a slice with which no other one shares a block.
use Rattle.std.proofs.Common.{◌≡◌, ◌<◌, ◌-◌, ◌+◌, ◌%◌, ℕ, true, false, max, refl, sym, ◌∙◌, ap, [], ◌∷◌, Option, Some, Contains, arith, lit≤}
use Rattle.std.proofs.lemmas.Bool.{and_from, and_parts, eq-eqb, false_from_ne_true, false≢true, le-leb, ne_eqb, not-true, not_from_false, or_right}
use Rattle.std.proofs.lemmas.Bool.Decides.{nat_tests}
use Rattle.std.proofs.lemmas.List.Folds.{Any-from_list_any}
use Rattle.std.proofs.lemmas.List.Elements.{All-nil, All-cons}
use Rattle.std.proofs.Math.Nat.{zero-mod}
use Rattle.std.specs.Prelude.{not, ◌==◌, ◌&&◌, nat_le}
use Rattle.mdv_fields.specs.Sets.{agrees, starts_well}
use Rattle.mdv_name.proofs.Finding.{same_slice-refl, slice_at-some}
use Rattle.mdv_name.specs.SliceIndex.{same_slice}
use Rattle.mdv_plan.specs.Slices.{is_other_db, overlap, overlap_at, share_a_block}
use Rattle.mdv_config.specs.Below.{SliceName, Place, Geometry, SliceAt, SliceLine, HasSlice, One, are_spaced, meets_db, slice_at}
use Rattle.mdv_config.specs.Slices.{IsSound, Overlap}
use Rattle.mdv_config.specs.Table.{IsPlaceOf, IsPlacesOf}

pub shares : (a b : SliceAt) → 0 < a.blocks → 0 < b.blocks → share_a_block a b ≡ true → Overlap a b
shares a b some also is =
    let drive : a.drive.0 ≡ b.drive.0 = grind (arith, nat_tests) in
    let first : a.start < b.start + b.blocks = grind (arith, nat_tests) in
    let second : b.start < a.start + a.blocks = grind (arith, nat_tests) in
    record {
      drive = λ i. record { 0 = drive i };
      block = max a.start b.start;
      in_first = record { first = omega arith; last = omega (arith, some, second) };
      in_second = record { first = omega arith; last = omega (arith, also, first) };
    }

pub never_meets : (g : Geometry) → IsSound g → (name : SliceName) (at : SliceAt) → HasSlice g.slices name at → ((line : SliceLine) → Contains g.slices line → (line.name ≡ name → ⊥) → Overlap line.at at → ⊥) → meets_db g name ≡ false
never_meets g sound name at has apart = false_from_ne_true (meets_db g name) (λ meets.
    let any = Any-from_list_any (is_other_db g name) g.slices meets in
    let line = any.1 in
    let there : Contains g.slices line = (any.0, any.2, any.3) in
    let parts = and_parts (line.at.db && not (same_slice line.name name)) (overlap g line.name name) any.4 in
    let other = not-true (same_slice line.name name) (and_parts line.at.db (not (same_slice line.name name)) parts.0).1 in
    let first = (slice_at-some g line.name line.at sound).1 there in
    let second = (slice_at-some g name at sound).1 has in
    let over : share_a_block line.at at ≡ true = sym (ap (λ (o : Option SliceAt). overlap_at o (slice_at g.slices name)) first ∙ ap (overlap_at (Some line.at)) second) ∙ parts.1 in
    apart line there
    (λ same. absurd (false≢true (sym other ∙ ap (λ (n : SliceName). same_slice n name) same ∙ same_slice-refl name)))
    (shares line.at at (sound.each line.name line.at there).some (sound.each name at has).some over))

well_started : (p : Place) → 0 < p.blocks → p.start ≡ 16 → starts_well p ≡ true
well_started p some first =
    let none : p.start - 16 ≡ 0 = omega (arith, first) in
    let step : (p.start - 16) % p.blocks ≡ 0 = ap (λ (n : ℕ). n % p.blocks) none ∙ zero-mod p.blocks in
    and_from (not (p.blocks == 0)) (nat_le 16 p.start && ((p.start - 16) % p.blocks == 0)) (not_from_false (p.blocks == 0) (ne_eqb p.blocks 0 (λ same. omega (arith, same, some))))
    (and_from (nat_le 16 p.start) ((p.start - 16) % p.blocks == 0) (le-leb 16 p.start (omega (arith, first))) (eq-eqb ((p.start - 16) % p.blocks) 0 step))

spaced : (p : Place) → 0 < p.blocks → p.start ≡ 16 → are_spaced (One (p ∷ [])) ≡ true
spaced p some first =
    let itself : agrees p p ≡ true = or_right (not (same_slice p.slice p.slice)) (p.blocks == p.blocks) (eq-eqb p.blocks p.blocks refl) in
    and_from (starts_well p && (agrees p p && true)) true (and_from (starts_well p) (agrees p p && true) (well_started p some first) (and_from (agrees p p) true itself refl)) refl

pub alone : (g : Geometry) (p : Place) → IsPlaceOf g p → p.start ≡ 16 → IsPlacesOf g (p ∷ [])
alone g p is first = record {
  some = lit≤ tt;
  few = lit≤ tt;
  spaced = spaced p (omega (arith, is.lies.least)) first;
  differ = λ i j d below within. absurd (omega arith);
  each = All-cons (IsPlaceOf g) p [] is (All-nil (IsPlaceOf g));
}
