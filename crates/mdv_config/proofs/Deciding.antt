-- The tests of the specs hold exactly where what they ask is so.
use Rattle.std.proofs.Common.{◌≡◌, ◌<◌, ◌+◌, Bool, true, false, max, min, refl, ◌∙◌, ap, List, Option, None, Some, Contains, arith}
use Rattle.std.proofs.lemmas.Bool.Decides.{nat_tests}
use Rattle.std.proofs.lemmas.List.Folds.{list_any-from_Any}
use Rattle.std.specs.Prelude.{◌↔◌}
use Rattle.std.specs.List.{list_any}
use Rattle.mdv_name.proofs.Finding.{slice_at-some}
use Rattle.mdv_config.specs.Below.{SliceName, Geometry, SliceAt, slice_at}
use Rattle.mdv_config.specs.Slices.{IsSound, Overlap, Overlaps, both_share, overlaps_by, share_a_block}

pub share_a_block-true : (a b : SliceAt) → share_a_block a b ≡ true ↔ Overlap a b
share_a_block-true a b = (shared, meet)
  where
    shared : share_a_block a b ≡ true → Overlap a b
    shared is =
        let drive : a.drive.0 ≡ b.drive.0 = grind (arith, nat_tests) in
        let room : max a.start b.start < min (a.start + a.blocks) (b.start + b.blocks) = grind (arith, nat_tests) in
        record {
          drive = λ i. record { 0 = drive i };
          block = max a.start b.start;
          in_first = record { first = omega arith; last = omega (arith, room) };
          in_second = record { first = omega arith; last = omega (arith, room) };
        }

    meet : Overlap a b → share_a_block a b ≡ true
    meet over =
        let drive : a.drive.0 ≡ b.drive.0 = λ i. (over.drive i).0 in
        let room : max a.start b.start < min (a.start + a.blocks) (b.start + b.blocks) = omega (arith, over.in_first.first, over.in_first.last, over.in_second.first, over.in_second.last) in
        grind (arith, nat_tests)

-- the tests of an element, as what is asked of it
pub some_of : {X : Type 0} (p : X → Bool) (xs : List X) (x : X) → Contains xs x → p x ≡ true → list_any p xs ≡ true
some_of p xs x has is = list_any-from_Any p xs (has.0, x, has.1, has.2, is)

module _ (g : Geometry) (sound : IsSound g) where
  pub overlaps_by-true : (m n : SliceName) → overlaps_by g.slices m n ≡ true ↔ Overlaps g.slices m n
  overlaps_by-true m n = (found (slice_at g.slices m) (slice_at g.slices n) refl refl, meet)
    where
      found : (x y : Option SliceAt) → slice_at g.slices m ≡ x → slice_at g.slices n ≡ y → both_share x y ≡ true → Overlaps g.slices m n
      found (Some a) (Some b) first second is = record {
        first = a;
        second = b;
        has_first = (slice_at-some g m a sound).0 first;
        has_second = (slice_at-some g n b sound).0 second;
        overlap = (share_a_block-true a b).0 is;
      }
      found (Some a) None first second is = cc
      found None y first second is = cc

      meet : Overlaps g.slices m n → overlaps_by g.slices m n ≡ true
      meet over =
          let first = (slice_at-some g m over.first sound).1 over.has_first in
          let second = (slice_at-some g n over.second sound).1 over.has_second in
          ap (λ (o : Option SliceAt). both_share o (slice_at g.slices n)) first ∙ ap (both_share (Some over.first)) second ∙ (share_a_block-true over.first over.second).1 over.overlap

-- a test that doesn't hold is false
pub not_so : {P : Type 0} (b : Bool) → b ≡ true ↔ P → (P → ⊥) → b ≡ false
not_so true test none = absurd (none (test.0 refl))
not_so false test none = refl
