-- The blocks of a stripe are those of its columns.
use Rattle.std.proofs.Common.{◌≡◌, ℕ, ◌+◌, ◌*◌, ◌/◌, ◌%◌, ◌<◌, List, [], ◌∷◌, length, refl, sym, ◌∙◌, ap, subst, arith}
use Rattle.std.proofs.lemmas.Nat.{div-mul-add, mod-mul-add, div-add-mod'}
use Rattle.std.proofs.Math.Nat.{mul_assoc, mul_comm}
use Rattle.mdv_map.specs.Maps.{HasDriveBlock, striped_block}
use Rattle.mdv_map.proofs.Striping.{stripes_lie}
use Rattle.mdv_stripe.specs.Below.{AreDisjoint, IsDisjoint, IsOn, Map, column_at, column_of, offset_of}
use Rattle.mdv_stripe.specs.Stripes.{depth, striped, units_of}
use Rattle.mdv_stripe.specs.Laws.{AreApart, IsOnlyBlock, LegsMatch, StripesStand}
use Rattle.mdv_stripe.specs.OneCopy.{at_offset, in_column, lies_as, lone_column, lone_offset, room}

all_blocks : (interlace : ℕ) (columns : List Map) → (striped interlace columns).blocks ≡ length columns * depth interlace columns
all_blocks interlace [] = refl
all_blocks interlace (v ∷ []) = omega arith
all_blocks interlace (v ∷ w ∷ vs) =
    ap (λ (n : ℕ). n * interlace) (mul_comm (units_of interlace (v ∷ w ∷ vs)) (length (v ∷ w ∷ vs))) ∙ mul_assoc (length (v ∷ w ∷ vs)) (units_of interlace (v ∷ w ∷ vs)) interlace

-- a block of a column comes back from the stripe
module _ (interlace width column offset : ℕ) (some : 0 < interlace) (listed : column < width) where
  unit_of : striped_block interlace width column offset / interlace ≡ offset / interlace * width + column
  unit_of = div-mul-add (offset / interlace * width + column) interlace (offset % interlace) (omega arith)

  column_back : column_of interlace width (striped_block interlace width column offset) ≡ column
  column_back = ap (λ (u : ℕ). u % width) unit_of ∙ mod-mul-add (offset / interlace) width column listed

  offset_back : offset_of interlace width (striped_block interlace width column offset) ≡ offset
  offset_back =
      ap (λ (u : ℕ). u / width * interlace + striped_block interlace width column offset % interlace) unit_of
      ∙ ap (λ (r : ℕ). r * interlace + striped_block interlace width column offset % interlace) (div-mul-add (offset / interlace) width column listed)
      ∙ ap (λ (r : ℕ). offset / interlace * interlace + r) (mod-mul-add (offset / interlace * width + column) interlace (offset % interlace) (omega arith))
      ∙ div-add-mod' offset interlace

  only_one : (a : ℕ) → column_of interlace width a ≡ column → offset_of interlace width a ≡ offset → a ≡ striped_block interlace width column offset
  only_one a in_column at_offset =
      sym (stripes_lie.comes_back interlace width a some)
      ∙ ap (λ (c : ℕ). striped_block interlace width c (offset_of interlace width a)) in_column
      ∙ ap (striped_block interlace width column) at_offset

each_block : (interlace : ℕ) (columns : List Map) (column offset : ℕ) → 0 < interlace → column < length columns → offset < depth interlace columns → (b : ℕ) × IsOnlyBlock interlace columns column offset b
each_block interlace [] column offset some listed lt = absurd (omega arith)
each_block interlace (v ∷ []) column offset some listed lt = (
  offset,
  record {
    below = lt;
    in_column = let lone = lone_column interlace offset in omega arith;
    at_offset = lone_offset interlace offset;
    only = λ a here there. sym (lone_offset interlace a) ∙ there;
  },
)
each_block interlace (v ∷ w ∷ vs) column offset some listed lt = (
  striped_block interlace (length (v ∷ w ∷ vs)) column offset,
  record {
    below = stripes_lie.below interlace (units_of interlace (v ∷ w ∷ vs)) (v ∷ w ∷ vs) column offset listed lt;
    in_column = column_back interlace (length (v ∷ w ∷ vs)) column offset some listed;
    at_offset = offset_back interlace (length (v ∷ w ∷ vs)) column offset some listed;
    only = only_one interlace (length (v ∷ w ∷ vs)) column offset some listed;
  },
)

pub legs_match : LegsMatch
legs_match = record {
  blocks = all_blocks;
  room = room;
  column = in_column;
  offset = at_offset;
  lies = lies_as;
  each = each_block;
}

on_drives : (sizes : List ℕ) (interlace : ℕ) (columns : List Map) → 0 < interlace → ((i : ℕ) → i < length columns → IsOn sizes (column_at columns i)) → IsOn sizes (striped interlace columns)
on_drives sizes interlace columns some each b drive block lt has =
    let there = lies_as interlace columns b some lt in
    each (column_of interlace (length columns) b) (in_column interlace columns b some lt) (offset_of interlace (length columns) b) drive block there.below (subst (λ ss. HasDriveBlock ss drive block) there.places has)

apart_from : (interlace : ℕ) (columns : List Map) (u : Map) → 0 < interlace → ((i : ℕ) → i < length columns → AreDisjoint (column_at columns i) u) → AreDisjoint (striped interlace columns) u
apart_from interlace columns u some each a b drive block below above in_a in_b =
    let there = lies_as interlace columns a some below in
    each (column_of interlace (length columns) a) (in_column interlace columns a some below) (offset_of interlace (length columns) a) b drive block there.below above (subst (λ ss. HasDriveBlock ss drive block) there.places in_a) in_b

disjoint : (interlace : ℕ) (columns : List Map) → 0 < interlace → AreApart columns → IsDisjoint (striped interlace columns)
disjoint interlace [] some are = record { apart = λ a b drive block below above in_a in_b. absurd (omega arith); within = λ b drive block below has. absurd (omega arith) }
disjoint interlace (v ∷ []) some are = are.each 0 (omega arith)
disjoint interlace (v ∷ w ∷ vs) some are = stripes_lie.disjoint interlace (units_of interlace (v ∷ w ∷ vs)) (v ∷ w ∷ vs) (record {
  some = some;
  room = λ i k listed lt. let there = room interlace (v ∷ w ∷ vs) i listed in omega arith;
  each = are.each;
  apart = are.apart;
})

pub stripes_stand : StripesStand
stripes_stand = record {
  on = on_drives;
  disjoint = disjoint;
  apart = apart_from;
}
