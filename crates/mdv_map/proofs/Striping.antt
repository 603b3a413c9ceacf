-- Stripes: a block lies in one block of one column.
use Rattle.std.proofs.Common.{◌≡◌, ◌⊎◌, inl, inr, ℕ, zero, suc, ◌+◌, ◌*◌, ◌/◌, ◌%◌, ◌<◌, ◌≤◌, true, false, List, length, nat_eq, refl, sym, ◌∙◌, ap, subst, arith}
use Rattle.std.proofs.lemmas.Bool.Decides.{nat_tests}
use Rattle.std.proofs.lemmas.Nat.{div_below, div-mul-add, mod-mul-add, div-add-mod'}
use Rattle.std.proofs.Math.Nat.{mul-le-mul_right}
use Rattle.mdv_shelf.proofs.Blocks.{both_ways}
use Rattle.mdv_map.specs.Maps.{Map, HasDriveBlock, IsDisjoint, AreDisjoint, AreColumns, column_at, column_of, offset_of, striped_block, stripe_map}
use Rattle.mdv_map.specs.Laws.{StripesLie}

rest_below : (n m : ℕ) → 0 < m → n % m < m
rest_below n m some = omega arith

-- a quotient is below a number where the product is above
quotient_below : (n m count : ℕ) → 0 < m → n < count * m → n / m < count
quotient_below n m count some lt = div_below n m count some lt

row_end : (row rest interlace units : ℕ) → rest < interlace → row < units → row * interlace + rest < units * interlace
row_end row rest interlace units below lt =
    let first : row + 1 ≤ units = omega arith in
    let whole : (row + 1) * interlace ≤ units * interlace = mul-le-mul_right interlace first in omega arith

column_below : (interlace units width b : ℕ) → 0 < interlace → 0 < width → b < units * width * interlace → column_of interlace width b < width
column_below interlace units width b some wide lt = rest_below (b / interlace) width wide

offset_below : (interlace units width b : ℕ) → 0 < interlace → 0 < width → b < units * width * interlace → offset_of interlace width b < units * interlace
offset_below interlace units width b some wide lt =
    row_end (b / interlace / width) (b % interlace) interlace units (rest_below b interlace some)
    (quotient_below (b / interlace) width units wide (quotient_below b interlace (units * width) some lt))

comes_back : (interlace width b : ℕ) → 0 < interlace → striped_block interlace width (column_of interlace width b) (offset_of interlace width b) ≡ b
comes_back interlace width b some =
    let rest = rest_below b interlace some in
    let row : offset_of interlace width b / interlace ≡ b / interlace / width = div-mul-add (b / interlace / width) interlace (b % interlace) rest in
    let same : offset_of interlace width b % interlace ≡ b % interlace = mod-mul-add (b / interlace / width) interlace (b % interlace) rest in
    ap (λ (r : ℕ). (r * width + column_of interlace width b) * interlace + offset_of interlace width b % interlace) row
    ∙ ap (λ (r : ℕ). (b / interlace / width * width + b / interlace % width) * interlace + r) same
    ∙ ap (λ (u : ℕ). u * interlace + b % interlace) (div-add-mod' (b / interlace) width)
    ∙ div-add-mod' b interlace

equal : (a b : ℕ) → nat_eq a b ≡ true → a ≡ b
equal a b is = grind (arith, nat_tests)

different : (a b : ℕ) → nat_eq a b ≡ false → a ≡ b → ⊥
different a b not is = grind (arith, nat_tests)

some_factor : (units interlace offset : ℕ) → offset < units * interlace → 0 < interlace
some_factor units zero offset lt = absurd (omega arith)
some_factor units (suc interlace) offset lt = omega arith

some_column : (units width interlace b : ℕ) → b < units * width * interlace → 0 < width
some_column units zero interlace b lt = absurd (omega arith)
some_column units (suc width) interlace b lt = omega arith

module _ (interlace units : ℕ) (columns : List Map) (are : AreColumns interlace units columns) where
  abbrev Width : ℕ
  Width = length columns

  -- a stripe without a column has no block
  wide : (b : ℕ) → b < units * Width * interlace → 0 < Width
  wide b lt = some_column units Width interlace b lt

  same_column : (i j : ℕ) → (i ≡ j) ⊎ (i ≡ j → ⊥)
  same_column i j = elim (both_ways (nat_eq i j)) [ inl does ↦ inl (equal i j does) | inr not ↦ inr (different i j not) ]

  stripe_disjoint : IsDisjoint (stripe_map interlace units columns)
  stripe_disjoint = record {
    apart = λ a b drive block below above in_a in_b.
        let a_column = column_below interlace units Width a are.some (wide a below) below in
        let b_column = column_below interlace units Width b are.some (wide b above) above in
        let a_room = are.room (column_of interlace Width a) (offset_of interlace Width a) a_column (offset_below interlace units Width a are.some (wide a below) below) in
        let b_room = are.room (column_of interlace Width b) (offset_of interlace Width b) b_column (offset_below interlace units Width b are.some (wide b above) above) in
        elim (same_column (column_of interlace Width a) (column_of interlace Width b)) [
          | inl same ↦
              let moved = subst (λ (i : ℕ). HasDriveBlock ((column_at columns i).places (offset_of interlace Width b)) drive block) (sym same) in_b in
              let room = subst (λ (i : ℕ). offset_of interlace Width b < (column_at columns i).blocks) (sym same) b_room in
              let offsets = (are.each (column_of interlace Width a) a_column).apart (offset_of interlace Width a) (offset_of interlace Width b) drive block a_room room in_a moved in
              sym (comes_back interlace Width a are.some)
              ∙ ap (λ (c : ℕ). striped_block interlace Width c (offset_of interlace Width a)) same
              ∙ ap (λ (o : ℕ). striped_block interlace Width (column_of interlace Width b) o) offsets
              ∙ comes_back interlace Width b are.some
          | inr not ↦ absurd (are.apart (column_of interlace Width a) (column_of interlace Width b) a_column b_column not (offset_of interlace Width a) (offset_of interlace Width b) drive block a_room b_room in_a in_b)
        ];
    within = λ b drive block below has.
        let column = column_below interlace units Width b are.some (wide b below) below in
        let room = are.room (column_of interlace Width b) (offset_of interlace Width b) column (offset_below interlace units Width b are.some (wide b below) below) in
        (are.each (column_of interlace Width b) column).within (offset_of interlace Width b) drive block room has;
  }

  stripe_apart : (u : Map) → ((i : ℕ) → i < length columns → AreDisjoint (column_at columns i) u) → AreDisjoint (stripe_map interlace units columns) u
  stripe_apart u each a b drive block below above in_a in_b =
      let column = column_below interlace units Width a are.some (wide a below) below in
      let room = are.room (column_of interlace Width a) (offset_of interlace Width a) column (offset_below interlace units Width a are.some (wide a below) below) in
      each (column_of interlace Width a) column (offset_of interlace Width a) b drive block room above in_a in_b

-- a block of a column lies in the stripe
module _ (interlace units width column offset : ℕ) (listed : column < width) (lt : offset < units * interlace) where
  some_block : 0 < interlace
  some_block = some_factor units interlace offset lt

  rest : offset % interlace < interlace
  rest = rest_below offset interlace some_block

  row_below : offset / interlace < units
  row_below = quotient_below offset interlace units some_block lt

  unit_below : offset / interlace * width + column < units * width
  unit_below = row_end (offset / interlace) column width units listed row_below

  block_below : striped_block interlace width column offset < units * width * interlace
  block_below = row_end (offset / interlace * width + column) (offset % interlace) interlace (units * width) rest unit_below

  unit_of : striped_block interlace width column offset / interlace ≡ offset / interlace * width + column
  unit_of = div-mul-add (offset / interlace * width + column) interlace (offset % interlace) rest

  column_back : column_of interlace width (striped_block interlace width column offset) ≡ column
  column_back = ap (λ (u : ℕ). u % width) unit_of ∙ mod-mul-add (offset / interlace) width column listed

  offset_back : offset_of interlace width (striped_block interlace width column offset) ≡ offset
  offset_back =
      ap (λ (u : ℕ). u / width * interlace + striped_block interlace width column offset % interlace) unit_of
      ∙ ap (λ (r : ℕ). r * interlace + striped_block interlace width column offset % interlace) (div-mul-add (offset / interlace) width column listed)
      ∙ ap (λ (r : ℕ). offset / interlace * interlace + r) (mod-mul-add (offset / interlace * width + column) interlace (offset % interlace) rest)
      ∙ div-add-mod' offset interlace

module _ (interlace units : ℕ) (columns : List Map) (column offset : ℕ) (listed : column < length columns) (lt : offset < units * interlace) where
  lies_there : (stripe_map interlace units columns).places (striped_block interlace (length columns) column offset) ≡ (column_at columns column).places offset
  lies_there =
      ap (λ (i : ℕ). (column_at columns i).places (offset_of interlace (length columns) (striped_block interlace (length columns) column offset))) (column_back interlace units (length columns) column offset listed lt)
      ∙ ap (column_at columns column).places (offset_back interlace units (length columns) column offset listed lt)

  read_there : (stripe_map interlace units columns).copies (striped_block interlace (length columns) column offset) ≡ (column_at columns column).copies offset
  read_there =
      ap (λ (i : ℕ). (column_at columns i).copies (offset_of interlace (length columns) (striped_block interlace (length columns) column offset))) (column_back interlace units (length columns) column offset listed lt)
      ∙ ap (column_at columns column).copies (offset_back interlace units (length columns) column offset listed lt)

pub stripes_lie : StripesLie
stripes_lie = record {
  column = column_below;
  offset = offset_below;
  comes_back = comes_back;
  below = λ interlace units columns column offset listed lt. block_below interlace units (length columns) column offset listed lt;
  lies = lies_there;
  copies = read_there;
  blocks = λ interlace units columns. refl;
  disjoint = stripe_disjoint;
  apart = λ interlace units columns u are each. stripe_apart interlace units columns are u each;
}
