-- Pieces of a stripe.
use Rattle.std.proofs.Common.{◌≡◌, ℕ, ◌+◌, ◌-◌, ◌*◌, ◌/◌, ◌%◌, ◌<◌, ◌≤◌, List, [], ◌∷◌, length, refl, sym, ◌∙◌, ap, subst, arith}
use Rattle.std.specs.List.{slice_index_or}
use Rattle.std.proofs.lemmas.Nat.{div-mul-add, mod-mul-add, div-add-mod'}
use Rattle.mdv_stripe.specs.Below.{IsPiece, Map, Piece, column_at, column_of, offset_of}
use Rattle.mdv_stripe.specs.declared.leg.Leg.{Leg}
use Rattle.mdv_dev.specs.Together.{LieTogether, LiesAs}
use Rattle.mdv_stripe.specs.Stripes.{IsLeg, depth, least, maps_of, striped, units_of}
use Rattle.mdv_dev.specs.Together.{lies_where}
use Rattle.mdv_stripe.specs.OneCopy.{as_many, column_is, lies_as}
use Rattle.mdv_stripe.proofs.Legs.{legs_match}

-- blocks of one unit lie in one column, one behind another
module _ (interlace at k : ℕ) (some : 0 < interlace) (inside : at % interlace + k < interlace) where
  from_unit : at + k ≡ at / interlace * interlace + (at % interlace + k)
  from_unit = let whole = div-add-mod' at interlace in omega arith

  same_unit : (at + k) / interlace ≡ at / interlace
  same_unit = ap (λ (n : ℕ). n / interlace) from_unit ∙ div-mul-add (at / interlace) interlace (at % interlace + k) inside

  behind_in_unit : (at + k) % interlace ≡ at % interlace + k
  behind_in_unit = ap (λ (n : ℕ). n % interlace) from_unit ∙ mod-mul-add (at / interlace) interlace (at % interlace + k) inside

  same_column : (width : ℕ) → column_of interlace width (at + k) ≡ column_of interlace width at
  same_column width = ap (λ (u : ℕ). u % width) same_unit

  next_offset : (width : ℕ) → offset_of interlace width (at + k) ≡ offset_of interlace width at + k
  next_offset width =
      let here = ap (λ (u : ℕ). u / width * interlace + (at + k) % interlace) same_unit in
      let there = behind_in_unit in omega arith

  unit_lies : (columns : List Map) → at + k < (striped interlace columns).blocks
      → LiesAs (striped interlace columns) (at + k) (column_at columns (column_of interlace (length columns) at)) (offset_of interlace (length columns) at + k)
  unit_lies columns lt =
      let first = subst (λ (i : ℕ). LiesAs (striped interlace columns) (at + k) (column_at columns i) (offset_of interlace (length columns) (at + k))) (same_column (length columns)) (lies_as interlace columns (at + k) some lt) in
      subst (λ (o : ℕ). LiesAs (striped interlace columns) (at + k) (column_at columns (column_of interlace (length columns) at)) o) (next_offset (length columns)) first

-- the component of a leg is its column
module _ {D : Type 0} (map_of : D → Map) (devices : List D) (interlace at : ℕ) (some : 0 < interlace) where
  leg_column : (leg : Leg) → IsLeg interlace (length devices) at leg → leg.component ≡ column_of interlace (length (maps_of map_of devices)) at
  leg_column leg is = is.component ∙ ap (λ (w : ℕ). column_of interlace w at) (sym (as_many map_of devices))

  leg_offset : (leg : Leg) → IsLeg interlace (length devices) at leg → leg.block ≡ offset_of interlace (length (maps_of map_of devices)) at
  leg_offset leg is = is.block ∙ ap (λ (w : ℕ). offset_of interlace w at) (sym (as_many map_of devices))

  pub leg_lies : (leg : Leg) → IsLeg interlace (length devices) at leg → leg.component < length devices → (d : D) → d ≡ slice_index_or devices leg.component d
      → (k : ℕ) → at % interlace + k < interlace → at + k < (striped interlace (maps_of map_of devices)).blocks → LiesAs (striped interlace (maps_of map_of devices)) (at + k) (map_of d) (leg.block + k)
  leg_lies leg is listed d of k inside lt =
      let there = unit_lies interlace at k some inside (maps_of map_of devices) lt in
      let placed = subst (λ (i : ℕ). LiesAs (striped interlace (maps_of map_of devices)) (at + k) (column_at (maps_of map_of devices) i) (offset_of interlace (length (maps_of map_of devices)) at + k)) (sym (leg_column leg is)) there in
      let here = subst (λ (o : ℕ). LiesAs (striped interlace (maps_of map_of devices)) (at + k) (column_at (maps_of map_of devices) leg.component) (o + k)) (sym (leg_offset leg is)) placed in
      subst (λ (w : Map). LiesAs (striped interlace (maps_of map_of devices)) (at + k) w (leg.block + k)) (column_is map_of devices leg.component d listed of) here

-- a component has blocks up to the last of a unit's
pub unit_end : (v w : Map) (at block most interlace : ℕ) → 0 < most → at % interlace + most ≤ interlace
    → ((k : ℕ) → at % interlace + k < interlace → k < most → LiesAs v (at + k) w (block + k)) → block + most ≤ w.blocks
unit_end v w at block most interlace some inside lies =
    let last = lies (most - 1) (omega arith) (omega arith) in
    let below = last.below in omega arith

-- the first blocks of a unit, where a component says that they lie together
pub unit_together : (v w : Map) (at block count most interlace : ℕ) (piece : Piece) → most ≤ count → at % interlace + most ≤ interlace
    → ((k : ℕ) → at % interlace + k < interlace → k < count → LiesAs v (at + k) w (block + k)) → IsPiece w block most piece → LieTogether v at count piece
unit_together v w at block count most interlace piece few inside lies is =
    let within = is.within in
    record {
      some = is.some;
      within = omega arith;
      lies = λ k lt. lies_where v w (at + k) (block + k) piece.drive.0 (piece.block + k) (lies k (omega arith) (omega arith)) (is.lies k lt);
      fits = is.fits;
    }

-- a stripe of one component, and how many blocks of each a wider one takes
pub lone_map : {D : Type 0} (map_of : D → Map) (devices : List D) (interlace : ℕ) (d : D) → length devices ≡ 1 → d ≡ slice_index_or devices 0 d → striped interlace (maps_of map_of devices) ≡ map_of d
lone_map map_of [] interlace d one is = absurd (omega arith)
lone_map map_of (e ∷ []) interlace d one is = ap map_of (sym is)
lone_map map_of (e ∷ f ∷ ds) interlace d one is = absurd (omega arith)

lone_depth : (interlace : ℕ) (columns : List Map) → length columns ≡ 1 → depth interlace columns ≡ least columns
lone_depth interlace [] one = absurd (omega arith)
lone_depth interlace (v ∷ []) one = refl
lone_depth interlace (v ∷ w ∷ vs) one = absurd (omega arith)

wide_depth : (interlace : ℕ) (columns : List Map) → 1 < length columns → depth interlace columns ≡ units_of interlace columns * interlace
wide_depth interlace [] wide = absurd (omega arith)
wide_depth interlace (v ∷ []) wide = absurd (omega arith)
wide_depth interlace (v ∷ w ∷ vs) wide = refl

-- how many blocks there are, by what is counted for one column and for more
pub lone_blocks : (interlace : ℕ) (columns : List Map) (width shortest : ℕ) → length columns ≡ width → width ≡ 1 → shortest ≡ least columns → (striped interlace columns).blocks ≡ width * shortest
lone_blocks interlace columns width shortest same one is =
    legs_match.blocks interlace columns ∙ ap (λ (n : ℕ). n * depth interlace columns) same ∙ ap (λ (n : ℕ). width * n) (lone_depth interlace columns (same ∙ one) ∙ sym is)

pub wide_blocks : (interlace : ℕ) (columns : List Map) (width units : ℕ) → length columns ≡ width → 1 < width → units ≡ units_of interlace columns → (striped interlace columns).blocks ≡ width * (units * interlace)
wide_blocks interlace columns width units same wide is =
    legs_match.blocks interlace columns ∙ ap (λ (n : ℕ). n * depth interlace columns) same
    ∙ ap (λ (n : ℕ). width * n) (wide_depth interlace columns (omega arith) ∙ ap (λ (n : ℕ). n * interlace) (sym is))
