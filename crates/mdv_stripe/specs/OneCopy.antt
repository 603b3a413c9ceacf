-- Each block of a stripe is one block of a column, and has one copy where those of its components have.
use Rattle.std.specs.Prelude.{◌≡◌, ℕ, zero, suc, ◌+◌, ◌*◌, ◌/◌, ◌%◌, ◌<◌, ◌≤◌, List, [], ◌∷◌, length, refl}
use Rattle.std.specs.List.{All, slice_index_or}
use Rattle.std.proofs.Common.{sym, ◌∙◌, ap, subst, arith}
use Rattle.std.proofs.lemmas.List.{length-map, get_or-map}
use Rattle.std.proofs.lemmas.List.Elements.{All-get_or}
use Rattle.std.proofs.lemmas.Nat.{div-add-mod'}
use Rattle.std.proofs.Math.Nat.{div-mul-le_self, div-one}
use Rattle.mdv_map.proofs.Striping.{stripes_lie}
use Rattle.mdv_stripe.specs.Below.{IsOneCopy, LiesAt, Map, column_at, column_of, no_map, offset_of}
use Rattle.mdv_dev.specs.Together.{LiesAs, lies_where}
use Rattle.mdv_stripe.specs.Stripes.{IsStripe, depth, least, maps_of, striped, units_of}

-- no column is shorter than the shortest one
pub least_below : (columns : List Map) (i : ℕ) → i < length columns → least columns ≤ (column_at columns i).blocks
least_below [] i lt = absurd (omega arith)
least_below (v ∷ []) zero lt = omega arith
least_below (v ∷ []) (suc i) lt = absurd (omega arith)
least_below (v ∷ w ∷ vs) zero lt = omega arith
least_below (v ∷ w ∷ vs) (suc i) lt = let there = least_below (w ∷ vs) i (omega arith) in omega arith

-- each has the blocks that the stripe takes of it
pub room : (interlace : ℕ) (columns : List Map) (i : ℕ) → i < length columns → depth interlace columns ≤ (column_at columns i).blocks
room interlace [] i lt = absurd (omega arith)
room interlace (v ∷ []) zero lt = omega arith
room interlace (v ∷ []) (suc i) lt = absurd (omega arith)
room interlace (v ∷ w ∷ vs) i lt =
    let whole = div-mul-le_self (least (v ∷ w ∷ vs)) interlace in
    let short = least_below (v ∷ w ∷ vs) i lt in omega arith

-- a lone column is dealt all units, each where it stands
pub lone_column : (interlace b : ℕ) → column_of interlace 1 b ≡ 0
lone_column interlace b = omega arith

pub lone_offset : (interlace b : ℕ) → offset_of interlace 1 b ≡ b
lone_offset interlace b = ap (λ (r : ℕ). r * interlace + b % interlace) (div-one (b / interlace)) ∙ div-add-mod' b interlace

pub in_column : (interlace : ℕ) (columns : List Map) (b : ℕ) → 0 < interlace → b < (striped interlace columns).blocks → column_of interlace (length columns) b < length columns
in_column interlace [] b some lt = absurd (omega arith)
in_column interlace (v ∷ []) b some lt = omega (arith, lone_column interlace b)
in_column interlace (v ∷ w ∷ vs) b some lt = stripes_lie.column interlace (units_of interlace (v ∷ w ∷ vs)) (length (v ∷ w ∷ vs)) b some (omega arith) lt

pub at_offset : (interlace : ℕ) (columns : List Map) (b : ℕ) → 0 < interlace → b < (striped interlace columns).blocks → offset_of interlace (length columns) b < depth interlace columns
at_offset interlace [] b some lt = absurd (omega arith)
at_offset interlace (v ∷ []) b some lt = omega (arith, lone_offset interlace b)
at_offset interlace (v ∷ w ∷ vs) b some lt = stripes_lie.offset interlace (units_of interlace (v ∷ w ∷ vs)) (length (v ∷ w ∷ vs)) b some (omega arith) lt

-- it lies where that block of its column lies
pub lies_as : (interlace : ℕ) (columns : List Map) (b : ℕ) → 0 < interlace → b < (striped interlace columns).blocks
    → LiesAs (striped interlace columns) b (column_at columns (column_of interlace (length columns) b)) (offset_of interlace (length columns) b)
lies_as interlace [] b some lt = absurd (omega arith)
lies_as interlace (v ∷ []) b some lt = record {
  below = subst (λ (i : ℕ). offset_of interlace 1 b < (column_at (v ∷ []) i).blocks) (sym (lone_column interlace b)) (omega (arith, lone_offset interlace b));
  copies = ap v.copies (sym (lone_offset interlace b)) ∙ ap (λ (i : ℕ). (column_at (v ∷ []) i).copies (offset_of interlace 1 b)) (sym (lone_column interlace b));
  places = ap v.places (sym (lone_offset interlace b)) ∙ ap (λ (i : ℕ). (column_at (v ∷ []) i).places (offset_of interlace 1 b)) (sym (lone_column interlace b));
}
lies_as interlace (v ∷ w ∷ vs) b some lt =
    let listed = in_column interlace (v ∷ w ∷ vs) b some lt in
    let dealt = at_offset interlace (v ∷ w ∷ vs) b some lt in
    let there = room interlace (v ∷ w ∷ vs) (column_of interlace (length (v ∷ w ∷ vs)) b) listed in
    record { below = omega arith; copies = refl; places = refl }

-- the map of a component is its column
module _ {D : Type 0} (map_of : D → Map) where
  pub as_many : (devices : List D) → length (maps_of map_of devices) ≡ length devices
  as_many devices = length-map devices map_of

  pub column_is : (devices : List D) (i : ℕ) (d : D) → i < length devices → d ≡ slice_index_or devices i d → column_at (maps_of map_of devices) i ≡ map_of d
  column_is devices i d lt is = get_or-map map_of devices i d no_map lt ∙ ap map_of (sym is)

  module _ (IsWell : D → Type 0) (one : (d : D) → IsWell d → IsOneCopy (map_of d)) where
    -- what lies as a block of a column has one copy
    lies_once : (devices : List D) → All IsWell devices → (i : ℕ) → i < length (maps_of map_of devices) → (v : Map) (b a : ℕ) → LiesAs v b (column_at (maps_of map_of devices) i) a
        → (drive : ℕ) × (block : ℕ) × LiesAt v b drive block
    lies_once [] each i lt v b a lies = absurd (omega arith)
    lies_once (d ∷ ds) each i lt v b a lies =
        let listed : i < length (d ∷ ds) = omega (arith, as_many (d ∷ ds)) in
        let same = get_or-map map_of (d ∷ ds) i d no_map listed in
        let there = subst (λ (w : Map). LiesAs v b w a) same lies in
        let at = one (slice_index_or (d ∷ ds) i d) (All-get_or IsWell (d ∷ ds) i d listed each) a there.below in
        (at.0, at.1, lies_where v (map_of (slice_index_or (d ∷ ds) i d)) b a at.0 at.1 there at.2)

    pub stripe_one : (interlace units : ℕ) (devices : List D) → All IsWell devices → IsStripe interlace units (maps_of map_of devices) → IsOneCopy (striped interlace (maps_of map_of devices))
    stripe_one interlace units devices each is b below =
        let long = is.unit.least in
        let some : 0 < interlace = omega arith in
        lies_once devices each (column_of interlace (length (maps_of map_of devices)) b) (in_column interlace (maps_of map_of devices) b some below)
        (striped interlace (maps_of map_of devices)) b (offset_of interlace (length (maps_of map_of devices)) b) (lies_as interlace (maps_of map_of devices) b some below)
