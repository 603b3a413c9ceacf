-- Stripes whose columns have as many blocks each.
use Rattle.std.proofs.Common.{◌≡◌, ◌⊎◌, inl, inr, ℕ, ◌*◌, ◌/◌, ◌%◌, ◌^◌, ◌<◌, ◌≤◌, List, [], ◌∷◌, length, sym, ◌∙◌, ap, arith}
use Rattle.std.specs.Prelude.{All}
use Rattle.std.proofs.lemmas.List.Elements.{All-head, All-tail}
use Rattle.std.proofs.lemmas.Nat.{div-add-mod'}
use Rattle.std.proofs.Math.Nat.{mul-le-mul_left, mul-le-mul_right}
use Rattle.mdv_stripe.proofs.Legs.{legs_match}
use Rattle.mdv_stripe.specs.Stripes.{IsInterlace, depth as depth_of, least}
use Rattle.mdv_layout.specs.Below.{IsStripe, Map, striped}

abbrev IsDeep : ℕ → Map → Type 0
IsDeep depth v = v.blocks ≡ depth

module _ (depth interlace : ℕ) where
  least_is : (vs : List Map) → 0 < length vs → All (λ (v : Map). v.blocks ≡ depth) vs → least vs ≡ depth
  least_is [] some each = absurd (omega arith)
  least_is (v ∷ []) some each = All-head (IsDeep depth) v [] each
  least_is (v ∷ w ∷ vs) some each =
      let first = All-head (IsDeep depth) v (w ∷ vs) each in
      let rest = least_is (w ∷ vs) (omega arith) (All-tail (IsDeep depth) v (w ∷ vs) each) in omega arith

  whole_units : depth % interlace ≡ 0 → depth / interlace * interlace ≡ depth
  whole_units is = omega (arith, div-add-mod' depth interlace)

  -- all of each is dealt
  depth_is : (vs : List Map) → 0 < length vs → All (λ (v : Map). v.blocks ≡ depth) vs → (length vs ≡ 1) ⊎ (depth % interlace ≡ 0) → depth_of interlace vs ≡ depth
  depth_is [] some each units = absurd (omega arith)
  depth_is (v ∷ []) some each units = All-head (IsDeep depth) v [] each
  depth_is (v ∷ w ∷ vs) some each (inl one) = absurd (omega arith)
  depth_is (v ∷ w ∷ vs) some each (inr whole) = ap (λ (n : ℕ). n / interlace * interlace) (least_is (v ∷ w ∷ vs) some each) ∙ whole_units whole

  pub blocks_are : (vs : List Map) → 0 < length vs → All (λ (v : Map). v.blocks ≡ depth) vs → (length vs ≡ 1) ⊎ (depth % interlace ≡ 0) → (striped interlace vs).blocks ≡ length vs * depth
  blocks_are vs some each units = legs_match.blocks interlace vs ∙ ap (λ (n : ℕ). length vs * n) (depth_is vs some each units)

  -- a product of such numbers
  times_some : (width : ℕ) → 0 < width → 0 < depth → 0 < width * depth
  times_some width some deep = let more = mul-le-mul_left {m = 1} {n = depth} width (omega arith) in omega arith

  pub times_few : (width most : ℕ) → width ≤ most → depth ≤ 2 ^ 40 → width * depth ≤ most * 2 ^ 40
  times_few width most few deep =
      let one = mul-le-mul_left width deep in
      let other = mul-le-mul_right {m = width} {n = most} (2 ^ 40) few in omega arith

  pub stripe_is : (vs : List Map) → 0 < length vs → length vs ≤ 100 → All (λ (v : Map). v.blocks ≡ depth) vs → (length vs ≡ 1) ⊎ (depth % interlace ≡ 0) → 0 < depth → depth ≤ 2 ^ 40 → IsInterlace interlace → IsStripe interlace (depth / interlace) vs
  stripe_is vs some few each units deep short unit = record {
    width = record { some = some; most = few };
    unit = unit;
    dealt = ap (λ (n : ℕ). n / interlace) (sym (least_is vs some each));
    some = (let more = times_some (length vs) some deep in omega (arith, blocks_are vs some each units));
    bounded = (let less = times_few (length vs) 100 few short in omega (arith, blocks_are vs some each units));
  }
