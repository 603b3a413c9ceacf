-- The causes for which columns make no stripe exclude each other.
use Rattle.std.proofs.Common.{◌≡◌, ◌⊎◌, inl, inr, ℕ, ◌<◌, List, refl, arith}
use Rattle.mdv_stripe.specs.Below.{Map}
use Rattle.mdv_stripe.specs.declared.no_stripe.NoStripe.{NoStripe}
use Rattle.mdv_stripe.specs.declared.no_stripe.NoStripe.TheVariants.{TooFew, TooMany, BadInterlace, TooSmall, TooLong}
use Rattle.mdv_stripe.specs.Stripes.{IsInterlace, IsNoStripe, IsStripe}
use Rattle.mdv_stripe.specs.Laws.{CausesExclude}

in_bounds : (interlace : ℕ) → IsInterlace interlace → (interlace < 16) ⊎ (204800 < interlace) → ⊥
in_bounds interlace is (inl short) = let least = is.least in omega arith
in_bounds interlace is (inr long) = let most = is.most in omega arith

one : (interlace : ℕ) (columns : List Map) (a b : NoStripe) → IsNoStripe interlace columns a → IsNoStripe interlace columns b → a ≡ b
one interlace columns TooFew TooFew p q = refl
one interlace columns TooFew TooMany p q = absurd (omega arith)
one interlace columns TooFew BadInterlace p q = absurd (omega arith)
one interlace columns TooFew TooSmall p q = absurd (omega arith)
one interlace columns TooFew TooLong p q = absurd (omega arith)
one interlace columns TooMany TooFew p q = absurd (omega arith)
one interlace columns TooMany TooMany p q = refl
one interlace columns TooMany BadInterlace p q = absurd (omega arith)
one interlace columns TooMany TooSmall p q = absurd (omega arith)
one interlace columns TooMany TooLong p q = absurd (omega arith)
one interlace columns BadInterlace TooFew p q = absurd (omega arith)
one interlace columns BadInterlace TooMany p q = absurd (omega arith)
one interlace columns BadInterlace BadInterlace p q = refl
one interlace columns BadInterlace TooSmall p q = absurd (in_bounds interlace q.1 p.1)
one interlace columns BadInterlace TooLong p q = absurd (in_bounds interlace q.1 p.1)
one interlace columns TooSmall TooFew p q = absurd (omega arith)
one interlace columns TooSmall TooMany p q = absurd (omega arith)
one interlace columns TooSmall BadInterlace p q = absurd (in_bounds interlace p.1 q.1)
one interlace columns TooSmall TooSmall p q = refl
one interlace columns TooSmall TooLong p q = absurd (omega arith)
one interlace columns TooLong TooFew p q = absurd (omega arith)
one interlace columns TooLong TooMany p q = absurd (omega arith)
one interlace columns TooLong BadInterlace p q = absurd (in_bounds interlace p.1 q.1)
one interlace columns TooLong TooSmall p q = absurd (omega arith)
one interlace columns TooLong TooLong p q = refl

none : (interlace units : ℕ) (columns : List Map) (why : NoStripe) → IsNoStripe interlace columns why → IsStripe interlace units columns → ⊥
none interlace units columns TooFew p is = let some = is.width.some in omega arith
none interlace units columns TooMany p is = let most = is.width.most in omega arith
none interlace units columns BadInterlace p is = in_bounds interlace is.unit p.1
none interlace units columns TooSmall p is = let some = is.some in omega (arith, p.2)
none interlace units columns TooLong p is = let bounded = is.bounded in omega (arith, p.2)

pub causes_exclude : CausesExclude
causes_exclude = record { one = one; none = none }
