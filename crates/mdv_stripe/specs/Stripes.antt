-- Stripes: which of their columns' blocks are theirs, and what is no stripe.
use Rattle.std.specs.Prelude.{◌≡◌, ◌⊎◌, ℕ, ◌*◌, ◌/◌, ◌^◌, ◌<◌, ◌≤◌, List, [], ◌∷◌, length, map, min}
use Rattle.mdv_stripe.specs.Below.{Map, column_of, no_map, offset_of, stripe_map}
use Rattle.mdv_stripe.specs.declared.leg.Leg.{Leg}
use Rattle.mdv_stripe.specs.declared.no_stripe.NoStripe.{NoStripe}
use Rattle.mdv_stripe.specs.declared.no_stripe.NoStripe.TheVariants.{TooFew, TooMany, BadInterlace, TooSmall, TooLong}

-- the maps of some devices: the columns of a stripe
abbrev pub maps_of : {D : Type 0} → (D → Map) → List D → List Map
maps_of map_of devices = map map_of devices

-- how many blocks the shortest column has
abbrev pub least : List Map → ℕ
least [] = 0
least (v ∷ []) = v.blocks
least (v ∷ w ∷ vs) = min v.blocks (least (w ∷ vs))

-- how many units of each column are dealt: as many as the shortest one has whole
abbrev pub units_of : ℕ → List Map → ℕ
units_of interlace columns = least columns / interlace

-- a stripe of one column is all of it; of a wider one units are dealt to the columns in turn
abbrev pub striped : ℕ → List Map → Map
striped interlace [] = no_map
striped interlace (v ∷ []) = v
striped interlace (v ∷ w ∷ vs) = stripe_map interlace (units_of interlace (v ∷ w ∷ vs)) (v ∷ w ∷ vs)

-- how many blocks of each column are blocks of the stripe
abbrev pub depth : ℕ → List Map → ℕ
depth interlace [] = 0
depth interlace (v ∷ []) = v.blocks
depth interlace (v ∷ w ∷ vs) = units_of interlace (v ∷ w ∷ vs) * interlace

-- one column to a hundred
pub record IsWidth (width : ℕ) : Type 0 where
  pub some : 0 < width
  pub most : width ≤ 100

-- 16 to 204800 blocks
pub record IsInterlace (interlace : ℕ) : Type 0 where
  pub least : 16 ≤ interlace
  pub most : interlace ≤ 204800

-- these columns with units of so many blocks, of which each has so many
pub record IsStripe (interlace units : ℕ) (columns : List Map) : Type 0 where
  pub width : IsWidth (length columns)
  pub unit : IsInterlace interlace
  pub dealt : units ≡ units_of interlace columns
  pub some : 0 < (striped interlace columns).blocks
  pub bounded : (striped interlace columns).blocks < 2 ^ 64

-- why there is none of these columns; each cause comes where those before it don't
abbrev pub IsNoStripe : ℕ → List Map → NoStripe → Type 0
IsNoStripe interlace columns TooFew = length columns ≡ 0
IsNoStripe interlace columns TooMany = 100 < length columns
IsNoStripe interlace columns BadInterlace = IsWidth (length columns) × ((interlace < 16) ⊎ (204800 < interlace))
IsNoStripe interlace columns TooSmall = IsWidth (length columns) × IsInterlace interlace × ((striped interlace columns).blocks ≡ 0)
IsNoStripe interlace columns TooLong = IsWidth (length columns) × IsInterlace interlace × (2 ^ 64 ≤ (striped interlace columns).blocks)

-- Block b is of unit b / interlace; units are dealt to the columns in turn, so unit q is of column q mod width, the unit q / width there.
pub record IsLeg (interlace width b : ℕ) (leg : Leg) : Type 0 where
  pub component : leg.component ≡ column_of interlace width b
  pub block : leg.block ≡ offset_of interlace width b
