-- Places that are formatted one behind another: which were, which one comes next, and a state that goes on with each, under whatever claim.
use Rattle.std.proofs.Common.{◌≡◌, ◌⊎◌, ℕ, ◌+◌, ◌<◌, List, [], ◌∷◌, ◌++◌, Contains}
use Rattle.mdv_shelf.specs.Area.{AreApart}
use Rattle.mdv_shown.specs.Site.{line_area}
use Rattle.mdv_acts.specs.Acts.{IsDoing, IsDone, form_on}
use Rattle.mdv_store.specs.Below.{Identity, Key, SliceLine, Spot, Tale, spot_on}

-- of each slice, and of each of its numbers
abbrev pub OfPlaces : Type 1
OfPlaces = SliceLine → ℕ → Type 0

-- This place comes next: those that were formatted lie in front of it on its slice, or on others; and the masters behind it are blank.
pub record IsNext (lines : List SliceLine) (count : ℕ) (Done Blank : OfPlaces) (line : SliceLine) (k : ℕ) : Type 0 where
  pub among : Contains lines line
  pub lt : k < count
  pub beside : (other : SliceLine) (j : ℕ) → Done other j → ((other ≡ line) × (j < k)) ⊎ AreApart (line_area line) (line_area other)
  pub blank : Blank line (k + 1)
  pub front : (k ≡ 0) ⊎ ((j : ℕ) × (k ≡ j + 1) × Done line j)

-- Once it is formatted: these were with it, and of the blank masters these are left.
pub record AreNow (Done Blank : OfPlaces) (line : SliceLine) (k : ℕ) (Next Less : OfPlaces) : Type 0 where
  pub back : (other : SliceLine) (j : ℕ) → Next other j → Done other j ⊎ ((other ≡ line) × (j ≡ k))
  pub to : (other : SliceLine) (j : ℕ) → Done other j → Next other j
  pub new : Next line k
  pub less : (other : SliceLine) (from : ℕ) → Less other from → Blank other from × (((other ≡ line) × (k < from)) ⊎ AreApart (line_area line) (line_area other))

-- the same places in other words
pub record AreThose (Done Blank Other Less : OfPlaces) : Type 0 where
  pub to : (line : SliceLine) (j : ℕ) → Done line j → Other line j
  pub back : (line : SliceLine) (j : ℕ) → Other line j → Done line j
  pub less : (line : SliceLine) (from : ℕ) → Less line from → Blank line from

-- A state of the places that were formatted and of those that are due goes on with the next one; and at each moment something is known.
pub record GoesOn (key : Key) (identity : Identity) (lines : List SliceLine) (count blocks claim : ℕ) (State : OfPlaces → OfPlaces → List Spot → List Spot → Tale → Type 0) (At : Tale → Type 0) : Type 1 where
  pub recast : (Done Blank Other Less : OfPlaces) (part due : List Spot) (u : Tale) → AreThose Done Blank Other Less → State Done Blank part due u → State Other Less part due u
  pub here : (Done Blank : OfPlaces) (part due : List Spot) (u : Tale) → State Done Blank part due u → At u
  pub forming : (Done Blank : OfPlaces) (part due : List Spot) (u : Tale) (line : SliceLine) (k : ℕ) → IsNext lines count Done Blank line k → State Done Blank part (spot_on line blocks k ∷ due) u
      → (m : Tale) → IsDoing (form_on key identity claim line count blocks k) u m → At m
  pub formed : (Done Blank Next Less : OfPlaces) (part due : List Spot) (u : Tale) (line : SliceLine) (k : ℕ) → IsNext lines count Done Blank line k → AreNow Done Blank line k Next Less
      → State Done Blank part (spot_on line blocks k ∷ due) u → (v : Tale) → IsDone (form_on key identity claim line count blocks k) u v → State Next Less (part ++ spot_on line blocks k ∷ []) due v
