-- Masters are blanked, and then places are formatted: what is known by each moment, and the state in the end.
use Rattle.std.proofs.Common.{inl, inr, ℕ, ◌≤◌, List, [], ◌∷◌, Contains}
use Rattle.mdv_acts.proofs.Acting.{done_split, doing_split}
use Rattle.mdv_acts.specs.Acts.{Act, AreDoing, AreDone, acts_asked, blanks_asked, forms_asked}
use Rattle.mdv_store.specs.Below.{Geometry, Identity, Key, Site, SliceLine, Spot, Tale, site_of}
use Rattle.mdv_store.proofs.Blanks.{StayDark}
use Rattle.mdv_store.proofs.Clearing.{StaysKnown, all_cleared, all_clearing, dark_known, dark_now, may_put}
use Rattle.mdv_store.proofs.Given.{ArePairsApart}
use Rattle.mdv_store.proofs.Places.{GoesOn, OfPlaces}
use Rattle.mdv_store.proofs.Putting.{ArePut, IsGiven, Puts, put_steps}
use Rattle.mdv_store.proofs.Slices.{Begun, Ended, all_formed, all_forming}

-- the end of acts is a moment
pub doing_end : (acts : List Act) (t u : Tale) → AreDone acts t u → AreDoing acts t u
doing_end [] t u is = is
doing_end (a ∷ acts) t u is = inr (inr (is.0, is.1, doing_end acts is.0 u is.2))

-- something is known while masters are blanked, a state begins there, and goes on with each place
module _ (key : Key) (identity : Identity) (lines : List SliceLine) (count blocks claim : ℕ) (some : 1 ≤ count) (pairs : ArePairsApart lines) (State : OfPlaces → OfPlaces → List Spot → List Spot → Tale → Type 0) (At : Tale → Type 0)
    (steps : GoesOn key identity lines count blocks claim State At) (site : Site) (Known : Tale → Type 0) (stays : StaysKnown site lines count blocks Known) (t : Tale) (known : Known t) (as_moment : (m : Tale) → Known m → At m)
    (begins : (u : Tale) → AreDone (blanks_asked lines count blocks) t u → Known u → Begun key identity lines count blocks claim State At steps u) where
  begun : (u : Tale) → AreDone (blanks_asked lines count blocks) t u → Begun key identity lines count blocks claim State At steps u
  begun u is = begins u is (all_cleared site lines count blocks some Known stays t known u is).known

  pub at_each : (m : Tale) → AreDoing (acts_asked key identity claim lines count blocks) t m → At m
  at_each m is = elim (doing_split (blanks_asked lines count blocks) (forms_asked key identity claim lines count blocks) t m is) [
    | inl here ↦ as_moment m (all_clearing site lines count blocks some Known stays t known m here)
    | inr behind ↦ all_forming key identity lines count blocks claim State At steps pairs behind.0 (begun behind.0 behind.1) m behind.2
  ]

  pub at_end : (v : Tale) → AreDone (acts_asked key identity claim lines count blocks) t v → Ended key identity lines count blocks claim State At steps v
  at_end v is =
      let two = done_split (blanks_asked lines count blocks) (forms_asked key identity claim lines count blocks) t v is in
      all_formed key identity lines count blocks claim State At steps pairs two.0 (begun two.0 two.1) v two.2

-- What shows no table shows none, and in the end each place has its replica.
module _ (g : Geometry) (key : Key) (identity : Identity) (lines : List SliceLine) (count blocks claim : ℕ) (given : IsGiven g key identity lines count blocks claim) (some : 1 ≤ count) (pairs : ArePairsApart lines) (t : Tale) where
  abbrev dark : StaysKnown (site_of g key) lines count blocks (StayDark g key identity t)
  dark = dark_known g key identity lines count blocks claim given some t

  abbrev dark_here : StayDark g key identity t t
  dark_here = dark_now g key identity lines count blocks claim given some t

  pub blanked_put : (u : Tale) → AreDone (blanks_asked lines count blocks) t u → ArePut g key identity lines count blocks claim t (λ other j. ⊥) (λ other from. Contains lines other × (1 ≤ from)) u
  blanked_put u is = may_put g key identity lines count blocks claim given some t u (all_cleared (site_of g key) lines count blocks some (StayDark g key identity t) dark t dark_here u is)

  abbrev pub PutsEnded : Tale → Type 0
  PutsEnded = Ended key identity lines count blocks claim (Puts g key identity lines count blocks claim given t) (StayDark g key identity t) (put_steps g key identity lines count blocks claim given t)

  pub dark_each : (m : Tale) → AreDoing (acts_asked key identity claim lines count blocks) t m → StayDark g key identity t m
  dark_each =
      at_each key identity lines count blocks claim some pairs (Puts g key identity lines count blocks claim given t) (StayDark g key identity t) (put_steps g key identity lines count blocks claim given t) (site_of g key) (StayDark g key identity t) dark t dark_here
      (λ m known. known) (λ u is known. blanked_put u is)

  pub put_end : (v : Tale) → AreDone (acts_asked key identity claim lines count blocks) t v → PutsEnded v
  put_end =
      at_end key identity lines count blocks claim some pairs (Puts g key identity lines count blocks claim given t) (StayDark g key identity t) (put_steps g key identity lines count blocks claim given t) (site_of g key) (StayDark g key identity t) dark t dark_here
      (λ m known. known) (λ u is known. blanked_put u is)
