-- Places are formatted for a database, one behind another: how all others stand, and what may still be taken from them.
use Rattle.std.proofs.Common.{◌≡◌, ◌⊎◌, inl, inr, ℕ, ◌+◌, List, ◌∷◌, Contains, sym, subst}
use Rattle.mdv_replica.specs.Images.{MayFormat}
use Rattle.mdv_replica.specs.declared.forms.Master.{Master}
use Rattle.mdv_replica.proofs.Leaving.{leaves_formatting}
use Rattle.mdv_shelf.specs.Everywhere.{Leaves}
use Rattle.mdv_shown.specs.Formats.{master_on}
use Rattle.mdv_standing.specs.Forming.{IsBehind}
use Rattle.mdv_standing.specs.Holding.{IsOneOf}
use Rattle.mdv_standing.specs.Rest.{RestMayBeTaken, RestStands}
use Rattle.mdv_standing.proofs.Blanking.{first_taken, later_taken}
use Rattle.mdv_standing.proofs.Rest.{rest_first, rest_later}
use Rattle.mdv_acts.specs.Acts.{IsDoing, form_on}
use Rattle.mdv_store.specs.Below.{Database, Geometry, Identity, Key, PlaceAt, Site, SliceLine, Spot, Tale, place_on, site_of, spot_on}
use Rattle.mdv_store.specs.Records.{Spells}
use Rattle.mdv_store.proofs.Locating.{first_of}
use Rattle.mdv_store.proofs.Places.{GoesOn, IsNext, OfPlaces}
use Rattle.mdv_store.proofs.Putting as put
use Rattle.mdv_store.proofs.Putting.{ArePut, IsGiven, behind_here, format_here, one_put, put_recast}

module _ (g : Geometry) (all : List Database) (key : Key) (identity : Identity) (lines : List SliceLine) (count blocks claim : ℕ) (given : IsGiven g key identity lines count blocks claim) (one_of : IsOneOf all key identity) where
  abbrev site : Site
  site = site_of g key

  abbrev Rests : Tale → Type 0
  Rests = RestStands (Spells g) g all identity

  abbrev Takes : SliceLine → Tale → Type 0
  Takes line = RestMayBeTaken (Spells g) g all identity line

  -- One place is formatted.
  module _ (line : SliceLine) (k : ℕ) where
    abbrev at : PlaceAt
    at = place_on line blocks count k

    abbrev master : Master
    master = master_on site identity line blocks count k

    pub record IsResting (u : Tale) : Type 0 where
      pub rests : (m : Tale) → Leaves (MayFormat at master claim) u m → Rests m
      pub takes : (m : Tale) → Leaves (MayFormat at master claim) u m → (other : SliceLine) → Takes other u → Takes other m

  -- the first place of a slice, whatever first master it has
  pub first_rest : (line : SliceLine) (u : Tale) → put.FormatAt g key identity lines count blocks claim line 0 u → Rests u → Takes line u → IsResting line 0 u
  first_rest line u format rest taken = record {
    rests = λ m leaves image is.
        let from = leaves image is in
        let before = first_of site from.0 line in
        rest_first (Spells g) g all from.0 image given.sound key identity (rest from.0 from.1) line one_of (taken from.0 from.1) blocks count claim before.0 (format from.0 from.1) before.1 from.2;
    takes = λ m leaves other may image is d of_rest.
        let from = leaves image is in
        let before = first_of site from.0 line in
        first_taken (Spells g) g given.sound key identity line from.0 image blocks count claim before.0 (format from.0 from.1) before.1 from.2 other d of_rest.1 (may from.0 from.1 d of_rest);
  }

  -- a later one
  pub later_rest : (line : SliceLine) (k : ℕ) (u : Tale) → put.FormatAt g key identity lines count blocks claim line k u → IsBehind (Spells g) site u line k (put.first_on g key identity lines count blocks line) → Rests u → Takes line u → IsResting line k u
  later_rest line k u format behind rest taken = record {
    rests = λ m leaves image is.
        let from = leaves image is in
        rest_later (Spells g) g all from.0 image given.sound key identity (rest from.0 from.1) line one_of (taken from.0 from.1) k claim (put.first_on g key identity lines count blocks line) behind.later (format from.0 from.1) (behind.has from.0 from.1) from.2;
    takes = λ m leaves other may image is d of_rest.
        let from = leaves image is in
        later_taken (Spells g) g given.sound key identity line from.0 image k claim (put.first_on g key identity lines count blocks line) behind.later (format from.0 from.1) (behind.has from.0 from.1) from.2 other d of_rest.1 (may from.0 from.1 d of_rest);
  }

  -- where these places were formatted
  pub record IsRestedTo (t : Tale) (Done Blank : OfPlaces) (part due : List Spot) (u : Tale) : Type 0 where
    pub put : ArePut g key identity lines count blocks claim t Done Blank u
    pub rest : Rests u
    pub taken : (line : SliceLine) → Contains lines line → Takes line u

  module _ (t : Tale) (Done Blank : OfPlaces) (part due : List Spot) (u : Tale) (line : SliceLine) (k : ℕ) (next : IsNext lines count Done Blank line k) (s : IsRestedTo t Done Blank part (spot_on line blocks k ∷ due) u) where
    format : put.FormatAt g key identity lines count blocks claim line k u
    format = format_here g key identity lines count blocks claim given t Done Blank u line k next s.put

    step_of : (k ≡ 0) ⊎ ((j : ℕ) × (k ≡ j + 1) × Done line j) → IsResting line k u
    step_of (inl none) = subst (λ (i : ℕ). IsResting line i u) (sym none) (first_rest line u (subst (λ (i : ℕ). put.FormatAt g key identity lines count blocks claim line i u) none format) s.rest (s.taken line next.among))
    step_of (inr (j, is, done)) = later_rest line k u format (behind_here g key identity lines count blocks claim given t Done Blank u line k next s.put j is done) s.rest (s.taken line next.among)

    step : (m : Tale) → IsDoing (form_on key identity claim line count blocks k) u m → Rests m × ((other : SliceLine) → Takes other u → Takes other m)
    step m formatting =
        let one = step_of next.front in
        let leaves = leaves_formatting (at line k) (master line k) claim u m formatting in
        (one.rests m leaves, one.takes m leaves)

  -- So it goes on with each place.
  pub rest_steps : (t : Tale) → GoesOn key identity lines count blocks claim (IsRestedTo t) Rests
  rest_steps t = record {
    recast = λ Done Blank Other Less part due u those s. record { put = put_recast g key identity lines count blocks claim t Done Blank Other Less u those s.put; rest = s.rest; taken = s.taken };
    here = λ Done Blank part due u s. s.rest;
    forming = λ Done Blank part due u line k next s m doing. (step t Done Blank part due u line k next s m doing).0;
    formed = λ Done Blank Next Less part due u line k next now s v done.
        let one = step t Done Blank part due u line k next s v done.0 in
        record {
          put = one_put g key identity lines count blocks claim given t Done Blank u line k next s.put Next Less now v done;
          rest = one.0;
          taken = λ other among. one.1 other (s.taken other among);
        };
  }
