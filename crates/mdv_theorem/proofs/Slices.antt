-- On which slices the places of a list lie, each slice told once for each place, and what lines may make of that.
use Rattle.std.proofs.Common.{◌≡◌, inl, inr, ℕ, zero, suc, ◌+◌, Bool, true, false, not, if◌then◌else◌, List, [], ◌∷◌, ◌++◌, map, replicate, Option, None, Some, refl, ◌∙◌, ap, subst}
use Rattle.std.specs.List.{filter, flat_map, list_any}
use Rattle.std.proofs.lemmas.List.{map-append}
use Rattle.mdv_base.specs.declared.drive.SliceName.{SliceName}
use Rattle.mdv_base.specs.declared.place.Place.{Place}
use Rattle.mdv_name.specs.SliceIndex.{same_slice}
use Rattle.mdv_store_law.specs.Changes.{AddPlaces, DropPlaces, is_on, list_after, list_less, places_from, places_on}
use Rattle.mdv_words.specs.declared.command.Command.{Command}
use Rattle.mdv_words.specs.declared.command.Command.TheVariants as command
use Rattle.mdv_theorem.specs.Exchanges.{Asks, Exchange, MayHaveBegun}
use Rattle.mdv_theorem.specs.Words.{MakesOf, MayBecome, MayMake, TellsPlaces, slices_there, spread}
use Rattle.mdv_engine_law.specs.Hosts.{line_at, lines_asked}
use Rattle.mdv_places.specs.Asked.{names_of}
use Rattle.mdv_home.specs.View.{own_view}
use Rattle.mdv_name.specs.SliceIndex.{slice_at}
use Rattle.mdv_name.specs.declared.geometry.Geometry.{Geometry}
use Rattle.mdv_name.specs.declared.slice_lines.SliceAt.{SliceAt}
use Rattle.mdv_run_law.specs.Lives.{host_of}
use Rattle.std.specs.Prelude.{is_some}

-- where they lie
abbrev pub slices_of : List Place → List SliceName
slices_of = map (λ (p : Place). p.slice)

from_spread : (slice : SliceName) (blocks k n : ℕ) → slices_of (places_from slice blocks k n) ≡ replicate n slice
from_spread slice blocks k zero = refl
from_spread slice blocks k (suc n) = ap (λ (l : List SliceName). slice ∷ l) (from_spread slice blocks (k + 1) n)

-- so many places on each of these slices
pub spread_of : (count blocks : ℕ) (slices : List SliceName) → slices_of (flat_map (places_on count blocks) slices) ≡ spread count slices
spread_of count blocks [] = refl
spread_of count blocks (slice ∷ slices) =
    map-append (λ (p : Place). p.slice) (places_on count blocks slice) (flat_map (places_on count blocks) slices)
    ∙ (λ i. from_spread slice blocks 0 count i ++ spread_of count blocks slices i)

-- as many more behind others
pub slices_more : (count blocks : ℕ) (slices : List SliceName) (places : List Place) → slices_of (list_after (AddPlaces slices count blocks) places) ≡ slices_of places ++ spread count slices
slices_more count blocks slices places =
    map-append (λ (p : Place). p.slice) places (flat_map (places_on count blocks) slices) ∙ ap (λ (l : List SliceName). slices_of places ++ l) (spread_of count blocks slices)

-- and none on some
pub slices_less : (slices : List SliceName) (places : List Place) → slices_of (list_less slices places) ≡ filter (λ (slice : SliceName). not (list_any (same_slice slice) slices)) (slices_of places)
slices_less slices [] = refl
slices_less slices (p ∷ places) = by (not (is_on slices p)) (slices_less slices places) where
  by : (b : Bool) → slices_of (list_less slices places) ≡ filter (λ (slice : SliceName). not (list_any (same_slice slice) slices)) (slices_of places)
      → slices_of (if b then p ∷ list_less slices places else list_less slices places) ≡ (if b then p.slice ∷ filter (λ (slice : SliceName). not (list_any (same_slice slice) slices)) (slices_of places) else filter (λ (slice : SliceName). not (list_any (same_slice slice) slices)) (slices_of places))
  by true rest = ap (λ (l : List SliceName). p.slice ∷ l) rest
  by false rest = rest

module _ (drives : Geometry) (name : List ℕ) where
  -- a line that wasn't told to have moved places may have left them
  pub left_there : (one : Exchange) (slices : List SliceName) → (TellsPlaces one → ⊥) → MayMake drives name one slices slices
  left_there one slices untold = inl (refl, untold)

  -- and what it asks it may have made of them
  pub made_of : (one : Exchange) (cmd : Command) (old next : List SliceName) → Asks one cmd → MakesOf drives name cmd old next → MayHaveBegun one → MayMake drives name one old next
  made_of one cmd old next asks makes begun = inr (cmd, asks, makes, begun)

  pub become_more : (a b : List Exchange) (old mid last : List SliceName) → MayBecome drives name a old mid → MayBecome drives name b mid last → MayBecome drives name (a ++ b) old last
  become_more [] b old mid last is more = subst (λ (l : List SliceName). MayBecome drives name b l last) is more
  become_more (one ∷ a) b old mid last (next, may, rest) more = (next, may, become_more a b next mid last rest more)

  pub become_one : (a : List Exchange) (one : Exchange) (old mid last : List SliceName) → MayBecome drives name a old mid → MayMake drives name one mid last → MayBecome drives name (a ++ one ∷ []) old last
  become_one a one old mid last is may = become_more a (one ∷ []) old mid last is (last, may, refl)

  -- the slices that the host has of those that a line asks
  pub names_there : (slices : List SliceName) → names_of (lines_asked (host_of drives name 0) slices) ≡ slices_there drives name slices
  names_there [] = refl
  names_there (slice ∷ slices) = by (slice_at (own_view drives name).slices slice) (names_there slices) where
    by : (o : Option SliceAt) → names_of (lines_asked (host_of drives name 0) slices) ≡ slices_there drives name slices
        → names_of (line_at slice o ++ lines_asked (host_of drives name 0) slices) ≡ (if is_some o then slice ∷ slices_there drives name slices else slices_there drives name slices)
    by None rest = rest
    by (Some at) rest = ap (λ (l : List SliceName). slice ∷ l) rest

module _ (drives : Geometry) (name : List ℕ) where
  -- What a line makes of a list of places that changes it, where it adds places or drops some.
  pub more_made : (one : Exchange) (slices : List SliceName) (force : Bool) (count blocks : ℕ) (places : List Place) → Asks one (command.AddPlaces slices force count blocks) → MayHaveBegun one
      → MayMake drives name one (slices_of places) (slices_of (list_after (AddPlaces (names_of (lines_asked (host_of drives name 0) slices)) count blocks) places))
  more_made one slices force count blocks places asks begun =
      let there = names_there drives name slices in
      made_of drives name one (command.AddPlaces slices force count blocks) (slices_of places) _ asks
      (slices_more count blocks (names_of (lines_asked (host_of drives name 0) slices)) places ∙ ap (λ (l : List SliceName). slices_of places ++ spread count l) there) begun

  pub less_made : (one : Exchange) (slices : List SliceName) (force : Bool) (places : List Place) → Asks one (command.DropPlaces slices force) → MayHaveBegun one
      → MayMake drives name one (slices_of places) (slices_of (list_after (DropPlaces slices) places))
  less_made one slices force places asks begun = made_of drives name one (command.DropPlaces slices force) (slices_of places) _ asks (slices_less slices places) begun
